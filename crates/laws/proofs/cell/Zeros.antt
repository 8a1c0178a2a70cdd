-- "-0.0 and 0.0 are one time": of two finite doubles with one key every question gives the same. Assumes nothing.
use mathlib.Core.Path.{◌≡◌, sym, ap}
use native.Mathlib.Nat.{le_of_eq}
use lib.Dec.{T}
use lib.Ieee.{Float, eq}
use Rattle.gf.specs.Doubles.{key}
use Rattle.gf.proofs.KeyLaws.{key→le, finite-no-nan, le-both}
use Rattle.definitions.specs.Doubles.{FiniteDouble}
use Rattle.definitions.specs.ClipSet.{ClipSet, stage}
use Rattle.definitions.specs.Timing.{active_position, active_entry, active_clip, map_time}
use Rattle.definitions.specs.Samples.{Samples}
use Rattle.definitions.specs.declared.Source.{Source}
use Rattle.definitions.specs.Value.{direct_source, says, value_source, value_in_set}
use Rattle.laws.proofs.cell.Knots.{Alike, map-fits, map-alike}
use Rattle.laws.proofs.cell.Direct.{SoundSet, SoundSamples, position-alike, direct-alike}
use Rattle.laws.proofs.cell.Stretches.{value-alike}

pub alike-key : (x y : Float) → FiniteDouble x → FiniteDouble y → key x ≡ key y → Alike x y
alike-key x y f g e =
    let n = finite-no-nan x f.finitely in
    let m = finite-no-nan y g.finitely in
    (key→le x y f.fitting g.fitting n m (le_of_eq e), key→le y x g.fitting f.fitting m n (le_of_eq (sym e)))

module _ (set : ClipSet) (s : Samples) (S : SoundSet set) (A : SoundSamples s) (x y : Float) (f : FiniteDouble x) (g : FiniteDouble y) (e : key x ≡ key y) where
  pub zero-position : active_position set.active (stage x) ≡ active_position set.active (stage y)
  zero-position = position-alike set s S A x y f.fitting g.fitting (alike-key x y f g e)

  pub zero-clip : active_clip set (stage x) ≡ active_clip set (stage y)
  unfolding active_clip active_entry
  zero-clip = rw zero-position

  pub zero-time : T (eq (map_time set.knots x) (map_time set.knots y))
  zero-time =
      let a = map-alike set.knots S.knots x y f.fitting g.fitting (alike-key x y f g e) in
      le-both (map_time set.knots x) (map_time set.knots y) (map-fits set.knots S.knots x f.fitting) (map-fits set.knots S.knots y g.fitting) a.0 a.1

  pub zero-direct : direct_source set s (stage x) ≡ direct_source set s (stage y)
  zero-direct = direct-alike set s S A x y f.fitting g.fitting (alike-key x y f g e)

  pub zero-source : value_source set s (stage x) ≡ value_source set s (stage y)
  zero-source = value-alike set s S A x y f.fitting g.fitting (alike-key x y f g e)

  pub zero-value : value_in_set set s (stage x) ≡ value_in_set set s (stage y)
  unfolding value_in_set
  zero-value = ap (λ (r : Source). says set s r) zero-source
