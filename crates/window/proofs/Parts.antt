-- A clip's part of the lent times, what a reading asks of the lent lists, and what lists that are ready tell. Assumes nothing.
use mathlib.Core.Path.{◌≡◌, sym, ap, ◌∙◌, subst}
use mathlib.Core.List.{List}
use Prim.Native.Nat.{ℕ, ◌<◌}
use native.Mathlib.Omega.{arith}
use lib.ListN.{length, get_or}
use lib.Ieee.{Float, nan}
use Rattle.definitions.specs.declared.Missing.{Missing}
use Rattle.definitions.specs.declared.Start.{Start}
use Rattle.definitions.specs.ClipSet.{ClipSet, stage}
use Rattle.definitions.specs.Timing.{last_at_most, active_position}
use Rattle.definitions.specs.Samples.{Samples, clip_times}
use Rattle.laws.proofs.list.Every.{every-at, zip-at}
use Rattle.laws.specs.list.Places.{Ascending}
use Rattle.laws.proofs.set.Sound.{sound-active, sound-knots}
use Rattle.laws.proofs.set.Accepted.{clip-ascending}
use Rattle.laws.specs.cell.Lent.{start, active_of, knots_of, set_of, samples_of, AcceptedLists}
use Rattle.laws.proofs.cell.Lent.{zip_length, active-times, knot-times, sound-set}
use Rattle.window.proofs.SoundSegments.{segments}
use Rattle.window.specs.Parts.{Readable}

-- ---- of lists that are ready

module _ {starts : List Float} {clips : List ℕ} {xs ys blocks : List Float} {m : Missing} {times values : List Float} {marks ends : List ℕ} (R : AcceptedLists starts clips xs ys blocks m times values marks ends) where
  abbrev set : ClipSet
  set = set_of (length ends) starts clips xs ys blocks m

  abbrev s : Samples
  s = samples_of times values marks ends

  -- the start at the place i
  abbrev at : ℕ → Start
  at i = start (get_or starts i nan) (get_or clips i 0)

  pub ready-starts : Ascending starts
  unfolding set_of
  ready-starts = subst Ascending (active-times starts clips R.starts-paired) (sound-active set R.sound)

  pub ready-position : (t : Float) (p : ℕ) → p ≡ last_at_most starts t → active_position (active_of starts clips) (stage t) ≡ p
  unfolding active_position
  ready-position t p e = ap (λ (l : List Float). last_at_most l t) (active-times starts clips R.starts-paired) ∙ sym e

  pub ready-active : length (active_of starts clips) ≡ length starts
  ready-active = zip_length start starts clips R.starts-paired

  pub ready-start : (i : ℕ) (d : Start) → i < length starts → get_or (active_of starts clips) i d ≡ at i
  ready-start i d h = zip-at start starts clips i nan 0 d h (omega (arith, R.starts-paired))

  pub ready-clip : (i : ℕ) → i < length starts → get_or clips i 0 < length ends
  unfolding set_of
  ready-clip i h =
      subst (λ (a : Start). a.clip < length ends) (ready-start i (at i) h)
      (every-at (λ (a : Start). a.clip < length ends) (active_of starts clips) i (at i) R.sound.named (omega (arith, ready-active)))

  pub ready-readable : Readable xs ys times ends
  unfolding set_of clip_times
  ready-readable = record {
    knots = subst Ascending (knot-times xs ys R.knots-paired) (sound-knots set R.sound);
    paired = R.knots-paired;
    segments = segments (knots_of xs ys) (sound-set set R.sound).knots R.sound.weakly;
    from = R.accepted.from;
    inside = R.accepted.inside;
    rising = clip-ascending set s R.accepted;
  }
