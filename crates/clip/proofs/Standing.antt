-- A sound set has none of the numbers by which its lists could refuse it. Assumes nothing.
use Prim.Native.Nat.{ℕ, ◌<◌}
use mathlib.Core.Path.{◌≡◌, refl}
use mathlib.Core.Bool.{false}
use mathlib.Core.List.{List, [], ◌∷◌}
use native.Mathlib.Omega.{arith}
use lib.Dec.{T}
use lib.Ieee.{Float, eq}
use borrow.Author.Tests.{le-ltb}
use Rattle.gf.specs.Doubles.{key, storable}
use Rattle.gf.proofs.KeyLaws.{lt→key, eq→key}
use Rattle.definitions.specs.Lists.{any, pairs_from}
use Rattle.definitions.specs.Doubles.{two_equal}
use Rattle.definitions.specs.ClipSet as Definitions
use Rattle.definitions.specs.ClipSet.{mark_none, active_times, knot_times, any_unstorable, beyond_limits, equal_starts, bad_default_mark}
use Rattle.laws.proofs.list.Tests.{is_false}
use Rattle.laws.specs.list.Every.{Every, Chain, ChainFrom}
use Rattle.laws.proofs.list.Every.{every_map}
use Rattle.laws.specs.set.Stored.{Stored, Lt}
use Rattle.laws.proofs.set.Stored.{stored-number}
use Rattle.laws.specs.set.Sound.{Sound}
use Rattle.clip.specs.Storing.{settle_number}
use Rattle.clip.proofs.Laws.{every-storable}

pub stored-passes : (xs : List Float) → Every Stored xs → any_unstorable xs ≡ false
stored-passes xs e = every-storable xs (every_map Stored (λ (x : Float). T (storable x)) (λ x s. s.inside) xs e)

apart : (x y : Float) → Stored x → Stored y → Lt x y → eq x y ≡ false
apart x y p q l =
    let nx = stored-number x p in
    let ny = stored-number y q in
    is_false (eq x y) (λ e. never (key x) (key y) (lt→key x y p.fitting q.fitting nx ny l) (eq→key x y p.fitting q.fitting nx ny e))
  where
    never : (a b : ℕ) → a < b → a ≡ b → ⊥
    never a b h e = omega arith

strictly-apart : (x : Float) (xs : List Float) → Stored x → Every Stored xs → ChainFrom Lt x xs → any (λ (p : Float × Float). eq p.0 p.1) (pairs_from x xs) ≡ false
strictly-apart x [] p e c = refl
strictly-apart x (y ∷ ys) p e c = rw (apart x y p e.0 c.0) (strictly-apart y ys e.0 e.1 c.1)

no-equals : (xs : List Float) → Every Stored xs → Chain Lt xs → two_equal xs ≡ false
no-equals [] e c = refl
no-equals (x ∷ xs) e c = strictly-apart x xs e.0 e.1 c

pub sound-mark : (set : Definitions.ClipSet) → Sound set → bad_default_mark set.default ≡ false
unfolding bad_default_mark
sound-mark set s = le-ltb mark_none set.default.mark s.default.mark

within : (set : Definitions.ClipSet) → Sound set → beyond_limits set ≡ false
unfolding beyond_limits
within set s = rw (stored-passes (active_times set.active) s.times, stored-passes (knot_times set.knots) s.xs, stored-passes set.blocks s.blocks)

unequal : (set : Definitions.ClipSet) → Sound set → equal_starts set ≡ false
unfolding equal_starts
unequal set s = no-equals (active_times set.active) s.times s.strictly

pub sound-settles : (set : Definitions.ClipSet) → Sound set → settle_number set ≡ 0
unfolding settle_number
sound-settles set s = rw (within set s, unequal set s, s.no-three, sound-mark set s)
