-- What every standing set is: the limits and the orders, as facts. Each acceptance gives it, and a retiming keeps it (the modules below). Assumes nothing.
use mathlib.Core.Path.{◌≡◌}
use Prim.Native.Nat.{◌≤◌}
use mathlib.Core.Bool.{false}
use mathlib.Core.List.{List}
use lib.ListN.{length}
use lib.Ieee.{Float}
use borrow.Author.Tests.{ltb-false}
use Rattle.definitions.specs.declared.Knot.{Knot}
use Rattle.gf.specs.Doubles.{total_key}
use Rattle.definitions.specs.declared.Start.{Start}
use Rattle.definitions.specs.declared.Default.{Default}
use Rattle.definitions.specs.ClipSet.{ClipSet, mark_none, active_times, knot_times, sort_active, sort_knots, any_unstorable, nan_default, beyond_limits, equal_starts, bad_default_mark}
use Rattle.laws.proofs.list.Tests.{or-false}
use Rattle.laws.specs.list.Every.{Every, Chain}
use Rattle.laws.proofs.list.Every.{every-of-map, every-to-map, chain-map, chain-to-map}
use Rattle.laws.specs.list.Places.{Fits, Le, Ascending}
use Rattle.laws.proofs.list.Sorting.{length-sort, every-sort, sort_sorted}
use Rattle.laws.specs.set.Stored.{Stored, Lt}
use Rattle.laws.proofs.set.Stored.{all-stored, total→le, stored-ascending, strict-weak, apart-strict}
use Rattle.laws.specs.set.Sound.{knot_values, SoundDefault, Sound}

-- for the searches
pub sound-active : (set : ClipSet) → Sound set → Ascending (active_times set.active)
sound-active set s = stored-ascending (active_times set.active) s.times (strict-weak (active_times set.active) s.times s.strictly)

pub sound-knots : (set : ClipSet) → Sound set → Ascending (knot_times set.knots)
sound-knots set s = stored-ascending (knot_times set.knots) s.xs s.weakly

-- ---- sorting by `total_cmp` keeps what holds of every entry, and puts stored times in order

module _ (P : Float → Type 0) where
  pub sorted-times : (active : List Start) → Every P (active_times active) → Every P (active_times (sort_active active))
  sorted-times active e =
      every-to-map (λ (a : Start). a.time) P (sort_active active)
      (every-sort (λ (a : Start). total_key a.time) (λ (a : Start). P a.time) active (every-of-map (λ (a : Start). a.time) P active e))

  pub sorted-xs : (knots : List Knot) → Every P (knot_times knots) → Every P (knot_times (sort_knots knots))
  sorted-xs knots e =
      every-to-map (λ (k : Knot). k.x) P (sort_knots knots)
      (every-sort (λ (k : Knot). total_key k.x) (λ (k : Knot). P k.x) knots (every-of-map (λ (k : Knot). k.x) P knots e))

  pub sorted-ys : (knots : List Knot) → Every P (knot_values knots) → Every P (knot_values (sort_knots knots))
  sorted-ys knots e =
      every-to-map (λ (k : Knot). k.y) P (sort_knots knots)
      (every-sort (λ (k : Knot). total_key k.x) (λ (k : Knot). P k.y) knots (every-of-map (λ (k : Knot). k.y) P knots e))

abbrev Total : Float → Float → Type 0
Total x y = total_key x ≤ total_key y

pub sorted-active : (active : List Start) → Every Stored (active_times (sort_active active)) → Chain Le (active_times (sort_active active))
sorted-active active s =
    chain-map Stored Total Le total→le (active_times (sort_active active)) s
    (chain-to-map (λ (a : Start). a.time) Total (sort_active active) (sort_sorted (λ (a : Start). total_key a.time) active))

pub sorted-knots : (knots : List Knot) → Every Stored (knot_times (sort_knots knots)) → Chain Le (knot_times (sort_knots knots))
sorted-knots knots s =
    chain-map Stored Total Le total→le (knot_times (sort_knots knots)) s
    (chain-to-map (λ (k : Knot). k.x) Total (sort_knots knots) (sort_sorted (λ (k : Knot). total_key k.x) knots))

pub length-active : (active : List Start) → length (sort_active active) ≡ length active
length-active active = length-sort (λ (a : Start). total_key a.time) active

pub length-knots : (knots : List Knot) → length (sort_knots knots) ≡ length knots
length-knots knots = length-sort (λ (k : Knot). total_key k.x) knots

-- ---- the tests that acceptances share

pub strict-starts : (set : ClipSet) → Every Stored (active_times set.active) → Chain Le (active_times set.active) → equal_starts set ≡ false → Chain Lt (active_times set.active)
unfolding equal_starts
strict-starts set s c e = apart-strict (active_times set.active) s c e

pub record InLimits (set : ClipSet) : Type 0 where
  pub times : Every Stored (active_times set.active)
  pub xs : Every Stored (knot_times set.knots)
  pub blocks : Every Stored set.blocks

pub in-limits : (set : ClipSet) → Every Fits (active_times set.active) → Every Fits (knot_times set.knots) → Every Fits set.blocks → beyond_limits set ≡ false → InLimits set
unfolding beyond_limits
in-limits set t x b e =
    let h = or-false _ (any_unstorable set.blocks) e in
    let g = or-false (any_unstorable (active_times set.active)) (any_unstorable (knot_times set.knots)) h.0 in
    record {
      times = all-stored (active_times set.active) t g.0;
      xs = all-stored (knot_times set.knots) x g.1;
      blocks = all-stored set.blocks b h.1;
    }

pub sound-default : (d : Default) → bad_default_mark d ≡ false → nan_default d ≡ false → Fits d.value → SoundDefault d
unfolding bad_default_mark
sound-default d e n p = record { mark = ltb-false mark_none d.mark e; number = n; fitting = p }
