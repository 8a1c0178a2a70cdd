-- The end of every way to a set: the lists' number is the set's, and the packed lists are the set. Assumes nothing.
use Prim.Native.Nat.{ℕ}
use mathlib.Core.Path.{◌≡◌}
use mathlib.Core.List.{List}
use lib.Ieee.{Float}
use Rattle.definitions.specs.declared.Missing.{Missing}
use Rattle.definitions.specs.ClipSet.{max_active, max_knots, max_blocks, sort_active, sort_knots, beyond_limits, equal_starts, equal_knots}
use Rattle.definitions.specs.Retime.{sorted}
use Rattle.laws.specs.cell.Lent.{active_of, knots_of, set_of}
use Rattle.laws.proofs.cell.Lent.{active-times, knot-times}
use Rattle.clip.specs.declared.storage.Active.{Active}
use Rattle.clip.specs.declared.storage.Knots.{Knots}
use Rattle.clip.specs.declared.storage.Blocks.{Blocks}
use Rattle.clip.specs.Holding.{Holds, IsHeld}
use Rattle.clip.specs.Storing.{Fitting, settle_number, lists_number}

module _ (clips : ℕ) (times : List Float) (numbers : List ℕ) (xs ys blocks : List Float) (m : Missing) where
  pub lists-number-is : Fitting times numbers xs ys blocks → lists_number times xs blocks m.default ≡ settle_number (set_of clips times numbers xs ys blocks m)
  unfolding set_of settle_number lists_number beyond_limits equal_starts equal_knots
  lists-number-is f = rw (active-times times numbers f.starts, knot-times xs ys f.knots)

  pub packed-is : (a : Active) (k : Knots) (b : Blocks) → Holds max_active a.items a.count (active_of times numbers) → Holds max_knots k.items k.count (knots_of xs ys)
      → Holds max_blocks b.items b.count blocks
      → IsHeld (set_of clips times numbers xs ys blocks m) (record { clips = clips; active = a; knots = k; blocks = b; default = m.default; interpolate = m.interpolate })
  unfolding set_of
  packed-is a k b p q r = record {
    is = rw (p.list, q.list, r.list);
    held = record { active = p.room; knots = q.room; blocks = r.room };
  }

-- a set of lists that were sorted
pub sorted-is : (clips : ℕ) (times us : List Float) (numbers vs : List ℕ) (xs ys ps qs blocks : List Float) (m : Missing)
    → active_of us vs ≡ sort_active (active_of times numbers) → knots_of ps qs ≡ sort_knots (knots_of xs ys)
    → set_of clips us vs ps qs blocks m ≡ sorted (set_of clips times numbers xs ys blocks m)
unfolding set_of sorted
sorted-is clips times us numbers vs xs ys ps qs blocks m e f = rw (e, f)
