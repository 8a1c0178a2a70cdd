-- `sorts::tavitrozy_sorts_knots` meets its contract: each list is read off the knots, whose order is `sort_knots`'s promise. Assumes nothing.
use mathlib.Core.Path.{◌≡◌, refl, sym, ap, ◌∙◌}
use Prim.Native.Nat.{◌≤◌}
use lib.ListN.{length}
use Rattle.definitions.specs.declared.Knot.{Knot}
use Rattle.definitions.specs.ClipSet.{knot_times}
use Rattle.definitions.specs.Explicit.{knot}
use Rattle.laws.proofs.cell.Lent.{knot-times}
use Rattle.laws.specs.set.Sound.{knot_values}
use Rattle.sorts.proofs.Sorted.{passes, seconds}
use Rattle.sorts.proofs.tavitrozy_sorts_knots.Goals.{Then-sortable}
use Rattle.sorts.proofs.tavitrozy_sorts_knots.Goals as goal

passed : (c : Then-sortable) → (length c.args.xs.now ≡ length c.args.ys.now) × (length c.args.xs.now ≤ 512)
passed c = passes _ _ (sym c.sortable.ensures ∙ c.if-sortable.true)

pub sort_knots-requires : goal.sort_knots-requires
sort_knots-requires c = passed (goal.at.sort_knots-requires c).Then-sortable

pub returns-then-sortable : goal.returns-then-sortable
returns-then-sortable c =
    let s = c in
    let t = s in
    let paired = s.sort_knots.auto.xs ∙ (passed (goal.at.returns-then-sortable t).Then-sortable).0 ∙ sym s.sort_knots.auto.ys in record { value = sym t.if-sortable.true ∙ t.sortable.ensures; xs_value = sym (knot-times _ _ paired) ∙ ap knot_times s.sort_knots.ensures; ys_value = sym (seconds knot (λ (k : Knot). k.y) (λ x y. refl) s.sort_knots.new.xs _ paired) ∙ ap knot_values s.sort_knots.ensures }

pub returns : goal.returns
returns c = record { value = sym c.if-sortable.false ∙ c.sortable.ensures; xs_value = refl; ys_value = refl }
