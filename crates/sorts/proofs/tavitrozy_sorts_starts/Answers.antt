-- `sorts::tavitrozy_sorts_starts` meets its contract: each list is read off the starts, whose order is `sort_starts`'s promise. Assumes nothing.
use mathlib.Core.Path.{◌≡◌, refl, sym, ap, ◌∙◌}
use Prim.Native.Nat.{◌≤◌}
use lib.ListN.{length}
use Rattle.definitions.specs.declared.Start.{Start}
use Rattle.definitions.specs.ClipSet.{active_times}
use Rattle.laws.specs.cell.Lent.{start}
use Rattle.laws.proofs.cell.Lent.{active-times}
use Rattle.sorts.specs.Sortable.{active_clips}
use Rattle.sorts.proofs.Sorted.{passes, seconds}
use Rattle.sorts.proofs.tavitrozy_sorts_starts.Goals.{Then-sortable}
use Rattle.sorts.proofs.tavitrozy_sorts_starts.Goals as goal

passed : (c : Then-sortable) → (length c.args.times.now ≡ length c.args.clips.now) × (length c.args.times.now ≤ 512)
passed c = passes _ _ (sym c.sortable.ensures ∙ c.if-sortable.true)

pub sort_starts-requires : goal.sort_starts-requires
sort_starts-requires c = passed (goal.at.sort_starts-requires c).Then-sortable

pub returns-then-sortable : goal.returns-then-sortable
returns-then-sortable c =
    let s = c in
    let t = s in
    let paired = s.sort_starts.auto.times ∙ (passed (goal.at.returns-then-sortable t).Then-sortable).0 ∙ sym s.sort_starts.auto.clips in record { value = sym t.if-sortable.true ∙ t.sortable.ensures; times_value = sym (active-times _ _ paired) ∙ ap active_times s.sort_starts.ensures; clips_value = sym (seconds start (λ (a : Start). a.clip) (λ x y. refl) s.sort_starts.new.times _ paired) ∙ ap active_clips s.sort_starts.ensures }

pub returns : goal.returns
returns c = record { value = sym c.if-sortable.false ∙ c.sortable.ensures; times_value = refl; clips_value = refl }
