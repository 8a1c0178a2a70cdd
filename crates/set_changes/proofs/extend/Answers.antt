-- `set_changes::extend` meets its contract: the two halves of the writing. Assumes nothing.
use Prim.Native.Nat.{ℕ, ◌≤◌, ◌<◌}
use mathlib.Core.Path.{refl, sym, subst}
use lib.ListN.{length, get_or}
use Rattle.laws.specs.list.Every.{Every}
use Rattle.dispatch.specs.SetOrder.{max_name}
use Rattle.dispatch.specs.NamedSets.{max_sets}
use Rattle.set_names.specs.Pages.{names_in}
use Rattle.set_names.proofs.NameOrder.{by_name-below}
use Rattle.pages.specs.Pages.{Pages, pages}
use Rattle.set_changes.proofs.NameTaken.{room}
use Rattle.set_changes.proofs.Extended.{extends-written}
use Rattle.set_changes.proofs.extend.Goals.{Start as At-start}
use Rattle.set_changes.proofs.extend.Goals as goal

abbrev lent : At-start → Pages
lent s = let a = s.args in pages a.starts.now a.numbers.now a.xs.now a.ys.now a.blocks.now a.defaults.now a.counts.now a.bytes.now

within : (s : At-start) → (get_or s.args.counts.now 0 0 < max_sets) × (length s.args.name.now ≤ max_name)
within s = room s.args.counts.now s.args.bytes.now s.args.name.now s.requires.fact_3

pub put_set-shape-requires : goal.put_set-shape-requires
put_set-shape-requires c =
    let s = c in
    let l = s.requires.fact_1.long in
    record { fact_1 = record { of-starts = l.of-starts; of-numbers = l.of-numbers; of-xs = l.of-xs; of-ys = l.of-ys; of_blocks = l.of_blocks }; fact_2 = (within (goal.at.put_set-shape-requires s).Start).0; fact_3 = s.requires.fact_2 }

pub enter-requires : goal.enter-requires
enter-requires c =
    let s = c in
    record {
      sizes = s.requires.fact_1.long.sizes;
      few = (within (goal.at.enter-requires s).Start).0;
      short = (within (goal.at.enter-requires s).Start).1;
      paged = s.requires.fact_1.names.paged;
      below = subst (Every (λ (j : ℕ). j < get_or s.args.counts.now 0 0)) (sym s.requires.fact_1.sorted) (by_name-below (names_in s.args.bytes.now (get_or s.args.counts.now 0 0)) (get_or s.args.counts.now 0 0));
    }

pub returns : goal.returns
returns c =
    let s = c in
    let k = c.put_set-shape in
    let e = c.enter in
    extends-written (lent (goal.at.returns s).Start) s.requires.fact_1 (get_or s.args.counts.now 0 0) refl (within (goal.at.returns s).Start).0 s.args.name.now (within (goal.at.returns s).Start).1 s.args.declares s.args.set k.result
    k.new.starts k.new.numbers k.new.xs k.new.ys k.new.blocks e.new.defaults e.new.counts e.new.bytes k.ensures e.ensures
