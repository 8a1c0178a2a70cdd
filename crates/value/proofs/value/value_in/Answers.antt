-- `value::value::value_in` meets its contract, case by case as "Value" of docs/VALUE-CLIPS.md has them. Assumes nothing.
use mathlib.Core.Path.{refl}
use mathlib.Core.List.{[]}
use Rattle.window.proofs.search.LatestLaws.{no-latest}
use Rattle.value.proofs.value.value_in.Goals as goal

pub neighbours_in-found-requires : goal.neighbours_in-found-requires
neighbours_in-found-requires c = c.requires.nears [] (no-latest c.args.xs.now c.args.ys.now [] refl)
