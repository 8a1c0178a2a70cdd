-- `sdf::scans::unlike_lengths` meets its contract. Assumes nothing.
use native.Mathlib.Omega.{arith}
use Rattle.std.proofs.lemmas.Bool.Decides.{nat_tests}
use Rattle.definitions.specs.Samples.{unlike_lengths}
use Rattle.sdf.proofs.scans.unlike_lengths.Goals as goal

pub returns-then-values-count : goal.returns-then-values-count
unfolding unlike_lengths
returns-then-values-count c = grind (arith, nat_tests)

pub returns-else-values-count : goal.returns-else-values-count
unfolding unlike_lengths
returns-else-values-count c = grind (arith, nat_tests)
