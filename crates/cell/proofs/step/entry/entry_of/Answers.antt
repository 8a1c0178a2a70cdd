-- `entry::entry_of` meets its contract. Assumes nothing.
use mathlib.Core.Path.{sym, ap, ◌∙◌}
use lib.Ieee.{Float, of_bits, eq}
use Rattle.definitions.specs.Track.{written_entry}
use Rattle.cell.proofs.step.entry.entry_of.Goals as goal

pub returns-in-Value : goal.returns-in-Value
unfolding written_entry
returns-in-Value c = ap (λ (x : Float). record { value = x; mark = 0 }) c.zero_as_plus.ensures ∙ sym (ap written_entry c.in-Value.is)

pub returns-in-Blocked : goal.returns-in-Blocked
unfolding written_entry of_bits eq
returns-in-Blocked c = sym (ap written_entry c.in-Blocked.is)

pub returns-in-Absent : goal.returns-in-Absent
unfolding written_entry of_bits eq
returns-in-Absent c = sym (ap written_entry c.in-Absent.is)
