-- `walk::offer` meets its contract. Assumes nothing.
use mathlib.Core.Path.{◌≡◌, sym, ◌∙◌}
use mathlib.Core.Bool.{false}
use native.Mathlib.Omega.{arith}
use Rattle.definitions.specs.Track.{Outputs, alike}
use Rattle.definitions.specs.Moments.{outputs}
use Rattle.cell.specs.step.Entries.{entry_is}
use Rattle.run.proofs.Walking.{offered-one}
use Rattle.run.proofs.walk.offer.Goals.{Else-alike, Start as At-start}
use Rattle.run.proofs.walk.offer.Goals as goal

abbrev outs : At-start → Outputs
outs a = outputs a.args.outtimes.now a.args.outvalues.now a.args.outmarks.now

-- there is a change
unlike : (c : Else-alike) → alike (entry_is c.args.here) (entry_is c.args.last) ≡ false
unlike c = sym c.alike.ensures ∙ c.if-alike.false

pub returns : goal.returns
returns c =
    let h = c.if-room-n.false in
    offered-one (entry_is c.args.last) (entry_is c.args.here) c.args.k c.args.room c.args.n (outs (goal.at.returns c).Start) (unlike (goal.at.returns c).Else-alike) (omega arith) c.requires.room c.of_key.result c.of_key.ensures
