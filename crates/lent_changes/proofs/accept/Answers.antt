-- `lent_changes::accept` meets its contract: the examined set is installed, unless its number refuses it. Assumes nothing.
use mathlib.Core.Path.{subst}
use Rattle.std.specs.Prelude.{Result, Ok}
use Rattle.definitions.specs.declared.refusal.Refusal.{Refusal}
use Rattle.definitions.specs.Examining.{explicitly}
use Rattle.definitions.specs.Explicit.{ExplicitFields}
use Rattle.clip.specs.Holding.{manifest}
use Rattle.clip.specs.declared.ClipSet.{ClipSet}
use Rattle.clip.specs.Preparing.{Examines}
use Rattle.explicit.specs.Parsing.{explicit_fields}
use Rattle.resolver.specs.declared.Resolver.{Resolver}
use Rattle.resolver.specs.State.{lent_state}
use Rattle.resolver.proofs.Laws.{accepts, accepts-not}
use Rattle.lent_changes.proofs.accept.Goals.{In-Ok, Start as At-start}
use Rattle.lent_changes.proofs.accept.Goals as goal

abbrev state : At-start → Resolver
state s = let a = s.args in lent_state a.shape a.starts.now a.numbers.now a.xs.now a.ys.now a.blocks.now

abbrev fields : At-start → ExplicitFields
fields s = let a = s.args in explicit_fields a.clips a.newstarts.now a.newnumbers.now a.newxs.now a.newys.now a.newblocks.now (manifest a.default a.interpolate)

-- what the examining replied, in the arm where it made a set
examined : (c : In-Ok) → Examines (explicitly (fields (goal.at.In-Ok c).Start)) (Ok c.in-Ok.set)
examined c = subst (λ (r : Result ClipSet Refusal). Examines (explicitly (fields (goal.at.In-Ok c).Start)) r) c.in-Ok.is c.parse_set-prepared.ensures

pub install-requires : goal.install-requires
install-requires c = record { made = c.requires; made_set = (examined (goal.at.install-requires c).In-Ok).made }

pub returns-in-Ok : goal.returns-in-Ok
returns-in-Ok c =
    let s = (goal.at.returns-in-Ok c).Start in
    accepts (state s) (fields s) _ _ (examined (goal.at.returns-in-Ok c).In-Ok) c.install.ensures

pub returns-in-Err : goal.returns-in-Err
returns-in-Err c =
    let s = (goal.at.returns-in-Err c).Start in
    accepts-not (state s) (fields s) _ c.requires (subst (λ (r : Result ClipSet Refusal). Examines (explicitly (fields s)) r) c.in-Err.is c.parse_set-prepared.ensures)
