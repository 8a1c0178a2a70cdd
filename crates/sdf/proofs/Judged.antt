-- What the check of lent samples promises, and what its 0 gives. Assumes nothing.
use mathlib.Core.Path.{◌≡◌, sym, ◌∙◌}
use mathlib.Core.List.{List}
use Prim.Native.Nat.{ℕ}
use lib.Ieee.{Float}
use Rattle.definitions.specs.ClipSet.{ClipSet}
use Rattle.laws.specs.set.Accepted.{Accepted}
use Rattle.laws.proofs.set.Accepted.{accepted}
use Rattle.laws.specs.cell.Lent.{samples_of}
use Rattle.sdf.specs.Judged.{Judged}

pub judged-accepted : {clips : ℕ} {times values : List Float} {marks ends : List ℕ} {r : ℕ} → Judged clips times values marks ends r → r ≡ 0
    → (set : ClipSet) → set.clips ≡ clips → Accepted set (samples_of times values marks ends)
judged-accepted {times = times} {values = values} {marks = marks} {ends = ends} j z set e = accepted set (samples_of times values marks ends) j.times-fit (sym (j.number set e) ∙ z)
