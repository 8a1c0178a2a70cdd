-- The bytes that stand for the runs of `#`, from what the code works out of them. Assumes nothing.
use Rattle.std.specs.Prelude.{ℕ, zero, suc, Bool, true, false, List, [], ◌∷◌, ◌++◌}
use Rattle.definitions.specs.Names.{minus, dot, digits}
use Rattle.names.specs.declared.body.Body.{Body}

abbrev pub sign_of : Bool → List ℕ
sign_of true = minus ∷ []
sign_of false = []

-- a `.` and k digits, or nothing
abbrev pub pointed : ℕ → ℕ → List ℕ
pointed zero n = []
pointed (suc k) n = dot ∷ digits (suc k) n

unfoldable pub body_of : Body → List ℕ
body_of b = sign_of b.minus ++ (digits b.width b.whole ++ pointed b.fraction b.rest)
