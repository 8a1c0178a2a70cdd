-- The promise of the name question: its reply and the lent bytes after it, by the definitions' number and name. Assumes nothing.
use Rattle.std.specs.Prelude.{ℕ, zero, suc, ◌≤◌, ◌≡◌, List, length, Result, IfOk}
use Rattle.definitions.specs.declared.ClipTime.{ClipTime}
use Rattle.definitions.specs.declared.refusal.Refusal.{Refusal}
use Rattle.definitions.specs.Lists.{written_over}
use Rattle.definitions.specs.Names.{name, name_number}
use Rattle.definitions.specs.Questions.{reply}
use Rattle.definitions.specs.Refusals.{reply_of}

-- a refusal writes nothing
abbrev pub written_by : ℕ → List ℕ → List ℕ → List ℕ
written_by zero bytes before = written_over bytes before
written_by (suc n) bytes before = before

pub record Names (template : List ℕ) (t : ClipTime) (before after : List ℕ) (r : Result ℕ Refusal) : Type 0 where
  -- how many bytes were written, or the number
  pub reply : reply_of r ≡ reply (name_number template t (length before)) (length (name template t))
  pub bytes : after ≡ written_by (name_number template t (length before)) (name template t) before
  -- "A name has at most 268 bytes."
  pub short : IfOk r (λ (n : ℕ). n ≤ 268)
