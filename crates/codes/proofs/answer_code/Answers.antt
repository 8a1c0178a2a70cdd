-- `codes::answer_code` meets its contract: each arm is given which case the answer is. Assumes nothing.
use mathlib.Core.Path.{sym, ap, ◌∙◌}
use lib.Ieee.{of_bits}
use Rattle.definitions.specs.declared.Answer.{Answer}
use Rattle.codes.specs.Codes.{answer_code}
use Rattle.codes.proofs.answer_code.Goals as goal

pub returns-in-Value : goal.returns-in-Value
returns-in-Value c = let s = c in c.sample_code.ensures ∙ sym (ap (λ (x : Answer). answer_code x s.args.sample) c.in-Value.is)

pub returns-in-Blocked : goal.returns-in-Blocked
unfolding of_bits
returns-in-Blocked c = let s = c in c.sample_code-in-Blocked.ensures ∙ sym (ap (λ (x : Answer). answer_code x s.args.sample) c.in-Blocked.is)

pub returns-in-Absent : goal.returns-in-Absent
unfolding of_bits
returns-in-Absent c = let s = c in c.sample_code-in-Absent.ensures ∙ sym (ap (λ (x : Answer). answer_code x s.args.sample) c.in-Absent.is)
