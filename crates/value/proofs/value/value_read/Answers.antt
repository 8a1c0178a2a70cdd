-- `value::value::value_read` meets its contract: what the source says, and its sample. Assumes nothing.
use mathlib.Core.Path.{sym, subst}
use lib.ListN.{length}
use Rattle.value.specs.Answers.{Answerable}
use Rattle.value.proofs.Answers.{ready-marks, value_in, reads-value}
use Rattle.value.proofs.value.value_read.Goals as goal

pub answer_of-answer-requires : goal.answer_of-answer-requires
answer_of-answer-requires c =
    let a = c.args in
    record { fact_1 = subst (Answerable (length a.values.now) a.ends.now) (sym c.value_source-source.ensures) (value_in c.requires.fact_1 a.t); fact_2 = ready-marks c.requires.fact_1 }

pub returns : goal.returns
returns c =
    reads-value c.requires.fact_1 c.args.t c.value_source-source.result c.value_source-source.ensures c.answer_of-answer.result c.sample_read-sample.result c.answer_of-answer.ensures c.sample_read-sample.ensures
