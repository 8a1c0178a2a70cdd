-- `cases::serve` is safe: each call leaves what an operation made. Assumes nothing.
use Rattle.cases.proofs.serve.Goals.{then-to-buffer+in-Some, then-to-buffer+in_default+in-Some-change_of, then-to-buffer+in_default+in_default-change_of+in-Some-question_of, then-to-buffer+in_default+in_default-change_of+in_default-question_of+then-session, then-to-buffer+in_default+in_default-change_of+in_default-question_of+else-session, else-to-buffer+else-buffer}
use Rattle.cases.proofs.serve.Goals as goal

pub loop-preserved : goal.loop-preserved
loop-preserved c =
    let i = c.loop.invariant in
    elim c.if-to-buffer.branch [
      | then-to-buffer+in-Some w ↦ rw (w.session-is, w.slots-is, w.starts-is, w.numbers-is, w.xs-is, w.ys-is, w.blocks-is, w.defaults-is, w.counts-is, w.bytes-is) (w.with_slot-held.ensures.0, w.with_slot-held.ensures.1, i.2)
      | then-to-buffer+in_default+in-Some-change_of w ↦ rw (w.session-is, w.slots-is, w.starts-is, w.numbers-is, w.xs-is, w.ys-is, w.blocks-is, w.defaults-is, w.counts-is, w.bytes-is) (w.change-session.ensures.fact_1.made, i.1, w.change-session.ensures.fact_2)
      | then-to-buffer+in_default+in_default-change_of+in-Some-question_of w ↦ rw (w.session-is, w.slots-is, w.starts-is, w.numbers-is, w.xs-is, w.ys-is, w.blocks-is, w.defaults-is, w.counts-is, w.bytes-is) (w.ask-session.ensures.made, i.1, i.2)
      | then-to-buffer+in_default+in_default-change_of+in_default-question_of+then-session w ↦ rw (w.session-is, w.slots-is, w.starts-is, w.numbers-is, w.xs-is, w.ys-is, w.blocks-is, w.defaults-is, w.counts-is, w.bytes-is) (w.run-session.ensures, w.none-slots-then-session.ensures.made, w.renew-then-session.ensures)
      | then-to-buffer+in_default+in_default-change_of+in_default-question_of+else-session w ↦ rw (w.session-is, w.slots-is, w.starts-is, w.numbers-is, w.xs-is, w.ys-is, w.blocks-is, w.defaults-is, w.counts-is, w.bytes-is) (w.run-session.ensures, i.1, i.2)
      | else-to-buffer+else-buffer w ↦ rw (w.session-is, w.slots-is, w.starts-is, w.numbers-is, w.xs-is, w.ys-is, w.blocks-is, w.defaults-is, w.counts-is, w.bytes-is) (i.0, i.1, i.2)
    ]
