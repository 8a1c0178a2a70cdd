-- `template::expanding::write_knots` meets its contract. Assumes nothing.
use mathlib.Core.Path.{ap, ◌∙◌}
use mathlib.Core.Bool.{Bool}
use lib.ListN.{length}
use Rattle.template.specs.Expanding.{knot_count}
use Rattle.template.proofs.Expansion.{with-bounds, without-bounds}
use Rattle.template.proofs.expanding.write_knots.Goals as goal

pub write_bounded-requires : goal.write_bounded-requires
write_bounded-requires c = let s = c in s.requires ∙ ap (λ (b : Bool). knot_count b (length s.args.ts.now)) c.if-offset.true

pub returns-then-offset : goal.returns-then-offset
returns-then-offset c =
    let s = c in
    c.write_bounded.ensures ∙ with-bounds s.args.times s.args.offset s.args.ts.now c.abs-slack.result c.if-offset.true c.abs-slack.ensures

pub write_clip_times-requires : goal.write_clip_times-requires
write_clip_times-requires c = let s = c in s.requires ∙ ap (λ (b : Bool). knot_count b (length s.args.ts.now)) c.if-offset.false

pub returns : goal.returns
returns c =
    let s = c in
    c.write_clip_times.ensures ∙ without-bounds s.args.times s.args.offset s.args.ts.now c.if-offset.false
