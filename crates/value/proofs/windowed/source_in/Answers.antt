-- `value::windowed::source_in` meets its contract. Assumes nothing.
use mathlib.Core.Path.{ap, ◌∙◌}
use borrow.Author.Tests.{lt-ltb, le-ltb}
use Rattle.definitions.specs.declared.ClipTime.{ClipTime}
use Rattle.definitions.specs.declared.Source.TheVariants.{Sample as sample}
use Rattle.definitions.specs.Timing.{last_at_most, map_stage_to_clip}
use Rattle.window.specs.search.Windowed.{samples_in, window_source}
use Rattle.value.proofs.windowed.source_in.Goals as goal

pub returns-then-w : goal.returns-then-w
unfolding window_source map_stage_to_clip
returns-then-w c =
    let a = c.args in
    rw (lt-ltb _ _ c.if-w.true) (ap (sample a.w.clip) (c.last_at_most_near-place.ensures ∙ ap (λ (x : ClipTime). last_at_most (samples_in a.times.now a.w) x.0) c.clip_time-c.ensures))

pub returns : goal.returns
unfolding window_source
returns c = rw (le-ltb _ _ c.if-w.false)
