-- `names::pattern::is_readable` meets its contract. Assumes nothing.
use Rattle.names.proofs.PatternLaws.{no-later-hash, beyond-limits}
use Rattle.names.proofs.pattern.is_readable.Goals as goal

pub returns-then-within_limits : goal.returns-then-within_limits
returns-then-within_limits c = no-later-hash c.args.template.now c.args.p _ _ c.within_limits.ensures c.if-within_limits.true c.has_hash.ensures

pub returns-else-within_limits : goal.returns-else-within_limits
returns-else-within_limits c = beyond-limits c.args.template.now c.args.p _ c.within_limits.ensures c.if-within_limits.false
