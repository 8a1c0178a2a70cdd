-- `cases::questions::sampled::track_hash` is safe: the resolver is one that an operation made, and the samples are accepted for its set. Assumes nothing.
use Rattle.std.proofs.Common.{refl}
use Rattle.resolver.proofs.Laws.{is-asked}
use Rattle.cases.proofs.questions.sampled.track_hash.Goals as goal

pub hash_of-requires : goal.hash_of-requires
hash_of-requires c = is-asked c.args.resolver c.requires c.if-not-resolver.false c.in-Ok.ensures refl
