-- `explicit::fields::any_not_clip` meets its contract: what is left of the list answers for the whole. Assumes nothing.
use Rattle.std.proofs.Common.{◌≡◌, drop}
use Rattle.explicit.specs.Parsing.{any_not_clip}
use Rattle.explicit.proofs.fields.any_not_clip.Given as goal

abbrev pub invariant-loop-number : goal.invariant-loop-number
invariant-loop-number l = any_not_clip l.clips l.numbers ≡ any_not_clip l.clips (drop l.number-index l.numbers)
