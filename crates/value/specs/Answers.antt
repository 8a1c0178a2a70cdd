-- What a source says by the lent lists. Assumes nothing.
use Rattle.std.specs.Prelude.{List, ℕ, ◌+◌, ◌<◌, length, get_or, Float}
use Rattle.gf.specs.Doubles.{0·0}
use Rattle.definitions.specs.declared.Missing.{Missing}
use Rattle.definitions.specs.declared.Source.{Source}
use Rattle.definitions.specs.declared.Source.TheVariants.{Sample as sample, Default as default, Blocked as blocked, Absent as absent}
use Rattle.definitions.specs.declared.Answer.{Answer}
use Rattle.definitions.specs.declared.Answer.TheVariants.{Value, Blocked, Absent}
use Rattle.definitions.specs.Samples.{clip_begin}
use Rattle.definitions.specs.Value.{marked}

-- what a source says: a sample's mark and value stand at its clip's beginning and its place
unfoldable pub answer_in : Missing → List Float → List ℕ → List ℕ → Source → Answer
answer_in m values marks ends (sample c i) = marked (get_or marks (clip_begin ends c + i) 0) (get_or values (clip_begin ends c + i) 0·0)
answer_in m values marks ends default = Value m.default.value
answer_in m values marks ends blocked = Blocked
answer_in m values marks ends absent = Absent

-- a source whose sample lies in a list of n samples
abbrev pub Answerable : ℕ → List ℕ → Source → Type 0
Answerable n ends (sample c i) = (c < length ends) × (clip_begin ends c + i < n)
Answerable n ends default = Unit {0}
Answerable n ends blocked = Unit {0}
Answerable n ends absent = Unit {0}
