-- The direct value case by case, as its program goes: the start's own reading, the manifest default, the search, nothing. Assumes nothing.
use Rattle.std.specs.Prelude.{ℕ}
use Rattle.definitions.specs.declared.Source.{Source}
use Rattle.definitions.specs.ClipSet.{ClipSet}
use Rattle.definitions.specs.Samples.{Samples}
use Rattle.definitions.specs.Value.{◌or_else◌, manifest_default, gap_source}

module _ (set : ClipSet) (s : Samples) (p : ℕ) where
  abbrev pub stand_in : Source
  stand_in = manifest_default set or_else gap_source set s p
