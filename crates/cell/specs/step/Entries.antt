-- An entry as the program holds it. Assumes nothing.
use Rattle.definitions.specs.Track as Track
use Rattle.cell.specs.declared.step.entry.Entry.{Entry}

abbrev pub entry_is : Entry → Track.Entry
entry_is e = record { value = e.value; mark = e.mark }
