-- The track of a value that is absent at every stage time: an absent head, and no change. Assumes nothing.
use mathlib.Core.Path.{◌≡◌, refl, ap}
use mathlib.Core.Bool.{Bool, true, false, cond}
use mathlib.Core.List.Memᴰ
use mathlib.Core.List.{[]}
use lib.Ieee.{Float, eq}
use Rattle.gf.specs.Doubles.{0·0}
use Rattle.definitions.specs.declared.StageTime.{StageTime}
use Rattle.definitions.specs.declared.Answer.TheVariants.{Absent}
use Rattle.definitions.specs.Track.{Track, TrackOf, Outputs, entry_of, alike, written_entry, read_from, read_track, differs, write_track}

abbrev pub absent_track : Track
absent_track = record { initial = record { value = 0·0; mark = 2 }; changes = [] }

either : (b : Bool) (x : Float) → x ≡ cond b x x
either true x = refl
either false x = refl

pub always-absent : TrackOf (λ (t : StageTime). Absent) absent_track
unfolding entry_of alike written_entry read_from read_track differs
always-absent = record {
  initial-is = ap (λ (v : Float). record { value = v; mark = 2 }) (either (eq 0·0 0·0) 0·0);
  ascends = tt;
  each = λ c m. absurd (Memᴰ.not-nil m);
  complete = λ t f a d. absurd d;
  gives = λ t f. tt;
}

-- nothing is written of it
pub writes_nothing : (o : Outputs) → o ≡ write_track absent_track o
unfolding write_track
writes_nothing o = refl
