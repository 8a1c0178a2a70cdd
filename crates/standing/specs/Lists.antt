-- The parts of a stage sample, and the lists where the samples are accepted. Assumes nothing.
use Rattle.std.specs.Prelude.{ℕ, min, ◌≡◌, List, length, Float, Result, Ok, Err, Option, None, Some}
use Rattle.definitions.specs.Questions.{reply, room_number}
use Rattle.definitions.specs.StageSamples.{StageSample}
use Rattle.definitions.specs.declared.refusal.Refusal.{Refusal}
use Rattle.definitions.specs.Refusals.{reply_of}
use Rattle.sdf.specs.Counted.{counted, listed, itself}

abbrev pub time_of : StageSample → Float
time_of x = x.time

abbrev pub mark_in : StageSample → ℕ
mark_in x = x.mark

-- ---- within: the lists where the samples are accepted

abbrev pub count_of : Option ℕ → Result ℕ Refusal
count_of (Some n) = Ok n
count_of None = Err Refusal.NoRoom

pub record ListsTimes (l before after : List Float) (r : Result ℕ Refusal) : Type 0 where
  pub count : reply_of r ≡ counted (reply (room_number (length before) (length l)) l)
  pub times : after ≡ listed itself (reply (room_number (length before) (length l)) l) before

pub record ListsSamples (l : List StageSample) (times times' : List Float) (marks marks' : List ℕ) (r : Result ℕ Refusal) : Type 0 where
  pub count : reply_of r ≡ counted (reply (room_number (min (length times) (length marks)) (length l)) l)
  pub written-times : times' ≡ listed time_of (reply (room_number (min (length times) (length marks)) (length l)) l) times
  pub written-marks : marks' ≡ listed mark_in (reply (room_number (min (length times) (length marks)) (length l)) l) marks
