-- What a call that prepares a set replies, whether it makes the set or refuses it. Assumes nothing.
use Rattle.std.specs.Prelude.{ℕ, ◌≡◌, Result, Ok, Err, IfOk}
use Rattle.definitions.specs.ClipSet as Definitions
use Rattle.definitions.specs.Calls.{accepted}
use Rattle.definitions.specs.declared.refusal.Refusal.{Refusal}
use Rattle.definitions.specs.Refusals.{number_in}
use Rattle.definitions.specs.Examining.{Fields, Examined, empty_set, examine}
use Rattle.laws.specs.set.Sound.{Sound}
use Rattle.clip.specs.declared.ClipSet.{ClipSet}
use Rattle.clip.specs.Holding.{ArraysWhole, clip_set_of}

-- "A desk or set handed in by value is one that an operation made": its arrays are whole, and it is well-formed. Every operation ensures it of what it hands back,
-- and no desk is in it.
pub record MadeSet (s : ClipSet) : Type 0 where
  pub held : ArraysWhole s
  pub sound : Sound (clip_set_of s)

-- what the caller has after it: the set that it made, or the one of before
abbrev pub set_after : Definitions.ClipSet → Result ClipSet Refusal → Definitions.ClipSet
set_after before (Ok s) = clip_set_of s
set_after before (Err e) = before

-- ---- examining

-- no set is before it
abbrev pub examined_of : Result ClipSet Refusal → Examined
examined_of r = record { number = number_in r; set = set_after empty_set r }

-- the number and the set, and that the set may be installed
pub record Examines (f : Fields) (r : Result ClipSet Refusal) : Type 0 where
  pub reply : examined_of r ≡ examine f
  pub made : IfOk r MadeSet

-- ---- any preparation, a retiming's too

-- the number n, and the set that goes with it; what is handed back is in whole arrays
pub record HandsBack (n : ℕ) (kept made : Definitions.ClipSet) (r : Result ClipSet Refusal) : Type 0 where
  pub number : number_in r ≡ n
  pub set : set_after kept r ≡ accepted n kept made
  pub held : IfOk r ArraysWhole

-- the same, and that the set is well-formed, whichever it is
pub record Prepares (n : ℕ) (kept made : Definitions.ClipSet) (r : Result ClipSet Refusal) : Type 0 where
  pub reply : HandsBack n kept made r
  pub sound : Sound (set_after kept r)
