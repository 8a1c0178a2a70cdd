-- docs/VALUE-CLIPS.md, "Numbers": the number of each reason, and what an operation's result replies. Assumes nothing.
use Rattle.std.specs.Prelude.{ℕ, Result, Ok, Err}
use Rattle.definitions.specs.Questions.{Reply, refused, replied}
use Rattle.definitions.specs.declared.refusal.Refusal.{Refusal}
use Rattle.definitions.specs.declared.refusal.Refusal.TheVariants.{Misshapen, Unstorable, NoClipNumber, EqualStarts, ThreeEqualKnots, UnreadableTemplate, DisorderedTemplate, TooManyClips, BadSamples, TimeNotFinite, NoSet, NoRoom, NotTaken}

abbrev pub number_of : Refusal → ℕ
number_of Misshapen = 1
number_of Unstorable = 2
number_of NoClipNumber = 3
number_of EqualStarts = 4
number_of ThreeEqualKnots = 5
number_of UnreadableTemplate = 6
number_of DisorderedTemplate = 7
number_of TooManyClips = 8
number_of BadSamples = 9
number_of TimeNotFinite = 10
number_of NoSet = 20
number_of NoRoom = 22
number_of NotTaken = 23

-- "A refusal carries its number alone."
abbrev pub reply_of : {A : Type 0} → Result A Refusal → Reply A
reply_of (Ok a) = replied a
reply_of (Err r) = refused (number_of r)

-- the number of a test, 0 where it refuses nothing
abbrev pub number_in : {A : Type 0} → Result A Refusal → ℕ
number_in (Ok a) = 0
number_in (Err r) = number_of r
