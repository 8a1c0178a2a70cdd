-- The standing set in plain arrays, as the set of the definitions; what a question is lent of it. Assumes nothing.
use Rattle.std.specs.Prelude.{ℕ, ◌≡◌, List, [], length, take, Float}
use Rattle.std.specs.Prelude as Prelude
use Rattle.std.proofs.Math.Option.{Option, none, some}
use Rattle.definitions.specs.declared.Missing.{Missing}
use Rattle.definitions.specs.ClipSet as Definitions
use Rattle.definitions.specs.ClipSet.{max_active, max_knots, max_blocks}
use Rattle.laws.specs.cell.Lent.{set_of, AcceptedLists}
use Rattle.stage.specs.Times.{times_of, AcceptedTimes}
use Rattle.stage.specs.Marks.{unblocked}
use Rattle.clip.specs.declared.ClipSet.{ClipSet}
use Rattle.clip.specs.Holding.{Room, ArraysWhole, clip_set_of, manifest_of}
use Rattle.standing.specs.declared.Counts.{Counts}
use Rattle.standing.specs.declared.StandingSet.{StandingSet}

-- arrays of their lengths, and counts within them
pub record Arrays (c : Counts) (starts : List Float) (numbers : List ℕ) (xs ys blocks : List Float) : Type 0 where
  pub in-starts : Room max_active starts c.starts
  pub in-numbers : Room max_active numbers c.starts
  pub in-xs : Room max_knots xs c.knots
  pub in_ys : Room max_knots ys c.knots
  pub in_blocks : Room max_blocks blocks c.blocks

-- arrays of their lengths
pub record Lengths (starts : List Float) (numbers : List ℕ) (xs ys blocks : List Float) : Type 0 where
  pub of-starts : length starts ≡ max_active
  pub of-numbers : length numbers ≡ max_active
  pub of-xs : length xs ≡ max_knots
  pub of-ys : length ys ≡ max_knots
  pub of_blocks : length blocks ≡ max_blocks

-- the set of the entries that count
abbrev pub lent_set : (clips : ℕ) → Counts → List Float → List ℕ → List Float → List Float → List Float → Missing → Definitions.ClipSet
lent_set n c starts numbers xs ys blocks m =
    set_of n (take c.starts starts) (take c.starts numbers) (take c.knots xs) (take c.knots ys) (take c.blocks blocks) m

abbrev pub set_in : StandingSet → Definitions.ClipSet
set_in s = lent_set s.clips s.counts s.starts s.numbers s.xs s.ys s.blocks s.manifest

abbrev pub Whole : StandingSet → Type 0
Whole s = Arrays s.counts s.starts s.numbers s.xs s.ys s.blocks

-- ---- to and from a prepared set

pub record Installed (set : ClipSet) (r : StandingSet) : Type 0 where
  pub whole : Whole r
  pub is : set_in r ≡ clip_set_of set

pub record Unpacked (set : ClipSet) (c : Counts) (starts : List Float) (numbers : List ℕ) (xs ys blocks : List Float) : Type 0 where
  pub whole : Arrays c starts numbers xs ys blocks
  pub is : lent_set set.clips c starts numbers xs ys blocks (manifest_of set) ≡ clip_set_of set

pub record Packed (set : Definitions.ClipSet) (r : ClipSet) : Type 0 where
  pub held : ArraysWhole r
  pub is : clip_set_of r ≡ set

-- ---- questions

-- What an operation has shown of what it lends to a question: whole arrays, whose entries are a well-formed set, and samples that are accepted for it.
pub record Asked (c : Counts) (starts : List Float) (numbers : List ℕ) (xs ys blocks : List Float) (m : Missing) (times values : List Float) (marks ends : List ℕ) : Type 0 where
  pub arrays : Arrays c starts numbers xs ys blocks
  pub ready : AcceptedLists (take c.starts starts) (take c.starts numbers) (take c.knots xs) (take c.knots ys) (take c.blocks blocks) m times values marks ends

-- ---- questions for stage samples, which are lent the lists that decide them

-- arrays of starts and knots, and counts within them
pub record StartsAndKnots (c : Counts) (starts : List Float) (numbers : List ℕ) (xs ys : List Float) : Type 0 where
  pub in-starts : Room max_active starts c.starts
  pub in-numbers : Room max_active numbers c.starts
  pub in-xs : Room max_knots xs c.knots
  pub in_ys : Room max_knots ys c.knots

-- the stage sample times of the entries that count
abbrev pub lent_times : Counts → List Float → List ℕ → List Float → List Float → List Float → List ℕ → List Float
lent_times c starts numbers xs ys times ends = times_of (take c.starts starts) (take c.starts numbers) (take c.knots xs) (take c.knots ys) times ends

pub record TimesAsked (c : Counts) (starts : List Float) (numbers : List ℕ) (xs ys times : List Float) (ends : List ℕ) : Type 0 where
  pub arrays : StartsAndKnots c starts numbers xs ys
  pub ready : AcceptedTimes (take c.starts starts) (take c.starts numbers) (take c.knots xs) (take c.knots ys) times ends

-- the set of the entries that count, without manifest blocks, which stage samples do not heed
abbrev pub lent_unblocked : Counts → List Float → List ℕ → List Float → List Float → Missing → List ℕ → Definitions.ClipSet
lent_unblocked c starts numbers xs ys m ends = unblocked (take c.starts starts) (take c.starts numbers) (take c.knots xs) (take c.knots ys) m ends

pub record SamplesAsked (c : Counts) (starts : List Float) (numbers : List ℕ) (xs ys : List Float) (m : Missing) (times values : List Float) (marks ends : List ℕ) : Type 0 where
  pub arrays : StartsAndKnots c starts numbers xs ys
  pub ready : AcceptedLists (take c.starts starts) (take c.starts numbers) (take c.knots xs) (take c.knots ys) [] m times values marks ends

-- ---- the active clip

-- the active clip as the code answers it: "none" in a set without starts
abbrev pub answered : Option ℕ → Prelude.Option ℕ
answered none = Prelude.None
answered (some clip) = Prelude.Some clip
