-- A run of samples that are passed in one segment of knots: what is read at each key, and what its walk promises. Assumes nothing.
use Rattle.std.specs.Prelude.{◌≡◌, cond, List, ℕ, ◌-◌, ◌≤◌, ◌<◌, T, length, get_or, Float, Option, None, Some}
use Rattle.std.specs.Float.{nan}
use Rattle.std.specs.Float.Ieee.{lt, le}
use Rattle.gf.specs.Doubles.{key, of_key}
use Rattle.definitions.specs.declared.Knot.{Knot}
use Rattle.definitions.specs.Lists.{keep}
use Rattle.definitions.specs.Doubles.{FiniteDouble}
use Rattle.definitions.specs.Value.{spans, inverse, greatest}
use Rattle.definitions.specs.Track.{Entry, Outputs}
use Rattle.laws.specs.list.Every.{Every}
use Rattle.laws.specs.cell.Keys.{Keys}
use Rattle.window.specs.Inverses.{on_segment}
use Rattle.window.specs.SoundSegments.{SoundSegment}
use Rattle.cell.specs.declared.step.line.Line.{Line}
use Rattle.cell.specs.declared.step.line.Line.TheVariants as lines
use Rattle.run.specs.declared.inside.NextInRun.{NextInRun}
use Rattle.run.specs.declared.walk.Went.{Went}
use Rattle.run.specs.Readings.{Reads, reading_at}
use Rattle.run.specs.Walks.{Walked}

-- ---- what is read

-- the line between two knots
abbrev pub line_on : Knot × Knot → Line
line_on q = lines.Segment (record { a = q.0; b = q.1 })

-- the last of the floor and the segment's inverse times that are at most t
unfoldable pub passed_by : List Float → Knot × Knot → Float → Float → Float
passed_by cs q floor t = greatest floor (keep (λ (x : Float). le x t) (on_segment cs q))

-- the entry that is read at the key k: the one at the time passed last
abbrev pub passing_at : List Float → List Float → List ℕ → Knot × Knot → Float → ℕ → Entry
passing_at cs vs ms q floor k = reading_at cs vs ms (line_on q) (key (passed_by cs q floor (of_key k)))

-- what a run from k to hi asks: at k the entry e is read
pub record Passing (cs vs : List Float) (ms : List ℕ) (q : Knot × Knot) (floor : Float) (e : Entry) (k hi : ℕ) : Type 0 where
  pub reads : Reads cs vs ms
  pub keys : Keys k hi
  pub segment : SoundSegment q
  pub ground : FiniteDouble floor
  pub under : T (le floor (of_key k))
  pub last : e ≡ passing_at cs vs ms q floor k

-- it has a floor, which need not be known
pub record PassingOn (cs vs : List Float) (ms : List ℕ) (q : Knot × Knot) (e : Entry) (k hi : ℕ) : Type 0 where
  pub floor : Float
  pub passing : Passing cs vs ms q floor e k hi

-- a walk over it, whichever its floor is
abbrev pub WalkedOn : List Float → List Float → List ℕ → Knot × Knot → Entry → ℕ → ℕ → ℕ → ℕ → Outputs → Outputs → Went → Type 0
WalkedOn cs vs ms q e k hi room n before after r = (floor : Float) → Passing cs vs ms q floor e k hi → Walked (passing_at cs vs ms q floor) k hi room n before after r

-- ---- from one inverse time to the next

-- the sample at a place, whether the segment spans it, and the key of its inverse time
abbrev pub Spanned : List Float → Knot × Knot → ℕ → Type 0
Spanned cs q i = T (spans q.0.y q.1.y (get_or cs i nan))

abbrev pub inverse_key : List Float → Knot × Knot → ℕ → ℕ
inverse_key cs q i = key (inverse q.0 q.1 (get_or cs i nan))

-- n is the place of k among the samples: on one side of it those whose inverse times are passed, on the other those that come
pub record InRun (cs : List Float) (q : Knot × Knot) (n k : ℕ) : Type 0 where
  pub upto : n ≤ length cs
  pub rising : T (lt q.0.y q.1.y) → ((i : ℕ) → i < n → Spanned cs q i → inverse_key cs q i ≤ k)
      × ((i : ℕ) → n ≤ i → i < length cs → T (le q.0.y (get_or cs i nan)) × (Spanned cs q i → k ≤ inverse_key cs q i))
  pub falling : T (lt q.1.y q.0.y) → ((i : ℕ) → n ≤ i → i < length cs → Spanned cs q i → inverse_key cs q i ≤ k)
      × ((i : ℕ) → i < n → T (le (get_or cs i nan) q.0.y) × (Spanned cs q i → k ≤ inverse_key cs q i))

-- n is the place of some key
pub record PlaceInRun (cs : List Float) (q : Knot × Knot) (n : ℕ) : Type 0 where
  pub key : ℕ
  pub here : InRun cs q n key

-- how many samples may still come
abbrev pub left : List Float → Knot × Knot → ℕ → ℕ
left cs q n = cond (lt q.0.y q.1.y) (length cs - n) n

-- the key of the inverse time of the sample at i, if it is at most hi; p is the place behind it
abbrev pub SampleIs : List Float → Knot × Knot → ℕ → ℕ → ℕ → Option NextInRun → Type 0
SampleIs cs q i p hi (Some r) = (r.key ≡ inverse_key cs q i) × (r.key ≤ hi) × (r.sample ≡ i) × (r.behind ≡ p)
SampleIs cs q i p hi None = hi < inverse_key cs q i

-- m is the next key of an inverse time from k on, of the sample at i, and p is the place there
pub record InRunAt (cs : List Float) (q : Knot × Knot) (n k hi m i p : ℕ) : Type 0 where
  pub from : k ≤ m
  pub within : m ≤ hi
  pub inside : i < length cs
  pub between : Spanned cs q i
  pub here : inverse_key cs q i ≡ m
  pub clear : Every (λ (x : Float). key x < m → key x ≤ k) (on_segment cs q)
  pub place : InRun cs q p m
  pub less : left cs q p < left cs q n

-- the next one up to hi, or none
abbrev pub NextInRunIs : List Float → Knot × Knot → ℕ → ℕ → ℕ → Option NextInRun → Type 0
NextInRunIs cs q n k hi (Some r) = InRunAt cs q n k hi r.key r.sample r.behind
NextInRunIs cs q n k hi None = Every (λ (x : Float). key x ≤ hi → key x ≤ k) (on_segment cs q)

-- from whichever key n is the place of
abbrev pub NextFromPlace : List Float → Knot × Knot → ℕ → ℕ → Option NextInRun → Type 0
NextFromPlace cs q n hi r = (k : ℕ) → InRun cs q n k → NextInRunIs cs q n k hi r
