-- A track: a head and changes (key, value), ascending, read held. `TrackOf low top v head changes` says that they are the track of the step
-- function v on the keys from low to top. `changes_to v low k` is the list of v's changes above low and up to k.
use mathlib.Core.Path.{◌≡◌}
use mathlib.Core.List.{List, [], ◌∷◌}
use mathlib.Core.Bool.{Bool, true, false}
use mathlib.Core.Logic.{◌⊎◌, ◌↔◌}
use Prim.Native.Nat.{ℕ, ◌-◌, ◌≤◌, ◌<◌}
use lib.Dec.{leb}
use Rattle.laws.specs.track.Track.{Change}

module _ {A : Type 0} where
  abbrev pub pick : Bool → A → A → A
  pick true a b = a
  pick false a b = b

  -- the held reading at k: the value of the last change with key ≤ k, else the head
  unfoldable pub held_at : A → List (Change A) → ℕ → A
  held_at head [] k = head
  held_at head (c ∷ cs) k = held_at (pick (leb c.key k) c.value head) cs k

  -- each key is above the one before, the first above low
  abbrev pub Rising : ℕ → List (Change A) → Type 0
  Rising low [] = Unit {0}
  Rising low (c ∷ cs) = (low < c.key) × Rising c.key cs

  -- each key is above the one before
  abbrev pub Ascending : List (Change A) → Type 0
  Ascending [] = Unit {0}
  Ascending (c ∷ cs) = Rising c.key cs

  -- each key is at most top
  abbrev pub UpTo : ℕ → List (Change A) → Type 0
  UpTo top [] = Unit {0}
  UpTo top (c ∷ cs) = (c.key ≤ top) × UpTo top cs

  -- a change has the key k
  abbrev pub HasKey : ℕ → List (Change A) → Type 0
  HasKey k [] = ⊥
  HasKey k (c ∷ cs) = (c.key ≡ k) ⊎ HasKey k cs

  -- v has a change at k: its value there is not the one before
  abbrev pub ChangesAt : (ℕ → A) → ℕ → Type 0
  ChangesAt v k = v k ≡ v (k - 1) → ⊥

  -- v has no change above a and up to b
  abbrev pub Still : (ℕ → A) → ℕ → ℕ → Type 0
  Still v a b = (k : ℕ) → a < k → k ≤ b → v k ≡ v (k - 1)

  -- m is the least key above k and up to top at which v changes
  pub record ChangeAt (v : ℕ → A) (k top m : ℕ) : Type 0 where
    pub above : k < m
    pub within : m ≤ top
    pub still : Still v k (m - 1)
    pub changes : ChangesAt v m

  -- The head and the changes are the track of v on the keys from low to top
  pub record TrackOf (low top : ℕ) (v : ℕ → A) (head : A) (changes : List (Change A)) : Type 0 where
    pub rising : Rising low changes
    pub inside : UpTo top changes
    pub begins : head ≡ v low
    pub exact : (k : ℕ) → low ≤ k → k ≤ top → held_at head changes k ≡ v k
    pub places : (k : ℕ) → low < k → k ≤ top → HasKey k changes ↔ ChangesAt v k
