-- How many changes there are: not more than keys, so a count of them is held by the program's numbers, and what a count up to a room tells. Assumes nothing.
use mathlib.Core.Path.{◌≡◌, sym, ap, ◌∙◌}
use mathlib.Core.List.{[], ◌∷◌}
use Prim.Native.Nat.{ℕ, zero, suc, ◌+◌, ◌-◌, ◌≤◌, ◌<◌, min}
use native.Mathlib.Decide.{dec_le}
use native.Mathlib.Omega.{arith}
use lib.ListN.{length, length-append}
use Rattle.gf.specs.Doubles.{least, most}
use Rattle.definitions.specs.ClipSet.{ClipSet}
use Rattle.definitions.specs.Samples.{Samples}
use Rattle.laws.specs.track.Track.{Change, grown, changes_to}
use Rattle.laws.specs.cell.Keys.{entry_at_key}
use Rattle.laws.specs.cell.Tracks.{entry-same}
use Rattle.track.specs.span.Changes.{changes_of}
use Rattle.track.specs.Bakes.{track_of}
use Rattle.track.proofs.Baking.{written-length}

-- each change has a key of its own
module _ {A : Type 0} (same : Discrete A) (v : ℕ → A) (low : ℕ) where
  few : (k : ℕ) → length (changes_to same v low k) ≤ k - low
  unfolding changes_to grown
  few zero = omega arith
  few (suc k) = go (dec_le low k) (same (v (suc k)) (v k)) (few k)
    where
      new : Change A
      new = record { key = suc k; value = v (suc k) }

      go : (p : Dec (low ≤ k)) (q : Dec (v (suc k) ≡ v k)) → length (changes_to same v low k) ≤ k - low → length (grown p q (changes_to same v low k) new) ≤ suc k - low
      go (yes l) (yes e) h = omega arith
      go (yes l) (no n) h = let e = length-append (changes_to same v low k) (new ∷ []) in omega arith
      go (no n) (yes e) h = omega arith
      go (no n) (no d) h = omega arith

pub changes-few : (set : ClipSet) (s : Samples) (low top : ℕ) → length (changes_of set s low top) ≤ top - low
changes-few set s low top = few entry-same (entry_at_key set s) low top

-- ---- a count up to a room: of n changes r are counted, and `rest` are left

-- beyond the room the count says no more than that
pub count-beyond : (n r rest room : ℕ) → n ≡ r + rest → room < r → min r (room + 1) ≡ min n (room + 1)
count-beyond n r rest room e h = omega arith

-- with room for every change it is the track's count
pub count-all : (set : ClipSet) (s : Samples) (from r : ℕ) → from ≡ least → min r (0xffff_ffff_ffff_ffff + 1) ≡ min (length (changes_of set s from most)) (0xffff_ffff_ffff_ffff + 1) → r ≡ length (track_of set s).changes
count-all set s from r e h = all (length (changes_of set s from most)) r (changes-few set s from most) h ∙ ap (λ (k : ℕ). length (changes_of set s k most)) e ∙ sym (written-length (changes_of set s least most))
  where
    all : (n r : ℕ) → n ≤ most - from → min r (0xffff_ffff_ffff_ffff + 1) ≡ min n (0xffff_ffff_ffff_ffff + 1) → r ≡ n
    all n r few h = omega arith
