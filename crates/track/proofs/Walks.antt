-- The walk over the changes of the value: from span to span, and what it comes to. Assumes nothing.
use mathlib.Core.Path.{◌≡◌, refl, sym, ap, ap₂, ◌∙◌}
use mathlib.Core.Bool.{Bool, true, false}
use mathlib.Core.List.{List, [], ◌∷◌}
use Prim.Native.Nat.{ℕ, ◌+◌, ◌≤◌, ◌<◌, min}
use native.Mathlib.Decide.{dec_le}
use native.Mathlib.Omega.{arith}
use lib.ListN.{length, length-append}
use lib.Ieee.{Float}
use Rattle.gf.specs.Doubles.{of_key}
use Rattle.definitions.specs.declared.Missing.{Missing}
use Rattle.definitions.specs.ClipSet.{ClipSet, stage}
use Rattle.definitions.specs.Samples.{Samples}
use Rattle.definitions.specs.Value.{value_in_set}
use Rattle.definitions.specs.Track.{Outputs, slots}
use Rattle.definitions.specs.Moments.{outputs}
use Rattle.laws.proofs.track.Laws.{changes-none, changes-split}
use Rattle.laws.proofs.cell.Direct.{SoundSet, SoundSamples}
use Rattle.laws.specs.cell.Keys.{Keys, entry_at_key}
use Rattle.definitions.proofs.Written.{written-self, written_one}
use Rattle.laws.proofs.cell.Numbers.{SoundValues, value-numeric}
use Rattle.laws.specs.cell.Tracks.{entry-same}
use Rattle.laws.specs.cell.Lent.{set_of, samples_of}
use Rattle.window.specs.search.Latest.{LatestOf}
use Rattle.run.specs.declared.walk.Went.{Went}
use Rattle.run.specs.Walks.{written, Room, Walked}
use Rattle.run.proofs.Filling.{Long}
use Rattle.run.proofs.Walking.{Reaches}
use Rattle.cell.specs.declared.place.WindowPlace.{WindowPlace}
use Rattle.cell.specs.WindowPlaces.{PlaceIs}
use Rattle.track.specs.span.Changes.{changes_of}
use Rattle.track.specs.declared.fill.Filled.{Filled}
use Rattle.track.specs.Fills.{PageIs, FillIs}
use Rattle.track.proofs.Fills.{passed_length}

-- the key after: there the value is like the one before, or it changes
module _ (set : ClipSet) (s : Samples) (S : SoundSet set) (A : SoundSamples s) (F : SoundValues set s) where
  pub next-key : (at : ℕ) → Reaches (entry_at_key set s) at (at + 1)
  next-key at = record {
    from = omega arith;
    level = λ j p q. let e : j ≡ at = omega arith in ap (entry_at_key set s) e;
    sure = written_one (value_in_set set s (stage (of_key (at + 1)))) (value_in_set set s (stage (of_key at))) (value-numeric set s F (stage (of_key (at + 1)))) (value-numeric set s F (stage (of_key at)));
    self = written-self (value_in_set set s (stage (of_key at))) (value-numeric set s F (stage (of_key at)));
  }

-- without segments there are no inverse times
pub no-latest : (xs ys : List Float) → LatestOf xs ys []
no-latest xs ys = record { above = λ k l. absurd (omega arith) }

-- the changes up to one key and on to another
pub split-length : (set : ClipSet) (s : Samples) (low a b : ℕ) → low ≤ a → a ≤ b → length (changes_of set s low b) ≡ length (changes_of set s low a) + length (changes_of set s a b)
split-length set s low a b l h = ap length (changes-split entry-same (entry_at_key set s) low a b l h) ∙ length-append (changes_of set s low a) (changes_of set s a b)

-- the shortest output's slots
pub slots-room : (ts vs : List Float) (ms : List ℕ) (r : ℕ) → r ≡ min (length ts) (min (length vs) (length ms)) → Room r 0 (outputs ts vs ms)
slots-room ts vs ms r e = record { from = omega arith; times = omega arith; values = omega arith; marks = omega arith }

pub room_of : (n : ℕ) (ts vs : List Float) (ms : List ℕ) → n ≤ min (length ts) (min (length vs) (length ms)) → Room n 0 (outputs ts vs ms)
room_of n ts vs ms h = record { from = omega arith; times = omega arith; values = omega arith; marks = omega arith }

pub slots-is : (ts vs : List Float) (ms : List ℕ) → slots (outputs ts vs ms) ≡ min (length ts) (min (length vs) (length ms))
unfolding slots
slots-is ts vs ms = refl

-- outputs as long as others have as many slots
pub slots-long : {ts vs ts' vs' : List Float} {ms ms' : List ℕ} → Long (outputs ts vs ms) (outputs ts' vs' ms') → 0 < slots (outputs ts vs ms) → 0 < slots (outputs ts' vs' ms')
slots-long {ts = ts} {vs = vs} {ts' = ts'} {vs' = vs'} {ms = ms} {ms' = ms'} l h =
    let e = slots-is ts vs ms in
    let f = slots-is ts' vs' ms' in
    omega (arith, l.times, l.values, l.marks)

pub slots-some : (x y : Float) (z : ℕ) (ts vs : List Float) (ms : List ℕ) → 0 < slots (outputs (x ∷ ts) (y ∷ vs) (z ∷ ms))
slots-some x y z ts vs ms = let e = slots-is (x ∷ ts) (y ∷ vs) (z ∷ ms) in omega arith

module _ {starts : List Float} {clips : List ℕ} {xs ys blocks : List Float} {m : Missing} {times values : List Float} {marks ends : List ℕ} where
  -- what a walk comes to
  pub filled : (from top room : ℕ) → Keys from top → (o p : Outputs) → room ≡ slots o → (g : Went)
      → Walked (entry_at_key (set_of (length ends) starts clips xs ys blocks m) (samples_of times values marks ends)) from top room 0 o p g → (place : WindowPlace) → PlaceIs starts clips xs ys blocks m times values marks ends place.start place.window
      → FillIs starts clips xs ys blocks m times values marks ends from top o p (record { count = g.count; cursor = record { key = g.key; last = g.last; place = place }; done = g.done })
  filled from top room K o p e g W place P = record {
    passed = record {
      order = W.stands.from;
      cursor = record { keys = record { low = let a = W.stands.from in omega (arith, K.low); order = W.upto; high = K.high }; last = W.stands.last; place = P };
      count = W.stands.count ∙ omega arith;
      whole = W.whole;
      more = λ d. (W.more d).1;
    };
    writes = W.stands.writes;
    fits = let f = W.stands.fits in omega arith;
    full = λ d. (W.more d).0 ∙ e;
  }

  -- a page that is not empty
  pub paged : (from top : ℕ) (o p : Outputs) (r : Filled) → 0 < slots o → FillIs starts clips xs ys blocks m times values marks ends from top o p r → PageIs starts clips xs ys blocks m times values marks ends from top r
  paged from top o p r h W = record { passed = W.passed; onward = λ d. go d (dec_le r.cursor.key from) }
    where
      go : r.done ≡ false → Dec (r.cursor.key ≤ from) → from < r.cursor.key
      go d (no l) = omega arith
      go d (yes l) =
          let z = ap length (changes-none entry-same (entry_at_key (set_of (length ends) starts clips xs ys blocks m) (samples_of times values marks ends)) from r.cursor.key l) in
          let c = W.passed.count in
          let f = W.full d in
          absurd (omega arith)

  -- all changes are written: where the walk came to top, and where there is a slot for each. The first key is said in another way, too.
  module _ (from top low : ℕ) (o p : Outputs) (r : Filled) (W : FillIs starts clips xs ys blocks m times values marks ends from top o p r) (e : from ≡ low) where
    pub filled-total : length (changes_of (set_of (length ends) starts clips xs ys blocks m) (samples_of times values marks ends) low top) ≡ r.count + length (changes_of (set_of (length ends) starts clips xs ys blocks m) (samples_of times values marks ends) r.cursor.key top)
    filled-total = ap (λ (j : ℕ). length (changes_of (set_of (length ends) starts clips xs ys blocks m) (samples_of times values marks ends) j top)) (sym e) ∙ passed_length W.passed

    pub filled-done : r.done ≡ true → (r.count ≡ length (changes_of (set_of (length ends) starts clips xs ys blocks m) (samples_of times values marks ends) low top)) × (p ≡ written 0 (changes_of (set_of (length ends) starts clips xs ys blocks m) (samples_of times values marks ends) low top) o)
    filled-done d =
        let k = W.passed.whole d in (
          W.passed.count ∙ ap₂ (λ (i j : ℕ). length (changes_of (set_of (length ends) starts clips xs ys blocks m) (samples_of times values marks ends) i j)) e k,
          W.writes ∙ ap₂ (λ (i j : ℕ). written 0 (changes_of (set_of (length ends) starts clips xs ys blocks m) (samples_of times values marks ends) i j) o) e k,
        )

    pub filled-all : length (changes_of (set_of (length ends) starts clips xs ys blocks m) (samples_of times values marks ends) low top) ≤ slots o → (r.count ≡ length (changes_of (set_of (length ends) starts clips xs ys blocks m) (samples_of times values marks ends) low top)) × (p ≡ written 0 (changes_of (set_of (length ends) starts clips xs ys blocks m) (samples_of times values marks ends) low top) o)
    filled-all h = go r.done refl
      where
        go : (b : Bool) → r.done ≡ b → (r.count ≡ length (changes_of (set_of (length ends) starts clips xs ys blocks m) (samples_of times values marks ends) low top)) × (p ≡ written 0 (changes_of (set_of (length ends) starts clips xs ys blocks m) (samples_of times values marks ends) low top) o)
        go true d = filled-done d
        go false d =
            let a = W.passed.more d in
            let b = W.full d in
            let t = filled-total in
            absurd (omega arith)
