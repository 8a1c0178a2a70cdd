-- The two ways out of a bake: 22 with the outputs as they were, and the track written. Assumes nothing.
use mathlib.Core.Path.{◌≡◌, refl, sym, ap, ap₂, ◌∙◌}
use mathlib.Core.Bool.{Bool}
use mathlib.Core.List.{List, [], ◌∷◌, ◌++◌, map}
use Prim.Native.Nat.{ℕ, suc, ◌+◌, ◌≤◌, ◌<◌, min}
use native.Mathlib.Omega.{arith}
use lib.ListN.{length, take, drop, length-map}
use lib.Seq.{take-append_seam}
use lib.Ieee.{Float}
use borrow.Author.Tests.{lt-ltb, le-ltb}
use Rattle.gf.specs.Doubles.{least, most}
use Rattle.definitions.specs.Lists.{◌if◌else◌, written_over}
use Rattle.definitions.specs.ClipSet.{ClipSet}
use Rattle.definitions.specs.Samples.{Samples}
use Rattle.std.specs.Prelude.{Ok, Err}
use Rattle.definitions.specs.declared.refusal.Refusal.TheVariants.{NoRoom}
use Rattle.definitions.specs.Questions.{reply, replied}
use Rattle.definitions.specs.Calls.{baked_of, outputs_after}
use Rattle.definitions.specs.Track.{Entry, Change, change_times, Outputs, slots, write_track}
use Rattle.definitions.specs.Moments.{outputs}
use Rattle.laws.specs.track.Track as steps
use Rattle.laws.specs.cell.Keys.{entry_at_key}
use Rattle.laws.specs.cell.Tracks.{written_change}
use Rattle.run.specs.Walks.{written_from, written}
use Rattle.track.specs.span.Changes.{changes_of}
use Rattle.track.specs.Bakes.{track_of, BakeIs}
use Rattle.track.specs.Fills.{copied}

pub written-length : (cs : List (steps.Change Entry)) → length (map written_change cs) ≡ length cs
written-length [] = refl
written-length (c ∷ cs) = ap suc (written-length cs)

-- from the first slot on
from_first : {A : Type 0} (new old : List A) → written_from 0 new old ≡ written_over new old
from_first {A} new old = ap₂ (λ (l r : List A). (l ++ new) ++ r) (none-taken old) (let e : 0 + length new ≡ length new = omega arith in ap (λ (i : ℕ). drop i old) e)
  where
    none-taken : (l : List A) → take 0 l ≡ []
    none-taken [] = refl
    none-taken (x ∷ l) = refl

-- ---- a page that is copied

column-copied : {A : Type 0} (new page out : List A) (n : ℕ) → n ≡ length new → take n (written_from 0 new page) ++ drop n out ≡ written_from 0 new out
column-copied {A} new page out n e =
    ap (λ (k : ℕ). take k (written_from 0 new page) ++ drop k out) e
    ∙ ap (λ (l : List A). take (length new) l ++ drop (length new) out) (from_first new page)
    ∙ ap (λ (l : List A). l ++ drop (length new) out) (take-append_seam new (drop (length new) page))
    ∙ sym (from_first new out)

-- changes that are written to a page and copied are written to the outputs
pub page-copied : (cs : List (steps.Change Entry)) (page after out : Outputs) (n : ℕ) → n ≡ length cs → after ≡ written 0 cs page → copied n after out ≡ written 0 cs out
page-copied cs page after out n e w =
    ap (λ (p : Outputs). copied n p out) w
    ∙ (λ i. record {
      times = column-copied (change_times (map written_change cs)) page.times out.times n (many (λ (c : Change). c.time)) i;
      values = column-copied (map (λ (c : Change). c.value) (map written_change cs)) page.values out.values n (many (λ (c : Change). c.value)) i;
      marks = column-copied (map (λ (c : Change). c.mark) (map written_change cs)) page.marks out.marks n (many (λ (c : Change). c.mark)) i;
    })
  where
    many : {A : Type 0} (g : Change → A) → n ≡ length (map g (map written_change cs))
    many g = e ∙ sym (written-length cs) ∙ sym (length-map (map written_change cs) g)

module _ (set : ClipSet) (s : Samples) (times values : List Float) (marks : List ℕ) where
  abbrev before : Outputs
  before = outputs times values marks

  abbrev count : ℕ
  count = length (changes_of set s least most)

  room-is : slots before ≡ min (length times) (min (length values) (length marks))
  unfolding slots
  room-is = refl

  pub bake-refused : min (length times) (min (length values) (length marks)) < length (changes_of set s least most)
      → BakeIs set s (outputs times values marks) (outputs times values marks) (Err NoRoom)
  bake-refused h =
      let n = sym (ap (λ (b : Bool). 22 if b else 0) (lt-ltb (slots before) (length (track_of set s).changes) less)) in
      record { replies = ap (λ (k : ℕ). reply k (baked_of (track_of set s))) n; writes = ap (λ (k : ℕ). outputs_after k (track_of set s) before) n }
    where
      less : slots before < length (track_of set s).changes
      less = let e = written-length (changes_of set s least most) in let r = room-is in omega arith

  pub bake-done : (after : Outputs) (mark : ℕ) (value : Float) (n : ℕ) → length (changes_of set s least most) ≤ min (length times) (min (length values) (length marks))
      → ◌≡◌ {A = Entry} (record { value = value; mark = mark }) (entry_at_key set s least) → n ≡ length (changes_of set s least most) → after ≡ written 0 (changes_of set s least most) (outputs times values marks)
      → BakeIs set s (outputs times values marks) after (Ok (record { mark = mark; value = value; count = n }))
  bake-done after mark value n h e c w =
      let z = sym (ap (λ (b : Bool). 22 if b else 0) (le-ltb (slots before) (length (track_of set s).changes) enough)) in
      record {
        replies = (λ i. replied (record { initial = e i; count = (c ∙ sym (written-length (changes_of set s least most))) i }))
            ∙ ap (λ (k : ℕ). reply k (baked_of (track_of set s))) z;
        writes = w ∙ all ∙ ap (λ (k : ℕ). outputs_after k (track_of set s) before) z;
      }
    where
      enough : length (track_of set s).changes ≤ slots before
      enough = let q = written-length (changes_of set s least most) in let r = room-is in omega arith

      in-times : written_from 0 (change_times (map written_change (changes_of set s least most))) times ≡ written_over (change_times (map written_change (changes_of set s least most))) times
      in-times = from_first (change_times (map written_change (changes_of set s least most))) times

      in-values : written_from 0 (map (λ (c : Change). c.value) (map written_change (changes_of set s least most))) values ≡ written_over (map (λ (c : Change). c.value) (map written_change (changes_of set s least most))) values
      in-values = from_first (map (λ (c : Change). c.value) (map written_change (changes_of set s least most))) values

      in-marks : written_from 0 (map (λ (c : Change). c.mark) (map written_change (changes_of set s least most))) marks ≡ written_over (map (λ (c : Change). c.mark) (map written_change (changes_of set s least most))) marks
      in-marks = from_first (map (λ (c : Change). c.mark) (map written_change (changes_of set s least most))) marks

      all : written 0 (changes_of set s least most) before ≡ write_track (track_of set s) before
      all = unfold write_track in λ i. record { times = in-times i; values = in-values i; marks = in-marks i }
