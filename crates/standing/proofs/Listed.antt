-- Replies that are lists, by whether there is room. Assumes nothing.
use Rattle.std.specs.Prelude.{Option, None, Some}
use Prim.Native.Nat.{ℕ, min, ◌≤◌, ◌<◌}
use mathlib.Core.Path.{◌≡◌, refl, sym, ap, ◌∙◌, subst}
use mathlib.Core.Bool.{Bool}
use mathlib.Core.List.{List, [], ◌∷◌, map}
use lib.ListN.{length}
use borrow.Author.Tests.{le-ltb, lt-ltb}
use lib.Ieee.{Float}
use Rattle.definitions.specs.Lists.{◌if◌else◌, written_over}
use Rattle.definitions.specs.StageSamples.{StageSample}
use Rattle.definitions.specs.Questions.{reply, replied, room_number}
use Rattle.std.specs.Prelude.{Result}
use Rattle.definitions.specs.declared.refusal.Refusal.{Refusal}
use Rattle.stage.specs.Promises.{TimesWritten, SamplesWritten}
use Rattle.sdf.specs.Counted.{counted, listed, itself}
use Rattle.standing.specs.Lists.{time_of, mark_in, count_of, ListsTimes, ListsSamples}

-- ---- replies that are lists

mapped-itself : (l : List Float) → map itself l ≡ l
mapped-itself [] = refl
mapped-itself (x ∷ l) = ap (λ (m : List Float). x ∷ m) (mapped-itself l)

room-enough : (room count : ℕ) → count ≤ room → 0 ≡ room_number room count
room-enough room count h = sym (ap (λ (b : Bool). 22 if b else 0) (le-ltb room count h))

room-short : (room count : ℕ) → room < count → 22 ≡ room_number room count
room-short room count h = sym (ap (λ (b : Bool). 22 if b else 0) (lt-ltb room count h))

times-listed : (l before after : List Float) (w : Option ℕ) → TimesWritten l before after w → ListsTimes l before after (count_of w)
times-listed l before after (Some n) (e, h, q) =
    let z = room-enough (length before) (length l) h in
    record {
      count = ap replied e ∙ ap (λ (k : ℕ). counted (reply k l)) z;
      times = q ∙ ap (λ (k : List Float). written_over k before) (sym (mapped-itself l)) ∙ ap (λ (k : ℕ). listed itself (reply k l) before) z;
    }
times-listed l before after None (h, q) =
    let z = room-short (length before) (length l) h in
    record {
      count = ap (λ (k : ℕ). counted (reply k l)) z;
      times = q ∙ ap (λ (k : ℕ). listed itself (reply k l) before) z;
    }

samples-listed : (l : List StageSample) (ts ts' : List Float) (ms ms' : List ℕ) (w : Option ℕ) → SamplesWritten l ts ts' ms ms' w → ListsSamples l ts ts' ms ms' (count_of w)
samples-listed l ts ts' ms ms' (Some n) (e, h, p, q) =
    let z = room-enough (min (length ts) (length ms)) (length l) h in
    record {
      count = ap replied e ∙ ap (λ (k : ℕ). counted (reply k l)) z;
      written-times = p ∙ ap (λ (k : ℕ). listed time_of (reply k l) ts) z;
      written-marks = q ∙ ap (λ (k : ℕ). listed mark_in (reply k l) ms) z;
    }
samples-listed l ts ts' ms ms' None (h, p, q) =
    let z = room-short (min (length ts) (length ms)) (length l) h in
    record {
      count = ap (λ (k : ℕ). counted (reply k l)) z;
      written-times = p ∙ ap (λ (k : ℕ). listed time_of (reply k l) ts) z;
      written-marks = q ∙ ap (λ (k : ℕ). listed mark_in (reply k l) ms) z;
    }

pub times-told : {l : List Float} (before after : List Float) (w : Option ℕ) (r : Result ℕ Refusal) → r ≡ count_of w → TimesWritten l before after w → ListsTimes l before after r
times-told {l = l} before after w r q p = subst (λ (x : Result ℕ Refusal). ListsTimes l before after x) (sym q) (times-listed l before after w p)

pub samples-told : (l : List StageSample) (ts ts' : List Float) (ms ms' : List ℕ) (w : Option ℕ) (r : Result ℕ Refusal) → r ≡ count_of w → SamplesWritten l ts ts' ms ms' w → ListsSamples l ts ts' ms ms' r
samples-told l ts ts' ms ms' w r q p = subst (λ (x : Result ℕ Refusal). ListsSamples l ts ts' ms ms' x) (sym q) (samples-listed l ts ts' ms ms' w p)
