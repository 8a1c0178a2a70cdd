-- Counts that are added up one after the other, each within the limit. Assumes nothing.
use Prim.Native.Nat.{ℕ, suc, ◌+◌, ◌*◌, ◌^◌, ◌≤◌, ◌<◌}
use native.Mathlib.Omega.{arith}
use mathlib.Core.Path.{◌≡◌, refl, ap, ◌∙◌}
use mathlib.Core.Bool.{Bool, true, false, ◌||◌}
use mathlib.Core.List.{List, [], ◌∷◌}
use lib.Dec.{ltb}
use lib.ListN.{length, get_or, drop, drop_of_length-le}
use lib.Seq.{drop-cons}
use borrow.Author.Tests.{le-ltb, lt-ltb}
use Rattle.definitions.specs.Lists.{any}
use Rattle.std.specs.List as list
use Rattle.std.proofs.lemmas.List.Recursion.{is_sum_by}
use Rattle.laws.specs.list.Every.{Every}
use Rattle.definitions.specs.ClipSet.{max_clips, max_samples}
use Rattle.dispatch.specs.SetSamples.{sum}
use Rattle.set_samples.specs.Parting.{FewClips}

module _ (l : List ℕ) where
  abbrev above : List ℕ → Bool
  above = any (λ (c : ℕ). ltb max_samples c)

  -- the first i are within the limit and add up to t
  pub record Adding (i t : ℕ) : Type 0 where
    pub low : t ≤ i * max_samples
    pub rest : t + sum (drop i l) ≡ sum l
    pub same : above l ≡ above (drop i l)

  pub adding : Adding 0 0
  adding = record { low = omega arith; rest = omega arith; same = refl }

  above-here : (i : ℕ) (b : Bool) → i < length l → ltb max_samples (get_or l i 0) ≡ b → above (drop i l) ≡ (b || above (drop (suc i) l))
  above-here i b h e = ap above (drop-cons l i 0 h) ∙ ap (λ (b : Bool). b || above (drop (suc i) l)) e

  pub add-next : (i t : ℕ) → Adding i t → i < length l → get_or l i 0 ≤ max_samples → Adding (i + 1) (t + get_or l i 0)
  add-next i t a h k =
      let one : i + 1 ≡ suc i = omega arith in
      record {
        low = omega (arith, a.low);
        rest = rw one (omega (arith, a.rest, ap sum (drop-cons l i 0 h)));
        same = rw one (a.same ∙ above-here i false h (le-ltb max_samples (get_or l i 0) k));
      }

  pub add-above : (i t : ℕ) → Adding i t → i < length l → max_samples < get_or l i 0 → above l ≡ true
  add-above i t a h k = a.same ∙ above-here i true h (lt-ltb max_samples (get_or l i 0) k)

  pub added : (i t : ℕ) → Adding i t → length l ≤ i → (above l ≡ false) × (t ≡ sum l)
  added i t a h =
      let z : drop i l ≡ [] = drop_of_length-le l h in
      (a.same ∙ ap above z, omega (arith, a.rest, ap sum z))

-- ---- the sets' clips, as std adds them up

pub sum_is : (l : List ℕ) → sum l ≡ list.sum l
sum_is = is_sum_by sum (λ x. x) refl (λ x xs. refl)

few-low : (l : List ℕ) → Every (λ (c : ℕ). c ≤ max_clips) l → sum l ≤ length l * max_clips
few-low [] e = omega arith
few-low (c ∷ l) e = omega (arith, e.0, few-low l e.1)

pub clips-fit : (clips : List ℕ) → FewClips clips → list.sum clips < 2 ^ 64
clips-fit clips f = omega (arith, few-low clips f.each, f.few, sum_is clips)
