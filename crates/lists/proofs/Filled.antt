-- A list that is written over another, entry by entry: what the loop keeps, and what it leaves. Assumes nothing.
use mathlib.Core.Path.{◌≡◌, refl, sym, ap, ap₂, ◌∙◌}
use mathlib.Core.List.{List, [], ◌∷◌, ◌++◌, map}
use Prim.Native.Nat.{ℕ, zero, suc, ◌+◌, ◌≤◌, ◌<◌}
use native.Mathlib.Numerals.{add-one}
use native.Mathlib.Omega.{arith}
use lib.ListN.{length, get_or, take, drop, set, length-set, length-map}
use lib.Seq.{take-suc, take-suc-set, take_all, get_or-drop, drop-set-lt, drop-drop}

-- the first i entries of xs are those of l
pub record Filled {A : Type 0} (l xs : List A) (i : ℕ) : Type 0 where
  pub within : i ≤ length l
  pub room : length l ≤ length xs
  pub front : take i xs ≡ take i l

module _ {A : Type 0} (l : List A) where
  pub fill_start : (xs : List A) → length l ≤ length xs → Filled l xs 0
  fill_start xs h = record { within = omega arith; room = h; front = refl }

  pub fill-next : (xs : List A) (i : ℕ) (x d : A) → Filled l xs i → i < length l → x ≡ get_or l i d → Filled l (set xs i x) (i + 1)
  fill-next xs i x d f h e = record {
    within = omega arith;
    room = omega (arith, length-set xs i x, f.room);
    front = rw add-one (take-suc-set xs i x (omega (arith, f.room)) ∙ ap₂ (λ (a b : List A). a ++ b) f.front (ap (λ (y : A). y ∷ []) e) ∙ sym (take-suc l i d h));
  }

  pub fill_end : (xs : List A) (i : ℕ) → Filled l xs i → length l ≤ i → take (length l) xs ≡ l
  fill_end xs i f h =
      let e : i ≡ length l = omega (arith, f.within) in
      ap (λ (n : ℕ). take n xs) (sym e) ∙ f.front ∙ take_all i l h

  -- a list as long
  pub fill-whole : (xs : List A) (i : ℕ) → Filled l xs i → length l ≤ i → length xs ≡ length l → xs ≡ l
  fill-whole xs i f h e = sym (take_all (length l) xs (omega arith)) ∙ fill_end xs i f h

-- ---- each entry changed in its place

pub record Changed {A : Type 0} (f : A → A) (xs₀ xs : List A) (i : ℕ) : Type 0 where
  pub filled : Filled (map f xs₀) xs i
  pub same : length xs ≡ length xs₀
  pub rest : drop i xs ≡ drop i xs₀

module _ {A : Type 0} (f : A → A) (xs₀ : List A) where
  pub change-start : Changed f xs₀ xs₀ 0
  change-start = record { filled = fill_start (map f xs₀) xs₀ (omega (arith, length-map xs₀ f)); same = refl; rest = refl }

  unchanged : (xs : List A) (i : ℕ) (d : A) → drop i xs ≡ drop i xs₀ → get_or xs i d ≡ get_or xs₀ i d
  unchanged xs i d e =
      let o : i + 0 ≡ i = omega arith in
      ap (λ (n : ℕ). get_or xs n d) (sym o) ∙ sym (get_or-drop i xs 0 d) ∙ ap (λ (l : List A). get_or l 0 d) e ∙ get_or-drop i xs₀ 0 d ∙ ap (λ (n : ℕ). get_or xs₀ n d) o

  map_at : (l : List A) (i : ℕ) (d c : A) → i < length l → f (get_or l i d) ≡ get_or (map f l) i c
  map_at [] i d c h = absurd (omega arith)
  map_at (x ∷ l) zero d c h = refl
  map_at (x ∷ l) (suc i) d c h = map_at l i d c (omega arith)

  pub change-next : (xs : List A) (i : ℕ) (d : A) → Changed f xs₀ xs i → i < length xs → Changed f xs₀ (set xs i (f (get_or xs i d))) (i + 1)
  change-next xs i d s h = record {
    filled = fill-next (map f xs₀) xs i (f (get_or xs i d)) d s.filled (omega (arith, length-map xs₀ f, s.same)) (ap f (unchanged xs i d s.rest) ∙ map_at xs₀ i d d (omega (arith, s.same)));
    same = length-set xs i (f (get_or xs i d)) ∙ s.same;
    rest = drop-set-lt (i + 1) xs i (f (get_or xs i d)) (omega arith) ∙ sym (drop-drop 1 i xs) ∙ ap (drop 1) s.rest ∙ drop-drop 1 i xs₀;
  }

  pub change-end : (xs : List A) (i : ℕ) → Changed f xs₀ xs i → length xs ≤ i → xs ≡ map f xs₀
  change-end xs i s h = fill-whole (map f xs₀) xs i s.filled (omega (arith, length-map xs₀ f, s.same)) (s.same ∙ sym (length-map xs₀ f))
