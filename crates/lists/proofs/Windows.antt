-- What `windows(n).any(..)` answers, as a test of the pairs of neighbours of the list, or of its threes. Assumes nothing.
use Rattle.std.proofs.Common.{◌≡◌, ℕ, ◌+◌, ◌<◌, ◌≤◌, Bool, true, false, not, List, [], ◌∷◌, length, get_or, sym, refl, ap, ap₂, ◌∙◌, subst, arith, add-one, Bor, Option, Some, None, MatchBool, inl, inr, ltb, le-ltb, lt-ltb, Less, Equal, Greater}
use Rattle.std.specs.Option.{IfSome, IsSomeAnd, option_map}
use Rattle.std.specs.List.{FoldsTo, IsSubsliceAt, IsAllAdjacentAnswer}
use Rattle.std.specs.Iterator.{Yields}
use Rattle.std.specs.Slice.Iter.{windows_steps, windows_rest, windows_size}
use Rattle.laws.specs.list.Every.{Every}
use Rattle.laws.proofs.list.Every.{every_take, every_drop}
use Rattle.std.specs.Iterator.Runs.{Run, IsWindowsRun, AnyItemGives, AllItemsGive}
use Rattle.std.proofs.lemmas.List.Recursion.{or_at, or_from_places}
use Rattle.std.specs.Ordering.{nat_cmp, is_le}
use Rattle.std.specs.declared.cmp.Ordering.{Ordering}
use Rattle.std.specs.Cmp.{nat_cmp_is}
use Rattle.gf.proofs.KeyLaws.{nat-three}
use denote.Param.Members.{Mut, Called}
use Rattle.definitions.specs.Lists.{any, pairs}
use Rattle.laws.proofs.set.Stored.{length_pairs, pairs-at}

-- ---- neighbours

module _ {A : Type 0} where
  within : (xs : List A) (i : ℕ) → i + 1 < length xs → i < length (pairs xs)
  within [] i h = absurd (omega arith)
  within (x ∷ xs) i h = omega (arith, length_pairs x xs)

  inner : (xs : List A) (i : ℕ) → i < length (pairs xs) → i + 1 < length xs
  inner [] i h = absurd (omega arith)
  inner (x ∷ xs) i h = omega (arith, length_pairs x xs)

  pair-at : (xs : List A) (i : ℕ) (d : A) → i + 1 < length xs → get_or (pairs xs) i (d, d) ≡ (get_or xs i d, get_or xs (i + 1) d)
  pair-at xs i d h = rw add-one (pairs-at xs i d (omega arith))

-- ---- windows

-- the window at i
pub record Window {A : Type 0} (n : ℕ) (xs : List A) (i : ℕ) (w : List A) : Type 0 where
  pub inside : i + n ≤ length xs
  pub reads : (j : ℕ) (d : A) → j < n → get_or w j d ≡ get_or xs (i + j) d

-- some window passes, or none does
abbrev pub WindowsAnswer : {A : Type 0} → (List A → Bool) → ℕ → List A → Bool → Type 0
WindowsAnswer {A} test n xs r = MatchBool r ((i : ℕ) × (w : List A) × Window n xs i w × (test w ≡ true)) ((i : ℕ) → i + n ≤ length xs → (w : List A) × Window n xs i w × (test w ≡ false))

module _ {S F A : Type 0} {steps : S → Option (Bor (List A)) → S → Type 0} (p : Run steps) (g : Mut F (Bor (List A) × Unit {0}) Bool) (f : F)
    (test : List A → Bool) (n : ℕ) (xs : List A) (acts : (x : Bor (List A)) (b : Bool) (q : F) → Called g f (x, tt) b q → (q ≡ f) × (b ≡ test x.now)) where
  abbrev Placed : ℕ → Bor (List A) → Type 0
  Placed k x = (length x.now ≡ n) × (k + n ≤ length xs) × IsSubsliceAt n xs k x.now

  window : (k : ℕ) (x : Bor (List A)) → Placed k x → Window n xs k x.now
  window k x h = record { inside = h.1; reads = h.2.2 }

  passing : (k : ℕ) (o : Option (Bor (List A))) → IfSome o (Placed k) → IsSomeAnd o (λ x. Called g f (x, tt) true f)
      → (i : ℕ) × (w : List A) × Window n xs i w × (test w ≡ true)
  passing k None h e = absurd e
  passing k (Some x) h e = (k, x.now, window k x h, sym (acts x true f e).1)

  failing : (k : ℕ) (o : Option (Bor (List A))) (d y : A) → option_map (λ (x : Bor (List A)). get_or x.now 0 d) o ≡ Some y → IfSome o (Placed k)
      → IfSome o (λ x. Called g f (x, tt) false f) → (w : List A) × Window n xs k w × (test w ≡ false)
  failing k None d y e h a = absurd cc
  failing k (Some x) d y e h a = (x.now, window k x h, sym (acts x false f a).1)

  answer : (r : Bool) (d : A) → IsWindowsRun p n xs → MatchBool r (AnyItemGives p g f true) ((p.whole ≡ true) × AllItemsGive p g f false) → WindowsAnswer test n xs r
  answer true d run a = let k = a (λ x b q h. (acts x.0 b q h).0) in passing k.0 (p.at k.0) (run.2 k.0) k.2
  answer false d run a = λ i h.
      let inside : i < p.len = omega (arith, run.1 a.0) in
      failing i (p.at i) d _ (run.3 i d inside) (run.2 i) (a.1 (λ x b q h. (acts x.0 b q h).0) i)

  pub windows-any : (r : Bool) (d : A) (m : ℕ) (ys : List A) → m ≡ n → ys ≡ xs → 0 < n → (0 < m → IsWindowsRun p m ys)
      → MatchBool r (AnyItemGives p g f true) ((p.whole ≡ true) × AllItemsGive p g f false) → WindowsAnswer test n xs r
  windows-any r d m ys e h above run a =
      answer r d (subst (λ (l : List A). IsWindowsRun p n l) h (subst (λ (k : ℕ). IsWindowsRun p k ys) e (run (omega arith)))) a

module _ {A : Type 0} (p : A × A → Bool) (xs : List A) (d : A) where
  read_pair : (i : ℕ) (w : List A) → Window 2 xs i w → p (get_or w 0 d, get_or w 1 d) ≡ p (get_or (pairs xs) i (d, d))
  read_pair i w v =
      let z : i + 0 ≡ i = omega arith in
      let h : i + 1 < length xs = omega (arith, v.inside) in
      ap p (ap₂ (λ (a b : A). (a, b)) (v.reads 0 d (omega arith) ∙ ap (λ (k : ℕ). get_or xs k d) z) (v.reads 1 d (omega arith)) ∙ sym (pair-at xs i d h))

  pub pairs-any : (r : Bool) → WindowsAnswer (λ (w : List A). p (get_or w 0 d, get_or w 1 d)) 2 xs r → r ≡ any p (pairs xs)
  pairs-any true a =
      let v = a.2 in
      sym (or_at (any p) p refl (λ _ _. refl) (pairs xs) a.0 (d, d) (within xs a.0 (omega (arith, v.inside))) (sym (read_pair a.0 a.1 v) ∙ a.3))
  pairs-any false a =
      sym (or_from_places (any p) p refl (λ _ _. refl) (pairs xs) (d, d) (λ i h.
      let b = a i (omega (arith, inner xs i h)) in sym (read_pair i b.0 b.1) ∙ b.2))

module _ {A : Type 0} (p : (A × A) × (A × A) → Bool) (xs : List A) (d : A) where
  abbrev three : List A → (A × A) × (A × A)
  three w = ((get_or w 0 d, get_or w 1 d), (get_or w 1 d, get_or w 2 d))

  read_three : (i : ℕ) (w : List A) → Window 3 xs i w → p (three w) ≡ p (get_or (pairs xs) i (d, d), get_or (pairs xs) (i + 1) (d, d))
  read_three i w v =
      let z : i + 0 ≡ i = omega arith in
      let n : i + 1 + 1 ≡ i + 2 = omega arith in
      let h : i + 1 < length xs = omega (arith, v.inside) in
      let k : i + 1 + 1 < length xs = omega (arith, v.inside) in
      rw (pair-at xs i d h, pair-at xs (i + 1) d k, n, v.reads 0 d (omega arith), v.reads 1 d (omega arith), v.reads 2 d (omega arith), z)

  pub threes-any : (r : Bool) → WindowsAnswer (λ (w : List A). p (three w)) 3 xs r → r ≡ any p (pairs (pairs xs))
  threes-any true a =
      let v = a.2 in
      sym (or_at (any p) p refl (λ _ _. refl) (pairs (pairs xs)) a.0 ((d, d), (d, d)) (within (pairs xs) a.0 (within xs (a.0 + 1) (omega (arith, v.inside))))
      (ap p (pair-at (pairs xs) a.0 (d, d) (within xs (a.0 + 1) (omega (arith, v.inside)))) ∙ sym (read_three a.0 a.1 v) ∙ a.3))
  threes-any false a =
      sym (or_from_places (any p) p refl (λ _ _. refl) (pairs (pairs xs)) ((d, d), (d, d)) (λ i h.
      let k = inner (pairs xs) i h in
      let b = a i (omega (arith, inner xs (i + 1) k)) in
      ap p (pair-at (pairs xs) i (d, d) k) ∙ sym (read_three i b.0 b.1) ∙ b.2))

-- what `is_sorted` and `is_sorted_by` answer, where `e` says that two neighbours stand in order, and p that they don't
module _ {A : Type 0} (e : A → A → Bool) (p : A × A → Bool) (same : (x y : A) → p (x, y) ≡ not (e x y)) (xs : List A) (d : A) where
  here : (k : ℕ) (b : Bool) → k + 1 < length xs → e (get_or xs k d) (get_or xs (k + 1) d) ≡ b → p (get_or (pairs xs) k (d, d)) ≡ not b
  here k b h t = ap p (pair-at xs k d h) ∙ same (get_or xs k d) (get_or xs (k + 1) d) ∙ ap not t

  all-stand : ((k : ℕ) → k + 1 < length xs → e (get_or xs k d) (get_or xs (k + 1) d) ≡ true) → false ≡ any p (pairs xs)
  all-stand a = sym (or_from_places (any p) p refl (λ _ _. refl) (pairs xs) (d, d) (λ i h. here i true (inner xs i h) (a i (inner xs i h))))

  one-falls : (k : ℕ) → k + 1 < length xs → e (get_or xs k d) (get_or xs (k + 1) d) ≡ false → true ≡ any p (pairs xs)
  one-falls k h t = sym (or_at (any p) p refl (λ _ _. refl) (pairs xs) k (d, d) (within xs k h) (here k false h t))

  pub neighbours-sorted : (r : Bool) → IsAllAdjacentAnswer (λ x y b. e x y ≡ b) xs r → not r ≡ any p (pairs xs)
  neighbours-sorted true a = all-stand (λ k h. a k d h)
  neighbours-sorted false a = one-falls a.0 a.1 (a.2 d)

  pub neighbours-sorted-by : (r : Bool) → IsAllAdjacentAnswer (λ x y b. b ≡ e x y) xs r → not r ≡ any p (pairs xs)
  neighbours-sorted-by true a = all-stand (λ k h. sym (a k d h))
  neighbours-sorted-by false a = one-falls a.0 a.1 (sym (a.2 d))

-- of two numbers
pub falls-is : (x y : ℕ) → ltb y x ≡ not (is_le (nat_cmp x y))
falls-is x y = elim (nat-three x y) [
  | inl l ↦ le-ltb y x (omega arith) ∙ ap (λ (o : Ordering). not (is_le o)) (nat_cmp_is x y Less l)
  | inr r ↦ elim r [
    | inl s ↦ le-ltb y x (omega arith) ∙ ap (λ (o : Ordering). not (is_le o)) (nat_cmp_is x y Equal s)
    | inr g ↦ lt-ltb y x g ∙ ap (λ (o : Ordering). not (is_le o)) (nat_cmp_is x y Greater g)
  ]
]

-- what holds of each entry of a list holds of those that its windows have left, and of the entries of a window
module _ {A : Type 0} (P : A → Type 0) where
  left_over : (xs : List (Bor (List A))) (s t : _) → Yields windows_steps s xs t → Every P (windows_rest s) → (windows_size t ≡ windows_size s) × Every P (windows_rest t)
  left_over [] s t y e = (ap windows_size (sym y), subst (λ (w : _). Every P (windows_rest w)) y e)
  left_over (x ∷ xs) s t y e =
      let k = y.1 in
      let l = left_over xs y.0 t y.2 (subst (Every P) (sym k.1.2) (every_drop P 1 (windows_rest s) e)) in
      (l.0 ∙ k.0, l.1)

  pub every-window : (xs : List (Bor (List A))) (s t u : _) (x : Bor (List A)) → Yields windows_steps s xs t → windows_steps t (Some x) u → Every P (windows_rest s)
      → (length x.now ≡ windows_size s) × Every P x.now
  every-window xs s t u x y k e =
      let l = left_over xs s t y e in
      (k.1.3 ∙ l.0, subst (Every P) (sym k.1.1) (every_take P (windows_size t) (windows_rest t) l.1))

-- a closure that no call changes is as it was after any calls
pub kept : {P A : Type 0} (R : P → A → P → Type 0) (p : P) → ((x : A) (q : P) → R p x q → q ≡ p) → (xs : List A) (q : P) → FoldsTo R p xs q → q ≡ p
kept R p same [] q f = sym f
kept R p same (x ∷ xs) q f = kept R p same xs q (subst (λ r. FoldsTo R r xs q) (same x f.0 f.1) f.2)
