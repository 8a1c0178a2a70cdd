-- A property of every entry of a list, and a relation between neighbours: by entries, by places, and through `map`. Assumes nothing.
use mathlib.Core.Path.{◌≡◌, refl, sym, ap, ◌∙◌, subst}
use mathlib.Core.Logic.{inl, inr}
use Prim.Native.Nat.{ℕ, zero, suc, ◌≤◌, ◌<◌, zero-le, suc-le-suc}
use native.Mathlib.Nat.{not-suc-le-zero, le_of_suc-le-suc}
use mathlib.Core.Bool.{Bool, true, false, not, cond}
use native.Mathlib.Omega.{arith}
use native.Mathlib.Decide.{dec_le}
use mathlib.Core.List.{List, [], ◌∷◌, ◌++◌, map, append_assoc}
use lib.Dec.{T}
use lib.ListN.{length, get_or, take, drop, set}
use lib.Ieee.Fits.{and_l, and_r}
use Rattle.definitions.specs.Lists.{any, all, keep, gather, below, pairs_from, pairs, zip_with}
use Rattle.laws.proofs.list.Tests.{both, or-false, or_split, not-false}
use Rattle.laws.specs.list.Every.{Every, ChainFrom, Chain}

module _ {A : Type 0} where
  module _ (P : A → Type 0) where
    pub every-at : (xs : List A) (i : ℕ) (d : A) → Every P xs → i < length xs → P (get_or xs i d)
    every-at [] i d e h = absurd (not-suc-le-zero h)
    every-at (x ∷ xs) zero d e h = e.0
    every-at (x ∷ xs) (suc i) d e h = every-at xs i d e.1 (le_of_suc-le-suc h)

    pub every_set : (xs : List A) (i : ℕ) (a : A) → Every P xs → P a → Every P (set xs i a)
    every_set [] i a e p = tt
    every_set (x ∷ xs) zero a e p = (p, e.1)
    every_set (x ∷ xs) (suc i) a e p = (e.0, every_set xs i a e.1 p)

    pub every_append : (xs ys : List A) → Every P xs → Every P ys → Every P (xs ++ ys)
    every_append [] ys p q = q
    every_append (x ∷ xs) ys p q = (p.0, every_append xs ys p.1 q)

    pub every_drop : (n : ℕ) (xs : List A) → Every P xs → Every P (drop n xs)
    every_drop zero xs e = e
    every_drop (suc n) [] e = tt
    every_drop (suc n) (x ∷ xs) e = every_drop n xs e.1

    pub every_take : (n : ℕ) (xs : List A) → Every P xs → Every P (take n xs)
    every_take zero xs e = tt
    every_take (suc n) [] e = tt
    every_take (suc n) (x ∷ xs) e = (e.0, every_take n xs e.1)

  pub every_map : (P Q : A → Type 0) → ((x : A) → P x → Q x) → (xs : List A) → Every P xs → Every Q xs
  every_map P Q f [] e = tt
  every_map P Q f (x ∷ xs) e = (f x e.0, every_map P Q f xs e.1)

  pub every-both : (P Q : A → Type 0) (xs : List A) → Every P xs → Every Q xs → Every (λ (x : A). P x × Q x) xs
  every-both P Q [] p q = tt
  every-both P Q (x ∷ xs) p q = ((p.0, q.0), every-both P Q xs p.1 q.1)

  -- a test that no entry passes
  pub any-every : (p : A → Bool) (xs : List A) → any p xs ≡ false → Every (λ (x : A). p x ≡ false) xs
  any-every p [] e = tt
  any-every p (x ∷ xs) e = let o = or-false (p x) (any p xs) e in (o.0, any-every p xs o.1)

  -- a refusal where some entry fails the test p
  pub any-not-every : (p : A → Bool) (xs : List A) → any (λ (x : A). not (p x)) xs ≡ false → Every (λ (x : A). T (p x)) xs
  any-not-every p xs e = every_map (λ (x : A). not (p x) ≡ false) (λ (x : A). T (p x)) (λ x h. not-false (p x) h) xs (any-every (λ (x : A). not (p x)) xs e)

  pub every-all : (p : A → Bool) (xs : List A) → Every (λ (x : A). T (p x)) xs → T (all p xs)
  every-all p [] h = tt
  every-all p (x ∷ xs) h = both (p x) (all p xs) h.0 (every-all p xs h.1)

  pub all-every : (p : A → Bool) (xs : List A) → T (all p xs) → Every (λ (x : A). T (p x)) xs
  all-every p [] h = tt
  all-every p (x ∷ xs) h = (and_l (p x) (all p xs) h, all-every p xs (and_r (p x) (all p xs) h))

  -- an entry that passes, with what holds of every entry
  pub any-with : (p : A → Bool) (Q : A → Type 0) (l : List A) → T (any p l) → Every Q l → (x : A) × T (p x) × Q x
  any-with p Q [] h q = absurd h
  any-with p Q (x ∷ xs) h q = elim (or_split (p x) (any p xs) h) [
    | inl a ↦ (x, a, q.0)
    | inr b ↦ any-with p Q xs b q.1
  ]

  pub every-zip : (P Q R : A → Type 0) → ((x : A) → P x → Q x → R x) → (l : List A) → Every P l → Every Q l → Every R l
  every-zip P Q R f [] h k = tt
  every-zip P Q R f (x ∷ xs) h k = (f x h.0 k.0, every-zip P Q R f xs h.1 k.1)

  pub every-left : (P : A → Type 0) (a b : List A) → Every P (a ++ b) → Every P a
  every-left P [] b h = tt
  every-left P (x ∷ a) b h = (h.0, every-left P a b h.1)

  pub every-right : (P : A → Type 0) (a b : List A) → Every P (a ++ b) → Every P b
  every-right P [] b h = h
  every-right P (x ∷ a) b h = every-right P a b h.1

  pub every-keep : (P : A → Type 0) (f : A → Bool) (l : List A) → Every P l → Every P (keep f l)
  every-keep P f [] h = tt
  every-keep P f (x ∷ xs) h = go (f x) (every-keep P f xs h.1)
    where
      go : (b : Bool) → Every P (keep f xs) → Every P (cond b (x ∷ keep f xs) (keep f xs))
      go true r = (h.0, r)
      go false r = r

  -- the entries that are kept pass
  pub kept-pass : (f : A → Bool) (l : List A) → Every (λ (x : A). T (f x)) (keep f l)
  kept-pass f [] = tt
  kept-pass f (x ∷ l) = go (f x) (λ h. h) (kept-pass f l)
    where
      go : (b : Bool) → (T b → T (f x)) → Every (λ (y : A). T (f y)) (keep f l) → Every (λ (y : A). T (f y)) (cond b (x ∷ keep f l) (keep f l))
      go true h r = (h tt, r)
      go false h r = r

  -- what holds of the entries that pass
  pub every-kept : (P : A → Type 0) (f : A → Bool) (l : List A) → Every P (keep f l) → Every (λ (x : A). T (f x) → P x) l
  every-kept P f [] h = tt
  every-kept P f (x ∷ xs) h = go (f x) h (every-kept P f xs)
    where
      go : (b : Bool) → Every P (cond b (x ∷ keep f xs) (keep f xs)) → (Every P (keep f xs) → Every (λ (y : A). T (f y) → P y) xs) → (T b → P x) × Every (λ (y : A). T (f y) → P y) xs
      go true k r = (λ _. k.0, r k.1)
      go false k r = (λ b. absurd b, r k)

  pub every-get_or : (P : A → Type 0) (l : List A) (i : ℕ) (d : A) → Every P l → P d → P (get_or l i d)
  every-get_or P [] i d h k = k
  every-get_or P (x ∷ xs) zero d h k = h.0
  every-get_or P (x ∷ xs) (suc i) d h k = every-get_or P xs i d h.1 k

  -- by places, as a program reads a list
  pub every-by : (P : A → Type 0) (l : List A) (d : A) → ((i : ℕ) → i < length l → P (get_or l i d)) → Every P l
  every-by P [] d h = tt
  every-by P (x ∷ xs) d h = (h 0 (omega arith), every-by P xs d (λ i k. h (suc i) (omega arith)))

  pub chain-at : (R : A → A → Type 0) (xs : List A) (i : ℕ) (d : A) → Chain R xs → suc i < length xs → R (get_or xs i d) (get_or xs (suc i) d)
  chain-at R [] i d c h = absurd (not-suc-le-zero h)
  chain-at R (x ∷ []) i d c h = absurd (not-suc-le-zero (le_of_suc-le-suc h))
  chain-at R (x ∷ y ∷ ys) zero d c h = c.0
  chain-at R (x ∷ y ∷ ys) (suc i) d c h = chain-at R (y ∷ ys) i d c.1 (le_of_suc-le-suc h)

  pub chain-tail : (R : A → A → Type 0) (x : A) (xs : List A) → ChainFrom R x xs → Chain R xs
  chain-tail R x [] c = tt
  chain-tail R x (y ∷ ys) c = c.1

  -- of a transitive R: not of neighbours alone
  module _ (R : A → A → Type 0) (trans : (x y z : A) → R x y → R y z → R x z) where
    far_from : (x : A) (xs : List A) → ChainFrom R x xs → Every (R x) xs
    far_from x [] c = tt
    far_from x (y ∷ ys) c = (c.0, every_map (R y) (R x) (λ z h. trans x y z c.0 h) ys (far_from y ys c.1))

    pub chain-far : (xs : List A) (i j : ℕ) (d : A) → Chain R xs → i < j → j < length xs → R (get_or xs i d) (get_or xs j d)
    chain-far [] i j d c l h = absurd (not-suc-le-zero h)
    chain-far (x ∷ xs) i zero d c l h = absurd (not-suc-le-zero l)
    chain-far (x ∷ xs) zero (suc j) d c l h = every-at (R x) xs j d (far_from x xs c) (le_of_suc-le-suc h)
    chain-far (x ∷ xs) (suc i) (suc j) d c l h = chain-far xs i j d (chain-tail R x xs c) (le_of_suc-le-suc l) (le_of_suc-le-suc h)

  -- from R to S, where every entry is a P
  module _ (P : A → Type 0) (R S : A → A → Type 0) (f : (x y : A) → P x → P y → R x y → S x y) where
    chain-from : (x : A) (xs : List A) → P x → Every P xs → ChainFrom R x xs → ChainFrom S x xs
    chain-from x [] p e c = tt
    chain-from x (y ∷ ys) p e c = (f x y p e.0 c.0, chain-from y ys e.0 e.1 c.1)

    pub chain-map : (xs : List A) → Every P xs → Chain R xs → Chain S xs
    chain-map [] e c = tt
    chain-map (x ∷ xs) e c = chain-from x xs e.0 e.1 c

  chain-both-from : (R S : A → A → Type 0) (x : A) (xs : List A) → ChainFrom R x xs → ChainFrom S x xs → ChainFrom (λ (a b : A). R a b × S a b) x xs
  chain-both-from R S x [] c d = tt
  chain-both-from R S x (y ∷ ys) c d = ((c.0, d.0), chain-both-from R S y ys c.1 d.1)

  pub chain-both : (R S : A → A → Type 0) (xs : List A) → Chain R xs → Chain S xs → Chain (λ (a b : A). R a b × S a b) xs
  chain-both R S [] c d = tt
  chain-both R S (x ∷ xs) c d = chain-both-from R S x xs c d

-- tests of the pairs of neighbours
module _ {A : Type 0} (P : A × A → Type 0) where
  pairs-chain-from : (x : A) (xs : List A) → Every P (pairs_from x xs) → ChainFrom (λ (a b : A). P (a, b)) x xs
  pairs-chain-from x [] e = tt
  pairs-chain-from x (y ∷ ys) e = (e.0, pairs-chain-from y ys e.1)

  pub pairs-chain : (xs : List A) → Every P (pairs xs) → Chain (λ (a b : A). P (a, b)) xs
  pairs-chain [] e = tt
  pairs-chain (x ∷ xs) e = pairs-chain-from x xs e

-- ---- through `map`

module _ {A B : Type 0} (g : A → B) where
  pub every-of-map : (P : B → Type 0) (xs : List A) → Every P (map g xs) → Every (λ (x : A). P (g x)) xs
  every-of-map P [] e = tt
  every-of-map P (x ∷ xs) e = (e.0, every-of-map P xs e.1)

  pub every-to-map : (P : B → Type 0) (xs : List A) → Every (λ (x : A). P (g x)) xs → Every P (map g xs)
  every-to-map P [] e = tt
  every-to-map P (x ∷ xs) e = (e.0, every-to-map P xs e.1)

  chain-to-map-from : (R : B → B → Type 0) (x : A) (xs : List A) → ChainFrom (λ (a b : A). R (g a) (g b)) x xs → ChainFrom R (g x) (map g xs)
  chain-to-map-from R x [] c = tt
  chain-to-map-from R x (y ∷ ys) c = (c.0, chain-to-map-from R y ys c.1)

  pub chain-to-map : (R : B → B → Type 0) (xs : List A) → Chain (λ (a b : A). R (g a) (g b)) xs → Chain R (map g xs)
  chain-to-map R [] c = tt
  chain-to-map R (x ∷ xs) c = chain-to-map-from R x xs c

-- ---- through `zip_with`

module _ {A B C : Type 0} (f : A → B → C) where
  pub length-zip : (xs : List A) (ys : List B) → length (zip_with f xs ys) ≤ length xs
  length-zip [] ys = zero-le
  length-zip (x ∷ xs) [] = zero-le
  length-zip (x ∷ xs) (y ∷ ys) = suc-le-suc (length-zip xs ys)

  pub every-zip-left : (P : A → Type 0) (Q : C → Type 0) → ((x : A) (y : B) → P x → Q (f x y)) → (xs : List A) (ys : List B) → Every P xs → Every Q (zip_with f xs ys)
  every-zip-left P Q g [] ys e = tt
  every-zip-left P Q g (x ∷ xs) [] e = tt
  every-zip-left P Q g (x ∷ xs) (y ∷ ys) e = (g x y e.0, every-zip-left P Q g xs ys e.1)

  pub every-zip-right : (P : B → Type 0) (Q : C → Type 0) → ((x : A) (y : B) → P y → Q (f x y)) → (xs : List A) (ys : List B) → Every P ys → Every Q (zip_with f xs ys)
  every-zip-right P Q g [] ys e = tt
  every-zip-right P Q g (x ∷ xs) [] e = tt
  every-zip-right P Q g (x ∷ xs) (y ∷ ys) e = (g x y e.0, every-zip-right P Q g xs ys e.1)

  pub zip-at : (xs : List A) (ys : List B) (i : ℕ) (a : A) (b : B) (c : C) → i < length xs → i < length ys → get_or (zip_with f xs ys) i c ≡ f (get_or xs i a) (get_or ys i b)
  zip-at [] ys i a b c h g = absurd (not-suc-le-zero h)
  zip-at (x ∷ xs) [] i a b c h g = absurd (not-suc-le-zero g)
  zip-at (x ∷ xs) (y ∷ ys) zero a b c h g = refl
  zip-at (x ∷ xs) (y ∷ ys) (suc i) a b c h g = zip-at xs ys i a b c (le_of_suc-le-suc h) (le_of_suc-le-suc g)

-- ---- through `gather`, and for each of two lists

module _ {A B : Type 0} where
  pub every-gather : (P : A → Type 0) (Q : B → Type 0) (f : A → List B) → ((x : A) → P x → Every Q (f x)) → (l : List A) → Every P l → Every Q (gather f l)
  every-gather P Q f g [] h = tt
  every-gather P Q f g (x ∷ xs) h = every_append Q (f x) (gather f xs) (g x h.0) (every-gather P Q f g xs h.1)

  pub gather_append : (f : A → List B) (a b : List A) → gather f (a ++ b) ≡ gather f a ++ gather f b
  gather_append f [] b = refl
  gather_append f (x ∷ a) b = ap (λ (l : List B). f x ++ l) (gather_append f a b) ∙ sym (append_assoc (f x) (gather f a) (gather f b))

  -- for each of two lists in either order
  pub every-swap : (R : A → B → Type 0) (a : List A) (b : List B) → Every (λ (x : A). Every (λ (y : B). R x y) b) a → Every (λ (y : B). Every (λ (x : A). R x y) a) b
  every-swap R a [] h = tt
  every-swap R a (y ∷ b) h = (firsts a h, every-swap R a b (rests a h))
    where
      firsts : (l : List A) → Every (λ (x : A). R x y × Every (λ (z : B). R x z) b) l → Every (λ (x : A). R x y) l
      firsts [] k = tt
      firsts (x ∷ l) k = (k.0.0, firsts l k.1)

      rests : (l : List A) → Every (λ (x : A). R x y × Every (λ (z : B). R x z) b) l → Every (λ (x : A). Every (λ (z : B). R x z) b) l
      rests [] k = tt
      rests (x ∷ l) k = (k.0.1, rests l k.1)

-- ---- for each of 0, 1, .., n - 1

pub every-below : (n : ℕ) → Every (λ (p : ℕ). p < n) (below n)
every-below zero = tt
every-below (suc n) = every_append (λ (p : ℕ). p < suc n) (below n) (n ∷ []) (every_map (λ (p : ℕ). p < n) (λ (p : ℕ). p < suc n) (λ p h. omega arith) (below n) (every-below n)) (omega arith, tt)

-- what holds of all that is gathered holds of each part
pub every-part : {B : Type 0} (P : B → Type 0) (f : ℕ → List B) (n q : ℕ) → q < n → Every P (gather f (below n)) → Every P (f q)
every-part P f zero q l h = absurd (not-suc-le-zero l)
every-part P f (suc n) q l h =
    let k = subst (Every P) (gather_append f (below n) (n ∷ [])) h in
    elim (dec_le n q) [
      | yes e ↦ let z : n ≡ q = omega arith in subst (λ (i : ℕ). Every P (f i)) z (every-left P (f n) [] (every-right P (gather f (below n)) (f n ++ []) k))
      | no e ↦ every-part P f n q (omega arith) (every-left P (gather f (below n)) (f n ++ []) k)
    ]
