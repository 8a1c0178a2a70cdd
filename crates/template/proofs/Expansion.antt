-- The lists that a template's times t make: the numbers of the clips, the starts and the knots. Assumes nothing.
use Prim.Native.Nat.{ℕ, zero, suc, ◌+◌, ◌-◌, ◌≤◌, ◌<◌}
use mathlib.Core.Path.{◌≡◌, refl, ap, ◌∙◌}
use mathlib.Core.Bool.{Bool, true, false}
use mathlib.Core.List.{List, [], ◌∷◌, ◌++◌, map}
use mathlib.Core.Option.{Option, none, some}
use native.Mathlib.Numerals.{add-one}
use native.Mathlib.Omega.{arith}
use borrow.Rule.Slice.PartMut.{put_mid}
use lib.ListN.{length, get_or, drop, set, length-append, length-drop, drop_of_length-le}
use lib.Seq.{drop-cons, set_at}
use lib.Ieee.{Float}
use Rattle.gf.specs.Doubles.{◌⊕◌, ◌⊖◌, ◌⊘◌, 10000·0, abs}
use Rattle.definitions.specs.declared.Knot.{Knot}
use Rattle.definitions.specs.declared.Start.{Start}
use Rattle.definitions.specs.declared.Missing.{Missing}
use Rattle.definitions.specs.declared.TemplateTimes.{TemplateTimes}
use Rattle.definitions.specs.Lists.{zip_with}
use Rattle.definitions.specs.Explicit.{knot}
use Rattle.definitions.specs.Template.{stage_time, activations, diagonal, clip_knots, with_bounds}
use Rattle.definitions.specs.Retime.{sorted}
use Rattle.laws.specs.cell.Lent.{start, set_of}
use Rattle.template.specs.Expanding.{offset_of, times_of_clips, bounded, knot_xs, knot_count, numbered, expanded_set}

module _ {A : Type 0} where
  pub numbered-length : (k : ℕ) (xs : List A) → length (numbered k xs) ≡ length xs
  numbered-length k [] = refl
  numbered-length k (x ∷ xs) = ap suc (numbered-length (suc k) xs)

  numbered-from : (k : ℕ) (xs : List A) (i d : ℕ) → i < length xs → k + i ≡ get_or (numbered k xs) i d
  numbered-from k [] i d h = absurd (omega arith)
  numbered-from k (x ∷ xs) zero d h = omega arith
  numbered-from k (x ∷ xs) (suc i) d h = omega (arith, numbered-from (suc k) xs i d (omega arith))

  pub numbered-at : (xs : List A) (i d : ℕ) → i < length xs → i ≡ get_or (numbered 0 xs) i d
  numbered-at xs i d h = omega (arith, numbered-from 0 xs i d h)

  -- any list as long is numbered alike
  pub numbered-alike : {B : Type 0} (k : ℕ) (xs : List A) (ys : List B) → length xs ≡ length ys → numbered k xs ≡ numbered k ys
  numbered-alike k [] [] e = refl
  numbered-alike k [] (y ∷ ys) e = absurd (omega arith)
  numbered-alike k (x ∷ xs) [] e = absurd (omega arith)
  numbered-alike k (x ∷ xs) (y ∷ ys) e = ap (λ (l : List ℕ). k ∷ l) (numbered-alike (suc k) xs ys (omega arith))

starts-are : (o : Option Float) (k : ℕ) (ts : List Float) → zip_with start (map (stage_time o) ts) (numbered k ts) ≡ activations o k ts
unfolding activations
starts-are o k [] = refl
starts-are o k (t ∷ ts) = ap (λ (l : List Start). start (stage_time o t) k ∷ l) (starts-are o (suc k) ts)

same-both : (ts : List Float) → zip_with knot ts ts ≡ map diagonal ts
same-both [] = refl
same-both (t ∷ ts) = ap (λ (l : List Knot). diagonal t ∷ l) (same-both ts)

diagonals : (ts : List Float) → map diagonal (times_of_clips ts) ≡ clip_knots ts
diagonals [] = refl
diagonals (t ∷ ts) = ap (λ (l : List Knot). diagonal (t ⊘ 10000·0) ∷ l) (diagonals ts)

map-end : (xs ys : List Float) → map diagonal (xs ++ ys) ≡ map diagonal xs ++ map diagonal ys
map-end [] ys = refl
map-end (x ∷ xs) ys = ap (λ (l : List Knot). diagonal x ∷ l) (map-end xs ys)

knots-are : (x : TemplateTimes) (o : Option Float) (ts : List Float) → zip_with knot (knot_xs x o ts) (knot_xs x o ts) ≡ with_bounds x o (clip_knots ts)
knots-are x none ts = same-both (times_of_clips ts) ∙ diagonals ts
knots-are x (some offset) ts =
    let last = x.end ⊕ abs offset in
    ap (λ (l : List Knot). diagonal (x.start ⊖ abs offset) ∷ l)
    (same-both (times_of_clips ts ++ (last ∷ [])) ∙ map-end (times_of_clips ts) (last ∷ []) ∙ ap (λ (l : List Knot). l ++ (diagonal last ∷ [])) (diagonals ts))

pub expanded-is : (x : TemplateTimes) (o : Option Float) (ts starts : List Float) (numbers empty : List ℕ) (xs ys blocks : List Float) (m : Missing)
    → starts ≡ map (stage_time o) ts → numbers ≡ numbered 0 empty → length empty ≡ length ts → xs ≡ knot_xs x o ts → ys ≡ xs
    → sorted (set_of (length ts) starts numbers xs ys blocks m) ≡ expanded_set ts x o blocks m
unfolding sorted set_of expanded_set
expanded-is x o ts starts numbers empty xs ys blocks m s n e k l =
    rw (l, s, n, k, numbered-alike 0 empty ts e, starts-are o 0 ts, knots-are x o ts)

-- ---- the two bounds around what is written between them

last-place : (l : List Float) (n : ℕ) (z : Float) → length l ≡ suc n → drop n l ≡ get_or l n z ∷ []
last-place l n z e =
    drop-cons l n z (omega arith) ∙ ap (λ (r : List Float). get_or l n z ∷ r) (drop_of_length-le l {i = suc n} (omega arith))

pub bounded-is : (xs mid : List Float) (n : ℕ) (first last : Float) → length xs ≡ n + 2 → length mid ≡ n → set (set (put_mid 1 (n + 1 - 1) xs mid) 0 first) (n + 1) last ≡ first ∷ (mid ++ (last ∷ []))
bounded-is [] mid n first last e m = absurd (omega arith)
bounded-is (x ∷ xs) mid n first last e m =
    let o : n + 1 - 1 ≡ n = omega arith in
    rw (o, add-one) (ap (λ (l : List Float). first ∷ l)
    (ap (λ (l : List Float). set (mid ++ l) n last) (last-place xs n first (omega arith)) ∙ set_at mid (get_or xs n first) [] last n m))

pub bounded-length : (xs mid : List Float) (n : ℕ) (first : Float) → length xs ≡ n + 2 → length mid ≡ n → length (set (put_mid 1 (n + 1 - 1) xs mid) 0 first) ≡ n + 2
bounded-length [] mid n first e m = absurd (omega arith)
bounded-length (x ∷ xs) mid n first e m =
    let o : n + 1 - 1 ≡ n = omega arith in
    rw o (omega (arith, length-append mid (drop n xs), length-drop n xs))

-- ---- with an offset, and without

module _ (x : TemplateTimes) (offset : Bool) (ts : List Float) where
  pub with-bounds : (slack : Float) → offset ≡ true → slack ≡ abs x.offset → bounded (x.start ⊖ slack) (x.end ⊕ slack) ts ≡ knot_xs x (offset_of x offset) ts
  with-bounds slack e s = rw (e, s)

  pub without-bounds : offset ≡ false → times_of_clips ts ≡ knot_xs x (offset_of x offset) ts
  without-bounds e = rw e

pub few-knots : (offset : Bool) (n : ℕ) → n ≤ 256 → knot_count offset n ≤ 512
few-knots true n h = omega arith
few-knots false n h = omega arith
