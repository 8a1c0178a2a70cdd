-- The scans of a template. A scan's invariant says that the answer for the whole is the answer for what is left, `drop i l`; each law takes one byte off it.
-- `parsed`: the places found one after the other are those of the split template. Assumes nothing.
use Prim.Native.Nat.{ℕ, zero, suc, ◌+◌, ◌≤◌}
use mathlib.Core.Path.{◌≡◌, refl, sym, ap, ap₂, ◌∙◌}
use mathlib.Core.Bool.{Bool, true, false, not, ◌&&◌, ◌||◌, cond, false≢true}
use mathlib.Core.List.{List, [], ◌∷◌}
use mathlib.Core.Option.{none, some}
use native.Mathlib.Omega.{arith}
use borrow.Author.Tests.{eq-eqb, lt-ltb}
use lib.Dec.{T, eqb, ltb, leb, leb→le}
use lib.ListN.{length, get_or, take, drop, length-drop}
use lib.Seq.{drop-drop}
use Rattle.definitions.specs.Lists.{any}
use Rattle.std.specs.Prelude.{◌==◌}
use Rattle.std.specs.List.{list_any, prefix_len}
use Rattle.definitions.specs.Names.{HashPattern, hash, dot, before_hash, hash_run, with_fraction, split, fraction_ok, readable}
use Rattle.names.specs.declared.pattern.Pattern.{Pattern}
use Rattle.names.specs.Pattern.{fraction_run, has_hash, width_of, pattern_of, with_dot, Parses}

-- ---- the runs are std's longest prefixes, and the search of a list is std's

pub before-prefix : (l : List ℕ) → prefix_len (λ (b : ℕ). not (b == hash)) l ≡ length (before_hash l)
unfolding before_hash
before-prefix [] = refl
before-prefix (b ∷ bs) = go (eqb b hash) (before-prefix bs)
  where
    go : (t : Bool) → prefix_len (λ (b : ℕ). not (b == hash)) bs ≡ length (before_hash bs)
        → cond (not t) (1 + prefix_len (λ (b : ℕ). not (b == hash)) bs) 0 ≡ length (cond t [] (b ∷ before_hash bs))
    go true e = refl
    go false e = omega arith

pub run-prefix : (l : List ℕ) → prefix_len (λ (b : ℕ). b == hash) l ≡ hash_run l
unfolding hash_run
run-prefix [] = refl
run-prefix (b ∷ bs) = go (eqb b hash) (run-prefix bs)
  where
    go : (t : Bool) → prefix_len (λ (b : ℕ). b == hash) bs ≡ hash_run bs
        → cond t (1 + prefix_len (λ (b : ℕ). b == hash) bs) 0 ≡ cond t (suc (hash_run bs)) 0
    go true e = omega arith
    go false e = refl

pub any-is : (p : ℕ → Bool) (l : List ℕ) → list_any p l ≡ any p l
any-is p [] = refl
any-is p (x ∷ xs) = ap (λ (b : Bool). p x || b) (any-is p xs)

pub behind-dot : (l : List ℕ) (n : ℕ) → 1 ≤ length l → get_or l 0 0 ≡ dot → n ≡ prefix_len (λ (b : ℕ). b == hash) (drop 1 l) → n ≡ fraction_run l
behind-dot [] n h d e = absurd (omega arith)
behind-dot (b ∷ bs) n h d e = rw (eq-eqb b dot d) (e ∙ run-prefix bs)

-- ---- what is found lies in the template

pub before-le : (l : List ℕ) → length (before_hash l) ≤ length l
unfolding before_hash
before-le [] = omega arith
before-le (b ∷ bs) = go (eqb b hash) (before-le bs)
  where
    go : (t : Bool) → length (before_hash bs) ≤ length bs → length (cond t [] (b ∷ before_hash bs)) ≤ suc (length bs)
    go true h = omega arith
    go false h = omega arith

run-le : (l : List ℕ) → hash_run l ≤ length l
unfolding hash_run
run-le [] = omega arith
run-le (b ∷ bs) = go (eqb b hash) (run-le bs)
  where
    go : (t : Bool) → hash_run bs ≤ length bs → cond t (suc (hash_run bs)) 0 ≤ suc (length bs)
    go true h = omega arith
    go false h = omega arith

pub fraction-le : (l : List ℕ) → with_dot (fraction_run l) ≤ length l
fraction-le [] = omega arith
fraction-le (b ∷ bs) = go (eqb b dot) (hash_run bs) (run-le bs)
  where
    go : (t : Bool) (n : ℕ) → n ≤ length bs → with_dot (cond t n 0) ≤ suc (length bs)
    go true zero h = omega arith
    go true (suc n) h = omega arith
    go false n h = omega arith

before-take : (l : List ℕ) → take (length (before_hash l)) l ≡ before_hash l
unfolding before_hash
before-take [] = refl
before-take (b ∷ bs) = go (eqb b hash) (before-take bs)
  where
    go : (t : Bool) → take (length (before_hash bs)) bs ≡ before_hash bs
        → take (length (cond t [] (b ∷ before_hash bs))) (b ∷ bs) ≡ cond t [] (b ∷ before_hash bs)
    go true h = refl
    go false h = ap (λ (r : List ℕ). b ∷ r) h

pub with-dot : (n : ℕ) → (n ≡ 0 → ⊥) → with_dot n ≡ n + 1
with-dot zero h = absurd (h refl)
with-dot (suc n) h = omega arith

-- ---- the split, by the places

-- what follows the fraction, of what follows the first run
abbrev past_fraction : ℕ → List ℕ → List ℕ
past_fraction k l = drop (with_dot k) l

fraction-is : (prefix : List ℕ) (width : ℕ) (l : List ℕ)
    → record { prefix = prefix; int_width = width; frac_width = width_of (fraction_run l); suffix = past_fraction (fraction_run l) l } ≡ with_fraction prefix width l
unfolding with_fraction
fraction-is prefix width [] = refl
fraction-is prefix width (b ∷ bs) = go (eqb b dot) (hash_run bs)
  where
    go : (t : Bool) (n : ℕ)
        → ◌≡◌ {A = HashPattern} (record { prefix = prefix; int_width = width; frac_width = width_of (cond t n 0); suffix = past_fraction (cond t n 0) (b ∷ bs) })
        (cond (t && ltb 0 n)
        (record { prefix = prefix; int_width = width; frac_width = some n; suffix = drop n bs })
        (record { prefix = prefix; int_width = width; frac_width = none; suffix = b ∷ bs }))
    go true zero = refl
    go true (suc n) = rw (lt-ltb 0 (suc n) (omega arith))
    go false n = refl

module _ (l : List ℕ) (p : Pattern) (first : p.first ≡ length (before_hash l)) (width : p.width ≡ hash_run (drop p.first l)) where
  pub runs-held : p.first + p.width ≤ length l
  runs-held = omega (arith, before-le l, run-le (drop p.first l), length-drop p.first l)

  module _ (fraction : p.fraction ≡ fraction_run (drop (p.first + p.width) l)) where
    pub fraction-held : p.first + p.width + with_dot p.fraction ≤ length l
    fraction-held =
        let e : with_dot p.fraction ≤ length (drop (p.first + p.width) l) = rw fraction (fraction-le (drop (p.first + p.width) l)) in
        omega (arith, length-drop (p.first + p.width) l, runs-held)

    pub parsed : p.first + p.width + with_dot p.fraction ≡ p.suffix → Parses l p
    unfolding split
    parsed joined =
        let rest = drop (p.first + p.width) l in
        let after : drop p.suffix l ≡ past_fraction (fraction_run rest) rest =
        ap (λ (n : ℕ). drop n l) (sym joined) ∙ sym (drop-drop (with_dot p.fraction) (p.first + p.width) l) ∙ ap (λ (n : ℕ). past_fraction n rest) fraction in
        let start : take p.first l ≡ before_hash l = ap (λ (n : ℕ). take n l) first ∙ before-take l in
        let run : p.width ≡ hash_run (drop (length (before_hash l)) l) = width ∙ ap (λ (n : ℕ). hash_run (drop n l)) first in
        let behind : rest ≡ drop (hash_run (drop (length (before_hash l)) l)) (drop (length (before_hash l)) l) =
        sym (drop-drop p.width p.first l) ∙ ap₂ (λ (n m : ℕ). drop n (drop m l)) run first in
        record {
          is =
              (λ i. record { prefix = start i; int_width = run i; frac_width = width_of (fraction i); suffix = after i })
              ∙ fraction-is (before_hash l) (hash_run (drop (length (before_hash l)) l)) rest
              ∙ ap (with_fraction (before_hash l) (hash_run (drop (length (before_hash l)) l))) behind;
          joined = joined;
          held = omega (arith, fraction-held);
        }

-- ---- readable: a law for each answer

and-assoc3 : (a b c d : Bool) → ((a && b && c) && d) ≡ (a && b && c && d)
and-assoc3 true true c d = refl
and-assoc3 true false c d = refl
and-assoc3 false b c d = refl

fraction-ok : (n : ℕ) → fraction_ok (width_of n) ≡ leb n 6
fraction-ok zero = refl
fraction-ok (suc n) = refl

module _ (l : List ℕ) (p : Pattern) where
  abbrev limits : Bool
  limits = leb 1 p.width && leb p.width 32 && leb p.fraction 6

  readable-is : (limits && not (has_hash (drop p.suffix l))) ≡ readable (pattern_of l p)
  unfolding readable
  readable-is = rw (fraction-ok p.fraction) (and-assoc3 (leb 1 p.width) (leb p.width 32) (leb p.fraction 6) (not (has_hash (drop p.suffix l))))

  pub no-later-hash : (ok h : Bool) → ok ≡ limits → ok ≡ true → h ≡ list_any (λ (b : ℕ). b == hash) (drop p.suffix l) → not h ≡ readable (pattern_of l p)
  no-later-hash ok h e t f =
      ap not (f ∙ any-is (λ (b : ℕ). b == hash) (drop p.suffix l))
      ∙ ap (λ (b : Bool). b && not (has_hash (drop p.suffix l))) (sym t ∙ e)
      ∙ readable-is

  pub beyond-limits : (ok : Bool) → ok ≡ limits → ok ≡ false → ok ≡ readable (pattern_of l p)
  beyond-limits ok e t = t ∙ ap (λ (b : Bool). b && not (has_hash (drop p.suffix l))) (sym t ∙ e) ∙ readable-is

-- ---- the other way: what a readable pattern is within

pub readable-limits : (l : List ℕ) (p : Pattern) → readable (pattern_of l p) ≡ true → (1 ≤ p.width) × (p.width ≤ 32) × (p.fraction ≤ 6)
unfolding readable
readable-limits l p e =
    go (leb 1 p.width) (leb p.width 32) (leb p.fraction 6) (not (has_hash (drop p.suffix l)))
    (leb→le 1 p.width) (leb→le p.width 32) (leb→le p.fraction 6) (rw (fraction-ok p.fraction) at e)
  where
    go : (a b c d : Bool) → (T a → 1 ≤ p.width) → (T b → p.width ≤ 32) → (T c → p.fraction ≤ 6) → (a && b && c && d) ≡ true
        → (1 ≤ p.width) × (p.width ≤ 32) × (p.fraction ≤ 6)
    go true true true d x y z e = (x tt, y tt, z tt)
    go true true false d x y z e = absurd (false≢true e)
    go true false c d x y z e = absurd (false≢true e)
    go false b c d x y z e = absurd (false≢true e)

-- ---- every template has its places

pub found : List ℕ → Pattern
found l =
    let first = length (before_hash l) in
    let width = hash_run (drop first l) in
    let fraction = fraction_run (drop (first + width) l) in
    record { first = first; width = width; fraction = fraction; suffix = first + width + with_dot fraction }

pub found-parses : (l : List ℕ) → Parses l (found l)
unfolding found
found-parses l = parsed l (found l) refl refl refl refl
