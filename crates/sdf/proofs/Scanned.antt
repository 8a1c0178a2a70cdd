-- What the tests over lent samples come to at a place of their lists. Assumes nothing.
use mathlib.Core.Path.{◌≡◌, refl, sym, ap, ap₂, ◌∙◌}
use mathlib.Core.Bool.{Bool, true, false, ◌&&◌, ◌||◌, true≢false}
use mathlib.Core.List.{List, [], ◌∷◌, ◌++◌}
use Prim.Native.Nat.{ℕ, zero, suc, ◌+◌, ◌-◌, ◌≤◌, ◌<◌}
use native.Mathlib.Numerals.{add-one}
use native.Mathlib.Nat.{le_trans, le_of_eq, lt_irrefl, lt_of_lt_of_le}
use native.Mathlib.Omega.{arith}
use borrow.Author.Tests.{ltb-false, le-ltb, le-leb, lt-leb}
use lib.Dec.{T, leb, ltb, eqb, eqb→eq, leb→le}
use lib.ListN.{length, get_or, take, drop}
use lib.Ieee.{Float, is_nan}
use Rattle.std.specs.Prelude.{Option, None, Some, MatchOption}
use Rattle.std.specs.List.{list_any, zip}
use Rattle.definitions.specs.Lists.{any, all, zip_with, below}
use Rattle.definitions.specs.ClipSet.{mark_value}
use Rattle.definitions.specs.Samples.{nan_value, closes, clip_begin, clip_end}
use lib.Ieee.Fits.{and_l, and_r}
use Rattle.laws.proofs.list.Tests.{is_false}
use Rattle.sdf.specs.Parts.{part}
use Rattle.lists.proofs.Fronts.{front, no_front}

pub or-all : (b : Bool) → (b || true) ≡ true
or-all true = refl
or-all false = refl

pub and_no : (b : Bool) → (b && false) ≡ false
and_no true = refl
and_no false = refl

-- ---- values beside their marks

-- a test of each pair, as the code walks them
pub marked-any : (vs : List Float) (ms : List ℕ) → list_any (λ (p : Float × ℕ). nan_value p.0 p.1) (zip vs ms) ≡ any (λ (b : Bool). b) (zip_with nan_value vs ms)
marked-any [] ms = refl
marked-any (v ∷ vs) [] = refl
marked-any (v ∷ vs) (m ∷ ms) = ap (λ (b : Bool). nan_value v m || b) (marked-any vs ms)

-- ---- the ends

closed-below : (e : ℕ) (ends : List ℕ) (count : ℕ) → T (closes e ends count) → e ≤ count
unfolding closes
closed-below e [] count h = le_of_eq (eqb→eq e count h)
closed-below e (d ∷ ends) count h =
    le_trans (leb→le e d (and_l (leb e d) (closes d ends count) h)) (closed-below d ends count (and_r (leb e d) (closes d ends count) h))

module _ (ends : List ℕ) (count : ℕ) where
  closes-on : (end i : ℕ) → i < length ends → closes end (drop i ends) count ≡ (leb end (get_or ends i 0) && closes (get_or ends i 0) (drop (i + 1) ends) count)
  unfolding closes
  closes-on end i h = ap (λ (l : List ℕ). closes end l count) (front ends i 0 h)

  -- the end at i falls behind the one before, lies beyond the list, or is the next to go on from
  pub closes_before : (end i : ℕ) → i < length ends → get_or ends i 0 < end → closes end (drop i ends) count ≡ false
  closes_before end i h k = closes-on end i h ∙ ap (λ (b : Bool). b && closes (get_or ends i 0) (drop (i + 1) ends) count) (lt-leb end (get_or ends i 0) k)

  pub closes-beyond : (end i : ℕ) → i < length ends → count < get_or ends i 0 → closes end (drop i ends) count ≡ false
  closes-beyond end i h k =
      let d = get_or ends i 0 in
      let rest : closes d (drop (i + 1) ends) count ≡ false = is_false _ (λ c. lt_irrefl count (lt_of_lt_of_le k (closed-below d (drop (i + 1) ends) count c))) in
      closes-on end i h ∙ ap (λ (b : Bool). leb end d && b) rest ∙ and_no (leb end d)

  pub closes-next : (end i : ℕ) → i < length ends → end ≤ get_or ends i 0 → closes end (drop i ends) count ≡ closes (get_or ends i 0) (drop (i + 1) ends) count
  closes-next end i h k = closes-on end i h ∙ ap (λ (b : Bool). b && closes (get_or ends i 0) (drop (i + 1) ends) count) (le-leb end (get_or ends i 0) k)

  pub closes-end : (end i : ℕ) → length ends ≤ i → closes end (drop i ends) count ≡ eqb end count
  unfolding closes
  closes-end end i h = ap (λ (l : List ℕ). closes end l count) (no_front ends i h)

-- ---- marks

-- the largest mark, none without any
abbrev pub Largest : List ℕ → Option ℕ → Type 0
Largest ms o = MatchOption o (length ms ≡ 0) (λ m. ((k : ℕ) → k < length ms → get_or ms k 0 ≤ m) × ((k : ℕ) × (k < length ms) × (get_or ms k 0 ≡ m)))

abbrev pub above_block : Option ℕ → Bool
above_block None = false
above_block (Some m) = ltb 1 m

some-above : (ms : List ℕ) (k : ℕ) → k < length ms → ltb 1 (get_or ms k 0) ≡ true → any (λ (m : ℕ). ltb 1 m) ms ≡ true
some-above [] k h e = absurd (omega arith)
some-above (m ∷ ms) zero h e = ap (λ (b : Bool). b || any (λ (m : ℕ). ltb 1 m) ms) e
some-above (m ∷ ms) (suc k) h e = ap (λ (b : Bool). ltb 1 m || b) (some-above ms k (omega arith) e) ∙ or-all (ltb 1 m)

none-above : (ms : List ℕ) → ((k : ℕ) → k < length ms → get_or ms k 0 ≤ 1) → any (λ (m : ℕ). ltb 1 m) ms ≡ false
none-above [] h = refl
none-above (m ∷ ms) h = ap₂ ◌||◌ (le-ltb 1 m (h 0 (omega arith))) (none-above ms (λ k l. h (suc k) (omega arith)))

pub by-largest : (ms : List ℕ) (o : Option ℕ) → Largest ms o → above_block o ≡ any (λ (m : ℕ). ltb 1 m) ms
by-largest [] None e = refl
by-largest (m ∷ ms) None e = absurd (omega arith)
by-largest ms (Some m) (below, (k, inside, here)) = go (ltb 1 m) refl
  where
    go : (b : Bool) → ltb 1 m ≡ b → b ≡ any (λ (m : ℕ). ltb 1 m) ms
    go true e = sym (some-above ms k inside (ap (λ (n : ℕ). ltb 1 n) here ∙ e))
    go false e = sym (none-above ms (λ i l. omega (arith, below i l, ltb-false 1 m e)))

number-no-nan : (v : Float) (m : ℕ) → is_nan v ≡ false → nan_value v m ≡ false
number-no-nan v m f = ap (λ (b : Bool). eqb m mark_value && b) f ∙ and_no (eqb m mark_value)

-- where no value is a NaN, none is under any mark
pub no_nan : (vs : List Float) (ms : List ℕ) → any is_nan vs ≡ false → false ≡ any (λ (b : Bool). b) (zip_with nan_value vs ms)
no_nan [] ms e = refl
no_nan (v ∷ vs) [] e = refl
no_nan (v ∷ vs) (m ∷ ms) e = go (is_nan v) refl e (no_nan vs ms)
  where
    go : (b : Bool) → is_nan v ≡ b → (b || any is_nan vs) ≡ false → (any is_nan vs ≡ false → false ≡ any (λ (b : Bool). b) (zip_with nan_value vs ms))
        → false ≡ (nan_value v m || any (λ (b : Bool). b) (zip_with nan_value vs ms))
    go true f g rest = absurd (true≢false g)
    go false f g rest = rest g ∙ sym (ap (λ (b : Bool). b || any (λ (b : Bool). b) (zip_with nan_value vs ms)) (number-no-nan v m f))

-- ---- the clips' parts

pub begin-next : (ends : List ℕ) (i : ℕ) → clip_begin ends (i + 1) ≡ get_or ends i 0
unfolding clip_begin
begin-next ends i = rw (add-one i)

-- the part from where the clip before ended to the end at i
pub part-here : (times : List Float) (ends : List ℕ) (begin i : ℕ) → begin ≡ clip_begin ends i → take (get_or ends i 0 - begin) (drop begin times) ≡ part times ends i
unfolding clip_end
part-here times ends begin i e = ap (λ (b : ℕ). take (get_or ends i 0 - b) (drop b times)) e

module _ (p : ℕ → Bool) where
  all_snoc : (xs : List ℕ) (x : ℕ) → all p (xs ++ (x ∷ [])) ≡ (all p xs && p x)
  all_snoc [] x = go (p x)
    where
      go : (b : Bool) → (b && true) ≡ b
      go true = refl
      go false = refl
  all_snoc (y ∷ ys) x = ap (λ (b : Bool). p y && b) (all_snoc ys x) ∙ go (p y)
    where
      go : (b : Bool) → (b && (all p ys && p x)) ≡ ((b && all p ys) && p x)
      go true = refl
      go false = refl

  pub below_next : (i : ℕ) → all p (below (i + 1)) ≡ (all p (below i) && p i)
  below_next i = rw (add-one i) (all_snoc (below i) i)
