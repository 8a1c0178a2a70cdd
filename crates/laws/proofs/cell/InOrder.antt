-- "Sorted, equals dropped.": the last entry ≤ t and the first > t of the sorted list are the neighbours, up to the sign of zero, and the value is the same.
-- Assumes nothing.
use mathlib.Core.Path.{subst, ◌≡◌, refl, sym, ap, ap₂, ◌∙◌}
use mathlib.Core.Bool.{Bool, true, false, ◌||◌, cond}
use mathlib.Core.List.{List, [], ◌∷◌}
use mathlib.Core.Option.{Option, none, some}
use Prim.Native.Nat.{ℕ}
use native.Mathlib.Omega.{arith}
use lib.Dec.{T, ltb}
use lib.ListN.{length}
use lib.Ieee.{Float, eq, lt, le}
use Rattle.gf.proofs.KeyLaws.{same_test, le_trans, le_refl, le-both, lt→le, lt-le-trans, finite-no-nan}
use Rattle.definitions.specs.declared.Source.{Source}
use Rattle.definitions.specs.Lists.{any, keep}
use Rattle.definitions.specs.Doubles.{FiniteDouble}
use Rattle.definitions.specs.ClipSet.{ClipSet, stage}
use Rattle.definitions.specs.Timing.{active_position}
use Rattle.definitions.specs.Samples.{Samples}
use Rattle.definitions.specs.Value.{says, direct_source, gathered, lower_neighbour, upper_neighbour, jump, between, reading_time, value_source, value_in_set}
use Rattle.definitions.specs.StageSamples.{in_order}
use Rattle.definitions.specs.Facts.{first_of, last_from, last_of, last_up_to, first_above, same_time, reading_time_in_order, value_in_order}
use Rattle.laws.specs.Facts.{NeighboursInOrder, ValueInOrder}
use Rattle.laws.specs.list.Every.{Every, Chain, ChainFrom}
use Rattle.laws.specs.list.Places.{Fits}
use Rattle.laws.specs.set.Stored.{Lt}
use Rattle.laws.proofs.list.Tests.{is_true, or_l, or_r}
use Rattle.laws.proofs.list.Every.{any-with, every_map, every-both, every-zip, every-keep, kept-pass, every-kept}
use Rattle.laws.proofs.list.InOrder.{eq-key, in-order-every, in-order-ascends, in-order-has}
use Rattle.laws.proofs.set.Accepted.{accepted}
use Rattle.laws.proofs.cell.Knots.{Alike, alike-eq}
use Rattle.laws.proofs.cell.Direct.{SoundSet, SoundSamples, direct-alike}
use Rattle.laws.specs.cell.Neighbours.{IsLower, IsUpper}
use Rattle.laws.proofs.cell.Neighbours.{lower-found, lower-fits, lower-none, upper-found, upper_fits, upper-none, jump-alike}
use Rattle.laws.proofs.cell.Lent.{sound-set, sound-samples}
use Rattle.laws.proofs.cell.WindowTimes.{gathered-finite}

-- ---- the first and the last of a list that ascends strictly

-- each entry is below all behind it
abbrev Strict : List Float → Type 0
Strict [] = Unit {0}
Strict (x ∷ l) = Every (Lt x) l × Strict l

strict-from : (x : Float) (l : List Float) → Every FiniteDouble (x ∷ l) → ChainFrom Lt x l → Strict (x ∷ l)
strict-from x [] f c = (tt, tt)
strict-from x (y ∷ l) f c =
    let r = strict-from y l f.1 c.1 in
    ((c.0, every-zip FiniteDouble (Lt y) (Lt x) (λ z g h. lt-le-trans x y z f.0.fitting f.1.0.fitting g.fitting c.0 (lt→le y z h)) l f.1.1 r.0), r)

strict : (l : List Float) → Every FiniteDouble l → Chain Lt l → Strict l
strict [] f c = tt
strict (x ∷ l) f c = strict-from x l f c

strict-keep : (p : Float → Bool) (l : List Float) → Strict l → Strict (keep p l)
strict-keep p [] r = tt
strict-keep p (x ∷ l) r = go (p x) (strict-keep p l r.1)
  where
    go : (b : Bool) → Strict (keep p l) → Strict (cond b (x ∷ keep p l) (keep p l))
    go true k = (every-keep (Lt x) p l r.0, k)
    go false k = k

from_one : (P : Float → Type 0) (x : Float) (l : List Float) → P x → Every P l → P (last_from x l)
from_one P x [] p h = p
from_one P x (y ∷ l) p h = from_one P y l h.0 h.1

last_one : (P : Float → Type 0) (m : Float) (l : List Float) → Every P l → last_of l ≡ some m → P m
last_one P m [] h q = let z : ◌≡◌ {A = ℕ} 0 1 = cc in absurd (omega arith)
last_one P m (x ∷ l) h q = let r : last_from x l ≡ m = cc in rw (sym r) (from_one P x l h.0 h.1)

first_one : (P : Float → Type 0) (m : Float) (l : List Float) → Every P l → first_of l ≡ some m → P m
first_one P m [] h q = let z : ◌≡◌ {A = ℕ} 0 1 = cc in absurd (omega arith)
first_one P m (x ∷ l) h q = let r : x ≡ m = cc in rw (sym r) h.0

from_all : (x : Float) (l : List Float) → Every FiniteDouble (x ∷ l) → Strict (x ∷ l) → Every (λ (y : Float). T (le y (last_from x l))) (x ∷ l)
from_all x [] f s = (le_refl x f.0.fitting (finite-no-nan x f.0.finitely), tt)
from_all x (y ∷ l) f s = (lt→le x (last_from y l) (from_one (Lt x) y l s.0.0 s.0.1), from_all y l f.1 s.1)

last-all : (m : Float) (l : List Float) → Every FiniteDouble l → Strict l → last_of l ≡ some m → Every (λ (y : Float). T (le y m)) l
last-all m [] f s q = tt
last-all m (x ∷ l) f s q =
    let r : last_from x l ≡ m = cc in
    subst (λ (n : Float). Every (λ (y : Float). T (le y n)) (x ∷ l)) r (from_all x l f s)

first-all : (m : Float) (l : List Float) → Every FiniteDouble l → Strict l → first_of l ≡ some m → Every (λ (y : Float). T (le m y)) l
first-all m [] f s q = tt
first-all m (x ∷ l) f s q =
    let r : x ≡ m = cc in
    subst (λ (n : Float). Every (λ (y : Float). T (le n y)) (x ∷ l)) r
    (le_refl x f.0.fitting (finite-no-nan x f.0.finitely), every_map (Lt x) (λ (y : Float). T (le x y)) (λ y h. lt→le x y h) l s.0)

last_none : (l : List Float) → last_of l ≡ none → Every (λ (y : Float). ⊥) l
last_none [] q = tt
last_none (x ∷ l) q = let z : ◌≡◌ {A = ℕ} 0 1 = cc in absurd (omega arith)

first-none : (l : List Float) → first_of l ≡ none → Every (λ (y : Float). ⊥) l
first-none [] q = tt
first-none (x ∷ l) q = let z : ◌≡◌ {A = ℕ} 0 1 = cc in absurd (omega arith)

-- each entry is listed
listed : (l : List Float) → Every FiniteDouble l → Every (λ (y : Float). T (any (λ (x : Float). eq x y) l)) l
listed [] f = tt
listed (z ∷ l) f = (
  or_l (eq z z) (any (λ (x : Float). eq x z) l) (eq-key z z f.0 f.0 refl),
  every_map (λ (y : Float). T (any (λ (x : Float). eq x y) l)) (λ (y : Float). T (any (λ (x : Float). eq x y) (z ∷ l))) (λ y h. or_r (eq z y) (any (λ (x : Float). eq x y) l) h) l (listed l f.1),
)

-- ---- in the sorted list

module _ (times : List Float) (F : Every FiniteDouble times) (t : Float) (ft : Fits t) where
  abbrev sorted : List Float
  sorted = in_order times

  sorted-finite : Every FiniteDouble sorted
  sorted-finite = in-order-every FiniteDouble times F

  sorted-strict : Strict sorted
  sorted-strict = strict sorted sorted-finite (in-order-ascends times F)

  -- what holds of the sorted times holds of each time by an equal one
  by_equal : (P Q : Float → Type 0) → ((x y : Float) → FiniteDouble x → FiniteDouble y → Alike y x → P y → Q x) → Every P sorted → Every Q times
  by_equal P Q f h =
      every-zip FiniteDouble (λ (x : Float). T (any (λ (y : Float). eq y x) sorted)) Q
      (λ x g i.
      let w = any-with (λ (y : Float). eq y x) (λ (y : Float). FiniteDouble y × P y) sorted i (every-zip FiniteDouble P (λ (y : Float). FiniteDouble y × P y) (λ y a b. (a, b)) sorted sorted-finite h) in
      f x w.0 g w.2.0 (alike-eq w.0 x w.2.0.fitting g.fitting w.1) w.2.1) times F (in-order-has times F)

  abbrev up_to : Float → Bool
  up_to x = le x t

  abbrev over : Float → Bool
  over x = lt t x

  last-lower : (m : Float) → last_up_to sorted t ≡ some m → IsLower times t m
  last-lower m q =
      let k = keep up_to sorted in
      let fk = every-keep FiniteDouble up_to sorted sorted-finite in
      let fm = last_one FiniteDouble m k fk q in
      record {
        fits = fm.fitting;
        listed = last_one (λ (y : Float). T (any (λ (x : Float). eq x y) times)) m k (every-keep (λ (y : Float). T (any (λ (x : Float). eq x y) times)) up_to sorted (in-order-every (λ (y : Float). T (any (λ (x : Float). eq x y) times)) times (listed times F))) q;
        upto = last_one (λ (y : Float). T (le y t)) m k (kept-pass up_to sorted) q;
        last = by_equal (λ (y : Float). T (le y t) → T (le y m)) (λ (x : Float). T (le x t) → T (le x m))
            (λ x y f g a h u. le_trans x y m f.fitting g.fitting fm.fitting a.1 (h (le_trans y x t g.fitting f.fitting ft a.0 u)))
            (every-kept (λ (y : Float). T (le y m)) up_to sorted (last-all m k fk (strict-keep up_to sorted sorted-strict) q));
      }

  last-below : last_up_to sorted t ≡ none → Every (λ (x : Float). T (le x t) → ⊥) times
  last-below q =
      by_equal (λ (y : Float). T (le y t) → ⊥) (λ (x : Float). T (le x t) → ⊥) (λ x y f g a h u. h (le_trans y x t g.fitting f.fitting ft a.0 u))
      (every-kept (λ (y : Float). ⊥) up_to sorted (last_none (keep up_to sorted) q))

  first-upper : (m : Float) → first_above sorted t ≡ some m → IsUpper times t m
  first-upper m q =
      let k = keep over sorted in
      let fk = every-keep FiniteDouble over sorted sorted-finite in
      let fm = first_one FiniteDouble m k fk q in
      record {
        fits = fm.fitting;
        listed = first_one (λ (y : Float). T (any (λ (x : Float). eq x y) times)) m k (every-keep (λ (y : Float). T (any (λ (x : Float). eq x y) times)) over sorted (in-order-every (λ (y : Float). T (any (λ (x : Float). eq x y) times)) times (listed times F))) q;
        above = first_one (λ (y : Float). T (lt t y)) m k (kept-pass over sorted) q;
        first = by_equal (λ (y : Float). T (lt t y) → T (le m y)) (λ (x : Float). T (lt t x) → T (le m x))
            (λ x y f g a h u. le_trans m y x fm.fitting g.fitting f.fitting (h (lt-le-trans t x y ft f.fitting g.fitting u a.1)) a.0)
            (every-kept (λ (y : Float). T (le m y)) over sorted (first-all m k fk (strict-keep over sorted sorted-strict) q));
      }

  first-over : first_above sorted t ≡ none → Every (λ (x : Float). T (lt t x) → ⊥) times
  first-over q =
      by_equal (λ (y : Float). T (lt t y) → ⊥) (λ (x : Float). T (lt t x) → ⊥) (λ x y f g a h u. h (lt-le-trans t x y ft f.fitting g.fitting u a.1))
      (every-kept (λ (y : Float). ⊥) over sorted (first-none (keep over sorted) q))

-- ---- they are the neighbours

pub neighbours-in-order : NeighboursInOrder
neighbours-in-order times F t ft = (lower (last_up_to (in_order times) t) refl, upper (first_above (in_order times) t) refl)
  where
    fit : Every Fits times
    fit = every_map FiniteDouble Fits (λ x f. f.fitting) times F

    lower : (o : Option Float) → last_up_to (in_order times) t ≡ o → T (same_time o (lower_neighbour times t))
    lower none p = rw (lower-none times fit t ft.fitting (last-below times F t ft.fitting p)) tt
    lower (some l) p =
        let L = last-lower times F t ft.fitting l p in
        let m = lower-found times fit t ft.fitting l L in
        rw m.1 (le-both l m.0 L.fits (lower-fits times fit t ft.fitting m.0 m.1) m.2.0 m.2.1)

    upper : (o : Option Float) → first_above (in_order times) t ≡ o → T (same_time o (upper_neighbour times t))
    upper none p = rw (upper-none times fit t ft.fitting (first-over times F t ft.fitting p)) tt
    upper (some h) p =
        let U = first-upper times F t ft.fitting h p in
        let k = upper-found times fit t ft.fitting h U in
        rw k.1 (le-both h k.0 U.fits (upper_fits times fit t ft.fitting k.0 k.1) k.2.0 k.2.1)

-- ---- the value by them

eq-alike : (l m t : Float) → Fits l → Fits m → Fits t → Alike l m → eq l t ≡ eq m t
eq-alike l m t fl fm ft a = same_test (eq l t) (eq m t) (turn l m fl fm a.0 a.1) (turn m l fm fl a.1 a.0)
  where
    turn : (x y : Float) → Fits x → Fits y → T (le x y) → T (le y x) → T (eq x t) → T (eq y t)
    turn x y fx fy p q e =
        let b = alike-eq x t fx ft e in
        le-both y t fy ft (le_trans y x t fy fx ft q b.0) (le_trans t x y ft fx fy b.1 p)

module _ (set : ClipSet) (s : Samples) (S : SoundSet set) (A : SoundSamples s) (t : Float) (ft : Fits t) (F : Every FiniteDouble (gathered set s (active_position set.active (stage t)))) where
  abbrev times : List Float
  times = gathered set s (active_position set.active (stage t))

  fit : Every Fits times
  fit = every_map FiniteDouble Fits (λ x f. f.fitting) times F

  abbrev reads : Option Float → Option Float → Source
  reads lower upper = direct_source set s (stage (between set.knots t lower upper))

  reads_same : (o r : Option Float) → last_up_to (in_order times) t ≡ o → first_above (in_order times) t ≡ r → reads (lower_neighbour times t) (upper_neighbour times t) ≡ reads o r
  reads_same none r p q = ap (λ (o : Option Float). reads o (upper_neighbour times t)) (lower-none times fit t ft (last-below times F t ft p))
  reads_same (some l) none p q = ap (λ (o : Option Float). reads (lower_neighbour times t) o) (upper-none times fit t ft (first-over times F t ft q)) ∙ go (lower_neighbour times t)
    where
      go : (o : Option Float) → reads o none ≡ reads (some l) none
      go none = refl
      go (some m) = refl
  reads_same (some l) (some h) p q =
      let L = last-lower times F t ft l p in
      let U = first-upper times F t ft h q in
      let m = lower-found times fit t ft l L in
      let k = upper-found times fit t ft h U in
      let fm = lower-fits times fit t ft m.0 m.1 in
      let fk = upper_fits times fit t ft k.0 k.1 in
      ap₂ reads m.1 k.1
      ∙ ap (λ (b : Bool). direct_source set s (stage (cond b t m.0))) (sym (ap₂ ◌||◌ (eq-alike l m.0 t L.fits fm ft m.2) (jump-alike l m.0 h k.0 L.fits fm U.fits fk m.2 k.2 set.knots S.knots)))
      ∙ go (eq l t || jump set.knots l h) m.0 (direct-alike set s S A l m.0 L.fits fm m.2)
    where
      go : (b : Bool) (m : Float) → direct_source set s (stage l) ≡ direct_source set s (stage m) → direct_source set s (stage (cond b t m)) ≡ direct_source set s (stage (cond b t l))
      go true m d = refl
      go false m d = sym d

  -- "equal to one": the lower neighbour is
  reads-equal : (o r : Option Float) → last_up_to (in_order times) t ≡ o → T (any (λ (x : Float). eq x t) (in_order times)) → between set.knots t o r ≡ t
  reads-equal none r p i = refl
  reads-equal (some l) none p i = refl
  reads-equal (some l) (some h) p i =
      let L = last-lower times F t ft l p in
      let w = any-with (λ (x : Float). eq x t) (λ (x : Float). FiniteDouble x × (T (le x t) → T (le x l))) (in_order times) i (in-order-every (λ (x : Float). FiniteDouble x × (T (le x t) → T (le x l))) times (every-both FiniteDouble (λ (x : Float). T (le x t) → T (le x l)) times F L.last)) in
      let b = alike-eq w.0 t w.2.0.fitting ft w.1 in
      rw (is_true (eq l t) (le-both l t L.fits ft L.upto (le_trans t w.0 l ft w.2.0.fitting L.fits b.1 (w.2.1 b.0)))) refl

  reading-same : direct_source set s (stage (reading_time set s (stage t))) ≡ direct_source set s (stage (reading_time_in_order set s (stage t)))
  unfolding reading_time reading_time_in_order
  reading-same = reads_same lower upper refl refl ∙ go (any (λ (x : Float). eq x t) (in_order times)) (reads-equal lower upper refl)
    where
      lower : Option Float
      lower = last_up_to (in_order times) t

      upper : Option Float
      upper = first_above (in_order times) t

      go : (b : Bool) → (T b → between set.knots t lower upper ≡ t) → reads lower upper ≡ direct_source set s (stage (cond b t (between set.knots t lower upper)))
      go true h = ap (λ (x : Float). direct_source set s (stage x)) (h tt)
      go false h = refl

pub value-in-order : ValueInOrder
unfolding value_in_set value_in_order value_source
value-in-order set s g t f =
    let a = accepted set s g.doubles g.accepted in
    ap (λ (x : Source). says set s (cond (ltb 1 (length set.active)) x (direct_source set s t)))
    (reading-same set s (sound-set set g.sound) (sound-samples set s a) t.0 f.fitting (gathered-finite set g.sound s a.stored (active_position set.active t)))
