-- The neighbours of a time by candidates: of equal times any one will do, so plain comparisons are enough. What a search promises that looks at a few of the
-- times and knows that the others lie beyond them. The order is that of the keys. Assumes nothing.
use Rattle.std.specs.Prelude.{Option, None, Some}
use mathlib.Core.Path.{◌≡◌, refl, sym, ◌∙◌}
use mathlib.Core.Bool.{Bool, true, false, cond}
use mathlib.Core.List.{List, [], ◌∷◌, ◌++◌}
use Prim.Native.Nat.{◌≤◌, ◌<◌}
use native.Mathlib.Omega.{arith}
use lib.Dec.{T}
use lib.Ieee.{Float, lt, le, eq}
use borrow.Author.Tests.{leb-true, leb-false}
use Rattle.gf.specs.Doubles.{key}
use Rattle.gf.proofs.KeyLaws.{le_is, le→key, lt→key, key→le, key→lt, le_refl, le-both}
use Rattle.gf.specs.declared.interval.Interval.{Interval}
use Rattle.definitions.specs.Lists.{keep}
use Rattle.laws.specs.list.Every.{Every}
use Rattle.laws.proofs.list.Every.{every_map, every-zip, every_append, every-left, every-right}
use Rattle.laws.specs.list.Places.{Number}
use Rattle.window.specs.declared.Neighbours.{Neighbours}
use Rattle.window.specs.Bounds.{In, inside, nothing, with_lower, with_upper, LowerIs, UpperIs, NeighboursAre}
use Rattle.window.proofs.BoundsLaws.{in-every, every_in, in-any}
use Rattle.window.specs.nearest.Nearest.{greater_of, lesser_of, with_near, with_inside, LowerMet, UpperMet, Met, LowerIn, UpperIn, Sided, Nearer, Searched}

-- ---- one time more

-- ---- one after the other

module _ (t : Float) where
  pub searched-none : (h : Neighbours) → Searched t [] h h
  searched-none h = record { run = λ nt g N i s. record { among = s; known = tt; kept = λ x m. m } }

  pub searched-then : {a b : List Float} {h q r : Neighbours} → Searched t a h q → Searched t b q r → Searched t (a ++ b) h r
  searched-then {a} {b} {h} {q} {r} A B = record {
    run = λ nt g N i s.
        let u = A.run nt g N (every-left (λ (x : Float). In x g) a b i) s in
        let v = B.run nt g N (every-right (λ (x : Float). In x g) a b i) u.among in
        record {
          among = v.among;
          known = every_append (Met t r) a b (every_map (Met t q) (Met t r) v.kept a u.known) v.known;
          kept = λ x m. v.kept x (u.kept x m);
        };
  }

  -- the same times in another order
  pub searched-same : {a b : List Float} {h r : Neighbours} → ((P : Float → Type 0) → Every P a → Every P b) → ((P : Float → Type 0) → Every P b → Every P a) → Searched t a h r → Searched t b h r
  searched-same {a} {b} {h} {r} f g A = record {
    run = λ nt l N i s.
        let u = A.run nt l N (g (λ (x : Float). In x l) i) s in
        record { among = u.among; known = f (Met t r) u.known; kept = u.kept };
  }

  -- ---- one time

  module _ (nt : Number t) where
    greater-near : (g : List Float) (N : Every Number g) (b : Option Float) (x : Float) → Number x → In x g → key x ≤ key t → LowerIn g t b
        → LowerIn g t (greater_of b x) × LowerMet (greater_of b x) x × ((y : Float) → LowerMet b y → LowerMet (greater_of b x) y)
    greater-near g N None x nx i h s = ((i, h), omega arith, λ y m. absurd m)
    greater-near g N (Some l) x nx i h s = go (le x l) refl
      where
        nl : Number l
        nl = in-every Number l g N s.0

        go : (c : Bool) → le x l ≡ c → LowerIn g t (cond c (Some l) (Some x)) × LowerMet (cond c (Some l) (Some x)) x × ((y : Float) → key y ≤ key l → LowerMet (cond c (Some l) (Some x)) y)
        go true e = (s, leb-true (key x) (key l) (sym (le_is x l nx.0 nl.0 nx.1 nl.1) ∙ e), λ y m. m)
        go false e = let k = leb-false (key x) (key l) (sym (le_is x l nx.0 nl.0 nx.1 nl.1) ∙ e) in ((i, h), omega arith, λ y m. omega arith)

    lesser-near : (g : List Float) (N : Every Number g) (b : Option Float) (x : Float) → Number x → In x g → key t < key x → UpperIn g t b
        → UpperIn g t (lesser_of b x) × UpperMet (lesser_of b x) x × ((y : Float) → UpperMet b y → UpperMet (lesser_of b x) y)
    lesser-near g N None x nx i h s = ((i, h), omega arith, λ y m. absurd m)
    lesser-near g N (Some l) x nx i h s = go (le l x) refl
      where
        nl : Number l
        nl = in-every Number l g N s.0

        go : (c : Bool) → le l x ≡ c → UpperIn g t (cond c (Some l) (Some x)) × UpperMet (cond c (Some l) (Some x)) x × ((y : Float) → key l ≤ key y → UpperMet (cond c (Some l) (Some x)) y)
        go true e = (s, leb-true (key l) (key x) (sym (le_is l x nl.0 nx.0 nl.1 nx.1) ∙ e), λ y m. m)
        go false e = let k = leb-false (key l) (key x) (sym (le_is l x nl.0 nx.0 nl.1 nx.1) ∙ e) in ((i, h), omega arith, λ y m. omega arith)

    one-near : (h : Neighbours) (x : Float) (g : List Float) → Every Number g → Every (λ (y : Float). In y g) (x ∷ []) → Sided g t h → Nearer g t (x ∷ []) h (cond (le x t) (with_lower h (greater_of h.lower x)) (with_upper h (lesser_of h.upper x)))
    one-near h x g N i s = go (le x t) refl
      where
        nx : Number x
        nx = in-every Number x g N i.0

        go : (c : Bool) → le x t ≡ c → Nearer g t (x ∷ []) h (cond c (with_lower h (greater_of h.lower x)) (with_upper h (lesser_of h.upper x)))
        go true e =
            let k = leb-true (key x) (key t) (sym (le_is x t nx.0 nt.0 nx.1 nt.1) ∙ e) in
            let r = greater-near g N h.lower x nx i.0 k s.0 in
            record { among = (r.0, s.1); known = ((λ _. r.1, λ u. absurd (omega arith)), tt); kept = λ y m. (λ u. r.2 y (m.0 u), m.1) }
        go false e =
            let k = leb-false (key x) (key t) (sym (le_is x t nx.0 nt.0 nx.1 nt.1) ∙ e) in
            let r = lesser-near g N h.upper x nx i.0 k s.1 in
            record { among = (s.0, r.0); known = ((λ u. absurd (omega arith), λ _. r.1), tt); kept = λ y m. (m.0, λ u. r.2 y (m.1 u)) }

  pub searched-one : (h : Neighbours) (x : Float) → Searched t (x ∷ []) h (with_near t h x)
  unfolding with_near
  searched-one h x = record { run = λ nt g N i s. one-near nt h x g N i s }

  -- if it lies inside the window
  pub searched-inside : (w : Interval) (h : Neighbours) (x : Float) → Searched t (keep (inside w) (x ∷ [])) h (with_inside w t h x)
  unfolding with_inside
  searched-inside w h x = go (inside w x)
    where
      go : (b : Bool) → Searched t (cond b (x ∷ []) []) h (cond b (with_near t h x) h)
      go true = searched-one h x
      go false = searched-none h

-- ---- a search among all of them

module _ (t : Float) (nt : Number t) (l : List Float) (N : Every Number l) where
  itself : (x : Float) → Number x → T (eq x x)
  itself x n = let r = le_refl x n.0 n.1 in le-both x x n.0 n.0 r r

  lower_of : (b : Option Float) → LowerIn l t b → Every (λ (x : Float). key x ≤ key t → LowerMet b x) l → LowerIs l t b
  lower_of None m k =
      every-zip Number (λ (x : Float). key x ≤ key t → ⊥) (λ (x : Float). T (le x t) → ⊥) (λ y n c u. c (le→key y t n.0 nt.0 n.1 nt.1 u)) l N k
  lower_of (Some x) m k =
      let n = in-every Number x l N m.0 in
      record {
        fits = n.0;
        listed = in-any x l (itself x n) m.0;
        upto = key→le x t n.0 nt.0 n.1 nt.1 m.1;
        last = every-zip Number (λ (y : Float). key y ≤ key t → key y ≤ key x) (λ (y : Float). T (le y t) → T (le y x)) (λ y o c u. key→le y x o.0 n.0 o.1 n.1 (c (le→key y t o.0 nt.0 o.1 nt.1 u))) l N k;
      }

  upper_of : (b : Option Float) → UpperIn l t b → Every (λ (x : Float). key t < key x → UpperMet b x) l → UpperIs l t b
  upper_of None m k =
      every-zip Number (λ (x : Float). key t < key x → ⊥) (λ (x : Float). T (lt t x) → ⊥) (λ y n c u. c (lt→key t y nt.0 n.0 nt.1 n.1 u)) l N k
  upper_of (Some x) m k =
      let n = in-every Number x l N m.0 in
      record {
        fits = n.0;
        listed = in-any x l (itself x n) m.0;
        above = key→lt t x nt.0 n.0 nt.1 n.1 m.1;
        first = every-zip Number (λ (y : Float). key t < key y → key x ≤ key y) (λ (y : Float). T (lt t y) → T (le x y)) (λ y o c u. key→le x y n.0 o.0 n.1 o.1 (c (lt→key t y nt.0 o.0 nt.1 o.1 u))) l N k;
      }

  pub nearest-of : (r : Neighbours) → Searched t l nothing r → NeighboursAre l t r
  nearest-of r S =
      let a = S.run nt l N (every_in l) (tt, tt) in
      record {
        lower = lower_of r.lower a.among.0 (every_map (Met t r) (λ (x : Float). key x ≤ key t → LowerMet r.lower x) (λ x p. p.0) l a.known);
        upper = upper_of r.upper a.among.1 (every_map (Met t r) (λ (x : Float). key t < key x → UpperMet r.upper x) (λ x p. p.1) l a.known);
      }
