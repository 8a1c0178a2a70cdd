-- The neighbours as extremes, found in any order: a gathered time that no other one comes between is the neighbour, or one number with it, and the
-- value's rule is the same by it. Assumes nothing.
use mathlib.Core.Path.{◌≡◌, refl, sym, ap, ap₂, ◌∙◌, subst}
use mathlib.Core.Logic.{inl, inr}
use mathlib.Core.Bool.{Bool, true, false, not, ◌&&◌, ◌||◌, cond}
use mathlib.Core.List.{List, [], ◌∷◌}
use mathlib.Core.Option.{Option, none, some}
use Prim.Native.Nat.{ℕ}
use native.Mathlib.Omega.{arith}
use lib.Dec.{T, T_not}
use lib.Ieee.{Float, lt, le, eq}
use Rattle.gf.proofs.KeyLaws.{le_trans, le_refl, le-no-nan, lt→le, eq→le, lt-le-trans, le-or-lt}
use Rattle.definitions.specs.declared.Knot.{Knot}
use Rattle.definitions.specs.Lists.{any, keep, pairs_from}
use Rattle.definitions.specs.ClipSet.{ClipSet, stage}
use Rattle.definitions.specs.Timing.{active_position}
use Rattle.definitions.specs.Samples.{Samples}
use Rattle.definitions.specs.Value.{direct_source, gathered, lower_neighbour, upper_neighbour, maximum, minimum, greatest, jump}
use Rattle.laws.specs.list.Every.{Every}
use Rattle.laws.proofs.list.Every.{any-with, every-zip, every-keep, kept-pass, every-kept}
use Rattle.laws.specs.list.Places.{Fits, Number}
use Rattle.laws.proofs.cell.Places.{le_same, lt_same}
use Rattle.laws.specs.cell.Knots.{SoundKnot}
use Rattle.laws.proofs.cell.Knots.{Alike, alike-eq}
use Rattle.laws.proofs.cell.Direct.{SoundSet, SoundSamples, direct-alike}
use Rattle.laws.proofs.cell.Window.{gathered-fit}
use Rattle.laws.specs.cell.Stretches.{several_starts, held_between}
use Rattle.laws.proofs.cell.Stretches.{held-many, held-few}
use Rattle.laws.specs.cell.Cells.{constant, cell_by, cell_of, direct_cell}
use Rattle.laws.proofs.cell.Ends.{minimum-all, minimum-one}
use Rattle.laws.specs.cell.Neighbours.{IsLower, IsUpper}

-- ---- the greatest of a list

pick : (x y : Float) → Number x → Number y → Number (cond (lt x y) y x) × T (le x (cond (lt x y) y x)) × T (le y (cond (lt x y) y x))
pick x y p q = go (lt x y) (λ h. h) (λ h. h)
  where
    go : (b : Bool) → (T b → T (lt x y)) → (T (not b) → T (not (lt x y))) → Number (cond b y x) × T (le x (cond b y x)) × T (le y (cond b y x))
    go true h k = (q, lt→le x y (h tt), le_refl y q.0 q.1)
    go false h k = (p, le_refl x p.0 p.1, elim (le-or-lt y x q.0 p.0 q.1 p.1) [ inl l ↦ l | inr l ↦ absurd (T_not (lt x y) (k tt) l) ])

greatest-number : (x : Float) (l : List Float) → Number x → Every Number l → Number (greatest x l)
greatest-number x [] p h = p
greatest-number x (y ∷ l) p h = greatest-number (cond (lt x y) y x) l (pick x y p h.0).0 h.1

greatest-ge : (x : Float) (l : List Float) → Number x → Every Number l → T (le x (greatest x l))
greatest-ge x [] p h = le_refl x p.0 p.1
greatest-ge x (y ∷ l) p h =
    let m = cond (lt x y) y x in
    let q = pick x y p h.0 in
    le_trans x m (greatest m l) p.0 q.0.0 (greatest-number m l q.0 h.1).0 q.1 (greatest-ge m l q.0 h.1)

greatest-all : (x : Float) (l : List Float) → Number x → Every Number l → Every (λ (y : Float). T (le y (greatest x l))) l
greatest-all x [] p h = tt
greatest-all x (y ∷ l) p h =
    let m = cond (lt x y) y x in
    let q = pick x y p h.0 in
    (le_trans y m (greatest m l) h.0.0 q.0.0 (greatest-number m l q.0 h.1).0 q.2 (greatest-ge m l q.0 h.1), greatest-all m l q.0 h.1)

greatest-one : (P : Float → Type 0) (x : Float) (l : List Float) → P x → Every P l → P (greatest x l)
greatest-one P x [] p h = p
greatest-one P x (y ∷ l) p h = greatest-one P (cond (lt x y) y x) l (go (lt x y)) h.1
  where
    go : (b : Bool) → P (cond b y x)
    go true = h.0
    go false = p

maximum-all : (e : Float) (l : List Float) → Every Number l → maximum l ≡ some e → Every (λ (y : Float). T (le y e)) l
maximum-all e [] h q = tt
maximum-all e (x ∷ l) h q =
    let r : greatest x l ≡ e = cc in
    subst (λ (z : Float). Every (λ (y : Float). T (le y z)) (x ∷ l)) r (greatest-ge x l h.0 h.1, greatest-all x l h.0 h.1)

maximum-one : (P : Float → Type 0) (e : Float) (l : List Float) → Every P l → maximum l ≡ some e → P e
maximum-one P e [] h q = let z : ◌≡◌ {A = ℕ} 0 1 = cc in absurd (omega arith)
maximum-one P e (x ∷ l) h q = let r : greatest x l ≡ e = cc in subst P r (greatest-one P x l h.0 h.1)

maximum-none : (l : List Float) → maximum l ≡ none → Every (λ (y : Float). ⊥) l
maximum-none [] q = tt
maximum-none (x ∷ l) q = let z : ◌≡◌ {A = ℕ} 0 1 = cc in absurd (omega arith)

minimum-none : (l : List Float) → minimum l ≡ none → Every (λ (y : Float). ⊥) l
minimum-none [] q = tt
minimum-none (x ∷ l) q = let z : ◌≡◌ {A = ℕ} 0 1 = cc in absurd (omega arith)

every-none : {A : Type 0} (l : List A) → Every (λ (y : A). ⊥) l → l ≡ []
every-none [] h = refl
every-none (x ∷ l) h = absurd h.0

-- ---- the neighbours

module _ (times : List Float) (fit : Every Fits times) (t : Float) (ft : Fits t) where
  abbrev earlier : List Float
  earlier = keep (λ (x : Float). le x t) times

  earlier-number : Every Number earlier
  earlier-number =
      every-zip Fits (λ (x : Float). T (le x t)) Number (λ x f h. (f, (le-no-nan x t h).0)) earlier
      (every-keep Fits (λ (x : Float). le x t) times fit) (kept-pass (λ (x : Float). le x t) times)

  pub lower-found : (l : Float) → IsLower times t l → (m : Float) × (lower_neighbour times t ≡ some m) × Alike l m
  unfolding lower_neighbour
  lower-found l L = go (maximum earlier) refl
    where
      go : (o : Option Float) → maximum earlier ≡ o → (m : Float) × (o ≡ some m) × Alike l m
      go none q =
          let w = any-with (λ (x : Float). eq x l) (λ (x : Float). Fits x × (T (le x t) → ⊥)) times L.listed (every-zip Fits (λ (x : Float). T (le x t) → ⊥) (λ (x : Float). Fits x × (T (le x t) → ⊥)) (λ x f c. (f, c)) times fit (every-kept (λ (x : Float). ⊥) (λ (x : Float). le x t) times (maximum-none earlier q))) in
          absurd (w.2.1 (le_trans w.0 l t w.2.0 L.fits ft (eq→le w.0 l w.1) L.upto))
      go (some m) q =
          let fm = maximum-one Fits m earlier (every-keep Fits (λ (x : Float). le x t) times fit) q in
          let a = maximum-one (λ (x : Float). T (le x l)) m earlier (every-zip (λ (x : Float). T (le x t)) (λ (x : Float). T (le x t) → T (le x l)) (λ (x : Float). T (le x l)) (λ x p c. c p) earlier (kept-pass (λ (x : Float). le x t) times) (every-keep (λ (x : Float). T (le x t) → T (le x l)) (λ (x : Float). le x t) times L.last)) q in
          let w = any-with (λ (x : Float). eq x l) (λ (x : Float). Fits x × (T (le x t) → T (le x m))) times L.listed (every-zip Fits (λ (x : Float). T (le x t) → T (le x m)) (λ (x : Float). Fits x × (T (le x t) → T (le x m))) (λ x f c. (f, c)) times fit (every-kept (λ (x : Float). T (le x m)) (λ (x : Float). le x t) times (maximum-all m earlier earlier-number q))) in
          let b = alike-eq w.0 l w.2.0 L.fits w.1 in
          let c = w.2.1 (le_trans w.0 l t w.2.0 L.fits ft b.0 L.upto) in
          (m, refl, (le_trans l w.0 m L.fits w.2.0 fm b.1 c, a))

  pub lower-fits : (m : Float) → lower_neighbour times t ≡ some m → Fits m
  unfolding lower_neighbour
  lower-fits m q = maximum-one Fits m earlier (every-keep Fits (λ (x : Float). le x t) times fit) q

  pub lower-upto : (m : Float) → lower_neighbour times t ≡ some m → T (le m t)
  unfolding lower_neighbour
  lower-upto m q = maximum-one (λ (x : Float). T (le x t)) m earlier (kept-pass (λ (x : Float). le x t) times) q

  pub lower_last : (m : Float) → lower_neighbour times t ≡ some m → Every (λ (x : Float). T (le x t) → T (le x m)) times
  unfolding lower_neighbour
  lower_last m q = every-kept (λ (x : Float). T (le x m)) (λ (x : Float). le x t) times (maximum-all m earlier earlier-number q)

  pub lower-none : Every (λ (x : Float). T (le x t) → ⊥) times → lower_neighbour times t ≡ none
  unfolding lower_neighbour
  lower-none h =
      rw (every-none earlier (every-zip (λ (x : Float). T (le x t)) (λ (x : Float). T (le x t) → ⊥) (λ (x : Float). ⊥) (λ x p c. c p) earlier (kept-pass (λ (x : Float). le x t) times) (every-keep (λ (x : Float). T (le x t) → ⊥) (λ (x : Float). le x t) times h))) refl

  abbrev later : List Float
  later = keep (λ (x : Float). lt t x) times

  pub upper-found : (h : Float) → IsUpper times t h → (m : Float) × (upper_neighbour times t ≡ some m) × Alike h m
  unfolding upper_neighbour
  upper-found h U = go (minimum later) refl
    where
      number : Every Number later
      number =
          every-zip Fits (λ (x : Float). T (lt t x)) Number (λ x f p. (f, (le-no-nan t x (lt→le t x p)).1)) later
          (every-keep Fits (λ (x : Float). lt t x) times fit) (kept-pass (λ (x : Float). lt t x) times)

      go : (o : Option Float) → minimum later ≡ o → (m : Float) × (o ≡ some m) × Alike h m
      go none q =
          let w = any-with (λ (x : Float). eq x h) (λ (x : Float). Fits x × (T (lt t x) → ⊥)) times U.listed (every-zip Fits (λ (x : Float). T (lt t x) → ⊥) (λ (x : Float). Fits x × (T (lt t x) → ⊥)) (λ x f c. (f, c)) times fit (every-kept (λ (x : Float). ⊥) (λ (x : Float). lt t x) times (minimum-none later q))) in
          absurd (w.2.1 (lt-le-trans t h w.0 ft U.fits w.2.0 U.above (alike-eq w.0 h w.2.0 U.fits w.1).1))
      go (some m) q =
          let fm = minimum-one Fits m later (every-keep Fits (λ (x : Float). lt t x) times fit) q in
          let a = minimum-one (λ (x : Float). T (le h x)) m later (every-zip (λ (x : Float). T (lt t x)) (λ (x : Float). T (lt t x) → T (le h x)) (λ (x : Float). T (le h x)) (λ x p c. c p) later (kept-pass (λ (x : Float). lt t x) times) (every-keep (λ (x : Float). T (lt t x) → T (le h x)) (λ (x : Float). lt t x) times U.first)) q in
          let w = any-with (λ (x : Float). eq x h) (λ (x : Float). Fits x × (T (lt t x) → T (le m x))) times U.listed (every-zip Fits (λ (x : Float). T (lt t x) → T (le m x)) (λ (x : Float). Fits x × (T (lt t x) → T (le m x))) (λ x f c. (f, c)) times fit (every-kept (λ (x : Float). T (le m x)) (λ (x : Float). lt t x) times (minimum-all m later number q))) in
          let b = alike-eq w.0 h w.2.0 U.fits w.1 in
          let c = w.2.1 (lt-le-trans t h w.0 ft U.fits w.2.0 U.above b.1) in
          (m, refl, (a, le_trans m w.0 h fm w.2.0 U.fits c b.0))

  pub upper_fits : (m : Float) → upper_neighbour times t ≡ some m → Fits m
  unfolding upper_neighbour
  upper_fits m q = minimum-one Fits m later (every-keep Fits (λ (x : Float). lt t x) times fit) q

  pub upper-none : Every (λ (x : Float). T (lt t x) → ⊥) times → upper_neighbour times t ≡ none
  unfolding upper_neighbour
  upper-none h =
      rw (every-none later (every-zip (λ (x : Float). T (lt t x)) (λ (x : Float). T (lt t x) → ⊥) (λ (x : Float). ⊥) (λ x p c. c p) later (kept-pass (λ (x : Float). lt t x) times) (every-keep (λ (x : Float). T (lt t x) → ⊥) (λ (x : Float). lt t x) times h))) refl

-- ---- a jump by numbers

module _ (l m h k : Float) (fl : Fits l) (fm : Fits m) (fh : Fits h) (fk : Fits k) (a : Alike l m) (b : Alike h k) where
  jump-from : (p : Knot) (rest : List Knot) → Every SoundKnot (p ∷ rest)
      → any (λ (q : Knot × Knot). eq q.0.x q.1.x && lt l q.0.x && le q.0.x h) (pairs_from p rest)
      ≡ any (λ (q : Knot × Knot). eq q.0.x q.1.x && lt m q.0.x && le q.0.x k) (pairs_from p rest)
  jump-from p [] s = refl
  jump-from p (q ∷ rest) s =
      let x = p.x in
      let fx = s.0.fx in
      let d = lt_same l m fl fm a.0 x fx (λ c. le_trans x m l fx fm fl c a.1) in
      let e = le_same h k fh fk b.0 x fx (λ c. le_trans x k h fx fk fh c b.1) in
      ap₂ (λ (u : Bool × Bool) (v : Bool). eq p.x q.x && u.0 && u.1 || v) (ap₂ (λ (u v : Bool). (u, v)) d e) (jump-from q rest s.1)

  pub jump-alike : (knots : List Knot) → Every SoundKnot knots → jump knots l h ≡ jump knots m k
  unfolding jump
  jump-alike [] s = refl
  jump-alike (p ∷ rest) s = jump-from p rest s

-- ---- the cell by them, with several starts

module _ (set : ClipSet) (s : Samples) (S : SoundSet set) (A : SoundSamples s) (several : several_starts set ≡ true) (t : Float) (ft : Fits t) where
  abbrev times : List Float
  times = gathered set s (active_position set.active (stage t))

  fit : Every Fits times
  fit = gathered-fit set s S A (active_position set.active (stage t))

  held_by : (o r : Option Float) → lower_neighbour times t ≡ o → upper_neighbour times t ≡ r → cell_of set s (stage t) ≡ cell_by set s (stage t) (held_between set.knots o r)
  unfolding cell_of
  held_by o r p q = ap (cell_by set s (stage t)) (held-many set s (stage t) several ∙ ap₂ (held_between set.knots) p q)

  module _ (l h : Float) (L : IsLower times t l) (U : IsUpper times t h) where
    by_jump : (b : Bool) → jump set.knots l h ≡ b → cell_of set s (stage t) ≡ cond b (direct_cell set s (stage t)) (constant (direct_source set s (stage l)))
    by_jump b e =
        let m = lower-found times fit t ft l L in
        let k = upper-found times fit t ft h U in
        let fm : Fits m.0 = lower-fits times fit t ft m.0 m.1 in
        let fk : Fits k.0 = upper_fits times fit t ft k.0 k.1 in
        held_by (some m.0) (some k.0) m.1 k.1
        ∙ ap (λ (c : Bool). cell_by set s (stage t) (cond c none (some m.0))) (sym (jump-alike l m.0 h k.0 L.fits fm U.fits fk m.2 k.2 set.knots S.knots) ∙ e)
        ∙ go b m.0 (direct-alike set s S A l m.0 L.fits fm m.2)
      where
        go : (b : Bool) (m : Float) → direct_source set s (stage l) ≡ direct_source set s (stage m) → cell_by set s (stage t) (cond b none (some m)) ≡ cond b (direct_cell set s (stage t)) (constant (direct_source set s (stage l)))
        go true m d = refl
        go false m d = ap constant (sym d)

    -- "Otherwise the direct value at the lower neighbour"
    pub cell-held : jump set.knots l h ≡ false → cell_of set s (stage t) ≡ constant (direct_source set s (stage l))
    cell-held e = by_jump false e

    -- "If two knots share an x above the lower neighbour and at most the upper: direct"
    pub cell-jump : jump set.knots l h ≡ true → cell_of set s (stage t) ≡ direct_cell set s (stage t)
    cell-jump e = by_jump true e

  -- "If t is below all .. direct"
  pub cell_below : Every (λ (x : Float). T (le x t) → ⊥) times → cell_of set s (stage t) ≡ direct_cell set s (stage t)
  cell_below h = held_by none (upper_neighbour times t) (lower-none times fit t ft h) refl

  -- "from the last on .. direct"
  pub cell-last : Every (λ (x : Float). T (lt t x) → ⊥) times → cell_of set s (stage t) ≡ direct_cell set s (stage t)
  cell-last h = held_by (lower_neighbour times t) none refl (upper-none times fit t ft h) ∙ go (lower_neighbour times t)
    where
      go : (o : Option Float) → cell_by set s (stage t) (held_between set.knots o none) ≡ direct_cell set s (stage t)
      go none = refl
      go (some l) = refl

-- "One start: direct"
pub cell-few : (set : ClipSet) (s : Samples) → several_starts set ≡ false → (t : Float) → cell_of set s (stage t) ≡ direct_cell set s (stage t)
unfolding cell_of
cell-few set s e t = ap (cell_by set s (stage t)) (held-few set s (stage t) e)
