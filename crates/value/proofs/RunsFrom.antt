-- A run: from a time in a segment of the knots on, the window's times above its lower neighbour are the inverse times of that segment's samples, up to one
-- of them that lies below the next knot and the next start. So a time of the run holds its value from the lower neighbour, with no jump. Assumes nothing.
use Rattle.std.specs.Prelude.{Option, None, Some}
use mathlib.Core.Path.{◌≡◌, refl, sym, subst}
use mathlib.Core.Logic.{inl, inr}
use mathlib.Core.Bool.{Bool, true, false, cond}
use mathlib.Core.List.{List, [], ◌∷◌, ◌++◌}
use Prim.Native.Nat.{ℕ, ◌+◌, ◌-◌, ◌≤◌, ◌<◌}
use native.Mathlib.Nat.{le_of_eq}
use native.Mathlib.Omega.{arith}
use native.Mathlib.Decide.{dec_le}
use lib.Dec.{T}
use lib.ListN.{length, get_or}
use lib.Ieee.{Float, nan, inf, fits, eq, lt, le}
use Rattle.gf.specs.Doubles.{key}
use Rattle.gf.proofs.KeyLaws.{le→key, lt→key, key→le, key→lt, eq→key, key→eq, le_trans, le-no-nan, lt→le}
use Rattle.gf.specs.declared.interval.Interval.{Interval}
use Rattle.definitions.specs.declared.Knot.{Knot}
use Rattle.definitions.specs.Lists.{any, keep}
use Rattle.definitions.specs.Timing.{last_at_most}
use Rattle.definitions.specs.Value.{spans, inverse, on_pair}
use Rattle.laws.proofs.list.Tests.{is_true, is_false, holds, both, or_l, or_r}
use Rattle.laws.specs.list.Every.{Every}
use Rattle.laws.proofs.list.Every.{every-at, any-with, every-by, every-zip, every-keep, every-kept, every_append, every-left, every-right}
use Rattle.laws.specs.list.Places.{Number, Fits}
use Rattle.laws.proofs.cell.Window.{inf-below}
use Rattle.laws.specs.cell.Neighbours.{IsLower, IsUpper}
use Rattle.laws.specs.cell.Lent.{knots_of}
use Rattle.window.specs.Bounds.{In, inside, LowerIs, UpperIs}
use Rattle.window.proofs.BoundsLaws.{in-every, every_in, lower-there, upper-there}
use Rattle.window.specs.Inverses.{on_segment, inverses_of}
use Rattle.window.proofs.Inverses.{every_of, every-if}
use Rattle.window.specs.nearest.Beside.{TimeInside}
use Rattle.window.proofs.nearest.Beside.{finite_number, number_at, climb}
use Rattle.window.specs.declared.search.Window.{Window}
use Rattle.window.specs.search.Latest.{segment_of}
use Rattle.window.proofs.search.Reaches.{segment-times, inverse-number, to-places, from_places}
use Rattle.window.specs.search.Windowed.{interval_of, next_of, window_times, Nearing}
use Rattle.window.proofs.search.Windowed.{near-faces}
use Rattle.value.specs.Jumps.{jump_in}
use Rattle.value.proofs.Jumps.{none-all, none_above}
use Rattle.value.specs.ClipTimes.{OnSegment}
use Rattle.value.proofs.ClipTimes.{found}
use Rattle.value.specs.RunsFrom.{RunFrom}

-- the neighbours m and n of a time u of the run: m is the last of l and the segment's inverse times that is at most u, and it lies on the segment
pub record HeldAt (xs ys cs : List Float) (w : Window) (i : ℕ) (l u : Float) : Type 0 where
  pub m : Float
  pub n : Float
  pub lower : IsLower (window_times xs ys cs w) u m
  pub upper : IsUpper (window_times xs ys cs w) u n
  pub run : IsLower (l ∷ on_segment cs (segment_of xs ys i)) u m
  pub level : jump_in xs m n ≡ false
  pub begun : key w.start ≤ key m
  pub from : key (get_or xs i nan) ≤ key m
  pub upto : key m < key (get_or xs (i + 1) nan)

inf-fits : Fits (inf true)
unfolding fits
inf-fits = tt

in-any-of : (x m : Float) (l : List Float) → T (eq x m) → In x l → T (any (λ (y : Float). eq y m) l)
in-any-of x m [] h i = absurd i
in-any-of x m (y ∷ l) h (inl e) = or_l (eq y m) (any (λ (z : Float). eq z m) l) (subst (λ (z : Float). T (eq z m)) e h)
in-any-of x m (y ∷ l) h (inr i) = or_r (eq y m) (any (λ (z : Float). eq z m) l) (in-any-of x m l h i)

-- ---- the run

module _ (xs ys latest cs : List Float) (w : Window) (t : Float) (i : ℕ) (l h : Float) (O : RunFrom xs ys latest cs w t i l h) where
  abbrev v : Interval
  v = interval_of w

  abbrev q : Knot × Knot
  q = segment_of xs ys i

  abbrev seg : List Float
  seg = on_segment cs (segment_of xs ys i)

  abbrev g : List Float
  g = window_times xs ys cs w

  abbrev A : Nearing xs ys latest cs w t
  A = O.nears

  min-fits : Fits w.min
  min-fits = elim O.least [
    | inl e ↦ subst Fits (sym e) inf-fits
    | inr e ↦ subst Fits (sym e) A.start.fitting
  ]

  F : TimeInside (interval_of w) t
  F = near-faces xs ys latest cs w t A min-fits O.most

  place : i < length xs
  place = omega (arith, O.here.place)

  at : i ≡ last_at_most xs t
  at = found xs ys A.knots A.paired t A.time.fitting i O.here

  nt : Number t
  nt = finite_number t A.time

  nl : Number l
  nl = (O.lower.fits, (le-no-nan l t O.lower.upto).0)

  kl : key l ≤ key t
  kl = le→key l t nl.0 nt.0 nl.1 nt.1 O.lower.upto

  here-number : (j : ℕ) → j < length xs → Number (get_or xs j nan)
  here-number j b = number_at xs A.knots j b

  kf : key (get_or xs i nan) ≤ key t
  kf = let n = here-number i place in le→key (get_or xs i nan) t n.0 nt.0 n.1 nt.1 (holds (le (get_or xs i nan) t) O.here.from)

  -- an inverse time of a segment is a number
  inv-number : (j : ℕ) → j + 1 < length xs → (c : Float) → T (spans (get_or ys j nan) (get_or ys (j + 1) nan) c)
      → Number (inverse (segment_of xs ys j).0 (segment_of xs ys j).1 c) × (key (get_or xs j nan) ≤ key (inverse (segment_of xs ys j).0 (segment_of xs ys j).1 c))
  inv-number j b c s = inverse-number t v xs ys cs F A.time A.knots A.paired A.segments i at place j b c s

  seg-numbers : Every Number seg
  unfolding on_segment
  seg-numbers = every_of Number (λ (c : Float). on_pair c q) cs (each cs)
    where
      one : (c : Float) → Every Number (on_pair c q)
      one c = go (spans (get_or ys i nan) (get_or ys (i + 1) nan) c) (λ x. x)
        where
          go : (b : Bool) → (T b → T (spans (get_or ys i nan) (get_or ys (i + 1) nan) c)) → Every Number (cond b (inverse q.0 q.1 c ∷ []) [])
          go true x = ((inv-number i O.here.place c (x tt)).0, tt)
          go false x = tt

      each : (k : List Float) → Every (λ (c : Float). Every Number (on_pair c q)) k
      each [] = tt
      each (c ∷ k) = (one c, each k)

  pub nh : Number h
  nh = in-every Number h seg seg-numbers O.listed

  kh : key t < key h
  kh = lt→key t h nt.0 nh.0 nt.1 nh.1 O.above

  kx : key h < key (get_or xs (i + 1) nan)
  kx = let n = here-number (i + 1) O.here.place in lt→key h (get_or xs (i + 1) nan) nh.0 n.0 nh.1 n.1 O.upto

  km : key h < key w.max
  km = lt→key h w.max nh.0 F.max.0 nh.1 F.max.1 O.within

  in-by : (x : Float) → Number x → key w.min ≤ key x → key x < key w.max → T (inside v x)
  in-by x n a b = both (le w.min x) (lt x w.max) (key→le w.min x F.min.0 n.0 F.min.1 n.1 a) (key→lt x w.max n.0 F.max.0 n.1 F.max.1 b)

  -- ---- the parts of the window's times

  module _ (P : Float → Type 0) (all : Every P (window_times xs ys cs w)) where
    part-start : P w.start
    unfolding window_times
    part-start = all.0

    part-knots : Every P (keep (inside v) xs)
    unfolding window_times
    part-knots =
        every-left P (keep (inside v) xs) (keep (inside v) (inverses_of (knots_of xs ys) cs))
        (every-left P (keep (inside v) xs ++ keep (inside v) (inverses_of (knots_of xs ys) cs)) (next_of w) all.1)

    part-inverses : Every P (keep (inside v) (inverses_of (knots_of xs ys) cs))
    unfolding window_times
    part-inverses =
        every-right P (keep (inside v) xs) (keep (inside v) (inverses_of (knots_of xs ys) cs))
        (every-left P (keep (inside v) xs ++ keep (inside v) (inverses_of (knots_of xs ys) cs)) (next_of w) all.1)

    -- the inverse times of the segment that lie inside
    part-segment : Every (λ (x : Float). T (inside v x) → P x) seg
    part-segment = every-kept P (inside v) seg (to-places t v xs ys cs F A.time A.knots A.paired A.segments i at place P part-inverses i O.here.place)

  -- ---- what lies up to l

  start-low : key w.start ≤ key l
  start-low =
      let n = finite_number w.start A.start in
      le→key w.start l n.0 nl.0 n.1 nl.1 (part-start (λ (x : Float). T (le x t) → T (le x l)) O.lower.last O.begun)

  min-low : key w.min ≤ key l
  min-low = elim O.least [
    | inl e ↦ let b = inf-below l nl.1 in subst (λ (z : Float). key z ≤ key l) (sym e) (le→key (inf true) l inf-fits nl.0 (le-no-nan (inf true) l b).0 nl.1 b)
    | inr e ↦ subst (λ (z : Float). key z ≤ key l) (sym e) start-low
  ]

  pub knot-low : (j : ℕ) → j ≤ i → key (get_or xs j nan) ≤ key l
  knot-low j b =
      let j-place : j < length xs = omega (arith, place) in
      let n = here-number j j-place in
      let c = climb xs A.knots j i b place in
      elim (dec_le (key w.min) (key (get_or xs j nan))) [
        | no o ↦ omega (arith, min-low)
        | yes o ↦
            le→key (get_or xs j nan) l n.0 nl.0 n.1 nl.1
            (every-at (λ (x : Float). T (inside v x) → T (le x t) → T (le x l)) xs j nan
            (every-kept (λ (x : Float). T (le x t) → T (le x l)) (inside v) xs (part-knots (λ (x : Float). T (le x t) → T (le x l)) O.lower.last)) j-place
            (in-by (get_or xs j nan) n o (omega (arith, kf, F.upto)))
            (key→le (get_or xs j nan) t n.0 nt.0 n.1 nt.1 (omega (arith, kf))))
      ]

  -- ---- above l and up to h there are only the segment's inverse times

  abbrev Fine : Float → Type 0
  Fine x = Number x × (key l < key x → key x ≤ key h → In x (on_segment cs (segment_of xs ys i)))

  fine-knots : Every Fine (keep (inside v) xs)
  fine-knots = every-if Fine (inside v) xs (every-by (λ (x : Float). T (inside v x) → Fine x) xs nan each)
    where
      each : (j : ℕ) → j < length xs → T (inside v (get_or xs j nan)) → Fine (get_or xs j nan)
      each j b u = (
        here-number j b,
        λ a c. elim (dec_le j i) [
          | yes o ↦ absurd (omega (arith, knot-low j o))
          | no o ↦ absurd (omega (arith, climb xs A.knots (i + 1) j (omega arith) b, kx))
        ],
      )

  fine-inverses : Every Fine (keep (inside v) (inverses_of (knots_of xs ys) cs))
  fine-inverses = from_places t v xs ys cs F A.time A.knots A.paired A.segments i at place Fine each
    where
      own : Every Fine (keep (inside v) seg)
      own = every-keep Fine (inside v) seg (every-zip Number (λ (x : Float). In x seg) Fine (λ x n o. (n, λ a b. o)) seg seg-numbers (every_in seg))

      each : (j : ℕ) → j + 1 < length xs → Every Fine (keep (inside v) (on_segment cs (segment_of xs ys j)))
      each j b = elim (dec_le i j) [
        | no o ↦ segment-times t v xs ys cs j Fine
            (λ c s u. let n = (inv-number j b c s).0 in
            let p = O.past (omega arith) in
            let r = A.reach.above (i - 1) p.0 (omega (arith, place)) in
            let x = inverse (segment_of xs ys j).0 (segment_of xs ys j).1 c in
            let k = le→key x l n.0 nl.0 n.1 nl.1 (le_trans x (get_or latest (i - 1) nan) l n.0 r.number.0 nl.0 (r.last j (omega arith) c s) p.1) in
            (n, λ y z. absurd (omega arith)))
        | yes o ↦ elim (dec_le j i) [
          | yes o' ↦ let z : i ≡ j = omega arith in subst (λ (k : ℕ). Every Fine (keep (inside v) (on_segment cs (segment_of xs ys k)))) z own
          | no o' ↦ segment-times t v xs ys cs j Fine
              (λ c s u. let n = inv-number j b c s in
              let k = climb xs A.knots (i + 1) j (omega arith) (omega arith) in
              (n.0, λ y z. absurd (omega (arith, n.1, kx))))
        ]
      ]

  fine : Every Fine (window_times xs ys cs w)
  unfolding window_times
  fine = (
    (finite_number w.start A.start, λ a b. absurd (omega (arith, start-low))),
    every_append Fine (keep (inside v) xs ++ keep (inside v) (inverses_of (knots_of xs ys) cs)) (next_of w)
        (every_append Fine (keep (inside v) xs) (keep (inside v) (inverses_of (knots_of xs ys) cs)) fine-knots fine-inverses)
        (next (lt w.max (inf false))),
  )
    where
      next : (b : Bool) → Every Fine (cond b (w.max ∷ []) [])
      next true = ((F.max, λ a b. absurd (omega (arith, km))), tt)
      next false = tt

  -- ---- at a time of the run

  module _ (u : Float) (nu : Number u) (tu : key t ≤ key u) (uh : key u < key h) where
    h-above : T (lt u h)
    h-above = key→lt u h nu.0 nh.0 nu.1 nh.1 uh

    -- what holds of the window's times holds of h
    of-h : (P : Float → Type 0) → Every P (window_times xs ys cs w) → P h
    of-h P all = in-every (λ (x : Float). T (inside v x) → P x) h seg (part-segment P all) O.listed (in-by h nh (omega (arith, F.from, kh)) km)

    -- and of a time equal to l
    of-l : (P : Float → Type 0) → Every P (window_times xs ys cs w) → (x : Float) × T (eq x l) × Number x × P x
    of-l P all =
        let r = any-with (λ (x : Float). eq x l) (λ (x : Float). Number x × P x) g O.lower.listed (every-zip Fine P (λ (x : Float). Number x × P x) (λ x n p. (n.0, p)) g fine all) in
        (r.0, r.1, r.2.0, r.2.1)

    module _ (m n : Float) (M : IsLower (window_times xs ys cs w) u m) (N : IsUpper (window_times xs ys cs w) u n) where
      nm : Number m
      nm = (M.fits, (le-no-nan m u M.upto).0)

      nn : Number n
      nn = (N.fits, (le-no-nan u n (lt→le u n N.above)).1)

      mu : key m ≤ key u
      mu = le→key m u nm.0 nu.0 nm.1 nu.1 M.upto

      un : key u < key n
      un = lt→key u n nu.0 nn.0 nu.1 nn.1 N.above

      lm : key l ≤ key m
      lm =
          let r = of-l (λ (x : Float). T (le x u) → T (le x m)) M.last in
          let x = r.0 in
          let e = eq→key x l r.2.0 nl.0 r.2.1 nl.1 r.1 in
          let k = le→key x m r.2.0 nm.0 r.2.1 nm.1 (r.3 (key→le x u r.2.0 nu.0 r.2.1 nu.1 (omega (arith, kl)))) in
          omega arith

      kn : key n ≤ key h
      kn = le→key n h nn.0 nh.0 nn.1 nh.1 (of-h (λ (x : Float). T (lt u x) → T (le n x)) N.first h-above)

      run-last : Every (λ (x : Float). T (le x u) → T (le x m)) seg
      run-last = every-zip Number (λ (x : Float). T (inside v x) → T (le x u) → T (le x m)) (λ (x : Float). T (le x u) → T (le x m)) one seg seg-numbers (part-segment (λ (x : Float). T (le x u) → T (le x m)) M.last)
        where
          one : (x : Float) → Number x → (T (inside v x) → T (le x u) → T (le x m)) → T (le x u) → T (le x m)
          one x n f b =
              let k = le→key x u n.0 nu.0 n.1 nu.1 b in
              elim (dec_le (key w.min) (key x)) [
                | yes o ↦ f (in-by x n o (omega (arith, km))) b
                | no o ↦ key→le x m n.0 nm.0 n.1 nm.1 (omega (arith, min-low, lm))
              ]

      run-listed : T (any (λ (x : Float). eq x m) (l ∷ on_segment cs (segment_of xs ys i)))
      run-listed = elim (dec_le (key m) (key l)) [
        | yes o ↦ or_l (eq l m) (any (λ (x : Float). eq x m) seg) (key→eq l m nl.0 nm.0 nl.1 nm.1 (omega (arith, lm)))
        | no o ↦
            let r = any-with (λ (x : Float). eq x m) Fine g M.listed fine in
            let e = eq→key r.0 m r.2.0.0 nm.0 r.2.0.1 nm.1 r.1 in
            or_r (eq l m) (any (λ (x : Float). eq x m) seg) (in-any-of r.0 m seg r.1 (r.2.1 (omega arith) (omega (arith, mu))))
      ]

      from_low : key (get_or xs i nan) ≤ key m
      from_low = omega (arith, knot-low i (omega arith), lm)

      n-on : OnSegment xs n i
      n-on =
          let x = here-number i place in
          let y = here-number (i + 1) O.here.place in
          record {
            place = O.here.place;
            from = is_true (le (get_or xs i nan) n) (key→le (get_or xs i nan) n x.0 nn.0 x.1 nn.1 (omega (arith, from_low, mu, un)));
            upto = is_true (lt n (get_or xs (i + 1) nan)) (key→lt n (get_or xs (i + 1) nan) nn.0 y.0 nn.1 y.1 (omega (arith, kn, kx)));
          }

      no_jump : jump_in xs m n ≡ false
      no_jump =
          let x = here-number i place in
          let f = found xs ys A.knots A.paired n nn.0 i n-on in
          none-all xs A.knots m n nm.0 nn.0 i
          (is_false (lt m (get_or xs i nan)) (λ b. let k = lt→key m (get_or xs i nan) nm.0 x.0 nm.1 x.1 b in absurd (omega (arith, from_low))))
          place (λ j a b. none_above xs A.knots m n nm.0 nn.0 j (omega (arith, f)) b)

      run-lower : IsLower (l ∷ on_segment cs (segment_of xs ys i)) u m
      run-lower = record { fits = M.fits; listed = run-listed; upto = M.upto; last = (λ _. key→le l m nl.0 nm.0 nl.1 nm.1 lm, run-last) }

      held : HeldAt xs ys cs w i l u
      held = record {
        m = m;
        n = n;
        lower = M;
        upper = N;
        run = run-lower;
        level = no_jump;
        begun = omega (arith, start-low, lm);
        from = from_low;
        upto = omega (arith, mu, kx);
      }

    -- the neighbours are found, and the value is held from the lower one
    pub run-held : Every Fits (window_times xs ys cs w) → HeldAt xs ys cs w i l u
    run-held fit = let a = lower-there u nu.0 g fit in let b = upper-there u nu.0 g fit in go a.0 b.0 a.1 b.1
      where
        go : (a b : Option Float) → LowerIs g u a → UpperIs g u b → HeldAt xs ys cs w i l u
        go None b L U =
            let r = of-l (λ (x : Float). T (le x u) → ⊥) L in
            let e = eq→key r.0 l r.2.0 nl.0 r.2.1 nl.1 r.1 in
            absurd (r.3 (key→le r.0 u r.2.0 nu.0 r.2.1 nu.1 (omega (arith, kl))))
        go (Some m) None L U = absurd (of-h (λ (x : Float). T (lt u x) → ⊥) U h-above)
        go (Some m) (Some n) L U = held m n L U

  -- where it begins, the lower neighbour is l
  pub run-first : Every Fits (window_times xs ys cs w) → IsLower (l ∷ on_segment cs (segment_of xs ys i)) t l
  run-first fit =
      let r = run-held t nt (le_of_eq refl) kh fit in
      run-lower t nt (le_of_eq refl) kh l r.n O.lower r.upper
