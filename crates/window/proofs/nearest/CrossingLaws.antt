-- One segment: its inverse times rise or fall with the samples, so they pass t at one place, and the two samples there stand for all. Assumes nothing.
use mathlib.Core.Path.{◌≡◌, refl, sym, ◌∙◌, subst}
use mathlib.Core.Logic.{inl, inr}
use mathlib.Core.Bool.{Bool, true, false, ◌&&◌, cond}
use mathlib.Core.List.{List, [], ◌∷◌}
use Prim.Native.Nat.{ℕ, suc, ◌-◌, ◌≤◌, ◌<◌}
use native.Mathlib.Omega.{arith}
use native.Mathlib.Decide.{dec_le}
use lib.Dec.{T, ltb, leb}
use lib.ListN.{length, get_or}
use lib.Ieee.{Float, nan, lt, le}
use borrow.Author.Tests.{ltb-true, ltb-false, lt-ltb, le-ltb, leb-true, leb-false}
use Rattle.gf.specs.Doubles.{key}
use Rattle.gf.proofs.KeyLaws.{lt-is, le_is, le→key, lt→key, key→le, finite-no-nan}
use Rattle.gf.proofs.Exactly.{within-finite}
use Rattle.gf.specs.declared.interval.Interval.{Interval}
use Rattle.definitions.specs.declared.Knot.{Knot}
use Rattle.definitions.specs.Lists.{keep, gather}
use Rattle.definitions.specs.Value.{spans, inverse, on_pair}
use Rattle.laws.proofs.list.Tests.{is_true, both, both_l, both_r, or_l, or_r, or_split}
use Rattle.laws.specs.list.Every.{Every}
use Rattle.laws.proofs.list.Every.{every-at, every-by, every-kept}
use Rattle.laws.specs.list.Places.{Ascending, Number}
use Rattle.laws.proofs.cell.Inverse.{inverse-fin-up, inverse-fin-down, inverse-up, inverse-down}
use Rattle.window.specs.declared.Neighbours.{Neighbours}
use Rattle.window.specs.Bounds.{In, inside}
use Rattle.window.specs.Inverses.{on_segment}
use Rattle.window.proofs.Inverses.{every_of, every-each, every-if}
use Rattle.window.specs.SoundSegments.{SoundSegment}
use Rattle.window.proofs.SoundSegments.{inverse-fits}
use Rattle.window.specs.nearest.Nearest.{Met, Searched, with_inside}
use Rattle.window.proofs.nearest.Nearest.{searched-none, searched-inside}
use Rattle.window.specs.nearest.Beside.{TimeInside}
use Rattle.window.proofs.nearest.Beside.{meet_below, meet-above, number_at, climb}
use Rattle.window.specs.nearest.Crossings.{is_beyond, Crossing, sample_at}

-- ---- where the inverse times pass t

abbrev pub sample_before : List Float → Knot × Knot → ℕ → List Float
sample_before cs q n = cond (ltb 0 n) (sample_at cs q (n - 1)) []

-- ---- what a segment that rises or falls has in common

record Turning (t : Float) (lo hi : ℕ) (f : Float → Float) (p : Float → Bool) (up : Bool) : Type 0 where
  number : (c : Float) → Number c → lo ≤ key c → key c ≤ hi → Number (f c)
  under : (c : Float) → Number c → key c < lo → p c ≡ false
  over : (c : Float) → Number c → hi < key c → p c ≡ true
  past : (c : Float) → Number c → lo ≤ key c → key c ≤ hi → p c ≡ cond up (ltb (key t) (key (f c))) (leb (key (f c)) (key t))
  mono : (c d : Float) → Number c → Number d → lo ≤ key c → key c ≤ key d → key d ≤ hi → cond up (key (f c) ≤ key (f d)) (key (f d) ≤ key (f c))

module _ (w : Interval) (t : Float) (F : TimeInside w t) (lo hi : ℕ) (f : Float → Float) (p : Float → Bool) (r : Neighbours) where
  -- the samples c and d, of which d stands at the place or right before it
  module _ (c d : Float) (nc : Number c) (nd : Number d) (m : lo ≤ key d → key d ≤ hi → T (inside w (f d)) → Met t r (f d)) (i : T (inside w (f c))) where
    turned-before : (up : Bool) → Turning t lo hi f p up → p d ≡ false → lo ≤ key c → key c ≤ key d → Met t r (f c)
    turned-before up G e l k = elim (dec_le (key d) hi) [
      | no o ↦ absurd (differ (sym e ∙ G.over d nd (omega arith)))
      | yes h ↦ go up (G.past d nd (omega arith) h) (G.mono c d nc nd l k h) (G.number c nc l (omega arith)) (G.number d nd (omega arith) h) h
    ]
      where
        differ : false ≡ true → ⊥
        differ q = let z : ◌≡◌ {A = ℕ} 0 1 = cc in absurd (omega arith)

        go : (b : Bool) → p d ≡ cond b (ltb (key t) (key (f d))) (leb (key (f d)) (key t)) → cond b (key (f c) ≤ key (f d)) (key (f d) ≤ key (f c)) → Number (f c) → Number (f d) → key d ≤ hi → Met t r (f c)
        go true q o x y h = meet_below w t F r (f c) (f d) x y o (ltb-false (key t) (key (f d)) (sym q ∙ e)) i (m (omega arith) h)
        go false q o x y h = meet-above w t F r (f c) (f d) x y (leb-false (key (f d)) (key t) (sym q ∙ e)) o i (m (omega arith) h)

    turned-from : (up : Bool) → Turning t lo hi f p up → p d ≡ true → key c ≤ hi → key d ≤ key c → Met t r (f c)
    turned-from up G e l k = elim (dec_le lo (key d)) [
      | no o ↦ absurd (differ (sym (G.under d nd (omega arith)) ∙ e))
      | yes h ↦ go up (G.past d nd h (omega arith)) (G.mono d c nd nc h k l) (G.number c nc (omega arith) l) (G.number d nd h (omega arith)) h
    ]
      where
        differ : false ≡ true → ⊥
        differ q = let z : ◌≡◌ {A = ℕ} 0 1 = cc in absurd (omega arith)

        go : (b : Bool) → p d ≡ cond b (ltb (key t) (key (f d))) (leb (key (f d)) (key t)) → cond b (key (f d) ≤ key (f c)) (key (f c) ≤ key (f d)) → Number (f c) → Number (f d) → lo ≤ key d → Met t r (f c)
        go true q o x y h = meet-above w t F r (f c) (f d) x y (ltb-true (key t) (key (f d)) (sym q ∙ e)) o i (m h (omega arith))
        go false q o x y h = meet_below w t F r (f c) (f d) x y o (leb-true (key (f d)) (key t) (sym q ∙ e)) i (m h (omega arith))

-- ---- a segment is such a one

module _ (t : Float) (nt : Number t) (q : Knot × Knot) (s : SoundSegment q) where
  abbrev f : Float → Float
  f = inverse q.0 q.1

  na : Number q.0.y
  na = (s.first.fy, finite-no-nan q.0.y (within-finite 40 q.0.y s.first.by))

  nb : Number q.1.y
  nb = (s.second.fy, finite-no-nan q.1.y (within-finite 40 q.1.y s.second.by))

  le_of : (x y : Float) → Number x → Number y → key x ≤ key y → T (le x y)
  le_of x y n m h = key→le x y n.0 m.0 n.1 m.1 h

  not-lt : (x y : Float) → Number x → Number y → key y ≤ key x → lt x y ≡ false
  not-lt x y n m h = lt-is x y n.0 m.0 n.1 m.1 ∙ le-ltb (key x) (key y) h

  does-lt : (x y : Float) → Number x → Number y → key x < key y → lt x y ≡ true
  does-lt x y n m h = lt-is x y n.0 m.0 n.1 m.1 ∙ lt-ltb (key x) (key y) h

  module _ (up : T (lt q.0.y q.1.y)) where
    rises : key q.0.y < key q.1.y
    rises = lt→key q.0.y q.1.y na.0 nb.0 na.1 nb.1 up

    rising-number : (c : Float) → Number c → key q.0.y ≤ key c → key c ≤ key q.1.y → Number (f c)
    rising-number c n l h =
        (inverse-fits q c, finite-no-nan (f c) (inverse-fin-up q.0 q.1 s.first s.second s.wide up c (le_of q.0.y c na n l) (le_of c q.1.y n nb h)).0)

    rising : Turning t (key q.0.y) (key q.1.y) f (is_beyond t q) true
    unfolding is_beyond
    rising = record {
      number = rising-number;
      under = λ c n h. rw (does-lt q.0.y q.1.y na nb rises, not-lt q.1.y c nb n (omega (arith, rises)), does-lt c q.0.y n na h) refl;
      over = λ c n h. rw (does-lt q.0.y q.1.y na nb rises, does-lt q.1.y c nb n h) refl;
      past = λ c n l h. rw (does-lt q.0.y q.1.y na nb rises, not-lt q.1.y c nb n h, not-lt c q.0.y n na l)
          (let m = rising-number c n l h in lt-is t (f c) nt.0 m.0 nt.1 m.1);
      mono = λ c d n m l k h.
          let x = rising-number c n l (omega arith) in
          let y = rising-number d m (omega arith) h in
          le→key (f c) (f d) x.0 y.0 x.1 y.1
          (inverse-up q.0 q.1 s.first s.second s.wide up c d (le_of q.0.y c na n l) (le_of c q.1.y n nb (omega arith)) (le_of q.0.y d na m (omega arith)) (le_of d q.1.y m nb h) (le_of c d n m k));
    }

  module _ (dn : T (lt q.1.y q.0.y)) where
    falls : key q.1.y < key q.0.y
    falls = lt→key q.1.y q.0.y nb.0 na.0 nb.1 na.1 dn

    falling-number : (c : Float) → Number c → key q.1.y ≤ key c → key c ≤ key q.0.y → Number (f c)
    falling-number c n l h =
        (inverse-fits q c, finite-no-nan (f c) (inverse-fin-down q.0 q.1 s.first s.second s.wide dn c (le_of q.1.y c nb n l) (le_of c q.0.y n na h)).0)

    falling : Turning t (key q.1.y) (key q.0.y) f (is_beyond t q) false
    unfolding is_beyond
    falling = record {
      number = falling-number;
      under = λ c n h. rw (not-lt q.0.y q.1.y na nb (omega (arith, falls)), not-lt q.0.y c na n (omega (arith, falls)), does-lt c q.1.y n nb h) refl;
      over = λ c n h. rw (not-lt q.0.y q.1.y na nb (omega (arith, falls)), does-lt q.0.y c na n h) refl;
      past = λ c n l h. rw (not-lt q.0.y q.1.y na nb (omega (arith, falls)), not-lt q.0.y c na n h, not-lt c q.1.y n nb l)
          (let m = falling-number c n l h in le_is (f c) t m.0 nt.0 m.1 nt.1);
      mono = λ c d n m l k h.
          let x = falling-number c n l (omega arith) in
          let y = falling-number d m (omega arith) h in
          le→key (f d) (f c) y.0 x.0 y.1 x.1
          (inverse-down q.0 q.1 s.first s.second s.wide dn c d (le_of q.1.y c nb n l) (le_of c q.0.y n na (omega arith)) (le_of q.1.y d nb m (omega arith)) (le_of d q.0.y m na h) (le_of c d n m k));
    }

  -- ---- the two samples at the turn stand for all

  module _ (w : Interval) (F : TimeInside w t) (cs : List Float) (a : Ascending cs) (n : ℕ) (U : Crossing (is_beyond t q) cs n) (r : Neighbours) where
    -- what is known of the sample d, where the segment spans it
    abbrev Known : Float → Type 0
    Known d = T (spans q.0.y q.1.y d) → T (inside w (f d)) → Met t r (f d)

    module _ (before : (j : ℕ) → suc j ≡ n → Known (get_or cs j nan)) (here : n < length cs → Known (get_or cs n nan)) where
      -- with lo, hi and the way of the segment
      by : (lo hi : ℕ) (up : Bool) → Turning t lo hi f (is_beyond t q) up → ((d : Float) → Number d → lo ≤ key d → key d ≤ hi → T (spans q.0.y q.1.y d))
          → (i : ℕ) → i < length cs → lo ≤ key (get_or cs i nan) → key (get_or cs i nan) ≤ hi → T (inside w (f (get_or cs i nan))) → Met t r (f (get_or cs i nan))
      by lo hi up G sp i h l k u = elim (dec_le n i) [
        | yes o ↦
            let g : n < length cs = omega arith in
            let d = get_or cs n nan in
            turned-from w t F lo hi f (is_beyond t q) r (get_or cs i nan) d (number_at cs a i h) (number_at cs a n g) (λ x y. here g (sp d (number_at cs a n g) x y)) u up G (U.here g) k (climb cs a n i o h)
        | no o ↦
            let e : suc (n - 1) ≡ n = omega arith in
            let g : n - 1 < length cs = omega (arith, U.upto) in
            let d = get_or cs (n - 1) nan in
            turned-before w t F lo hi f (is_beyond t q) r (get_or cs i nan) d (number_at cs a i h) (number_at cs a (n - 1) g) (λ x y. before (n - 1) e (sp d (number_at cs a (n - 1) g) x y)) u up G (U.before (n - 1) e) l (climb cs a i (n - 1) (omega arith) g)
      ]

      each : (i : ℕ) → i < length cs → Known (get_or cs i nan)
      each i h sp u = elim (or_split (up && from && to) (down && under && over) sp) [
        | inl v ↦
            let c = number_at cs a i h in
            let x = both_l (up && from) to v in
            let g = both_l up from x in
            by (key ca) (key cb) true (rising g)
            (λ d nd l k. or_l (up && le ca d && le d cb) (down && le cb d && le d ca) (both (up && le ca d) (le d cb) (both up (le ca d) g (le_of ca d na nd l)) (le_of d cb nd nb k)))
            i h (le→key ca (get_or cs i nan) na.0 c.0 na.1 c.1 (both_r up from x)) (le→key (get_or cs i nan) cb c.0 nb.0 c.1 nb.1 (both_r (up && from) to v)) u
        | inr v ↦
            let c = number_at cs a i h in
            let x = both_l (down && under) over v in
            let g = both_l down under x in
            by (key cb) (key ca) false (falling g)
            (λ d nd l k. or_r (up && le ca d && le d cb) (down && le cb d && le d ca) (both (down && le cb d) (le d ca) (both down (le cb d) g (le_of cb d nb nd l)) (le_of d ca nd na k)))
            i h (le→key cb (get_or cs i nan) nb.0 c.0 nb.1 c.1 (both_r down under x)) (le→key (get_or cs i nan) ca c.0 na.0 c.1 na.1 (both_r (down && under) over v)) u
      ]
        where
          ca : Float
          ca = q.0.y

          cb : Float
          cb = q.1.y

          up : Bool
          up = lt ca cb

          from : Bool
          from = le ca (get_or cs i nan)

          to : Bool
          to = le (get_or cs i nan) cb

          down : Bool
          down = lt cb ca

          under : Bool
          under = le cb (get_or cs i nan)

          over : Bool
          over = le (get_or cs i nan) ca

      pub segment-met : Every (Met t r) (keep (inside w) (on_segment cs q))
      unfolding on_segment
      segment-met =
          every-if (Met t r) (inside w) (gather (λ (c : Float). on_pair c q) cs)
          (every_of (λ (x : Float). T (inside w x) → Met t r x) (λ (c : Float). on_pair c q) cs
          (every-by (λ (c : Float). Every (λ (x : Float). T (inside w x) → Met t r x) (on_pair c q)) cs nan (λ i h. one (get_or cs i nan) (each i h))))
        where
          one : (c : Float) → Known c → Every (λ (x : Float). T (inside w x) → Met t r x) (on_pair c q)
          one c k = go (spans q.0.y q.1.y c) (λ x. x)
            where
              go : (b : Bool) → (T b → T (spans q.0.y q.1.y c)) → Every (λ (x : Float). T (inside w x) → Met t r x) (cond b (f c ∷ []) [])
              go true x = (k (x tt), tt)
              go false x = tt

-- ---- one sample of a segment

module _ (t : Float) (w : Interval) (h : Neighbours) (c : Float) (q : Knot × Knot) where
  pub pair_inside : spans q.0.y q.1.y c ≡ true → Searched t (keep (inside w) (on_pair c q)) h (with_inside w t h (inverse q.0 q.1 c))
  pair_inside e =
      subst (λ (b : Bool). Searched t (keep (inside w) (cond b (inverse q.0 q.1 c ∷ []) [])) h (with_inside w t h (inverse q.0 q.1 c))) (sym e)
      (searched-inside t w h (inverse q.0 q.1 c))

  pub pair-outside : spans q.0.y q.1.y c ≡ false → Searched t (keep (inside w) (on_pair c q)) h h
  pair-outside e = subst (λ (b : Bool). Searched t (keep (inside w) (cond b (inverse q.0 q.1 c ∷ []) [])) h h) (sym e) (searched-none t h)

-- at a place
module _ (t : Float) (w : Interval) (h : Neighbours) (cs : List Float) (q : Knot × Knot) (i : ℕ) where
  pub before_here : {r : Neighbours} → 0 < i → Searched t (keep (inside w) (sample_at cs q (i - 1))) h r → Searched t (keep (inside w) (sample_before cs q i)) h r
  before_here {r} l S = subst (λ (b : Bool). Searched t (keep (inside w) (cond b (sample_at cs q (i - 1)) [])) h r) (sym (lt-ltb 0 i l)) S

  pub before-none : i ≡ 0 → Searched t (keep (inside w) (sample_before cs q i)) h h
  before-none e = subst (λ (b : Bool). Searched t (keep (inside w) (cond b (sample_at cs q (i - 1)) [])) h h) (sym (le-ltb 0 i (omega arith))) (searched-none t h)

-- ---- all of them by the two at the turn

module _ (P : Float → Type 0) (p : Float → Bool) (cs : List Float) (q : Knot × Knot) where
  -- what holds of the segment's times that pass holds of the sample's at a place
  every-sample : (i : ℕ) → Every P (keep p (on_segment cs q)) → Every P (keep p (sample_at cs q i))
  unfolding on_segment
  every-sample i h = go (ltb i (length cs)) refl
    where
      all : Every (λ (c : Float). Every (λ (x : Float). T (p x) → P x) (on_pair c q)) cs
      all = every-each (λ (x : Float). T (p x) → P x) (λ (c : Float). on_pair c q) cs (every-kept P p (gather (λ (c : Float). on_pair c q) cs) h)

      go : (b : Bool) → ltb i (length cs) ≡ b → Every P (keep p (cond b (on_pair (get_or cs i nan) q) []))
      go true e = every-if P p (on_pair (get_or cs i nan) q) (every-at (λ (c : Float). Every (λ (x : Float). T (p x) → P x) (on_pair c q)) cs i nan all (ltb-true i (length cs) e))
      go false e = tt

  every-before : (n : ℕ) → Every P (keep p (on_segment cs q)) → Every P (keep p (sample_before cs q n))
  every-before n h = go (ltb 0 n)
    where
      go : (b : Bool) → Every P (keep p (cond b (sample_at cs q (n - 1)) []))
      go true = every-sample (n - 1) h
      go false = tt

  -- and of the sample itself
  sample-known : (i : ℕ) → i < length cs → Every P (keep p (sample_at cs q i)) → T (spans q.0.y q.1.y (get_or cs i nan)) → T (p (inverse q.0 q.1 (get_or cs i nan))) → P (inverse q.0 q.1 (get_or cs i nan))
  sample-known i l h s u =
      let a : Every P (keep p (on_pair (get_or cs i nan) q)) = subst (λ (b : Bool). Every P (keep p (cond b (on_pair (get_or cs i nan) q) []))) (lt-ltb i (length cs) l) h in
      let b : Every P (keep p (inverse q.0 q.1 (get_or cs i nan) ∷ [])) = subst (λ (b : Bool). Every P (keep p (cond b (inverse q.0 q.1 (get_or cs i nan) ∷ []) []))) (is_true (spans q.0.y q.1.y (get_or cs i nan)) s) a in
      (every-kept P p (inverse q.0 q.1 (get_or cs i nan) ∷ []) b).0 u

module _ (t : Float) (w : Interval) (F : TimeInside w t) (q : Knot × Knot) (s : SoundSegment q) (cs : List Float) (a : Ascending cs) (n : ℕ) (U : Crossing (is_beyond t q) cs n) {h m r : Neighbours} where
  pub turn-searched : Searched t (keep (inside w) (sample_before cs q n)) h m → Searched t (keep (inside w) (sample_at cs q n)) m r → Searched t (keep (inside w) (on_segment cs q)) h r
  turn-searched A B = record {
    run = λ nt g N i e.
        let u = A.run nt g N (every-before (λ (x : Float). In x g) (inside w) cs q n i) e in
        let v = B.run nt g N (every-sample (λ (x : Float). In x g) (inside w) cs q n i) u.among in
        record {
          among = v.among;
          known = segment-met t nt q s w F cs a n U r
              (λ j k x y. v.kept (inverse q.0 q.1 (get_or cs j nan)) (sample-known (Met t m) (inside w) cs q j (omega (arith, U.upto)) (last j k u.known) x y))
              (λ l. sample-known (Met t r) (inside w) cs q n l v.known);
          kept = λ x y. v.kept x (u.kept x y);
        };
  }
    where
      last : (j : ℕ) → suc j ≡ n → Every (Met t m) (keep (inside w) (sample_before cs q n)) → Every (Met t m) (keep (inside w) (sample_at cs q j))
      last j k e =
          let x : n - 1 ≡ j = omega arith in
          subst (λ (y : ℕ). Every (Met t m) (keep (inside w) (sample_at cs q y))) x
          (subst (λ (b : Bool). Every (Met t m) (keep (inside w) (cond b (sample_at cs q (n - 1)) []))) (lt-ltb 0 n (omega arith)) e)
