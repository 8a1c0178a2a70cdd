-- A run of samples that are passed in one segment: in their order the inverse times rise or fall, so the walk from one to the next leaves none out, and between
-- two of them what is read stays. Assumes nothing.
use Rattle.std.specs.Prelude.{Option, None, Some}
use mathlib.Core.Path.{◌≡◌, refl, sym, ap, ◌∙◌, subst}
use mathlib.Core.Logic.{inl, inr}
use mathlib.Core.Bool.{Bool, true, false, ◌&&◌, cond}
use mathlib.Core.List.{List, [], ◌∷◌}
use Prim.Native.Nat.{ℕ, suc, ◌+◌, ◌-◌, ◌≤◌, ◌<◌}
use native.Mathlib.Omega.{arith}
use native.Mathlib.Decide.{dec_le}
use borrow.Author.Tests.{ltb-true, ltb-false, lt-ltb, le-ltb, leb-true, leb-false}
use lib.Dec.{T, ltb, leb}
use lib.ListN.{length, get_or}
use lib.Ieee.{Float, nan, lt, le}
use Rattle.gf.specs.Doubles.{key, of_key, least, most}
use Rattle.gf.proofs.KeyLaws.{key-of_key, of_key-fits, of_key-no-nan, lt-is, le_is, le→key, lt→key, key→le, finite-no-nan}
use Rattle.gf.proofs.Exactly.{within-finite}
use Rattle.definitions.specs.declared.Knot.{Knot}
use Rattle.definitions.specs.Value.{spans, inverse, on_pair}
use Rattle.laws.proofs.list.Tests.{is_true, both, both_l, both_r, or_l, or_r, or_split}
use Rattle.laws.specs.list.Every.{Every}
use Rattle.laws.specs.list.Places.{Ascending, Number}
use Rattle.laws.proofs.list.Every.{every-by}
use Rattle.laws.proofs.cell.Inverse.{inverse-fin-up, inverse-fin-down, inverse-up, inverse-down}
use Rattle.window.specs.Inverses.{on_segment}
use Rattle.window.proofs.Inverses.{every_of}
use Rattle.window.specs.SoundSegments.{SoundSegment}
use Rattle.window.proofs.SoundSegments.{inverse-fits}
use Rattle.window.proofs.nearest.Beside.{number_at, climb}
use Rattle.window.specs.nearest.Crossings.{is_beyond, Crossing}
use Rattle.run.specs.declared.inside.NextInRun.{NextInRun}
use Rattle.run.specs.Runs.{Spanned, inverse_key, InRun, SampleIs, InRunAt, NextInRunIs}

differ : {A : Type 0} → true ≡ false → A
differ q = let z : ◌≡◌ {A = ℕ} 0 1 = cc in absurd (omega arith)

-- ---- the samples by their keys

module _ (cs : List Float) (a : Ascending cs) (q : Knot × Knot) (s : SoundSegment q) where
  abbrev c : ℕ → Float
  c i = get_or cs i nan

  abbrev f : ℕ → ℕ
  f i = inverse_key cs q i

  abbrev lo : Float
  lo = q.0.y

  abbrev hi : Float
  hi = q.1.y

  na : Number lo
  na = (s.first.fy, finite-no-nan lo (within-finite 40 lo s.first.by))

  nb : Number hi
  nb = (s.second.fy, finite-no-nan hi (within-finite 40 hi s.second.by))

  le_of : (x y : Float) → Number x → Number y → key x ≤ key y → T (le x y)
  le_of x y n m h = key→le x y n.0 m.0 n.1 m.1 h

  key_of : (x y : Float) → Number x → Number y → T (le x y) → key x ≤ key y
  key_of x y n m h = le→key x y n.0 m.0 n.1 m.1 h

  -- what a span is
  spans-up : (i : ℕ) → T (lt lo hi) → T (le lo (c i)) → T (le (c i) hi) → Spanned cs q i
  spans-up i u l h = or_l (lt lo hi && le lo (c i) && le (c i) hi) (lt hi lo && le hi (c i) && le (c i) lo) (both (lt lo hi && le lo (c i)) (le (c i) hi) (both (lt lo hi) (le lo (c i)) u l) h)

  spans-down : (i : ℕ) → T (lt hi lo) → T (le hi (c i)) → T (le (c i) lo) → Spanned cs q i
  spans-down i d l h = or_r (lt lo hi && le lo (c i) && le (c i) hi) (lt hi lo && le hi (c i) && le (c i) lo) (both (lt hi lo && le hi (c i)) (le (c i) lo) (both (lt hi lo) (le hi (c i)) d l) h)

  module _ (u : T (lt lo hi)) where
    rises : key lo < key hi
    rises = lt→key lo hi na.0 nb.0 na.1 nb.1 u

    within-up : (i : ℕ) → Spanned cs q i → T (le lo (c i)) × T (le (c i) hi)
    within-up i p = elim (or_split (lt lo hi && le lo (c i) && le (c i) hi) (lt hi lo && le hi (c i) && le (c i) lo) p) [
      | inl v ↦ (both_r (lt lo hi) (le lo (c i)) (both_l (lt lo hi && le lo (c i)) (le (c i) hi) v), both_r (lt lo hi && le lo (c i)) (le (c i) hi) v)
      | inr v ↦
          let r = rises in
          let k = lt→key hi lo nb.0 na.0 nb.1 na.1 (both_l (lt hi lo) (le hi (c i)) (both_l (lt hi lo && le hi (c i)) (le (c i) lo) v)) in
          absurd (omega arith)
    ]

    number_up : (i : ℕ) → Spanned cs q i → Number (inverse q.0 q.1 (c i))
    number_up i p = let w = within-up i p in (inverse-fits q (c i), finite-no-nan (inverse q.0 q.1 (c i)) (inverse-fin-up q.0 q.1 s.first s.second s.wide u (c i) w.0 w.1).0)

    pub climbs : (i j : ℕ) → i ≤ j → j < length cs → Spanned cs q i → Spanned cs q j → f i ≤ f j
    climbs i j l h p r =
        let v = within-up i p in
        let w = within-up j r in
        key_of (inverse q.0 q.1 (c i)) (inverse q.0 q.1 (c j)) (number_up i p) (number_up j r)
        (inverse-up q.0 q.1 s.first s.second s.wide u (c i) (c j) v.0 v.1 w.0 w.1 (le_of (c i) (c j) (number_at cs a i (omega arith)) (number_at cs a j h) (climb cs a i j l h)))

  module _ (d : T (lt hi lo)) where
    falls : key hi < key lo
    falls = lt→key hi lo nb.0 na.0 nb.1 na.1 d

    within-down : (i : ℕ) → Spanned cs q i → T (le hi (c i)) × T (le (c i) lo)
    within-down i p = elim (or_split (lt lo hi && le lo (c i) && le (c i) hi) (lt hi lo && le hi (c i) && le (c i) lo) p) [
      | inl v ↦
          let r = falls in
          let k = lt→key lo hi na.0 nb.0 na.1 nb.1 (both_l (lt lo hi) (le lo (c i)) (both_l (lt lo hi && le lo (c i)) (le (c i) hi) v)) in
          absurd (omega arith)
      | inr v ↦ (both_r (lt hi lo) (le hi (c i)) (both_l (lt hi lo && le hi (c i)) (le (c i) lo) v), both_r (lt hi lo && le hi (c i)) (le (c i) lo) v)
    ]

    number-down : (i : ℕ) → Spanned cs q i → Number (inverse q.0 q.1 (c i))
    number-down i p = let w = within-down i p in (inverse-fits q (c i), finite-no-nan (inverse q.0 q.1 (c i)) (inverse-fin-down q.0 q.1 s.first s.second s.wide d (c i) w.0 w.1).0)

    pub sinks : (i j : ℕ) → i ≤ j → j < length cs → Spanned cs q i → Spanned cs q j → f j ≤ f i
    sinks i j l h p r =
        let v = within-down i p in
        let w = within-down j r in
        key_of (inverse q.0 q.1 (c j)) (inverse q.0 q.1 (c i)) (number-down j r) (number-down i p)
        (inverse-down q.0 q.1 s.first s.second s.wide d (c i) (c j) v.0 v.1 w.0 w.1 (le_of (c i) (c j) (number_at cs a i (omega arith)) (number_at cs a j h) (climb cs a i j l h)))

  -- the inverse time of a sample that is Spanned is a number
  pub span-number : (i : ℕ) → Spanned cs q i → Number (inverse q.0 q.1 (c i))
  span-number i p = elim (or_split (lt lo hi && le lo (c i) && le (c i) hi) (lt hi lo && le hi (c i) && le (c i) lo) p) [
    | inl v ↦ number_up (both_l (lt lo hi) (le lo (c i)) (both_l (lt lo hi && le lo (c i)) (le (c i) hi) v)) i p
    | inr v ↦ number-down (both_l (lt hi lo) (le hi (c i)) (both_l (lt hi lo && le hi (c i)) (le (c i) lo) v)) i p
  ]

  -- ---- the inverse times sample by sample

  pub each-time : (P : Float → Type 0) → ((i : ℕ) → i < length cs → Spanned cs q i → P (inverse q.0 q.1 (c i))) → Every P (on_segment cs q)
  unfolding on_segment
  each-time P h = every_of P (λ (x : Float). on_pair x q) cs (every-by (λ (x : Float). Every P (on_pair x q)) cs nan (λ i l. one (c i) (h i l)))
    where
      one : (x : Float) → (T (spans lo hi x) → P (inverse q.0 q.1 x)) → Every P (on_pair x q)
      one x k = go (spans lo hi x) k
        where
          go : (b : Bool) → (T b → P (inverse q.0 q.1 x)) → Every P (cond b (inverse q.0 q.1 x ∷ []) [])
          go true k = (k tt, tt)
          go false k = tt

  -- ---- the place where the walk begins

  module _ (k n : ℕ) (low : least ≤ k) (high : k ≤ most) (U : Crossing (is_beyond (of_key k) q) cs n) where
    abbrev t : Float
    t = of_key k

    nt : Number t
    nt = (of_key-fits k, of_key-no-nan k low high)

    kt : key t ≡ k
    kt = key-of_key k low high

    lt_no : (x y : Float) → Number x → Number y → key y ≤ key x → lt x y ≡ false
    lt_no x y n m h = lt-is x y n.0 m.0 n.1 m.1 ∙ le-ltb (key x) (key y) h

    lt_yes : (x y : Float) → Number x → Number y → key x < key y → lt x y ≡ true
    lt_yes x y n m h = lt-is x y n.0 m.0 n.1 m.1 ∙ lt-ltb (key x) (key y) h

    -- ---- whether a sample is beyond that place, in a segment that rises

    module _ (u : T (lt lo hi)) (i : ℕ) (m : Number (c i)) where
      under_up : key (c i) < key lo → is_beyond t q (c i) ≡ false
      unfolding is_beyond
      under_up h = let r = rises u in rw (is_true (lt lo hi) u, lt_no hi (c i) nb m (omega arith), lt_yes (c i) lo m na h) refl

      over-up : key hi < key (c i) → is_beyond t q (c i) ≡ true
      unfolding is_beyond
      over-up h = rw (is_true (lt lo hi) u, lt_yes hi (c i) nb m h) refl

      past_up : key lo ≤ key (c i) → key (c i) ≤ key hi → is_beyond t q (c i) ≡ ltb k (f i)
      unfolding is_beyond
      past_up l h =
          let g = number_up u i (spans-up i u (le_of lo (c i) na m l) (le_of (c i) hi m nb h)) in
          rw (is_true (lt lo hi) u, lt_no hi (c i) nb m h, lt_no (c i) lo m na l)
          (lt-is t (inverse q.0 q.1 (c i)) nt.0 g.0 nt.1 g.1 ∙ ap (λ (x : ℕ). ltb x (f i)) kt)

      -- not beyond: it is passed, if it is Spanned
      behind-up : is_beyond t q (c i) ≡ false → (key (c i) ≤ key hi) × (key lo ≤ key (c i) → f i ≤ k)
      behind-up e = elim (dec_le (key (c i)) (key hi)) [
        | no o ↦ differ (sym (over-up (omega arith)) ∙ e)
        | yes h ↦ (h, λ l. ltb-false k (f i) (sym (past_up l h) ∙ e))
      ]

      -- beyond: it comes
      ahead-up : is_beyond t q (c i) ≡ true → (key lo ≤ key (c i)) × (key (c i) ≤ key hi → k < f i)
      ahead-up e = elim (dec_le (key lo) (key (c i))) [
        | no o ↦ differ (sym e ∙ under_up (omega arith))
        | yes l ↦ (l, λ h. ltb-true k (f i) (sym (past_up l h) ∙ e))
      ]

    -- ---- and in one that falls

    module _ (d : T (lt hi lo)) (i : ℕ) (m : Number (c i)) where
      under-down : key (c i) < key hi → is_beyond t q (c i) ≡ false
      unfolding is_beyond
      under-down h = let r = falls d in rw (lt_no lo hi na nb (omega arith), lt_no lo (c i) na m (omega arith), lt_yes (c i) hi m nb h) refl

      over-down : key lo < key (c i) → is_beyond t q (c i) ≡ true
      unfolding is_beyond
      over-down h = let r = falls d in rw (lt_no lo hi na nb (omega arith), lt_yes lo (c i) na m h) refl

      past_down : key hi ≤ key (c i) → key (c i) ≤ key lo → is_beyond t q (c i) ≡ leb (f i) k
      unfolding is_beyond
      past_down l h =
          let r = falls d in
          let g = number-down d i (spans-down i d (le_of hi (c i) nb m l) (le_of (c i) lo m na h)) in
          rw (lt_no lo hi na nb (omega arith), lt_no lo (c i) na m h, lt_no (c i) hi m nb l)
          (le_is (inverse q.0 q.1 (c i)) t g.0 nt.0 g.1 nt.1 ∙ ap (leb (f i)) kt)

      behind-down : is_beyond t q (c i) ≡ true → (key hi ≤ key (c i)) × (key (c i) ≤ key lo → f i ≤ k)
      behind-down e = elim (dec_le (key hi) (key (c i))) [
        | no o ↦ differ (sym e ∙ under-down (omega arith))
        | yes l ↦ (l, λ h. leb-true (f i) k (sym (past_down l h) ∙ e))
      ]

      ahead-down : is_beyond t q (c i) ≡ false → (key (c i) ≤ key lo) × (key hi ≤ key (c i) → k < f i)
      ahead-down e = elim (dec_le (key (c i)) (key lo)) [
        | no o ↦ differ (sym (over-down (omega arith)) ∙ e)
        | yes h ↦ (h, λ l. leb-false (f i) k (sym (past_down l h) ∙ e))
      ]

    -- ---- so the walk begins there

    pub begins : InRun cs q n k
    begins = record {
      upto = U.upto;
      rising = λ u. (
        λ i o p.
            let b = n - 1 in
            let e : suc b ≡ n = omega arith in
            let g : b < length cs = omega (arith, U.upto) in
            let nb' = number_at cs a b g in
            let ni = number_at cs a i (omega arith) in
            let w = within-up u i p in
            let x = behind-up u b nb' (U.before b e) in
            let l = key_of lo (c i) na ni w.0 in
            let z = climb cs a i b (omega arith) g in
            let y = climbs u i b (omega arith) g p (spans-up b u (le_of lo (c b) na nb' (omega arith)) (le_of (c b) hi nb' nb x.0)) in
            let r = x.1 (omega arith) in
            omega arith,
        λ i o g.
            let h : n < length cs = omega arith in
            let nn = number_at cs a n h in
            let ni = number_at cs a i g in
            let x = ahead-up u n nn (U.here h) in
            let z = climb cs a n i o g in (
              le_of lo (c i) na ni (omega (arith, x.0)),
              λ p.
                  let w = within-up u i p in
                  let l = key_of (c i) hi ni nb w.1 in
                  let y = climbs u n i o g (spans-up n u (le_of lo (c n) na nn x.0) (le_of (c n) hi nn nb (omega arith))) p in
                  let r = x.1 (omega arith) in
                  omega arith,
            ),
      );
      falling = λ d. (
        λ i o g p.
            let h : n < length cs = omega arith in
            let nn = number_at cs a n h in
            let ni = number_at cs a i g in
            let w = within-down d i p in
            let x = behind-down d n nn (U.here h) in
            let l = key_of (c i) lo ni na w.1 in
            let z = climb cs a n i o g in
            let y = sinks d n i o g (spans-down n d (le_of hi (c n) nb nn x.0) (le_of (c n) lo nn na (omega arith))) p in
            let r = x.1 (omega arith) in
            omega arith,
        λ i o.
            let b = n - 1 in
            let e : suc b ≡ n = omega arith in
            let g : b < length cs = omega (arith, U.upto) in
            let nb' = number_at cs a b g in
            let ni = number_at cs a i (omega arith) in
            let x = ahead-down d b nb' (U.before b e) in
            let z = climb cs a i b (omega arith) g in (
              le_of (c i) lo ni na (omega (arith, x.0)),
              λ p.
                  let w = within-down d i p in
                  let l = key_of hi (c i) nb ni w.0 in
                  let y = sinks d i b (omega arith) g p (spans-down b d (le_of hi (c b) nb nb' (omega arith)) (le_of (c b) lo nb' na x.0)) in
                  let r = x.1 (omega arith) in
                  omega arith,
            ),
      );
    }

  -- ---- the next one

  module _ (n k top : ℕ) (P : InRun cs q n k) where
    moved : (m j p i b : ℕ) → m ≡ f i → j ≡ i → p ≡ b → InRunAt cs q n k top (f i) i b → InRunAt cs q n k top m j p
    moved m j p i b x y z h = subst (λ (o : ℕ). InRunAt cs q n k top o j p) (sym x) (subst (λ (o : ℕ). InRunAt cs q n k top (f i) o p) (sym y) (subst (λ (o : ℕ). InRunAt cs q n k top (f i) i o) (sym z) h))

    module _ (u : T (lt lo hi)) where
      -- all samples are passed
      pub end-up : length cs ≤ n → NextInRunIs cs q n k top None
      end-up l = each-time (λ (x : Float). key x ≤ top → key x ≤ k) (λ i h p _. (P.rising u).0 i (omega arith) p)

      module _ (l : n < length cs) where
        -- those that come lie beyond the segment
        pub over-end : le (c n) hi ≡ false → NextInRunIs cs q n k top None
        over-end e = each-time (λ (x : Float). key x ≤ top → key x ≤ k) each
          where
            each : (i : ℕ) → i < length cs → Spanned cs q i → f i ≤ top → f i ≤ k
            each i h p _ = elim (dec_le n i) [
              | no o ↦ (P.rising u).0 i (omega arith) p
              | yes o ↦
                  let nn = number_at cs a n l in
                  let x = key_of (c i) hi (number_at cs a i h) nb (within-up u i p).1 in
                  let z = climb cs a n i o h in
                  differ (sym (is_true (le (c n) hi) (le_of (c n) hi nn nb (omega arith))) ∙ e)
            ]

        module _ (h : T (le (c n) hi)) where
          pub span-up : Spanned cs q n
          span-up = spans-up n u ((P.rising u).1 n (omega arith) l).0 h

          pub step-up : (r : Option NextInRun) → SampleIs cs q n (n + 1) top r → NextInRunIs cs q n k top r
          step-up (Some r) S = moved r.key r.sample r.behind n (n + 1) S.0 S.2 S.3 (record {
            from = ((P.rising u).1 n (omega arith) l).1 span-up;
            within = omega (arith, S.0, S.1);
            inside = l;
            between = span-up;
            here = refl;
            clear = each-time (λ (x : Float). key x < f n → key x ≤ k) (λ i g o v. elim (dec_le n i) [ yes w ↦ absurd (let z = climbs u n i w g span-up o in omega arith) | no w ↦ (P.rising u).0 i (omega arith) o ]);
            place = record {
              upto = omega arith;
              rising = λ _. (λ i g o. climbs u i n (omega arith) l o span-up, λ i g o. (((P.rising u).1 i (omega arith) o).0, λ w. climbs u n i (omega arith) o span-up w));
              falling = λ d. absurd (let x = rises u in let y = falls d in omega arith);
            };
            less = rw (is_true (lt lo hi) u) (omega arith);
          })
          step-up None S = each-time (λ (x : Float). key x ≤ top → key x ≤ k) (λ i g o v. elim (dec_le n i) [ yes w ↦ absurd (let z = climbs u n i w g span-up o in omega arith) | no w ↦ (P.rising u).0 i (omega arith) o ])

    module _ (d : T (lt hi lo)) where
      pub end-down : n ≡ 0 → NextInRunIs cs q n k top None
      end-down z = each-time (λ (x : Float). key x ≤ top → key x ≤ k) (λ i h p _. (P.falling d).0 i (omega arith) h p)

      module _ (b : ℕ) (e : suc b ≡ n) where
        low : b < length cs
        low = omega (arith, P.upto)

        pub under-end : le hi (c b) ≡ false → NextInRunIs cs q n k top None
        under-end w = each-time (λ (x : Float). key x ≤ top → key x ≤ k) each
          where
            each : (i : ℕ) → i < length cs → Spanned cs q i → f i ≤ top → f i ≤ k
            each i h p _ = elim (dec_le n i) [
              | yes o ↦ (P.falling d).0 i o h p
              | no o ↦
                  let x = key_of hi (c i) nb (number_at cs a i h) (within-down d i p).0 in
                  let z = climb cs a i b (omega arith) low in
                  differ (sym (is_true (le hi (c b)) (le_of hi (c b) nb (number_at cs a b low) (omega arith))) ∙ w)
            ]

        module _ (h : T (le hi (c b))) where
          pub span-down : Spanned cs q b
          span-down = spans-down b d h ((P.falling d).1 b (omega arith)).0

          pub step_down : (r : Option NextInRun) → SampleIs cs q b b top r → NextInRunIs cs q n k top r
          step_down (Some r) S = moved r.key r.sample r.behind b b S.0 S.2 S.3 (record {
            from = ((P.falling d).1 b (omega arith)).1 span-down;
            within = omega (arith, S.0, S.1);
            inside = low;
            between = span-down;
            here = refl;
            clear = each-time (λ (x : Float). key x < f b → key x ≤ k) (λ i g o v. elim (dec_le n i) [ yes w ↦ (P.falling d).0 i w g o | no w ↦ absurd (let z = sinks d i b (omega arith) low o span-down in omega arith) ]);
            place = record {
              upto = omega (arith, low);
              rising = λ u. absurd (let x = rises u in let y = falls d in omega arith);
              falling = λ _. (λ i g o w. sinks d b i g o span-down w, λ i g. (((P.falling d).1 i (omega arith)).0, λ w. sinks d i b (omega arith) low w span-down));
            };
            less = let z = falls d in rw (lt-is lo hi na.0 nb.0 na.1 nb.1 ∙ le-ltb (key lo) (key hi) (omega arith)) (omega arith);
          })
          step_down None S = each-time (λ (x : Float). key x ≤ top → key x ≤ k) (λ i g o v. elim (dec_le n i) [ yes w ↦ (P.falling d).0 i w g o | no w ↦ absurd (let z = sinks d i b (omega arith) low o span-down in omega arith) ])

    -- a flat segment spans nothing
    pub end-flat : lt lo hi ≡ false → lt hi lo ≡ false → NextInRunIs cs q n k top None
    end-flat x y = each-time (λ (z : Float). key z ≤ top → key z ≤ k) each
      where
        each : (i : ℕ) → i < length cs → Spanned cs q i → f i ≤ top → f i ≤ k
        each i h p _ = elim (or_split (lt lo hi && le lo (c i) && le (c i) hi) (lt hi lo && le hi (c i) && le (c i) lo) p) [
          | inl v ↦ differ (sym (is_true (lt lo hi) (both_l (lt lo hi) (le lo (c i)) (both_l (lt lo hi && le lo (c i)) (le (c i) hi) v))) ∙ x)
          | inr v ↦ differ (sym (is_true (lt hi lo) (both_l (lt hi lo) (le hi (c i)) (both_l (lt hi lo && le hi (c i)) (le (c i) lo) v))) ∙ y)
        ]
