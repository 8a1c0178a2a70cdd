-- The clip time on a stretch of stage times that passes no knot: it rises or it falls, all along. Of two zeros it is one number. Assumes nothing.
use mathlib.Core.Path.{◌≡◌, refl, sym, ap, ◌∙◌, subst}
use mathlib.Core.Logic.{◌⊎◌, inl, inr}
use mathlib.Core.Bool.{Bool, true, false, not, cond}
use mathlib.Core.List.{List, [], ◌∷◌}
use Prim.Native.Nat.{ℕ, suc}
use native.Mathlib.Nat.{le_of_eq}
use lib.Dec.{T, T_not}
use lib.ListN.{get_or}
use lib.Ieee.{Float, is_nan, eq, lt, le}
use Rattle.gf.specs.Doubles.{within, lerp}
use Rattle.gf.proofs.Exactly.{within-finite}
use Rattle.gf.proofs.KeyLaws.{finite-no-nan, le_trans, le_refl, le-or-lt, le-no-nan, lt→le, eq→le, le_lt_trans, eq→key, key→le}
use Rattle.gf.proofs.LerpLaws.{lerp-fits, lerp-mono, lerp-anti, lerp-start, start, Doubles, Segment, Inside}
use Rattle.definitions.specs.declared.Knot.{Knot}
use Rattle.definitions.specs.Lists.{any}
use Rattle.definitions.specs.ClipSet.{knot_times}
use Rattle.definitions.specs.Timing.{last_at_most, last_knot, on_segment, map_time}
use Rattle.laws.specs.list.Every.{Every}
use Rattle.laws.proofs.list.Tests.{or_l, or-not, nor-l}
use Rattle.laws.proofs.list.Every.{every_map, every-get_or, every-to-map}
use Rattle.laws.specs.list.Places.{Fits}
use Rattle.laws.proofs.cell.Places.{Clear, not-le-lt, le_same, lt_same, place_same}
use Rattle.laws.specs.cell.Knots.{SoundKnot, plain, flat, segment, line_of, along}

-- one number, though perhaps with two signs
abbrev pub Alike : Float → Float → Type 0
Alike a b = T (le a b) × T (le b a)

pub knots-fit : (knots : List Knot) → Every SoundKnot knots → Every Fits (knot_times knots)
knots-fit knots s = every-to-map (λ (k : Knot). k.x) Fits knots (every_map SoundKnot (λ (k : Knot). Fits k.x) (λ k q. q.fx) knots s)

no_nan : (x : Float) → T (within 40 x) → T (not (is_nan x))
no_nan x b = finite-no-nan x (within-finite 40 x b)

-- equal doubles are one number
pub alike-eq : (x y : Float) → Fits x → Fits y → T (eq x y) → Alike x y
alike-eq x y p q h =
    let n = le-no-nan x y (eq→le x y h) in
    (eq→le x y h, key→le y x q p n.1 n.0 (le_of_eq (sym (eq→key x y p q n.0 n.1 h))))

-- ---- a part of a clear stretch

module _ (t u : Float) (ft : Fits t) (fu : Fits u) where
  pub clear-part : (j x : Float) → Inside t u j → Fits x → Clear t u x → Clear t j x
  clear-part j x I f c p = c (le_trans x j u f I.ft fu p I.upto)

  pub clear-parts : (j : Float) → Inside t u j → (xs : List Float) → Every Fits xs → Every (Clear t u) xs → Every (Clear t j) xs
  clear-parts j I [] f c = tt
  clear-parts j I (x ∷ xs) f c = (clear-part j x I f.0 c.0, clear-parts j I xs f.1 c.1)

-- ---- a segment

pub on_segment-fits : (lo hi : Knot) → Fits lo.y → (t : Float) → Fits (on_segment lo hi t)
unfolding on_segment
on_segment-fits lo hi f t = go (eq t lo.x)
  where
    go : (b : Bool) → Fits (cond b lo.y (lerp lo.x hi.x lo.y hi.y t))
    go true = f
    go false = lerp-fits lo.x hi.x lo.y hi.y t

module _ (lo hi : Knot) (D : Doubles lo.x hi.x lo.y hi.y) (S : Segment lo.x hi.x lo.y hi.y) where
  abbrev line : Float → Float
  line t = lerp lo.x hi.x lo.y hi.y t

  way : T (le lo.y hi.y) ⊎ T (le hi.y lo.y)
  way = elim (le-or-lt lo.y hi.y D.fy0 D.fy1 (no_nan lo.y S.by0) (no_nan hi.y S.by1)) [ inl p ↦ inl p | inr q ↦ inr (lt→le hi.y lo.y q) ]

  line-alike : (t u : Float) → Inside lo.x hi.x t → Inside lo.x hi.x u → Alike t u → Alike (line t) (line u)
  line-alike t u I J a = elim way [
    | inl up ↦ (lerp-mono lo.x hi.x lo.y hi.y D S up t u I J a.0, lerp-mono lo.x hi.x lo.y hi.y D S up u t J I a.1)
    | inr dn ↦ (lerp-anti lo.x hi.x lo.y hi.y D S dn u t J I a.1, lerp-anti lo.x hi.x lo.y hi.y D S dn t u I J a.0)
  ]

  segment-fits : (t : Float) → Fits (on_segment lo hi t)
  segment-fits t = on_segment-fits lo hi D.fy0 t

  -- "its y if t equals its x" is what the line gives there
  segment-alike : (t : Float) → Inside lo.x hi.x t → Alike (on_segment lo hi t) (line t)
  unfolding on_segment
  segment-alike t I = go (eq t lo.x) (λ h. h)
    where
      fl : (v : Float) → Fits (line v)
      fl v = lerp-fits lo.x hi.x lo.y hi.y v

      at-start : T (eq t lo.x) → Alike lo.y (line t)
      at-start h =
          let b = start lo.x hi.x lo.y hi.y D S in
          let a = line-alike t lo.x I b (eq→le t lo.x h, I.from) in
          let e = alike-eq (line lo.x) lo.y (fl lo.x) D.fy0 (lerp-start lo.x hi.x lo.y hi.y D S) in
          (le_trans lo.y (line lo.x) (line t) D.fy0 (fl lo.x) (fl t) e.1 a.1, le_trans (line t) (line lo.x) lo.y (fl t) (fl lo.x) D.fy0 a.0 e.0)

      same : Alike t t
      same = let r = le_refl t I.ft (le-no-nan lo.x t I.from).1 in (r, r)

      go : (b : Bool) → (T b → T (eq t lo.x)) → Alike (cond b lo.y (line t)) (line t)
      go true k = at-start (k tt)
      go false k = line-alike t t I I same

  -- from one number of the segment to another
  module _ (j k : Float) (I : Inside lo.x hi.x j) (J : Inside lo.x hi.x k) (h : T (le j k)) where
    onward : T (le (line j) (line k)) → T (le (on_segment lo hi j) (on_segment lo hi k))
    onward r =
        let fj = lerp-fits lo.x hi.x lo.y hi.y j in
        let fk = lerp-fits lo.x hi.x lo.y hi.y k in
        le_trans (on_segment lo hi j) (line j) (on_segment lo hi k) (segment-fits j) fj (segment-fits k) (segment-alike j I).0
        (le_trans (line j) (line k) (on_segment lo hi k) fj fk (segment-fits k) r (segment-alike k J).1)

    back : T (le (line k) (line j)) → T (le (on_segment lo hi k) (on_segment lo hi j))
    back r =
        let fj = lerp-fits lo.x hi.x lo.y hi.y j in
        let fk = lerp-fits lo.x hi.x lo.y hi.y k in
        le_trans (on_segment lo hi k) (line k) (on_segment lo hi j) (segment-fits k) fk (segment-fits j) (segment-alike k J).0
        (le_trans (line k) (line j) (on_segment lo hi j) fk fj (segment-fits j) r (segment-alike j I).1)

    pub segment-up : T (le lo.y hi.y) → T (le (on_segment lo hi j) (on_segment lo hi k))
    segment-up up = onward (lerp-mono lo.x hi.x lo.y hi.y D S up j k I J h)

    pub segment-down : T (le hi.y lo.y) → T (le (on_segment lo hi k) (on_segment lo hi j))
    segment-down dn = back (lerp-anti lo.x hi.x lo.y hi.y D S dn j k I J h)

-- ---- the segment of t: its place is the last x ≤ t, and the next x is above t

segment-lo : (t : Float) (d : Knot) (knots : List Knot) → T (any (λ (y : Float). le y t) (knot_times knots)) → T (le (get_or knots (last_at_most (knot_times knots) t) d).x t)
unfolding last_at_most
segment-lo t d [] h = absurd h
segment-lo t d (k ∷ rest) h = go (any (λ (y : Float). le y t) (knot_times rest)) (segment-lo t d rest) (λ n. or-not (le k.x t) (any (λ (y : Float). le y t) (knot_times rest)) h n)
  where
    go : (b : Bool) → (T b → T (le (get_or rest (last_at_most (knot_times rest) t) d).x t)) → (T (not b) → T (le k.x t))
        → T (le (get_or (k ∷ rest) (cond b (suc (last_at_most (knot_times rest) t)) 0) d).x t)
    go true p q = p tt
    go false p q = q tt

segment-hi : (t : Float) (d k : Knot) (rest : List Knot) → T (any (λ (y : Float). le y t) (knot_times (k ∷ rest))) → T (not (le (last_knot k rest).x t))
    → T (not (le (get_or (k ∷ rest) (suc (last_at_most (knot_times (k ∷ rest)) t)) d).x t))
unfolding last_at_most
segment-hi t d k [] h n = absurd (T_not (le k.x t) n (or-not (le k.x t) false h tt))
segment-hi t d k (l ∷ rest) h n = go (any (λ (y : Float). le y t) (knot_times (l ∷ rest))) (λ p. segment-hi t d l rest p n) (λ p. nor-l (le l.x t) (any (λ (y : Float). le y t) (knot_times rest)) p)
  where
    go : (b : Bool) → (T b → T (not (le (get_or (l ∷ rest) (suc (last_at_most (knot_times (l ∷ rest)) t)) d).x t))) → (T (not b) → T (not (le l.x t)))
        → T (not (le (get_or (k ∷ l ∷ rest) (suc (cond b (suc (last_at_most (knot_times (l ∷ rest)) t)) 0)) d).x t))
    go true p q = p tt
    go false p q = q tt

pub every-last : (P : Knot → Type 0) (k : Knot) (rest : List Knot) → P k → Every P rest → P (last_knot k rest)
every-last P k [] h r = h
every-last P k (l ∷ rest) h r = every-last P l rest r.0 r.1

-- ---- the line that leads from stage times to clip times at t

pub map-along : (knots : List Knot) (t : Float) → map_time knots t ≡ along (line_of knots t) t
unfolding map_time line_of along
map-along [] t = refl
map-along (first ∷ rest) t = go (lt t first.x) (le (last_knot first rest).x t)
  where
    lo : ℕ
    lo = last_at_most (knot_times (first ∷ rest)) t

    go : (a b : Bool)
        → cond a first.y (cond b (last_knot first rest).y (on_segment (get_or (first ∷ rest) lo first) (get_or (first ∷ rest) (suc lo) first) t))
        ≡ along (cond a (flat first.y) (cond b (flat (last_knot first rest).y) (segment (get_or (first ∷ rest) lo first) (get_or (first ∷ rest) (suc lo) first)))) t
    go true b = refl
    go false true = refl
    go false false = refl

-- ---- all along a clear stretch

-- the clip time does not fall from t to u
abbrev pub TimeRises : List Knot → Float → Float → Type 0
TimeRises knots t u = (j k : Float) → Inside t u j → Inside t u k → T (le j k) → T (le (map_time knots j) (map_time knots k))

-- the clip time does not rise from t to u
abbrev pub TimeFalls : List Knot → Float → Float → Type 0
TimeFalls knots t u = (j k : Float) → Inside t u j → Inside t u k → T (le j k) → T (le (map_time knots k) (map_time knots j))

module _ (first : Knot) (rest : List Knot) where
  abbrev place : Float → ℕ
  place t = last_at_most (knot_times (first ∷ rest)) t

  abbrev lower : ℕ → Knot
  lower i = get_or (first ∷ rest) i first

  abbrev upper : ℕ → Knot
  upper i = get_or (first ∷ rest) (suc i) first

  below-first : (t : Float) → lt t first.x ≡ true → map_time (first ∷ rest) t ≡ first.y
  unfolding map_time
  below-first t e = rw e

  from_last : (t : Float) → lt t first.x ≡ false → le (last_knot first rest).x t ≡ true → map_time (first ∷ rest) t ≡ (last_knot first rest).y
  unfolding map_time
  from_last t e f = rw (e, f)

  on-segment : (t : Float) → lt t first.x ≡ false → le (last_knot first rest).x t ≡ false → map_time (first ∷ rest) t ≡ on_segment (lower (place t)) (upper (place t)) t
  unfolding map_time
  on-segment t e f = rw (e, f)

  module _ (sound : Every SoundKnot (first ∷ rest)) where
    lower-sound : (i : ℕ) → SoundKnot (lower i)
    lower-sound i = every-get_or SoundKnot (first ∷ rest) i first sound sound.0

    upper-sound : (i : ℕ) → SoundKnot (upper i)
    upper-sound i = every-get_or SoundKnot (first ∷ rest) (suc i) first sound sound.0

    last-sound : SoundKnot (last_knot first rest)
    last-sound = every-last SoundKnot first rest sound.0 sound.1

    doubles : (i : ℕ) → Doubles (lower i).x (upper i).x (lower i).y (upper i).y
    doubles i = let p = lower-sound i in let q = upper-sound i in record { fx0 = p.fx; fx1 = q.fx; fy0 = p.fy; fy1 = q.fy }

    times-fit : (t : Float) → Fits (map_time (first ∷ rest) t)
    unfolding map_time
    times-fit t = go (lt t first.x) (le (last_knot first rest).x t)
      where
        go : (a b : Bool) → Fits (cond a first.y (cond b (last_knot first rest).y (on_segment (lower (place t)) (upper (place t)) t)))
        go true b = sound.0.fy
        go false true = last-sound.fy
        go false false = on_segment-fits (lower (place t)) (upper (place t)) (lower-sound (place t)).fy t

    -- t is from the first x on, and below the last
    module _ (t : Float) (ft : Fits t) (nt : T (not (is_nan t))) (e : lt t first.x ≡ false) (f : le (last_knot first rest).x t ≡ false) where
      reached : T (le first.x t)
      reached = elim (le-or-lt first.x t sound.0.fx ft (no_nan first.x sound.0.bx) nt) [ inl p ↦ p | inr q ↦ absurd (subst T e q) ]

      some_below : T (any (λ (y : Float). le y t) (knot_times (first ∷ rest)))
      some_below = or_l (le first.x t) (any (λ (y : Float). le y t) (knot_times rest)) reached

      not_last : T (not (le (last_knot first rest).x t))
      not_last = rw f tt

      in-segment : T (le (lower (place t)).x t) × T (lt t (upper (place t)).x)
      in-segment = (
        segment-lo t first (first ∷ rest) some_below,
        not-le-lt (upper (place t)).x t (upper-sound (place t)).fx ft (no_nan (upper (place t)).x (upper-sound (place t)).bx) nt (segment-hi t first first rest some_below not_last),
      )

      inside-segment : Inside (lower (place t)).x (upper (place t)).x t
      inside-segment = record { ft = ft; from = in-segment.0; upto = lt→le t (upper (place t)).x in-segment.1 }

      spanned : Segment (lower (place t)).x (upper (place t)).x (lower (place t)).y (upper (place t)).y
      spanned =
          let p = lower-sound (place t) in
          let q = upper-sound (place t) in
          record {
            bx0 = p.bx;
            bx1 = q.bx;
            by0 = p.by;
            by1 = q.by;
            wide = le_lt_trans (lower (place t)).x t (upper (place t)).x p.fx ft q.fx in-segment.0 in-segment.1;
          }

    -- ---- from t to u no x is passed

    module _ (t u : Float) (ft : Fits t) (fu : Fits u) (h : T (le t u)) (clear : Every (Clear t u) (knot_times (first ∷ rest))) where
      fit : Every Fits (knot_times (first ∷ rest))
      fit = knots-fit (first ∷ rest) sound

      module _ (j : Float) (I : Inside t u j) where
        part : Every (Clear t j) (knot_times (first ∷ rest))
        part = clear-parts t u ft fu j I (knot_times (first ∷ rest)) fit clear

        same_place : place t ≡ place j
        same_place = place_same t j ft I.ft I.from (knot_times (first ∷ rest)) fit part

        same_first : lt t first.x ≡ lt j first.x
        same_first = lt_same t j ft I.ft I.from first.x sound.0.fx part.0

        same-last : le (last_knot first rest).x t ≡ le (last_knot first rest).x j
        same-last = le_same t j ft I.ft I.from (last_knot first rest).x last-sound.fx (last-part first rest part)
          where
            last-part : (k : Knot) (r : List Knot) → Every (Clear t j) (knot_times (k ∷ r)) → Clear t j (last_knot k r).x
            last-part k [] c = c.0
            last-part k (l ∷ r) c = last-part l r c.1

      level : (y : Float) → Fits y → T (within 40 y) → ((j : Float) → Inside t u j → map_time (first ∷ rest) j ≡ y) → TimeRises (first ∷ rest) t u
      level y f b e j k I J l = rw (e j I, e k J) (le_refl y f (no_nan y b))

      sloped : lt t first.x ≡ false → le (last_knot first rest).x t ≡ false → TimeRises (first ∷ rest) t u ⊎ TimeFalls (first ∷ rest) t u
      sloped e f = elim (way (lower (place t)) (upper (place t)) D S) [
        | inl up ↦ inl (λ j k I J l. rw (at j I, at k J) (segment-up lo hi D S j k (within-it j I) (within-it k J) l up))
        | inr dn ↦ inr (λ j k I J l. rw (at j I, at k J) (segment-down lo hi D S j k (within-it j I) (within-it k J) l dn))
      ]
        where
          lo : Knot
          lo = lower (place t)

          hi : Knot
          hi = upper (place t)

          D : Doubles lo.x hi.x lo.y hi.y
          D = doubles (place t)

          S : Segment lo.x hi.x lo.y hi.y
          S = spanned t ft (le-no-nan t u h).0 e f

          at : (j : Float) → Inside t u j → map_time (first ∷ rest) j ≡ on_segment lo hi j
          at j I = on-segment j (sym (same_first j I) ∙ e) (sym (same-last j I) ∙ f) ∙ ap (λ (i : ℕ). on_segment (lower i) (upper i) j) (sym (same_place j I))

          within-it : (j : Float) → Inside t u j → Inside lo.x hi.x j
          within-it j I = subst (λ (i : ℕ). Inside (lower i).x (upper i).x j) (sym (same_place j I)) (inside-segment j I.ft (le-no-nan t j I.from).1 (sym (same_first j I) ∙ e) (sym (same-last j I) ∙ f))

      same_line : (j : Float) → Inside t u j → line_of (first ∷ rest) j ≡ line_of (first ∷ rest) t
      unfolding line_of
      same_line j I = rw (same_first j I, same-last j I, same_place j I)

      turns-knots : TimeRises (first ∷ rest) t u ⊎ TimeFalls (first ∷ rest) t u
      turns-knots = go (lt t first.x) (le (last_knot first rest).x t) refl refl
        where
          go : (a b : Bool) → lt t first.x ≡ a → le (last_knot first rest).x t ≡ b → TimeRises (first ∷ rest) t u ⊎ TimeFalls (first ∷ rest) t u
          go true b e f = inl (level first.y sound.0.fy sound.0.by (λ j I. below-first j (sym (same_first j I) ∙ e)))
          go false true e f = inl (level (last_knot first rest).y last-sound.fy last-sound.by (λ j I. from_last j (sym (same_first j I) ∙ e) (sym (same-last j I) ∙ f)))
          go false false e f = sloped e f

-- ---- any knots

pub map-fits : (knots : List Knot) → Every SoundKnot knots → (t : Float) → Fits t → Fits (map_time knots t)
map-fits [] s t f = unfold map_time in f
map-fits (k ∷ rest) s t f = times-fit k rest s t

-- The clip time on a stretch that passes no knot
pub map-turns : (knots : List Knot) → Every SoundKnot knots → (t u : Float) → Fits t → Fits u → T (le t u) → Every (Clear t u) (knot_times knots) → TimeRises knots t u ⊎ TimeFalls knots t u
map-turns [] s t u ft fu h c = inl plain
  where
    plain : TimeRises [] t u
    plain j k I J l = unfold map_time in l
map-turns (k ∷ rest) s t u ft fu h c = turns-knots k rest s t u ft fu h c

-- There the line is one
pub line_same : (knots : List Knot) → Every SoundKnot knots → (t u : Float) → Fits t → Fits u → T (le t u) → Every (Clear t u) (knot_times knots) → (j : Float) → Inside t u j → line_of knots j ≡ line_of knots t
line_same [] s t u ft fu h c j I = unfold line_of in refl
line_same (k ∷ rest) s t u ft fu h c j I = same_line k rest s t u ft fu h c j I

-- ---- one number, one clip time

pub clear-alike : (t u : Float) → Fits t → Fits u → Alike t u → (xs : List Float) → Every Fits xs → Every (Clear t u) xs
clear-alike t u ft fu a [] f = tt
clear-alike t u ft fu a (x ∷ xs) f = (λ p. le_trans x u t f.0 fu ft p a.1, clear-alike t u ft fu a xs f.1)

pub map-alike : (knots : List Knot) → Every SoundKnot knots → (t u : Float) → Fits t → Fits u → Alike t u → Alike (map_time knots t) (map_time knots u)
map-alike knots s t u ft fu a = elim (map-turns knots s t u ft fu a.0 (clear-alike t u ft fu a (knot_times knots) (knots-fit knots s))) [
  | inl r ↦ (r t u I J a.0, r u t J I a.1)
  | inr r ↦ (r u t J I a.1, r t u I J a.0)
]
  where
    I : Inside t u t
    I = record { ft = ft; from = le_refl t ft (le-no-nan t u a.0).0; upto = a.0 }

    J : Inside t u u
    J = record { ft = fu; from = a.0; upto = le_refl u fu (le-no-nan t u a.0).1 }
