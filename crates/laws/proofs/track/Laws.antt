-- The laws of tracks. Of a step function v on the keys from low to top:
--     track-of        the changes found key by key are its track, also up to any key on the way
--     track-unique    it has one track
--     track-same      two functions have the same track exactly if they agree on every key
--     fewest          no head and ascending changes with v's held reading have fewer changes
--     changes-split   the changes of one window and of the next are those of both; changes-agree: they go by the function within the window
--     changes-still, changes-next     what a search for the next change tells of the changes so far
-- Assumes nothing.
use mathlib.Core.Path.{◌≡◌, refl, sym, ap, ◌∙◌, subst}
use mathlib.Core.List.{List, [], ◌∷◌, ◌++◌, append_assoc, append-nil}
use mathlib.Core.Bool.{Bool}
use mathlib.Core.Logic.{◌⊎◌, inl, inr, ⊎_elim, ◌↔◌}
use Prim.Native.Nat.{ℕ, zero, suc, ◌+◌, ◌-◌, ◌≤◌, ◌<◌, zero-le, suc-le-suc}
use native.Mathlib.Decide.{dec_le, ℕ_discrete, le_ind}
use native.Mathlib.Omega.{arith}
use borrow.Author.Tests.{le-leb, lt-leb}
use lib.Dec.{leb}
use native.Mathlib.Numerals.{add-one}
use lib.ListN.{length, get_or, take, drop, set, length-append, length-drop, take-append-drop}
use lib.Seq.{drop-cons, set_at, append_snoc, length-take-le}
use Rattle.laws.specs.track.Track.{Change, grown, changes_to}
use Rattle.laws.proofs.track.Track.{pick, held_at, Rising, Ascending, UpTo, HasKey, ChangesAt, Still, ChangeAt, TrackOf}
use Rattle.laws.specs.track.Steps.{Agree}

-- two bounds that a number meets alike
leb-same : (x j k : ℕ) → (x ≤ j → x ≤ k) → (x ≤ k → x ≤ j) → leb x j ≡ leb x k
leb-same x j k f g = go (dec_le x j)
  where
    go : Dec (x ≤ j) → leb x j ≡ leb x k
    go (yes p) = le-leb x j p ∙ sym (le-leb x k (f p))
    go (no n) = lt-leb x j (omega arith) ∙ sym (lt-leb x k (let m : (x ≤ k → ⊥) = λ q. n (g q) in omega arith))

pub prev : (k : ℕ) → suc k - 1 ≡ k
prev k = omega arith

module _ {A : Type 0} where
  pub rising-has : {low : ℕ} (cs : List (Change A)) {x : ℕ} → Rising low cs → HasKey x cs → low < x
  rising-has [] r m = absurd m
  rising-has {low = low} (c ∷ cs) {x = x} r m = ⊎_elim (λ e. omega arith) (λ n. let h = rising-has {low = c.key} cs {x = x} r.1 n in omega arith) m

  pub upto-has : {top : ℕ} (cs : List (Change A)) {x : ℕ} → UpTo top cs → HasKey x cs → x ≤ top
  upto-has [] u m = absurd m
  upto-has (c ∷ cs) u m = ⊎_elim (λ e. omega arith) (λ n. upto-has cs u.1 n) m

  pub rising-ascending : (low : ℕ) (cs : List (Change A)) → Rising low cs → Ascending cs
  rising-ascending low [] r = tt
  rising-ascending low (c ∷ cs) r = r.1

  pub upto-more : {a b : ℕ} (cs : List (Change A)) → UpTo a cs → a ≤ b → UpTo b cs
  upto-more [] u h = tt
  upto-more (c ∷ cs) u h = (omega arith, upto-more cs u.1 h)

  has_key? : (x : ℕ) (cs : List (Change A)) → Dec (HasKey x cs)
  has_key? x [] = no (λ m. m)
  has_key? x (c ∷ cs) = go (ℕ_discrete c.key x) (has_key? x cs)
    where
      go : Dec (c.key ≡ x) → Dec (HasKey x cs) → Dec (HasKey x (c ∷ cs))
      go (yes e) (yes m) = yes (inl e)
      go (yes e) (no n) = yes (inl e)
      go (no d) (yes m) = yes (inr m)
      go (no d) (no n) = no (⊎_elim d n)

  pub rising_snoc : {low : ℕ} (cs : List (Change A)) (c : Change A) (m : ℕ) → Rising low cs → UpTo m cs → low < c.key → m < c.key → Rising low (cs ++ c ∷ [])
  rising_snoc [] c m r u l h = (l, tt)
  rising_snoc {low = low} (d ∷ cs) c m r u l h = (r.0, rising_snoc {low = d.key} cs c m r.1 u.1 (omega arith) h)

  pub upto_snoc : {top : ℕ} (cs : List (Change A)) (c : Change A) → UpTo top cs → c.key ≤ top → UpTo top (cs ++ c ∷ [])
  upto_snoc [] c u h = (h, tt)
  upto_snoc (d ∷ cs) c u h = (u.0, upto_snoc cs c u.1 h)

  pub has-snoc : (x : ℕ) (cs : List (Change A)) (c : Change A) → HasKey x (cs ++ c ∷ []) → HasKey x cs ⊎ (c.key ≡ x)
  has-snoc x [] c m = ⊎_elim inr (λ n. absurd n) m
  has-snoc x (d ∷ cs) c m = ⊎_elim (λ e. inl (inl e)) (λ n. ⊎_elim (λ p. inl (inr p)) inr (has-snoc x cs c n)) m

  pub snoc-has : (x : ℕ) (cs : List (Change A)) (c : Change A) → HasKey x cs ⊎ (c.key ≡ x) → HasKey x (cs ++ c ∷ [])
  snoc-has x [] c m = ⊎_elim (λ n. absurd n) inl m
  snoc-has x (d ∷ cs) c m = ⊎_elim (⊎_elim inl (λ p. inr (snoc-has x cs c (inl p)))) (λ e. inr (snoc-has x cs c (inr e))) m

  held-snoc : (h : A) (cs : List (Change A)) (c : Change A) (k : ℕ) → held_at h (cs ++ c ∷ []) k ≡ pick (leb c.key k) c.value (held_at h cs k)
  unfolding held_at
  held-snoc h [] c k = refl
  held-snoc h (d ∷ cs) c k = held-snoc (pick (leb d.key k) d.value h) cs c k

  -- where no key lies between two places, the readings there are the same
  pub held_same : (h : A) (cs : List (Change A)) (j k : ℕ) → ((x : ℕ) → HasKey x cs → (x ≤ j → x ≤ k) × (x ≤ k → x ≤ j)) → held_at h cs j ≡ held_at h cs k
  unfolding held_at
  held_same h [] j k f = refl
  held_same h (c ∷ cs) j k f =
      let e : leb c.key j ≡ leb c.key k = leb-same c.key j k (f c.key (inl refl)).0 (f c.key (inl refl)).1 in
      ap (λ (b : Bool). held_at (pick b c.value h) cs j) e ∙ held_same (pick (leb c.key k) c.value h) cs j k (λ x m. f x (inr m))

  pub held-past : (h : A) (cs : List (Change A)) (m : ℕ) (j k : ℕ) → UpTo m cs → m ≤ j → m ≤ k → held_at h cs j ≡ held_at h cs k
  held-past h cs m j k u p q = held_same h cs j k (λ x n. let b = upto-has cs u n in (λ _. omega arith, λ _. omega arith))

  held-still : (h : A) (cs : List (Change A)) (k : ℕ) → (HasKey k cs → ⊥) → held_at h cs k ≡ held_at h cs (k - 1)
  held-still h cs k n = held_same h cs k (k - 1) f
    where
      f : (x : ℕ) → HasKey x cs → (x ≤ k → x ≤ k - 1) × (x ≤ k - 1 → x ≤ k)
      f x m = let d : (x ≡ k → ⊥) = λ e. n (subst (λ (y : ℕ). HasKey y cs) e m) in (λ h. omega arith, λ h. omega arith)

  -- at and below a bound that the keys are above it is the head
  pub held_low : (h : A) (cs : List (Change A)) (low k : ℕ) → Rising low cs → k ≤ low → held_at h cs k ≡ h
  unfolding held_at
  held_low h [] low k r p = refl
  held_low h (c ∷ cs) low k r p =
      ap (λ (b : Bool). held_at (pick b c.value h) cs k) (lt-leb c.key k (omega arith)) ∙ held_low h cs c.key k r.1 (omega arith)

  -- at and above the first key it is that of the rest from the first value
  pub held-rest : (h : A) (c : Change A) (cs : List (Change A)) (k : ℕ) → c.key ≤ k → held_at h (c ∷ cs) k ≡ held_at c.value cs k
  unfolding held_at
  held-rest h c cs k p = ap (λ (b : Bool). held_at (pick b c.value h) cs k) (le-leb c.key k p)

  pub change-path : {c d : Change A} → c.key ≡ d.key → c.value ≡ d.value → c ≡ d
  change-path p q = λ i. record { key = p i; value = q i }

  -- the first key of a list is below every other that it has
  pub first_below : (c d : Change A) (cs ds : List (Change A)) → Rising c.key cs → HasKey d.key (c ∷ cs) → c.key ≤ d.key
  first_below c d cs ds r m = ⊎_elim (λ e. omega arith) (λ n. let h = rising-has cs r n in omega arith) m

  -- a key of the rest is one of the other's rest
  pub rest_has : (c d : Change A) (cs ds : List (Change A)) (x : ℕ) → Rising c.key cs → c.key ≡ d.key → (HasKey x (c ∷ cs) → HasKey x (d ∷ ds)) → HasKey x cs → HasKey x ds
  rest_has c d cs ds x r e f m = ⊎_elim (λ p. let h = rising-has cs r m in absurd (omega arith)) (λ n. n) (f (inr m))

  same-changes : (cs ds : List (Change A)) (g h : A) → Ascending cs → Ascending ds
      → ((x : ℕ) → HasKey x cs → HasKey x ds) → ((x : ℕ) → HasKey x ds → HasKey x cs)
      → ((x : ℕ) → HasKey x cs → held_at g cs x ≡ held_at h ds x) → cs ≡ ds
  same-changes [] [] g h r s to from v = refl
  same-changes [] (d ∷ ds) g h r s to from v = absurd (from d.key (inl refl))
  same-changes (c ∷ cs) [] g h r s to from v = absurd (to c.key (inl refl))
  same-changes (c ∷ cs) (d ∷ ds) g h r s to from v =
      let le = first_below c d cs ds r (from d.key (inl refl)) in
      let ge = first_below d c ds cs s (to c.key (inl refl)) in
      let e : c.key ≡ d.key = omega arith in
      let q : c.value ≡ d.value =
      sym (held_low c.value cs c.key c.key r (omega arith))
      ∙ sym (held-rest g c cs c.key (omega arith))
      ∙ v c.key (inl refl)
      ∙ held-rest h d ds c.key (omega arith)
      ∙ held_low d.value ds d.key c.key s (omega arith) in
      ap {B = List (Change A)} (λ (z : Change A). z ∷ cs) (change-path e q)
      ∙ ap {B = List (Change A)} (λ (l : List (Change A)). d ∷ l)
      (same-changes cs ds c.value d.value (rising-ascending c.key cs r) (rising-ascending d.key ds s)
      (λ x m. rest_has c d cs ds x r e (to x) m)
      (λ x m. rest_has d c ds cs x s (sym e) (from x) m)
      (λ x m. let a = rising-has cs r m in
      sym (held-rest g c cs x (omega arith)) ∙ v x (inr m) ∙ held-rest h d ds x (omega arith)))

  -- an ascending list whose keys another ascending list has is no longer
  no_longer : (ds cs : List (Change A)) → Ascending cs → Ascending ds → ((x : ℕ) → HasKey x cs → HasKey x ds) → length cs ≤ length ds
  no_longer [] [] r s f = zero-le
  no_longer [] (c ∷ cs) r s f = absurd (f c.key (inl refl))
  no_longer (d ∷ ds) [] r s f = zero-le
  no_longer (d ∷ ds) (c ∷ cs) r s f =
      go (ℕ_discrete c.key d.key) (no_longer ds cs) (no_longer ds (c ∷ cs))
    where
      dle : d.key ≤ c.key
      dle = first_below d c ds cs s (f c.key (inl refl))

      go : Dec (c.key ≡ d.key)
          → (Ascending cs → Ascending ds → ((x : ℕ) → HasKey x cs → HasKey x ds) → length cs ≤ length ds)
          → (Ascending (c ∷ cs) → Ascending ds → ((x : ℕ) → HasKey x (c ∷ cs) → HasKey x ds) → length (c ∷ cs) ≤ length ds)
          → length (c ∷ cs) ≤ length (d ∷ ds)
      go (yes e) both one =
          suc-le-suc (both (rising-ascending c.key cs r) (rising-ascending d.key ds s) (λ x m. rest_has c d cs ds x r e (f x) m))
      go (no n) both one =
          let above : (x : ℕ) → HasKey x (c ∷ cs) → d.key < x =
          λ x m. ⊎_elim (λ e. let l = dle in omega arith) (λ p. let h = rising-has cs r p in let l = dle in omega arith) m in
          let h = one r (rising-ascending d.key ds s)
          (λ x m. ⊎_elim (λ e. let a = above x m in absurd (omega arith)) (λ p. p) (f x m)) in
          omega arith

  module _ {low top : ℕ} {v : ℕ → A} {h : A} {cs : List (Change A)} (t : TrackOf low top v h cs) where
    -- the changes' keys are the places where the function changes
    key-changes : (x : ℕ) → HasKey x cs → ChangesAt v x
    key-changes x m = (t.places x (rising-has cs t.rising m) (upto-has cs t.inside m)).0 m

    -- a function has one track
    pub track-unique : {g : A} {ds : List (Change A)} → TrackOf low top v g ds → (h ≡ g) × (cs ≡ ds)
    track-unique {g} {ds} s = (
      t.begins ∙ sym s.begins,
      same-changes cs ds h g (rising-ascending low cs t.rising) (rising-ascending low ds s.rising)
          (λ x m. (s.places x (rising-has cs t.rising m) (upto-has cs t.inside m)).1 (key-changes x m))
          (λ x m. (t.places x (rising-has ds s.rising m) (upto-has ds s.inside m)).1
          ((s.places x (rising-has ds s.rising m) (upto-has ds s.inside m)).0 m))
          (λ x m. let a = rising-has cs t.rising m in let b = upto-has cs t.inside m in
          t.exact x (omega arith) b ∙ sym (s.exact x (omega arith) b)),
    )

    -- the track of a function is that of each that agrees with it
    pub track-agree : {w : ℕ → A} → low ≤ top → Agree low top v w → TrackOf low top w h cs
    track-agree {w} le f =
        record {
          rising = t.rising;
          inside = t.inside;
          begins = t.begins ∙ f low (omega arith) le;
          exact = λ k a b. t.exact k a b ∙ f k a b;
          places = λ k a b.
              let e = f k (omega arith) b in
              let e₁ = f (k - 1) (omega arith) (omega arith) in
              (λ m q. (t.places k a b).0 m (e ∙ q ∙ sym e₁), λ n. (t.places k a b).1 (λ q. n (sym e ∙ q ∙ e₁)));
        }

    -- Every other head and ascending changes with that held reading have at least as many changes
    pub fewest : (g : A) (ds : List (Change A)) → Ascending ds → Agree low top (held_at g ds) v → length cs ≤ length ds
    fewest g ds s f =
        no_longer ds cs (rising-ascending low cs t.rising) s
        (λ x m. go x m (rising-has cs t.rising m) (upto-has cs t.inside m) (has_key? x ds))
      where
        go : (x : ℕ) → HasKey x cs → low < x → x ≤ top → Dec (HasKey x ds) → HasKey x ds
        go x m a b (yes p) = p
        go x m a b (no n) =
            absurd (key-changes x m (sym (f x (omega arith) b) ∙ held-still g ds x n ∙ f (x - 1) (omega arith) (omega arith)))

  -- Two functions have the same track exactly if they agree on every key
  pub track-same : {low top : ℕ} {v w : ℕ → A} {h g : A} {cs ds : List (Change A)} → low ≤ top → TrackOf low top v h cs → TrackOf low top w g ds
      → ((h ≡ g) × (cs ≡ ds)) ↔ Agree low top v w
  track-same {g = g} {cs = cs} le t s = (
    λ e k a b. sym (t.exact k a b) ∙ ap (λ (x : A). held_at x cs k) e.0 ∙ ap (λ (l : List (Change A)). held_at g l k) e.1 ∙ s.exact k a b,
    λ f. track-unique t (track-agree s le (λ k a b. sym (f k a b))),
  )

  grown-keep : {P Q : Type 0} (p : Dec P) (q : Dec Q) (cs : List (Change A)) (c : Change A) → Q → grown p q cs c ≡ cs
  unfolding grown
  grown-keep (yes _) (yes _) cs c h = refl
  grown-keep (yes _) (no n) cs c h = absurd (n h)
  grown-keep (no _) (yes _) cs c h = refl
  grown-keep (no _) (no _) cs c h = refl

  grown-below : {P Q : Type 0} (p : Dec P) (q : Dec Q) (cs : List (Change A)) (c : Change A) → (P → ⊥) → grown p q cs c ≡ cs
  unfolding grown
  grown-below (yes p) (yes _) cs c h = refl
  grown-below (yes p) (no _) cs c h = absurd (h p)
  grown-below (no _) (yes _) cs c h = refl
  grown-below (no _) (no _) cs c h = refl

  grown-more : {P Q : Type 0} (p : Dec P) (q : Dec Q) (cs : List (Change A)) (c : Change A) → P → (Q → ⊥) → grown p q cs c ≡ cs ++ c ∷ []
  unfolding grown
  grown-more (yes p) (yes q) cs c h n = absurd (n q)
  grown-more (yes p) (no _) cs c h n = refl
  grown-more (no m) (yes _) cs c h n = absurd (m h)
  grown-more (no m) (no _) cs c h n = absurd (m h)

  track-start : (low : ℕ) (v : ℕ → A) → TrackOf low low v (v low) []
  unfolding held_at
  track-start low v =
      record {
        rising = tt;
        inside = tt;
        begins = refl;
        exact = λ k a b. let e : low ≡ k = omega arith in ap v e;
        places = λ k a b. absurd (omega arith);
      }

  module _ {low k : ℕ} {v : ℕ → A} {h : A} {cs : List (Change A)} (le : low ≤ k) (t : TrackOf low k v h cs) where
    -- the last key is new or old
    last-key : {P : Type 0} (j : ℕ) → j ≤ suc k → (j ≤ k → P) → (j ≡ suc k → P) → P
    last-key {P} j b old new = go (dec_le j k)
      where
        go : Dec (j ≤ k) → P
        go (yes p) = old p
        go (no n) = new (omega arith)

    track-keep : v (suc k) ≡ v k → TrackOf low (suc k) v h cs
    track-keep e =
        record {
          rising = t.rising;
          inside = upto-more cs t.inside (omega arith);
          begins = t.begins;
          exact = λ j a b. last-key j b (t.exact j a) (λ p.
              held-past h cs k j k t.inside (omega arith) (omega arith) ∙ t.exact k le (omega arith) ∙ sym e ∙ ap v (sym p));
          places = λ j a b. last-key j b (t.places j a) (λ p. (
            λ m. let u = upto-has cs t.inside m in absurd (omega arith),
            λ n. let q : k ≡ j - 1 = omega arith in absurd (n (ap v p ∙ e ∙ ap v q)),
          ));
        }

    abbrev new : Change A
    new = record { key = suc k; value = v (suc k) }

    track-grow : (v (suc k) ≡ v k → ⊥) → TrackOf low (suc k) v h (cs ++ new ∷ [])
    track-grow d =
        record {
          rising = rising_snoc cs new k t.rising t.inside (omega arith) (omega arith);
          inside = upto_snoc cs new (upto-more cs t.inside (omega arith)) (omega arith);
          begins = t.begins;
          exact = λ j a b. held-snoc h cs new j ∙ last-key j b
              (λ p. ap (λ (q : Bool). pick q (v (suc k)) (held_at h cs j)) (lt-leb (suc k) j (omega arith)) ∙ t.exact j a p)
              (λ p. ap (λ (q : Bool). pick q (v (suc k)) (held_at h cs j)) (le-leb (suc k) j (omega arith)) ∙ ap v (sym p));
          places = λ j a b. last-key j b
              (λ p. (
                λ m. ⊎_elim (λ n. (t.places j a p).0 n) (λ q. absurd (omega arith)) (has-snoc j cs new m),
                λ n. snoc-has j cs new (inl ((t.places j a p).1 n)),
              ))
              (λ p. (λ m q. let e : j - 1 ≡ k = omega arith in d (ap v (sym p) ∙ q ∙ ap v e), λ n. snoc-has j cs new (inr (sym p))));
        }

module _ {A : Type 0} (same : Discrete A) (v : ℕ → A) (low : ℕ) where
  -- ## The changes found key by key

  changes-keep : (k : ℕ) → v (suc k) ≡ v k → changes_to same v low (suc k) ≡ changes_to same v low k
  unfolding changes_to
  changes-keep k e = grown-keep (dec_le low k) (same (v (suc k)) (v k)) _ _ e

  changes-grow : (k : ℕ) → low ≤ k → (v (suc k) ≡ v k → ⊥) → changes_to same v low (suc k) ≡ changes_to same v low k ++ record { key = suc k; value = v (suc k) } ∷ []
  unfolding changes_to
  changes-grow k le d = grown-more (dec_le low k) (same (v (suc k)) (v k)) _ _ le d

  -- there are none at and below low
  pub changes-none : (k : ℕ) → k ≤ low → changes_to same v low k ≡ []
  unfolding changes_to
  changes-none zero h = refl
  changes-none (suc k) h =
      let n : (low ≤ k → ⊥) = λ p. omega arith in
      grown-below (dec_le low k) (same (v (suc k)) (v k)) _ _ n ∙ changes-none k (omega arith)

  -- The changes found key by key, up to any key from low on, are the track up to there
  pub track-of : (top : ℕ) → low ≤ top → TrackOf low top v (v low) (changes_to same v low top)
  track-of top le = le_ind P (subst (λ l. TrackOf low low v (v low) l) (sym (changes-none low (omega arith))) (track-start low v)) step top le
    where
      P : ℕ → Type 0
      P k = TrackOf low k v (v low) (changes_to same v low k)

      go : (k : ℕ) → low ≤ k → P k → Dec (v (suc k) ≡ v k) → P (suc k)
      go k h t (yes e) = subst (λ l. TrackOf low (suc k) v (v low) l) (sym (changes-keep k e)) (track-keep h t e)
      go k h t (no d) = subst (λ l. TrackOf low (suc k) v (v low) l) (sym (changes-grow k h d)) (track-grow h t d)

      step : (k : ℕ) → low ≤ k → P k → P (suc k)
      step k h t = go k h t (same (v (suc k)) (v k))

  -- No change above a and up to b: the changes up to b are those up to a
  pub changes-still : (a b : ℕ) → a ≤ b → Still v a b → changes_to same v low b ≡ changes_to same v low a
  changes-still a b h s = le_ind P (λ s. refl) step b h s
    where
      P : ℕ → Type 0
      P k = Still v a k → changes_to same v low k ≡ changes_to same v low a

      step : (k : ℕ) → a ≤ k → P k → P (suc k)
      step k p ih s =
          changes-keep k (s (suc k) (omega arith) (omega arith) ∙ ap v (prev k)) ∙ ih (λ j l m. s j l (omega arith))

  -- m is the next change above a: the changes up to m are those up to a, and m
  pub changes-next : (a top m : ℕ) → low ≤ a → ChangeAt v a top m
      → changes_to same v low m ≡ changes_to same v low a ++ record { key = m; value = v m } ∷ []
  changes-next a top m le c = go m c.above c.still c.changes
    where
      go : (m : ℕ) → a < m → Still v a (m - 1) → ChangesAt v m
          → changes_to same v low m ≡ changes_to same v low a ++ record { key = m; value = v m } ∷ []
      go zero h s d = absurd (omega arith)
      go (suc k) h s d =
          changes-grow k (omega arith) (λ e. d (e ∙ ap v (sym (prev k))))
          ∙ ap (λ l. l ++ record { key = suc k; value = v (suc k) } ∷ []) (changes-still a k (omega arith) (λ j p q. s j p (omega arith)))

-- ## Window by window

module _ {A : Type 0} (same : Discrete A) where
  -- the changes of a window go by the function within it
  pub changes-agree : (v w : ℕ → A) (a b : ℕ) → Agree a b v w → changes_to same v a b ≡ changes_to same w a b
  changes-agree v w a b f = go (dec_le a b)
    where
      go : Dec (a ≤ b) → changes_to same v a b ≡ changes_to same w a b
      go (yes h) = (track-unique (track-of same v a b h) (subst (λ x. TrackOf a b v x (changes_to same w a b)) (sym (f a (omega arith) h))
          (track-agree (track-of same w a b h) h (λ k p q. sym (f k p q))))).1
      go (no n) = changes-none same v a b (omega arith) ∙ sym (changes-none same w a b (omega arith))

  -- the changes of a window, and then those of the next
  pub changes-split : (v : ℕ → A) (low a b : ℕ) → low ≤ a → a ≤ b → changes_to same v low b ≡ changes_to same v low a ++ changes_to same v a b
  changes-split v low a b l h = le_ind P start step b h
    where
      P : ℕ → Type 0
      P k = changes_to same v low k ≡ changes_to same v low a ++ changes_to same v a k

      start : P a
      start = sym (append-nil (changes_to same v low a)) ∙ ap (λ c. changes_to same v low a ++ c) (sym (changes-none same v a a (omega arith)))

      go : (k : ℕ) → a ≤ k → P k → Dec (v (suc k) ≡ v k) → P (suc k)
      go k p ih (yes e) =
          changes-keep same v low k e ∙ ih ∙ ap (λ c. changes_to same v low a ++ c) (sym (changes-keep same v a k e))
      go k p ih (no d) =
          changes-grow same v low k (omega arith) d
          ∙ ap (λ c. c ++ record { key = suc k; value = v (suc k) } ∷ []) ih
          ∙ append_assoc (changes_to same v low a) (changes_to same v a k) (record { key = suc k; value = v (suc k) } ∷ [])
          ∙ ap (λ c. changes_to same v low a ++ c) (sym (changes-grow same v a k p d))

      step : (k : ℕ) → a ≤ k → P k → P (suc k)
      step k p ih = go k p ih (same (v (suc k)) (v k))

-- ## A list that is written from a slot on

module _ {A : Type 0} where
  -- the written part and the old rest, with one store more
  pub put : (p q : List A) (n : ℕ) (a : A) → length p ≡ n → n < length q → set (p ++ drop n q) n a ≡ (p ++ a ∷ []) ++ drop (n + 1) q
  put p q n a e h =
      ap (λ (l : List A). set (p ++ l) n a) (drop-cons q n a h)
      ∙ set_at p (get_or q n a) (drop (suc n) q) a n e
      ∙ sym (append_snoc p a (drop (suc n) q))
      ∙ ap (λ (m : ℕ). (p ++ a ∷ []) ++ drop m q) (sym (add-one n))

  pub length-put : (p q : List A) (n : ℕ) → length p ≡ n → n ≤ length q → length (p ++ drop n q) ≡ length q
  length-put p q n e h = simp (length-append, length-drop) (omega arith)

  -- the slots before the first one written, and what is written
  pub length_part : (q p : List A) (i : ℕ) → i ≤ length q → length (take i q ++ p) ≡ i + length p
  length_part q p i h = length-append (take i q) p ∙ ap (λ (n : ℕ). n + length p) (length-take-le i q h)

  pub no_part : (q p : List A) (i : ℕ) → p ≡ [] → q ≡ (take i q ++ p) ++ drop i q
  no_part q p i e = rw e (rw (append-nil (take i q)) (sym (take-append-drop i q)))
