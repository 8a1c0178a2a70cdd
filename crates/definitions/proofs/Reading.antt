-- The search by halves: what a step comes to, and that it finds the place from which a test fails; so on ascending times the reading by halves is the held one.
-- Assumes nothing.
use Prim.Native.Nat.{ℕ, zero, suc, ◌+◌, ◌-◌, ◌/◌, ◌≤◌, ◌<◌, zero-le, suc-le-suc}
use native.Mathlib.Nat.{not-suc-le-zero, le_of_suc-le-suc}
use native.Mathlib.Decide.{dec_le}
use native.Mathlib.Omega.{arith}
use mathlib.Core.Path.{◌≡◌, refl, sym, ap, ◌∙◌, subst}
use mathlib.Core.Bool.{Bool, true, false, cond}
use mathlib.Core.List.{List, [], ◌∷◌}
use lib.Dec.{T, ltb, leb-suc-suc}
use lib.ListN.{length, get_or}
use lib.Ieee.{Float, nan, binary64, fits, lt, le}
use lib.Ieee.Fits.{and_l, and_r}
use borrow.Author.Tests.{lt-ltb, le-ltb}
use Rattle.gf.proofs.KeyLaws.{le_trans, lt→le}
use Rattle.definitions.specs.Lists.{all, pairs_from, count_from}
use Rattle.definitions.specs.Doubles.{ascending}
use Rattle.definitions.specs.Track.{Entry, Change, change_times, read_from, read_track}
use Rattle.definitions.specs.Reading.{entry, by_halves, partition_point, held_after, read_by_halves, ReadsHeld}

module _ (test : ℕ → Bool) where
  -- ---- the steps

  pub halves-few : (steps at n : ℕ) → n ≤ 16 → by_halves test steps at n ≡ at + count_from test at n
  unfolding by_halves
  halves-few zero at n h = refl
  halves-few (suc steps) at n h = rw (le-ltb 16 n h)

  halve : (steps at n : ℕ) → 16 < n → by_halves test (suc steps) at n ≡ by_halves test steps (cond (test (at + n / 2)) (at + n / 2) at) (n - n / 2)
  unfolding by_halves
  halve steps at n h = rw (lt-ltb 16 n h)

  -- any number of steps that suffices will do
  halves-steps : (m k at n : ℕ) → n ≤ m → n ≤ k → by_halves test m at n ≡ by_halves test k at n
  halves-steps zero k at n a b = halves-few 0 at n (omega arith) ∙ sym (halves-few k at n (omega arith))
  halves-steps (suc m) zero at n a b = halves-few (suc m) at n (omega arith) ∙ sym (halves-few 0 at n (omega arith))
  halves-steps (suc m) (suc k) at n a b = go (dec_le n 16) (halves-steps m k (cond (test (at + n / 2)) (at + n / 2) at) (n - n / 2))
    where
      go : Dec (n ≤ 16) → (n - n / 2 ≤ m → n - n / 2 ≤ k → by_halves test m (cond (test (at + n / 2)) (at + n / 2) at) (n - n / 2) ≡ by_halves test k (cond (test (at + n / 2)) (at + n / 2) at) (n - n / 2))
          → by_halves test (suc m) at n ≡ by_halves test (suc k) at n
      go (yes h) r = halves-few (suc m) at n h ∙ sym (halves-few (suc k) at n h)
      go (no h) r = halve m at n (omega arith) ∙ r (omega arith) (omega arith) ∙ sym (halve k at n (omega arith))

  -- one step, by the test in the middle
  pub halves-by : (at n : ℕ) → 16 < n → (b : Bool) → test (at + n / 2) ≡ b → by_halves test n at n ≡ by_halves test (n - n / 2) (cond b (at + n / 2) at) (n - n / 2)
  halves-by at n h b e =
      halves-steps n (suc n) at n (omega arith) (omega arith)
      ∙ halve n at n h
      ∙ ap (λ (x : Bool). by_halves test n (cond x (at + n / 2) at) (n - n / 2)) e
      ∙ halves-steps n (n - n / 2) (cond b (at + n / 2) at) (n - n / 2) (omega arith) (omega arith)

  pub count-one : (k n : ℕ) → 0 < n → count_from test k n ≡ cond (test k) 1 0 + count_from test (k + 1) (n - 1)
  unfolding count_from
  count-one k zero h = absurd (not-suc-le-zero h)
  count-one k (suc n) h =
      let e : k + 1 ≡ suc k = omega arith in
      let f : suc n - 1 ≡ n = omega arith in
      rw (e, f)

  -- ---- whatever the test, no more than there are

  count-within : (n k : ℕ) → count_from test k n ≤ n
  unfolding count_from
  count-within zero k = zero-le
  count-within (suc n) k = go (test k) (count-within n (suc k))
    where
      go : (b : Bool) → count_from test (suc k) n ≤ n → cond b 1 0 + count_from test (suc k) n ≤ suc n
      go true h = omega arith
      go false h = omega arith

  halves-within : (steps at n : ℕ) → by_halves test steps at n ≤ at + n
  halves-within zero at n = unfold by_halves in (let c = count-within n at in omega arith)
  halves-within (suc steps) at n = go (dec_le n 16) (test (at + n / 2)) refl (λ k. halves-within steps k (n - n / 2))
    where
      go : Dec (n ≤ 16) → (b : Bool) → test (at + n / 2) ≡ b → ((k : ℕ) → by_halves test steps k (n - n / 2) ≤ k + (n - n / 2)) → by_halves test (suc steps) at n ≤ at + n
      go (yes h) b e r = rw (halves-few (suc steps) at n h) (let c = count-within n at in omega arith)
      go (no h) true e r = rw (halve steps at n (omega arith), e) (let k = r (at + n / 2) in omega arith)
      go (no h) false e r = rw (halve steps at n (omega arith), e) (let k = r at in omega arith)

  -- ---- a test that holds below c, and not from c on

  count_none : (n k : ℕ) → ((i : ℕ) → k ≤ i → i < k + n → test i ≡ false) → count_from test k n ≡ 0
  unfolding count_from
  count_none zero k t = refl
  count_none (suc n) k t = let r = count_none n (suc k) (λ i a b. t i (omega arith) (omega arith)) in rw (t k (omega arith) (omega arith)) (omega arith)

  count_cut : (c n k : ℕ) → ((i : ℕ) → i < k + n → test i ≡ ltb i c) → k ≤ c → c ≤ k + n → k + count_from test k n ≡ c
  count_cut c zero k t a b = unfold count_from in (omega arith)
  count_cut c (suc n) k t a b = go (dec_le c k) (count_cut c n (suc k))
    where
      go : Dec (c ≤ k) → (((i : ℕ) → i < suc k + n → test i ≡ ltb i c) → suc k ≤ c → c ≤ suc k + n → suc k + count_from test (suc k) n ≡ c) → k + count_from test k (suc n) ≡ c
      go (yes h) r = let z = count_none (suc n) k (λ i l m. t i m ∙ le-ltb i c (omega arith)) in omega arith
      go (no h) r = unfold count_from in (let q = r (λ i m. t i (omega arith)) (omega arith) (omega arith) in rw (t k (omega arith) ∙ lt-ltb k c (omega arith)) (omega arith))

  halves-cut : (c steps at n : ℕ) → ((i : ℕ) → i < at + n → test i ≡ ltb i c) → at ≤ c → c ≤ at + n → by_halves test steps at n ≡ c
  halves-cut c zero at n t a b = unfold by_halves in count_cut c n at t a b
  halves-cut c (suc steps) at n t a b = go (dec_le n 16) (dec_le c (at + n / 2)) (λ k. halves-cut c steps k (n - n / 2))
    where
      go : Dec (n ≤ 16) → Dec (c ≤ at + n / 2) → ((k : ℕ) → ((i : ℕ) → i < k + (n - n / 2) → test i ≡ ltb i c) → k ≤ c → c ≤ k + (n - n / 2) → by_halves test steps k (n - n / 2) ≡ c) → by_halves test (suc steps) at n ≡ c
      go (yes h) k r = halves-few (suc steps) at n h ∙ count_cut c n at t a b
      go (no h) (yes k) r = rw (halve steps at n (omega arith), t (at + n / 2) (omega arith) ∙ le-ltb (at + n / 2) c k) (r at (λ i m. t i (omega arith)) a (omega arith))
      go (no h) (no k) r = rw (halve steps at n (omega arith), t (at + n / 2) (omega arith) ∙ lt-ltb (at + n / 2) c (omega arith)) (r (at + n / 2) (λ i m. t i (omega arith)) (omega arith) (omega arith))

-- where the times are at most t below c, and not from c on, c of them are found
partition-cut : (times : List Float) (t : Float) (c : ℕ) → ((i : ℕ) → i < length times → le (get_or times i nan) t ≡ ltb i c) → c ≤ length times → partition_point times t ≡ c
unfolding partition_point
partition-cut times t c h l = halves-cut (λ (i : ℕ). le (get_or times i nan) t) c (length times) 0 (length times) (λ i m. h i (omega arith)) zero-le (omega arith)

pub partition-within : (times : List Float) (t : Float) → partition_point times t ≤ length times
unfolding partition_point
partition-within times t = let h = halves-within (λ (i : ℕ). le (get_or times i nan) t) (length times) 0 (length times) in omega arith

-- ---- ascending times

abbrev Lower : Float × Float → Bool
Lower p = lt p.0 p.1

-- doubles, each below the one after it
record Rising (xs : List Float) : Type 0 where
  doubles : T (all (fits binary64) xs)
  order : T (ascending xs)

rest : (x : Float) (xs : List Float) → Rising (x ∷ xs) → Rising xs
rest x [] r = record { doubles = tt; order = tt }
rest x (y ∷ ys) r = record {
  doubles = and_r (fits binary64 x) (all (fits binary64) (y ∷ ys)) r.doubles;
  order = and_r (lt x y) (all Lower (pairs_from y ys)) r.order;
}

module _ (t : Float) (ft : T (fits binary64 t)) where
  -- behind a time above t stands one above t
  above : (x y : Float) (ys : List Float) → Rising (x ∷ y ∷ ys) → le x t ≡ false → le y t ≡ false
  above x y ys r e = go (le y t) (le_trans x y t (and_l (fits binary64 x) (all (fits binary64) (y ∷ ys)) r.doubles) (and_l (fits binary64 y) (all (fits binary64) ys) (rest x (y ∷ ys) r).doubles) ft below)
    where
      below : T (le x y)
      below = lt→le x y (and_l (lt x y) (all Lower (pairs_from y ys)) r.order)

      go : (b : Bool) → (T b → T (le x t)) → b ≡ false
      go true k = absurd (subst T e (k tt))
      go false k = refl

  none-at : (x : Float) (xs : List Float) → Rising (x ∷ xs) → le x t ≡ false → (i : ℕ) → i < length (x ∷ xs) → le (get_or (x ∷ xs) i nan) t ≡ false
  none-at x xs r e zero h = e
  none-at x [] r e (suc i) h = absurd (not-suc-le-zero (le_of_suc-le-suc h))
  none-at x (y ∷ ys) r e (suc i) h = none-at y ys (rest x (y ∷ ys) r) (above x y ys r e) i (le_of_suc-le-suc h)

  none_read : (c : Change) (cs : List Change) (e : Entry) → Rising (change_times (c ∷ cs)) → le c.time t ≡ false → read_from e (c ∷ cs) t ≡ e
  unfolding read_from
  none_read c [] e r f = rw f
  none_read c (d ∷ cs) e r f = rw f (none_read d cs e (rest c.time (change_times (d ∷ cs)) r) (above c.time d.time (change_times cs) r f))

  -- how many changes there are before the first above t
  abbrev reached : List Change → ℕ
  reached [] = 0
  reached (c ∷ cs) = cond (le c.time t) (suc (reached cs)) 0

  reached-within : (cs : List Change) → reached cs ≤ length (change_times cs)
  reached-within [] = zero-le
  reached-within (c ∷ cs) = go (le c.time t) (reached-within cs)
    where
      go : (b : Bool) → reached cs ≤ length (change_times cs) → cond b (suc (reached cs)) 0 ≤ suc (length (change_times cs))
      go true h = suc-le-suc h
      go false h = zero-le

  -- those are at most t, and none from there on is
  reached-at : (cs : List Change) → Rising (change_times cs) → (i : ℕ) → i < length (change_times cs) → le (get_or (change_times cs) i nan) t ≡ ltb i (reached cs)
  reached-at [] r i h = absurd (not-suc-le-zero h)
  reached-at (c ∷ cs) r i h = go (le c.time t) refl i h (reached-at cs (rest c.time (change_times cs) r))
    where
      go : (b : Bool) → le c.time t ≡ b → (i : ℕ) → i < length (change_times (c ∷ cs)) → ((j : ℕ) → j < length (change_times cs) → le (get_or (change_times cs) j nan) t ≡ ltb j (reached cs))
          → le (get_or (change_times (c ∷ cs)) i nan) t ≡ ltb i (cond b (suc (reached cs)) 0)
      go true e zero h k = e ∙ sym (lt-ltb 0 (suc (reached cs)) (omega arith))
      go true e (suc i) h k = k i (le_of_suc-le-suc h) ∙ sym (leb-suc-suc (suc i) (reached cs))
      go false e i h k = none-at c.time (change_times cs) r e i h ∙ sym (le-ltb i 0 zero-le)

  reached-read : (cs : List Change) (e : Entry) → Rising (change_times cs) → held_after (reached cs) e cs ≡ read_from e cs t
  unfolding read_from held_after
  reached-read [] e r = refl
  reached-read (c ∷ cs) e r = go (le c.time t) refl (reached-read cs (entry c.value c.mark) (rest c.time (change_times cs) r))
    where
      go : (b : Bool) → le c.time t ≡ b → held_after (reached cs) (entry c.value c.mark) cs ≡ read_from (entry c.value c.mark) cs t
          → held_after (cond b (suc (reached cs)) 0) e (c ∷ cs) ≡ read_from e (c ∷ cs) t
      go true f k = unfold read_from held_after in rw f k
      go false f k = unfold held_after in sym (none_read c cs e r f)

pub reads_held : ReadsHeld
unfolding read_by_halves read_track
reads_held track t doubles order =
    let ft = and_l (fits binary64 t) (all (fits binary64) (change_times track.changes)) doubles in
    let r : Rising (change_times track.changes) = record { doubles = and_r (fits binary64 t) (all (fits binary64) (change_times track.changes)) doubles; order = order } in
    ap (λ (k : ℕ). held_after k track.initial track.changes)
    (partition-cut (change_times track.changes) t (reached t ft track.changes) (reached-at t ft track.changes r) (reached-within t ft track.changes))
    ∙ reached-read t ft track.changes track.initial r
