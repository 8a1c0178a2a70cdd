-- A run of samples that are passed in one segment: between two inverse times what is read stays, at each it is what the line gives there. Assumes nothing.
use mathlib.Core.Path.{◌≡◌, refl, sym, ap, ◌∙◌, subst}
use mathlib.Core.Bool.{Bool, cond}
use mathlib.Core.List.{List, [], ◌∷◌, ◌++◌}
use Prim.Native.Nat.{ℕ, zero, suc, ◌-◌, ◌≤◌, ◌<◌}
use native.Mathlib.Omega.{arith}
use native.Mathlib.Decide.{dec_le}
use lib.Dec.{T}
use lib.ListN.{length, get_or}
use lib.Ieee.{Float, nan, le, eq}
use Rattle.gf.specs.Doubles.{key, of_key, least, most}
use Rattle.gf.proofs.KeyLaws.{key-of_key, of_key-fits, of_key-no-nan, of_key-mono, le→key, key→le, key→eq, le_trans, le-no-nan}
use Rattle.definitions.specs.declared.Knot.{Knot}
use Rattle.definitions.specs.Lists.{any, gather}
use Rattle.definitions.specs.Value.{spans, inverse, on_pair, greatest}
use Rattle.definitions.specs.Track.{Entry}
use Rattle.laws.proofs.list.Tests.{is_true, or_l, or_r}
use Rattle.laws.specs.list.Every.{Every}
use Rattle.laws.proofs.list.Every.{every_map}
use Rattle.laws.specs.list.Places.{Fits, Number}
use Rattle.laws.specs.track.Steps.{Level}
use Rattle.laws.proofs.cell.Keys.{none_passed}
use Rattle.laws.specs.cell.Neighbours.{IsLower}
use Rattle.laws.proofs.cell.Places.{keep-le-same}
use Rattle.window.specs.Inverses.{on_segment}
use Rattle.cell.specs.step.Lines.{place_on}
use Rattle.run.specs.Readings.{reading_at}
use Rattle.run.specs.Runs.{line_on, passed_by, passing_at, Passing, Spanned, inverse_key, InRunAt}
use Rattle.run.proofs.RunLaws.{segment-fits, passing-lower}
use Rattle.run.proofs.Runs.{span-number}
use Rattle.run.proofs.Readings.{entry-one, entry-self, place_inside}
use Rattle.run.proofs.Walking.{Reaches}

-- ---- a sample's inverse time is one of the segment's

any-behind : (p : Float → Bool) (a b : List Float) → T (any p b) → T (any p (a ++ b))
any-behind p [] b h = h
any-behind p (x ∷ a) b h = or_r (p x) (any p (a ++ b)) (any-behind p a b h)

any-time : (p : Float → Bool) (q : Knot × Knot) (cs : List Float) (i : ℕ) → i < length cs → Spanned cs q i → T (p (inverse q.0 q.1 (get_or cs i nan))) → T (any p (on_segment cs q))
unfolding on_segment
any-time p q [] i l s h = absurd (omega arith)
any-time p q (c ∷ cs) zero l s h =
    subst (λ (b : Bool). T (any p (cond b (inverse q.0 q.1 c ∷ []) [] ++ gather (λ (x : Float). on_pair x q) cs))) (sym (is_true (spans q.0.y q.1.y c) s))
    (or_l (p (inverse q.0 q.1 c)) (any p (gather (λ (x : Float). on_pair x q) cs)) h)
any-time p q (c ∷ cs) (suc i) l s h = any-behind p (on_pair c q) (gather (λ (x : Float). on_pair x q) cs) (any-time p q cs i (omega arith) s h)

-- ---- what is read

module _ {cs vs : List Float} {ms : List ℕ} {q : Knot × Knot} {floor : Float} {e : Entry} {k hi : ℕ} (R : Passing cs vs ms q floor e k hi) where
  floor-under : (j : ℕ) → k ≤ j → j ≤ hi → T (le floor (of_key j))
  floor-under j a b =
      le_trans floor (of_key k) (of_key j) R.ground.fitting (of_key-fits k) (of_key-fits j) R.under (of_key-mono k j R.keys.low a (omega (arith, R.keys.high)))

  -- no inverse time is passed: it stays
  pub stays : (a b : ℕ) → k ≤ a → b ≤ hi → Every (λ (x : Float). key x ≤ b → key x ≤ a) (on_segment cs q) → Level (passing_at cs vs ms q floor) a b
  unfolding passed_by
  stays a b p r h j x y =
      let l : least ≤ a = omega (arith, R.keys.low) in
      let g : j ≤ most = omega (arith, R.keys.high) in
      let C = none_passed a j (record { low = l; order = x; high = g }) (on_segment cs q) (segment-fits cs q)
      (every_map (λ (z : Float). key z ≤ b → key z ≤ a) (λ (z : Float). key z ≤ j → key z ≤ a) (λ z c w. c (omega arith)) (on_segment cs q) h) in
      ap (λ (s : List Float). reading_at cs vs ms (line_on q) (key (greatest floor s))) (sym (keep-le-same (of_key a) (of_key j) (of_key-fits a) (of_key-fits j) (of_key-mono a j l x g) (on_segment cs q) (segment-fits cs q) C))

  -- at an inverse time
  pub reached : (m i : ℕ) → k ≤ m → m ≤ hi → i < length cs → Spanned cs q i → inverse_key cs q i ≡ m → passing_at cs vs ms q floor m ≡ reading_at cs vs ms (line_on q) m
  reached m i p r l s w = ap (λ (o : ℕ). reading_at cs vs ms (line_on q) o) (passing-lower cs q floor R.ground m (floor-under m p r) x lower ∙ w)
    where
      x : Float
      x = inverse q.0 q.1 (get_or cs i nan)

      low : least ≤ m
      low = omega (arith, R.keys.low)

      high : m ≤ most
      high = omega (arith, R.keys.high)

      n : Number x
      n = span-number cs R.reads.ascending q R.segment i s

      t : Number (of_key m)
      t = (of_key-fits m, of_key-no-nan m low high)

      up : (y : Float) → Fits y → T (le y (of_key m)) → T (le y x)
      up y f h =
          let z = (le-no-nan y (of_key m) h).0 in
          let d = le→key y (of_key m) f t.0 z t.1 h in
          let c = key-of_key m low high in
          key→le y x f n.0 z n.1 (omega arith)

      lower : IsLower (floor ∷ on_segment cs q) (of_key m) x
      lower = record {
        fits = n.0;
        listed = or_r (eq floor x) (any (λ (y : Float). eq y x) (on_segment cs q)) (any-time (λ (y : Float). eq y x) q cs i l s (key→eq x x n.0 n.0 n.1 n.1 refl));
        upto = let c = key-of_key m low high in key→le x (of_key m) n.0 t.0 n.1 t.1 (omega arith);
        last = (up floor R.ground.fitting, every_map Fits (λ (y : Float). T (le y (of_key m)) → T (le y x)) up (on_segment cs q) (segment-fits cs q));
      }

  -- ---- the next one

  module _ {n at m i p : ℕ} (l : k ≤ at) (S : InRunAt cs q n at hi m i p) where
    pub passed_reads : passing_at cs vs ms q floor m ≡ reading_at cs vs ms (line_on q) m
    passed_reads = reached m i (omega (arith, S.from)) S.within S.inside S.between S.here

    pub passed-reaches : Reaches (passing_at cs vs ms q floor) at m
    passed-reaches = record {
      from = S.from;
      level = stays at (m - 1) l (omega (arith, S.within)) (every_map (λ (x : Float). key x < m → key x ≤ at) (λ (x : Float). key x ≤ m - 1 → key x ≤ at) before (on_segment cs q) S.clear);
      sure = entry-one R.reads (place_on cs (line_on q) (passed_key m)) (place_on cs (line_on q) (passed_key at)) (place_inside R.reads (line_on q) (passed_key m)) (place_inside R.reads (line_on q) (passed_key at));
      self = entry-self R.reads (place_on cs (line_on q) (passed_key at)) (place_inside R.reads (line_on q) (passed_key at));
    }
      where
        passed_key : ℕ → ℕ
        passed_key j = key (passed_by cs q floor (of_key j))

        before : (x : Float) → (key x < m → key x ≤ at) → key x ≤ m - 1 → key x ≤ at
        before x c w = elim (dec_le m 0) [
          | yes h ↦ omega (arith, S.from)
          | no h ↦ c (omega arith)
        ]
