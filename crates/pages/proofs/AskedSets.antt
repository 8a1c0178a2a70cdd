-- The sets of the plain dispatcher by the lists that they stand in: how many, each by its number, and the lists of their clips, their names and whether they qualify. Assumes nothing.
use Prim.Native.Nat.{ℕ, zero, suc, ◌+◌, ◌≤◌, ◌<◌}
use native.Mathlib.Omega.{arith}
use mathlib.Core.Path.{◌≡◌, refl, sym, ap, ap₂, ◌∙◌}
use mathlib.Core.Bool.{Bool, not, ◌&&◌}
use mathlib.Core.List.{List, ◌∷◌}
use mathlib.Core.Option.{some}
use lib.Dec.{eqb}
use lib.ListN.{length, get_or, get_elem?, take}
use lib.Seq.{drop-cons, length-take-le}
use Rattle.laws.specs.cell.Lent.{set_of, start}
use Rattle.laws.proofs.cell.Lent.{zip_length}
use Rattle.dispatch.specs.NamedSets.{names_of, fit_of, qualifies}
use Rattle.dispatch.specs.SetSamples.{clips_of}
use Rattle.standing.specs.Standing.{set_in}
use Rattle.set_names.specs.Pages.{names_at, names_in}
use Rattle.set_order.specs.Answered.{fit, fit_in}
use Rattle.pages.specs.Pages.{Pages, part, state_at, declares_at, named_at, set_count, sets_from, model, Made}

module _ (p : Pages) where
  long-from : (i n : ℕ) → length (sets_from p i n) ≡ n
  unfolding sets_from
  long-from i zero = refl
  long-from i (suc n) = ap suc (long-from (suc i) n)

  pub model-long : length (model p) ≡ set_count p
  model-long = long-from 0 (set_count p)

  set-from : (i n k m : ℕ) → k < n → i + k ≡ m → get_elem? (sets_from p i n) k ≡ some (named_at p m)
  unfolding sets_from
  set-from i zero k m h e = absurd (omega arith)
  set-from i (suc n) zero m h e =
      let d : i ≡ m = omega arith in
      ap (λ (j : ℕ). some (named_at p j)) d
  set-from i (suc n) (suc k) m h e = set-from (suc i) n k m (omega arith) (omega arith)

  pub set_at : (k : ℕ) → k < set_count p → get_elem? (model p) k ≡ some (named_at p k)
  set_at k h = set-from 0 (set_count p) k k h (omega arith)

  names-from : (i n : ℕ) → names_of (sets_from p i n) ≡ names_at p.bytes i n
  unfolding sets_from names_at
  names-from i zero = refl
  names-from i (suc n) = ap (λ (l : List (List ℕ)). (named_at p i).name ∷ l) (names-from (suc i) n)

  pub names-of : names_of (model p) ≡ names_in p.bytes (set_count p)
  names-of = names-from 0 (set_count p)

-- ---- lists of one number for each set

part-on : (a b n : ℕ) (l : List ℕ) → a < length l → suc a ≡ b → part a (suc n) l ≡ get_or l a 0 ∷ part b n l
part-on a b n l h e = ap (take (suc n)) (drop-cons l a 0 h) ∙ ap (λ (m : ℕ). get_or l a 0 ∷ part m n l) e

module _ (p : Pages) (M : Made p) where
  clips-from : (i n : ℕ) → i + n ≤ 16 → clips_of (sets_from p i n) ≡ part (1 + i) n p.counts
  unfolding sets_from state_at set_of
  clips-from i zero h = refl
  clips-from i (suc n) h = ap (λ (l : List ℕ). get_or p.counts (1 + i) 0 ∷ l) (clips-from (suc i) n (omega arith)) ∙ sym (part-on (1 + i) (1 + suc i) n p.counts (omega (arith, M.long.sizes.of-counts)) (omega arith))

  pub clips-of : clips_of (model p) ≡ part 1 (set_count p) p.counts
  clips-of = clips-from 0 (set_count p) (omega (arith, M.names.few))

  -- as many starts as its count says
  pub start-count : (i : ℕ) → i < set_count p → length (set_in (state_at p i).set).active ≡ get_or p.counts (17 + i) 0
  unfolding state_at set_of
  start-count i h =
      let W = (M.each i h).whole in
      let c = get_or p.counts (17 + i) 0 in
      let a : length (take c (state_at p i).set.starts) ≡ c = length-take-le c (state_at p i).set.starts (omega (arith, W.in-starts.long, W.in-starts.few)) in
      let b : length (take c (state_at p i).set.numbers) ≡ c = length-take-le c (state_at p i).set.numbers (omega (arith, W.in-numbers.long, W.in-numbers.few)) in
      zip_length start (take c (state_at p i).set.starts) (take c (state_at p i).set.numbers) (a ∙ sym b) ∙ a

  fit-here : (i : ℕ) → i < set_count p → qualifies (named_at p i) ≡ fit (get_or p.counts (17 + i) 0) (get_or p.bytes (4128 + i) 0)
  fit-here i h = ap (λ (n : ℕ). declares_at p i && not (eqb n 0)) (start-count i h)

  fit-from : (i n : ℕ) → i + n ≤ set_count p → fit_of (sets_from p i n) ≡ fit_in (part (17 + i) n p.counts) (part (4128 + i) n p.bytes)
  unfolding sets_from
  fit-from i zero h = refl
  fit-from i (suc n) h =
      ap₂ (λ (b : Bool) (l : List Bool). b ∷ l) (fit-here i (omega arith)) (fit-from (suc i) n (omega arith))
      ∙ sym (ap₂ (λ (a b : List ℕ). fit_in a b) (part-on (17 + i) (17 + suc i) n p.counts (omega (arith, M.names.few, M.long.sizes.of-counts)) (omega arith)) (part-on (4128 + i) (4128 + suc i) n p.bytes (omega (arith, M.names.few, M.long.sizes.of-bytes)) (omega arith)))

  pub fit_of-is : fit_of (model p) ≡ fit_in (part 17 (set_count p) p.counts) (part 4128 (set_count p) p.bytes)
  fit_of-is = fit-from 0 (set_count p) (omega arith)
