-- The walk over an order list: the names before the i-th are passed, and those from it on answer for all. Assumes nothing.
use mathlib.Core.Path.{◌≡◌, sym, ap, ◌∙◌}
use mathlib.Core.Bool.{Bool, true, false, not, ◌||◌}
use mathlib.Core.List.{List, ◌∷◌, ◌++◌}
use mathlib.Core.Option.{Option, none, some}
use Prim.Native.Nat.{ℕ, ◌+◌, ◌≤◌, ◌<◌}
use native.Mathlib.Omega.{arith}
use lib.Dec.{T, ltb, lit<}
use lib.ListN.{length, get_or, drop, set, replicate, length-set, length-replicate}
use Rattle.definitions.specs.Lists.{any, gather}
use Rattle.definitions.specs.Samples.{closes}
use Rattle.laws.proofs.list.Tests.{or-false, not-false, passed}
use Rattle.dispatch.specs.SetOrder.{max_listed, too_long, names_from, list_faulty, order_number, mentioned, set_number, order_in_force}
use Rattle.dispatch.specs.NamedSets.{max_sets, Answering, first_qualifying}
use Rattle.set_order.specs.Answered.{lent_list, fit_in, fit_at}
use Rattle.set_order.proofs.Ends.{Walk, name, names-on, names-end, walk-on}
use Rattle.set_order.proofs.Order.{first-here, first-later, first-none}
use Rattle.set_order.proofs.Mentions.{to_come, none-met, met-before, met-now}

-- a list that can be taken
closed : (bytes ends : List ℕ) → order_number (some (lent_list bytes ends)) ≡ 0 → T (closes 0 ends (length bytes))
unfolding list_faulty
closed bytes ends e =
    let many = ltb max_listed (length ends) in
    let closing = closes 0 ends (length bytes) in
    let o = or-false (many || not closing) (any too_long (names_from 0 bytes ends)) (passed 23 _ 0 (lit< tt) e).0 in
    not-false closing (or-false many (not closing) o.0).1

module _ (names : List (List ℕ)) (starts declares bytes ends : List ℕ) where
  -- the first that qualifies
  abbrev first : Option Answering
  first = first_qualifying (fit_in starts declares) 0 (order_in_force (some (lent_list bytes ends)) names)

  -- the numbers that the names from the i-th on mention
  abbrev numbers : (begin i : ℕ) → List ℕ
  numbers begin i = gather (λ (x : List ℕ). mentioned (set_number x names)) (names_from begin bytes (drop i ends))

  pub record Passed (met : List Bool) (place begin i : ℕ) : Type 0 where
    pub walk : Walk bytes ends begin i
    pub room : length met ≡ max_sets
    pub counted : place ≤ i
    pub left : first ≡ first_qualifying (fit_in starts declares) place (to_come met (numbers begin i))

  pub none_passed : order_number (some (lent_list bytes ends)) ≡ 0 → Passed (replicate max_sets false) 0 0 0
  unfolding order_in_force
  none_passed e = record {
    walk = record { closed = closed bytes ends e };
    room = length-replicate max_sets false;
    counted = omega arith;
    left = ap (first_qualifying (fit_in starts declares) 0) (sym (none-met max_sets (numbers 0 0)));
  }

  -- ---- the i-th name

  module _ (met : List Bool) (place begin i : ℕ) (p : Passed met place begin i) (h : i < length ends) where
    abbrev here : List ℕ
    here = name bytes ends begin i

    abbrev rest : List ℕ
    rest = numbers (get_or ends i 0) (i + 1)

    numbers_on : (f : Option ℕ) → f ≡ set_number here names → numbers begin i ≡ mentioned f ++ rest
    numbers_on f e = ap (gather (λ (x : List ℕ). mentioned (set_number x names))) (names-on bytes ends begin i h) ∙ ap (λ (o : Option ℕ). mentioned o ++ rest) (sym e)

    left-on : (f : Option ℕ) → f ≡ set_number here names → first ≡ first_qualifying (fit_in starts declares) place (to_come met (mentioned f ++ rest))
    left-on f e = p.left ∙ ap (λ (l : List ℕ). first_qualifying (fit_in starts declares) place (to_come met l)) (numbers_on f e)

    -- no set has it
    pub unknown : none ≡ set_number here names → Passed met place (get_or ends i 0) (i + 1)
    unknown e = record { walk = walk-on bytes ends begin i p.walk h; room = p.room; counted = omega (arith, p.counted); left = left-on none e }

    module _ (k : ℕ) (e : some k ≡ set_number here names) where
      -- it was met before
      pub again : get_or met k false ≡ true → Passed met place (get_or ends i 0) (i + 1)
      again m = record {
        walk = walk-on bytes ends begin i p.walk h;
        room = p.room;
        counted = omega (arith, p.counted);
        left = left-on (some k) e ∙ ap (first_qualifying (fit_in starts declares) place) (met-before met k rest m);
      }

      module _ (m : get_or met k false ≡ false) (few : length starts ≤ max_sets) (long : length declares ≡ length starts) (g : k < length starts) where
        left-now : first ≡ first_qualifying (fit_in starts declares) place (k ∷ to_come (set met k true) rest)
        left-now = left-on (some k) e ∙ ap (first_qualifying (fit_in starts declares) place) (met-now met k rest m (omega (arith, p.room)))

        -- it is the first that qualifies
        pub answers : fit_at starts declares k ≡ true → some (record { place = place; number = k }) ≡ first
        answers q = sym (left-now ∙ first-here starts declares place k (to_come (set met k true) rest) long g q)

        -- it does not qualify, and has its place
        pub placed : fit_at starts declares k ≡ false → Passed (set met k true) (place + 1) (get_or ends i 0) (i + 1)
        placed q = record {
          walk = walk-on bytes ends begin i p.walk h;
          room = length-set met k true ∙ p.room;
          counted = omega (arith, p.counted);
          left = left-now ∙ first-later starts declares place k (to_come (set met k true) rest) long g q;
        }

  pub nobody : (met : List Bool) (place begin i : ℕ) → Passed met place begin i → length ends ≤ i → none ≡ first
  nobody met place begin i p h =
      sym (p.left ∙ ap (λ (l : List (List ℕ)). first_qualifying (fit_in starts declares) place (to_come met (gather (λ (x : List ℕ). mentioned (set_number x names)) l))) (names-end bytes ends begin i h) ∙ first-none (fit_in starts declares) place)
