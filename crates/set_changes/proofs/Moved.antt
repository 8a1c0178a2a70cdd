-- A retiming under a name: the set of that name is moved, and no other; or nothing is. Assumes nothing.
use Prim.Native.Nat.{ℕ, zero, suc, ◌+◌, ◌*◌, ◌≤◌, ◌<◌}
use native.Mathlib.Omega.{arith}
use native.Mathlib.Decide.{dec_le}
use mathlib.Core.Path.{◌≡◌, refl, sym, ap, ap₂, ◌∙◌, subst}
use mathlib.Core.Bool.{Bool, true, false, cond}
use mathlib.Core.List.{List, [], ◌∷◌}
use mathlib.Core.Option.{Option, none, some}
use lib.ListN.{length, take, drop}
use lib.Seq.{take-take}
use lib.Ieee.{Float}
use Rattle.definitions.specs.declared.LayerOffset.{LayerOffset}
use Rattle.definitions.specs.ClipSet as definitions
use Rattle.definitions.specs.ClipSet.{standing}
use Rattle.definitions.specs.Retime.{moved_number, retime_number, retime_stage_times}
use Rattle.definitions.specs.Calls.{step}
use Rattle.dispatch.specs.SetOrder.{max_name, same_name, number_from, set_number, by_name}
use Rattle.dispatch.specs.NamedSets.{NamedSet, max_sets, names_of, changed, change_named}
use Rattle.dispatch.specs.Dispatch.{moved_at, found, named_retime_number}
use Rattle.dispatch.specs.DispatchCalls.{dispatch_step}
use Rattle.standing.specs.Standing.{set_in}
use Rattle.resolver.specs.declared.Resolver.{Resolver}
use Rattle.resolver.specs.declared.Shape.{Shape}
use Rattle.std.specs.Prelude.{Result, Ok, Err}
use Rattle.definitions.specs.declared.refusal.Refusal.{Refusal}
use Rattle.definitions.specs.Refusals.{number_of, number_in}
use Rattle.definitions.proofs.Refused.{not-zero}
use Rattle.resolver.specs.State.{left}
use Rattle.resolver.specs.State as resolver
use Rattle.set_names.specs.Pages.{name_in, names_in, names_at}
use Rattle.set_names.proofs.InPages.{names-kept}
use Rattle.pages.specs.Pages.{Pages, pages, part, over, is_set, shape_in, page_state, state_at, declares_at, named_at, set_count, sets_from, model, Made}
use Rattle.pages.specs.Placing.{ShapeStored, Replaced, MovedAt}
use Rattle.set_changes.specs.Promises.{RetimesAt, Retimes}
use Rattle.pages.proofs.Parts.{over-same}
use Rattle.pages.proofs.OnePage.{replaced}
use Rattle.set_changes.proofs.Extended.{stands-as, made-long, named_by, sets_same}
use Rattle.pages.proofs.AskedSets.{model-long, names-of, set_at}
use Rattle.set_changes.proofs.Taken.{accepted-refused, accepted-granted}

-- ---- the set on one page

pub made-page : (p : Pages) → Made p → (i : ℕ) → i < set_count p → (h : Shape) → h ≡ shape_in p.defaults p.counts p.bytes i → resolver.Made (page_state h i p.starts p.numbers p.xs p.ys p.blocks)
unfolding state_at
made-page p M i b h e = subst (λ (x : Shape). resolver.Made (page_state x i p.starts p.numbers p.xs p.ys p.blocks)) (sym e) (M.each i b)

module _ (p : Pages) (M : Made p) (i : ℕ) (below : i < set_count p) (o : LayerOffset) (r : Result Shape Refusal) (starts : List Float) (numbers : List ℕ) (xs ys blocks : List Float)
    (G : MovedAt i (shape_in p.defaults p.counts p.bytes i) o p.starts p.numbers p.xs p.ys p.blocks r starts numbers xs ys blocks) where
  few : i < max_sets
  few = omega (arith, M.names.few)

  number_is : number_in r ≡ moved_number (set_in (state_at p i).set) o
  unfolding state_at retime_number
  number_is = G.retimes.number

  abbrev before : Shape
  before = shape_in p.defaults p.counts p.bytes i

  -- ---- refused

  module _ (h : number_in r ≡ 0 → ⊥) where
    kept : G.own ≡ state_at p i
    unfolding state_at
    kept = G.retimes.kept h

    nothing_written : pages starts numbers xs ys blocks p.defaults p.counts p.bytes ≡ p
    unfolding state_at
    nothing_written = λ k. pages (a k) (b k) (c k) (d k) (e k) p.defaults p.counts p.bytes
      where
        a : starts ≡ p.starts
        a = G.starts-after ∙ ap (λ (x : Resolver). over (i * 256) x.set.starts p.starts) kept ∙ over-same (i * 256) 256 p.starts (omega (arith, few, M.long.of-starts))

        b : numbers ≡ p.numbers
        b = G.numbers_after ∙ ap (λ (x : Resolver). over (i * 256) x.set.numbers p.numbers) kept ∙ over-same (i * 256) 256 p.numbers (omega (arith, few, M.long.of-numbers))

        c : xs ≡ p.xs
        c = G.xs-after ∙ ap (λ (x : Resolver). over (i * 512) x.set.xs p.xs) kept ∙ over-same (i * 512) 512 p.xs (omega (arith, few, M.long.of-xs))

        d : ys ≡ p.ys
        d = G.ys-after ∙ ap (λ (x : Resolver). over (i * 512) x.set.ys p.ys) kept ∙ over-same (i * 512) 512 p.ys (omega (arith, few, M.long.of-ys))

        e : blocks ≡ p.blocks
        e = G.blocks-after ∙ ap (λ (x : Resolver). over (i * 256) x.set.blocks p.blocks) kept ∙ over-same (i * 256) 256 p.blocks (omega (arith, few, M.long.of_blocks))

    nothing-moved : RetimesAt p i o (number_in r) (pages starts numbers xs ys blocks p.defaults p.counts p.bytes)
    nothing-moved = record { is = number_is; kept = λ z. nothing_written; moved = λ z. absurd (h z) }

  -- ---- moved

  module _ (z : number_in r ≡ 0) (defaults : List Float) (counts bytes : List ℕ) (W : ShapeStored (left before r) i p.defaults p.counts p.bytes defaults counts bytes) where
    stands : resolver.model G.own ≡ standing (retime_stage_times o (set_in (state_at p i).set))
    unfolding state_at step retime_number
    stands = G.retimes.after ∙ sym (accepted-granted (moved_number (set_in (state_at p i).set) o) (standing (set_in (state_at p i).set)) (standing (retime_stage_times o (set_in (state_at p i).set))) (sym number_is ∙ z))

    flag : (left before r).stands ≡ true
    flag = sym (ap (λ (x : Resolver). x.stands) G.is) ∙ (stands-as G.own (retime_stage_times o (set_in (state_at p i).set)) stands).0

    same : pages starts numbers xs ys blocks defaults counts bytes
        ≡ pages (over (i * 256) G.own.set.starts p.starts) (over (i * 256) G.own.set.numbers p.numbers) (over (i * 512) G.own.set.xs p.xs) (over (i * 512) G.own.set.ys p.ys) (over (i * 256) G.own.set.blocks p.blocks) defaults counts bytes
    same = λ k. pages (G.starts-after k) (G.numbers_after k) (G.xs-after k) (G.ys-after k) (G.blocks-after k) defaults counts bytes

    written : Replaced p i G.own (pages starts numbers xs ys blocks defaults counts bytes)
    written =
        subst (λ (q : Pages). Replaced p i G.own q) (sym same)
        (subst (λ (e : Resolver). Replaced p i e (pages (over (i * 256) G.own.set.starts p.starts) (over (i * 256) G.own.set.numbers p.numbers) (over (i * 512) G.own.set.xs p.xs) (over (i * 512) G.own.set.ys p.ys) (over (i * 256) G.own.set.blocks p.blocks) defaults counts bytes)) (sym G.is)
        (replaced p M.long M.names i few (left before r) flag G.own.set.starts G.own.set.numbers G.own.set.xs G.own.set.ys G.own.set.blocks (made-long G.own G.retimes.made) defaults counts bytes W))

    is-moved : RetimesAt p i o (number_in r) (pages starts numbers xs ys blocks defaults counts bytes)
    is-moved = record { is = number_is; kept = λ h. absurd (h z); moved = λ e. (G.own, stands, G.retimes.made, written) }

module _ (p : Pages) (M : Made p) (i : ℕ) (below : i < set_count p) (o : LayerOffset) (starts : List Float) (numbers : List ℕ) (xs ys blocks : List Float) where
  pub refused-at : (e : Refusal) → MovedAt i (shape_in p.defaults p.counts p.bytes i) o p.starts p.numbers p.xs p.ys p.blocks (Err e) starts numbers xs ys blocks
      → RetimesAt p i o (number_of e) (pages starts numbers xs ys blocks p.defaults p.counts p.bytes)
  refused-at e G = nothing-moved p M i below o (Err e) starts numbers xs ys blocks G (not-zero e)

  pub moved_at-is : (h : Shape) → MovedAt i (shape_in p.defaults p.counts p.bytes i) o p.starts p.numbers p.xs p.ys p.blocks (Ok h) starts numbers xs ys blocks
      → (defaults : List Float) (counts bytes : List ℕ) → ShapeStored h i p.defaults p.counts p.bytes defaults counts bytes → RetimesAt p i o 0 (pages starts numbers xs ys blocks defaults counts bytes)
  moved_at-is h G defaults counts bytes W = is-moved p M i below o (Ok h) starts numbers xs ys blocks G refl defaults counts bytes W

-- ---- the set of a name among the others

same_number : (j k : ℕ) → some j ≡ some k → j ≡ k
same_number j k e = cc

no_number : {A : Type 0} (k : ℕ) → none ≡ some k → A
no_number k e = other (cc)
  where
    other : {A : Type 0} → ◌≡◌ {A = ℕ} 0 1 → A
    other e = absurd (omega arith)

-- a number that is found is not below where the search begins
found_from : (n : ℕ) (name : List ℕ) (names : List (List ℕ)) (i : ℕ) → number_from n name names ≡ some i → n ≤ i
found_from n name [] i e = no_number i e
found_from n name (x ∷ names) i e = go (same_name x name) e (found_from (suc n) name names i)
  where
    go : (b : Bool) → cond b (some n) (number_from (suc n) name names) ≡ some i → (number_from (suc n) name names ≡ some i → suc n ≤ i) → n ≤ i
    go true e f = omega (arith, same_number n i e)
    go false e f = omega (arith, f e)

found_below : (n : ℕ) (name : List ℕ) (names : List (List ℕ)) (i : ℕ) → number_from n name names ≡ some i → i < n + length names
found_below n name [] i e = no_number i e
found_below n name (x ∷ names) i e = go (same_name x name) e (found_below (suc n) name names i)
  where
    go : (b : Bool) → cond b (some n) (number_from (suc n) name names) ≡ some i → (number_from (suc n) name names ≡ some i → i < suc n + length names) → i < n + suc (length names)
    go true e f = omega (arith, same_number n i e)
    go false e f = omega (arith, f e)

module _ (p q : Pages) (name : List ℕ) (f : definitions.ClipSet → definitions.ClipSet) (i : ℕ)
    (own : named_at q i ≡ changed f (named_at p i)) (others : (j : ℕ) → j < set_count p → (j ≡ i → ⊥) → named_at q j ≡ named_at p j) where
  -- m sets from the k-th on, the changed one among them
  changes-from : (k m : ℕ) → k + m ≤ set_count p → number_from k name (names_at p.bytes k m) ≡ some i → sets_from q k m ≡ change_named name f (sets_from p k m)
  unfolding sets_from names_at change_named
  changes-from k zero h e = no_number i e
  changes-from k (suc m) h e = go (same_name (name_in p.bytes k) name) e (changes-from (suc k) m (omega arith))
    where
      go : (b : Bool) → cond b (some k) (number_from (suc k) name (names_at p.bytes (suc k) m)) ≡ some i
          → (number_from (suc k) name (names_at p.bytes (suc k) m) ≡ some i → sets_from q (suc k) m ≡ change_named name f (sets_from p (suc k) m))
          → named_at q k ∷ sets_from q (suc k) m ≡ cond b (changed f (named_at p k) ∷ sets_from p (suc k) m) (named_at p k ∷ change_named name f (sets_from p (suc k) m))
      go true e g =
          let d = same_number k i e in
          ap₂ (λ (x : NamedSet) (l : List NamedSet). x ∷ l) (ap (named_at q) d ∙ own ∙ ap (λ (j : ℕ). changed f (named_at p j)) (sym d)) (sets_same p q (suc k) m (λ j a b. others j (omega arith) (λ z. omega (arith, d))))
      go false e g =
          ap₂ (λ (x : NamedSet) (l : List NamedSet). x ∷ l) (others k (omega arith) (λ z. omega (arith, found_from (suc k) name (names_at p.bytes (suc k) m) i e))) (g e)

-- ---- the retiming

module _ (p : Pages) (M : Made p) (name : List ℕ) (o : LayerOffset) where
  module _ (i : ℕ) (e : some i ≡ set_number name (names_in p.bytes (set_count p))) where
    searched : number_from 0 name (names_in p.bytes (set_count p)) ≡ some i
    unfolding set_number
    searched = sym e

    names-many : length (names_in p.bytes (set_count p)) ≡ set_count p
    names-many = sym (ap length (names-of p)) ∙ mapped (model p) ∙ model-long p
      where
        mapped : (l : List NamedSet) → length (names_of l) ≡ length l
        mapped [] = refl
        mapped (x ∷ l) = ap suc (mapped l)

    pub below : i < set_count p
    below = omega (arith, found_below 0 name (names_in p.bytes (set_count p)) i searched, names-many)

    number-of : named_retime_number (model p) name o ≡ moved_number (set_in (state_at p i).set) o
    number-of =
        ap (λ (l : List (List ℕ)). moved_at (found (model p) (set_number name l)) o) (names-of p)
        ∙ ap (λ (k : Option ℕ). moved_at (found (model p) k) o) (sym e)
        ∙ ap (λ (x : Option NamedSet). moved_at x o) (set_at p i below)

    module _ (q : Pages) (number : ℕ) (R : RetimesAt p i o number q) where
      is_number : number ≡ named_retime_number (model p) name o
      is_number = R.is ∙ sym number-of

      module _ (z : number ≡ 0) where
        abbrev own : Resolver
        own = (R.moved z).0

        W : Replaced p i own q
        W = (R.moved z).3

        set_is : set_in (state_at q i).set ≡ retime_stage_times o (set_in (state_at p i).set)
        set_is = ap (λ (x : Resolver). set_in x.set) W.own ∙ (stands-as own (retime_stage_times o (set_in (state_at p i).set)) (R.moved z).1).1

        declares-same : (j : ℕ) → j < set_count p → declares_at q j ≡ declares_at p j
        declares-same j h = ap is_set (W.declared j (omega (arith, M.names.few)))

        own-set : named_at q i ≡ changed (retime_stage_times o) (named_at p i)
        own-set = named_by (W.names i below) (declares-same i below) set_is

        other-set : (j : ℕ) → j < set_count p → (j ≡ i → ⊥) → named_at q j ≡ named_at p j
        other-set j h n = named_by (W.names j h) (declares-same j h) (ap (λ (x : Resolver). set_in x.set) (W.others j (omega (arith, M.names.few)) n))

        model-moved : model q ≡ change_named name (retime_stage_times o) (model p)
        model-moved = ap (sets_from q 0) W.count ∙ changes-from p q name (retime_stage_times o) i own-set other-set 0 (set_count p) (omega arith) searched

        each : (j : ℕ) → j < set_count p → resolver.Made (state_at q j)
        each j h = elim (dec_le (suc j) i) [
          | yes k ↦ subst resolver.Made (sym (W.others j (omega (arith, M.names.few)) (λ d. omega arith))) (M.each j h)
          | no k ↦ elim (dec_le (suc i) j) [
            | yes m ↦ subst resolver.Made (sym (W.others j (omega (arith, M.names.few)) (λ d. omega arith))) (M.each j h)
            | no m ↦ subst resolver.Made (sym (ap (state_at q) (here k m) ∙ W.own)) (R.moved z).2
          ]
        ]
          where
            here : (suc j ≤ i → ⊥) → (suc i ≤ j → ⊥) → j ≡ i
            here k m = omega arith

        names_same : names_in q.bytes (set_count p) ≡ names_in p.bytes (set_count p)
        names_same = names-kept q.bytes p.bytes (set_count p) W.names

        sorted-same : part 65 (set_count p) q.counts ≡ by_name (names_in q.bytes (set_count p)) (set_count p)
        sorted-same =
            sym (take_part q.counts) ∙ ap (take (set_count p)) W.order ∙ take_part p.counts ∙ M.sorted ∙ ap (λ (l : List (List ℕ)). by_name l (set_count p)) (sym names_same)
          where
            take_part : (l : List ℕ) → take (set_count p) (part 65 16 l) ≡ part 65 (set_count p) l
            take_part l = take-take (set_count p) 16 (drop 65 l) M.names.few

        made-moved : Made q
        made-moved = record {
          long = W.long;
          names = record {
            counted = omega (arith, W.long.sizes.of-counts);
            few = omega (arith, W.count, M.names.few);
            paged = record {
              room = omega (arith, W.count, M.names.few, W.long.sizes.of-bytes);
              short = λ j h. subst (λ (n : ℕ). n ≤ max_name) (sym (W.lengths j (omega (arith, W.count)))) (M.names.paged.short j (omega (arith, W.count)));
            };
          };
          each = λ j h. each j (omega (arith, W.count));
          sorted = subst (λ (n : ℕ). part 65 n q.counts ≡ by_name (names_in q.bytes n) n) (sym W.count) sorted-same;
        }

      pub retimes : Retimes p name o number q
      unfolding dispatch_step
      retimes = go number refl
        where
          go : (n : ℕ) → number ≡ n → Retimes p name o number q
          go zero z = record {
            is = is_number;
            kept = R.kept;
            stands = model-moved z ∙ accepted-granted (named_retime_number (model p) name o) (model p) (change_named name (retime_stage_times o) (model p)) (sym is_number ∙ z);
            made = made-moved z;
          }
          go (suc n) z =
              let h : number ≡ 0 → ⊥ = λ d. omega (arith, z, d) in
              record {
                is = is_number;
                kept = R.kept;
                stands = ap model (R.kept h) ∙ accepted-refused (named_retime_number (model p) name o) (model p) (change_named name (retime_stage_times o) (model p)) (λ d. h (is_number ∙ d));
                made = subst Made (sym (R.kept h)) M;
              }

  pub retimes-20 : none ≡ set_number name (names_in p.bytes (set_count p)) → Retimes p name o 20 p
  unfolding dispatch_step
  retimes-20 e =
      let k : 20 ≡ named_retime_number (model p) name o = sym (ap (λ (l : List (List ℕ)). moved_at (found (model p) (set_number name l)) o) (names-of p) ∙ ap (λ (k : Option ℕ). moved_at (found (model p) k) o) (sym e)) in
      record {
        is = k;
        kept = λ h. refl;
        stands = accepted-refused (named_retime_number (model p) name o) (model p) (change_named name (retime_stage_times o) (model p)) (λ d. absurd (omega (arith, k, d)));
        made = M;
      }
