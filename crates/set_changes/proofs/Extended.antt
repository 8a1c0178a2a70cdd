-- One set more behind the others: they stay, and the pages hold the plain dispatcher with the set. Assumes nothing.
use Prim.Native.Nat.{ℕ, zero, suc, ◌+◌, ◌*◌, ◌≤◌, ◌<◌}
use native.Mathlib.Omega.{arith}
use native.Mathlib.Decide.{dec_le}
use mathlib.Core.Path.{◌≡◌, refl, sym, ap, ap₂, ◌∙◌, subst}
use mathlib.Core.Bool.{Bool, true, false, cond}
use mathlib.Core.List.{List, [], ◌∷◌, ◌++◌}
use lib.ListN.{length, get_or, take, set, length-set}
use lib.Seq.{get_or-set_same, get_or-set_other, take-take}
use lib.Ieee.{Float}
use Rattle.definitions.specs.ClipSet as definitions
use Rattle.definitions.specs.ClipSet.{no_set, standing}
use Rattle.definitions.specs.Calls.{step}
use Rattle.dispatch.specs.SetOrder.{max_name, insert_number, by_name}
use Rattle.dispatch.specs.NamedSets.{NamedSet, max_sets, with_set}
use Rattle.clip.specs.declared.ClipSet as clip
use Rattle.clip.specs.Holding.{clip_set_of}
use Rattle.track.proofs.Bakes.{same-standing}
use Rattle.standing.specs.Standing.{set_in, Lengths}
use Rattle.resolver.specs.declared.Resolver.{Resolver}
use Rattle.resolver.specs.declared.Shape.{Shape}
use Rattle.resolver.specs.State as resolver
use Rattle.resolver.specs.State.{lent_state}
use Rattle.resolver.specs.Promises as desk
use Rattle.set_names.specs.Pages.{name_in, names_in}
use Rattle.set_names.proofs.InPages.{names-kept}
use Rattle.set_names.proofs.NameOrder.{by_name-suc}
use Rattle.pages.specs.Pages.{Pages, pages, part, over, is_set, shape_in, state_at, declares_at, named_at, set_count, sets_from, model, Made}
use Rattle.pages.specs.Placing.{ShapeStored, name_stored, Replaced, PutAt, Entered}
use Rattle.set_changes.specs.Promises.{Extends}
use Rattle.pages.proofs.Parts.{over-long, over-at, over-front, set_before}
use Rattle.pages.proofs.OnePage.{bit-set, shape_same, replaced}
use Rattle.pages.proofs.NamePage.{stored-long, own-length, own_name, own-declares, other_length, other_name, other_byte}

other : {A : Type 0} → ◌≡◌ {A = ℕ} 0 1 → A
other e = absurd (omega arith)

-- ---- a desk on which a set stands

stands-where : (b : Bool) (s x : definitions.ClipSet) → cond b (standing s) no_set ≡ standing x → b ≡ true
stands-where true s x e = refl
stands-where false s x e = other (cc)

-- the flag and the set, from what stands
pub stands-as : (d : Resolver) (x : definitions.ClipSet) → resolver.model d ≡ standing x → (d.stands ≡ true) × (set_in d.set ≡ x)
stands-as d x e =
    let b = stands-where d.stands (set_in d.set) x e in
    (b, same-standing (set_in d.set) x (sym (ap (λ (y : Bool). cond y (standing (set_in d.set)) no_set) b) ∙ e))

-- the lists of a made desk have their lengths
pub made-long : (d : Resolver) → resolver.Made d → Lengths d.set.starts d.set.numbers d.set.xs d.set.ys d.set.blocks
made-long d m = record {
  of-starts = m.whole.in-starts.long;
  of-numbers = m.whole.in-numbers.long;
  of-xs = m.whole.in-xs.long;
  of-ys = m.whole.in_ys.long;
  of_blocks = m.whole.in_blocks.long;
}

-- ---- the list of sets

-- n sets that are the same
pub sets_same : (p q : Pages) (i n : ℕ) → ((j : ℕ) → i ≤ j → j < i + n → named_at q j ≡ named_at p j) → sets_from q i n ≡ sets_from p i n
unfolding sets_from
sets_same p q i zero same = refl
sets_same p q i (suc n) same = ap₂ (λ (x : NamedSet) (l : List NamedSet). x ∷ l) (same i (omega arith) (omega arith)) (sets_same p q (suc i) n (λ j h k. same j (omega arith) (omega arith)))

-- one more behind n that stay
sets_more : (p q : Pages) (i n : ℕ) → ((j : ℕ) → i ≤ j → j < i + n → named_at q j ≡ named_at p j) → sets_from q i (suc n) ≡ sets_from p i n ++ (named_at q (i + n) ∷ [])
unfolding sets_from
sets_more p q i zero same =
    let e : i ≡ i + 0 = omega arith in
    ap (λ (m : ℕ). named_at q m ∷ []) e
sets_more p q i (suc n) same =
    let e : suc i + n ≡ i + suc n = omega arith in
    ap₂ (λ (x : NamedSet) (l : List NamedSet). x ∷ l) (same i (omega arith) (omega arith))
    (sets_more p q (suc i) n (λ j h k. same j (omega arith) (omega arith)) ∙ ap (λ (m : ℕ). sets_from p (suc i) n ++ (named_at q m ∷ [])) e)

abbrev pub named_set : List ℕ → Bool → definitions.ClipSet → NamedSet
named_set name declares set = record { name = name; declares = declares; set = set }

-- a named set by its parts
pub named_by : {name name' : List ℕ} {declares declares' : Bool} {set set' : definitions.ClipSet} → name ≡ name' → declares ≡ declares' → set ≡ set'
    → named_set name declares set ≡ named_set name' declares' set'
named_by a b c = λ i. record { name = a i; declares = b i; set = c i }

-- ---- the set is written

module _ (p : Pages) (M : Made p) (n : ℕ) (here : n ≡ set_count p) (few : n < max_sets) (name : List ℕ) (short : length name ≤ max_name) (declares : Bool) (s : clip.ClipSet)
    (d : Resolver) (h : Shape) (starts : List Float) (numbers : List ℕ) (xs ys blocks : List Float) (I : desk.Installs d s (lent_state h starts numbers xs ys blocks))
    (defaults : List Float) (counts bytes : List ℕ) (W : ShapeStored h n p.defaults p.counts p.bytes defaults counts bytes)
    (order : List ℕ) (ordered : length order ≡ 16) (inserted : take (suc n) order ≡ insert_number (names_in (name_stored name declares n bytes) (suc n)) n (take n (part 65 16 counts))) where
  abbrev e : Resolver
  e = lent_state h starts numbers xs ys blocks

  stood : (h.stands ≡ true) × (set_in e.set ≡ clip_set_of s)
  unfolding step
  stood = stands-as e (clip_set_of s) I.after

  -- the pages once the set is written, and once its name, its place in the order and the number of sets are
  abbrev q : Pages
  q = pages (over (n * 256) starts p.starts) (over (n * 256) numbers p.numbers) (over (n * 512) xs p.xs) (over (n * 512) ys p.ys) (over (n * 256) blocks p.blocks) defaults counts bytes

  R : Replaced p n e q
  R = replaced p M.long M.names n few h stood.0 starts numbers xs ys blocks (made-long e I.made) defaults counts bytes W

  abbrev named : List ℕ
  named = name_stored name declares n bytes

  abbrev pub counted : List ℕ
  counted = set (over 65 order counts) 0 (n + 1)

  abbrev pub extended : Pages
  extended = pages q.starts q.numbers q.xs q.ys q.blocks defaults counted named

  bytes-long : length bytes ≡ 4144
  bytes-long = R.long.sizes.of-bytes

  counts-long : length counts ≡ 81
  counts-long = R.long.sizes.of-counts

  over-counts : length (over 65 order counts) ≡ 81
  over-counts = over-long 65 order counts (omega (arith, counts-long)) (omega (arith, counts-long, ordered)) ∙ counts-long

  -- ---- what stays

  same_count : (k : ℕ) → 0 < k → k < 65 → get_or counted k 0 ≡ get_or counts k 0
  same_count k a b = get_or-set_other (over 65 order counts) 0 k (n + 1) 0 (λ q. omega arith) ∙ over-at 65 order counts (omega (arith, counts-long)) k 0 b

  same_byte : (k : ℕ) → 4096 ≤ k → (k ≡ 4128 + n → ⊥) → get_or named k 0 ≡ get_or bytes k 0
  same_byte = other_byte bytes name declares n few bytes-long short

  same-state : (j : ℕ) → j < max_sets → state_at extended j ≡ state_at q j
  unfolding state_at
  same-state j g = λ k. lent_state (shape k) (part (j * 256) 256 q.starts) (part (j * 256) 256 q.numbers) (part (j * 512) 512 q.xs) (part (j * 512) 512 q.ys) (part (j * 256) 256 q.blocks)
    where
      shape : shape_in defaults counted named j ≡ shape_in defaults counts bytes j
      shape =
          shape_same defaults defaults counts bytes counted named j refl
          (same_count (1 + j) (omega arith) (omega arith))
          (same_count (17 + j) (omega arith) (omega arith))
          (same_count (33 + j) (omega arith) (omega arith))
          (same_count (49 + j) (omega arith) (omega arith))
          (same_byte (4096 + j) (omega arith) (λ q. omega arith))
          (same_byte (4112 + j) (omega arith) (λ q. omega arith))

  old-state : (j : ℕ) → j < n → state_at extended j ≡ state_at p j
  old-state j g = same-state j (omega arith) ∙ R.others j (omega arith) (λ z. omega arith)

  new-state : state_at extended n ≡ e
  new-state = same-state n few ∙ R.own

  short-at : (j : ℕ) → j < n → get_or p.bytes (j * 256) 0 ≤ max_name
  short-at j g = M.names.paged.short j (omega arith)

  old-length : (j : ℕ) → j < n → get_or named (j * 256) 0 ≡ get_or p.bytes (j * 256) 0
  old-length j g = other_length bytes name declares n few bytes-long short j g ∙ R.lengths j (omega arith)

  old-name : (j : ℕ) → j < n → name_in named j ≡ name_in p.bytes j
  old-name j g =
      let b : get_or bytes (j * 256) 0 ≤ max_name = omega (arith, R.lengths j (omega arith), short-at j g) in
      other_name bytes name declares n few bytes-long short j g b ∙ R.names j (omega arith)

  old-declares : (j : ℕ) → j < n → declares_at extended j ≡ declares_at p j
  old-declares j g = ap is_set (same_byte (4128 + j) (omega arith) (λ z. omega arith) ∙ R.declared j (omega arith))

  old-set : (j : ℕ) → j < n → named_at extended j ≡ named_at p j
  old-set j g = named_by (old-name j g) (old-declares j g) (ap (λ (x : Resolver). set_in x.set) (old-state j g))

  -- ---- what is new

  new-set : named_at extended n ≡ named_set name declares (clip_set_of s)
  new-set =
      named_by (own_name bytes name declares n few bytes-long short)
      (ap is_set (own-declares bytes name declares n few bytes-long short) ∙ bit-set declares)
      (ap (λ (x : Resolver). set_in x.set) new-state ∙ stood.1)

  one_more : set_count extended ≡ suc n
  one_more =
      let z : n + 1 ≡ suc n = omega arith in
      get_or-set_same (over 65 order counts) 0 (n + 1) 0 (omega (arith, over-counts)) ∙ z

  model-more : model extended ≡ with_set (model p) name declares (clip_set_of s)
  unfolding with_set
  model-more =
      let z : 0 + n ≡ n = omega arith in
      ap (sets_from extended 0) one_more
      ∙ sets_more p extended 0 n (λ j a b. old-set j (omega arith))
      ∙ ap (λ (m : ℕ). sets_from p 0 n ++ (named_at extended m ∷ [])) z
      ∙ ap₂ (λ (m : ℕ) (x : NamedSet). sets_from p 0 m ++ (x ∷ [])) here new-set

  -- ---- the order

  sorted_before : take n (part 65 16 counts) ≡ by_name (names_in named n) n
  sorted_before =
      ap (take n) R.order
      ∙ take-take n 16 _ (omega arith)
      ∙ ap (λ (m : ℕ). part 65 m p.counts) here
      ∙ M.sorted
      ∙ ap (λ (m : ℕ). by_name (names_in p.bytes m) m) (sym here)
      ∙ ap (λ (l : List (List ℕ)). by_name l n) (sym (names-kept named p.bytes n old-name))

  sorted_after : part 65 (suc n) counted ≡ by_name (names_in named (suc n)) (suc n)
  sorted_after =
      set_before 65 (suc n) (over 65 order counts) 0 (n + 1) (omega arith)
      ∙ over-front 65 order counts (omega (arith, counts-long)) (suc n) (omega (arith, ordered))
      ∙ inserted
      ∙ ap (insert_number (names_in named (suc n)) n) sorted_before
      ∙ by_name-suc named n

  -- ---- all together

  each-made : (j : ℕ) → j < suc n → resolver.Made (state_at extended j)
  each-made j g = elim (dec_le (suc j) n) [
    | yes k ↦ subst resolver.Made (sym (old-state j k)) (M.each j (omega arith))
    | no k ↦ subst resolver.Made (sym (ap (state_at extended) (last k) ∙ new-state)) I.made
  ]
    where
      last : (suc j ≤ n → ⊥) → j ≡ n
      last k = omega arith

  each-short : (j : ℕ) → j < suc n → get_or named (j * 256) 0 ≤ max_name
  each-short j g = elim (dec_le (suc j) n) [
    | yes k ↦ subst (λ (m : ℕ). m ≤ max_name) (sym (old-length j k)) (short-at j k)
    | no k ↦ subst (λ (m : ℕ). m ≤ max_name) (sym (ap (λ (m : ℕ). get_or named (m * 256) 0) (last k) ∙ own-length bytes name declares n few bytes-long short)) short
  ]
    where
      last : (suc j ≤ n → ⊥) → j ≡ n
      last k = omega arith

  pub extends : Extends p name declares s extended
  extends = record {
    stands = model-more;
    made = record {
      long = record {
        of-starts = R.long.of-starts;
        of-numbers = R.long.of-numbers;
        of-xs = R.long.of-xs;
        of-ys = R.long.of-ys;
        of_blocks = R.long.of_blocks;
        sizes = record {
          of-defaults = R.long.sizes.of-defaults;
          of-counts = length-set (over 65 order counts) 0 (n + 1) ∙ over-counts;
          of-bytes = stored-long bytes name declares n few bytes-long short;
        };
      };
      names = record {
        counted = omega (arith, length-set (over 65 order counts) 0 (n + 1), over-counts);
        few = omega (arith, one_more);
        paged = record { room = omega (arith, one_more, stored-long bytes name declares n few bytes-long short); short = λ j g. each-short j (omega (arith, one_more)) };
      };
      each = λ j g. each-made j (omega (arith, one_more));
      sorted = subst (λ (m : ℕ). part 65 m counted ≡ by_name (names_in named m) m) (sym one_more) sorted_after;
    };
  }

-- the same from what the two halves of the writing promise
pub extends-written : (p : Pages) (M : Made p) (n : ℕ) → n ≡ set_count p → n < max_sets → (name : List ℕ) → length name ≤ max_name → (declares : Bool) (s : clip.ClipSet) (h : Shape)
    (starts : List Float) (numbers : List ℕ) (xs ys blocks defaults : List Float) (counts bytes : List ℕ)
    → PutAt n s p.starts p.numbers p.xs p.ys p.blocks h starts numbers xs ys blocks
    → Entered n h name declares p.defaults p.counts p.bytes defaults counts bytes
    → Extends p name declares s (pages starts numbers xs ys blocks defaults counts bytes)
extends-written p M n here few name short declares s h starts numbers xs ys blocks defaults counts bytes P E =
    subst (Extends p name declares s) (sym same)
    (extends p M n here few name short declares s P.before h P.own.set.starts P.own.set.numbers P.own.set.xs P.own.set.ys P.own.set.blocks
    (subst (desk.Installs P.before s) P.is P.installs) defaults E.shaped E.marked E.stored E.order E.ordered E.inserted)
  where
    same : pages starts numbers xs ys blocks defaults counts bytes
        ≡ pages (over (n * 256) P.own.set.starts p.starts) (over (n * 256) P.own.set.numbers p.numbers) (over (n * 512) P.own.set.xs p.xs) (over (n * 512) P.own.set.ys p.ys) (over (n * 256) P.own.set.blocks p.blocks) defaults (set (over 65 E.order E.shaped) 0 (n + 1)) (name_stored name declares n E.marked)
    same = λ i. pages (P.starts-after i) (P.numbers_after i) (P.xs-after i) (P.ys-after i) (P.blocks-after i) defaults (E.counts-after i) (E.bytes_after i)
