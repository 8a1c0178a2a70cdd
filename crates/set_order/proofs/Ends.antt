-- The ends of an order list and the names between them, from a place on. Assumes nothing.
use mathlib.Core.Path.{◌≡◌, ap, ◌∙◌, subst}
use mathlib.Core.Bool.{Bool, true, false, ◌&&◌, ◌||◌}
use mathlib.Core.List.{List, [], ◌∷◌}
use Prim.Native.Nat.{ℕ, ◌+◌, ◌-◌, ◌≤◌, ◌<◌}
use native.Mathlib.Numerals.{add-one}
use native.Mathlib.Nat.{le_trans, le_of_eq}
use native.Mathlib.Omega.{arith}
use borrow.Author.Tests.{lt-ltb, le-ltb, le-leb, lt-leb}
use lib.Dec.{T, leb, ltb, eqb, eqb→eq, leb→le}
use lib.ListN.{length, get_or, take, drop, length-drop, drop_of_length-le}
use lib.Seq.{drop-cons, length-take-le}
use Rattle.definitions.specs.Lists.{any}
use Rattle.definitions.specs.Samples.{closes}
use Rattle.laws.proofs.list.Tests.{both_l, both_r}
use Rattle.dispatch.specs.SetOrder.{max_name, too_long, names_from}

-- from the i-th on
module _ (ends : List ℕ) (i : ℕ) where
  pub front : i < length ends → drop i ends ≡ get_or ends i 0 ∷ drop (i + 1) ends
  front h = rw add-one (drop-cons ends i 0 h)

  pub no_front : length ends ≤ i → drop i ends ≡ []
  no_front h = drop_of_length-le ends {i = i} h

  -- ---- whether they close, behind this end

  module _ (len end : ℕ) where
    closes-on : i < length ends → closes end (drop i ends) len ≡ (leb end (get_or ends i 0) && closes (get_or ends i 0) (drop (i + 1) ends) len)
    unfolding closes
    closes-on h = ap (λ (l : List ℕ). closes end l len) (front h)

    pub closes_before : i < length ends → get_or ends i 0 < end → closes end (drop i ends) len ≡ false
    closes_before h k = closes-on h ∙ ap (λ (b : Bool). b && closes (get_or ends i 0) (drop (i + 1) ends) len) (lt-leb end (get_or ends i 0) k)

    pub closes-next : i < length ends → end ≤ get_or ends i 0 → closes end (drop i ends) len ≡ closes (get_or ends i 0) (drop (i + 1) ends) len
    closes-next h k = closes-on h ∙ ap (λ (b : Bool). b && closes (get_or ends i 0) (drop (i + 1) ends) len) (le-leb end (get_or ends i 0) k)

    pub closes-end : length ends ≤ i → closes end (drop i ends) len ≡ eqb end len
    unfolding closes
    closes-end h = ap (λ (l : List ℕ). closes end l len) (no_front h)

closed-below : (end : ℕ) (ends : List ℕ) (len : ℕ) → T (closes end ends len) → end ≤ len
unfolding closes
closed-below end [] len h = le_of_eq (eqb→eq end len h)
closed-below end (e ∷ ends) len h =
    le_trans (leb→le end e (both_l (leb end e) (closes e ends len) h)) (closed-below e ends len (both_r (leb end e) (closes e ends len) h))

-- ---- the names of ends that close

-- the i names before `begin` are walked
pub record Walk (bytes ends : List ℕ) (begin i : ℕ) : Type 0 where
  pub closed : T (closes begin (drop i ends) (length bytes))

module _ (bytes ends : List ℕ) (begin i : ℕ) where
  -- the i-th name
  abbrev pub name : List ℕ
  name = take (get_or ends i 0 - begin) (drop begin bytes)

  pub names-on : i < length ends → names_from begin bytes (drop i ends) ≡ name ∷ names_from (get_or ends i 0) bytes (drop (i + 1) ends)
  unfolding names_from
  names-on h = ap (names_from begin bytes) (front ends i h)

  pub names-end : length ends ≤ i → names_from begin bytes (drop i ends) ≡ []
  unfolding names_from
  names-end h = ap (names_from begin bytes) (no_front ends i h)

  module _ (w : Walk bytes ends begin i) (h : i < length ends) where
    opened : T (leb begin (get_or ends i 0) && closes (get_or ends i 0) (drop (i + 1) ends) (length bytes))
    opened = subst T (closes-on ends i (length bytes) begin h) w.closed

    pub end_after : begin ≤ get_or ends i 0
    end_after = leb→le begin (get_or ends i 0) (both_l (leb begin (get_or ends i 0)) (closes (get_or ends i 0) (drop (i + 1) ends) (length bytes)) opened)

    pub walk-on : Walk bytes ends (get_or ends i 0) (i + 1)
    walk-on = record { closed = both_r (leb begin (get_or ends i 0)) (closes (get_or ends i 0) (drop (i + 1) ends) (length bytes)) opened }

    pub end-within : get_or ends i 0 ≤ length bytes
    end-within = closed-below (get_or ends i 0) (drop (i + 1) ends) (length bytes) walk-on.closed

    name-long : length name ≡ get_or ends i 0 - begin
    name-long = length-take-le _ (drop begin bytes) (omega (arith, end-within, length-drop begin bytes))

    long-on : (b : Bool) → ltb max_name (get_or ends i 0 - begin) ≡ b → any too_long (names_from begin bytes (drop i ends)) ≡ (b || any too_long (names_from (get_or ends i 0) bytes (drop (i + 1) ends)))
    long-on b e =
        ap (any too_long) (names-on h)
        ∙ ap (λ (q : Bool). q || any too_long (names_from (get_or ends i 0) bytes (drop (i + 1) ends))) (ap (ltb max_name) name-long ∙ e)

    -- the i-th name is too long, or those behind it answer
    pub long-here : max_name < get_or ends i 0 - begin → any too_long (names_from begin bytes (drop i ends)) ≡ true
    long-here k = long-on true (lt-ltb max_name (get_or ends i 0 - begin) k)

    pub long-later : get_or ends i 0 - begin ≤ max_name → any too_long (names_from begin bytes (drop i ends)) ≡ any too_long (names_from (get_or ends i 0) bytes (drop (i + 1) ends))
    long-later k = long-on false (le-ltb max_name (get_or ends i 0 - begin) k)
