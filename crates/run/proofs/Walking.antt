-- A walk that writes changes while there are slots: how it begins, goes on by one change that is offered, goes on by another walk, and ends. Assumes nothing.
use mathlib.Core.Path.{◌≡◌, refl, sym, ap, ap₂, ◌∙◌, subst}
use mathlib.Core.Bool.{Bool, true, false, cond, false≢true}
use mathlib.Core.List.{List, [], ◌∷◌, ◌++◌}
use Prim.Native.Nat.{ℕ, ◌+◌, ◌-◌, ◌≤◌, ◌<◌}
use native.Mathlib.Nat.{le_of_eq}
use native.Mathlib.Decide.{dec_le}
use native.Mathlib.Omega.{arith}
use lib.Dec.{T}
use lib.ListN.{length, set, length-append}
use lib.Ieee.{Float}
use Rattle.gf.specs.Doubles.{of_key}
use Rattle.definitions.specs.Track.{Entry, Outputs, alike}
use Rattle.definitions.specs.Moments.{outputs}
use Rattle.laws.proofs.list.Tests.{holds, is_true}
use Rattle.laws.specs.track.Track.{Change}
use Rattle.laws.specs.track.Steps.{Agree, Level}
use Rattle.laws.proofs.track.Laws.{changes-none, changes-still, changes-next, changes-agree, changes-split}
use Rattle.laws.proofs.track.Steps.{StopAt, still-level, still-stop, change-stop}
use Rattle.laws.specs.cell.Tracks.{entry-same}
use Rattle.cell.specs.declared.step.entry.Entry as declared
use Rattle.cell.specs.step.Entries.{entry_is}
use Rattle.run.specs.declared.walk.Went.{Went}
use Rattle.run.specs.Walks.{written, Room, change_from, Offered, changes_in, Stands, Walked}
use Rattle.run.proofs.Filling.{Long, written_none, written_one, written-long, written-join}

-- ---- what is offered

-- a change, or none, by the test of likeness
module _ (last here : Entry) (k room n : ℕ) (o : Outputs) where
  abbrev one : Bool → List (Change Entry)
  one b = cond b [] (record { key = k; value = here } ∷ [])

  pub offered-none : alike here last ≡ true → Room room n o → Offered last here k room n o o n
  offered-none a R = record {
    count = let l = ap (λ (b : Bool). length (one b)) a in omega arith;
    writes = λ _. written_none n o ∙ ap (λ (b : Bool). written n (one b) o) (sym a);
    leaves = λ h. refl;
  }

  module _ (a : alike here last ≡ false) where
    length-one : length (change_from last here k) ≡ 1
    length-one = ap (λ (b : Bool). length (one b)) a

    pub offered-full : room ≤ n → Offered last here k room n o o (n + 1)
    offered-full h = record { count = let l = length-one in omega arith; writes = λ f. absurd (omega arith); leaves = λ _. refl }

    pub offered-one : n < room → Room room n o → (t : Float) → t ≡ of_key k → Offered last here k room n o (outputs (set o.times n t) (set o.values n here.value) (set o.marks n here.mark)) (n + 1)
    offered-one h R t e = record {
      count = let l = length-one in omega arith;
      writes = λ _. ap (λ (x : Float). outputs (set o.times n x) (set o.values n here.value) (set o.marks n here.mark)) e
          ∙ written_one n o k here (omega (arith, R.times)) (omega (arith, R.values)) (omega (arith, R.marks))
          ∙ ap (λ (b : Bool). written n (one b) o) (sym a);
      leaves = λ f. absurd (omega arith);
    }

-- v goes on as it is at the key at up to, and not at, the key m, and there alike entries are one; an entry is alike to itself
pub record Reaches (v : ℕ → Entry) (at m : ℕ) : Type 0 where
  pub from : at ≤ m
  pub level : Level v at (m - 1)
  pub sure : T (alike (v m) (v at)) → v m ≡ v at
  pub self : T (alike (v at) (v at))

module _ {v : ℕ → Entry} {at m : ℕ} (R : Reaches v at m) where
  stop : at < m → StopAt v at m m
  stop l = record { above = l; within = le_of_eq refl; level = R.level }

  none : changes_in v at at ≡ []
  none = changes-none entry-same v at at (le_of_eq refl)

  -- the changes up to m: the one there, if any
  pub reached : changes_in v at m ≡ change_from (v at) (v m) m
  reached = go (alike (v m) (v at)) refl (dec_le m at)
    where
      other : alike (v m) (v at) ≡ false → v m ≡ v at → ⊥
      other a e = false≢true (sym a ∙ is_true (alike (v m) (v at)) (subst (λ (x : Entry). T (alike x (v at))) (sym e) R.self))

      go : (b : Bool) → alike (v m) (v at) ≡ b → Dec (m ≤ at) → changes_in v at m ≡ cond b [] (record { key = m; value = v m } ∷ [])
      go true a (yes h) = changes-none entry-same v at m h
      go true a (no h) = changes-still entry-same v at at m R.from (still-stop (le_of_eq refl) (λ j x y. absurd (omega arith)) (stop (omega arith)) (R.sure (holds _ a))) ∙ none
      go false a (yes h) = let z : m ≡ at = let f = R.from in omega arith in absurd (other a (ap v z))
      go false a (no h) =
          changes-next entry-same v at at m m (le_of_eq refl) (change-stop (le_of_eq refl) (λ j x y. absurd (omega arith)) (stop (omega arith)) (other a))
          ∙ ap (λ (l : List (Change Entry)). l ++ record { key = m; value = v m } ∷ []) none

-- ---- where a walk stands

module _ (v : ℕ → Entry) (k room n : ℕ) (o : Outputs) (R : Room room n o) where
  -- at its beginning
  pub stands-first : (e : Entry) → e ≡ v k → Stands v k room n o o k e n
  stands-first e p =
      let z = changes-none entry-same v k k (le_of_eq refl) in
      let l = ap length z in
      record {
        from = le_of_eq refl;
        last = p;
        count = omega arith;
        fits = R.from;
        writes = written_none n o ∙ ap (λ (cs : List (Change Entry)). written n cs o) (sym z);
      }

  module _ {p : Outputs} {at : ℕ} {e : Entry} {c : ℕ} (S : Stands v k room n o p at e c) where
    -- the outputs are as long as they came, and have room
    pub stands-long : Long o p
    stands-long = subst (Long o) (sym S.writes) (written-long n o room R (changes_in v k at) (let q = S.count in let f = S.fits in omega arith))

    pub stands-room : Room room c p
    stands-room =
        let L = stands-long in
        record { from = S.fits; times = omega (arith, L.times, R.times); values = omega (arith, L.values, R.values); marks = omega (arith, L.marks, R.marks) }

    -- on by another walk
    pub stands-join : {q : Outputs} {m : ℕ} {d : Entry} {r : ℕ} → Stands v at room c p q m d r → Stands v k room n o q m d r
    stands-join {q} {m} {d} {r} U =
        let f = S.from in
        let g = U.from in
        let a = S.count in
        let b = U.count in
        let s = changes-split entry-same v k at m f g in
        let l = ap length s ∙ length-append (changes_in v k at) (changes_in v at m) in
        record {
          from = omega arith;
          last = U.last;
          count = omega arith;
          fits = U.fits;
          writes = U.writes
              ∙ ap₂ (λ (i : ℕ) (x : Outputs). written i (changes_in v at m) x) a S.writes
              ∙ written-join n o room R (changes_in v k at) (let h = S.fits in omega arith) (changes_in v at m)
              ∙ ap (λ (cs : List (Change Entry)). written n cs o) (sym s);
        }

    -- on to a key up to which nothing changes
    pub stands-level : {m : ℕ} → at ≤ m → Level v at m → Stands v k room n o p m e c
    stands-level {m} h l =
        let z = changes-still entry-same v k at m h (still-level at at m (le_of_eq refl) (λ j x y. absurd (omega arith)) l) in
        record {
          from = let f = S.from in omega arith;
          last = S.last ∙ sym (l m h (le_of_eq refl));
          count = S.count ∙ ap (λ (cs : List (Change Entry)). n + length cs) (sym z);
          fits = S.fits;
          writes = S.writes ∙ ap (λ (cs : List (Change Entry)). written n cs o) (sym z);
        }

    -- on to a key where a change is offered
    module _ {m : ℕ} (M : Reaches v at m) {q : Outputs} {d : Entry} (y : d ≡ v m) {r : ℕ} (O : Offered e d m room c p q r) where
      at_most_one : changes_in v at m ≡ change_from e d m
      at_most_one = reached M ∙ ap₂ (λ (a b : Entry). change_from a b m) (sym S.last) (sym y)

      pub stands-next : r ≤ room → Stands v k room n o q m d r
      stands-next h = stands-join (record {
        from = M.from;
        last = y;
        count = O.count ∙ ap (λ (cs : List (Change Entry)). c + length cs) (sym at_most_one);
        fits = h;
        writes = O.writes h ∙ ap (λ (cs : List (Change Entry)). written c cs p) (sym at_most_one);
      })

      -- where there is no room for it, all is as it was, the slots are full, and there is a further change
      pub stands-full : room < r → Stands v k room n o q at e c
      stands-full h = subst (λ (x : Outputs). Stands v k room n o x at e c) (sym (O.leaves h)) S

      pub full : {hi : ℕ} → m ≤ hi → room < r → (c ≡ room) × (0 < length (changes_in v at hi))
      full {hi} u h =
          let a = O.count in
          let f = S.fits in
          let w = few (alike d e) in
          let l = ap length at_most_one in
          let s = ap length (changes-split entry-same v at m hi M.from u) ∙ length-append (changes_in v at m) (changes_in v m hi) in
          (omega arith, omega arith)
        where
          few : (b : Bool) → length (cond {A = List (Change Entry)} b [] (record { key = m; value = d } ∷ [])) ≤ 1
          few true = omega arith
          few false = omega arith

-- ---- where it ends

module _ {v : ℕ → Entry} {k hi room n : ℕ} {o : Outputs} where
  -- all keys passed
  pub walked_all : {p : Outputs} {at : ℕ} {e : declared.Entry} {c : ℕ} → Stands v k room n o p at (entry_is e) c → at ≡ hi → Walked v k hi room n o p (record { key = at; last = e; count = c; done = true })
  walked_all S h = record { stands = S; upto = le_of_eq h; whole = λ _. h; more = λ x. absurd (false≢true (sym x)) }

  -- stopped at a change for which there is no room
  pub walked-full : {p : Outputs} {at : ℕ} {e : declared.Entry} {c : ℕ} → Stands v k room n o p at (entry_is e) c → at ≤ hi → (c ≡ room) × (0 < length (changes_in v at hi)) → Walked v k hi room n o p (record { key = at; last = e; count = c; done = false })
  walked-full S u m = record { stands = S; upto = u; whole = λ x. absurd (false≢true x); more = λ _. m }

  -- a walk goes by the function on its keys
  pub walked-agree : {w : ℕ → Entry} → Agree k hi v w → {p : Outputs} {g : Went} → Walked w k hi room n o p g → Walked v k hi room n o p g
  walked-agree {w} f {p} {g} W =
      let S = W.stands in
      let u = W.upto in
      let a = S.from in
      let z = changes-agree entry-same v w k g.key (λ j x y. f j x (omega arith)) in
      let y = changes-agree entry-same v w g.key hi (λ j x y. f j (omega arith) y) in
      record {
        stands = record {
          from = a;
          last = S.last ∙ sym (f g.key a u);
          count = S.count ∙ ap (λ (cs : List (Change Entry)). n + length cs) (sym z);
          fits = S.fits;
          writes = S.writes ∙ ap (λ (cs : List (Change Entry)). written n cs o) (sym z);
        };
        upto = u;
        whole = W.whole;
        more = λ x. ((W.more x).0, subst (λ (cs : List (Change Entry)). 0 < length cs) (sym y) (W.more x).1);
      }

-- a walk that stopped has stopped on the way to any further key
pub walked-wider : {v : ℕ → Entry} {k hi room n top : ℕ} {o p : Outputs} {g : Went} → hi ≤ top → g.done ≡ false → Walked v k hi room n o p g → Walked v k top room n o p (record { key = g.key; last = g.last; count = g.count; done = false })
walked-wider {v} {k} {hi} {top = top} {g = g} h x W =
    let u = W.upto in
    let m = W.more x in
    let s = ap length (changes-split entry-same v g.key hi top u h) ∙ length-append (changes_in v g.key hi) (changes_in v hi top) in
    walked-full W.stands (omega arith) (m.0, omega (arith, m.1))

-- on by a walk
pub walked-join : (v : ℕ → Entry) (k hi room n : ℕ) (o : Outputs) (R : Room room n o) {p q : Outputs} {at : ℕ} {e : Entry} {c : ℕ} {g : Went} → Stands v k room n o p at e c → Walked v at hi room c p q g → Walked v k hi room n o q g
walked-join v k hi room n o R S W = record { stands = stands-join v k room n o R S W.stands; upto = W.upto; whole = W.whole; more = W.more }
