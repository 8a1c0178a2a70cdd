-- The outputs to which changes are written from a slot on: none, one, and some after others. Assumes nothing.
use mathlib.Core.Path.{◌≡◌, refl, sym, ap, ap₂, ◌∙◌}
use mathlib.Core.List.{List, [], ◌∷◌, ◌++◌, map, append_assoc}
use Prim.Native.Nat.{ℕ, suc, ◌+◌, ◌≤◌, ◌<◌}
use native.Mathlib.Omega.{arith}
use lib.ListN.{length, take, drop, set, length-append, take-append-drop}
use lib.Seq.{take-append_seam, drop-append-add, drop-drop, length-take-le}
use lib.Ieee.{Float}
use Rattle.gf.specs.Doubles.{of_key}
use Rattle.definitions.specs.Track.{Entry, Change, Outputs}
use Rattle.definitions.specs.Moments.{outputs}
use Rattle.laws.specs.track.Track as steps
use Rattle.laws.proofs.track.Laws.{put, length-put, length_part, no_part}
use Rattle.laws.specs.cell.Tracks.{written_change}
use Rattle.run.specs.Walks.{written_from, written, Room}

-- ---- any list

module _ {A : Type 0} (n : ℕ) (old : List A) where
  from-none : old ≡ written_from n [] old
  from-none = let z : n ≡ n + 0 = omega arith in no_part old [] n refl ∙ ap (λ (i : ℕ). (take n old ++ []) ++ drop i old) z

  from-length : (new : List A) → n + length new ≤ length old → length (written_from n new old) ≡ length old
  from-length new h = length-put (take n old ++ new) old (n + length new) (length_part old new n (omega arith)) h

  from_one : (a : A) → n < length old → set old n a ≡ written_from n (a ∷ []) old
  from_one a h =
      ap (λ (l : List A). set l n a) (sym (take-append-drop n old))
      ∙ put (take n old) old n a (length-take-le n old (omega arith)) h

  from-join : (ps qs : List A) → n + length ps ≤ length old → written_from (n + length ps) qs (written_from n ps old) ≡ written_from n (ps ++ qs) old
  from-join ps qs h =
      ap₂ (λ (l r : List A). (l ++ qs) ++ r) front back
      ∙ ap₂ (λ (l r : List A). l ++ r) (append_assoc (take n old) ps qs) (ap (λ (i : ℕ). drop i old) long)
    where
      size : length (take n old ++ ps) ≡ n + length ps
      size = length_part old ps n (omega arith)

      front : take (n + length ps) (written_from n ps old) ≡ take n old ++ ps
      front = ap (λ (i : ℕ). take i (written_from n ps old)) (sym size) ∙ take-append_seam (take n old ++ ps) (drop (n + length ps) old)

      back : drop (n + length ps + length qs) (written_from n ps old) ≡ drop (n + length ps + length qs) old
      back =
          ap (λ (i : ℕ). drop (i + length qs) (written_from n ps old)) (sym size)
          ∙ drop-append-add (take n old ++ ps) (drop (n + length ps) old) (length qs)
          ∙ drop-drop (length qs) (n + length ps) old

      long : n + length ps + length qs ≡ n + length (ps ++ qs)
      long = let e = length-append ps qs in omega arith

-- ---- a column of changes

module _ {A : Type 0} (g : Change → A) where
  abbrev column : List (steps.Change Entry) → List A
  column cs = map g (map written_change cs)

  column-length : (cs : List (steps.Change Entry)) → length (column cs) ≡ length cs
  column-length [] = refl
  column-length (c ∷ cs) = ap suc (column-length cs)

  column-append : (cs ds : List (steps.Change Entry)) → column (cs ++ ds) ≡ column cs ++ column ds
  column-append [] ds = refl
  column-append (c ∷ cs) ds = ap {B = List A} (λ (l : List A). g (written_change c) ∷ l) (column-append cs ds)

  module _ (n : ℕ) (cs : List (steps.Change Entry)) (old : List A) (h : n + length cs ≤ length old) where
    column-kept : length (written_from n (column cs) old) ≡ length old
    column-kept = let l = column-length cs in from-length n old (column cs) (omega arith)

    column-join : (ds : List (steps.Change Entry)) → written_from (n + length cs) (column ds) (written_from n (column cs) old) ≡ written_from n (column (cs ++ ds)) old
    column-join ds =
        let l = column-length cs in
        ap (λ (i : ℕ). written_from (n + i) (column ds) (written_from n (column cs) old)) (sym l)
        ∙ from-join n old (column cs) (column ds) (omega arith)
        ∙ ap (λ (c : List A). written_from n c old) (sym (column-append cs ds))

-- ---- the outputs

abbrev time_of : Change → Float
time_of c = c.time

abbrev value_of : Change → Float
value_of c = c.value

abbrev mark_of : Change → ℕ
mark_of c = c.mark

-- the outputs are as long as others
pub record Long (before after : Outputs) : Type 0 where
  pub times : length after.times ≡ length before.times
  pub values : length after.values ≡ length before.values
  pub marks : length after.marks ≡ length before.marks

module _ (n : ℕ) (o : Outputs) where
  pub written_none : o ≡ written n [] o
  written_none = λ i. record { times = from-none n o.times i; values = from-none n o.values i; marks = from-none n o.marks i }

  pub written_one : (k : ℕ) (e : Entry) → n < length o.times → n < length o.values → n < length o.marks
      → outputs (set o.times n (of_key k)) (set o.values n e.value) (set o.marks n e.mark) ≡ written n (record { key = k; value = e } ∷ []) o
  written_one k e a b c = λ i. record { times = from_one n o.times (of_key k) a i; values = from_one n o.values e.value b i; marks = from_one n o.marks e.mark c i }

  module _ (room : ℕ) (R : Room room n o) (cs : List (steps.Change Entry)) (h : n + length cs ≤ room) where
    pub written-long : Long o (written n cs o)
    written-long = record {
      times = column-kept time_of n cs o.times (omega (arith, R.times));
      values = column-kept value_of n cs o.values (omega (arith, R.values));
      marks = column-kept mark_of n cs o.marks (omega (arith, R.marks));
    }

    pub written-join : (ds : List (steps.Change Entry)) → written (n + length cs) ds (written n cs o) ≡ written n (cs ++ ds) o
    written-join ds = λ i. record {
      times = column-join time_of n cs o.times (omega (arith, R.times)) ds i;
      values = column-join value_of n cs o.values (omega (arith, R.values)) ds i;
      marks = column-join mark_of n cs o.marks (omega (arith, R.marks)) ds i;
    }
