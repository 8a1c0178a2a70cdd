-- A track as three lists: its times are the front of theirs, and what holds after its first changes is the entry at the last of them. Assumes nothing.
use mathlib.Core.Path.{◌≡◌, refl, ap, ◌∙◌}
use mathlib.Core.List.{List, [], ◌∷◌}
use Prim.Native.Nat.{ℕ, zero, suc, ◌<◌, min}
use native.Mathlib.Nat.{not-suc-le-zero, le_of_suc-le-suc}
use native.Mathlib.Omega.{arith}
use lib.ListN.{length, get_or, take}
use lib.Ieee.{Float, nan}
use Rattle.definitions.specs.Lists.{zip_with}
use Rattle.definitions.specs.Track.{Entry, Change, change_times}
use Rattle.definitions.specs.Reading.{entry, change, changes_of_lists, held_after}
use Rattle.laws.proofs.list.Every.{zip-at}

module _ {A B C : Type 0} (f : A → B → C) where
  zip-shortest : (xs : List A) (ys : List B) → length (zip_with f xs ys) ≡ min (length xs) (length ys)
  zip-shortest [] ys = omega arith
  zip-shortest (x ∷ xs) [] = omega arith
  zip-shortest (x ∷ xs) (y ∷ ys) = let e = zip-shortest xs ys in omega arith

times-front : (times : List Float) (entries : List Entry) → change_times (zip_with change times entries) ≡ take (length (zip_with change times entries)) times
times-front [] es = refl
times-front (t ∷ ts) [] = refl
times-front (t ∷ ts) (e ∷ es) = ap (λ (l : List Float). t ∷ l) (times-front ts es)

held-change : (cs : List Change) (e : Entry) (d : Change) (i : ℕ) → i < length cs → held_after (suc i) e cs ≡ entry (get_or cs i d).value (get_or cs i d).mark
unfolding held_after
held-change [] e d i h = absurd (not-suc-le-zero h)
held-change (c ∷ cs) e d zero h = refl
held-change (c ∷ cs) e d (suc i) h = held-change cs (entry c.value c.mark) d i (le_of_suc-le-suc h)

module _ (times values : List Float) (marks : List ℕ) where
  many : length (changes_of_lists times values marks) ≡ min (length times) (min (length values) (length marks))
  many = zip-shortest change times (zip_with entry values marks) ∙ ap (min (length times)) (zip-shortest entry values marks)

  pub front-times : change_times (changes_of_lists times values marks) ≡ take (min (length times) (min (length values) (length marks))) times
  front-times = times-front times (zip_with entry values marks) ∙ ap (λ (n : ℕ). take n times) many

  pub held_at : (e : Entry) (i : ℕ) → i < min (length times) (min (length values) (length marks)) → held_after (suc i) e (changes_of_lists times values marks) ≡ entry (get_or values i nan) (get_or marks i 0)
  held_at e i h =
      held-change (changes_of_lists times values marks) e (change nan (entry nan 0)) i (let m = many in omega arith)
      ∙ ap (λ (c : Change). entry c.value c.mark) at
    where
      pairs : length (zip_with entry values marks) ≡ min (length values) (length marks)
      pairs = zip-shortest entry values marks

      at : get_or (changes_of_lists times values marks) i (change nan (entry nan 0)) ≡ change (get_or times i nan) (entry (get_or values i nan) (get_or marks i 0))
      at =
          zip-at change times (zip_with entry values marks) i nan (entry nan 0) (change nan (entry nan 0)) (omega arith) (let e = pairs in omega arith)
          ∙ ap (change (get_or times i nan)) (zip-at entry values marks i nan 0 (entry nan 0) (omega arith) (omega arith))
