-- The direct value case by case, as its program goes: the start's own reading, the manifest default, the search, nothing. Assumes nothing.
use mathlib.Core.Path.{◌≡◌, refl, sym, ap, ◌∙◌}
use mathlib.Core.Bool.{true, false, not, ◌&&◌, cond}
use mathlib.Core.List.{List, [], ◌∷◌, reverse}
use mathlib.Core.Option.{Option, none, some}
use Prim.Native.Nat.{ℕ, suc, ◌+◌, ◌<◌}
use native.Mathlib.Numerals.{add-one}
use native.Mathlib.Omega.{arith}
use lib.ListN.{length, get_or, get_elem?, take, drop}
use lib.Ieee.{Float, nan, eq}
use borrow.Author.Tests.{eq-eqb, ne_eqb}
use Rattle.definitions.specs.declared.Start.{Start}
use Rattle.definitions.specs.declared.Source.{Source}
use Rattle.definitions.specs.declared.Source.TheVariants.{Default as default, Blocked as blocked, Absent as absent}
use Rattle.definitions.specs.Lists.{any}
use Rattle.definitions.specs.ClipSet.{ClipSet, stage}
use Rattle.definitions.specs.declared.Missing.{Missing}
use Rattle.definitions.specs.Timing.{last_at_most, active_position}
use Rattle.definitions.specs.Samples.{Samples, clip_times}
use Rattle.definitions.specs.Value.{◌or_else◌, blocked_at, contributes, read_clip, first_reading, interpolate_missing_value, source_at, direct_source}
use Rattle.laws.specs.cell.Lent.{start, active_of, set_of, samples_of, AcceptedLists}
use Rattle.laws.proofs.cell.Lent.{zip-here}
use Rattle.window.proofs.Parts.{ready-active, ready-position}
use Rattle.value.specs.direct.Reads.{read_part}
use Rattle.value.specs.direct.Sources.{stand_in}

module _ (set : ClipSet) (s : Samples) (p : ℕ) where
  pub gap-default : set.default.mark ≡ 0 → default ≡ (stand_in set s p)
  gap-default e = rw (eq-eqb set.default.mark 0 e)

  module _ (n : set.default.mark ≡ 0 → ⊥) where
    pub gap-off : set.interpolate_missing ≡ false → blocked ≡ (stand_in set s p)
    gap-off f = rw (ne_eqb set.default.mark 0 n, f)

    module _ (f : set.interpolate_missing ≡ true) where
      searched : interpolate_missing_value set s p ≡ (stand_in set s p)
      searched = rw (ne_eqb set.default.mark 0 n, f)

      pub gap-before : (r : Source) → some r ≡ first_reading set s (reverse (take p set.active)) → r ≡ (stand_in set s p)
      unfolding interpolate_missing_value
      gap-before r e = ap (λ (o : Option Source). o or_else first_reading set s (drop (suc p) set.active) or_else blocked) e ∙ searched

      pub gap-after : (r : Source) → none ≡ first_reading set s (reverse (take p set.active)) → some r ≡ first_reading set s (drop (suc p) set.active) → r ≡ (stand_in set s p)
      unfolding interpolate_missing_value
      gap-after r e g =
          ap (λ (o : Option Source). o or_else blocked) g ∙ ap (λ (o : Option Source). o or_else first_reading set s (drop (suc p) set.active) or_else blocked) e ∙ searched

      pub gap-none : none ≡ first_reading set s (reverse (take p set.active)) → none ≡ first_reading set s (drop (suc p) set.active) → blocked ≡ (stand_in set s p)
      unfolding interpolate_missing_value
      gap-none e g =
          ap (λ (o : Option Source). o or_else blocked) g ∙ ap (λ (o : Option Source). o or_else first_reading set s (drop (suc p) set.active) or_else blocked) e ∙ searched

-- ---- the direct value at t

module _ (set : ClipSet) (s : Samples) (t : Float) where
  pub direct-absent : get_elem? set.active (active_position set.active (stage t)) ≡ none → absent ≡ direct_source set s (stage t)
  unfolding direct_source
  direct-absent e = rw e

  module _ (p : ℕ) (a : Start) (at : active_position set.active (stage t) ≡ p) (here : get_elem? set.active p ≡ some a) where
    entry : source_at set s (stage t) p (some a) ≡ direct_source set s (stage t)
    unfolding direct_source
    entry = rw (at, here)

    pub direct-own : (r : Source) → contributes set a ≡ true → some r ≡ read_clip set s a.clip (stage t) → r ≡ direct_source set s (stage t)
    direct-own r c e =
        let q : (cond (contributes set a) (read_clip set s a.clip (stage t)) none or_else stand_in set s p) ≡ r = rw (c, ← e) in
        sym q ∙ entry

    pub direct-empty : contributes set a ≡ true → none ≡ read_clip set s a.clip (stage t) → stand_in set s p ≡ direct_source set s (stage t)
    direct-empty c e =
        let q : (cond (contributes set a) (read_clip set s a.clip (stage t)) none or_else stand_in set s p) ≡ stand_in set s p = rw (c, ← e) in
        sym q ∙ entry

    pub direct-out : contributes set a ≡ false → stand_in set s p ≡ direct_source set s (stage t)
    direct-out c =
        let q : (cond (contributes set a) (read_clip set s a.clip (stage t)) none or_else stand_in set s p) ≡ stand_in set s p = rw c in
        sym q ∙ entry

-- ---- of lists that are ready

module _ {starts : List Float} {clips : List ℕ} {xs ys blocks : List Float} {m : Missing} {times values : List Float} {marks ends : List ℕ} (R : AcceptedLists starts clips xs ys blocks m times values marks ends) where
  abbrev ready : ClipSet
  ready = set_of (length ends) starts clips xs ys blocks m

  abbrev lent : Samples
  lent = samples_of times values marks ends

  module _ (p : ℕ) where
    pub stands-default : m.default.mark ≡ 0 → default ≡ stand_in ready lent p
    unfolding set_of
    stands-default e = gap-default ready lent p e

    module _ (n : m.default.mark ≡ 0 → ⊥) where
      pub stands-off : m.interpolate ≡ false → blocked ≡ stand_in ready lent p
      unfolding set_of
      stands-off f = gap-off ready lent p n f

      module _ (f : m.interpolate ≡ true) where
        pub stands-before : (r : Source) → some r ≡ first_reading ready lent (reverse (take p (active_of starts clips))) → r ≡ stand_in ready lent p
        unfolding set_of
        stands-before r e = gap-before ready lent p n f r e

        pub stands_after : (r : Source) → none ≡ first_reading ready lent (reverse (take p (active_of starts clips))) → some r ≡ first_reading ready lent (drop (p + 1) (active_of starts clips)) → r ≡ stand_in ready lent p
        unfolding set_of
        stands_after r e g = gap-after ready lent p n f r e (rw add-one at g)

        pub stands-none : none ≡ first_reading ready lent (reverse (take p (active_of starts clips))) → none ≡ first_reading ready lent (drop (p + 1) (active_of starts clips)) → blocked ≡ stand_in ready lent p
        unfolding set_of
        stands-none e g = gap-none ready lent p n f e (rw add-one at g)

  -- the direct value
  module _ (t : Float) where
    pub reads-absent : length starts ≡ 0 → absent ≡ direct_source ready lent (stage t)
    unfolding set_of
    reads-absent e = direct-absent ready lent t (none_in (active_of starts clips) (active_position (active_of starts clips) (stage t)) (ready-active R ∙ e))
      where
        none_in : (l : List Start) (i : ℕ) → length l ≡ 0 → get_elem? l i ≡ none
        none_in [] i e = refl
        none_in (a ∷ l) i e = absurd (omega arith)

    module _ (p : ℕ) (e : p ≡ last_at_most starts t) (h : p < length starts) where
      at : active_position (active_of starts clips) (stage t) ≡ p
      at = ready-position R t p e

      here : get_elem? (active_of starts clips) p ≡ some (start (get_or starts p nan) (get_or clips p 0))
      here = zip-here start starts clips p nan 0 R.starts-paired h

      pub reads-own : not (m.interpolate && any (λ (b : Float). eq b (get_or starts p nan)) blocks) ≡ true → (r : Source) → some r ≡ read_part xs ys times ends (get_or clips p 0) (stage t) → r ≡ direct_source ready lent (stage t)
      unfolding set_of contributes blocked_at read_clip clip_times
      reads-own c r q = direct-own ready lent t p (start (get_or starts p nan) (get_or clips p 0)) at here r c q

      pub reads-empty : not (m.interpolate && any (λ (b : Float). eq b (get_or starts p nan)) blocks) ≡ true → none ≡ read_part xs ys times ends (get_or clips p 0) (stage t) → stand_in ready lent p ≡ direct_source ready lent (stage t)
      unfolding set_of contributes blocked_at read_clip clip_times
      reads-empty c q = direct-empty ready lent t p (start (get_or starts p nan) (get_or clips p 0)) at here c q

      pub reads-out : not (m.interpolate && any (λ (b : Float). eq b (get_or starts p nan)) blocks) ≡ false → stand_in ready lent p ≡ direct_source ready lent (stage t)
      unfolding set_of contributes blocked_at
      reads-out c = direct-out ready lent t p (start (get_or starts p nan) (get_or clips p 0)) at here c
