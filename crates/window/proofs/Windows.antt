-- A window's gathered times over the lent lists, part by part. Assumes nothing.
use mathlib.Core.Path.{◌≡◌, refl, sym, ap, ap₂, ◌∙◌}
use mathlib.Core.Bool.{Bool, true, false, not, ◌&&◌, cond}
use mathlib.Core.List.{List, [], ◌∷◌, ◌++◌}
use mathlib.Core.Option.{Option, none, some}
use Prim.Native.Nat.{ℕ, zero, suc, ◌+◌, ◌≤◌, ◌<◌}
use native.Mathlib.Numerals.{add-one}
use native.Mathlib.Omega.{arith}
use lib.Dec.{eqb, ltb}
use lib.ListN.{length, get_or, get_elem?}
use lib.Ieee.{Float, nan, inf, eq, lt, le}
use borrow.Author.Tests.{ltb-true, ltb-false}
use Rattle.definitions.specs.declared.Missing.{Missing}
use Rattle.definitions.specs.declared.Start.{Start}
use Rattle.definitions.specs.Lists.{any, keep}
use Rattle.definitions.specs.ClipSet.{ClipSet, knot_times}
use Rattle.definitions.specs.Samples.{Samples, clip_times}
use Rattle.definitions.specs.Value.{contains, time_or, window, start_of, contributes, blocked_at, window_sample_times, contributed_times, gathered}
use Rattle.laws.specs.cell.Lent.{start, active_of, knots_of, set_of, samples_of, AcceptedLists}
use Rattle.laws.proofs.cell.Lent.{zip-here, zip_length, knot-times}
use Rattle.window.specs.Parts.{part_of}
use Rattle.window.specs.Bounds.{inside}
use Rattle.window.specs.Inverses.{inverses_of}
use Rattle.window.specs.Windows.{min_of, max_of, window_of, window_part, if_own}

-- ---- the window

past_end : {A : Type 0} (l : List A) (i : ℕ) → length l ≤ i → get_elem? l i ≡ none
past_end [] i h = refl
past_end (x ∷ l) zero h = absurd (omega arith)
past_end (x ∷ l) (suc i) h = past_end l i (omega arith)

module _ (starts : List Float) (clips : List ℕ) (e : length starts ≡ length clips) where
  pub next-is : (p : ℕ) → p + 1 < length starts → get_elem? (active_of starts clips) (suc p) ≡ some (start (get_or starts (p + 1) nan) (get_or clips (p + 1) 0))
  next-is p h = ap (λ (i : ℕ). get_elem? (active_of starts clips) i) (sym (add-one p)) ∙ zip-here start starts clips (p + 1) nan 0 e h

  pub next-none : (p : ℕ) → length starts ≤ p + 1 → get_elem? (active_of starts clips) (suc p) ≡ none
  next-none p h = past_end (active_of starts clips) (suc p) (omega (arith, zip_length start starts clips e))

  module _ (p : ℕ) (h : p < length starts) where
    here : get_elem? (active_of starts clips) p ≡ some (start (get_or starts p nan) (get_or clips p 0))
    here = zip-here start starts clips p nan 0 e h

    min-is : (window (active_of starts clips) p).min ≡ min_of starts p
    unfolding window
    min-is = ap (λ (o : Option Start). cond (eqb p 0) (inf true) (time_or (inf true) o)) here

    max-is : (window (active_of starts clips) p).max ≡ max_of starts p
    unfolding window
    max-is = go (ltb (p + 1) (length starts)) refl
      where
        go : (b : Bool) → ltb (p + 1) (length starts) ≡ b → time_or (inf false) (get_elem? (active_of starts clips) (suc p)) ≡ cond b (get_or starts (p + 1) nan) (inf false)
        go true q = ap (time_or (inf false)) (next-is p (ltb-true (p + 1) (length starts) q))
        go false q = ap (time_or (inf false)) (next-none p (ltb-false (p + 1) (length starts) q))

    pub window-keep : (l : List Float) → keep (contains (window (active_of starts clips) p)) l ≡ keep (inside (window_of starts p)) l
    window-keep l = ap₂ (λ (a b : Float). keep (λ (x : Float). le a x && lt x b) l) min-is max-is

-- ---- a window's times, with samples given by their clip times

module _ {starts : List Float} {clips : List ℕ} {xs ys blocks : List Float} {m : Missing} {times values : List Float} {marks ends : List ℕ} (R : AcceptedLists starts clips xs ys blocks m times values marks ends) where
  abbrev set : ClipSet
  set = set_of (length ends) starts clips xs ys blocks m

  abbrev s : Samples
  s = samples_of times values marks ends

  pub window-times : (p : ℕ) → p < length starts → (cs : List Float) → window_sample_times set p cs ≡ window_part starts xs ys p cs
  unfolding set_of window_sample_times window_part
  window-times p h cs =
      let a = ap (λ (o : Option Start). start_of o) (here starts clips R.starts-paired p h) in
      let b = window-keep starts clips R.starts-paired p h (knot_times (knots_of xs ys)) ∙ ap (keep (inside (window_of starts p))) (knot-times xs ys R.knots-paired) in
      let d = window-keep starts clips R.starts-paired p h (inverses_of (knots_of xs ys) cs) in
      ap₂ (λ (u v : List Float). u ++ v) a (ap₂ (λ (u v : List Float). u ++ v) b d)

  -- the clip contributes, or does not
  own-times : (p : ℕ) → p < length starts → contributed_times set s (get_elem? (active_of starts clips) p) ≡ if_own (not (m.interpolate && any (λ (b : Float). eq b (get_or starts p nan)) blocks)) (part_of times ends (get_or clips p 0))
  unfolding set_of contributes blocked_at clip_times
  own-times p h = ap (contributed_times set s) (here starts clips R.starts-paired p h)

  module _ (p : ℕ) (h : p < length starts) (own : Bool) (e : own ≡ not (m.interpolate && any (λ (b : Float). eq b (get_or starts p nan)) blocks)) where
    pub gathered-is : gathered set s p ≡ window_part starts xs ys p (if_own own (part_of times ends (get_or clips p 0))) ++ start_of (get_elem? (active_of starts clips) (suc p))
    unfolding set_of gathered
    gathered-is =
        ap (λ (l : List Float). l ++ start_of (get_elem? (active_of starts clips) (suc p)))
        (window-times p h (contributed_times set s (get_elem? (active_of starts clips) p))
        ∙ ap (window_part starts xs ys p) (own-times p h ∙ ap (λ (b : Bool). if_own b (part_of times ends (get_or clips p 0))) (sym e)))
