-- The answer without a time is that of the set. Assumes nothing.
use mathlib.Core.Path.{◌≡◌, refl, sym, ap, ap₂, ◌∙◌}
use mathlib.Core.Bool.{Bool, true, false, not, ◌||◌, cond}
use mathlib.Core.List.{List, [], ◌∷◌}
use Prim.Native.Nat.{ℕ, ◌-◌, ◌<◌}
use native.Mathlib.Omega.{arith}
use lib.Dec.{eqb, ltb}
use lib.ListN.{length, drop, length-drop}
use lib.Seq.{length-take-le}
use lib.Ieee.{Float}
use borrow.Author.Tests.{eq-eqb, ne_eqb, ltb-true, ltb-false}
use Rattle.definitions.specs.declared.Missing.{Missing}
use Rattle.definitions.specs.declared.Start.{Start}
use Rattle.definitions.specs.Lists.{any}
use Rattle.definitions.specs.ClipSet.{ClipSet, mark_value}
use Rattle.definitions.specs.Samples.{Samples, clip_begin, clip_end, clip_times}
use Rattle.definitions.specs.StageSamples.{any_samples, untimed, untimed_answer}
use Rattle.definitions.specs.declared.ValueState.TheVariants.{Present, Blocked, Absent}
use Rattle.laws.specs.list.Every.{Every}
use Rattle.laws.specs.cell.Lent.{active_of, set_of, samples_of, AcceptedLists}
use Rattle.value.specs.Untimed.{has_samples, untimed_of}

some-samples : (n b e : ℕ) → n ≡ e - b → not (eqb n 0) ≡ ltb b e
some-samples n b e q = go (ltb b e) refl
  where
    go : (c : Bool) → ltb b e ≡ c → not (eqb n 0) ≡ c
    go true h = let l = ltb-true b e h in ap not (ne_eqb n 0 (λ z. omega arith))
    go false h = let l = ltb-false b e h in ap not (eq-eqb n 0 (omega arith))

module _ {starts : List Float} {clips : List ℕ} {xs ys blocks : List Float} {m : Missing} {times values : List Float} {marks ends : List ℕ} (R : AcceptedLists starts clips xs ys blocks m times values marks ends) where
  abbrev set : ClipSet
  set = set_of (length ends) starts clips xs ys blocks m

  abbrev s : Samples
  s = samples_of times values marks ends

  pub clips-named : Every (λ (c : ℕ). c < length ends) clips
  unfolding set_of
  clips-named = go starts clips R.starts-paired R.sound.named
    where
      go : (a : List Float) (b : List ℕ) → length a ≡ length b → Every (λ (k : Start). k.clip < length ends) (active_of a b) → Every (λ (c : ℕ). c < length ends) b
      go [] [] e h = tt
      go [] (y ∷ b) e h = absurd (omega arith)
      go (x ∷ a) [] e h = absurd (omega arith)
      go (x ∷ a) (y ∷ b) e h = (h.0, go a b (omega arith) h.1)

  one : (c : ℕ) → c < length ends → not (eqb (length (clip_times s c)) 0) ≡ has_samples ends c
  unfolding set_of clip_times
  one c h =
      some-samples (length (clip_times s c)) (clip_begin ends c) (clip_end ends c)
      (length-take-le (clip_end ends c - clip_begin ends c) (drop (clip_begin ends c) times) (omega (arith, length-drop (clip_begin ends c) times, R.accepted.inside c h)))

  any-is : any_samples set s ≡ any (has_samples ends) clips
  unfolding set_of any_samples
  any-is = go starts clips R.starts-paired clips-named
    where
      go : (a : List Float) (b : List ℕ) → length a ≡ length b → Every (λ (c : ℕ). c < length ends) b → any (λ (k : Start). not (eqb (length (clip_times s k.clip)) 0)) (active_of a b) ≡ any (has_samples ends) b
      go [] [] e h = refl
      go [] (y ∷ b) e h = absurd (omega arith)
      go (x ∷ a) [] e h = absurd (omega arith)
      go (x ∷ a) (y ∷ b) e h = ap₂ (λ (u v : Bool). u || v) (one y h.0) (go a b (omega arith) h.1)

  -- the lists that are read tell it of the set
  pub untimed-is : untimed_of clips m ends ≡ untimed_answer (set_of (length ends) starts clips xs ys blocks m) (samples_of times values marks ends)
  unfolding set_of untimed_answer
  untimed-is = go starts clips R.starts-paired (any (has_samples ends) clips || eqb m.default.mark mark_value) ∙ ap (λ (a : Bool). untimed (active_of starts clips) (a || eqb m.default.mark mark_value)) (sym any-is)
    where
      go : (a : List Float) (b : List ℕ) → length a ≡ length b → (v : Bool) → cond (eqb (length b) 0) Absent (cond v Present Blocked) ≡ untimed (active_of a b) v
      go [] [] e v = refl
      go [] (y ∷ b) e v = absurd (omega arith)
      go (x ∷ a) [] e v = absurd (omega arith)
      go (x ∷ a) (y ∷ b) e v = rw (ne_eqb (length (y ∷ b)) 0 (λ z. omega arith))
