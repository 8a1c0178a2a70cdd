-- What stands in for a window without samples: the same as in the window before it, if that has none either. Assumes nothing.
use mathlib.Core.Path.{◌≡◌, refl, sym, ap, ap₂, ◌∙◌, subst}
use mathlib.Core.Bool.{Bool, true, false, not, ◌&&◌, cond, false≢true}
use mathlib.Core.List.{List, reverse}
use mathlib.Core.Option.{Option, none}
use Prim.Native.Nat.{ℕ, suc, ◌+◌, ◌-◌, ◌≤◌, ◌<◌}
use native.Mathlib.Omega.{arith}
use lib.Dec.{ltb}
use lib.ListN.{length, get_or, take, drop, length-drop}
use lib.Seq.{length-take-le}
use lib.Ieee.{Float, nan, eq}
use borrow.Author.Tests.{ltb-true, ltb-false}
use Rattle.definitions.specs.declared.Missing.{Missing}
use Rattle.definitions.specs.declared.Source.{Source}
use Rattle.definitions.specs.declared.Source.TheVariants.{Blocked}
use Rattle.definitions.specs.Lists.{any}
use Rattle.definitions.specs.ClipSet.{ClipSet, stage}
use Rattle.definitions.specs.Samples.{Samples, clip_begin, clip_end}
use Rattle.definitions.specs.Value.{first_reading, interpolate_missing_value, manifest_default, ◌or_else◌}
use Rattle.laws.specs.cell.Lent.{AcceptedLists, set_of, samples_of, start, active_of}
use Rattle.window.specs.Parts.{part_of}
use Rattle.window.proofs.Parts.{ready-clip, ready-readable}
use Rattle.window.specs.Windows.{min_of, max_of, if_own}
use Rattle.value.specs.direct.Reads.{read_start, first_read}
use Rattle.value.proofs.direct.ReadsLaws.{read_none, start-blocked, start-read, from_on, back_on, first-is}
use Rattle.value.specs.direct.Sources.{stand_in}
use Rattle.window.specs.declared.search.Window.{Window}
use Rattle.window.specs.search.Windowed.{samples_in}
use Rattle.value.specs.WindowOf.{WindowIs}
use Rattle.value.proofs.WindowOf.{window-gap}

module _ {starts : List Float} {clips : List ℕ} {xs ys blocks : List Float} {m : Missing} {times values : List Float} {marks ends : List ℕ} (R : AcceptedLists starts clips xs ys blocks m times values marks ends) where
  abbrev set : ClipSet
  set = set_of (length ends) starts clips xs ys blocks m

  abbrev s : Samples
  s = samples_of times values marks ends

  -- a block at the start; the clip contributes; it has samples
  abbrev stopped : ℕ → Bool
  stopped i = any (λ (b : Float). eq b (get_or starts i nan)) blocks

  abbrev own : ℕ → Bool
  own i = not (m.interpolate && stopped i)

  abbrev sampled : ℕ → Bool
  sampled i = ltb (clip_begin ends (get_or clips i 0)) (clip_end ends (get_or clips i 0))

  -- with the flag on, a start that does not contribute samples has no reading
  unread : (i : ℕ) → i < length starts → m.interpolate ≡ true → (own i && sampled i) ≡ false → none ≡ read_start blocks xs ys times ends (start (get_or starts i nan) (get_or clips i 0))
  unread i h f e = go (stopped i) refl
    where
      samples-none : (a b c : Bool) → a ≡ true → b ≡ false → (not (a && b) && c) ≡ false → c ≡ false
      samples-none true true c p q r = absurd (false≢true (sym q))
      samples-none true false c p q r = r
      samples-none false b c p q r = absurd (false≢true p)

      go : (b : Bool) → stopped i ≡ b → none ≡ read_start blocks xs ys times ends (start (get_or starts i nan) (get_or clips i 0))
      go true q = start-blocked blocks xs ys times ends starts clips R.starts-paired i q
      go false q =
          let n = ltb-false (clip_begin ends (get_or clips i 0)) (clip_end ends (get_or clips i 0)) (samples-none m.interpolate (stopped i) (sampled i) f q e) in
          let l = (ready-readable R).from (get_or clips i 0) (ready-clip R i h) in
          read_none xs ys times ends (get_or clips i 0) (stage (get_or starts i nan)) (omega arith) ∙ start-read blocks xs ys times ends starts clips R.starts-paired i q

  -- a window that has none
  unsampled : (p : ℕ) (w : Window) → WindowIs starts clips xs ys blocks m times values marks ends p w → w.end ≤ w.begin → (own p && sampled p) ≡ false
  unsampled p w W h = go (own p) (sampled p) refl refl
    where
      its-length : length (samples_in times w) ≡ w.end - w.begin
      its-length = let u = W.upto in length-take-le (w.end - w.begin) (drop w.begin times) (rw (length-drop w.begin times) (omega arith))

      part_length : length (part_of times ends (get_or clips p 0)) ≡ clip_end ends (get_or clips p 0) - clip_begin ends (get_or clips p 0)
      part_length =
          let i = (ready-readable R).inside (get_or clips p 0) (ready-clip R p W.place) in
          length-take-le (clip_end ends (get_or clips p 0) - clip_begin ends (get_or clips p 0)) (drop (clip_begin ends (get_or clips p 0)) times) (rw (length-drop (clip_begin ends (get_or clips p 0)) times) (omega arith))

      go : (a b : Bool) → own p ≡ a → sampled p ≡ b → (a && b) ≡ false
      go true true f g =
          let n = its-length in
          let k = part_length in
          let q = ap length (W.part ∙ ap (λ (x : Bool). if_own x (part_of times ends (get_or clips p 0))) f) in
          let l = ltb-true (clip_begin ends (get_or clips p 0)) (clip_end ends (get_or clips p 0)) g in
          absurd (omega arith)
      go true false f g = refl
      go false b f g = refl

  -- two starts without a reading
  module _ (q : ℕ) (h : q + 1 < length starts) (e : (own q && sampled q) ≡ false) (f : (own (q + 1) && sampled (q + 1)) ≡ false) where
    before : m.interpolate ≡ true → first_reading set s (reverse (take (q + 1) (active_of starts clips))) ≡ first_reading set s (reverse (take q (active_of starts clips)))
    before i =
        let z : q + 1 - 1 ≡ q = omega arith in
        sym (first-is R (reverse (take (q + 1) (active_of starts clips))))
        ∙ subst (λ (j : ℕ). none ≡ read_start blocks xs ys times ends (start (get_or starts j nan) (get_or clips j 0)) → first_read blocks xs ys times ends (reverse (take (q + 1) (active_of starts clips))) ≡ first_read blocks xs ys times ends (reverse (take j (active_of starts clips)))) z
        (back_on blocks xs ys times ends starts clips R.starts-paired (q + 1) (omega arith) (omega arith)) (unread q (omega arith) i e)
        ∙ first-is R (reverse (take q (active_of starts clips)))

    after : m.interpolate ≡ true → first_reading set s (drop (q + 1) (active_of starts clips)) ≡ first_reading set s (drop (q + 1 + 1) (active_of starts clips))
    after i = sym (first-is R (drop (q + 1) (active_of starts clips))) ∙ from_on blocks xs ys times ends starts clips R.starts-paired (q + 1) h (unread (q + 1) h i f) ∙ first-is R (drop (q + 1 + 1) (active_of starts clips))

    pub stands_on : stand_in set s q ≡ stand_in set s (q + 1)
    unfolding set_of interpolate_missing_value
    stands_on = ap (λ (r : Source). manifest_default set or_else r) (go m.interpolate refl)
      where
        one : suc q ≡ q + 1
        one = omega arith

        two : suc (q + 1) ≡ q + 1 + 1
        two = omega arith

        go : (b : Bool) → m.interpolate ≡ b → cond b (interpolate_missing_value set s q) Blocked ≡ cond b (interpolate_missing_value set s (q + 1)) Blocked
        go true i =
            ap₂ (λ (o u : Option Source). o or_else u or_else Blocked) (sym (before i)) (ap (λ (j : ℕ). first_reading set s (drop j (active_of starts clips))) one ∙ after i ∙ ap (λ (j : ℕ). first_reading set s (drop j (active_of starts clips))) (sym two))
        go false i = refl

  -- the window after one without samples, if it has none
  pub window_on : (q : ℕ) (v : Window) → WindowIs starts clips xs ys blocks m times values marks ends q v → v.end ≤ v.begin → v.gap ≡ stand_in set s q
      → (p : ℕ) → p ≡ q + 1 → p < length starts → (not (m.interpolate && any (λ (b : Float). eq b (get_or starts p nan)) blocks) && ltb (clip_begin ends (get_or clips p 0)) (clip_end ends (get_or clips p 0))) ≡ false
      → (w : Window) → w.start ≡ get_or starts p nan → w.clip ≡ get_or clips p 0 → w.min ≡ min_of starts p → w.max ≡ max_of starts p → w.begin ≡ clip_begin ends (get_or clips p 0) → w.end ≡ w.begin → w.gap ≡ v.gap
      → WindowIs starts clips xs ys blocks m times values marks ends p w
  window_on q v U n g p z h e w start clip min max begin end gap =
      window-gap R p h w start clip min max begin end
      (gap ∙ g ∙ stands_on q (omega arith) (unsampled q v U n) (subst (λ (j : ℕ). (own j && sampled j) ≡ false) z e) ∙ ap (λ (j : ℕ). stand_in set s j) (sym z))
      (swapped (own p) (sampled p) e)
    where
      swapped : (a b : Bool) → (a && b) ≡ false → (b && a) ≡ false
      swapped true true r = r
      swapped true false r = refl
      swapped false true r = refl
      swapped false false r = refl
