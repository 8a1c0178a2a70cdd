-- The samples' number, settled by each test in turn. Assumes nothing.
use mathlib.Core.Path.{◌≡◌, refl, sym, ap, ◌∙◌}
use mathlib.Core.Bool.{Bool, true, false, not, ◌&&◌, ◌||◌, true≢false}
use mathlib.Core.List.{List}
use Prim.Native.Nat.{ℕ}
use lib.ListN.{length}
use lib.Ieee.{Float}
use borrow.Author.Tests.{eq-eqb, ne_eqb}
use Rattle.definitions.specs.Lists.{any, zip_with}
use Rattle.definitions.specs.ClipSet.{ClipSet, any_unstorable}
use Rattle.definitions.specs.Samples.{unlike_lengths, samples1, nan_value, samples2, bad_marks, closes, samples9, samples_number, clip_times}
use Rattle.laws.specs.cell.Lent.{samples_of}
use Rattle.sdf.specs.Parts.{parts_ascend}
use Rattle.sdf.proofs.Scanned.{or-all}

module _ (times values : List Float) (marks ends : List ℕ) where
  abbrev nans : Bool
  nans = any (λ (b : Bool). b) (zip_with nan_value values marks)

  -- what `scans::sound` tells
  abbrev sound : Bool
  sound = closes 0 ends (length times) && (parts_ascend times ends && not (any_unstorable times))

  two : nans ≡ true → samples2 times values marks ≡ true
  unfolding samples2
  two e = ap (λ (b : Bool). any_unstorable times || b) e ∙ or-all (any_unstorable times)

  nine : any_unstorable times ≡ false → sound ≡ false → samples9 (samples_of times values marks ends) ≡ true
  unfolding samples9 clip_times
  nine u e = go (bad_marks marks) (closes 0 ends (length times)) (parts_ascend times ends) (any_unstorable times) u e
    where
      go : (m c a u : Bool) → u ≡ false → (c && (a && not u)) ≡ false → (m || not c || not a) ≡ true
      go m true true true u e = absurd (true≢false u)
      go m true true false u e = absurd (true≢false e)
      go true true false b u e = refl
      go false true false b u e = refl
      go true false true b u e = refl
      go true false false b u e = refl
      go false false true b u e = refl
      go false false false b u e = refl

  module _ (set : ClipSet) where
    pub unlike : unlike_lengths times values marks ≡ true → 1 ≡ samples_number set (samples_of times values marks ends)
    unfolding samples_number samples1
    unlike e = rw e

    module _ (e1 : unlike_lengths times values marks ≡ false) where
      pub other-clips : (length ends ≡ set.clips → ⊥) → 1 ≡ samples_number set (samples_of times values marks ends)
      unfolding samples_number samples1
      other-clips n = rw (e1, ne_eqb (length ends) set.clips n)

      module _ (n : length ends ≡ set.clips) where
        pub a-nan : nans ≡ true → 2 ≡ samples_number set (samples_of times values marks ends)
        unfolding samples_number samples1
        a-nan e = rw (e1, eq-eqb (length ends) set.clips n, two e)

        module _ (e2 : nans ≡ false) where
          pub unstorable : any_unstorable times ≡ true → 2 ≡ samples_number set (samples_of times values marks ends)
          unfolding samples_number samples1 samples2
          unstorable e = rw (e1, eq-eqb (length ends) set.clips n, e)

          pub unsound : any_unstorable times ≡ false → sound ≡ false → 9 ≡ samples_number set (samples_of times values marks ends)
          unfolding samples_number samples1 samples2
          unsound u e = rw (e1, eq-eqb (length ends) set.clips n, u, e2, nine u e)

          module _ (e3 : sound ≡ true) where
            each : (c a u : Bool) → (c && (a && not u)) ≡ true → (c ≡ true) × (a ≡ true) × (u ≡ false)
            each true true false e = (refl, refl, refl)
            each true true true e = absurd (true≢false (sym e))
            each true false u e = absurd (true≢false (sym e))
            each false a u e = absurd (true≢false (sym e))

            parts : (closes 0 ends (length times) ≡ true) × (parts_ascend times ends ≡ true) × (any_unstorable times ≡ false)
            parts = each (closes 0 ends (length times)) (parts_ascend times ends) (any_unstorable times) e3

            pub a-mark : bad_marks marks ≡ true → 9 ≡ samples_number set (samples_of times values marks ends)
            unfolding samples_number samples1 samples2 samples9
            a-mark e = rw (e1, eq-eqb (length ends) set.clips n, parts.2, e2, e)

            pub none-applies : bad_marks marks ≡ false → 0 ≡ samples_number set (samples_of times values marks ends)
            unfolding samples_number samples1 samples2 samples9 clip_times
            none-applies e = rw (e1, eq-eqb (length ends) set.clips n, parts.2, e2, e, parts.0, parts.1)
