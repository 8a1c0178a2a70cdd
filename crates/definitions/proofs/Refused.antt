-- A refusal's number is never 0, which is that of a reply. Assumes nothing.
use Prim.Native.Nat.{ℕ, suc}
use native.Mathlib.Omega.{arith}
use mathlib.Core.Path.{◌≡◌, refl, sym, ap, ◌∙◌}
use Rattle.definitions.specs.declared.refusal.Refusal.{Refusal}
use Rattle.definitions.specs.declared.refusal.Refusal.TheVariants.{Misshapen, Unstorable, NoClipNumber, EqualStarts, ThreeEqualKnots, UnreadableTemplate, DisorderedTemplate, TooManyClips, BadSamples, TimeNotFinite, NoSet, NoRoom, NotTaken}
use Rattle.definitions.specs.Lists.{◌then◌}
use Rattle.definitions.specs.Questions.{reply, refused}
use Rattle.definitions.specs.Refusals.{number_of}

pub above-zero : (r : Refusal) → (n : ℕ) × (number_of r ≡ suc n)
above-zero Misshapen = (0, refl)
above-zero Unstorable = (1, refl)
above-zero NoClipNumber = (2, refl)
above-zero EqualStarts = (3, refl)
above-zero ThreeEqualKnots = (4, refl)
above-zero UnreadableTemplate = (5, refl)
above-zero DisorderedTemplate = (6, refl)
above-zero TooManyClips = (7, refl)
above-zero BadSamples = (8, refl)
above-zero TimeNotFinite = (9, refl)
above-zero NoSet = (19, refl)
above-zero NoRoom = (21, refl)
above-zero NotTaken = (22, refl)

pub not-zero : (r : Refusal) → number_of r ≡ 0 → ⊥
not-zero r z = let p = above-zero r in absurd (omega (arith, p.1))

-- a number that is a refusal's refuses
pub refuses : {A : Type 0} (r : Refusal) (n : ℕ) (a : A) → number_of r ≡ n → refused (number_of r) ≡ reply n a
refuses {A = A} r n a e =
    let p = above-zero r in
    ap refused p.1 ∙ ap (λ (k : ℕ). reply k a) (sym p.1 ∙ e)

-- and the tests after it do not count
pub comes-first : (r : Refusal) (n m : ℕ) → number_of r ≡ n → number_of r ≡ (n then m)
comes-first r n m e =
    let p = above-zero r in
    p.1 ∙ ap (λ (k : ℕ). k then m) (sym p.1 ∙ e)
