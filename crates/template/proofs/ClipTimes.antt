-- The clip times that are asked for, by their number; one law for each return. Assumes nothing.
use Prim.Native.Nat.{ℕ, zero, suc, ◌≤◌, ◌<◌}
use mathlib.Core.Path.{◌≡◌, refl, sym, ap, ◌∙◌}
use mathlib.Core.Bool.{true, false}
use mathlib.Core.List.{List, [], ◌∷◌, ◌++◌, map}
use mathlib.Core.Option.{Option}
use borrow.Author.Tests.{lt-ltb, le-ltb}
use lib.ListN.{length, drop, length-map}
use lib.Ieee.{Float}
use Rattle.gf.specs.Doubles.{◌⊘◌, 10000·0}
use Rattle.definitions.specs.declared.TemplateTimes.{TemplateTimes}
use Rattle.definitions.specs.Template.{promoted, template_clip_times, times_unstorable, times_disordered}
use Rattle.std.specs.Prelude.{Ok, Err}
use Rattle.definitions.specs.declared.refusal.Refusal.{Refusal}
use Rattle.definitions.specs.declared.refusal.Refusal.TheVariants.{Unstorable, DisorderedTemplate, TooManyClips, NoRoom}
use Rattle.definitions.specs.Refusals.{number_of}
use Rattle.definitions.specs.Questions.{refused, replied, reply, clip_times_number, ask_clip_times}
use Rattle.sdf.specs.Counted.{counted, listed, itself}
use Rattle.definitions.proofs.Refused.{not-zero}
use Rattle.template.specs.Expanding.{times_of_clips, SaysClipTimes}

module _ (x : TemplateTimes) (o : Option Float) (before : List Float) where
  abbrev number : ℕ
  number = clip_times_number x o (length before)

  -- ---- by the number

  refused-by : (e : Refusal) → number_of e ≡ number → SaysClipTimes x o before before (Err e)
  unfolding ask_clip_times
  refused-by e q = record { count = ap refused q ∙ counts number (λ z. not-zero e (q ∙ z)); times = keeps number (λ z. not-zero e (q ∙ z)) }
    where
      counts : (k : ℕ) → (k ≡ 0 → ⊥) → refused k ≡ counted (reply k (template_clip_times x))
      counts zero g = absurd (g refl)
      counts (suc k) g = refl

      keeps : (k : ℕ) → (k ≡ 0 → ⊥) → before ≡ listed itself (reply k (template_clip_times x)) before
      keeps zero g = absurd (g refl)
      keeps (suc k) g = refl

  -- ---- the numbers, in their order

  pub says-2 : times_unstorable x o ≡ true → SaysClipTimes x o before before (Err Unstorable)
  unfolding clip_times_number
  says-2 u = refused-by Unstorable (sym (rw (clip_times_number, u)))

  module _ (u : times_unstorable x o ≡ false) where
    pub says-7 : times_disordered x o ≡ true → SaysClipTimes x o before before (Err DisorderedTemplate)
    unfolding clip_times_number
    says-7 d = refused-by DisorderedTemplate (sym (rw (clip_times_number, u, d)))

    module _ (d : times_disordered x o ≡ false) where
      pub says-8 : 256 < length (promoted x) → SaysClipTimes x o before before (Err TooManyClips)
      unfolding clip_times_number
      says-8 h = refused-by TooManyClips (sym (rw (clip_times_number, u, d, lt-ltb 256 (length (promoted x)) h)))

      module _ (few : length (promoted x) ≤ 256) where
        pub says-22 : length before < length (promoted x) → SaysClipTimes x o before before (Err NoRoom)
        unfolding clip_times_number
        says-22 h = refused-by NoRoom (sym (rw (clip_times_number, u, d, le-ltb 256 (length (promoted x)) few, lt-ltb (length before) (length (promoted x)) h)))

        none : length (promoted x) ≤ length before → number ≡ 0
        unfolding clip_times_number
        none h = rw (clip_times_number, u, d, le-ltb 256 (length (promoted x)) few, le-ltb (length before) (length (promoted x)) h)

        pub says_all : (n : ℕ) (ts written : List Float) → n ≡ length (promoted x) → ts ≡ promoted x → written ≡ times_of_clips ts → length (promoted x) ≤ length before
            → SaysClipTimes x o before (written ++ drop n before) (Ok n)
        unfolding ask_clip_times
        says_all n ts written e t w h = record {
          count = ap replied (e ∙ sym (length-map (promoted x) (λ (t : Float). t ⊘ 10000·0))) ∙ ap (λ (k : ℕ). counted (reply k (template_clip_times x))) (sym (none h));
          times = cong-written ∙ ap (λ (k : ℕ). listed itself (reply k (template_clip_times x)) before) (sym (none h));
        }
          where
            themselves : (l : List Float) → l ≡ map itself l
            themselves [] = refl
            themselves (y ∷ l) = ap (λ (k : List Float). y ∷ k) (themselves l)

            are : written ≡ map itself (template_clip_times x)
            are = w ∙ ap times_of_clips t ∙ themselves (template_clip_times x)

            long : n ≡ length (map itself (template_clip_times x))
            long = e ∙ sym (length-map (promoted x) (λ (t : Float). t ⊘ 10000·0)) ∙ ap length (themselves (template_clip_times x))

            cong-written : written ++ drop n before ≡ map itself (template_clip_times x) ++ drop (length (map itself (template_clip_times x))) before
            cong-written = ap (λ (l : List Float). l ++ drop n before) are ∙ ap (λ (k : ℕ). map itself (template_clip_times x) ++ drop k before) long
