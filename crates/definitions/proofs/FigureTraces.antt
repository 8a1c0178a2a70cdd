-- A run on the plain desk with examinings in it, computed by the definitions, and the one without them: the premises of `NoTrace` can be met. Assumes nothing.
use mathlib.Core.Path.{◌≡◌, refl, sym, ap, ◌∙◌}
use Prim.Native.Nat.{ℕ}
use mathlib.Core.List.{List, [], ◌∷◌}
use lib.Ieee.{round, neg, add, sub, mul, div, lt, le, eq, to_bits, of_bits, is_nan}
use Rattle.gf.specs.Doubles.{within, key, of_key, is_whole, truncated, is_clip_number, sign_bit, total_key}
use Rattle.definitions.specs.ClipSet.{Model, no_set, standing, nan_default, beyond_limits, equal_starts, equal_knots, bad_default_mark}
use Rattle.definitions.specs.Explicit.{explicit_set, explicit_number, explicit1, explicit2, explicit3}
use Rattle.definitions.specs.Template.{template_number}
use Rattle.definitions.specs.Retime.{moved_number, apply, is_identity, moved, sorted, retime_stage_times, retime_number}
use Rattle.definitions.specs.Calls.{Call, explicit, template, install, retime, bake, step}
use Rattle.definitions.specs.Examining.{Fields, explicitly, Examined, examine}
use Rattle.definitions.specs.Traces.{Ask, call, examining, Replies, without, kept, Run}
use Rattle.definitions.proofs.Traces.{Settled, no-trace}
use Rattle.definitions.proofs.Sets.{two}
use Rattle.definitions.proofs.FigureInstallings.{prepared, seven, unnamed, moving}

-- its replies are its numbers
abbrev Told : Call → Type 0
Told c = ℕ

abbrev number : Model → Call → ℕ
number m (explicit f) = explicit_number f
number m (template f) = template_number f
number m (install set) = 0
number m (retime o) = retime_number m o
number m (bake s o) = 0

abbrev Does : (c : Call) → Model → Told c → Model → Type 0
Does c m k e = (k ≡ number m c) × (e ≡ step m c)

abbrev Looks : Fields → Examined → Type 0
Looks f x = x ≡ examine f

abbrev asks : List (Ask Told)
asks = examining (explicitly unnamed) ∷ call moving ∷ call (explicit two) ∷ examining (explicitly seven) ∷ call moving ∷ call (install (prepared two)) ∷ examining (explicitly two) ∷ call (explicit unnamed) ∷ []

abbrev replies : Replies Told asks
replies = (examine (explicitly unnamed), (20, (0, (examine (explicitly seven), (0, (0, (examine (explicitly two), (3, tt))))))))

abbrev others-alone : Replies Told (without Told asks)
others-alone = (20, (0, (0, (0, (3, tt)))))

-- each of them settled by what stands
abbrev model : Model → Model
model m = m

abbrev Made : Model → Type 0
Made m = Unit {0}

settles : (c : Call) (d d' e e' : Model) (r r' : Told c) → Made d → Made d' → model d ≡ model d' → Does c d r e → Does c d' r' e' → Settled Told Does Looks model Made c r r' e e'
settles c d d' e e' r r' m m' q (a, b) (a', b') = record { reply = a ∙ ap (λ (x : Model). number x c) q ∙ sym a'; stands = b ∙ ap (λ (x : Model). step x c) q ∙ sym b'; made = tt; made' = tt }

record FigureTraces : Type 0 where
  asked : Run Told Does Looks no_set asks replies (standing (explicit_set two))
  others : kept Told asks replies ≡ others-alone

computed : FigureTraces
unfolding
    round neg add sub mul div lt le eq to_bits of_bits is_nan within key of_key is_whole truncated sign_bit total_key nan_default beyond_limits equal_starts equal_knots bad_default_mark explicit_set
    explicit_number explicit1 explicit2 explicit3 is_clip_number apply is_identity moved_number moved sorted retime_stage_times retime_number step examine
computed = record { asked = (refl, (_, (refl, refl), (_, (refl, refl), (refl, (_, (refl, refl), (_, (refl, refl), (refl, (_, (refl, refl), refl)))))))); others = refl }

-- so whoever asks the calls alone has these replies
without-them : (r : Replies Told (without Told asks)) (e : Model) → Run Told Does Looks no_set (without Told asks) r e → others-alone ≡ r
without-them r e run = sym computed.others ∙ (no-trace Told Does Looks model Made settles asks no_set no_set (standing (explicit_set two)) e replies r tt tt refl computed.asked run).0
