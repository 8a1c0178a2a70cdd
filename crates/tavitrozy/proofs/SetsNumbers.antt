-- The number that a call to a dispatcher replies is the definition's, so that one which no definition gives is never replied. Assumes nothing.
use Prim.Native.Nat.{ℕ}
use mathlib.Core.Path.{◌≡◌, refl, sym, ap, ◌∙◌}
use lib.ListN.{length}
use Rattle.definitions.specs.declared.ValueRead.{ValueRead}
use Rattle.std.specs.Prelude.{Result, Ok, Err}
use Rattle.definitions.specs.declared.refusal.Refusal.{Refusal}
use Rattle.definitions.specs.Questions.{number_of}
use Rattle.definitions.specs.Track.{slots}
use Rattle.dispatch.specs.NamedSets.{answering}
use Rattle.dispatch.specs.Dispatch.{Placed, read_of, place_of, dispatch_value, dispatch_value_number, dispatch_bake_number}
use Rattle.dispatch.specs.DispatchCalls.{placed_track}
use Rattle.dispatch.specs.DispatchNumbers.{AskedByNone, NamedGivenByNone}
use Rattle.dispatch.proofs.DispatchNumbers.{twenty-one-is-not-named, twenty-is-not-asked}
use Rattle.pages.specs.Pages.{model}
use Rattle.track.specs.declared.bake.Baked.{Baked}
use Rattle.set_questions.specs.declared.Placed as code
use Rattle.set_questions.specs.Asking.{read_reply, track_reply}
use Rattle.codes.specs.declared.placed.PlacedCode.{PlacedCode}
use Rattle.codes.specs.declared.placed.PlacedBakeCode.{PlacedBakeCode}
use Rattle.codes.specs.PlacedCodes.{placed_code, placed_bake_code}
use Rattle.tavitrozy.specs.SetsNumbers.{SetsToldByNone, SetsRepliedByNone, TwentyOneIsNotRepliedOfSets, TwentyIsNotToldOfSets}
use Rattle.tavitrozy.proofs.Numbers.{answer-number, reply-number}

read_number : (r : Result (code.Placed ValueRead) Refusal) → number_of (read_reply r) ≡ (placed_code r).reply.number
read_number (Ok x) = answer-number x.answer.answer x.answer.sample
read_number (Err r) = refl

track-number : (r : Result (code.Placed Baked) Refusal) → number_of (track_reply r) ≡ (placed_bake_code r).baked.number
track-number (Ok x) = refl
track-number (Err r) = refl

pub told-by-none : (n : ℕ) → AskedByNone n → SetsToldByNone n
unfolding dispatch_value
told-by-none n g = record {
  value = λ p order s t r k e.
      let x : Placed ValueRead = record { answer = read_of (model p) s (answering order (model p)) t; place = place_of (answering order (model p)) } in
      g.value (model p) order s t (reply-number (dispatch_value_number (model p) order s t) x ∙ sym (ap number_of k.told) ∙ read_number k.reply ∙ sym (ap (λ (c : PlacedCode). c.reply.number) k.code) ∙ e);
  bake = λ p a before after r k e.
      let changes = length k.told.track.changes in
      let x = placed_track (place_of (answering a.order (model p))) k.told.track in
      g.bake (model p) a.order a.samples (slots before) changes
      (reply-number (dispatch_bake_number (model p) a.order a.samples (slots before) changes) x ∙ sym (ap number_of k.told.replies) ∙ track-number k.reply ∙ sym (ap (λ (b : PlacedBakeCode). b.baked.number) k.code) ∙ e);
}

pub replied-by-none : (n : ℕ) → NamedGivenByNone n → SetsRepliedByNone n
replied-by-none n g = record {
  accept = λ p q name declares f number k e. g.explicit (model p) name f (sym k.is ∙ e);
  accept-template = λ p q name declares f number k e. g.template (model p) name f (sym k.is ∙ e);
  install = λ p q name declares set number k e. g.install (model p) name (sym k.is ∙ e);
  retime = λ p q name o number k e. g.retiming (model p) name o (sym k.is ∙ e);
  told = told-by-none n g.asked;
}

pub twenty-one-is-not-replied-of-sets : TwentyOneIsNotRepliedOfSets
twenty-one-is-not-replied-of-sets = replied-by-none 21 twenty-one-is-not-named

pub twenty-is-not-told-of-sets : TwentyIsNotToldOfSets
twenty-is-not-told-of-sets = told-by-none 20 twenty-is-not-asked
