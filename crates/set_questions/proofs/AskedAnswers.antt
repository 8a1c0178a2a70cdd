-- Each return of a dispatcher's two questions: a number, the answering set's reply with its place, and nobody's. Assumes nothing.
use Prim.Native.Nat.{ℕ, zero, suc, ◌<◌}
use native.Mathlib.Omega.{arith}
use mathlib.Core.Path.{◌≡◌, refl, sym, ap, ap₂, ◌∙◌, subst}
use mathlib.Core.Bool.{Bool, true, false, not, cond}
use mathlib.Core.List.{List, [], ◌∷◌}
use mathlib.Core.Option.{Option, none, some}
use lib.ListN.{length, get_or, length-map}
use lib.Ieee.Scale.{finite}
use borrow.Author.Tests.{le-ltb}
use Rattle.definitions.specs.declared.StageTime.{StageTime}
use Rattle.definitions.specs.declared.Answer.{Answer}
use Rattle.definitions.specs.declared.ValueRead.{ValueRead}
use Rattle.std.specs.Prelude.{Result, Ok, Err, Some}
use Rattle.definitions.specs.declared.refusal.Refusal.{Refusal}
use Rattle.definitions.specs.Refusals.{number_of}
use Rattle.definitions.proofs.Refused.{not-zero}
use Rattle.definitions.specs.Lists.{◌if◌else◌, ◌then◌}
use Rattle.definitions.specs.Questions.{Reply, refused, replied, reply, stage_time_number, room_number}
use Rattle.definitions.specs.Track.{Track, TrackOf, Outputs, slots}
use Rattle.definitions.specs.Value.{value_in_set, value_read}
use Rattle.definitions.specs.Calls.{baked_of, outputs_after, Baked as Head}
use Rattle.dispatch.specs.SetOrder.{OrderList, order_number, order_in_force}
use Rattle.dispatch.specs.NamedSets.{NamedSet, Answering, qualifies, first_qualifying, answering}
use Rattle.dispatch.specs.SetSamples.{SetSamples, clips_of, samples_at, set_samples_number}
use Rattle.dispatch.specs.Dispatch.{Placed, read_in, read_of, value_in, value_of, place_of, dispatch_value_number, dispatch_value, dispatch_bake_number}
use Rattle.dispatch.specs.DispatchCalls.{placed_track, DispatchBakes}
use Rattle.track.specs.declared.bake.Baked.{Baked}
use Rattle.track.specs.Bakes.{baked_reply}
use Rattle.standing.specs.Standing.{set_in}
use Rattle.std.specs.Prelude as Prelude
use Rattle.std.specs.Prelude.{Some, None}
use Rattle.set_order.specs.declared.AnsweringSet.{AnsweringSet}
use Rattle.set_order.specs.Answered.{answered}
use Rattle.pages.specs.Pages.{Pages, part, state_at, set_count, model, Made}
use Rattle.set_questions.specs.Asking.{AnswersOf, BakesSet, read_reply, track_reply, nobody_read, no_track, TellsValue, bake_arguments, BakesTrack}
use Rattle.pages.proofs.AskedSets.{model-long, set_at, names-of, clips-of, fit_of-is}
use Rattle.set_questions.proofs.Asked.{then-first}
use Rattle.set_questions.proofs.AskedTracks.{absent_track, always-absent, writes_nothing}

-- ---- the set that answers is one of the sets

fit-below : (fits : List Bool) (k : ℕ) → get_or fits k false ≡ true → k < length fits
fit-below [] k e = let z : ◌≡◌ {A = ℕ} 0 1 = cc in absurd (omega arith)
fit-below (b ∷ fits) zero e = omega arith
fit-below (b ∷ fits) (suc k) e = omega (arith, fit-below fits k e)

first_below : (fits : List Bool) (place : ℕ) (order : List ℕ) (a : Answering) → first_qualifying fits place order ≡ some a → a.number < length fits
unfolding first_qualifying
first_below fits place [] a e = let z : ◌≡◌ {A = ℕ} 0 1 = cc in absurd (omega arith)
first_below fits place (k ∷ rest) a e = go (get_or fits k false) refl e (first_below fits (suc place) rest a)
  where
    go : (b : Bool) → get_or fits k false ≡ b → cond b (some (record { place = place; number = k })) (first_qualifying fits (suc place) rest) ≡ some a
        → (first_qualifying fits (suc place) rest ≡ some a → a.number < length fits) → a.number < length fits
    go true q f r = let z : record { place = place; number = k } ≡ a = cc in subst (λ (x : Answering). x.number < length fits) z (fit-below fits k q)
    go false q f r = r f

-- ---- numbers in a row

then-then : (a b c : ℕ) → ((a then b) then c) ≡ (a then b then c)
then-then zero b c = refl
then-then (suc a) b c = refl

-- ---- replies by their number

refuses : {A : Type 0} (n m : ℕ) (x : A) → n ≡ m → (n ≡ 0 → ⊥) → refused n ≡ reply m x
refuses zero m x e h = absurd (h refl)
refuses (suc n) m x e h = ap (λ (k : ℕ). reply k x) e

keeps : (n m : ℕ) (track : Track) (o : Outputs) → n ≡ m → (n ≡ 0 → ⊥) → o ≡ outputs_after m track o
keeps zero m track o e h = absurd (h refl)
keeps (suc n) m track o e h = ap (λ (k : ℕ). outputs_after k track o) e

-- a bake's reply, with the place beside the answer
abbrev pub placed_reply : Option ℕ → Reply Head → Reply (Placed Head)
placed_reply place (refused n) = refused n
placed_reply place (replied b) = replied (record { answer = b; place = place })

placed-by : (place : Option ℕ) (m : ℕ) (b : Head) → placed_reply place (reply m b) ≡ reply m (record { answer = b; place = place })
placed-by place zero b = refl
placed-by place (suc m) b = refl

-- ---- a dispatcher that an operation made

-- of an order list and of the samples: the number that is asked first
abbrev pub asks : Pages → Option OrderList → SetSamples → ℕ
asks p order s = order_number order then set_samples_number (part 1 (set_count p) p.counts) s

module _ (p : Pages) (M : Made p) (order : Option OrderList) where
  answers-is : (r : Prelude.Option AnsweringSet) → AnswersOf p.counts p.bytes order r → answering order (model p) ≡ answered r
  unfolding answering
  answers-is r q = ap₂ (λ (f : List Bool) (l : List (List ℕ)). first_qualifying f 0 (order_in_force order l)) (fit_of-is p M) (names-of p) ∙ sym q

  pub answers-below : (a : AnsweringSet) → AnswersOf p.counts p.bytes order (Some a) → a.number < set_count p
  unfolding answering
  answers-below a q =
      let h = first_below _ 0 _ (record { place = a.place; number = a.number }) (answers-is (Some a) q) in
      omega (arith, h, length-map (model p) qualifies, model-long p)

  module _ (s : SetSamples) where
    -- the number, with what comes behind it
    abbrev whole : ℕ → ℕ
    whole k = order_number order then set_samples_number (clips_of (model p)) s then k

    whole_is : (k : ℕ) → (asks p order s then k) ≡ whole k
    whole_is k = then-then (order_number order) (set_samples_number (part 1 (set_count p) p.counts) s) k ∙ ap (λ (l : List ℕ). order_number order then set_samples_number l s then k) (sym (clips-of p M))

    is-refused : (n k : ℕ) → n ≡ asks p order s → (n ≡ 0 → ⊥) → n ≡ whole k
    is-refused n k e h = then-first n (asks p order s) k e h ∙ whole_is k

    is-passed : (k : ℕ) → asks p order s ≡ 0 → k ≡ whole k
    is-passed k z = ap (λ (m : ℕ). m then k) (sym z) ∙ whole_is k

    -- ---- the value

    module _ (t : StageTime) where
      abbrev reading : Option Answering → Placed ValueRead
      reading a = record { answer = read_of (model p) s a t; place = place_of a }

      pub tells-number : (n : ℕ) → n ≡ asks p order s → (n ≡ 0 → ⊥) → refused n ≡ dispatch_value (model p) order s t
      unfolding dispatch_value dispatch_value_number
      tells-number n e h = refuses n (whole (stage_time_number t)) (reading (answering order (model p))) (is-refused n (stage_time_number t) e h) h

      pub tells-10 : asks p order s ≡ 0 → finite t.0 ≡ false → refused 10 ≡ dispatch_value (model p) order s t
      unfolding dispatch_value dispatch_value_number
      tells-10 z f =
          let k : 10 ≡ stage_time_number t = ap (λ (b : Bool). 10 if not b else 0) (sym f) in
          refuses 10 (whole (stage_time_number t)) (reading (answering order (model p))) (k ∙ is-passed (stage_time_number t) z) (λ q. omega arith)

      tells : asks p order s ≡ 0 → finite t.0 ≡ true → (r : Prelude.Option AnsweringSet) → AnswersOf p.counts p.bytes order r → replied (reading (answered r)) ≡ dispatch_value (model p) order s t
      unfolding dispatch_value dispatch_value_number
      tells z f r q =
          let k : 0 ≡ stage_time_number t = ap (λ (b : Bool). 10 if not b else 0) (sym f) in
          ap₂ (λ (m : ℕ) (a : Option Answering). reply m (reading a)) (k ∙ is-passed (stage_time_number t) z) (sym (answers-is r q))

      pub tells-set : asks p order s ≡ 0 → finite t.0 ≡ true → (a : AnsweringSet) → AnswersOf p.counts p.bytes order (Some a)
          → (x : ValueRead) → x ≡ value_read (set_in (state_at p a.number).set) (samples_at (part 1 (set_count p) p.counts) s a.number) t → TellsValue p order s t (Ok (record { place = Some a.place; answer = x }))
      tells-set z f a q x g =
          ap (λ (y : ValueRead). read_reply (Ok (record { place = Some a.place; answer = y })))
          (g ∙ ap (λ (l : List ℕ). value_read (set_in (state_at p a.number).set) (samples_at l s a.number) t) (sym (clips-of p M))
          ∙ ap (λ (o : Option NamedSet). read_in o (model p) s a.number t) (sym (set_at p a.number (answers-below a q))))
          ∙ tells z f (Some a) q

      pub tells-nobody : asks p order s ≡ 0 → finite t.0 ≡ true → AnswersOf p.counts p.bytes order None → TellsValue p order s t (Ok nobody_read)
      tells-nobody z f q = tells z f None q

    -- ---- the track

    pub bakes-number : (r : Refusal) → number_of r ≡ asks p order s → (o : Outputs) → BakesTrack p (bake_arguments order s) o (Err r) o
    unfolding dispatch_bake_number
    bakes-number r e o =
        let n = number_of r in
        let h = not-zero r in
        let k = room_number (slots o) 0 in
        record {
          track = absent_track;
          is = λ a b. absurd (h (e ∙ ap₂ ◌then◌ a (ap (λ (l : List ℕ). set_samples_number l s) (sym (clips-of p M)) ∙ b)));
          replies = refuses n (whole k) (placed_track (place_of (answering order (model p))) absent_track) (is-refused n k e h) h;
          writes = keeps n (whole k) absent_track o (is-refused n k e h) h;
        }

    -- of the set that answers, whatever its track
    module _ (z : asks p order s ≡ 0) (r : Prelude.Option AnsweringSet) (q : AnswersOf p.counts p.bytes order r) (track : Track) (is : TrackOf (value_of (model p) s (answered r)) track) (before : Outputs) where
      abbrev room : ℕ
      room = room_number (slots before) (length track.changes)

      bakes : DispatchBakes (model p) (bake_arguments order s) before (reply room (placed_track (place_of (answered r)) track)) (outputs_after room track before)
      unfolding dispatch_bake_number
      bakes = record {
        track = track;
        is = λ a b. subst (λ (x : Option Answering). TrackOf (value_of (model p) s x) track) (sym (answers-is r q)) is;
        replies = ap₂ (λ (m : ℕ) (x : Option Answering). reply m (placed_track (place_of x) track)) (is-passed room z) (sym (answers-is r q));
        writes = ap (λ (m : ℕ). outputs_after m track before) (is-passed room z);
      }

    module _ (z : asks p order s ≡ 0) where
      set_value : (a : AnsweringSet) → AnswersOf p.counts p.bytes order (Some a)
          → value_in_set (set_in (state_at p a.number).set) (samples_at (part 1 (set_count p) p.counts) s a.number) ≡ value_of (model p) s (answered (Some a))
      set_value a q =
          ap (λ (l : List ℕ). value_in_set (set_in (state_at p a.number).set) (samples_at l s a.number)) (sym (clips-of p M))
          ∙ (λ i t. value_in (sym (set_at p a.number (answers-below a q)) i) (model p) s a.number t)

      pub bakes-set : (a : AnsweringSet) → AnswersOf p.counts p.bytes order (Some a)
          → (before after : Outputs) (x : Result Baked Refusal) → BakesSet (set_in (state_at p a.number).set) (samples_at (part 1 (set_count p) p.counts) s a.number) before x after
          → DispatchBakes (model p) (bake_arguments order s) before (placed_reply (some a.place) (baked_reply x)) after
      bakes-set a q before after x B =
          let track = B.track in
          let m = room_number (slots before) (length track.changes) in
          let d = bakes z (Some a) q track (subst (λ (v : StageTime → Answer). TrackOf v track) (set_value a q) B.is) before in
          let told = ap (placed_reply (some a.place)) B.replies ∙ placed-by (some a.place) m (baked_of track) in
          subst (λ (y : Reply (Placed Head)). DispatchBakes (model p) (bake_arguments order s) before y after) (sym told)
          (subst (λ (o : Outputs). DispatchBakes (model p) (bake_arguments order s) before (reply m (placed_track (some a.place) track)) o) (sym B.writes) d)

      pub bakes-nobody : AnswersOf p.counts p.bytes order None → (o : Outputs) → BakesTrack p (bake_arguments order s) o (Ok no_track) o
      bakes-nobody q o =
          let none_written : room_number (slots o) 0 ≡ 0 = ap (λ (f : Bool). 22 if f else 0) (le-ltb (slots o) 0 (omega arith)) in
          let d = bakes z None q absent_track always-absent o in
          let told : track_reply (Ok no_track) ≡ reply (room_number (slots o) 0) (placed_track none absent_track)
          = ap (λ (m : ℕ). reply m (placed_track none absent_track)) (sym none_written) in
          subst (λ (y : Reply (Placed Head)). DispatchBakes (model p) (bake_arguments order s) o y o) (sym told)
          (subst (λ (w : Outputs). DispatchBakes (model p) (bake_arguments order s) o (reply (room_number (slots o) 0) (placed_track none absent_track)) w)
          (ap (λ (m : ℕ). outputs_after m absent_track o) none_written ∙ sym (writes_nothing o)) d)
