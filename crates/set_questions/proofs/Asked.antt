-- What a question of a dispatcher rests on, of one that an operation made: its number, the set that answers, and a set's page with its own samples, as they are lent. Assumes nothing.
use Prim.Native.Nat.{ℕ, zero, suc, ◌+◌, ◌-◌, ◌*◌, ◌≤◌, ◌<◌}
use native.Mathlib.Omega.{arith}
use mathlib.Core.Path.{◌≡◌, refl, sym, ap, ap₂, ◌∙◌, subst}
use mathlib.Core.Bool.{Bool, true, false}
use mathlib.Core.List.{List}
use mathlib.Core.Option.{some}
use lib.ListN.{length, get_or, take, drop}
use lib.Ieee.{Float}
use Rattle.definitions.specs.declared.StageTime.{StageTime}
use Rattle.definitions.specs.declared.ValueRead.{ValueRead}
use Rattle.definitions.specs.Lists.{◌then◌}
use Rattle.definitions.specs.ClipSet.{ClipSet, max_clips}
use Rattle.definitions.specs.Samples.{Samples, samples_number}
use Rattle.definitions.specs.Value.{value_read}
use Rattle.definitions.specs.Track.{Outputs}
use Rattle.laws.specs.list.Every.{Every}
use Rattle.laws.proofs.list.Every.{every-by}
use Rattle.laws.specs.list.Places.{Fits}
use Rattle.laws.specs.set.Sound.{Sound}
use Rattle.laws.specs.set.Accepted.{Accepted as AcceptedSamples}
use Rattle.laws.specs.cell.Lent.{set_of, samples_of}
use Rattle.laws.proofs.cell.Lent.{sound-set, sound-samples}
use Rattle.laws.proofs.cell.Numbers.{sound-values}
use Rattle.laws.proofs.cell.Tracks.{track-is}
use Rattle.dispatch.specs.SetOrder.{order_number, order_in_force, by_name}
use Rattle.dispatch.specs.NamedSets.{max_sets, first_qualifying}
use Rattle.dispatch.specs.SetSamples.{SetSamples}
use Rattle.std.specs.Prelude.{Result}
use Rattle.definitions.specs.declared.refusal.Refusal.{Refusal}
use Rattle.sdf.specs.Judged.{Judged}
use Rattle.sdf.proofs.Judged.{judged-accepted}
use Rattle.track.specs.declared.bake.Baked.{Baked}
use Rattle.track.specs.Bakes.{track_of, BakeIs}
use Rattle.standing.specs.Standing.{set_in, lent_set, Asked}
use Rattle.resolver.specs.declared.Resolver.{Resolver}
use Rattle.resolver.specs.declared.Shape.{Shape}
use Rattle.resolver.specs.State as resolver
use Rattle.resolver.specs.State.{lent_state}
use Rattle.resolver.proofs.Laws.{stands-sound, lent-is, is-asked}
use Rattle.set_names.specs.Pages.{NamePages, names_in}
use Rattle.set_names.proofs.InPages.{names-long}
use Rattle.set_names.proofs.NameOrder.{by_name-below}
use Rattle.std.specs.Prelude as Prelude
use Rattle.set_order.specs.declared.AnsweringSet.{AnsweringSet}
use Rattle.set_order.specs.Answered.{lent_list, fit_in, answered}
use Rattle.set_samples.specs.declared.Own.{Own}
use Rattle.set_samples.specs.Parting.{between, OwnAt}
use Rattle.pages.specs.Pages.{Pages, part, shape_in, state_at, set_count, Made}
use Rattle.set_questions.specs.Asking.{order_of, ClipCounts, Sorted, AnswersOf, AcceptedFor, BakesSet}
use Rattle.pages.proofs.Parts.{part-to, part-long, part_at}

-- ---- numbers in a row

pub then-first : (n a b : ℕ) → n ≡ a → (n ≡ 0 → ⊥) → n ≡ (a then b)
then-first zero a b e h = absurd (h refl)
then-first (suc n) a b e h = ap (λ (k : ℕ). k then b) e

pub then_next : (n a b : ℕ) → a ≡ 0 → n ≡ b → n ≡ (a then b)
then_next n a b z e = e ∙ ap (λ (k : ℕ). k then b) (sym z)

-- none of two
pub then-none : (a b : ℕ) → (a then b) ≡ 0 → (a ≡ 0) × (b ≡ 0)
then-none zero b e = (refl, e)
then-none (suc a) b e = absurd (omega arith)

-- ---- the order list's

module _ (given : Bool) (listed ends : List ℕ) where
  pub listed-number : (r : ℕ) → given ≡ true → r ≡ order_number (some (lent_list listed ends)) → r ≡ order_number (order_of given listed ends)
  listed-number r e q = q ∙ ap (λ (b : Bool). order_number (order_of b listed ends)) (sym e)

  pub unlisted-number : given ≡ false → order_number (order_of given listed ends) ≡ 0
  unlisted-number e = ap (λ (b : Bool). order_number (order_of b listed ends)) e

-- ---- the set that answers, from the parts that are lent

module _ (counts bytes : List ℕ) (S : Sorted counts bytes) where
  abbrev sets : ℕ
  sets = get_or counts 0 0

  abbrev starts : List ℕ
  starts = take (17 + sets - 17) (drop 17 counts)

  abbrev declares : List ℕ
  declares = take (4128 + sets - 4128) (drop 4128 bytes)

  abbrev sorted : List ℕ
  sorted = take (65 + sets - 65) (drop 65 counts)

  long-starts : length starts ≡ sets
  long-starts = ap length (part-to 17 sets counts) ∙ part-long 17 sets counts (omega (arith, S.of-counts, S.names.few))

  pub as_many : length declares ≡ length starts
  as_many = ap length (part-to 4128 sets bytes) ∙ part-long 4128 sets bytes (omega (arith, S.of-bytes, S.names.few)) ∙ sym long-starts

  pub names-paged : NamePages bytes (length starts)
  names-paged = subst (NamePages bytes) (sym long-starts) S.names.paged

  pub few-sets : length starts ≤ max_sets
  few-sets = omega (arith, long-starts, S.names.few)

  in_order : sorted ≡ by_name (names_in bytes sets) sets
  in_order = part-to 65 sets counts ∙ S.sorted

  pub in-order-below : Every (λ (k : ℕ). k < length starts) sorted
  in-order-below = subst (λ (n : ℕ). Every (λ (k : ℕ). k < n) sorted) (sym long-starts) (subst (Every (λ (k : ℕ). k < sets)) (sym in_order) (by_name-below (names_in bytes sets) sets))

  fits-are : fit_in starts declares ≡ fit_in (part 17 sets counts) (part 4128 sets bytes)
  fits-are = ap₂ (λ (a b : List ℕ). fit_in a b) (part-to 17 sets counts) (part-to 4128 sets bytes)

  module _ (given : Bool) (listed ends : List ℕ) (r : Prelude.Option AnsweringSet) where
    pub answers-listed : given ≡ true → answered r ≡ first_qualifying (fit_in starts declares) 0 (order_in_force (some (lent_list listed ends)) (names_in bytes (length starts))) → AnswersOf counts bytes (order_of given listed ends) r
    answers-listed e q =
        q
        ∙ ap₂ (λ (f : List Bool) (n : ℕ). first_qualifying f 0 (order_in_force (some (lent_list listed ends)) (names_in bytes n))) fits-are long-starts
        ∙ ap (λ (b : Bool). first_qualifying (fit_in (part 17 sets counts) (part 4128 sets bytes)) 0 (order_in_force (order_of b listed ends) (names_in bytes sets))) (sym e)

    pub answers-unlisted : given ≡ false → answered r ≡ first_qualifying (fit_in starts declares) 0 sorted → AnswersOf counts bytes (order_of given listed ends) r
    unfolding order_in_force
    answers-unlisted e q =
        q
        ∙ ap₂ (λ (f : List Bool) (l : List ℕ). first_qualifying f 0 l) fits-are (in_order ∙ ap (by_name (names_in bytes sets)) (sym (names-long bytes sets)))
        ∙ ap (λ (b : Bool). first_qualifying (fit_in (part 17 sets counts) (part 4128 sets bytes)) 0 (order_in_force (order_of b listed ends) (names_in bytes sets))) (sym e)

-- ---- what a question rests on

module _ (p : Pages) (M : Made p) where
  clips-long : length (part 1 (set_count p) p.counts) ≡ set_count p
  clips-long = part-long 1 (set_count p) p.counts (omega (arith, M.long.sizes.of-counts, M.names.few))

  few-clips : (i : ℕ) → i < set_count p → get_or p.counts (1 + i) 0 ≤ max_clips
  unfolding state_at set_of
  few-clips i h = (stands-sound (state_at p i) (M.each i h) refl).few-clips

  pub clip-counts : ClipCounts p.counts
  clip-counts = record {
    long = M.long.sizes.of-counts;
    few = record {
      few = omega (arith, clips-long, M.names.few);
      each = every-by (λ (c : ℕ). c ≤ max_clips) (part 1 (set_count p) p.counts) 0 few-at;
    };
    sets = M.names.few;
  }
    where
      few-at : (i : ℕ) → i < length (part 1 (set_count p) p.counts) → get_or (part 1 (set_count p) p.counts) i 0 ≤ max_clips
      few-at i h =
          let g : i < set_count p = omega (arith, clips-long) in
          subst (λ (c : ℕ). c ≤ max_clips) (sym (part_at 1 (set_count p) p.counts i 0 g)) (few-clips i g)

  pub names-sorted : Sorted p.counts p.bytes
  names-sorted = record { of-counts = M.long.sizes.of-counts; of-bytes = M.long.sizes.of-bytes; names = M.names; sorted = M.sorted }

-- ---- a set's own samples

-- the part of the clips that is lent has one for each set
pub clips-lent : (counts : List ℕ) → ClipCounts counts → length (take (1 + get_or counts 0 0 - 1) (drop 1 counts)) ≡ get_or counts 0 0
clips-lent counts C = ap length (part-to 1 (get_or counts 0 0) counts) ∙ part-long 1 (get_or counts 0 0) counts (omega (arith, C.long, C.sets))

pub own-accepted : (counts : List ℕ) (s : SetSamples) (k : ℕ) → k < get_or counts 0 0 → (o : Own) → OwnAt (part 1 (get_or counts 0 0) counts) s k o → (set : ClipSet) → set.clips ≡ get_or counts (1 + k) 0 → samples_number set (between s o) ≡ 0
own-accepted counts s k below o a set e = a.accepted set (e ∙ sym (part_at 1 (get_or counts 0 0) counts k 0 below))

pub bakes-alike : {set : ClipSet} {x y : Samples} {before after : Outputs} {r : Result Baked Refusal} → x ≡ y → BakesSet set y before r after → BakesSet set x before r after
bakes-alike {set = set} {before = before} {after = after} {r = r} e b = subst (λ (z : Samples). BakesSet set z before r after) (sym e) b

-- ---- one set's page, and samples that are accepted for it, as they are lent

module _ (p : Pages) (M : Made p) (k : ℕ) (below : k < set_count p) (h : Shape) (e : h ≡ shape_in p.defaults p.counts p.bytes k)
    (times values : List Float) (marks ends : List ℕ) (A : AcceptedFor (get_or p.counts (1 + k) 0) times values marks ends) (F : Every Fits times) (G : Every Fits values) where
  abbrev lent : Resolver
  lent = lent_state h (take (k * 256 + 256 - k * 256) (drop (k * 256) p.starts)) (take (k * 256 + 256 - k * 256) (drop (k * 256) p.numbers))
      (take (k * 512 + 512 - k * 512) (drop (k * 512) p.xs)) (take (k * 512 + 512 - k * 512) (drop (k * 512) p.ys)) (take (k * 256 + 256 - k * 256) (drop (k * 256) p.blocks))

  abbrev own : Samples
  own = samples_of times values marks ends

  lent-page : lent ≡ state_at p k
  unfolding state_at
  lent-page = λ i. lent_state (e i) (part-to (k * 256) 256 p.starts i) (part-to (k * 256) 256 p.numbers i) (part-to (k * 512) 512 p.xs i) (part-to (k * 512) 512 p.ys i) (part-to (k * 256) 256 p.blocks i)

  made : resolver.Made lent
  made = subst resolver.Made (sym lent-page) (M.each k below)

  stands : h.stands ≡ true
  stands = ap (λ (x : Shape). x.stands) e

  judged : Judged h.clips times values marks ends 0
  judged = record { number = λ set q. sym (A set (q ∙ ap (λ (x : Shape). x.clips) e)); times-fit = F; values-fit = G }

  abbrev lent_is : ClipSet
  lent_is = lent_set (length ends) h.counts lent.set.starts lent.set.numbers lent.set.xs lent.set.ys lent.set.blocks h.manifest

  set_is : lent_is ≡ set_in (state_at p k).set
  set_is = lent-is lent made stands judged refl ∙ ap (λ (d : Resolver). set_in d.set) lent-page

  pub page-asked : Asked h.counts lent.set.starts lent.set.numbers lent.set.xs lent.set.ys lent.set.blocks h.manifest times values marks ends
  page-asked = is-asked lent made stands judged refl

  pub page-read : (t : StageTime) (r : ValueRead) → r ≡ value_read lent_is own t → r ≡ value_read (set_in (state_at p k).set) own t
  page-read t r q = q ∙ ap (λ (x : ClipSet). value_read x own t) set_is

  pub page-bakes : (before after : Outputs) (r : Result Baked Refusal) → BakeIs lent_is own before after r → BakesSet (set_in (state_at p k).set) own before r after
  page-bakes before after r b =
      let x = set_in (state_at p k).set in
      let q = subst (λ (y : ClipSet). BakeIs y own before after r) set_is b in
      let sound : Sound x = subst (λ (d : Resolver). Sound (set_in d.set)) lent-page (stands-sound lent made stands) in
      let accepted = subst (λ (d : Resolver). AcceptedSamples (set_in d.set) own) lent-page (judged-accepted judged refl (set_in lent.set) (unfold set_of in refl)) in
      record {
        track = track_of x own;
        is = track-is x own (sound-set x sound) (sound-samples x own accepted) (sound-values x own sound accepted G);
        replies = q.replies;
        writes = q.writes;
      }
