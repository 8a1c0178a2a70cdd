-- What a source says by the lent lists, and that a sample that is read lies in them. Assumes nothing.
use mathlib.Core.Path.{◌≡◌, refl, sym, ap, ap₂, ◌∙◌}
use mathlib.Core.List.{List}
use Prim.Native.Nat.{ℕ, ◌+◌}
use native.Mathlib.Omega.{arith}
use lib.ListN.{length}
use lib.Ieee.{Float}
use Rattle.definitions.specs.declared.Missing.{Missing}
use Rattle.definitions.specs.declared.StageTime.{StageTime}
use Rattle.definitions.specs.declared.Source.{Source}
use Rattle.definitions.specs.declared.Source.TheVariants.{Sample as sample, Default as default, Blocked as blocked, Absent as absent}
use Rattle.definitions.specs.declared.Answer.{Answer}
use Rattle.definitions.specs.declared.Answer.TheVariants.{Value, Blocked, Absent}
use Rattle.definitions.specs.ClipSet.{ClipSet}
use Rattle.definitions.specs.Samples.{Samples, clip_begin}
use Rattle.definitions.specs.Value.{SampleRead, says, value_source, value_in_set, sample_read, value_read}
use Rattle.laws.proofs.cell.Readings.{Placed, value-placed}
use Rattle.laws.specs.cell.Lent.{set_of, samples_of, AcceptedLists}
use Rattle.sdf.specs.look.Reads.{marked_at}
use Rattle.value.specs.Answers.{answer_in, Answerable}

-- ---- the cases of the program

module _ (m : Missing) (values : List Float) (marks ends : List ℕ) (r : Source) where
  -- the place is the clip's beginning, found as b, and i more
  pub says-sample : (c i b : ℕ) → r ≡ sample c i → b ≡ clip_begin ends c → marked_at values marks (b + i) ≡ answer_in m values marks ends r
  unfolding answer_in
  says-sample c i b e q = rw e (rw (← q))

  pub says-default : r ≡ default → Value m.default.value ≡ answer_in m values marks ends r
  unfolding answer_in
  says-default e = rw e

  pub says-blocked : r ≡ blocked → Blocked ≡ answer_in m values marks ends r
  unfolding answer_in
  says-blocked e = rw e

  pub says-absent : r ≡ absent → Absent ≡ answer_in m values marks ends r
  unfolding answer_in
  says-absent e = rw e

-- ---- what is read lies in the lists

module _ {starts : List Float} {clips : List ℕ} {xs ys blocks : List Float} {m : Missing} {times values : List Float} {marks ends : List ℕ} (R : AcceptedLists starts clips xs ys blocks m times values marks ends) where
  abbrev set : ClipSet
  set = set_of (length ends) starts clips xs ys blocks m

  abbrev s : Samples
  s = samples_of times values marks ends

  pub says-ready : (r : Source) → answer_in m values marks ends r ≡ says set s r
  unfolding set_of answer_in says
  says-ready (sample c i) = refl
  says-ready default = refl
  says-ready blocked = refl
  says-ready absent = refl

  pub ready-marks : length marks ≡ length values
  ready-marks = R.accepted.marks ∙ sym R.accepted.values

  pub value_in : (t : StageTime) → Answerable (length values) ends (value_source set s t)
  unfolding set_of
  value_in t = go (value_source set s t) (value-placed set s R.sound R.accepted t)
    where
      go : (r : Source) → Placed ends r → Answerable (length values) ends r
      go (sample c i) p = (p.0, omega (arith, p.1, R.accepted.inside c p.0, R.accepted.values))
      go default p = tt
      go blocked p = tt
      go absent p = tt

  -- ---- the value, and beside it its sample, by the source that was found

  module _ (t : StageTime) (r : Source) (found : r ≡ value_source set s t) where
    answers-value : answer_in m values marks ends r ≡ value_in_set set s t
    unfolding value_in_set
    answers-value = says-ready r ∙ ap (says set s) found

    pub reads-value : (a : Answer) (x : SampleRead) → a ≡ answer_in m values marks ends r → x ≡ sample_read a r → record { answer = a; sample = x } ≡ value_read set s t
    unfolding value_read
    reads-value a x e f = let q = e ∙ answers-value in ap₂ (λ (b : Answer) (y : SampleRead). record { answer = b; sample = y }) q (f ∙ ap₂ sample_read q found)
