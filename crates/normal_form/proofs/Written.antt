-- Normalising, from the runs in two lists to the promise. Assumes nothing.
use mathlib.Core.Path.{◌≡◌, refl, sym, ap, ◌∙◌, subst}
use mathlib.Core.Bool.{false}
use mathlib.Core.List.{List, map}
use Prim.Native.Nat.{ℕ, ◌-◌, ◌≤◌, ◌<◌}
use native.Mathlib.Omega.{arith}
use lib.ListN.{length, get_or, take, drop, length-map}
use lib.Ieee.{Float, nan}
use Rattle.definitions.specs.Lists.{below, written_over}
use Rattle.definitions.specs.ClipSet.{max_samples, any_unstorable}
use Rattle.definitions.specs.Samples.{samples2}
use Rattle.definitions.specs.Normalize.{normalize_number}
use Rattle.definitions.specs.Track.{Outputs, slots}
use Rattle.definitions.specs.Moments.{outputs}
use Rattle.laws.proofs.list.Tests.{or-false}
use Rattle.laws.specs.list.Every.{Every}
use Rattle.laws.proofs.list.Sorting.{every-sort, length-sort}
use Rattle.lists.specs.Placed.{Inside}
use Rattle.normal_form.specs.Placed.{key_at, in_order}
use Rattle.normal_form.specs.Runs.{Run, runs, firsts, lasts, RunsFrom}
use Rattle.std.specs.Prelude.{Ok, Err}
use Rattle.definitions.specs.declared.refusal.Refusal.{Refusal}
use Rattle.definitions.specs.declared.refusal.Refusal.TheVariants.{NoRoom}
use Rattle.definitions.specs.Refusals.{number_of}
use Rattle.normal_form.specs.Normalizes.{normal_form, Normalizes, listed_number, InRuns}
use Rattle.sdf.proofs.Lent.{paired}
use Rattle.lists.proofs.ByPlaces.{length-below, below-inside}
use Rattle.normal_form.proofs.Merged.{runs-every, part-rest}
use Rattle.normal_form.proofs.Normal.{normal-length, normal-times, normal-values, normal-marks, passes, too_short, suffices, all-long}

-- a refusal writes nothing
pub untouched : (times values : List Float) (marks : List ℕ) (o : Outputs) (r : Refusal) → number_of r ≡ normalize_number times values marks (slots o) → Normalizes times values marks o o (Err r)
untouched times values marks o r e = record { number = e; count = tt; times-are = refl; values-are = refl; marks-are = refl }

-- ---- the input passes

module _ (times values : List Float) (marks : List ℕ) (z : listed_number times values marks ≡ 0) where
  pub long : (length times ≤ max_samples) × (length values ≡ length times) × (length marks ≡ length times)
  long = paired times values marks (passes times values marks z).0

  pub storable : any_unstorable times ≡ false
  unfolding samples2
  storable = (or-false (any_unstorable times) _ (passes times values marks z).1).0

pub order-inside : (times : List Float) → Every (Inside times) (in_order times)
order-inside times = every-sort (key_at times) (Inside times) (below (length times)) (below-inside (length times))

-- ---- the two lists

module _ (times values : List Float) (marks first last : List ℕ) (g : InRuns times values marks first last) where
  R : List Run
  R = runs times (in_order times)

  pub first-length : length first ≡ length (normal_form times values marks)
  unfolding R
  first-length = let l = long times values marks g.passes in ap length g.firsts-are ∙ length-map R (λ (r : Run). r.first) ∙ normal-length times values marks l.1 l.2

  pub last-length : length last ≡ length (normal_form times values marks)
  unfolding R
  last-length = let l = long times values marks g.passes in ap length g.lasts_are ∙ length-map R (λ (r : Run). r.last) ∙ normal-length times values marks l.1 l.2

  pub first-inside : Every (Inside times) first
  first-inside = subst (λ (l : List ℕ). Every (Inside times) l) (sym g.firsts-are) (runs-every times (Inside times) (in_order times) (order-inside times)).0

  last-below : (n : ℕ) → n ≡ length times → Every (λ (i : ℕ). i < n) last
  last-below n e =
      subst (λ (m : ℕ). Every (λ (i : ℕ). i < m) last) (sym e)
      (subst (λ (l : List ℕ). Every (Inside times) l) (sym g.lasts_are) (runs-every times (Inside times) (in_order times) (order-inside times)).1)

  pub last-values : Every (Inside values) last
  last-values = last-below (length values) (long times values marks g.passes).1

  pub last-marks : Every (Inside marks) last
  last-marks = last-below (length marks) (long times values marks g.passes).2

  -- an output has no room
  pub no_room : (o : Outputs) → slots o < length first → Normalizes times values marks o o (Err NoRoom)
  no_room o h = untouched times values marks o NoRoom (too_short times values marks g.passes o (omega (arith, first-length)))

  pub written : (o : Outputs) (t v : List Float) (m : List ℕ)
      → length first ≤ length o.times → length first ≤ length o.values → length first ≤ length o.marks
      → t ≡ written_over (map (λ (i : ℕ). get_or times i nan) first) o.times
      → v ≡ written_over (map (λ (i : ℕ). get_or values i nan) last) o.values
      → m ≡ written_over (map (λ (i : ℕ). get_or marks i 0) last) o.marks
      → Normalizes times values marks o (outputs t v m) (Ok (length first))
  unfolding R
  written o t v m a b c et ev em =
      let l = long times values marks g.passes in
      record {
        number = suffices times values marks g.passes o (subst (λ (n : ℕ). n ≤ slots o) first-length (all-long o (length first) a b c));
        count = first-length;
        times-are = et ∙ ap (λ (n : List Float). written_over n o.times) (ap (map (λ (i : ℕ). get_or times i nan)) g.firsts-are ∙ normal-times times values marks l.1 l.2);
        values-are = ev ∙ ap (λ (n : List Float). written_over n o.values) (ap (map (λ (i : ℕ). get_or values i nan)) g.lasts_are ∙ normal-values times values marks l.1 l.2);
        marks-are = em ∙ ap (λ (n : List ℕ). written_over n o.marks) (ap (map (λ (i : ℕ). get_or marks i 0)) g.lasts_are ∙ normal-marks times values marks l.1 l.2);
      }

-- ---- the places as they were found

pub order-length : (times : List Float) → length (in_order times) ≡ length times
order-length times = length-sort (key_at times) (below (length times)) ∙ length-below (length times)

module _ (times values : List Float) (marks places first last : List ℕ) (at : ℕ) (z : listed_number times values marks ≡ 0) (e : places ≡ in_order times) (r : RunsFrom times places first last at) where
  pub in-runs : InRuns times values marks (take (length first - at) (drop at first)) (take (length last - at) (drop at last))
  in-runs = record {
    passes = z;
    firsts-are = part-rest at first ∙ r.firsts-are ∙ ap (λ (l : List ℕ). firsts (runs times l)) e;
    lasts_are = part-rest at last ∙ r.lasts_are ∙ ap (λ (l : List ℕ). lasts (runs times l)) e;
  }
