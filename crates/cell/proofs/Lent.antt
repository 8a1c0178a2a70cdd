-- What holds of lent lists that are ready: the premises of the laws of cells, and the active start. Assumes nothing.
use mathlib.Core.Path.{◌≡◌, ap}
use mathlib.Core.List.{List}
use mathlib.Core.Option.{some}
use Prim.Native.Nat.{ℕ, ◌≤◌, ◌<◌}
use native.Mathlib.Omega.{arith}
use lib.Dec.{ltb}
use lib.ListN.{length, get_or, get_elem?}
use lib.Ieee.{Float, nan}
use Rattle.definitions.specs.declared.Missing.{Missing}
use Rattle.definitions.specs.Doubles.{FiniteDouble}
use Rattle.definitions.specs.Explicit.{knot}
use Rattle.definitions.specs.ClipSet.{ClipSet, max_knots, stage}
use Rattle.definitions.specs.Timing.{last_at_most, active_position}
use Rattle.definitions.specs.Samples.{Samples}
use Rattle.laws.proofs.list.Places.{last-inside}
use Rattle.laws.proofs.cell.Direct.{SoundSet, SoundSamples}
use Rattle.laws.specs.cell.Stretches.{several_starts}
use Rattle.laws.proofs.cell.Numbers.{SoundValues, sound-values}
use Rattle.laws.specs.cell.Lent.{AcceptedLists, set_of, samples_of, start}
use Rattle.laws.proofs.cell.Lent.{active-times, zip_length, zip-here, sound-set, sound-samples}
use Rattle.window.proofs.Parts.{ready-starts}
use Rattle.window.specs.declared.search.Window.{Window}
use Rattle.value.specs.WindowOf.{WindowIs}
use Rattle.cell.specs.declared.place.WindowPlace.{WindowPlace}
use Rattle.cell.specs.WindowPlaces.{no_place, PlaceIs, PlaceAt}

module _ {starts : List Float} {clips : List ℕ} {xs ys blocks : List Float} {m : Missing} {times values : List Float} {marks ends : List ℕ} (R : AcceptedLists starts clips xs ys blocks m times values marks ends) where
  abbrev set : ClipSet
  set = set_of (length ends) starts clips xs ys blocks m

  abbrev s : Samples
  s = samples_of times values marks ends

  -- ---- the laws' premises

  pub sound : SoundSet (set_of (length ends) starts clips xs ys blocks m)
  sound = sound-set set R.sound

  pub samples : SoundSamples (samples_of times values marks ends)
  samples = sound-samples set s R.accepted

  pub numbers : SoundValues (set_of (length ends) starts clips xs ys blocks m) (samples_of times values marks ends)
  numbers = sound-values set s R.sound R.accepted R.numbers

  -- ---- the active start

  pub several : several_starts (set_of (length ends) starts clips xs ys blocks m) ≡ ltb 1 (length starts)
  unfolding set_of
  several = ap (ltb 1) (zip_length start starts clips R.starts-paired)

  pub position : (t : Float) → active_position (set_of (length ends) starts clips xs ys blocks m).active (stage t) ≡ last_at_most starts t
  unfolding set_of active_position
  position t = ap (λ (l : List Float). last_at_most l t) (active-times starts clips R.starts-paired)

  pub start-at : (p : ℕ) → p < length starts → get_elem? (set_of (length ends) starts clips xs ys blocks m).active p ≡ some (start (get_or starts p nan) (get_or clips p 0))
  unfolding set_of
  start-at p h = zip-here start starts clips p nan 0 R.starts-paired h

  -- ---- the window of the active start

  pub place-window : (t : Float) → FiniteDouble t → (p : ℕ) (w : Window) → PlaceAt starts clips xs ys blocks m times values marks ends t p w → 0 < length starts → WindowIs starts clips xs ys blocks m times values marks ends p w
  place-window t ft p w A h = A.is.window (let e = A.place h in let l = last-inside t ft.fitting starts (ready-starts R) h in omega arith)

  -- a walk that has not begun is in no window
  pub no-place-is : (r : WindowPlace) → r ≡ no_place (length starts) → PlaceIs starts clips xs ys blocks m times values marks ends r.start r.window
  no-place-is r e =
      let n : r.start ≡ length starts = ap (λ (p : WindowPlace). p.start) e in
      record { window = λ h. absurd (omega arith); gap = λ h. absurd (omega arith) }

  pub few-knots : length xs ≤ max_knots
  unfolding set_of
  few-knots = let e = zip_length knot xs ys R.knots-paired in let l = R.sound.few-knots in omega arith
