-- Likeness of entries by the tests of `alike`. Assumes nothing.
use mathlib.Core.Path.{◌≡◌}
use mathlib.Core.Bool.{true, false}
use lib.Ieee.{eq}
use borrow.Author.Tests.{eq-eqb, ne_eqb}
use Rattle.definitions.specs.Track.{Entry, alike}

module _ (a b : Entry) where
  pub unlike-marks : (a.mark ≡ b.mark → ⊥) → false ≡ alike a b
  unfolding alike
  unlike-marks n = rw (ne_eqb a.mark b.mark n)

  pub like-marks : a.mark ≡ b.mark → (a.mark ≡ 0 → ⊥) → true ≡ alike a b
  unfolding alike
  like-marks e n = rw (eq-eqb a.mark b.mark e, ne_eqb a.mark 0 n)

  pub like-numbers : a.mark ≡ b.mark → a.mark ≡ 0 → eq a.value b.value ≡ alike a b
  unfolding alike
  like-numbers e z = rw (eq-eqb a.mark b.mark e, eq-eqb a.mark 0 z)
