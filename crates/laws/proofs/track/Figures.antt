-- A step function's track on a few keys, computed from the definitions: a value that is like the one before makes no change.
use mathlib.Core.Path.{◌≡◌, refl}
use mathlib.Core.List.{List, [], ◌∷◌}
use Prim.Native.Nat.{ℕ}
use native.Mathlib.Decide.{ℕ_discrete, dec_le}
use Rattle.laws.specs.track.Track.{Change, grown, changes_to}
use Rattle.laws.proofs.track.Track.{held_at}

abbrev at : ℕ → ℕ → Change ℕ
at k a = record { key = k; value = a }

abbrev table : List (Change ℕ)
table = at 3 5 ∷ at 7 6 ∷ at 9 6 ∷ at 12 5 ∷ []

pub figure : changes_to ℕ_discrete (held_at 5 table) 0 20 ≡ at 7 6 ∷ at 12 5 ∷ []
unfolding changes_to grown held_at ℕ_discrete dec_le
figure = refl
