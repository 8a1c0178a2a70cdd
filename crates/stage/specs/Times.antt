-- The stage sample times by the lists that decide them: the next one is the next of the times of all windows. Assumes nothing.
use Rattle.std.specs.Prelude.{◌≡◌, List, [], ◌∷◌, ℕ, ◌≤◌, length, Float, Option, None, Some}
use Rattle.gf.specs.Doubles.{total_key}
use Rattle.definitions.specs.Lists.{gather, below, sort_by}
use Rattle.definitions.specs.Doubles.{FiniteDouble}
use Rattle.definitions.specs.ClipSet.{max_knots}
use Rattle.definitions.specs.StageSamples.{dedup}
use Rattle.laws.specs.list.Every.{Every}
use Rattle.laws.specs.set.Stored.{Stored}
use Rattle.stage.specs.Ordered.{after}
use Rattle.stage.specs.Whole.{whole_times, Windows}

-- the times of every window, with the samples of its clip, whether it contributes or not
abbrev pub gathered_times : List Float → List ℕ → List Float → List Float → List Float → List ℕ → List Float
gathered_times starts clips xs ys times ends = gather (λ (p : ℕ). whole_times starts clips xs ys times ends p) (below (length starts))

-- the stage sample times: neither the manifest nor what the samples say has a part in them, so these six lists give the definitions' list
unfoldable pub times_of : List Float → List ℕ → List Float → List Float → List Float → List ℕ → List Float
times_of starts clips xs ys times ends = dedup (sort_by total_key (gathered_times starts clips xs ys times ends))

-- those above t
abbrev pub times_after : List Float → List ℕ → List Float → List Float → List Float → List ℕ → Float → List Float
times_after starts clips xs ys times ends t = after (gathered_times starts clips xs ys times ends) t

-- ---- the contracts

-- what the lists of a well-formed set and of accepted samples are
pub record AcceptedTimes (starts : List Float) (clips : List ℕ) (xs ys times : List Float) (ends : List ℕ) : Type 0 where
  pub windows : Windows starts clips xs ys times ends
  pub few : length xs ≤ max_knots
  pub stored-starts : Every Stored starts
  pub stored-xs : Every Stored xs
  pub stored-times : Every Stored times

-- what a question for the next one answers
abbrev pub NextTime : List Float → List ℕ → List Float → List Float → List Float → List ℕ → Float → Option Float → Type 0
NextTime starts clips xs ys times ends t (Some h) = FiniteDouble h × (times_after starts clips xs ys times ends t ≡ h ∷ times_after starts clips xs ys times ends h)
NextTime starts clips xs ys times ends t None = times_after starts clips xs ys times ends t ≡ []
