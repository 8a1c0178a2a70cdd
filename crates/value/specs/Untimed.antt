-- The answer without a time, case by case. Assumes nothing.
use Rattle.std.specs.Prelude.{Bool, ◌||◌, cond, List, ℕ, eqb, ltb, length}
use Rattle.definitions.specs.declared.Missing.{Missing}
use Rattle.definitions.specs.Lists.{any}
use Rattle.definitions.specs.ClipSet.{mark_value}
use Rattle.definitions.specs.Samples.{clip_begin, clip_end}
use Rattle.definitions.specs.declared.ValueState.{ValueState}
use Rattle.definitions.specs.declared.ValueState.TheVariants.{Present, Blocked, Absent}

abbrev pub has_samples : List ℕ → ℕ → Bool
has_samples ends c = ltb (clip_begin ends c) (clip_end ends c)

-- by the clips that the starts name. None: absent; one with samples, or a default that is a value: present; else blocked
abbrev pub untimed_of : List ℕ → Missing → List ℕ → ValueState
untimed_of clips m ends = cond (eqb (length clips) 0) Absent (cond (any (has_samples ends) clips || eqb m.default.mark mark_value) Present Blocked)
