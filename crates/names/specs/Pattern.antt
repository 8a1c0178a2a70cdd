-- A pattern by the places of its parts, as the definitions' `HashPattern`. Assumes nothing.
use Rattle.std.specs.Prelude.{ℕ, zero, suc, ◌+◌, ◌≤◌, ◌≡◌, Bool, cond, List, [], ◌∷◌, eqb, length, take, drop}
use Rattle.std.proofs.Math.Option.{Option, none, some}
use Rattle.definitions.specs.Lists.{any}
use Rattle.definitions.specs.Names.{HashPattern, hash, dot, hash_run, split}
use Rattle.names.specs.declared.pattern.Pattern.{Pattern}

-- the run of `#` behind a `.` that the bytes begin with: 0 without one
abbrev pub fraction_run : List ℕ → ℕ
fraction_run [] = 0
fraction_run (b ∷ bs) = cond (eqb b dot) (hash_run bs) 0

abbrev pub has_hash : List ℕ → Bool
has_hash bs = any (λ (b : ℕ). eqb b hash) bs

-- a second run has one `#` at least, so 0 says that there is none
abbrev pub width_of : ℕ → Option ℕ
width_of zero = none
width_of (suc k) = some (suc k)

abbrev pub pattern_of : List ℕ → Pattern → HashPattern
pattern_of template p = record {
  prefix = take p.first template;
  int_width = p.width;
  frac_width = width_of p.fraction;
  suffix = drop p.suffix template;
}

-- how many bytes of the template, or of a body, a fraction takes: its run and the `.`
abbrev pub with_dot : ℕ → ℕ
with_dot zero = 0
with_dot (suc k) = suc (suc k)

-- the places are those of the split template, and lie in it one after the other
pub record Parses (template : List ℕ) (p : Pattern) : Type 0 where
  pub is : pattern_of template p ≡ split template
  pub joined : p.first + p.width + with_dot p.fraction ≡ p.suffix
  pub held : p.suffix ≤ length template
