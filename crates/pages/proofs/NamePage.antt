-- A name is written behind the others, and whether its set declares: what is read there, and what stays. Assumes nothing.
use Prim.Native.Nat.{ℕ, ◌+◌, ◌*◌, ◌≤◌, ◌<◌}
use native.Mathlib.Omega.{arith}
use mathlib.Core.Path.{◌≡◌, ap, ◌∙◌}
use mathlib.Core.Bool.{Bool}
use mathlib.Core.List.{List}
use lib.ListN.{length, get_or, set, length-set}
use lib.Seq.{get_or-set_same, get_or-set_other}
use Rattle.dispatch.specs.SetOrder.{max_name}
use Rattle.dispatch.specs.NamedSets.{max_sets}
use Rattle.set_names.specs.Pages.{name_in}
use Rattle.pages.specs.Pages.{part, over, bit}
use Rattle.pages.specs.Placing.{name_stored}
use Rattle.pages.proofs.Parts.{over-long, over-part, over_below, over-at, over-at-above, set_before, set-behind}

module _ (bytes name : List ℕ) (declares : Bool) (n : ℕ) (few : n < max_sets) (long : length bytes ≡ 4144) (short : length name ≤ max_name) where
  abbrev named : List ℕ
  named = over (n * 256 + 1) name bytes

  abbrev measured : List ℕ
  measured = set named (n * 256) (length name)

  within : n * 256 + 1 ≤ length bytes
  within = omega arith

  named-long : length named ≡ 4144
  named-long = over-long (n * 256 + 1) name bytes within (omega arith) ∙ long

  measured-long : length measured ≡ 4144
  measured-long = length-set named (n * 256) (length name) ∙ named-long

  pub stored-long : length (name_stored name declares n bytes) ≡ 4144
  stored-long = length-set measured (4128 + n) (bit declares) ∙ measured-long

  pub own-length : get_or (name_stored name declares n bytes) (n * 256) 0 ≡ length name
  own-length = get_or-set_other measured (4128 + n) (n * 256) (bit declares) 0 (λ q. omega arith) ∙ get_or-set_same named (n * 256) (length name) 0 (omega (arith, named-long))

  pub own_name : name_in (name_stored name declares n bytes) n ≡ name
  own_name =
      ap (λ (k : ℕ). part (n * 256 + 1) k (name_stored name declares n bytes)) own-length
      ∙ set-behind (n * 256 + 1) (length name) measured (4128 + n) (bit declares) (omega arith)
      ∙ set_before (n * 256 + 1) (length name) named (n * 256) (length name) (omega arith)
      ∙ over-part (n * 256 + 1) name bytes within

  pub own-declares : get_or (name_stored name declares n bytes) (4128 + n) 0 ≡ bit declares
  own-declares = get_or-set_same measured (4128 + n) (bit declares) 0 (omega (arith, measured-long))

  pub other_length : (j : ℕ) → j < n → get_or (name_stored name declares n bytes) (j * 256) 0 ≡ get_or bytes (j * 256) 0
  other_length j h =
      get_or-set_other measured (4128 + n) (j * 256) (bit declares) 0 (λ q. omega arith)
      ∙ get_or-set_other named (n * 256) (j * 256) (length name) 0 (λ q. omega arith)
      ∙ over-at (n * 256 + 1) name bytes within (j * 256) 0 (omega arith)

  pub other_name : (j : ℕ) → j < n → get_or bytes (j * 256) 0 ≤ max_name → name_in (name_stored name declares n bytes) j ≡ name_in bytes j
  other_name j h g =
      ap (λ (k : ℕ). part (j * 256 + 1) k (name_stored name declares n bytes)) (other_length j h)
      ∙ set-behind (j * 256 + 1) (get_or bytes (j * 256) 0) measured (4128 + n) (bit declares) (omega arith)
      ∙ set-behind (j * 256 + 1) (get_or bytes (j * 256) 0) named (n * 256) (length name) (omega arith)
      ∙ over_below (n * 256 + 1) name bytes within (j * 256 + 1) (get_or bytes (j * 256) 0) (omega arith)

  -- behind the names
  pub other_byte : (k : ℕ) → 4096 ≤ k → (k ≡ 4128 + n → ⊥) → get_or (name_stored name declares n bytes) k 0 ≡ get_or bytes k 0
  other_byte k h g =
      get_or-set_other measured (4128 + n) k (bit declares) 0 g
      ∙ get_or-set_other named (n * 256) k (length name) 0 (λ q. omega arith)
      ∙ over-at-above (n * 256 + 1) name bytes within k 0 (omega arith)
