-- What the place among the names rests on, once the shape and the name are written. Assumes nothing.
use Prim.Native.Nat.{ℕ, suc, ◌*◌, ◌≤◌, ◌<◌}
use native.Mathlib.Omega.{arith}
use native.Mathlib.Decide.{dec_le}
use mathlib.Core.Path.{◌≡◌, sym, ap, ◌∙◌, subst}
use mathlib.Core.Bool.{Bool}
use mathlib.Core.List.{List}
use lib.ListN.{length, get_or, take}
use lib.Seq.{take-take}
use lib.Ieee.{Float}
use Rattle.laws.specs.list.Every.{Every}
use Rattle.dispatch.specs.SetOrder.{max_name}
use Rattle.dispatch.specs.NamedSets.{max_sets}
use Rattle.resolver.specs.declared.Shape.{Shape}
use Rattle.set_names.specs.Pages.{NamePages}
use Rattle.pages.specs.Pages.{part, Sizes}
use Rattle.pages.specs.Placing.{ShapeStored, name_stored}
use Rattle.pages.proofs.OnePage.{kept_byte, sizes-kept, order-kept}
use Rattle.pages.proofs.NamePage.{stored-long, own-length, other_length}

module _ (defaults defaults' : List Float) (counts bytes counts' bytes' : List ℕ) (h : Shape) (n : ℕ) (few : n < max_sets) (S : Sizes defaults counts bytes) (W : ShapeStored h n defaults counts bytes defaults' counts' bytes') where
  module _ (name : List ℕ) (declares : Bool) (short : length name ≤ max_name) (P : NamePages bytes n) where
    long : length bytes' ≡ 4144
    long = (sizes-kept defaults defaults' counts bytes counts' bytes' h n few S W).of-bytes

    each : (j : ℕ) → j < suc n → get_or (name_stored name declares n bytes') (j * 256) 0 ≤ max_name
    each j g = elim (dec_le (suc j) n) [
      | yes k ↦ subst (λ (m : ℕ). m ≤ max_name) (sym (other_length bytes' name declares n few long short j k ∙ kept_byte defaults defaults' counts bytes counts' bytes' h n few S W (j * 256) (λ q. omega arith) (λ q. omega arith))) (P.short j k)
      | no k ↦ subst (λ (m : ℕ). m ≤ max_name) (sym (ap (λ (m : ℕ). get_or (name_stored name declares n bytes') (m * 256) 0) (last k) ∙ own-length bytes' name declares n few long short)) short
    ]
      where
        last : (suc j ≤ n → ⊥) → j ≡ n
        last k = omega arith

    pub named-pages : NamePages (name_stored name declares n bytes') (suc n)
    named-pages = record { room = omega (arith, stored-long bytes' name declares n few long short); short = each }

  pub order_below : Every (λ (j : ℕ). j < n) (part 65 n counts) → Every (λ (j : ℕ). j < n) (take n (part 65 16 counts'))
  order_below b = subst (Every (λ (j : ℕ). j < n)) (sym (ap (take n) (order-kept defaults defaults' counts bytes counts' bytes' h n few S W) ∙ take-take n 16 _ (omega arith))) b
