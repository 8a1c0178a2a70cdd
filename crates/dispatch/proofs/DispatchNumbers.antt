-- No call of a dispatcher is given 21, and no question of it 20: each number is 23, or one of the same tests as of a desk. Assumes nothing.
use Prim.Native.Nat.{ℕ, zero, suc}
use native.Mathlib.Omega.{arith}
use mathlib.Core.Path.{◌≡◌}
use mathlib.Core.Bool.{Bool, true, false, not, ◌||◌}
use mathlib.Core.List.{List}
use mathlib.Core.Option.{Option, none, some}
use lib.Dec.{leb, ltb}
use lib.ListN.{length}
use lib.Ieee.Scale.{finite}
use Rattle.definitions.specs.declared.LayerOffset.{LayerOffset}
use Rattle.definitions.specs.Lists.{◌if◌else◌, ◌then◌, any}
use Rattle.definitions.specs.ClipSet.{standing}
use Rattle.definitions.specs.Explicit.{explicit_number}
use Rattle.definitions.specs.Template.{template_number}
use Rattle.definitions.specs.Retime.{retime_number}
use Rattle.definitions.specs.Samples.{Samples, samples2, samples9}
use Rattle.definitions.specs.Questions.{stage_time_number, room_number}
use Rattle.definitions.proofs.Orders.{twenty-one-is-gone}
use Rattle.dispatch.specs.SetOrder.{OrderList, too_long, list_faulty, order_number, set_number}
use Rattle.dispatch.specs.NamedSets.{NamedSet, max_sets, names_of, has_name, set_name_number}
use Rattle.dispatch.specs.SetSamples.{SetSamples, clips_of, own_samples, sets1, set_samples_number}
use Rattle.dispatch.specs.Dispatch.{moved_at, found, dispatch_value_number, dispatch_bake_number}
use Rattle.dispatch.specs.DispatchNumbers.{AskedByNone, TwentyOneIsNotNamed, TwentyIsNotAsked}

-- neither of two in a row
neither : (a b n : ℕ) → (a ≡ n → ⊥) → (b ≡ n → ⊥) → (a then b) ≡ n → ⊥
neither zero b n f g e = g e
neither (suc a) b n f g e = f e

-- a test's number is another one
tested : (m n : ℕ) (b : Bool) (rest : ℕ) → (m ≡ n → ⊥) → (rest ≡ n → ⊥) → (m if b else rest) ≡ n → ⊥
tested m n true rest f g e = f e
tested m n false rest f g e = g e

-- a number that is none of those of the tests
abbrev Other : ℕ → Type 0
Other n = (0 ≡ n → ⊥) × (1 ≡ n → ⊥) × (2 ≡ n → ⊥) × (9 ≡ n → ⊥) × (10 ≡ n → ⊥) × (22 ≡ n → ⊥) × (23 ≡ n → ⊥)

module _ (n : ℕ) (o : Other n) where
  not_named : (name : List ℕ) (sets : List NamedSet) → set_name_number name sets ≡ n → ⊥
  unfolding set_name_number
  not_named name sets e = tested 23 n (leb max_sets (length sets) || any (has_name name) sets || too_long name) 0 o.6 o.0 e

  not_listed : (order : Option OrderList) → order_number order ≡ n → ⊥
  not_listed none e = o.0 e
  not_listed (some l) e = tested 23 n (list_faulty l) 0 o.6 o.0 e

  not-lent : (clips : List ℕ) (s : SetSamples) → set_samples_number clips s ≡ n → ⊥
  unfolding set_samples_number
  not-lent clips s e =
      let two = any (λ (own : Samples). samples2 own.times own.values own.marks) (own_samples clips s) in
      let nine = any samples9 (own_samples clips s) in
      tested 1 n (sets1 clips s) (2 if two else 9 if nine else 0) o.1 (λ e. tested 2 n two (9 if nine else 0) o.2 (λ e. tested 9 n nine 0 o.3 o.0 e) e) e

  asked : AskedByNone n
  unfolding dispatch_value_number dispatch_bake_number
  asked = record {
    value = λ sets order s t e. neither (order_number order) (set_samples_number (clips_of sets) s then stage_time_number t) n (not_listed order)
        (λ e. neither (set_samples_number (clips_of sets) s) (stage_time_number t) n (not-lent (clips_of sets) s) (λ e. tested 10 n (not (finite t.0)) 0 o.4 o.0 e) e) e;
    bake = λ sets order s room count e. neither (order_number order) (set_samples_number (clips_of sets) s then room_number room count) n (not_listed order)
        (λ e. neither (set_samples_number (clips_of sets) s) (room_number room count) n (not-lent (clips_of sets) s) (λ e. tested 22 n (ltb room count) 0 o.5 o.0 e) e) e;
  }

others-21 : Other 21
others-21 = (λ e. omega arith, λ e. omega arith, λ e. omega arith, λ e. omega arith, λ e. omega arith, λ e. omega arith, λ e. omega arith)

others-20 : Other 20
others-20 = (λ e. omega arith, λ e. omega arith, λ e. omega arith, λ e. omega arith, λ e. omega arith, λ e. omega arith, λ e. omega arith)

moved : (x : Option NamedSet) (o : LayerOffset) → moved_at x o ≡ 21 → ⊥
unfolding retime_number
moved none o e = omega arith
moved (some x) o e = twenty-one-is-gone.retiming (standing x.set) o e

pub twenty-one-is-not-named : TwentyOneIsNotNamed
twenty-one-is-not-named = record {
  explicit = λ sets name f e. neither (set_name_number name sets) (explicit_number f) 21 (not_named 21 others-21 name sets) (twenty-one-is-gone.explicit f) e;
  template = λ sets name f e. neither (set_name_number name sets) (template_number f) 21 (not_named 21 others-21 name sets) (twenty-one-is-gone.template f) e;
  install = λ sets name e. not_named 21 others-21 name sets e;
  retiming = λ sets name o e. moved (found sets (set_number name (names_of sets))) o e;
  asked = asked 21 others-21;
}

pub twenty-is-not-asked : TwentyIsNotAsked
twenty-is-not-asked = asked 20 others-20
