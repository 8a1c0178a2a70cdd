-- A set under a name: one law for each return of an acceptance and of an installing. Assumes nothing.
use Prim.Native.Nat.{ℕ, zero, suc}
use mathlib.Core.Path.{◌≡◌, refl, sym, ap, ◌∙◌}
use mathlib.Core.Bool.{Bool, ◌||◌}
use mathlib.Core.List.{List}
use lib.Dec.{leb}
use Rattle.definitions.specs.Lists.{◌if◌else◌, ◌then◌, any}
use Rattle.definitions.specs.ClipSet as definitions
use Rattle.definitions.specs.Explicit.{ExplicitFields, explicit_number, explicit_set}
use Rattle.definitions.specs.Template.{TemplateFields, template_number, template_set}
use Rattle.definitions.specs.Calls.{accepted}
use Rattle.definitions.specs.Examining.{Fields, explicitly, by_template, fields_number, fields_set, Examined, examine, empty_set}
use Rattle.clip.specs.declared.ClipSet as clip
use Rattle.std.specs.Prelude.{Ok, Err}
use Rattle.definitions.specs.declared.refusal.Refusal.{Refusal}
use Rattle.definitions.specs.Refusals.{number_of}
use Rattle.definitions.proofs.Refused.{not-zero}
use Rattle.clip.specs.Holding.{clip_set_of}
use Rattle.clip.specs.Preparing.{Examines}
use Rattle.dispatch.specs.SetOrder.{too_long, same_name}
use Rattle.dispatch.specs.NamedSets.{NamedSet, max_sets, has_name, set_name_number, with_set}
use Rattle.dispatch.specs.DispatchCalls.{dispatch_step}
use Rattle.pages.specs.Pages.{Pages, set_count, model, Made}
use Rattle.set_changes.specs.Promises.{name_number, Extends, Installs, Accepts, Expands}
use Rattle.set_changes.proofs.NameTaken.{by_names}
use Rattle.pages.proofs.AskedSets.{model-long, names-of}

-- 23 by the pages is 23 by the plain dispatcher
name-number : (p : Pages) (name : List ℕ) → name_number p.counts p.bytes name ≡ set_name_number name (model p)
unfolding set_name_number
name-number p name =
    ap (λ (b : Bool). 23 if leb max_sets (set_count p) || b || too_long name else 0) (sym (by_names name (model p) ∙ ap (any (λ (x : List ℕ). same_name x name)) (names-of p)))
    ∙ ap (λ (n : ℕ). 23 if leb max_sets n || any (has_name name) (model p) || too_long name else 0) (sym (model-long p))

module _ {A : Type 0} where
  pub accepted-refused : (n : ℕ) (before after : A) → (n ≡ 0 → ⊥) → before ≡ accepted n before after
  accepted-refused zero b a h = absurd (h refl)
  accepted-refused (suc n) b a h = refl

  pub accepted-granted : (n : ℕ) (before after : A) → n ≡ 0 → after ≡ accepted n before after
  accepted-granted n b a e = ap (λ (k : ℕ). accepted k b a) (sym e)

-- ---- the number of the name, then that of the set

then-first : (n m : ℕ) → (n ≡ 0 → ⊥) → n ≡ (n then m)
then-first zero m h = absurd (h refl)
then-first (suc n) m h = refl

then-second : (n m : ℕ) → n ≡ 0 → m ≡ (n then m)
then-second n m e = ap (λ (k : ℕ). k then m) (sym e)

then-none : (n : ℕ) → n ≡ (n then 0)
then-none zero = refl
then-none (suc n) = refl

-- what stands after a set x with the number m of its own is asked for under a name
module _ (p : Pages) (name : List ℕ) (declares : Bool) (m : ℕ) (x : definitions.ClipSet) where
  abbrev number : ℕ
  number = set_name_number name (model p) then m

  abbrev stepped : List NamedSet
  stepped = accepted number (model p) (with_set (model p) name declares x)

  abbrev Right : ℕ → List NamedSet → Type 0
  Right n sets = (n ≡ number) × (sets ≡ stepped)

  by_name : (n : ℕ) → n ≡ name_number p.counts p.bytes name → (n ≡ 0 → ⊥) → Right n (model p)
  by_name n e h =
      let k : n ≡ number = then-first n m h ∙ ap (λ (j : ℕ). j then m) (e ∙ name-number p name) in
      (k, accepted-refused number (model p) (with_set (model p) name declares x) (λ z. h (k ∙ z)))

  by-fields : name_number p.counts p.bytes name ≡ 0 → (m ≡ 0 → ⊥) → Right m (model p)
  by-fields e h =
      let k : m ≡ number = then-second (set_name_number name (model p)) m (sym (name-number p name) ∙ e) in
      (k, accepted-refused number (model p) (with_set (model p) name declares x) (λ z. h (k ∙ z)))

  granted : name_number p.counts p.bytes name ≡ 0 → m ≡ 0 → (sets : List NamedSet) → sets ≡ with_set (model p) name declares x → Right 0 sets
  granted e z sets q =
      let k : 0 ≡ number = sym z ∙ then-second (set_name_number name (model p)) m (sym (name-number p name) ∙ e) in
      (k, q ∙ accepted-granted number (model p) (with_set (model p) name declares x) (sym k))

-- ---- installing

module _ (p : Pages) (M : Made p) (name : List ℕ) (declares : Bool) (s : clip.ClipSet) where
  pub install-refused : (r : Refusal) → number_of r ≡ name_number p.counts p.bytes name → Installs p name declares s (number_of r) p
  unfolding dispatch_step
  install-refused r e =
      let q = by_name p name declares 0 (clip_set_of s) (number_of r) e (not-zero r) in
      record {
        is = e ∙ name-number p name;
        kept = λ z. refl;
        stands = q.1 ∙ ap (λ (k : ℕ). accepted k (model p) (with_set (model p) name declares (clip_set_of s))) (sym (then-none (set_name_number name (model p))));
        made = M;
      }

  pub installed : (q : Pages) → name_number p.counts p.bytes name ≡ 0 → Extends p name declares s q → Installs p name declares s 0 q
  unfolding dispatch_step
  installed q e x =
      let r = granted p name declares 0 (clip_set_of s) e refl (model q) x.stands in
      record {
        is = sym e ∙ name-number p name;
        kept = λ z. absurd (z refl);
        stands = r.1 ∙ ap (λ (k : ℕ). accepted k (model p) (with_set (model p) name declares (clip_set_of s))) (sym (then-none (set_name_number name (model p))));
        made = x.made;
      }

-- ---- what an examining hands back

module _ (f : Fields) where
  refused-number : (r : Refusal) → Examines f (Err r) → number_of r ≡ fields_number f
  unfolding examine
  refused-number r E = ap (λ (x : Examined). x.number) E.reply

  module _ (s : clip.ClipSet) (E : Examines f (Ok s)) where
    none-refuses : fields_number f ≡ 0
    unfolding examine
    none-refuses = sym (ap (λ (x : Examined). x.number) E.reply)

    prepared-set : clip_set_of s ≡ fields_set f
    unfolding examine
    prepared-set = ap (λ (x : Examined). x.set) E.reply ∙ sym (accepted-granted (fields_number f) empty_set (fields_set f) none-refuses)

    -- the set that stands is the fields'
    by-set : (p : Pages) (name : List ℕ) (declares : Bool) (q : Pages) → Extends p name declares s q → model q ≡ with_set (model p) name declares (fields_set f)
    by-set p name declares q x = x.stands ∙ ap (with_set (model p) name declares) prepared-set

-- ---- acceptance of explicit fields, and of a template's

module _ (p : Pages) (M : Made p) (name : List ℕ) (declares : Bool) (f : ExplicitFields) where
  pub accept-refused : (r : Refusal) → number_of r ≡ name_number p.counts p.bytes name → Accepts p name declares f (number_of r) p
  unfolding dispatch_step
  accept-refused r e = let k = by_name p name declares (explicit_number f) (explicit_set f) (number_of r) e (not-zero r) in record { is = k.0; kept = λ z. refl; stands = k.1; made = M }

  module _ (e : name_number p.counts p.bytes name ≡ 0) where
    pub fields-refused : (r : Refusal) → Examines (explicitly f) (Err r) → Accepts p name declares f (number_of r) p
    unfolding dispatch_step
    fields-refused r E =
        let n = refused-number (explicitly f) r E in
        let k = by-fields p name declares (explicit_number f) (explicit_set f) e (λ z. not-zero r (n ∙ z)) in
        record { is = n ∙ k.0; kept = λ z. refl; stands = k.1; made = M }

    pub accepts : (s : clip.ClipSet) → Examines (explicitly f) (Ok s) → (q : Pages) → Extends p name declares s q → Accepts p name declares f 0 q
    unfolding dispatch_step
    accepts s E q x =
        let k = granted p name declares (explicit_number f) (explicit_set f) e (none-refuses (explicitly f) s E) (model q) (by-set (explicitly f) s E p name declares q x) in
        record { is = k.0; kept = λ h. absurd (h refl); stands = k.1; made = x.made }

module _ (p : Pages) (M : Made p) (name : List ℕ) (declares : Bool) (f : TemplateFields) where
  pub expand-refused : (r : Refusal) → number_of r ≡ name_number p.counts p.bytes name → Expands p name declares f (number_of r) p
  unfolding dispatch_step
  expand-refused r e = let k = by_name p name declares (template_number f) (template_set f) (number_of r) e (not-zero r) in record { is = k.0; kept = λ z. refl; stands = k.1; made = M }

  module _ (e : name_number p.counts p.bytes name ≡ 0) where
    pub template-refused : (r : Refusal) → Examines (by_template f) (Err r) → Expands p name declares f (number_of r) p
    unfolding dispatch_step
    template-refused r E =
        let n = refused-number (by_template f) r E in
        let k = by-fields p name declares (template_number f) (template_set f) e (λ z. not-zero r (n ∙ z)) in
        record { is = n ∙ k.0; kept = λ z. refl; stands = k.1; made = M }

    pub expands : (s : clip.ClipSet) → Examines (by_template f) (Ok s) → (q : Pages) → Extends p name declares s q → Expands p name declares f 0 q
    unfolding dispatch_step
    expands s E q x =
        let k = granted p name declares (template_number f) (template_set f) e (none-refuses (by_template f) s E) (model q) (by-set (by_template f) s E p name declares q x) in
        record { is = k.0; kept = λ h. absurd (h refl); stands = k.1; made = x.made }
