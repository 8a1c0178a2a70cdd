-- `names::name` meets its contract, by a law for each reply. Assumes nothing.
use native.Mathlib.Omega.{arith}
use mathlib.Core.Path.{◌≡◌, sym, ap, ◌∙◌, subst}
use mathlib.Core.Bool.{true}
use mathlib.Core.List.{List, ◌++◌}
use Prim.Native.Nat.{ℕ, ◌+◌, ◌-◌, ◌≤◌}
use lib.Dec.{T}
use lib.ListN.{length, take, drop}
use Rattle.gf.specs.Doubles.{storable}
use Rattle.definitions.specs.Names.{split, readable, name}
use Rattle.names.specs.Pattern.{pattern_of}
use Rattle.names.specs.Put.{put}
use Rattle.names.specs.Body.{body_of}
use Rattle.names.proofs.PatternLaws.{readable-limits}
use Rattle.names.proofs.LengthLaws.{name-parts, length-parts, name-le}
use Rattle.names.proofs.NameLaws.{refuses-1, refuses-2, refuses-6, refuses-22, writes}
use Rattle.names.proofs.name.Goals.{After-body_at-b, Else-not-is_readable, Else-not-is_storable, Else-template-gt-TEMPLATE_BYTES}
use Rattle.names.proofs.name.Goals as goal

-- ---- what is known at the places
few : (c : Else-template-gt-TEMPLATE_BYTES) → length c.args.template.now ≤ 255
few c = omega arith

small : (c : Else-not-is_storable) → storable c.args.time.0 ≡ true
small c = sym c.is_storable.ensures ∙ c.if-not-is_storable.false

places-read : (c : Else-not-is_readable) → readable (pattern_of c.args.template.now c.parse-p.result) ≡ true
places-read c = sym c.is_readable.ensures ∙ c.if-not-is_readable.false

read : (c : Else-not-is_readable) → readable (split c.args.template.now) ≡ true
read c = sym (ap readable c.parse-p.ensures.is) ∙ places-read c

abbrev template_at : After-body_at-b → List ℕ
template_at c = c.args.template.now

abbrev name_at : After-body_at-b → List ℕ
name_at c = name (template_at c) c.args.time

parts : (c : After-body_at-b)
    → take c.parse-p.result.first (template_at c) ++ (body_of c.body_at-b.result ++ drop c.parse-p.result.suffix (template_at c)) ≡ name_at c
parts c =
    let p = c.parse-p in
    ap (λ (b : List ℕ). take p.result.first (template_at c) ++ (b ++ drop p.result.suffix (template_at c))) c.body_at-b.ensures
    ∙ name-parts (template_at c) p.result _ p.ensures

long : (c : After-body_at-b)
    → c.parse-p.result.first + length (body_of c.body_at-b.result) + (length (template_at c) - c.parse-p.result.suffix) ≡ length (name_at c)
long c =
    let p = c.parse-p in
    sym (length-parts (template_at c) p.result (body_of c.body_at-b.result) p.ensures) ∙ ap length (parts c)

short : (c : After-body_at-b) → length (name_at c) ≤ 268
short c =
    let p = c.parse-p in
    name-le (template_at c) _ (few (goal.at.After-body_at-b c).Else-template-gt-TEMPLATE_BYTES) (subst T (sym (small (goal.at.After-body_at-b c).Else-not-is_storable)) tt) p.result p.ensures
    (readable-limits (template_at c) p.result (places-read (goal.at.After-body_at-b c).Else-not-is_readable)).0

-- ---- the needs
pub returns-then-template-gt-TEMPLATE_BYTES : goal.returns-then-template-gt-TEMPLATE_BYTES
returns-then-template-gt-TEMPLATE_BYTES c = let a = c.args in refuses-1 a.template.now a.time a.out.now c.if-template-gt-TEMPLATE_BYTES.true

pub returns-then-not-is_storable : goal.returns-then-not-is_storable
returns-then-not-is_storable c =
    let a = c.args in
    refuses-2 a.template.now a.time a.out.now (few (goal.at.returns-then-not-is_storable c).Else-template-gt-TEMPLATE_BYTES) (sym c.is_storable.ensures ∙ c.if-not-is_storable.true)

pub returns-then-not-is_readable : goal.returns-then-not-is_readable
returns-then-not-is_readable c =
    let e = c in
    let a = e.args in
    refuses-6 a.template.now a.time a.out.now (few (goal.at.returns-then-not-is_readable e).Else-template-gt-TEMPLATE_BYTES) (small (goal.at.returns-then-not-is_readable e).Else-not-is_storable)
    (sym (ap readable c.parse-p.ensures.is) ∙ sym c.is_readable.ensures ∙ c.if-not-is_readable.true)

pub body_at-b-requires : goal.body_at-b-requires
body_at-b-requires c =
    let l = readable-limits _ c.parse-p.result (places-read c) in
    (subst T (sym (small (goal.at.body_at-b-requires c).Else-not-is_storable)) tt, l.0, l.2)

pub body_length-requires : goal.body_length-requires
body_length-requires c = omega (arith, long c, short c)

pub overflow_add-n : goal.overflow_add-n
overflow_add-n c = omega (arith, long (goal.at.overflow_add-n c).After-body_at-b, short (goal.at.overflow_add-n c).After-body_at-b, c.body_length.ensures)

pub overflow_add-n-2 : goal.overflow_add-n-2
overflow_add-n-2 c = omega (arith, long (goal.at.overflow_add-n-2 c).After-body_at-b, short (goal.at.overflow_add-n-2 c).After-body_at-b, c.body_length.ensures)

pub returns-then-out-n : goal.returns-then-out-n
returns-then-out-n c =
    let b = c in
    let e = b in
    let a = e.args in
    refuses-22 a.template.now a.time a.out.now (few (goal.at.returns-then-out-n e).Else-template-gt-TEMPLATE_BYTES) (small (goal.at.returns-then-out-n e).Else-not-is_storable) (read (goal.at.returns-then-out-n b).Else-not-is_readable)
    (omega (arith, long (goal.at.returns-then-out-n b).After-body_at-b, c.body_length.ensures, c.if-out-n.true))

pub put_name-requires : goal.put_name-requires
put_name-requires c =
    let b = c in
    let p = b.parse-p in record { first_le_suffix = (omega (arith, p.ensures.joined), p.ensures.held); suffix_in_bounds = omega (arith, c.body_length.ensures, c.if-out-n.false); b_len_bound = omega (arith, long (goal.at.put_name-requires b).After-body_at-b, short (goal.at.put_name-requires b).After-body_at-b) }

pub returns : goal.returns
returns c =
    let f = c in
    let b = f in
    let e = b in
    let a = e.args in
    writes a.template.now a.time a.out.now (few (goal.at.returns e).Else-template-gt-TEMPLATE_BYTES) (small (goal.at.returns e).Else-not-is_storable) (read (goal.at.returns b).Else-not-is_readable) _ _
    (omega (arith, long (goal.at.returns b).After-body_at-b, f.body_length.ensures))
    f.if-out-n.false
    (omega (arith, long (goal.at.returns b).After-body_at-b, short (goal.at.returns b).After-body_at-b, f.body_length.ensures))
    (c.put_name.ensures ∙ ap (put a.out.now 0) (parts (goal.at.returns b).After-body_at-b))
