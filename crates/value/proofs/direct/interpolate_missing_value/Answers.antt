-- `value::direct::interpolate_missing_value` meets its contract: the default, then the search back, then the search on. Assumes nothing.
use native.Mathlib.Omega.{arith}
use mathlib.Core.Path.{sym, ap, ◌∙◌}
use borrow.Author.Tests.{not-true, not-false}
use Rattle.definitions.specs.declared.Source.TheVariants.{Sample as sample}
use Rattle.value.specs.direct.Reads.{reading_is}
use Rattle.value.proofs.direct.Sources.{stands-default, stands-off, stands-before, stands_after, stands-none}
use Rattle.value.proofs.direct.ReadsLaws.{first-is, search-asks}
use Rattle.value.proofs.direct.interpolate_missing_value.Goals as goal

pub returns-then-m-eq0 : goal.returns-then-m-eq0
returns-then-m-eq0 c = let s = c in stands-default s.requires.fact_1 s.args.p c.if-m-eq0.true

pub returns-then-not-m : goal.returns-then-not-m
returns-then-not-m c =
    let k = c in
    let s = k in
    stands-off s.requires.fact_1 s.args.p k.if-m-eq0.false (not-true s.args.m.interpolate c.if-not-m.true)

pub nearest_before-back-requires : goal.nearest_before-back-requires
nearest_before-back-requires c =
    let s = c in
    record { fact_1 = search-asks s.requires.fact_1; fact_2 = omega arith }

pub returns-in-Some : goal.returns-in-Some
returns-in-Some c =
    let k = c in
    let s = k in
    stands-before s.requires.fact_1 s.args.p k.if-m-eq0.false (not-false s.args.m.interpolate k.if-not-m.false) (sample c.in-Some.clip c.in-Some.place) (sym (ap reading_is c.in-Some.is) ∙ c.nearest_before-back.ensures ∙ first-is s.requires.fact_1 _)

pub nearest_from-on-requires : goal.nearest_from-on-requires
nearest_from-on-requires c =
    let s = c in
    record { fact_1 = search-asks s.requires.fact_1; fact_2 = omega arith }

pub returns-in-Some-on : goal.returns-in-Some-on
returns-in-Some-on c =
    let n = c in
    let b = n in
    let k = b in
    let s = k in
    stands_after s.requires.fact_1 s.args.p k.if-m-eq0.false (not-false s.args.m.interpolate k.if-not-m.false) (sample c.in-Some-on.clip c.in-Some-on.place)
    (sym (ap reading_is b.in_default.is) ∙ b.nearest_before-back.ensures ∙ first-is s.requires.fact_1 _) (sym (ap reading_is c.in-Some-on.is) ∙ n.nearest_from-on.ensures ∙ first-is s.requires.fact_1 _)

pub returns : goal.returns
returns c =
    let n = c in
    let b = n in
    let k = b in
    let s = k in
    stands-none s.requires.fact_1 s.args.p k.if-m-eq0.false (not-false s.args.m.interpolate k.if-not-m.false)
    (sym (ap reading_is b.in_default.is) ∙ b.nearest_before-back.ensures ∙ first-is s.requires.fact_1 _) (sym (ap reading_is c.in_default-on.is) ∙ n.nearest_from-on.ensures ∙ first-is s.requires.fact_1 _)
