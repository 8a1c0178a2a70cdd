-- `set_questions::bake_at` meets its contract: the lists that it lends are the set's page. Assumes nothing.
use Prim.Native.Nat.{◌<◌}
use native.Mathlib.Omega.{arith}
use Rattle.laws.specs.list.Every.{Every}
use Rattle.laws.specs.list.Places.{Fits}
use Rattle.sdf.proofs.Lent.{every-fits}
use Rattle.pages.specs.Pages.{Pages, pages}
use Rattle.set_questions.proofs.Asked.{page-asked, page-bakes}
use Rattle.set_questions.proofs.bake_at.Goals.{After-shape_at-shape, Start as At-start}
use Rattle.set_questions.proofs.bake_at.Goals as goal

abbrev sets : At-start → Pages
sets s = let a = s.args in pages a.starts.now a.numbers.now a.xs.now a.ys.now a.blocks.now a.defaults.now a.counts.now a.bytes.now

few : (s : At-start) → s.args.k < 16
few s = omega (arith, s.requires.fact_2, s.requires.fact_1.names.few)

pub offset_bounds-starts-a : goal.offset_bounds-starts-a
offset_bounds-starts-a c = omega (arith, few (goal.at.offset_bounds-starts-a c).Start)

pub slice_bounds-bake-end : goal.slice_bounds-bake-end
slice_bounds-bake-end c = omega (arith, few (goal.at.slice_bounds-bake-end c).Start, c.requires.fact_1.long.of-starts)

pub offset_bounds-numbers-a : goal.offset_bounds-numbers-a
offset_bounds-numbers-a c = omega (arith, few (goal.at.offset_bounds-numbers-a c).Start)

pub slice_bounds-bake-end-2 : goal.slice_bounds-bake-end-2
slice_bounds-bake-end-2 c = omega (arith, few (goal.at.slice_bounds-bake-end-2 c).Start, c.requires.fact_1.long.of-numbers)

pub offset_bounds-xs-b : goal.offset_bounds-xs-b
offset_bounds-xs-b c = omega (arith, few (goal.at.offset_bounds-xs-b c).Start)

pub slice_bounds-bake-end-3 : goal.slice_bounds-bake-end-3
slice_bounds-bake-end-3 c = omega (arith, few (goal.at.slice_bounds-bake-end-3 c).Start, c.requires.fact_1.long.of-xs)

pub offset_bounds-ys-b : goal.offset_bounds-ys-b
offset_bounds-ys-b c = omega (arith, few (goal.at.offset_bounds-ys-b c).Start)

pub slice_bounds-bake-end-4 : goal.slice_bounds-bake-end-4
slice_bounds-bake-end-4 c = omega (arith, few (goal.at.slice_bounds-bake-end-4 c).Start, c.requires.fact_1.long.of-ys)

pub offset_bounds-blocks-a : goal.offset_bounds-blocks-a
offset_bounds-blocks-a c = omega (arith, few (goal.at.offset_bounds-blocks-a c).Start)

pub slice_bounds-bake-end-5 : goal.slice_bounds-bake-end-5
slice_bounds-bake-end-5 c = omega (arith, few (goal.at.slice_bounds-bake-end-5 c).Start, c.requires.fact_1.long.of_blocks)

-- the doubles of lent lists are ones that a program can hold
times-fit : (c : After-shape_at-shape) → Every Fits c.args.times.now
times-fit c = every-fits c.args.times.now (λ i. c.shared_slice_known-9-1.given i)

values-fit : (c : After-shape_at-shape) → Every Fits c.args.values.now
values-fit c = every-fits c.args.values.now (λ i. c.shared_slice_known-10-1.given i)

pub bake-requires : goal.bake-requires
bake-requires c =
    let q = c in
    let s = q in
    page-asked (sets (goal.at.bake-requires s).Start) s.requires.fact_1 s.args.k s.requires.fact_2 q.shape_at-shape.result q.shape_at-shape.ensures _ _ _ _ s.requires.fact_3 (times-fit (goal.at.bake-requires q).After-shape_at-shape) (values-fit (goal.at.bake-requires q).After-shape_at-shape)

pub returns : goal.returns
returns c =
    let w = c in
    let q = w in
    let s = q in
    page-bakes (sets (goal.at.returns s).Start) s.requires.fact_1 s.args.k s.requires.fact_2 q.shape_at-shape.result q.shape_at-shape.ensures s.args.times.now s.args.values.now s.args.marks.now s.args.ends.now s.requires.fact_3 (times-fit (goal.at.returns q).After-shape_at-shape) (values-fit (goal.at.returns q).After-shape_at-shape) _ _ _ w.bake.ensures
