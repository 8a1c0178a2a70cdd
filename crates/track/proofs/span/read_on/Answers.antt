-- `track::span::read_on` meets its contract. Assumes nothing.
use mathlib.Core.Path.{◌≡◌, sym, ap, ap₂, ◌∙◌, subst}
use mathlib.Core.List.{List}
use Prim.Native.Nat.{ℕ, ◌-◌, ◌≤◌}
use native.Mathlib.Omega.{arith}
use lib.ListN.{length, take, drop}
use lib.Ieee.{Float}
use Rattle.definitions.specs.declared.Source.TheVariants.{Sample}
use Rattle.laws.specs.list.Places.{Ascending}
use Rattle.cell.specs.step.Lines.{place_on}
use Rattle.cell.specs.declared.Cell.{Cell}
use Rattle.track.specs.span.Runs.{part, read_on}
use Rattle.track.specs.span.Steps.{ReadPart, Readable}
use borrow.Author.Rules.{rules}
use Rattle.track.proofs.span.read_on.Goals.{After-clip_end-b, In-Reading}
use Rattle.track.proofs.span.read_on.Goals as goal

-- the clip's part can be read
read : (c : In-Reading) → ReadPart c.args.times.now c.args.ends.now c.in-Reading.clip
read c = subst (Readable c.args.times.now c.args.ends.now) c.in-Reading.is c.requires.readable

part-inside : (c : After-clip_end-b) → (c.clip_begin-a.result ≤ c.clip_end-b.result) × (c.clip_end-b.result ≤ length c.args.times.now)
part-inside c =
    let R = read (goal.at.After-clip_end-b c).In-Reading in
    (omega (arith, R.from), omega (arith, R.inside))

part-is : (c : After-clip_end-b) → take (c.clip_end-b.result - c.clip_begin-a.result) (drop c.clip_begin-a.result c.args.times.now) ≡ part c.args.times.now c.args.ends.now c.in-Reading.clip
part-is c = ap₂ (λ (e b : ℕ). take (e - b) (drop b c.args.times.now)) c.clip_end-b.ensures c.clip_begin-a.ensures

pub clip_begin-a-requires : goal.clip_begin-a-requires
clip_begin-a-requires c = (read c).clip

pub clip_end-b-requires : goal.clip_end-b-requires
clip_end-b-requires c = (read (goal.at.clip_end-b-requires c).In-Reading).clip

pub offset_bounds-times-a : goal.offset_bounds-times-a
offset_bounds-times-a c = let h = part-inside c in omega (arith, c.well_formed)

pub slice_bounds-place_on-count : goal.slice_bounds-place_on-count
slice_bounds-place_on-count c = (part-inside c).0

pub slice_bounds-place_on-start : goal.slice_bounds-place_on-start
slice_bounds-place_on-start c = (part-inside c).0

pub slice_bounds-place_on-end : goal.slice_bounds-place_on-end
slice_bounds-place_on-end c = let h = part-inside c in search rules

pub place_on-requires : goal.place_on-requires
place_on-requires c =
    record { ascending = subst Ascending (sym (part-is (goal.at.place_on-requires c).After-clip_end-b)) (read (goal.at.place_on-requires c).In-Reading).rising; le_k = (c.requires.keys.low, c.requires.keys.high) }

pub returns-in-Reading : goal.returns-in-Reading
returns-in-Reading c =
    let a = c.args in
    ap (Sample c.in-Reading.clip) (c.place_on.ensures ∙ ap (λ (l : List Float). place_on l c.in-Reading.line a.k) (part-is (goal.at.returns-in-Reading c).After-clip_end-b))
    ∙ sym (ap (λ (d : Cell). read_on a.times.now a.ends.now d a.k) c.in-Reading.is)
