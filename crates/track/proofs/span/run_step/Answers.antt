-- `track::span::run_step` meets its contract: the run up to the key below its end, where the floor is read. Assumes nothing.
use mathlib.Core.Path.{◌≡◌, refl, ap, ap₂, ◌∙◌}
use mathlib.Core.List.{List}
use Prim.Native.Nat.{ℕ, ◌-◌, min}
use native.Mathlib.Omega.{arith}
use lib.Ieee.{Float}
use Rattle.gf.specs.Doubles.{key}
use Rattle.gf.proofs.KeyLaws.{finite→key, finite-no-nan}
use Rattle.definitions.specs.declared.Segment.{Segment}
use Rattle.lists.specs.Segments.{segment_at}
use Rattle.window.specs.search.Latest.{segment_of}
use Rattle.cell.specs.declared.step.line.Line.TheVariants as Line
use Rattle.cell.specs.step.Entries.{entry_is}
use Rattle.cell.specs.step.Lines.{place_on}
use Rattle.run.specs.Runs.{line_on}
use Rattle.run.specs.Readings.{Reads, entry_at, reading_at}
use Rattle.track.specs.declared.span.ReadBy.TheVariants.{ByRun}
use Rattle.track.proofs.span.Cuts.{cut, uncut, recut}
use Rattle.track.proofs.span.RunsFrom.{place_short}
use Rattle.track.proofs.span.run_step.Goals.{After-clip_end-b}
use Rattle.track.proofs.span.run_step.Goals as goal

-- the segment that is read
abbrev taken : (e : After-clip_end-b) → e.segment_at-s.result ≡ segment_at e.args.xs.now e.args.ys.now e.args.run.knot
taken e = e.segment_at-s.ensures

cut-reads : (e : After-clip_end-b) → Reads (cut e.args.times.now e.clip_begin-a.result e.clip_end-b.result) (cut e.args.values.now e.clip_begin-a.result e.clip_end-b.result) (cut e.args.marks.now e.clip_begin-a.result e.clip_end-b.result)
cut-reads e = recut e.args.times.now e.args.values.now e.args.marks.now e.args.ends.now e.args.at.window.clip e.clip_begin-a.result e.clip_end-b.result e.clip_begin-a.ensures e.clip_end-b.ensures Reads e.requires.reads

pub key-requires-2 : goal.key-requires-2
key-requires-2 c = finite-no-nan c.args.run.lower c.requires.ground.finitely

pub place_on-place-requires : goal.place_on-place-requires
place_on-place-requires c =
    let f = finite→key c.args.run.lower c.requires.ground.fitting c.requires.ground.finitely in
    record { ascending = (cut-reads (goal.at.place_on-place-requires c).After-clip_end-b).ascending; le_k = (omega (arith, f.0, c.key-2.ensures), omega (arith, f.1, c.key-2.ensures)) }

pub entry_of_sample-here-requires : goal.entry_of_sample-here-requires
entry_of_sample-here-requires c =
    let R = cut-reads (goal.at.entry_of_sample-here-requires c).After-clip_end-b in
    let s = place_short (cut c.args.times.now c.clip_begin-a.result c.clip_end-b.result) (Line.Segment c.segment_at-s.result) c.key-2.result R.some in
    record { place_in_bounds = omega (arith, c.place_on-place.ensures, R.values); place_in_bounds_2 = omega (arith, c.place_on-place.ensures, R.marks) }

pub returns : goal.returns
returns c =
    let a = c.args in
    record {
      way = ap (λ (g : Segment). ByRun a.at.window.clip a.run.lower g a.run.sample) (taken (goal.at.returns c).After-clip_end-b);
      here =
          uncut a.times.now a.values.now a.marks.now a.ends.now a.at.window.clip c.clip_begin-a.result c.clip_end-b.result c.clip_begin-a.ensures c.clip_end-b.ensures (λ (ts vs : List Float) (ms : List ℕ). entry_is c.entry_of_sample-here.result ≡ reading_at ts vs ms (line_on (segment_of a.xs.now a.ys.now a.run.knot)) (key a.run.lower))
          (c.entry_of_sample-here.ensures
          ∙ ap (entry_at (cut a.values.now c.clip_begin-a.result c.clip_end-b.result) (cut a.marks.now c.clip_begin-a.result c.clip_end-b.result))
          (c.place_on-place.ensures ∙ ap₂ (λ (g : Segment) (j : ℕ). place_on (cut a.times.now c.clip_begin-a.result c.clip_end-b.result) (Line.Segment g) j) (taken (goal.at.returns c).After-clip_end-b) c.key-2.ensures));
      upto = c.min-hi.ensures ∙ ap (λ (x : ℕ). min a.top (x - 1)) c.key.ensures;
      start = refl;
      window = refl;
    }
