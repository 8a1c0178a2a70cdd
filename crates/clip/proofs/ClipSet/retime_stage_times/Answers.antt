-- `clip::ClipSet::retime_stage_times` meets its contract: 2 for its numbers, the identity, or the moved lists. Assumes nothing.
use mathlib.Core.Path.{◌≡◌, sym, subst, ◌∙◌}
use mathlib.Core.Bool.{true, ◌&&◌}
use native.Mathlib.Omega.{arith}
use lib.Dec.{T}
use lib.ListN.{length-take}
use lib.Seq.{length-take-le}
use lib.Ieee.Scale.{finite}
use Rattle.laws.specs.list.Places.{Fits}
use Rattle.clip.proofs.Retimed.{retime-refuses, retime-identity, retime-settles}
use Rattle.clip.proofs.ClipSet.retime_stage_times.Goals.{Else-not-is_finite, Start as At-start}
use Rattle.clip.proofs.ClipSet.retime_stage_times.Goals as goal

both-finite : (c : Else-not-is_finite) → (finite c.args.o.offset && finite c.args.o.scale) ≡ true
both-finite c = sym c.is_finite.ensures ∙ c.if-not-is_finite.false

-- what owning an `f64` tells: the format holds it
fitting : (c : At-start) → Fits c.args.o.scale
fitting c = subst T (sym c.well_formed.1.0.1.1.1.0.1) tt

pub returns-then-not-is_finite : goal.returns-then-not-is_finite
returns-then-not-is_finite c =
    let s = c in
    retime-refuses s.args.self s.args.o s.requires.held s.requires.sound (sym c.is_finite.ensures ∙ c.if-not-is_finite.true)

pub returns-then-is_identity : goal.returns-then-is_identity
returns-then-is_identity c =
    let s = c in
    retime-identity s.args.self s.args.o s.requires.held s.requires.sound (both-finite (goal.at.returns-then-is_identity c).Else-not-is_finite) (sym c.is_identity.ensures ∙ c.if-is_identity.true)

pub slice_bounds-retime_lists-end : goal.slice_bounds-retime_lists-end
slice_bounds-retime_lists-end c = simp length-take (omega arith)

pub slice_bounds-retime_lists-end-2 : goal.slice_bounds-retime_lists-end-2
slice_bounds-retime_lists-end-2 c = simp length-take (omega arith)

pub slice_bounds-retime_lists-end-3 : goal.slice_bounds-retime_lists-end-3
slice_bounds-retime_lists-end-3 c = simp length-take (omega arith)

pub slice_bounds-retime_lists-end-4 : goal.slice_bounds-retime_lists-end-4
slice_bounds-retime_lists-end-4 c = simp length-take (omega arith)

pub slice_bounds-retime_lists-end-5 : goal.slice_bounds-retime_lists-end-5
slice_bounds-retime_lists-end-5 c = simp length-take (omega arith)

pub retime_lists-requires : goal.retime_lists-requires
retime_lists-requires c =
    let h = c.requires.held in record {
      fact_1 = h;
      fact_2 = record {
        times = length-take-le _ _ h.active.few;
        numbers = length-take-le _ _ h.active.few;
        xs = length-take-le _ _ h.knots.few;
        ys = length-take-le _ _ h.knots.few;
        blocks = length-take-le _ _ h.blocks.few;
      };
    }

pub returns : goal.returns
returns c =
    let i = c in
    let s = i in
    retime-settles s.args.self s.args.o s.requires.held s.requires.sound (both-finite (goal.at.returns i).Else-not-is_finite) c.retime_lists.result (fitting (goal.at.returns s).Start) (sym i.is_identity.ensures ∙ i.if-is_identity.false) c.retime_lists.ensures
