-- `template::expanding::write_bounded` meets its contract. Assumes nothing.
use mathlib.Core.Path.{◌≡◌, ap, ◌∙◌}
use mathlib.Core.List.{List, [], ◌∷◌, ◌++◌}
use native.Mathlib.Omega.{arith}
use lib.ListN.{length, length-map}
use lib.Ieee.{Float}
use Rattle.gf.specs.Doubles.{◌⊘◌, 10000·0}
use Rattle.template.proofs.Expansion.{bounded-is, bounded-length}
use Rattle.template.proofs.expanding.write_bounded.Goals.{After-write_clip_times}
use Rattle.template.proofs.expanding.write_bounded.Goals as goal

between : (c : After-write_clip_times) → length c.write_clip_times.new.to ≡ length c.args.ts.now
between c = ap length c.write_clip_times.ensures ∙ length-map c.args.ts.now (λ (t : Float). t ⊘ 10000·0)

pub bounds-xs-end : goal.bounds-xs-end
bounds-xs-end c = let s = c in omega (arith, bounded-length s.args.xs.now c.write_clip_times.new.to (length s.args.ts.now) s.args.first s.requires (between (goal.at.bounds-xs-end c).After-write_clip_times))

pub returns : goal.returns
returns c =
    let s = c in
    bounded-is s.args.xs.now c.write_clip_times.new.to (length s.args.ts.now) s.args.first s.args.last s.requires (between (goal.at.returns c).After-write_clip_times)
    ∙ ap (λ (l : List Float). s.args.first ∷ (l ++ (s.args.last ∷ []))) c.write_clip_times.ensures
