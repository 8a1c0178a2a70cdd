-- `window::search::near_before` meets its contract: the segments from j up to `to` are searched. Assumes nothing.
use Prim.Native.Nat.{ℕ, ◌+◌, ◌-◌}
use mathlib.Core.Path.{◌≡◌, subst}
use native.Mathlib.Omega.{arith}
use Rattle.window.specs.search.Latest.{LatestBefore}
use Rattle.window.proofs.search.Reaches.{reached-one, reached-past}
use Rattle.window.proofs.search.near_before.Goals as goal

pub returns-then-is_past : goal.returns-then-is_past
returns-then-is_past c =
    let a = c.args in
    let r = c.requires in
    let s = r.searchable_1 in
    let j = c.loop-j.j in
    let here : j - 1 + 1 ≡ j = omega arith in
    reached-past a.t a.w a.xs.now a.ys.now a.cs.now s.faces s.time s.knots s.paired s.segments a.i r.searchable_4 r.searchable_3 a.to j c.loop-j.auto.j r.to_in_bounds
    c.latest_before.result (subst (λ (n : ℕ). LatestBefore a.xs.now a.ys.now n c.latest_before.result) here c.latest_before.ensures) (c.is_past.ensures c.if-is_past.true) c.loop-j.invariant

pub loop-j-preserved : goal.loop-j-preserved
loop-j-preserved c =
    let a = c.args in
    reached-one a.t a.w a.xs.now a.ys.now a.cs.now c.loop-j.j (c.loop-j.j - 1) a.to (omega arith) c.loop-j.invariant c.near_segment-r.ensures (omega arith)
