-- `track::span::knotless::knotless_cell` meets its contract. Assumes nothing.
use mathlib.Core.Path.{refl}
use borrow.Author.Tests.{lt-ltb, le-ltb}
use native.Mathlib.Omega.{arith}
use Rattle.track.proofs.span.knotless.knotless_cell.Goals as goal

pub returns-then-w : goal.returns-then-w
returns-then-w c = let w = c.args.w in rw (lt-ltb w.begin w.end c.if-w.true) refl

pub returns : goal.returns
returns c = let w = c.args.w in let n = c.if-w.false in rw (le-ltb w.begin w.end (omega arith)) refl
