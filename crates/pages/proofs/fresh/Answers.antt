-- `pages::fresh` meets its contract: no set, whatever the lists hold. Assumes nothing.
use mathlib.Core.Path.{refl, subst}
use native.Mathlib.Omega.{arith}
use Rattle.pages.specs.Pages.{Pages, pages, Sized, SizedIs}
use Rattle.pages.proofs.Begun.{begun}
use Rattle.pages.proofs.fresh.Goals.{Else-not-sized, Start as At-start}
use Rattle.pages.proofs.fresh.Goals as goal

abbrev lent : At-start → Pages
lent s = let a = s.args in pages a.starts.now a.numbers.now a.xs.now a.ys.now a.blocks.now a.defaults.now a.counts.now a.bytes.now

pub returns-then-not-sized : goal.returns-then-not-sized
returns-then-not-sized c = (subst (SizedIs (lent (goal.at.returns-then-not-sized c).Start)) c.if-not-sized.true c.sized.ensures, refl)

whole : (c : Else-not-sized) → Sized (lent (goal.at.Else-not-sized c).Start)
whole c = subst (SizedIs (lent (goal.at.Else-not-sized c).Start)) c.if-not-sized.false c.sized.ensures

pub bounds-counts-0 : goal.bounds-counts-0
bounds-counts-0 c = omega (arith, (whole c).sizes.of-counts)

pub returns : goal.returns
returns c = begun (lent (goal.at.returns c).Start) (whole c)
