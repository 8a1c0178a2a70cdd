-- `normal_form::merging::normalize_into` meets its contract: the places in order, their runs, and what is written of them. Assumes nothing.
use Prim.Native.Nat.{ℕ}
use mathlib.Core.Path.{sym, ap, ◌∙◌, subst}
use mathlib.Core.List.{List}
use lib.ListN.{length}
use Rattle.laws.specs.list.Every.{Every}
use Rattle.lists.specs.Placed.{Inside}
use Rattle.normal_form.proofs.Written.{long, storable, order-inside, order-length, in-runs}
use Rattle.normal_form.proofs.merging.normalize_into.Goals as goal

pub order-requires : goal.order-requires
order-requires c =
    let e = c in
    (storable _ _ _ e.requires.0, (long _ _ _ e.requires.0).0, e.requires.1.places-long, e.requires.1.first-long)

pub runs-at-requires : goal.runs-at-requires
runs-at-requires c =
    let e = c in
    let t = e.args.times.now in
    let o = c.order in
    let n = ap length o.ensures ∙ order-length t in
    (subst (λ (l : List ℕ). Every (Inside t) l) (sym o.ensures) (order-inside t), o.auto.scratch ∙ e.requires.1.first-long ∙ sym n, e.requires.1.last-long ∙ sym n)

pub write-requires : goal.write-requires
write-requires c =
    in-runs _ _ _ _ _ _ _ c.requires.0 c.order.ensures c.runs-at.ensures
