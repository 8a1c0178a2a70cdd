use Prim.Native.Nat.{ℕ, ◌+◌, ◌-◌, ◌*◌}
use mathlib.Core.Path.{◌≡◌, sym, ap, ap₂, ◌∙◌}
use mathlib.Core.List.{List, ◌++◌}
use native.Mathlib.Omega.{arith}
use lib.ListN.{length, take, drop, set, length-set}
use Rattle.pages.specs.Pages.{over}
use Rattle.pages.proofs.Parts.{span, over-ends, over-long}
use Rattle.pages.proofs.storing.store_name.Goals.{After-copy}
use Rattle.pages.proofs.storing.store_name.Goals as goal

-- `pages::storing::store_name` meets its contract: the name's part comes back in its place. Assumes nothing.
-- the bytes once the name's part came back
module _ (c : After-copy) where
  abbrev at : ℕ
  at = c.args.i * 256 + 1

  abbrev put : List ℕ
  put = take at c.args.bytes.now ++ (c.copy.new.to ++ drop (at + length c.args.name.now - at) (drop at c.args.bytes.now))

  put_is : put ≡ over at c.args.name.now c.args.bytes.now
  put_is =
      over-ends at c.copy.new.to c.args.bytes.now (omega (arith, c.requires.fact_1, c.requires.fact_2)) _ (ap length c.copy.ensures ∙ sym (span at (length c.args.name.now)))
      ∙ ap (λ (l : List ℕ). over at l c.args.bytes.now) c.copy.ensures

  put-long : length put ≡ 4144
  put-long =
      ap length put_is
      ∙ over-long at c.args.name.now c.args.bytes.now (omega (arith, c.requires.fact_1, c.requires.fact_2)) (omega (arith, c.requires.fact_1, c.requires.fact_2, c.requires.fact_3))
      ∙ c.requires.fact_1

pub bounds-bytes-at : goal.bounds-bytes-at
bounds-bytes-at c = let s = c in omega (arith, put-long (goal.at.bounds-bytes-at c).After-copy, s.requires.fact_2)

pub bounds-bytes-i : goal.bounds-bytes-i
bounds-bytes-i c =
    let k = c in
    let s = k in
    omega (arith, put-long (goal.at.bounds-bytes-i k).After-copy, length-set (put (goal.at.bounds-bytes-i k).After-copy) (s.args.i * 256) (length s.args.name.now), s.requires.fact_2)

pub shape_of-bytes : goal.shape_of-bytes
shape_of-bytes c =
    let k = c in
    let s = k in
    length-set (set (put (goal.at.shape_of-bytes k).After-copy) (s.args.i * 256) (length s.args.name.now)) (4128 + s.args.i) c.from.result ∙ length-set (put (goal.at.shape_of-bytes k).After-copy) (s.args.i * 256) (length s.args.name.now) ∙ put-long (goal.at.shape_of-bytes k).After-copy ∙ sym s.requires.fact_1

pub returns : goal.returns
returns c =
    let k = c in
    let s = k in
    ap₂ (λ (l : List ℕ) (b : ℕ). set (set l (s.args.i * 256) (length s.args.name.now)) (4128 + s.args.i) b) (put_is (goal.at.returns k).After-copy) c.from.ensures
