use mathlib.Core.Path.{◌≡◌, refl, ap, ◌∙◌}
use mathlib.Core.List.{List}
use Prim.Native.Nat.{ℕ, ◌+◌}
use native.Mathlib.Omega.{arith}
use lib.ListN.{length, set, length-set}
use Rattle.pages.proofs.storing.store_shape.Goals.{Start as At-start}
use Rattle.pages.proofs.storing.store_shape.Goals as goal

-- the counts with the first, the first two, the first three written
module _ (s : At-start) where
  abbrev one : List ℕ
  one = set s.args.counts.now (1 + s.args.i) s.args.shape.clips

  abbrev two : List ℕ
  two = set one (17 + s.args.i) s.args.shape.counts.starts

  long-1 : length one ≡ 81
  long-1 = length-set s.args.counts.now (1 + s.args.i) s.args.shape.clips ∙ s.requires.fact_1.of-counts

  long-2 : length two ≡ 81
  long-2 = length-set one (17 + s.args.i) s.args.shape.counts.starts ∙ long-1

pub bounds-counts-i-2 : goal.bounds-counts-i-2
bounds-counts-i-2 c = omega (arith, long-1 (goal.at.bounds-counts-i-2 c).Start, c.requires.fact_2)

pub bounds-counts-i-3 : goal.bounds-counts-i-3
bounds-counts-i-3 c = omega (arith, long-2 (goal.at.bounds-counts-i-3 c).Start, c.requires.fact_2)

pub bounds-counts-i-4 : goal.bounds-counts-i-4
bounds-counts-i-4 c = let s = c in omega (arith, long-2 (goal.at.bounds-counts-i-4 s).Start, length-set (two (goal.at.bounds-counts-i-4 s).Start) (33 + s.args.i) s.args.shape.counts.knots, s.requires.fact_2)

pub bounds-bytes-i-2 : goal.bounds-bytes-i-2
bounds-bytes-i-2 c =
    let s = c in
    omega (arith, length-set s.args.bytes.now (4096 + s.args.i) s.args.shape.manifest.default.mark, s.requires.fact_1.of-bytes, s.requires.fact_2)

pub returns : goal.returns
returns c =
    let s = c in
    record { defaults-after = refl; counts-after = refl; bytes_after = ap (λ (b : ℕ). set (set s.args.bytes.now (4096 + s.args.i) s.args.shape.manifest.default.mark) (4112 + s.args.i) b) c.from.ensures }
