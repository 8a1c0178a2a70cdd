use Prim.Native.Nat.{ℕ, suc, ◌+◌, ◌<◌}
use mathlib.Core.Path.{◌≡◌, sym, ap, ◌∙◌, subst}
use mathlib.Core.List.{List, ◌++◌}
use native.Mathlib.Omega.{arith}
use lib.ListN.{length, take, drop, set, length-set}
use Rattle.laws.specs.list.Every.{Every}
use Rattle.dispatch.specs.SetOrder.{insert_number}
use Rattle.set_names.specs.Pages.{names_in, NamePages}
use Rattle.pages.specs.Pages.{part, over, Sizes}
use Rattle.pages.specs.Placing.{ShapeStored, name_stored}
use Rattle.pages.proofs.Parts.{over-ends, over-long, part-long}
use Rattle.pages.proofs.OnePage.{sizes-kept}
use Rattle.pages.proofs.Entering.{named-pages, order_below}
use Rattle.pages.proofs.placing.enter.Goals.{After-insert_by_name, After-store_shape}
use Rattle.pages.proofs.placing.enter.Goals as goal

-- `pages::placing::enter` meets its contract: the shape, the name, and its place among the names. Assumes nothing.
-- what stands once the shape is written
module _ (c : After-store_shape) where
  abbrev shaped : List ℕ
  shaped = c.store_shape.new.counts

  abbrev marked : List ℕ
  marked = c.store_shape.new.bytes

  stored : ShapeStored c.args.shape c.args.n c.args.defaults.now c.args.counts.now c.args.bytes.now c.store_shape.new.defaults shaped marked
  stored = c.store_shape.ensures

  sizes : Sizes c.store_shape.new.defaults shaped marked
  sizes = sizes-kept c.args.defaults.now c.store_shape.new.defaults c.args.counts.now c.args.bytes.now shaped marked c.args.shape c.args.n c.requires.few c.requires.sizes stored

  pages-named : NamePages (name_stored c.args.name.now c.args.declares c.args.n marked) (suc c.args.n)
  pages-named = named-pages c.args.defaults.now c.store_shape.new.defaults c.args.counts.now c.args.bytes.now shaped marked c.args.shape c.args.n c.requires.few c.requires.sizes stored c.args.name.now c.args.declares c.requires.short c.requires.paged

  numbers-below : Every (λ (j : ℕ). j < c.args.n) (take c.args.n (part 65 16 shaped))
  numbers-below = order_below c.args.defaults.now c.store_shape.new.defaults c.args.counts.now c.args.bytes.now shaped marked c.args.shape c.args.n c.requires.few c.requires.sizes stored c.requires.below

  sixteen : length (part 65 16 shaped) ≡ 16
  sixteen = part-long 65 16 shaped (omega (arith, sizes.of-counts))

pub insert_by_name-requires : goal.insert_by_name-requires
insert_by_name-requires c =
    let k = c in
    let s = k in
    record { fact_1 = subst (λ (l : List ℕ). NamePages l (suc s.args.n)) (sym c.store_name.ensures) (pages-named (goal.at.insert_by_name-requires k).After-store_shape); fact_2 = s.requires.few; fact_3 = omega (arith, s.requires.few, sixteen (goal.at.insert_by_name-requires k).After-store_shape); fact_4 = numbers-below (goal.at.insert_by_name-requires k).After-store_shape }

-- the counts once the order came back
module _ (c : After-insert_by_name) where
  abbrev order : List ℕ
  order = c.insert_by_name.new.order

  ordered : length order ≡ 16
  ordered = c.insert_by_name.ensures.0 ∙ sixteen (goal.at.After-insert_by_name c).After-store_shape

  put_is : take 65 (shaped (goal.at.After-insert_by_name c).After-store_shape) ++ (order ++ drop 16 (drop 65 (shaped (goal.at.After-insert_by_name c).After-store_shape))) ≡ over 65 order (shaped (goal.at.After-insert_by_name c).After-store_shape)
  put_is = over-ends 65 order (shaped (goal.at.After-insert_by_name c).After-store_shape) (omega (arith, (sizes (goal.at.After-insert_by_name c).After-store_shape).of-counts)) 16 ordered

pub shape_of-counts : goal.shape_of-counts
shape_of-counts c =
    let k = c in
    let b = k in
    let s = b in
    length-set (take 65 (shaped (goal.at.shape_of-counts b).After-store_shape) ++ (order (goal.at.shape_of-counts k).After-insert_by_name ++ drop 16 (drop 65 (shaped (goal.at.shape_of-counts b).After-store_shape)))) 0 (s.args.n + 1)
    ∙ ap length (put_is (goal.at.shape_of-counts k).After-insert_by_name)
    ∙ over-long 65 (order (goal.at.shape_of-counts k).After-insert_by_name) (shaped (goal.at.shape_of-counts b).After-store_shape) (omega (arith, (sizes (goal.at.shape_of-counts b).After-store_shape).of-counts)) (omega (arith, (sizes (goal.at.shape_of-counts b).After-store_shape).of-counts, ordered (goal.at.shape_of-counts k).After-insert_by_name))
    ∙ (sizes (goal.at.shape_of-counts b).After-store_shape).of-counts
    ∙ sym s.requires.sizes.of-counts

pub returns : goal.returns
returns c =
    let k = c in
    let b = k in
    let s = b in
    record {
      shaped = shaped (goal.at.returns b).After-store_shape;
      marked = marked (goal.at.returns b).After-store_shape;
      order = order (goal.at.returns k).After-insert_by_name;
      stored = stored (goal.at.returns b).After-store_shape;
      ordered = ordered (goal.at.returns k).After-insert_by_name;
      inserted = k.insert_by_name.ensures.1 ∙ ap (λ (l : List ℕ). insert_number (names_in l (suc s.args.n)) s.args.n (take s.args.n (part 65 16 (shaped (goal.at.returns b).After-store_shape)))) k.store_name.ensures;
      counts-after = ap (λ (l : List ℕ). set l 0 (s.args.n + 1)) (put_is (goal.at.returns k).After-insert_by_name);
      bytes_after = k.store_name.ensures;
    }
