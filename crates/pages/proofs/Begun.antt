-- A dispatcher without a set, whatever the lists hold. Assumes nothing.
use Prim.Native.Nat.{ℕ, ◌<◌}
use native.Mathlib.Omega.{arith}
use mathlib.Core.Path.{◌≡◌, refl, sym, ap, ◌∙◌, subst}
use mathlib.Core.List.{[]}
use lib.ListN.{length, set, length-set}
use lib.Seq.{get_or-set_same}
use Rattle.dispatch.specs.SetOrder.{by_name}
use Rattle.set_names.specs.Pages.{names_in}
use Rattle.pages.specs.Pages.{Pages, pages, part, Sized, set_count, sets_from, model, Made}

abbrev pub emptied : Pages → Pages
emptied p = pages p.starts p.numbers p.xs p.ys p.blocks p.defaults (set p.counts 0 0) p.bytes

module _ (p : Pages) (S : Sized p) where
  no-sets : set_count (emptied p) ≡ 0
  no-sets = get_or-set_same p.counts 0 0 0 (omega (arith, S.sizes.of-counts))

  sizes-kept : length (set p.counts 0 0) ≡ 81
  sizes-kept = length-set p.counts 0 0 ∙ S.sizes.of-counts

  none_below : (i : ℕ) → i < set_count (emptied p) → ⊥
  none_below i h = omega (arith, no-sets)

  pub begun : Made (emptied p) × (model (emptied p) ≡ [])
  unfolding sets_from by_name
  begun = (
    record {
      long = record {
        of-starts = S.of-starts;
        of-numbers = S.of-numbers;
        of-xs = S.of-xs;
        of-ys = S.of-ys;
        of_blocks = S.of_blocks;
        sizes = record { of-defaults = S.sizes.of-defaults; of-counts = sizes-kept; of-bytes = S.sizes.of-bytes };
      };
      names = record {
        counted = omega (arith, sizes-kept);
        few = omega (arith, no-sets);
        paged = record { room = omega (arith, no-sets); short = λ i h. absurd (none_below i h) };
      };
      each = λ i h. absurd (none_below i h);
      sorted = subst (λ (n : ℕ). part 65 n (set p.counts 0 0) ≡ by_name (names_in p.bytes n) n) (sym no-sets) refl;
    },
    ap (sets_from (emptied p) 0) no-sets,
  )
