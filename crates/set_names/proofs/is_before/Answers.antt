-- `set_names::is_before` meets its contract: `<` of slices goes by the first byte that differs, as the byte order does. Assumes nothing.
use Rattle.std.proofs.Common.{arith, refl}
use Rattle.std.proofs.lemmas.Bool.Decides.{nat_tests}
use Rattle.std.proofs.lemmas.Cmp.{same_from_slice_cmp_tested}
use Rattle.std.specs.Ordering.{nat_cmp, is_lt}
use Rattle.dispatch.specs.SetOrder.{name_before}
use Rattle.set_names.proofs.is_before.Goals as goal

pub returns : goal.returns
returns c = same_from_slice_cmp_tested nat_cmp is_lt name_before refl (λ y ys. refl) (λ x xs. refl) (λ x y xs ys o h. grind (arith, nat_tests)) c.args.a.now c.args.b.now c.lt.result c.lt.ensures
