-- `names::body::put_body` meets its contract: the three parts, one after the other. Assumes nothing.
use native.Mathlib.Omega.{arith}
use mathlib.Core.Path.{ap}
use Prim.Native.Nat.{ℕ, ◌+◌}
use Rattle.names.proofs.BodyLaws.{length-body, whole_room, point-room, body-put}
use Rattle.names.proofs.body.put_body.Goals as goal

pub put_sign-requires : goal.put_sign-requires
put_sign-requires c = omega (arith, length-body c.args.b, c.requires)

pub overflow_add-whole : goal.overflow_add-whole
overflow_add-whole c =
    let s = c in
    omega (arith, length-body s.args.b, s.requires)

pub put_digits-requires : goal.put_digits-requires
put_digits-requires c =
    let s = c in
    whole_room s.args.out.now s.args.at s.args.b s.requires _ c.put_sign.ensures _
    (ap (λ (n : ℕ). s.args.at + n) c.sign_length.ensures)

pub overflow_add-whole-2 : goal.overflow_add-whole-2
overflow_add-whole-2 c =
    let s = c in
    omega (arith, length-body s.args.b, s.requires, c.sign_length.ensures)

pub put_fraction-requires : goal.put_fraction-requires
put_fraction-requires c =
    let n = c in
    let s = n in
    point-room s.args.out.now s.args.at s.args.b s.requires _ n.put_sign.ensures _
    (ap (λ (n : ℕ). s.args.at + n) n.sign_length.ensures) _ c.put_digits.ensures

pub returns : goal.returns
returns c =
    let d = c in
    let n = d in
    let s = n in
    body-put s.args.out.now s.args.at s.args.b s.requires _ n.put_sign.ensures _
    (ap (λ (n : ℕ). s.args.at + n) n.sign_length.ensures) _ d.put_digits.ensures _ c.put_fraction.ensures
