-- `names::put_bytes` meets its contract: copying what is left makes the whole. Assumes nothing.
use Rattle.std.proofs.Common.{◌≡◌, sym, ap, ◌∙◌, ℕ, ◌+◌, List, drop, get_or, set, arith}
use Rattle.std.proofs.lemmas.List.{drop_all, drop_more}
use Rattle.names.specs.Put.{put}
use Rattle.names.proofs.PutLaws.{put-none, put_byte}
use Rattle.names.proofs.put_bytes.Goals as goal

pub loop-i-preserved : goal.loop-i-preserved
loop-i-preserved c =
    let k = c.loop-i in
    let bytes = c.args.bytes.now in
    let slot = c.args.at + k.i in
    let b = get_or bytes k.i 0 in
    let next : c.args.at + (k.i + 1) ≡ slot + 1 = omega arith in
    ap (λ (n : ℕ). put (set k.out slot b) n (drop (k.i + 1) bytes)) next
    ∙ put_byte k.out slot b (drop (k.i + 1) bytes) (omega arith)
    ∙ ap (put k.out slot) (sym (drop_more bytes k.i 0 (omega arith)))
    ∙ k.invariant

pub returns : goal.returns
returns c =
    let k = c.loop-i in
    let slot = c.args.at + k.i in
    sym (put-none k.out slot) ∙ ap (put k.out slot) (sym (drop_all k.i c.args.bytes.now (omega arith))) ∙ k.invariant
