-- `names::put_name` meets its contract: the three parts, one after the other. Assumes nothing.
use Rattle.std.proofs.Common.{ap, ◌∙◌, ℕ, ◌+◌}
use Rattle.std.proofs.lemmas.List.{take_rest}
use Rattle.names.specs.Body.{body_of}
use Rattle.names.specs.Put.{put}
use Rattle.names.proofs.NameLaws.{name-put}
use Rattle.names.proofs.put_name.Goals as goal

pub returns : goal.returns
returns c =
    let a = c.args in
    let r = c.requires in
    let l = a.template.now in
    name-put a.out.now l a.p (body_of a.b) r.first_le_suffix.0 r.first_le_suffix.1 r.suffix_in_bounds _ _ _ _
    c.put_bytes.ensures c.put_body.ensures (ap (λ (k : ℕ). a.p.first + k) c.body_length.ensures)
    (c.put_bytes-2.ensures ∙ ap (put c.put_body.new.out _) (take_rest l a.p.suffix))
