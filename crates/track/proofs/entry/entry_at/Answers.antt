-- `entry::entry_at` meets its contract. Assumes nothing.
use mathlib.Core.Path.{sym, ap, ◌∙◌, subst}
use lib.ListN.{length}
use lib.Ieee.{Float}
use lib.Ieee.Scale.{finite}
use lib.Dec.{T}
use Rattle.gf.proofs.KeyLaws.{of_key-finite}
use Rattle.definitions.specs.ClipSet.{stage}
use Rattle.definitions.specs.Track.{written_entry}
use Rattle.definitions.specs.Value.{value_in_set}
use Rattle.laws.specs.cell.Lent.{set_of, samples_of}
use Rattle.track.proofs.entry.entry_at.Goals as goal

pub value_in_set-requires : goal.value_in_set-requires
value_in_set-requires c =
    record { fact_1 = c.requires.accepted_lists; fact_2 = subst (λ (t : Float). T (finite t)) (sym c.of_key-t.ensures) (of_key-finite c.args.k c.requires.le_k.0 c.requires.le_k.1) }

pub returns : goal.returns
returns c =
    let a = c.args in
    c.entry_of.ensures
    ∙ ap written_entry c.value_in_set.ensures
    ∙ ap
    (λ (t : Float).
    written_entry
    (value_in_set (set_of (length a.ends.now) a.starts.now a.clips.now a.xs.now a.ys.now a.blocks.now a.m) (samples_of a.times.now a.values.now a.marks.now a.ends.now) (stage t)))
    c.of_key-t.ensures
