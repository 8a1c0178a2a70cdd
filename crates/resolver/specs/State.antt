-- A resolver's state, by value and lent, and what of it stands by the calls, the `Model` of the definitions. Assumes nothing.
use Rattle.std.specs.Prelude.{ℕ, cond, List, Float, Result, Ok, Err}
use Rattle.definitions.specs.declared.refusal.Refusal.{Refusal}
use Rattle.definitions.specs.ClipSet.{Model, no_set, standing}
use Rattle.laws.specs.set.Sound.{SoundModel}
use Rattle.standing.specs.Standing.{set_in, Whole}
use Rattle.resolver.specs.declared.Resolver.{Resolver}
use Rattle.resolver.specs.declared.Shape.{Shape}

abbrev pub model : Resolver → Model
model d = cond d.stands (standing (set_in d.set)) no_set

-- "A desk or set handed in by value is one that an operation made": its arrays are whole, and its set is well-formed. Every operation ensures it of what it hands back.
pub record Made (d : Resolver) : Type 0 where
  pub whole : Whole d.set
  pub sound : SoundModel (model d)

-- what a change leaves: what it hands back, or what was before it, where it is refused
abbrev pub left : {A : Type 0} → A → Result A Refusal → A
left before (Ok after) = after
left before (Err e) = before

-- ---- a resolver that is lent: its shape by value, and five lists

abbrev pub lent_state : Shape → List Float → List ℕ → List Float → List Float → List Float → Resolver
lent_state h starts numbers xs ys blocks = record {
  stands = h.stands;
  set = record { clips = h.clips; counts = h.counts; starts = starts; numbers = numbers; xs = xs; ys = ys; blocks = blocks; manifest = h.manifest };
}
