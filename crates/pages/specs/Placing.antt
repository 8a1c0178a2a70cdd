-- What is promised of a set that is written to its page: what the page holds, and that the others are as they were. Assumes nothing.
use Rattle.std.specs.Prelude.{ℕ, suc, ◌+◌, ◌*◌, ◌≤◌, ◌<◌, ◌≡◌, Bool, true, false, List, [], get_or, length, take, set as write, Float, Result}
use Rattle.definitions.specs.declared.LayerOffset.{LayerOffset}
use Rattle.definitions.specs.declared.refusal.Refusal.{Refusal}
use Rattle.definitions.specs.Refusals.{number_in}
use Rattle.laws.specs.list.Every.{Every}
use Rattle.dispatch.specs.SetOrder.{max_name, insert_number}
use Rattle.dispatch.specs.NamedSets.{max_sets}
use Rattle.clip.specs.declared.ClipSet as clip
use Rattle.resolver.specs.declared.Shape.{Shape}
use Rattle.resolver.specs.declared.Resolver.{Resolver}
use Rattle.resolver.specs.State.{left, lent_state}
use Rattle.resolver.specs.Promises as desk
use Rattle.set_names.specs.Pages.{name_in, names_in, NamePages}
use Rattle.pages.specs.Pages.{Pages, Sizes, Sized, bit, part, over, page_state, state_at, set_count, model, Made}

-- the shape is written, each number in its place
pub record ShapeStored (h : Shape) (i : ℕ) (defaults : List Float) (counts bytes : List ℕ) (defaults' : List Float) (counts' bytes' : List ℕ) : Type 0 where
  pub defaults-after : defaults' ≡ write defaults i h.manifest.default.value
  pub counts-after : counts' ≡ write (write (write (write counts (1 + i) h.clips) (17 + i) h.counts.starts) (33 + i) h.counts.knots) (49 + i) h.counts.blocks
  pub bytes_after : bytes' ≡ write (write bytes (4096 + i) h.manifest.default.mark) (4112 + i) (bit h.manifest.interpolate)

-- the name and whether its set declares are written
abbrev pub name_stored : List ℕ → Bool → ℕ → List ℕ → List ℕ
name_stored name declares i bytes = write (write (over (i * 256 + 1) name bytes) (i * 256) (length name)) (4128 + i) (bit declares)

-- the i-th set is e, and nothing else is another
pub record Replaced (before : Pages) (i : ℕ) (e : Resolver) (after : Pages) : Type 0 where
  pub long : Sized after
  pub own : state_at after i ≡ e
  pub others : (j : ℕ) → j < max_sets → (j ≡ i → ⊥) → state_at after j ≡ state_at before j
  pub count : set_count after ≡ set_count before
  pub order : part 65 16 after.counts ≡ part 65 16 before.counts
  pub names : (j : ℕ) → j < set_count before → name_in after.bytes j ≡ name_in before.bytes j
  pub lengths : (j : ℕ) → j < set_count before → get_or after.bytes (j * 256) 0 ≡ get_or before.bytes (j * 256) 0
  pub declared : (j : ℕ) → j < max_sets → get_or after.bytes (4128 + j) 0 ≡ get_or before.bytes (4128 + j) 0

-- the lists that have a page for each set
pub record PageRoom (starts : List Float) (numbers : List ℕ) (xs ys blocks : List Float) : Type 0 where
  pub of-starts : length starts ≡ 4096
  pub of-numbers : length numbers ≡ 4096
  pub of-xs : length xs ≡ 8192
  pub of-ys : length ys ≡ 8192
  pub of_blocks : length blocks ≡ 4096

-- the set is written to the i-th page of each, as on a desk that is lent
pub record PutAt (i : ℕ) (set : clip.ClipSet) (starts : List Float) (numbers : List ℕ) (xs ys blocks : List Float) (h : Shape) (starts' : List Float) (numbers' : List ℕ) (xs' ys' blocks' : List Float) : Type 0 where
  pub before : Resolver
  pub own : Resolver
  pub installs : desk.Installs before set own
  pub is : own ≡ lent_state h own.set.starts own.set.numbers own.set.xs own.set.ys own.set.blocks
  pub starts-after : starts' ≡ over (i * 256) own.set.starts starts
  pub numbers_after : numbers' ≡ over (i * 256) own.set.numbers numbers
  pub xs-after : xs' ≡ over (i * 512) own.set.xs xs
  pub ys-after : ys' ≡ over (i * 512) own.set.ys ys
  pub blocks-after : blocks' ≡ over (i * 256) own.set.blocks blocks

-- there is room for one set more, and for its name
pub record Enters (defaults : List Float) (counts bytes : List ℕ) (n : ℕ) (name : List ℕ) : Type 0 where
  pub sizes : Sizes defaults counts bytes
  pub few : n < max_sets
  pub short : length name ≤ max_name
  pub paged : NamePages bytes n
  pub below : Every (λ (j : ℕ). j < n) (part 65 n counts)

-- the shape and the name are written, and the set has its place among the names
pub record Entered (n : ℕ) (h : Shape) (name : List ℕ) (declares : Bool) (defaults : List Float) (counts bytes : List ℕ) (defaults' : List Float) (counts' bytes' : List ℕ) : Type 0 where
  pub shaped : List ℕ
  pub marked : List ℕ
  pub order : List ℕ
  pub stored : ShapeStored h n defaults counts bytes defaults' shaped marked
  pub ordered : length order ≡ 16
  pub inserted : take (suc n) order ≡ insert_number (names_in (name_stored name declares n marked) (suc n)) n (take n (part 65 16 shaped))
  pub counts-after : counts' ≡ write (over 65 order shaped) 0 (n + 1)
  pub bytes_after : bytes' ≡ name_stored name declares n marked

-- the set on the i-th page of each is moved, as on a desk that is lent
pub record MovedAt (i : ℕ) (h : Shape) (o : LayerOffset) (starts : List Float) (numbers : List ℕ) (xs ys blocks : List Float) (r : Result Shape Refusal) (starts' : List Float) (numbers' : List ℕ) (xs' ys' blocks' : List Float) : Type 0 where
  pub own : Resolver
  pub retimes : desk.Retimes (page_state h i starts numbers xs ys blocks) o (number_in r) own
  pub is : own ≡ lent_state (left h r) own.set.starts own.set.numbers own.set.xs own.set.ys own.set.blocks
  pub starts-after : starts' ≡ over (i * 256) own.set.starts starts
  pub numbers_after : numbers' ≡ over (i * 256) own.set.numbers numbers
  pub xs-after : xs' ≡ over (i * 512) own.set.xs xs
  pub ys-after : ys' ≡ over (i * 512) own.set.ys ys
  pub blocks-after : blocks' ≡ over (i * 256) own.set.blocks blocks

-- "a fresh dispatcher" has no set; lists of other sizes than the pages are left as they are
abbrev pub Begins : Pages → Bool → Pages → Type 0
Begins before true after = Made after × (model after ≡ [])
Begins before false after = (Sized before → ⊥) × (after ≡ before)
