-- The sets of a dispatcher in lent lists, a page of each for a set, and the plain dispatcher that they hold. Assumes nothing.
use Rattle.std.specs.Prelude.{ℕ, zero, suc, ◌+◌, ◌*◌, ◌≤◌, ◌<◌, ◌≡◌, Bool, true, false, not, List, [], ◌∷◌, ◌++◌, eqb, length, get_or, take, drop, Float}
use Rattle.std.specs.Float.{nan}
use Rattle.dispatch.specs.SetOrder.{by_name}
use Rattle.dispatch.specs.NamedSets.{NamedSet, max_sets}
use Rattle.standing.specs.Standing.{set_in}
use Rattle.resolver.specs.declared.Resolver.{Resolver}
use Rattle.resolver.specs.declared.Shape.{Shape}
use Rattle.resolver.specs.State as resolver
use Rattle.resolver.specs.State.{lent_state}
use Rattle.set_names.specs.Pages.{name_in, names_in, NamePages}

-- ---- parts of a list

module _ {A : Type 0} where
  -- `count` entries from the place `from`: what a lent part holds
  abbrev pub part : (from count : ℕ) → List A → List A
  part from count l = take count (drop from l)

  -- `new` over the entries from the place `from`: what a list holds after a part of it was written
  abbrev pub over : (from : ℕ) → List A → List A → List A
  over from new l = take from l ++ (new ++ drop (length new) (drop from l))

-- ---- the lists

-- A set has 256 entries of `starts`, `numbers` and `blocks`, 512 of `xs` and `ys`, one of `defaults`, 256 of `bytes` for its name. `counts` has the number of
-- sets, then for each set its clips (from 1 on), starts (17), knots (33) and blocks (49), and the sets' numbers in the order of their names (65); behind the names
-- `bytes` has for each set the default's mark (4096), the flag (4112) and whether it declares (4128).
pub record Pages : Type 0 where
  pub starts : List Float
  pub numbers : List ℕ
  pub xs : List Float
  pub ys : List Float
  pub blocks : List Float
  pub defaults : List Float
  pub counts : List ℕ
  pub bytes : List ℕ

abbrev pub pages : List Float → List ℕ → List Float → List Float → List Float → List Float → List ℕ → List ℕ → Pages
pages starts numbers xs ys blocks defaults counts bytes = record { starts = starts; numbers = numbers; xs = xs; ys = ys; blocks = blocks; defaults = defaults; counts = counts; bytes = bytes }

-- the sizes of those that hold no list of a set
pub record Sizes (defaults : List Float) (counts bytes : List ℕ) : Type 0 where
  pub of-defaults : length defaults ≡ 16
  pub of-counts : length counts ≡ 81
  pub of-bytes : length bytes ≡ 4144

pub record Sized (p : Pages) : Type 0 where
  pub of-starts : length p.starts ≡ 4096
  pub of-numbers : length p.numbers ≡ 4096
  pub of-xs : length p.xs ≡ 8192
  pub of-ys : length p.ys ≡ 8192
  pub of_blocks : length p.blocks ≡ 4096
  pub sizes : Sizes p.defaults p.counts p.bytes

-- whether they have their sizes
abbrev pub SizedIs : Pages → Bool → Type 0
SizedIs p true = Sized p
SizedIs p false = Sized p → ⊥

-- ---- one set

abbrev pub bit : Bool → ℕ
bit true = 1
bit false = 0

abbrev pub is_set : ℕ → Bool
is_set byte = not (eqb byte 0)

abbrev pub shape_in : List Float → List ℕ → List ℕ → ℕ → Shape
shape_in defaults counts bytes i = record {
  stands = true;
  clips = get_or counts (1 + i) 0;
  counts = record { starts = get_or counts (17 + i) 0; knots = get_or counts (33 + i) 0; blocks = get_or counts (49 + i) 0 };
  manifest = record { default = record { mark = get_or bytes (4096 + i) 0; value = get_or defaults i nan }; interpolate = is_set (get_or bytes (4112 + i) 0) };
}

-- the i-th page of the lists, as a resolver that is lent
abbrev pub page_state : Shape → ℕ → List Float → List ℕ → List Float → List Float → List Float → Resolver
page_state h i starts numbers xs ys blocks = lent_state h (part (i * 256) 256 starts) (part (i * 256) 256 numbers) (part (i * 512) 512 xs) (part (i * 512) 512 ys) (part (i * 256) 256 blocks)

-- the i-th set
unfoldable pub state_at : Pages → ℕ → Resolver
state_at p i = page_state (shape_in p.defaults p.counts p.bytes i) i p.starts p.numbers p.xs p.ys p.blocks

abbrev pub declares_at : Pages → ℕ → Bool
declares_at p i = is_set (get_or p.bytes (4128 + i) 0)

abbrev pub named_at : Pages → ℕ → NamedSet
named_at p i = record { name = name_in p.bytes i; declares = declares_at p i; set = set_in (state_at p i).set }

-- ---- all sets

abbrev pub set_count : Pages → ℕ
set_count p = get_or p.counts 0 0

-- n sets from the i-th on
unfoldable pub sets_from : Pages → (i n : ℕ) → List NamedSet
sets_from p i zero = []
sets_from p i (suc n) = named_at p i ∷ sets_from p (suc i) n

-- the plain dispatcher
abbrev pub model : Pages → List NamedSet
model p = sets_from p 0 (set_count p)

-- how many sets there are, and their names
pub record Names (counts bytes : List ℕ) : Type 0 where
  pub counted : 0 < length counts
  pub few : get_or counts 0 0 ≤ max_sets
  pub paged : NamePages bytes (get_or counts 0 0)

-- "one that an operation made", of a dispatcher: the lists have their sizes, each set is one that an operation made, and the sets' numbers are sorted by name
pub record Made (p : Pages) : Type 0 where
  pub long : Sized p
  pub names : Names p.counts p.bytes
  pub each : (i : ℕ) → i < set_count p → resolver.Made (state_at p i)
  pub sorted : part 65 (set_count p) p.counts ≡ by_name (names_in p.bytes (set_count p)) (set_count p)
