-- One set's page is written: its set is the one that was written, and the others are as they were. Assumes nothing.
use Prim.Native.Nat.{ℕ, ◌+◌, ◌*◌, ◌≤◌, ◌<◌}
use native.Mathlib.Omega.{arith}
use mathlib.Core.Path.{◌≡◌, refl, sym, ap, ◌∙◌}
use mathlib.Core.Bool.{Bool, true, false}
use mathlib.Core.List.{List}
use lib.ListN.{length, get_or, set, length-set}
use lib.Seq.{get_or-set_same, get_or-set_other}
use lib.Ieee.{Float, nan}
use Rattle.dispatch.specs.SetOrder.{max_name}
use Rattle.dispatch.specs.NamedSets.{max_sets}
use Rattle.resolver.specs.declared.Shape.{Shape}
use Rattle.resolver.specs.State.{lent_state}
use Rattle.standing.specs.Standing.{Lengths}
use Rattle.set_names.specs.Pages.{name_in}
use Rattle.pages.specs.Pages.{Pages, pages, part, over, Sizes, Sized, bit, is_set, shape_in, state_at, Names}
use Rattle.pages.specs.Placing.{ShapeStored, Replaced}
use Rattle.pages.proofs.Parts.{over-long, own-page, other-256, other-512, set_before, set-behind}

pub bit-set : (b : Bool) → is_set (bit b) ≡ b
bit-set true = refl
bit-set false = refl

-- ---- a shape by its seven numbers

module _ (defaults defaults' : List Float) (counts bytes counts' bytes' : List ℕ) where
  -- the i-th is the same where its cells are
  pub shape_same : (i : ℕ) → get_or defaults' i nan ≡ get_or defaults i nan
      → get_or counts' (1 + i) 0 ≡ get_or counts (1 + i) 0 → get_or counts' (17 + i) 0 ≡ get_or counts (17 + i) 0 → get_or counts' (33 + i) 0 ≡ get_or counts (33 + i) 0 → get_or counts' (49 + i) 0 ≡ get_or counts (49 + i) 0
      → get_or bytes' (4096 + i) 0 ≡ get_or bytes (4096 + i) 0 → get_or bytes' (4112 + i) 0 ≡ get_or bytes (4112 + i) 0 → shape_in defaults' counts' bytes' i ≡ shape_in defaults counts bytes i
  shape_same i v c s k b m f = λ x. record {
    stands = true;
    clips = c x;
    counts = record { starts = s x; knots = k x; blocks = b x };
    manifest = record { default = record { mark = m x; value = v x }; interpolate = is_set (f x) };
  }

  module _ (h : Shape) (i : ℕ) (few : i < max_sets) (S : Sizes defaults counts bytes) (W : ShapeStored h i defaults counts bytes defaults' counts' bytes') where
    abbrev one : List ℕ
    one = set counts (1 + i) h.clips

    abbrev two : List ℕ
    two = set one (17 + i) h.counts.starts

    abbrev three : List ℕ
    three = set two (33 + i) h.counts.knots

    long-1 : length one ≡ 81
    long-1 = length-set counts (1 + i) h.clips ∙ S.of-counts

    long-2 : length two ≡ 81
    long-2 = length-set one (17 + i) h.counts.starts ∙ long-1

    long-3 : length three ≡ 81
    long-3 = length-set two (33 + i) h.counts.knots ∙ long-2

    -- a cell that is none of the four, from the last written on
    past-4 : (k : ℕ) → (k ≡ 49 + i → ⊥) → get_or counts' k 0 ≡ get_or three k 0
    past-4 k n = ap (λ (l : List ℕ). get_or l k 0) W.counts-after ∙ get_or-set_other three (49 + i) k h.counts.blocks 0 n

    past-3 : (k : ℕ) → (k ≡ 33 + i → ⊥) → get_or three k 0 ≡ get_or two k 0
    past-3 k n = get_or-set_other two (33 + i) k h.counts.knots 0 n

    past-2 : (k : ℕ) → (k ≡ 17 + i → ⊥) → get_or two k 0 ≡ get_or one k 0
    past-2 k n = get_or-set_other one (17 + i) k h.counts.starts 0 n

    past-1 : (k : ℕ) → (k ≡ 1 + i → ⊥) → get_or one k 0 ≡ get_or counts k 0
    past-1 k n = get_or-set_other counts (1 + i) k h.clips 0 n

    pub kept-count : (k : ℕ) → (k ≡ 1 + i → ⊥) → (k ≡ 17 + i → ⊥) → (k ≡ 33 + i → ⊥) → (k ≡ 49 + i → ⊥) → get_or counts' k 0 ≡ get_or counts k 0
    kept-count k a b c d = past-4 k d ∙ past-3 k c ∙ past-2 k b ∙ past-1 k a

    pub kept_byte : (k : ℕ) → (k ≡ 4096 + i → ⊥) → (k ≡ 4112 + i → ⊥) → get_or bytes' k 0 ≡ get_or bytes k 0
    kept_byte k a b =
        ap (λ (l : List ℕ). get_or l k 0) W.bytes_after
        ∙ get_or-set_other (set bytes (4096 + i) h.manifest.default.mark) (4112 + i) k (bit h.manifest.interpolate) 0 b
        ∙ get_or-set_other bytes (4096 + i) k h.manifest.default.mark 0 a

    pub kept-default : (k : ℕ) → (k ≡ i → ⊥) → get_or defaults' k nan ≡ get_or defaults k nan
    kept-default k a = ap (λ (l : List Float). get_or l k nan) W.defaults-after ∙ get_or-set_other defaults i k h.manifest.default.value nan a

    -- what is written is read
    pub shape-own : h.stands ≡ true → shape_in defaults' counts' bytes' i ≡ h
    shape-own e = λ x. record {
      stands = sym e x;
      clips = clips x;
      counts = record { starts = starts x; knots = knots x; blocks = blocks x };
      manifest = record { default = record { mark = mark x; value = value x }; interpolate = flag x };
    }
      where
        clips : get_or counts' (1 + i) 0 ≡ h.clips
        clips = past-4 (1 + i) (λ q. omega arith) ∙ past-3 (1 + i) (λ q. omega arith) ∙ past-2 (1 + i) (λ q. omega arith) ∙ get_or-set_same counts (1 + i) h.clips 0 (omega (arith, S.of-counts))

        starts : get_or counts' (17 + i) 0 ≡ h.counts.starts
        starts = past-4 (17 + i) (λ q. omega arith) ∙ past-3 (17 + i) (λ q. omega arith) ∙ get_or-set_same one (17 + i) h.counts.starts 0 (omega (arith, long-1))

        knots : get_or counts' (33 + i) 0 ≡ h.counts.knots
        knots = past-4 (33 + i) (λ q. omega arith) ∙ get_or-set_same two (33 + i) h.counts.knots 0 (omega (arith, long-2))

        blocks : get_or counts' (49 + i) 0 ≡ h.counts.blocks
        blocks = ap (λ (l : List ℕ). get_or l (49 + i) 0) W.counts-after ∙ get_or-set_same three (49 + i) h.counts.blocks 0 (omega (arith, long-3))

        value : get_or defaults' i nan ≡ h.manifest.default.value
        value = ap (λ (l : List Float). get_or l i nan) W.defaults-after ∙ get_or-set_same defaults i h.manifest.default.value nan (omega (arith, S.of-defaults))

        marked : length (set bytes (4096 + i) h.manifest.default.mark) ≡ 4144
        marked = length-set bytes (4096 + i) h.manifest.default.mark ∙ S.of-bytes

        mark : get_or bytes' (4096 + i) 0 ≡ h.manifest.default.mark
        mark =
            ap (λ (l : List ℕ). get_or l (4096 + i) 0) W.bytes_after
            ∙ get_or-set_other (set bytes (4096 + i) h.manifest.default.mark) (4112 + i) (4096 + i) (bit h.manifest.interpolate) 0 (λ q. omega arith)
            ∙ get_or-set_same bytes (4096 + i) h.manifest.default.mark 0 (omega (arith, S.of-bytes))

        flag : is_set (get_or bytes' (4112 + i) 0) ≡ h.manifest.interpolate
        flag =
            ap is_set (ap (λ (l : List ℕ). get_or l (4112 + i) 0) W.bytes_after ∙ get_or-set_same (set bytes (4096 + i) h.manifest.default.mark) (4112 + i) (bit h.manifest.interpolate) 0 (omega (arith, marked)))
            ∙ bit-set h.manifest.interpolate

    pub sizes-kept : Sizes defaults' counts' bytes'
    sizes-kept = record {
      of-defaults = ap length W.defaults-after ∙ length-set defaults i h.manifest.default.value ∙ S.of-defaults;
      of-counts = ap length W.counts-after ∙ length-set three (49 + i) h.counts.blocks ∙ long-3;
      of-bytes = ap length W.bytes_after ∙ length-set (set bytes (4096 + i) h.manifest.default.mark) (4112 + i) (bit h.manifest.interpolate) ∙ length-set bytes (4096 + i) h.manifest.default.mark ∙ S.of-bytes;
    }

    pub order-kept : part 65 16 counts' ≡ part 65 16 counts
    order-kept =
        ap (part 65 16) W.counts-after
        ∙ set_before 65 16 three (49 + i) h.counts.blocks (omega arith)
        ∙ set_before 65 16 two (33 + i) h.counts.knots (omega arith)
        ∙ set_before 65 16 one (17 + i) h.counts.starts (omega arith)
        ∙ set_before 65 16 counts (1 + i) h.clips (omega arith)

    pub name-kept : (j : ℕ) → j < max_sets → get_or bytes (j * 256) 0 ≤ max_name → name_in bytes' j ≡ name_in bytes j
    name-kept j g q =
        ap (λ (n : ℕ). part (j * 256 + 1) n bytes') (kept_byte (j * 256) (λ e. omega arith) (λ e. omega arith))
        ∙ ap (part (j * 256 + 1) (get_or bytes (j * 256) 0)) W.bytes_after
        ∙ set-behind (j * 256 + 1) (get_or bytes (j * 256) 0) (set bytes (4096 + i) h.manifest.default.mark) (4112 + i) (bit h.manifest.interpolate) (omega arith)
        ∙ set-behind (j * 256 + 1) (get_or bytes (j * 256) 0) bytes (4096 + i) h.manifest.default.mark (omega arith)

-- ---- a whole page

module _ (p : Pages) (S : Sized p) (N : Names p.counts p.bytes) (i : ℕ) (few : i < max_sets) (h : Shape) (stands : h.stands ≡ true)
    (starts : List Float) (numbers : List ℕ) (xs ys blocks : List Float) (L : Lengths starts numbers xs ys blocks)
    (defaults : List Float) (counts bytes : List ℕ) (W : ShapeStored h i p.defaults p.counts p.bytes defaults counts bytes) where
  abbrev pub written : Pages
  written = pages (over (i * 256) starts p.starts) (over (i * 256) numbers p.numbers) (over (i * 512) xs p.xs) (over (i * 512) ys p.ys) (over (i * 256) blocks p.blocks) defaults counts bytes

  in-starts : i * 256 + 256 ≤ length p.starts
  in-starts = omega (arith, S.of-starts)

  in-numbers : i * 256 + 256 ≤ length p.numbers
  in-numbers = omega (arith, S.of-numbers)

  in-xs : i * 512 + 512 ≤ length p.xs
  in-xs = omega (arith, S.of-xs)

  in_ys : i * 512 + 512 ≤ length p.ys
  in_ys = omega (arith, S.of-ys)

  in_blocks : i * 256 + 256 ≤ length p.blocks
  in_blocks = omega (arith, S.of_blocks)

  own-state : state_at written i ≡ lent_state h starts numbers xs ys blocks
  unfolding state_at
  own-state = λ k. lent_state (shape-own p.defaults defaults p.counts p.bytes counts bytes h i few S.sizes W stands k) (a k) (b k) (c k) (d k) (e k)
    where
      a : part (i * 256) 256 (over (i * 256) starts p.starts) ≡ starts
      a = own-page (i * 256) 256 starts p.starts L.of-starts (omega (arith, in-starts))

      b : part (i * 256) 256 (over (i * 256) numbers p.numbers) ≡ numbers
      b = own-page (i * 256) 256 numbers p.numbers L.of-numbers (omega (arith, in-numbers))

      c : part (i * 512) 512 (over (i * 512) xs p.xs) ≡ xs
      c = own-page (i * 512) 512 xs p.xs L.of-xs (omega (arith, in-xs))

      d : part (i * 512) 512 (over (i * 512) ys p.ys) ≡ ys
      d = own-page (i * 512) 512 ys p.ys L.of-ys (omega (arith, in_ys))

      e : part (i * 256) 256 (over (i * 256) blocks p.blocks) ≡ blocks
      e = own-page (i * 256) 256 blocks p.blocks L.of_blocks (omega (arith, in_blocks))

  other-state : (j : ℕ) → j < max_sets → (j ≡ i → ⊥) → state_at written j ≡ state_at p j
  unfolding state_at
  other-state j g n = λ k. lent_state (shape k) (a k) (b k) (c k) (d k) (e k)
    where
      count : (m : ℕ) → (m + j ≡ 1 + i → ⊥) → (m + j ≡ 17 + i → ⊥) → (m + j ≡ 33 + i → ⊥) → (m + j ≡ 49 + i → ⊥) → get_or counts (m + j) 0 ≡ get_or p.counts (m + j) 0
      count m = kept-count p.defaults defaults p.counts p.bytes counts bytes h i few S.sizes W (m + j)

      byte : (m : ℕ) → (m + j ≡ 4096 + i → ⊥) → (m + j ≡ 4112 + i → ⊥) → get_or bytes (m + j) 0 ≡ get_or p.bytes (m + j) 0
      byte m = kept_byte p.defaults defaults p.counts p.bytes counts bytes h i few S.sizes W (m + j)

      shape : shape_in defaults counts bytes j ≡ shape_in p.defaults p.counts p.bytes j
      shape =
          shape_same p.defaults defaults p.counts p.bytes counts bytes j (kept-default p.defaults defaults p.counts p.bytes counts bytes h i few S.sizes W j n)
          (count 1 (λ q. n (omega arith)) (λ q. omega arith) (λ q. omega arith) (λ q. omega arith))
          (count 17 (λ q. omega arith) (λ q. n (omega arith)) (λ q. omega arith) (λ q. omega arith))
          (count 33 (λ q. omega arith) (λ q. omega arith) (λ q. n (omega arith)) (λ q. omega arith))
          (count 49 (λ q. omega arith) (λ q. omega arith) (λ q. omega arith) (λ q. n (omega arith)))
          (byte 4096 (λ q. n (omega arith)) (λ q. omega arith))
          (byte 4112 (λ q. omega arith) (λ q. n (omega arith)))

      a : part (j * 256) 256 (over (i * 256) starts p.starts) ≡ part (j * 256) 256 p.starts
      a = other-256 i j starts p.starts L.of-starts (omega (arith, in-starts)) n

      b : part (j * 256) 256 (over (i * 256) numbers p.numbers) ≡ part (j * 256) 256 p.numbers
      b = other-256 i j numbers p.numbers L.of-numbers (omega (arith, in-numbers)) n

      c : part (j * 512) 512 (over (i * 512) xs p.xs) ≡ part (j * 512) 512 p.xs
      c = other-512 i j xs p.xs L.of-xs (omega (arith, in-xs)) n

      d : part (j * 512) 512 (over (i * 512) ys p.ys) ≡ part (j * 512) 512 p.ys
      d = other-512 i j ys p.ys L.of-ys (omega (arith, in_ys)) n

      e : part (j * 256) 256 (over (i * 256) blocks p.blocks) ≡ part (j * 256) 256 p.blocks
      e = other-256 i j blocks p.blocks L.of_blocks (omega (arith, in_blocks)) n

  long : Sized written
  long = record {
    of-starts = over-long (i * 256) starts p.starts (omega (arith, in-starts)) (omega (arith, in-starts, L.of-starts)) ∙ S.of-starts;
    of-numbers = over-long (i * 256) numbers p.numbers (omega (arith, in-numbers)) (omega (arith, in-numbers, L.of-numbers)) ∙ S.of-numbers;
    of-xs = over-long (i * 512) xs p.xs (omega (arith, in-xs)) (omega (arith, in-xs, L.of-xs)) ∙ S.of-xs;
    of-ys = over-long (i * 512) ys p.ys (omega (arith, in_ys)) (omega (arith, in_ys, L.of-ys)) ∙ S.of-ys;
    of_blocks = over-long (i * 256) blocks p.blocks (omega (arith, in_blocks)) (omega (arith, in_blocks, L.of_blocks)) ∙ S.of_blocks;
    sizes = sizes-kept p.defaults defaults p.counts p.bytes counts bytes h i few S.sizes W;
  }

  pub replaced : Replaced p i (lent_state h starts numbers xs ys blocks) written
  replaced = record {
    long = long;
    own = own-state;
    others = other-state;
    count = kept-count p.defaults defaults p.counts p.bytes counts bytes h i few S.sizes W 0 (λ q. omega arith) (λ q. omega arith) (λ q. omega arith) (λ q. omega arith);
    order = order-kept p.defaults defaults p.counts p.bytes counts bytes h i few S.sizes W;
    names = λ j g. name-kept p.defaults defaults p.counts p.bytes counts bytes h i few S.sizes W j (omega (arith, N.few)) (N.paged.short j g);
    lengths = λ j g. kept_byte p.defaults defaults p.counts p.bytes counts bytes h i few S.sizes W (j * 256) (λ q. omega (arith, N.few)) (λ q. omega (arith, N.few));
    declared = λ j g. kept_byte p.defaults defaults p.counts p.bytes counts bytes h i few S.sizes W (4128 + j) (λ q. omega arith) (λ q. omega arith);
  }
