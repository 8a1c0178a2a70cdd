-- What a reading of a clip is in the definitions' terms, and the search for a missing value start by start. Assumes nothing.
use mathlib.Core.Path.{◌≡◌, refl, sym, ap, ◌∙◌}
use mathlib.Core.Bool.{Bool, true, false, cond, true≢false}
use mathlib.Core.List.{List, [], ◌∷◌, reverse, reverse-append}
use mathlib.Core.Option.{Option, none, some}
use Rattle.std.specs.Prelude.{Some, None, is_some}
use Prim.Native.Nat.{ℕ, suc, ◌+◌, ◌-◌, ◌≤◌, ◌<◌}
use native.Mathlib.Omega.{arith}
use lib.ListN.{length, get_or, take, drop}
use lib.Seq.{take-suc}
use lib.Ieee.{Float, nan, eq}
use Rattle.definitions.specs.declared.Missing.{Missing}
use Rattle.definitions.specs.declared.Start.{Start}
use Rattle.definitions.specs.declared.StageTime.{StageTime}
use Rattle.definitions.specs.declared.Source.{Source}
use Rattle.definitions.specs.declared.Source.TheVariants.{Sample as sample}
use Rattle.definitions.specs.Lists.{any}
use Rattle.definitions.specs.ClipSet.{ClipSet, stage}
use Rattle.definitions.specs.Timing.{last_at_most, map_stage_to_clip}
use Rattle.definitions.specs.Samples.{Samples, clip_begin, clip_end, clip_times}
use Rattle.definitions.specs.Value.{SampleRead, blocked_at, sample_of, read_clip, first_reading}
use Rattle.laws.specs.cell.Lent.{start, active_of, knots_of, set_of, samples_of, AcceptedLists}
use Rattle.laws.proofs.list.Every.{zip-at}
use Rattle.laws.proofs.cell.Lent.{zip_length}
use Rattle.lists.proofs.Fronts.{front, no_front}
use Rattle.window.specs.Parts.{part_of, Readable}
use Rattle.window.proofs.Parts.{ready-clip, ready-readable}
use Rattle.sdf.specs.look.Reads.{marked_at, told}
use Rattle.sdf.proofs.look.ReadsLaws.{place_none, place-some}
use Rattle.sdf.specs.look.Reads as look
use Rattle.value.specs.direct.Reads.{reading_is, read_part, read_start, first_of, first_read, SearchAsks}

-- ---- a reading of the code

pub none-read : (r : SampleRead) → is_some r ≡ false → none ≡ reading_is r
none-read None e = refl
none-read (Some x) e = absurd (true≢false e)

module _ (xs ys times : List Float) (ends : List ℕ) (c : ℕ) (t : StageTime) where
  pub read_none : clip_begin ends c ≡ clip_end ends c → none ≡ read_part xs ys times ends c t
  read_none e = ap (sample_of c) (place_none times (clip_begin ends c) (clip_end ends c) (map_stage_to_clip (knots_of xs ys) t) e)

  pub read_some : Readable xs ys times ends → c < length ends → (clip_begin ends c ≡ clip_end ends c → ⊥)
      → some (sample c (last_at_most (part_of times ends c) (map_stage_to_clip (knots_of xs ys) t).0)) ≡ read_part xs ys times ends c t
  read_some R h n = ap (sample_of c) (place-some times (clip_begin ends c) (clip_end ends c) (map_stage_to_clip (knots_of xs ys) t) (omega (arith, R.from c h, n)) (R.inside c h))

module _ (xs ys times values : List Float) (marks ends : List ℕ) (c : ℕ) (t : StageTime) where
  -- a clip's two ends, as a look asks for them
  pub part-looked : Readable xs ys times ends → c < length ends → length values ≡ length times → length marks ≡ length times
      → (begin end : ℕ) → begin ≡ clip_begin ends c → end ≡ clip_end ends c → look.Readable times values marks begin end
  part-looked R h v m begin end p q =
      let i = R.inside c h in
      rw (p, q) (record { from = R.from c h; inside = i; rising = R.rising c h; values-reach = omega arith; marks-reach = omega arith })

-- ---- the search, start by start

module _ (blocks xs ys times : List Float) (ends : List ℕ) where
  abbrev read : Start → Option Source
  read a = read_start blocks xs ys times ends a

  abbrev first : List Start → Option Source
  first l = first_read blocks xs ys times ends l

  first-cons : (a : Start) (rest : List Start) → first (a ∷ rest) ≡ first_of (read a) (first rest)
  unfolding first_read
  first-cons a rest = refl

  first-none : first [] ≡ none
  unfolding first_read
  first-none = refl

  -- from the place i on
  module _ (l : List Start) (i : ℕ) (d : Start) where
    first-front : i < length l → first (drop i l) ≡ first_of (read (get_or l i d)) (first (drop (i + 1) l))
    first-front h = ap first (front l i d h) ∙ first-cons (get_or l i d) (drop (i + 1) l)

    -- below the place i, the nearest first
    first_back : i < length l → first (reverse (take (suc i) l)) ≡ first_of (read (get_or l i d)) (first (reverse (take i l)))
    first_back h = ap (λ (k : List Start). first (reverse k)) (take-suc l i d h) ∙ ap first (reverse-append (take i l) (get_or l i d ∷ [])) ∙ first-cons (get_or l i d) (reverse (take i l))

  module _ (starts : List Float) (clips : List ℕ) (paired : length starts ≡ length clips) (i : ℕ) where
    -- the start at the place i
    abbrev at : ℕ → Start
    at i = start (get_or starts i nan) (get_or clips i 0)

    pub start-blocked : any (λ (b : Float). eq b (get_or starts i nan)) blocks ≡ true → none ≡ read_start blocks xs ys times ends (start (get_or starts i nan) (get_or clips i 0))
    start-blocked e = rw e

    pub start-read : any (λ (b : Float). eq b (get_or starts i nan)) blocks ≡ false
        → read_part xs ys times ends (get_or clips i 0) (stage (get_or starts i nan)) ≡ read_start blocks xs ys times ends (start (get_or starts i nan) (get_or clips i 0))
    start-read e = rw e

    active-length : length (active_of starts clips) ≡ length starts
    active-length = zip_length start starts clips paired

    active-at : (j : ℕ) → j < length starts → get_or (active_of starts clips) j (at j) ≡ at j
    active-at j h = zip-at start starts clips j nan 0 (at j) h (omega (arith, paired))

    front-is : i < length starts → first (drop i (active_of starts clips)) ≡ first_of (read (at i)) (first (drop (i + 1) (active_of starts clips)))
    front-is h =
        first-front (active_of starts clips) i (at i) (omega (arith, active-length)) ∙ ap (λ (a : Start). first_of (read a) (first (drop (i + 1) (active_of starts clips)))) (active-at i h)

    pub from_found : i < length starts → (r : SampleRead) → is_some r ≡ true → reading_is r ≡ read_start blocks xs ys times ends (start (get_or starts i nan) (get_or clips i 0))
        → reading_is r ≡ first_read blocks xs ys times ends (drop i (active_of starts clips))
    from_found h None s e = absurd (true≢false (sym s))
    from_found h (Some x) s e = sym (front-is h ∙ ap (λ (o : Option Source). first_of o (first (drop (i + 1) (active_of starts clips)))) (sym e))

    pub from_on : i < length starts → none ≡ read_start blocks xs ys times ends (start (get_or starts i nan) (get_or clips i 0))
        → first_read blocks xs ys times ends (drop i (active_of starts clips)) ≡ first_read blocks xs ys times ends (drop (i + 1) (active_of starts clips))
    from_on h e = front-is h ∙ ap (λ (o : Option Source). first_of o (first (drop (i + 1) (active_of starts clips)))) (sym e)

    pub from_end : length starts ≤ i → first_read blocks xs ys times ends (drop i (active_of starts clips)) ≡ none
    from_end h = ap first (no_front (active_of starts clips) i (omega (arith, active-length))) ∙ first-none

    back_is : 0 < i → i ≤ length starts → first (reverse (take i (active_of starts clips))) ≡ first_of (read (at (i - 1))) (first (reverse (take (i - 1) (active_of starts clips))))
    back_is p h =
        let e : i ≡ suc (i - 1) = omega arith in
        ap (λ (k : ℕ). first (reverse (take k (active_of starts clips)))) e
        ∙ first_back (active_of starts clips) (i - 1) (at (i - 1)) (omega (arith, active-length))
        ∙ ap (λ (a : Start). first_of (read a) (first (reverse (take (i - 1) (active_of starts clips))))) (active-at (i - 1) (omega arith))

    pub back_found : 0 < i → i ≤ length starts → (r : SampleRead) → is_some r ≡ true → reading_is r ≡ read_start blocks xs ys times ends (start (get_or starts (i - 1) nan) (get_or clips (i - 1) 0))
        → reading_is r ≡ first_read blocks xs ys times ends (reverse (take i (active_of starts clips)))
    back_found p h None s e = absurd (true≢false (sym s))
    back_found p h (Some x) s e = sym (back_is p h ∙ ap (λ (o : Option Source). first_of o (first (reverse (take (i - 1) (active_of starts clips))))) (sym e))

    pub back_on : 0 < i → i ≤ length starts → none ≡ read_start blocks xs ys times ends (start (get_or starts (i - 1) nan) (get_or clips (i - 1) 0))
        → first_read blocks xs ys times ends (reverse (take i (active_of starts clips))) ≡ first_read blocks xs ys times ends (reverse (take (i - 1) (active_of starts clips)))
    back_on p h e = back_is p h ∙ ap (λ (o : Option Source). first_of o (first (reverse (take (i - 1) (active_of starts clips))))) (sym e)

    pub back_end : i ≤ 0 → first_read blocks xs ys times ends (reverse (take i (active_of starts clips))) ≡ none
    back_end h =
        let e : i ≡ 0 = omega arith in
        ap (λ (k : ℕ). first (reverse (take k (active_of starts clips)))) e ∙ first-none

-- ---- of the set

module _ {starts : List Float} {clips : List ℕ} {xs ys blocks : List Float} {m : Missing} {times values : List Float} {marks ends : List ℕ} (R : AcceptedLists starts clips xs ys blocks m times values marks ends) where
  abbrev set : ClipSet
  set = set_of (length ends) starts clips xs ys blocks m

  abbrev s : Samples
  s = samples_of times values marks ends

  -- the set's first reading: its manifest and its values tell nothing
  pub first-is : (l : List Start) → first_read blocks xs ys times ends l ≡ first_reading (set_of (length ends) starts clips xs ys blocks m) (samples_of times values marks ends) l
  unfolding first_read first_reading blocked_at read_clip clip_times set_of
  first-is [] = refl
  first-is (a ∷ rest) =
      ap (first_of (read_start blocks xs ys times ends a)) (first-is rest)
      ∙ sym (go (any (λ (b : Float). eq b a.time) blocks) (read_part xs ys times ends a.clip (stage a.time)))
    where
      go : (b : Bool) (o : Option Source) → cond b (first_reading set s rest) (elim o [ none ↦ first_reading set s rest | some r ↦ some r ]) ≡ first_of (cond b none o) (first_reading set s rest)
      go true o = refl
      go false none = refl
      go false (some r) = refl

  pub search-asks : SearchAsks starts clips xs ys times values marks ends
  search-asks = record { paired = R.starts-paired; named = ready-clip R; readable = ready-readable R; valued = R.accepted.values; flagged = R.accepted.marks }
