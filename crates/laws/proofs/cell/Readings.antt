-- The sample that was read: it stands in the lent lists, and in one window it is of one clip. Assumes nothing.
use mathlib.Core.Path.{◌≡◌, refl, sym, ap, ◌∙◌, subst}
use mathlib.Core.Bool.{Bool, true, false, cond, ◌||◌}
use mathlib.Core.List.{List, [], ◌∷◌}
use mathlib.Core.Option.{Option, none, some}
use Prim.Native.Nat.{ℕ, ◌+◌, ◌-◌, ◌≤◌, ◌<◌}
use native.Mathlib.Omega.{arith}
use lib.Dec.{T, eqb, eqb→eq, ltb}
use lib.ListN.{length, get_or, get_elem?, drop, length-drop}
use lib.Seq.{length-take-le}
use lib.Ieee.{Float, eq}
use Rattle.gf.specs.Doubles.{0·0}
use Rattle.definitions.specs.declared.StageTime.{StageTime}
use Rattle.definitions.specs.declared.ClipTime.{ClipTime}
use Rattle.definitions.specs.declared.Start.{Start}
use Rattle.definitions.specs.declared.Source.{Source}
use Rattle.definitions.specs.declared.Source.TheVariants.{Sample as sample, Default as default, Blocked as blocked, Absent as absent}
use Rattle.definitions.specs.declared.Answer.{Answer}
use Rattle.definitions.specs.declared.Answer.TheVariants.{Value, Blocked, Absent}
use Rattle.std.specs.Prelude.{Some}
use Rattle.definitions.specs.ClipSet.{ClipSet, mark_value, stage}
use Rattle.definitions.specs.Timing.{active_position, map_stage_to_clip}
use Rattle.definitions.specs.Samples.{Samples, clip_begin, clip_end, clip_times, held_place}
use Rattle.definitions.specs.Value.{◌or_else◌, marked, says, sample_of, read_clip, contributes, manifest_default, gap_source, source_at, direct_source, gathered, lower_neighbour, upper_neighbour, jump, between, reading_time, value_source, value_in_set, sample_read, value_read}
use Rattle.laws.specs.Facts.{clip_read, Stands, SampleStands, OneClip}
use Rattle.laws.specs.list.Every.{Every}
use Rattle.laws.specs.list.Places.{Fits}
use Rattle.laws.specs.set.Accepted.{Accepted}
use Rattle.laws.specs.set.Sound.{Sound}
use Rattle.laws.proofs.set.Accepted.{accepted}
use Rattle.laws.proofs.cell.Places.{last-short}
use Rattle.laws.proofs.cell.Direct.{SoundSet, SoundSamples}
use Rattle.laws.proofs.cell.Window.{gathered-fit, window-below}
use Rattle.laws.proofs.cell.Neighbours.{lower-fits, lower-upto, lower_last}
use Rattle.laws.proofs.cell.Sources.{IfRead, Sourced, value-sourced}
use Rattle.laws.proofs.cell.Lent.{sound-set, sound-samples}

-- ---- what is read lies in its clip

-- a source whose sample, if it is one, is the clip's
abbrev pub Placed : List ℕ → Source → Type 0
Placed ends (sample c i) = (c < length ends) × (clip_begin ends c + i < clip_end ends c)
Placed ends default = Unit {0}
Placed ends blocked = Unit {0}
Placed ends absent = Unit {0}

held-placed : (ends : List ℕ) (c : ℕ) (l : List Float) (u : ClipTime) → c < length ends → clip_begin ends c + length l ≤ clip_end ends c → IfRead (Placed ends) (sample_of c (held_place l u))
unfolding held_place
held-placed ends c [] u h k = tt
held-placed ends c (x ∷ l) u h k = (h, omega (arith, last-short (x ∷ l) u.0 (omega arith)))

module _ (set : ClipSet) (s : Samples) (S : Sound set) (A : Accepted set s) where
  abbrev Named : Start → Type 0
  Named a = a.clip < set.clips

  read-placed : (c : ℕ) (t : StageTime) → c < set.clips → IfRead (Placed s.ends) (read_clip set s c t)
  unfolding read_clip clip_times
  read-placed c t h =
      held-placed s.ends c (clip_times s c) (map_stage_to_clip set.knots t) (omega (arith, A.ends))
      (omega (arith, A.from c h, A.inside c h, length-take-le (clip_end s.ends c - clip_begin s.ends c) (drop (clip_begin s.ends c) s.times) (omega (arith, A.inside c h, length-drop (clip_begin s.ends c) s.times))))

  placed-sourced : Sourced set s (Placed s.ends) Named
  placed-sourced = record { starts = S.named; reads = λ a t h. read-placed a.clip t h; default = λ e. tt; blocked = tt; absent = tt }

  pub value-placed : (t : StageTime) → Placed s.ends (value_source set s t)
  value-placed t = value-sourced (Placed s.ends) Named placed-sourced t

-- ---- and has the number that is answered

module _ (set : ClipSet) (s : Samples) where
  source-stands : (r : Source) (c i : ℕ) → Placed s.ends r → sample_read (says set s r) r ≡ Some (c, i) → Stands s c i (says set s r)
  unfolding says
  source-stands (sample d j) c i p e = go (eqb (get_or s.marks at 0) mark_value) (eqb→eq (get_or s.marks at 0) mark_value) e
    where
      at : ℕ
      at = clip_begin s.ends d + j

      go : (b : Bool) → (T b → get_or s.marks at 0 ≡ mark_value) → sample_read (cond b (Value (get_or s.values at 0·0)) Blocked) (sample d j) ≡ Some (c, i) → Stands s c i (cond b (Value (get_or s.values at 0·0)) Blocked)
      go true m q =
          let read : ◌≡◌ {A = ℕ × ℕ} (d, j) (c, i) = cc in
          let x : d ≡ c = ap (λ (k : ℕ × ℕ). k.0) read in
          let y : j ≡ i = ap (λ (k : ℕ × ℕ). k.1) read in
          subst (λ (k : ℕ). Stands s k i (Value (get_or s.values at 0·0))) x (subst (λ (k : ℕ). Stands s d k (Value (get_or s.values at 0·0))) y (record { clip = p.0; place = p.1; marked = m tt; number = refl }))
      go false m q = let z : ◌≡◌ {A = ℕ} 0 1 = cc in absurd (omega arith)
  source-stands default c i p e = let z : ◌≡◌ {A = ℕ} 0 1 = cc in absurd (omega arith)
  source-stands blocked c i p e = let z : ◌≡◌ {A = ℕ} 0 1 = cc in absurd (omega arith)
  source-stands absent c i p e = let z : ◌≡◌ {A = ℕ} 0 1 = cc in absurd (omega arith)

pub sample-stands : SampleStands
unfolding value_read value_in_set
sample-stands set s g t c i e = source-stands set s (value_source set s t) c i (value-placed set s g.sound (accepted set s g.doubles g.accepted) t) e

-- ---- one clip a window

-- the clip of a source that is a sample
abbrev source_clip : Source → Option ℕ
source_clip (sample c i) = some c
source_clip default = none
source_clip blocked = none
source_clip absent = none

clip-of-number : (v : Float) (r : Source) → clip_read (sample_read (Value v) r) ≡ source_clip r
clip-of-number v (sample c i) = refl
clip-of-number v default = refl
clip-of-number v blocked = refl
clip-of-number v absent = refl

held-clip : (c : ℕ) (l : List Float) (t u : ClipTime) (r : Source) → source_clip (sample_of c (held_place l t) or_else r) ≡ source_clip (sample_of c (held_place l u) or_else r)
unfolding held_place
held-clip c [] t u r = refl
held-clip c (x ∷ l) t u r = refl

module _ (set : ClipSet) (s : Samples) where
  -- what is read goes by the start alone, but for the place
  source-clip : (t u : StageTime) (p : ℕ) (o : Option Start) → source_clip (source_at set s t p o) ≡ source_clip (source_at set s u p o)
  unfolding read_clip
  source-clip t u p none = refl
  source-clip t u p (some a) = go (contributes set a)
    where
      go : (b : Bool) → source_clip (cond b (read_clip set s a.clip t) none or_else manifest_default set or_else gap_source set s p) ≡ source_clip (cond b (read_clip set s a.clip u) none or_else manifest_default set or_else gap_source set s p)
      go true = held-clip a.clip (clip_times s a.clip) (map_stage_to_clip set.knots t) (map_stage_to_clip set.knots u) (manifest_default set or_else gap_source set s p)
      go false = refl

module _ (set : ClipSet) (s : Samples) (S : SoundSet set) (A : SoundSamples s) (t : Float) (ft : Fits t) where
  abbrev p : ℕ
  p = active_position set.active (stage t)

  times-fit : Every Fits (gathered set s p)
  times-fit = gathered-fit set s S A p

  -- the lower neighbour lies in the same window
  lower-position : (l : Float) → lower_neighbour (gathered set s p) t ≡ some l → active_position set.active (stage l) ≡ p
  unfolding active_position
  lower-position l q =
      window-below set s S A l t (lower-fits (gathered set s p) times-fit t ft l q) ft (lower-upto (gathered set s p) times-fit t ft l q) (lower_last (gathered set s p) times-fit t ft l q)

  reading-position : active_position set.active (stage (reading_time set s (stage t))) ≡ p
  unfolding reading_time
  reading-position = go (lower_neighbour (gathered set s p) t) (upper_neighbour (gathered set s p) t) (λ l q. lower-position l q)
    where
      go : (lower upper : Option Float) → ((l : Float) → lower ≡ some l → active_position set.active (stage l) ≡ p) → active_position set.active (stage (between set.knots t lower upper)) ≡ p
      go none upper h = refl
      go (some l) none h = refl
      go (some l) (some u) h = by (eq l t || jump set.knots l u)
        where
          by : (b : Bool) → active_position set.active (stage (cond b t l)) ≡ p
          by true = refl
          by false = h l refl

  direct-clip : (u : StageTime) → active_position set.active u ≡ p → source_clip (direct_source set s u) ≡ source_clip (source_at set s u p (get_elem? set.active p))
  unfolding direct_source
  direct-clip u e = ap (λ (q : ℕ). source_clip (source_at set s u q (get_elem? set.active q))) e

  value-clip : source_clip (value_source set s (stage t)) ≡ source_clip (source_at set s (stage t) p (get_elem? set.active p))
  unfolding value_source
  value-clip = go (ltb 1 (length set.active))
    where
      go : (b : Bool) → source_clip (cond b (direct_source set s (stage (reading_time set s (stage t)))) (direct_source set s (stage t))) ≡ source_clip (source_at set s (stage t) p (get_elem? set.active p))
      go true = let r = stage (reading_time set s (stage t)) in direct-clip r reading-position ∙ source-clip set s r (stage t) p (get_elem? set.active p)
      go false = direct-clip (stage t) refl

read-clip : (set : ClipSet) (s : Samples) (t : StageTime) (v : Float) → (value_read set s t).answer ≡ Value v → clip_read (value_read set s t).sample ≡ source_clip (value_source set s t)
unfolding value_read
read-clip set s t v e = ap (λ (a : Answer). clip_read (sample_read a (value_source set s t))) e ∙ clip-of-number v (value_source set s t)

pub one-clip : OneClip
one-clip set s g t u ft fu e v w a b =
    let S = sound-set set g.sound in
    let A = sound-samples set s (accepted set s g.doubles g.accepted) in
    let at : ℕ → Option ℕ = λ p. source_clip (source_at set s u p (get_elem? set.active p)) in
    read-clip set s t v a ∙ value-clip set s S A t.0 ft.fitting
    ∙ source-clip set s t u (active_position set.active t) (get_elem? set.active (active_position set.active t))
    ∙ ap at e ∙ sym (value-clip set s S A u.0 fu.fitting) ∙ sym (read-clip set s u w b)
