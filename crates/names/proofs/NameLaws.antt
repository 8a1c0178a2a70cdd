-- The name question: a law for each reply, and the writing of the three parts. Assumes nothing.
use Prim.Native.Nat.{ℕ, suc, ◌+◌, ◌-◌, ◌≤◌, ◌<◌}
use mathlib.Core.Path.{◌≡◌, refl, sym, ap, ap₂, ◌∙◌}
use mathlib.Core.Bool.{true, false}
use mathlib.Core.List.{List, ◌++◌}
use native.Mathlib.Omega.{arith}
use borrow.Author.Tests.{lt-ltb, le-ltb}
use lib.ListN.{length, take, drop, length-drop}
use lib.Seq.{length-take-le}
use Rattle.gf.specs.Doubles.{storable}
use Rattle.definitions.specs.declared.ClipTime.{ClipTime}
use Rattle.std.specs.Prelude.{Ok, Err}
use Rattle.definitions.specs.declared.refusal.Refusal.{Refusal}
use Rattle.definitions.specs.declared.refusal.Refusal.TheVariants.{Misshapen, Unstorable, UnreadableTemplate, NoRoom}
use Rattle.definitions.specs.Refusals.{number_of}
use Rattle.definitions.specs.Questions as Questions
use Rattle.definitions.specs.Questions.{reply, replied}
use Rattle.definitions.specs.Names.{split, readable, name, name_number}
use Rattle.names.specs.declared.pattern.Pattern.{Pattern}
use Rattle.names.specs.Put.{put}
use Rattle.names.specs.Named.{Names, written_by}
use Rattle.names.proofs.PutLaws.{put_front, put_three}

-- ---- the three parts of a name

module _ (out l : List ℕ) (p : Pattern) (b : List ℕ) (inside : p.first ≤ p.suffix) (held : p.suffix ≤ length l)
    (room : p.first + length b + (length l - p.suffix) ≤ length out)
  where
    pub name-put : (one two three : List ℕ) (rest : ℕ) → one ≡ put out 0 (take p.first l) → two ≡ put one p.first b → rest ≡ p.first + length b
        → three ≡ put two rest (drop p.suffix l) → three ≡ put out 0 (take p.first l ++ (b ++ drop p.suffix l))
    name-put one two three rest e1 e2 r e3 =
        let prefix = take p.first l in
        let suffix = drop p.suffix l in
        let n : p.first ≡ 0 + length prefix = omega (arith, length-take-le p.first l (omega arith)) in
        let m : rest ≡ 0 + length prefix + length b = omega arith in
        let two_is : two ≡ put (put out 0 prefix) (0 + length prefix) b = e2 ∙ ap₂ (λ (o : List ℕ) (k : ℕ). put o k b) e1 n in
        e3
        ∙ ap₂ (λ (o : List ℕ) (k : ℕ). put o k suffix) two_is m
        ∙ put_three out 0 prefix b suffix (omega (arith, length-drop p.suffix l))

-- ---- the replies

module _ (l : List ℕ) (t : ClipTime) (before : List ℕ) where
  -- a refusal whose number is the definitions'
  refused : (r : Refusal) (n : ℕ) → number_of r ≡ suc n → name_number l t (length before) ≡ suc n → Names l t before before (Err r)
  refused r n h e = record {
    reply = ap Questions.refused h ∙ sym (ap (λ (k : ℕ). reply k (length (name l t))) e);
    bytes = sym (ap (λ (k : ℕ). written_by k (name l t) before) e);
    short = tt;
  }

  pub refuses-1 : 255 < length l → Names l t before before (Err Misshapen)
  unfolding name_number
  refuses-1 h = refused Misshapen 0 refl (rw (lt-ltb 255 (length l) h))

  module _ (few : length l ≤ 255) where
    pub refuses-2 : storable t.0 ≡ false → Names l t before before (Err Unstorable)
    unfolding name_number
    refuses-2 e = refused Unstorable 1 refl (rw (le-ltb 255 (length l) few, e))

    module _ (small : storable t.0 ≡ true) where
      pub refuses-6 : readable (split l) ≡ false → Names l t before before (Err UnreadableTemplate)
      unfolding name_number
      refuses-6 e = refused UnreadableTemplate 5 refl (rw (le-ltb 255 (length l) few, small, e))

      module _ (read : readable (split l) ≡ true) where
        pub refuses-22 : length before < length (name l t) → Names l t before before (Err NoRoom)
        unfolding name_number
        refuses-22 h = refused NoRoom 21 refl (rw (le-ltb 255 (length l) few, small, read, lt-ltb (length before) (length (name l t)) h))

        pub writes : (n : ℕ) (after : List ℕ) → n ≡ length (name l t) → n ≤ length before → n ≤ 268 → after ≡ put before 0 (name l t) → Names l t before after (Ok n)
        unfolding name_number
        writes n after e h s w =
            let z : name_number l t (length before) ≡ 0 = rw (le-ltb 255 (length l) few, small, read, le-ltb (length before) (length (name l t)) (omega arith)) in
            record {
              reply = ap replied e ∙ sym (ap (λ (k : ℕ). reply k (length (name l t))) z);
              bytes = w ∙ put_front before (name l t) ∙ sym (ap (λ (k : ℕ). written_by k (name l t) before) z);
              short = s;
            }
