-- Writing bytes in parts. `put-append`: one after the other; `put-before`: the later ones first; `put-set`: a store writes one byte. So a loop's invariant says that
-- writing what is left makes the whole. Assumes nothing.
use Prim.Native.Nat.{ℕ, ◌+◌, ◌≤◌, ◌<◌}
use mathlib.Core.Path.{◌≡◌, sym, ap, ap₂, ◌∙◌}
use mathlib.Core.List.{List, [], ◌∷◌, ◌++◌, append_assoc}
use native.Mathlib.Nat.{add-zero, zero-add, add_assoc}
use native.Mathlib.Numerals.{add-one}
use native.Mathlib.Omega.{arith}
use lib.ListN.{length, take, drop, set, length-append, length-drop, take-append-drop}
use lib.Seq.{length-take-le, take_at, drop_at, take-append-le, take-take, drop-drop, set_split}
use Rattle.definitions.specs.Lists.{written_over}
use Rattle.names.specs.Put.{put}

pub put-none : (out : List ℕ) (at : ℕ) → put out at [] ≡ out
unfolding put
put-none out at = ap (λ (n : ℕ). take at out ++ drop n out) (add-zero at) ∙ take-append-drop at out

pub put_front : (out bytes : List ℕ) → put out 0 bytes ≡ written_over bytes out
unfolding put
put_front out bytes = ap (λ (n : ℕ). bytes ++ drop n out) (zero-add (length bytes))

pub put-set : (out : List ℕ) (at b : ℕ) → at < length out → set out at b ≡ put out at (b ∷ [])
unfolding put
put-set out at b h = set_split out at b h ∙ ap (λ (n : ℕ). take at out ++ b ∷ drop n out) (sym (add-one at))

module _ (out : List ℕ) (at : ℕ) (a : List ℕ) (room : at + length a ≤ length out) where
  pub put-length : length (put out at a) ≡ length out
  unfolding put
  put-length =
      omega (
        arith,
        length-append (take at out) (a ++ drop (at + length a) out),
        length-append a (drop (at + length a) out),
        length-take-le at out (omega arith),
        length-drop (at + length a) out,
      )

  front : length (take at out ++ a) ≡ at + length a
  front = length-append (take at out) a ∙ ap (λ (n : ℕ). n + length a) (length-take-le at out (omega arith))

  put-parts : put out at a ≡ (take at out ++ a) ++ drop (at + length a) out
  unfolding put
  put-parts = sym (append_assoc (take at out) a (drop (at + length a) out))

  -- a, then b behind it
  pub put-append : (b : List ℕ) → put (put out at a) (at + length a) b ≡ put out at (a ++ b)
  unfolding put
  put-append b =
      let p = take at out in
      let rest = drop (at + length a) out in
      let before : take (at + length a) (put out at a) ≡ p ++ a = ap (take (at + length a)) put-parts ∙ take_at (p ++ a) rest (at + length a) front in
      let behind : drop (at + length a + length b) (put out at a) ≡ drop (at + length (a ++ b)) out =
      sym (drop-drop (length b) (at + length a) (put out at a))
      ∙ ap (drop (length b)) (ap (drop (at + length a)) put-parts ∙ drop_at (p ++ a) rest (at + length a) front)
      ∙ drop-drop (length b) (at + length a) out
      ∙ ap (λ (n : ℕ). drop n out) (add_assoc at (length a) (length b) ∙ ap (λ (n : ℕ). at + n) (sym (length-append a b))) in
      ap₂ (λ (l r : List ℕ). l ++ (b ++ r)) before behind
      ∙ append_assoc p a (b ++ drop (at + length (a ++ b)) out)
      ∙ ap (λ (l : List ℕ). p ++ l) (sym (append_assoc a b (drop (at + length (a ++ b)) out)))

-- b behind where a goes, then a
pub put-before : (out : List ℕ) (at : ℕ) (a b : List ℕ) → at + length a + length b ≤ length out → put (put out (at + length a) b) at a ≡ put out at (a ++ b)
unfolding put
put-before out at a b room =
    let mid = at + length a in
    let o = put out mid b in
    let rest = drop (mid + length b) out in
    let before : take at o ≡ take at out =
    take-append-le at (take mid out) (b ++ rest) (omega (arith, length-take-le mid out (omega arith))) ∙ take-take at mid out (omega arith) in
    let behind : drop mid o ≡ b ++ rest = drop_at (take mid out) (b ++ rest) mid (length-take-le mid out (omega arith)) in
    let end : mid + length b ≡ at + length (a ++ b) = add_assoc at (length a) (length b) ∙ ap (λ (n : ℕ). at + n) (sym (length-append a b)) in
    ap₂ (λ (l r : List ℕ). l ++ (a ++ r)) before behind
    ∙ ap (λ (l : List ℕ). take at out ++ l) (sym (append_assoc a b rest) ∙ ap (λ (n : ℕ). (a ++ b) ++ drop n out) end)

pub put_byte : (out : List ℕ) (at b : ℕ) (rest : List ℕ) → at < length out → put (set out at b) (at + 1) rest ≡ put out at (b ∷ rest)
put_byte out at b rest h = ap (λ (l : List ℕ). put l (at + 1) rest) (put-set out at b h) ∙ put-append out at (b ∷ []) (omega arith) rest

-- ---- three parts, one after the other

module _ (out : List ℕ) (at : ℕ) (a b c : List ℕ) (room : at + length a + length b + length c ≤ length out) where
  pub put-first-length : length (put out at a) ≡ length out
  put-first-length = put-length out at a (omega arith)

  pub put-second-length : length (put (put out at a) (at + length a) b) ≡ length out
  put-second-length = put-length (put out at a) (at + length a) b (omega (arith, put-first-length)) ∙ put-first-length

  pub put_three : put (put (put out at a) (at + length a) b) (at + length a + length b) c ≡ put out at (a ++ (b ++ c))
  put_three =
      put-append (put out at a) (at + length a) b (omega (arith, put-first-length)) c ∙ put-append out at a (omega arith) (b ++ c)
