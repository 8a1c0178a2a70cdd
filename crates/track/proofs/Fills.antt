-- The walk over the changes of the value that stops when its outputs are full: where it stands, and what it promises. Assumes nothing.
use mathlib.Core.Path.{◌≡◌, sym, ap, ◌∙◌}
use mathlib.Core.List.{List, ◌++◌}
use Prim.Native.Nat.{ℕ, ◌+◌}
use lib.ListN.{length, length-append}
use lib.Ieee.{Float}
use Rattle.definitions.specs.declared.Missing.{Missing}
use Rattle.laws.proofs.track.Laws.{changes-split}
use Rattle.laws.specs.cell.Keys.{entry_at_key}
use Rattle.laws.specs.cell.Tracks.{entry-same}
use Rattle.laws.specs.cell.Lent.{set_of, samples_of}
use Rattle.track.specs.span.Changes.{changes_of}
use Rattle.track.specs.declared.fill.Filled.{Filled}
use Rattle.track.specs.Fills.{PassedTo}

-- ---- in other words

module _ {starts : List Float} {clips : List ℕ} {xs ys blocks : List Float} {m : Missing} {times values : List Float} {marks ends : List ℕ} {from top : ℕ} {r : Filled} (P : PassedTo starts clips xs ys blocks m times values marks ends from top r) where
  -- the changes from the key on are those that are passed, and those above the cursor
  pub passed_first : changes_of (set_of (length ends) starts clips xs ys blocks m) (samples_of times values marks ends) from top ≡ changes_of (set_of (length ends) starts clips xs ys blocks m) (samples_of times values marks ends) from r.cursor.key ++ changes_of (set_of (length ends) starts clips xs ys blocks m) (samples_of times values marks ends) r.cursor.key top
  passed_first = changes-split entry-same (entry_at_key (set_of (length ends) starts clips xs ys blocks m) (samples_of times values marks ends)) from r.cursor.key top P.order P.cursor.keys.order

  pub passed_length : length (changes_of (set_of (length ends) starts clips xs ys blocks m) (samples_of times values marks ends) from top) ≡ r.count + length (changes_of (set_of (length ends) starts clips xs ys blocks m) (samples_of times values marks ends) r.cursor.key top)
  passed_length = ap length passed_first ∙ length-append (changes_of (set_of (length ends) starts clips xs ys blocks m) (samples_of times values marks ends) from r.cursor.key) (changes_of (set_of (length ends) starts clips xs ys blocks m) (samples_of times values marks ends) r.cursor.key top) ∙ ap (λ (n : ℕ). n + length (changes_of (set_of (length ends) starts clips xs ys blocks m) (samples_of times values marks ends) r.cursor.key top)) (sym P.count)
