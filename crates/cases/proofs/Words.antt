-- Scans, step by step. Assumes nothing.
use Rattle.std.proofs.Common.{◌≡◌, ℕ, suc, ◌+◌, ◌<◌, ◌≤◌, Bool, true, false, cond, List, [], ◌∷◌, length, get_or, drop, sym, refl, ap, ◌∙◌, add-one, drop_of_length-le, drop-cons}
use Rattle.cases.specs.declared.text.words.Stop.{Stop}
use Rattle.cases.specs.Text.{stops_at, passed}

stops : (stop : Stop) (b : ℕ) (bs : List ℕ) → stops_at b stop ≡ true → passed stop (b ∷ bs) ≡ 0
unfolding passed
stops stop b bs e = ap (λ (k : Bool). cond k 0 (suc (passed stop bs))) e

goes : (stop : Stop) (b : ℕ) (bs : List ℕ) → stops_at b stop ≡ false → passed stop (b ∷ bs) ≡ suc (passed stop bs)
unfolding passed
goes stop b bs e = ap (λ (k : Bool). cond k 0 (suc (passed stop bs))) e

ends : (stop : Stop) → passed stop [] ≡ 0
unfolding passed
ends stop = refl

pub scan-stops : (text : List ℕ) (n : ℕ) (stop : Stop) → n < length text → stops_at (get_or text n 0) stop ≡ true → passed stop (drop n text) ≡ 0
scan-stops text n stop h e = ap (passed stop) (drop-cons text n 0 h) ∙ stops stop _ _ e

pub scan-goes : (text : List ℕ) (n : ℕ) (stop : Stop) → n < length text → stops_at (get_or text n 0) stop ≡ false → passed stop (drop n text) ≡ suc (passed stop (drop (n + 1) text))
scan-goes text n stop h e = ap (passed stop) (drop-cons text n 0 h) ∙ goes stop _ _ e ∙ ap (λ (m : ℕ). suc (passed stop (drop m text))) (sym (add-one n))

pub scan-ends : (text : List ℕ) (n : ℕ) (stop : Stop) → length text ≤ n → passed stop (drop n text) ≡ 0
scan-ends text n stop h = ap (passed stop) (drop_of_length-le text h) ∙ ends stop

pub ruleset scans = (scan-stops, scan-goes, scan-ends)
