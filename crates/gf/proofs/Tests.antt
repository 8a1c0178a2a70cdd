-- A NaN differs from itself, and nothing else does; and what passes `is_nan` is the one NaN. Assumes nothing.
use Rattle.std.proofs.Common.{◌≡◌, Bool, true, false, not, T, sym, refl, ap, ◌∙◌, subst, true≢false}
use lib.Ieee.{Float, nan, inf, fin, ne, is_nan}
use lib.Ieee.Compare.{differs_from_itself, nan_differs}

number_same : (x : Float) (b : Bool) → ne x x ≡ b → is_nan x ≡ false → b ≡ false
unfolding is_nan
number_same x true e n = absurd (true≢false (sym (ap is_nan (differs_from_itself x (subst T (sym e) tt))) ∙ n))
number_same x false e n = refl

pub differs : (x : Float) → ne x x ≡ is_nan x
unfolding is_nan
differs nan = nan_differs
differs (inf s) = number_same (inf s) (ne (inf s) (inf s)) refl refl
differs (fin s m e) = number_same (fin s m e) (ne (fin s m e) (fin s m e)) refl refl

pub not-nan : (x : Float) → ne x x ≡ false → T (not (is_nan x))
not-nan x e = subst (λ (b : Bool). T (not b)) (sym e ∙ differs x) tt

pub nan-only : (x : Float) → is_nan x ≡ true → x ≡ nan
unfolding is_nan
nan-only nan e = refl
nan-only (inf s) e = absurd (true≢false (sym e))
nan-only (fin s m k) e = absurd (true≢false (sym e))
