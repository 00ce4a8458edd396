-- What checked operations on signed numbers give, as the definitions say it.
use Rattle.std.proofs.Common.{◌≡◌, ◌∙◌, zero, suc, ℤ, pos, negsuc, false, refl, sym, ap, subst, int_div, int_rem, arith}
use Rattle.std.specs.Int.{CanDivide, IsNonZero}
use Rattle.std.proofs.lemmas.Bool.Decides.{nat_tests}
use Rattle.std.proofs.lemmas.Int.{to_z-of_z}
use Rattle.celmean.specs.Value.{Gives}
use Rattle.celmean.specs.Arithmetic.{is_zero, signed, signed_quotient, signed_remainder}
use Rattle.celmean.specs.Seen.{value_of}
use Rattle.celmean.specs.declared.value.Value as program
use Rattle.celmean.proofs.Inside.{value_of-Int}
use Rattle.celmean.proofs.Numerals.{fits}
use mir.Syntax.{w64}
use mir.Val.{SFits, of_z, to_z}

pub signed_some : (n z : ℤ) → SFits w64 z → n ≡ z → Gives (value_of (program.Int (to_z w64 (of_z w64 n)))) ≡ signed z
signed_some n z small e =
    let P : ℤ → Type 0 = SFits w64 in
    rw (fits z small) (ap (λ m. Gives (value_of (program.Int m))) (to_z-of_z w64 n (subst P (sym e) small) ∙ e) ∙ ap Gives (value_of-Int z))

nonzero : (b : ℤ) → IsNonZero w64 b → is_zero b ≡ false
nonzero (pos zero) h = absurd (omega (arith, h))
nonzero (pos (suc n)) h = grind (arith, nat_tests)
nonzero (negsuc n) h = refl

pub quotient_some : (a b n : ℤ) → CanDivide w64 a b → n ≡ int_div a b → Gives (value_of (program.Int (to_z w64 (of_z w64 n)))) ≡ signed_quotient a b
quotient_some a b n can e = rw (nonzero b can.0) (signed_some n (int_div a b) can.1 e)

pub remainder_some : (a b n : ℤ) → CanDivide w64 a b → n ≡ int_rem a b → Gives (value_of (program.Int n)) ≡ signed_remainder a b
remainder_some a b n can e = rw (nonzero b can.0, fits (int_div a b) can.1) (ap (λ m. Gives (value_of (program.Int m))) e ∙ ap Gives (value_of-Int (int_rem a b)))
