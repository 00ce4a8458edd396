-- What `parse` reads, as the definitions say it.
use Rattle.std.proofs.Common.{◌≡◌, ℕ, ℤ, pos, negsuc, neg_ℤ, ◌<◌, ◌^◌, Bool, true, false, ◌==◌, cond, nat_lt, List, [], ◌∷◌, refl, arith, slice_index}
use Rattle.std.specs.Char.{digit_value}
use Rattle.std.specs.Str.Parse.{AllDigits, IsNumeral, digits_value, without_leading_plus, without_leading_sign, signed_digits_value}
use Rattle.std.proofs.lemmas.Bool.{and_parts}
use Rattle.std.proofs.lemmas.Bool.Decides.{nat_tests}
use Rattle.celtree.specs.Digits.{all_digits}
use Rattle.celmean.specs.Value.{Gives, Error, Int, Uint}
use Rattle.celmean.specs.Arithmetic.{in_i64, signed, unsigned}
use Rattle.celmean.specs.Texts.{is_numeral, signed_of_text, unsigned_of_text}
use mir.Syntax.{w64}
use mir.Val.{SFits}

digits_hold : (ds : List ℕ) → AllDigits 10 ds → all_digits 10 ds ≡ true
digits_hold [] h = refl
digits_hold (d ∷ ds) h = let more = digits_hold ds h.1 in grind (arith, nat_tests)

hold_digits : (ds : List ℕ) → all_digits 10 ds ≡ true → AllDigits 10 ds
hold_digits [] h = tt
hold_digits (d ∷ ds) h = let both = and_parts (nat_lt (digit_value d) 10) (all_digits 10 ds) h in (grind (arith, nat_tests), hold_digits ds both.1)

pub numeral_holds : (ds : List ℕ) → IsNumeral 10 ds → is_numeral ds ≡ true
numeral_holds [] h = absurd (omega (arith, h.0))
numeral_holds (d ∷ ds) h = digits_hold (d ∷ ds) h.1

pub holds_numeral : (ds : List ℕ) → is_numeral ds ≡ true → IsNumeral 10 ds
holds_numeral [] h = absurd (let e = h in cc)
holds_numeral (d ∷ ds) h = (omega arith, hold_digits (d ∷ ds) h)

pub fits : (z : ℤ) → SFits w64 z → in_i64 z ≡ true
fits (pos n) f = let h = f.sfits in grind (arith, nat_tests)
fits (negsuc n) f = let h = f.sfits in grind (arith, nat_tests)

pub fits_from : (z : ℤ) → in_i64 z ≡ true → SFits w64 z
fits_from (pos n) e = record { sfits = grind (arith, nat_tests) }
fits_from (negsuc n) e = record { sfits = grind (arith, nat_tests) }

-- an unsigned number
module _ (s : List ℕ) where
  pub unsigned_ok : (n : ℕ) → IsNumeral 10 s → digits_value 10 s < 2 ^ 64 → n ≡ digits_value 10 s → Gives (Uint n) ≡ unsigned_of_text s
  unsigned_ok n is small e = rw (numeral_holds s is, e) (let h : nat_lt (digits_value 10 s) (2 ^ 64) ≡ true = grind (arith, nat_tests) in rw h refl)

  unsigned_none : (b : Bool) → nat_lt (digits_value 10 s) (2 ^ 64) ≡ b → IsNumeral 10 s → (IsNumeral 10 s × (digits_value 10 s < 2 ^ 64) → ⊥) → Error ≡ unsigned (digits_value 10 s)
  unsigned_none true e is none = absurd (none (is, grind (arith, nat_tests)))
  unsigned_none false e is none = rw e refl

  unsigned_err_at : (b : Bool) → is_numeral s ≡ b → (IsNumeral 10 s × (digits_value 10 s < 2 ^ 64) → ⊥) → Error ≡ unsigned_of_text s
  unsigned_err_at true e none = rw e (unsigned_none (nat_lt (digits_value 10 s) (2 ^ 64)) refl (holds_numeral s e) none)
  unsigned_err_at false e none = rw e refl

  pub unsigned_err : (IsNumeral 10 s × (digits_value 10 s < 2 ^ 64) → ⊥) → Error ≡ unsigned_of_text s
  unsigned_err none = unsigned_err_at (is_numeral s) refl none

-- a signed number of value z, whose digits are ds
module _ (ds : List ℕ) (z : ℤ) where
  pub signed_ok : (n : ℤ) → IsNumeral 10 ds → SFits w64 z → n ≡ z → Gives (Int n) ≡ cond (is_numeral ds) (signed z) Error
  signed_ok n is small e = rw (numeral_holds ds is, fits z small, e) refl

  signed_none : (b : Bool) → in_i64 z ≡ b → IsNumeral 10 ds → (IsNumeral 10 ds × SFits w64 z → ⊥) → Error ≡ signed z
  signed_none true e is none = absurd (none (is, fits_from z e))
  signed_none false e is none = rw e refl

  signed_err_at : (b : Bool) → is_numeral ds ≡ b → (IsNumeral 10 ds × SFits w64 z → ⊥) → Error ≡ cond (is_numeral ds) (signed z) Error
  signed_err_at true e none = rw e (signed_none (in_i64 z) refl (holds_numeral ds e) none)
  signed_err_at false e none = rw e refl

  pub signed_err : (IsNumeral 10 ds × SFits w64 z → ⊥) → Error ≡ cond (is_numeral ds) (signed z) Error
  signed_err none = signed_err_at (is_numeral ds) refl none

-- where no plus stands in front, the sign is a minus or none
sign_at : (c : ℕ) (s : List ℕ) (b : Bool) → (c == 45) ≡ b → (c == 43) ≡ false → (n : ℤ)
    → IsNumeral 10 (without_leading_sign (c ∷ s)) → SFits w64 (signed_digits_value 10 (c ∷ s)) → n ≡ signed_digits_value 10 (c ∷ s) → Gives (Int n) ≡ signed_of_text (c ∷ s)
sign_at c s true minus plus n is small e = rw minus (signed_ok s (neg_ℤ (pos (digits_value 10 s))) n (rw minus at is) (rw minus at small) (rw minus at e))
sign_at c s false minus plus n is small e = rw minus (signed_ok (c ∷ s) (pos (digits_value 10 (c ∷ s))) n (rw (minus, plus) at is) (rw (minus, plus) at small) (rw (minus, plus) at e))

no_sign_at : (c : ℕ) (s : List ℕ) (b : Bool) → (c == 45) ≡ b → (c == 43) ≡ false
    → (IsNumeral 10 (without_leading_sign (c ∷ s)) × SFits w64 (signed_digits_value 10 (c ∷ s)) → ⊥) → Error ≡ signed_of_text (c ∷ s)
no_sign_at c s true minus plus none = rw minus (signed_err s (neg_ℤ (pos (digits_value 10 s))) (rw minus at none))
no_sign_at c s false minus plus none = rw minus (signed_err (c ∷ s) (pos (digits_value 10 (c ∷ s))) (rw (minus, plus) at none))

pub signed_text_ok : (s : List ℕ) → (slice_index s 0 == 43) ≡ false → (n : ℤ)
    → IsNumeral 10 (without_leading_sign s) → SFits w64 (signed_digits_value 10 s) → n ≡ signed_digits_value 10 s → Gives (Int n) ≡ signed_of_text s
signed_text_ok [] plus n is small e = absurd (omega (arith, is.0))
signed_text_ok (c ∷ s) plus n is small e = sign_at c s (c == 45) refl plus n is small e

pub signed_text_err : (s : List ℕ) → (slice_index s 0 == 43) ≡ false
    → (IsNumeral 10 (without_leading_sign s) × SFits w64 (signed_digits_value 10 s) → ⊥) → Error ≡ signed_of_text s
signed_text_err [] plus none = refl
signed_text_err (c ∷ s) plus none = no_sign_at c s (c == 45) refl plus none

-- a plus in front is no sign
plus_no_minus : (c : ℕ) → (c == 43) ≡ true → (c == 45) ≡ false
plus_no_minus c e = grind (arith, nat_tests)

plus_no_digit : (c : ℕ) → (c == 43) ≡ true → nat_lt (digit_value c) 10 ≡ false
plus_no_digit c e = grind (arith, nat_tests)

pub signed_text_plus : (s : List ℕ) → (slice_index s 0 == 43) ≡ true → Error ≡ signed_of_text s
signed_text_plus [] plus = refl
signed_text_plus (c ∷ s) plus = rw (plus_no_minus c plus, plus_no_digit c plus) refl

pub unsigned_text_plus : (s : List ℕ) → (slice_index s 0 == 43) ≡ true → Error ≡ unsigned_of_text s
unsigned_text_plus [] plus = refl
unsigned_text_plus (c ∷ s) plus = rw (plus_no_digit c plus) refl

pub no_plus : (s : List ℕ) → (slice_index s 0 == 43) ≡ false → without_leading_plus s ≡ s
no_plus s plus = rw plus refl
