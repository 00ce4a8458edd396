-- What `parse` reads is the revision that a text spells.
use Rattle.std.proofs.Common.{◌≡◌, ◌≢◌, ℕ, ◌^◌, ◌<◌, List, [], ◌∷◌, length, get_or, Bool, true, false, Some, Result, Ok, Err, refl, ap, arith, nat_lt}
use Rattle.std.specs.Result.{result_ok}
use Rattle.std.specs.Str.{all_ascii_digits}
use Rattle.std.specs.Str.Parse.{digits_value, ParsesUnsigned}
use Rattle.std.proofs.lemmas.Bool.{lt-ltb, ltb-true}
use Rattle.std.proofs.lemmas.Bool.Decides.{nat_tests}
use Rattle.std.proofs.lemmas.Str.Parse.{IsNumeralModel, numerals_by_value, tells_all_ascii_digits, parse_plain}
use Rattle.routes.specs.Query.{revisions, begins_above_zero, is_revision, revision_of}

-- texts of digits, and the numbers that they write
digits : IsNumeralModel (λ ds. all_ascii_digits ds ≡ true) (digits_value 10)
digits = numerals_by_value _ tells_all_ascii_digits

begins-not_plus : (text : List ℕ) → begins_above_zero text ≡ true → get_or text 0 0 ≢ 43
begins-not_plus [] above = grind arith
begins-not_plus (byte ∷ more) above = grind (arith, nat_tests)

begins-some : (text : List ℕ) → begins_above_zero text ≡ true → 0 < length text
begins-some [] above = grind arith
begins-some (byte ∷ more) above = omega arith

false_of : (b : Bool) → b ≢ true → b ≡ false
false_of true never = absurd (never refl)
false_of false never = refl

below-true : (n : ℕ) → n < 2 ^ 64 → nat_lt n revisions ≡ true
unfolding revisions
below-true n below = lt-ltb n (2 ^ 64) below

true-below : (n : ℕ) → nat_lt n revisions ≡ true → n < 2 ^ 64
unfolding revisions
true-below n below = ltb-true n (2 ^ 64) below

pub parsed-revision : {E : Type 0} (text : List ℕ) (r : Result ℕ E) → ParsesUnsigned 64 10 text r → begins_above_zero text ≡ true → result_ok r ≡ revision_of text
parsed-revision {E} text (Ok n) parsed above =
    let plain = parse_plain digits {E = E} 64 text (Ok n) parsed (begins-not_plus text above) in
    rw (above, plain.0.0, below-true _ plain.0.2) (ap Some plain.1)
parsed-revision {E} text (Err fault) parsed above =
    let plain = parse_plain digits {E = E} 64 text (Err fault) parsed (begins-not_plus text above) in
    let never : is_revision text ≢ true =
    λ is.
    let all : all_ascii_digits text ≡ true = grind arith in
    let below : nat_lt (digits_value 10 text) revisions ≡ true = grind arith in
    plain (all, begins-some text above, true-below _ below)
    in rw (false_of (is_revision text) never) refl
