-- Arithmetic (CEL language definition, "Arithmetic operators" and "Overflow"): a result outside 64 bits is the error.
use Rattle.std.specs.Prelude.{ℕ, ℤ, pos, negsuc, neg_ℤ, ◌+◌, ◌-◌, ◌*◌, ◌/◌, ◌%◌, ◌^◌, ◌+ℤ◌, ◌-ℤ◌, ◌*ℤ◌, int_div, int_rem, Bool, false, ◌==◌, nat_lt, nat_le, if◌then◌else◌, List, ◌++◌, length}
use Rattle.celmean.specs.Value.{Value, Int, Uint, Text, Sequence, sequence, items, Outcome, Gives, Error}

-- from -2^63 up to 2^63 - 1
abbrev pub in_i64 : ℤ → Bool
in_i64 (pos n) = nat_lt n (2 ^ 63)
in_i64 (negsuc n) = nat_lt n (2 ^ 63)

abbrev pub signed : ℤ → Outcome
signed z = if in_i64 z then Gives (Int z) else Error

abbrev pub unsigned : ℕ → Outcome
unsigned n = if nat_lt n (2 ^ 64) then Gives (Uint n) else Error

abbrev pub is_zero : ℤ → Bool
is_zero (pos n) = n == 0
is_zero (negsuc n) = false

-- toward zero; by zero, and the least number by -1, is the error
abbrev pub signed_quotient : ℤ → ℤ → Outcome
signed_quotient a b = if is_zero b then Error else signed (int_div a b)

-- with the sign of a; an error where the quotient is one
abbrev pub signed_remainder : ℤ → ℤ → Outcome
signed_remainder a b = if is_zero b then Error else (if in_i64 (int_div a b) then Gives (Int (int_rem a b)) else Error)

abbrev pub unsigned_difference : ℕ → ℕ → Outcome
unsigned_difference a b = if nat_le b a then Gives (Uint (a - b)) else Error

abbrev pub unsigned_quotient : ℕ → ℕ → Outcome
unsigned_quotient a b = if b == 0 then Error else Gives (Uint (a / b))

abbrev pub unsigned_remainder : ℕ → ℕ → Outcome
unsigned_remainder a b = if b == 0 then Error else Gives (Uint (a % b))

-- of at most 65536 bytes
abbrev pub joined_texts : List ℕ → List ℕ → Outcome
joined_texts s t = if nat_le (length s + length t) 65536 then Gives (Text (s ++ t)) else Error

-- of at most 1024 items
abbrev pub joined_lists : List Value → List Value → Outcome
joined_lists s t = if nat_le (length s + length t) 1024 then Gives (Sequence (sequence (s ++ t))) else Error

-- `+`: of two numbers of one kind, two texts, or two lists
abbrev pub sum : Value → Value → Outcome
sum (Int a) (Int b) = signed (a +ℤ b)
sum (Uint a) (Uint b) = unsigned (a + b)
sum (Text s) (Text t) = joined_texts s t
sum (Sequence s) (Sequence t) = joined_lists (items s) (items t)
sum _ _ = Error

-- `-`
abbrev pub difference : Value → Value → Outcome
difference (Int a) (Int b) = signed (a -ℤ b)
difference (Uint a) (Uint b) = unsigned_difference a b
difference _ _ = Error

-- `*`
abbrev pub product : Value → Value → Outcome
product (Int a) (Int b) = signed (a *ℤ b)
product (Uint a) (Uint b) = unsigned (a * b)
product _ _ = Error

-- `/`
abbrev pub quotient : Value → Value → Outcome
quotient (Int a) (Int b) = signed_quotient a b
quotient (Uint a) (Uint b) = unsigned_quotient a b
quotient _ _ = Error

-- `%`
abbrev pub remainder : Value → Value → Outcome
remainder (Int a) (Int b) = signed_remainder a b
remainder (Uint a) (Uint b) = unsigned_remainder a b
remainder _ _ = Error

-- `-` before an operand
abbrev pub negation : Value → Outcome
negation (Int a) = signed (neg_ℤ a)
negation _ = Error
