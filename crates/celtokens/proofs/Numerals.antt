-- The longest numeral.
use Rattle.std.proofs.Common.{◌≡◌, ℕ, ◌<◌, ◌≤◌, true, false, ◌&&◌, ◌==◌, ◌⊎◌, inl, inr, List, [], ◌∷◌, length, Some, None, refl, ap, sym, arith}
use Rattle.std.specs.Prelude.{nat_lt}
use Rattle.std.specs.Char.{digit_value}
use Rattle.std.specs.Str.Parse.{digits_value}
use Rattle.std.proofs.lemmas.Bool.{and_parts, eqb-true}
use Rattle.std.proofs.lemmas.Bool.Decides.{nat_tests}
use Rattle.std.proofs.lemmas.Option.{cond_some}
use Rattle.celtokens.specs.declared.class.Class.TheVariants as class_of
use Rattle.celtokens.specs.declared.run.Kind.{Kind}
use Rattle.celtokens.specs.declared.run.Kind.TheVariants as kind
use Rattle.celtokens.specs.Class.{class, StartsWith}
use Rattle.celtokens.specs.Run.{is_in, stop, more, front, beyond}
use Rattle.celtokens.specs.Numeral.{Numeral, decimal, hexadecimal, is_u, after_hex_prefix, FirstIs, FirstIsNot, BestNumeral}
use Rattle.celtokens.specs.Terminal.{Int, Uint}
use Rattle.celtokens.specs.Lexeme.{Part, Whole, Lexeme, int, uint, Longest}
use Rattle.celtokens.proofs.Lexemes.{starts_class, to_longest}
use Rattle.celtokens.proofs.Runs.{Continues, run_is, run_shorter, beyond_le}

-- a digit is below its base
pub digit_in_base : (c : ℕ) → is_in kind.Digit c ≡ true → nat_lt (digit_value c) 10 ≡ true
digit_in_base c h = grind (arith, nat_tests)

pub hexdigit_in_base : (c : ℕ) → is_in kind.HexDigit c ≡ true → nat_lt (digit_value c) 16 ≡ true
hexdigit_in_base c h = grind (arith, nat_tests)

-- no digit is a `u`
digit_not_u : (c : ℕ) → is_in kind.Digit c ≡ true → is_u c ≡ false
digit_not_u c h = grind (arith, nat_tests)

hexdigit_not_u : (c : ℕ) → is_in kind.HexDigit c ≡ true → is_u c ≡ false
hexdigit_not_u c h = grind (arith, nat_tests)

continues_not_u : (k : Kind) → ((c : ℕ) → is_in k c ≡ true → is_u c ≡ false) → (l : List ℕ) → Continues k l → FirstIsNot is_u l
continues_not_u k not_u [] h c i e = absurd h
continues_not_u k not_u (d ∷ l) h c i e = let p : d ≡ c = cc in rw (← p) (not_u d h)

class_digit : (c : ℕ) → class c ≡ class_of.Digit → is_in kind.Digit c ≡ true
class_digit c h = grind (arith, nat_tests)

-- where no `0x` with a digit begins, the run of digits is the longest numeral
decimal_others : (c : ℕ) (i : List ℕ) → after_hex_prefix (c ∷ i) ≡ None → (m : ℕ) (s : List ℕ) → Numeral c i m s → ((length (beyond kind.Digit i) < length s) × FirstIsNot is_u s) ⊎ ((m ≡ digits_value 10 (c ∷ front kind.Digit i)) × (s ≡ beyond kind.Digit i))
decimal_others c i none m s (decimal ds run) =
    elim (run_shorter kind.Digit run) [
      | inl w ↦ inl (w.0, continues_not_u kind.Digit digit_not_u s w.1)
      | inr w ↦ inr (ap (λ l. digits_value 10 (c ∷ l)) w.0, w.1)
    ]
decimal_others c i none m s (hexadecimal h hs e run) = absurd (let n = rw e at none in cc)

pub decimal_best : (l : List ℕ) → StartsWith class_of.Digit l → after_hex_prefix l ≡ None → BestNumeral l (digits_value 10 (front kind.Digit l)) (beyond kind.Digit l)
decimal_best [] starts none = absurd starts
decimal_best (c ∷ i) starts none =
    let first : is_in kind.Digit c ≡ true = class_digit c starts in
    rw first (record {
      first = c;
      rest = i;
      is = refl;
      numeral = decimal (front kind.Digit i) (run_is kind.Digit i);
      others = decimal_others c i none;
    })

-- where it begins, the run of hexadecimal digits is
hexadecimal_others : (z x d : ℕ) (i : List ℕ) → z ≡ 48 → x ≡ 120 → (m : ℕ) (s : List ℕ) → Numeral z (x ∷ d ∷ i) m s → ((length (beyond kind.HexDigit i) < length s) × FirstIsNot is_u s) ⊎ ((m ≡ digits_value 16 (d ∷ front kind.HexDigit i)) × (s ≡ beyond kind.HexDigit i))
hexadecimal_others z x d i ez ex m s (decimal ds stop) =
    let le : length (beyond kind.HexDigit i) ≤ length i = beyond_le kind.HexDigit i in
    inl (omega arith, λ c j e. let p : x ≡ c = cc in rw (← p, ex) refl)
hexadecimal_others z x d i ez ex m s (decimal ds (more e run)) = absurd (let n = rw ex at e in cc)
hexadecimal_others z x d i ez ex m s (hexadecimal h hs e run) =
    elim (run_shorter kind.HexDigit run) [
      | inl w ↦ inl (w.0, continues_not_u kind.HexDigit hexdigit_not_u s w.1)
      | inr w ↦ inr (ap (λ l. digits_value 16 (d ∷ l)) w.0, w.1)
    ]

hexadecimal_numeral : (z x d : ℕ) (i : List ℕ) → z ≡ 48 → x ≡ 120 → is_in kind.HexDigit d ≡ true → Numeral z (x ∷ d ∷ i) (digits_value 16 (d ∷ front kind.HexDigit i)) (beyond kind.HexDigit i)
hexadecimal_numeral z x d i ez ex digit = rw (ez, ex) (hexadecimal d (front kind.HexDigit i) digit (run_is kind.HexDigit i))

hexadecimal_step : (z x d : ℕ) (i ds : List ℕ) → (z == 48 && (x == 120 && is_in kind.HexDigit d)) ≡ true → d ∷ i ≡ ds → BestNumeral (z ∷ x ∷ d ∷ i) (digits_value 16 (front kind.HexDigit ds)) (beyond kind.HexDigit ds)
hexadecimal_step z x d i ds test e =
    let both = and_parts (z == 48) (x == 120 && is_in kind.HexDigit d) test in
    let parts = and_parts (x == 120) (is_in kind.HexDigit d) both.1 in
    let ez : z ≡ 48 = eqb-true z 48 both.0 in
    let ex : x ≡ 120 = eqb-true x 120 parts.0 in
    let digit : is_in kind.HexDigit d ≡ true = parts.1 in
    rw (← e, digit) (record {
      first = z;
      rest = x ∷ d ∷ i;
      is = refl;
      numeral = hexadecimal_numeral z x d i ez ex digit;
      others = hexadecimal_others z x d i ez ex;
    })

pub hexadecimal_best : (l ds : List ℕ) → after_hex_prefix l ≡ Some ds → BestNumeral l (digits_value 16 (front kind.HexDigit ds)) (beyond kind.HexDigit ds)
hexadecimal_best [] ds e = absurd (cc)
hexadecimal_best (z ∷ []) ds e = absurd (cc)
hexadecimal_best (z ∷ x ∷ []) ds e = absurd (cc)
hexadecimal_best (z ∷ x ∷ d ∷ i) ds e =
    let parts = cond_some (z == 48 && (x == 120 && is_in kind.HexDigit d)) (d ∷ i) ds e in
    hexadecimal_step z x d i ds parts.0 parts.1

uint_others : {c : ℕ} {i : List ℕ} {n u : ℕ} {r : List ℕ} → Numeral c i n (u ∷ r) → is_u u ≡ true
    → ((m : ℕ) (s : List ℕ) → Numeral c i m s → ((length (u ∷ r) < length s) × FirstIsNot is_u s) ⊎ ((m ≡ n) × (s ≡ u ∷ r)))
    → (q : Part) (s : List ℕ) → Lexeme class_of.Digit c i q s → (length r < length s) ⊎ ((q ≡ Whole (Uint n)) × (s ≡ r))
uint_others numeral mark others q s (int other) =
    elim (others _ _ other) [ inl w ↦ inl (omega (arith, w.0)) | inr w ↦ inl (omega (arith, ap length w.1)) ]
uint_others {u = u} {r = r} numeral mark others q s (uint {n = m} {u = v} other is) =
    elim (others _ _ other) [
      | inl w ↦ absurd (let n = w.1 v s refl in cc)
      | inr w ↦ (let e : ◌≡◌ {A = List ℕ} (v ∷ s) (u ∷ r) = w.1 in let f : s ≡ r = cc in inr (ap (λ k. Whole (Uint k)) w.0, f))
    ]

int_others : {c : ℕ} {i : List ℕ} {n : ℕ} {r : List ℕ} → FirstIsNot is_u r
    → ((m : ℕ) (s : List ℕ) → Numeral c i m s → ((length r < length s) × FirstIsNot is_u s) ⊎ ((m ≡ n) × (s ≡ r)))
    → (q : Part) (s : List ℕ) → Lexeme class_of.Digit c i q s → (length r < length s) ⊎ ((q ≡ Whole (Int n)) × (s ≡ r))
int_others unmarked others q s (int other) =
    elim (others _ _ other) [ inl w ↦ inl w.0 | inr w ↦ inr (ap (λ k. Whole (Int k)) w.0, w.1) ]
int_others {r = r} unmarked others q s (uint {u = v} other is) =
    elim (others _ _ other) [
      | inl w ↦ absurd (let n = w.1 v s refl in cc)
      | inr w ↦ absurd (let n = unmarked v s (sym w.1) in cc)
    ]

pub uint_longest : (l : List ℕ) (n : ℕ) (m r : List ℕ) → StartsWith class_of.Digit l → BestNumeral l n m → FirstIs is_u m r → Longest l (Whole (Uint n)) r
uint_longest l n m r starts best mark =
    let at = rw mark.1 at best in
    to_longest l at.first at.rest class_of.Digit _ r at.is (starts_class l at.first at.rest class_of.Digit at.is starts)
    (record { lexeme = uint at.numeral mark.2; others = uint_others at.numeral mark.2 at.others })

pub int_longest : (l : List ℕ) (n : ℕ) (r : List ℕ) → StartsWith class_of.Digit l → BestNumeral l n r → FirstIsNot is_u r → Longest l (Whole (Int n)) r
int_longest l n r starts best unmarked =
    to_longest l best.first best.rest class_of.Digit _ r best.is (starts_class l best.first best.rest class_of.Digit best.is starts)
    (record { lexeme = int best.numeral; others = int_others unmarked best.others })
