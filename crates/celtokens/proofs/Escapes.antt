-- What follows an escape is shorter.
use Rattle.std.proofs.Common.{◌≡◌, ℕ, ◌<◌, ◌≤◌, Bool, true, false, not, ◌&&◌, ◌==◌, List, [], ◌∷◌, length, take, drop, Option, Some, None, ap, sym, arith, if◌then◌else◌, length-drop}
use Rattle.std.specs.Prelude.{nat_le}
use Rattle.std.specs.Str.Parse.{digits_value}
use Rattle.std.proofs.Math.Utf8.{scalar}
use Rattle.std.proofs.lemmas.Option.{cond_some, some_pair_parts}
use Rattle.celtokens.specs.declared.text.Style.{Style}
use Rattle.celtree.specs.Digits.{all_digits}
use Rattle.celtokens.specs.Run.{is_line_end}
use Rattle.celtokens.specs.Escape.{code_point, named, hex_len, with_rest, hex_digits, escape}
use Rattle.celtokens.specs.Text.{character}

code_point_drops : (base n : ℕ) (i : List ℕ) (c : ℕ) (m : List ℕ) → code_point base n i ≡ Some (c, m) → m ≡ drop n i
code_point_drops base n i c m e =
    let parts = cond_some (nat_le n (length i) && (all_digits base (take n i) && scalar (digits_value base (take n i)))) (digits_value base (take n i), drop n i) (c, m) e in
    sym (ap (λ p. p.1) parts.1)

with_rest_shorter : (o : Option ℕ) (i : List ℕ) (other : Option (ℕ × List ℕ)) (c : ℕ) (m : List ℕ) → (other ≡ Some (c, m) → length m ≤ length i) → with_rest o i other ≡ Some (c, m) → length m ≤ length i
with_rest_shorter None i other c m h e = h e
with_rest_shorter (Some d) i other c m h e = let parts = some_pair_parts _ _ _ _ e in omega (arith, ap length parts.1)

hex_digits_shorter : (o : Option ℕ) (i : List ℕ) (other : Option (ℕ × List ℕ)) (c : ℕ) (m : List ℕ) → (other ≡ Some (c, m) → length m ≤ length i) → hex_digits o i other ≡ Some (c, m) → length m ≤ length i
hex_digits_shorter None i other c m h e = h e
hex_digits_shorter (Some n) i other c m h e = omega (arith, ap length (code_point_drops 16 n i c m e), length-drop n i)

octal_shorter : (b : Bool) (e : ℕ) (i : List ℕ) (c : ℕ) (m : List ℕ) → (if b then code_point 8 3 (e ∷ i) else None) ≡ Some (c, m) → length m ≤ length i
octal_shorter true e i c m h = omega (arith, ap length (code_point_drops 8 3 (e ∷ i) c m h), length-drop 3 (e ∷ i))
octal_shorter false e i c m h = absurd (cc)

escape_shorter : (i : List ℕ) (c : ℕ) (m : List ℕ) → escape i ≡ Some (c, m) → length m < length i
escape_shorter [] c m h = absurd (cc)
escape_shorter (e ∷ i) c m h =
    let le : length m ≤ length i =
    with_rest_shorter (named e) i _ c m (hex_digits_shorter (hex_len e) i _ c m (octal_shorter (nat_le 48 e && nat_le e 51) e i c m)) h in
    omega arith

character_shorter_at : (s : Style) (a b : Bool) (e : ℕ) (i : List ℕ) (c : ℕ) (m : List ℕ) → (if a then escape i else (if b then None else Some (e, i))) ≡ Some (c, m) → length m < length (e ∷ i)
character_shorter_at s true b e i c m h = let lt = escape_shorter i c m h in omega arith
character_shorter_at s false true e i c m h = absurd (cc)
character_shorter_at s false false e i c m h = let parts = some_pair_parts _ _ _ _ h in omega (arith, ap length parts.1)

pub character_shorter : (s : Style) (i : List ℕ) (c : ℕ) (m : List ℕ) → character s i ≡ Some (c, m) → length m < length i
character_shorter s [] c m h = absurd (cc)
character_shorter s (e ∷ i) c m h = character_shorter_at s (e == 92 && not s.raw) (is_line_end e && not s.tripled) e i c m h
