-- What stands after a backslash in a string.
use Rattle.std.specs.Prelude.{ℕ, ◌&&◌, ◌||◌, ◌==◌, nat_le, length, take, drop, Option, Some, None, List, [], ◌∷◌, if◌then◌else◌}
use Rattle.std.specs.Str.Parse.{digits_value}
use Rattle.std.proofs.Math.Utf8.{scalar}
use Rattle.celtree.specs.Digits.{all_digits}

-- the code point that the first n digits name, and what follows them
abbrev pub code_point : ℕ → ℕ → List ℕ → Option (ℕ × List ℕ)
code_point base n i =
    if nat_le n (length i) && (all_digits base (take n i) && scalar (digits_value base (take n i)))
    then Some (digits_value base (take n i), drop n i)
    else None

-- what a sign or a letter names: \ ? " ' and ` themselves, a the bell, b the backspace, f n r t v the form feed, line feed, carriage return, tab and vertical tab
abbrev pub named : ℕ → Option ℕ
named e =
    if e == 92 || (e == 63 || (e == 34 || (e == 39 || e == 96))) then Some e
    else (if e == 97 then Some 7
    else (if e == 98 then Some 8
    else (if e == 102 then Some 12
    else (if e == 110 then Some 10
    else (if e == 114 then Some 13
    else (if e == 116 then Some 9
    else (if e == 118 then Some 11 else None)))))))

-- how many hexadecimal digits follow x, X, u and U
abbrev pub hex_len : ℕ → Option ℕ
hex_len e = if e == 120 || e == 88 then Some 2 else (if e == 117 then Some 4 else (if e == 85 then Some 8 else None))

abbrev pub with_rest : Option ℕ → List ℕ → Option (ℕ × List ℕ) → Option (ℕ × List ℕ)
with_rest None i other = other
with_rest (Some c) i other = Some (c, i)

abbrev pub hex_digits : Option ℕ → List ℕ → Option (ℕ × List ℕ) → Option (ℕ × List ℕ)
hex_digits None i other = other
hex_digits (Some n) i other = code_point 16 n i

-- the code point that an escape names, and what follows it: a named one, hexadecimal digits, or three octal digits of which the first is 0 to 3
abbrev pub escape : List ℕ → Option (ℕ × List ℕ)
escape [] = None
escape (e ∷ i) = with_rest (named e) i (hex_digits (hex_len e) i (if nat_le 48 e && nat_le e 51 then code_point 8 3 (e ∷ i) else None))
