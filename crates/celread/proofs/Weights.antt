-- What the tokens of a text weigh: no more than its bytes. A `_` stands for a type that `celtokens` keeps to itself.
use Rattle.std.proofs.Common.{◌≡◌, ◌∙◌, ℕ, zero, suc, ◌+◌, ◌<◌, ◌≤◌, max, Bool, true, false, not, ◌&&◌, ◌||◌, ◌==◌, ◌⊎◌, inl, inr, List, [], ◌∷◌, length, take, drop, Option, Some, None, ap, sym, refl, arith, codes, bytes_eq, encode_utf8, encode_utf8_all, if◌then◌else◌, length-append, leb-true}
use Rattle.std.specs.Prelude.{nat_le}
use Rattle.std.specs.Str.Parse.{digits_value}
use Rattle.std.proofs.Math.Utf8.{scalar}
use Rattle.std.proofs.lemmas.Bool.{and_parts}
use Rattle.std.proofs.lemmas.Option.{same_Some, cond_some, some_pair_parts}
use Rattle.std.proofs.lemmas.Str.{length-encode, len_utf8_bounds, len_utf8_ascii}
use Rattle.celtree.specs.Digits.{all_digits}
use Rattle.celtokens.specs.Run.{Run, stop, more, is_line_end}
use Rattle.celtokens.specs.Numeral.{Numeral, decimal, hexadecimal}
use Rattle.celtokens.specs.Escape.{code_point, named, hex_len, with_rest, hex_digits, escape}
use Rattle.celtokens.specs.Text.{after_three, after_one, after_delimiter, character, Inside, closed, next, IsText, style_of}
use Rattle.celtokens.specs.Terminal.{Terminal, is_reserved, word_of}
use Rattle.celtokens.specs.Terminal as token
use Rattle.celtokens.specs.Lexeme.{Part, Gap, Whole, Lexeme, Longest, blank, word, raw_text, int, uint, text, comment, one_sign, two_signs}
use Rattle.celtokens.specs.Lexes as lexes
use Rattle.celtokens.specs.Lexes.{Lexes}

-- the bytes of a character in UTF-8
pub char_bytes : ℕ → ℕ
char_bytes c = length (encode_utf8 c)

pub char_bytes_bounds : (c : ℕ) → (1 ≤ char_bytes c) × (char_bytes c ≤ 4)
unfolding char_bytes
char_bytes_bounds c = rw length-encode (len_utf8_bounds c)

char_bytes_ascii : (c : ℕ) → c < 128 → char_bytes c ≡ 1
unfolding char_bytes
char_bytes_ascii c h = length-encode c ∙ len_utf8_ascii c h

-- the bytes of a list of characters in UTF-8
abbrev pub bytes : List ℕ → ℕ
bytes [] = 0
bytes (c ∷ cs) = char_bytes c + bytes cs

pub bytes_are : (cs : List ℕ) → bytes cs ≡ length (encode_utf8_all cs)
unfolding char_bytes
bytes_are [] = refl
bytes_are (c ∷ cs) = omega (arith, bytes_are cs, length-append (encode_utf8 c) (encode_utf8_all cs))

-- what a token weighs: a word its bytes and at least 1, a string one more than its bytes, any other 1
abbrev pub weight : Terminal → ℕ
weight (token.Ident x) = max 1 (bytes x)
weight (token.Reserved x) = max 1 (bytes x)
weight (token.Quoted t) = 1 + bytes t
weight _ = 1

abbrev pub weights : List Terminal → ℕ
weights [] = 0
weights (w ∷ ws) = weight w + weights ws

abbrev part_weight : Part → ℕ
part_weight Gap = 0
part_weight (Whole w) = weight w

word_weight_at : (a b c d e : Bool) (w : List ℕ) → 1 ≤ bytes w
    → weight (if a then token.False else (if b then token.In else (if c then token.Null else (if d then token.True else (if e then token.Reserved w else token.Ident w))))) ≤ bytes w
word_weight_at true b c d e w h = h
word_weight_at false true c d e w h = h
word_weight_at false false true d e w h = h
word_weight_at false false false true e w h = h
word_weight_at false false false false true w h = omega arith
word_weight_at false false false false false w h = omega arith

-- a word weighs no more than its bytes
word_weight : (w : List ℕ) → 1 ≤ bytes w → weight (word_of w) ≤ bytes w
word_weight w h = word_weight_at (bytes_eq w (codes "false")) (bytes_eq w (codes "in")) (bytes_eq w (codes "null")) (bytes_eq w (codes "true")) (is_reserved w) w h

run_bytes : {k : _} {i cs r : List ℕ} → Run k i cs r → bytes i ≡ bytes cs + bytes r
run_bytes stop = omega arith
run_bytes (more e run) = let rest = run_bytes run in omega arith

numeral_bytes : {c n : ℕ} {i r : List ℕ} → Numeral c i n r → bytes r ≤ bytes i
numeral_bytes (decimal ds run) = let rest = run_bytes run in omega arith
numeral_bytes (hexadecimal h hs is run) = let rest = run_bytes run in omega arith

-- a character takes at least one byte
drop_bytes : (n : ℕ) (i : List ℕ) → n ≤ length i → n + bytes (drop n i) ≤ bytes i
drop_bytes zero i le = omega arith
drop_bytes (suc n) [] le = absurd (omega arith)
drop_bytes (suc n) (c ∷ i) le =
    let rest = drop_bytes n i (omega arith) in
    let one = char_bytes_bounds c in
    omega arith

code_point_bytes : (base n : ℕ) (i : List ℕ) (c : ℕ) (m : List ℕ) → code_point base n i ≡ Some (c, m) → n + bytes m ≤ bytes i
code_point_bytes base n i c m e =
    let digits = all_digits base (take n i) && scalar (digits_value base (take n i)) in
    let parts = cond_some (nat_le n (length i) && digits) (digits_value base (take n i), drop n i) (c, m) e in
    let le : n ≤ length i = leb-true n (length i) (and_parts (nat_le n (length i)) digits parts.0).0 in
    let rest : m ≡ drop n i = sym (ap (λ p. p.1) parts.1) in
    rw rest (drop_bytes n i le)

-- after a backslash e stands before i and names the character c, and m is left: the backslash and what was taken have at least the bytes of c
abbrev Pays : ℕ → List ℕ → ℕ → List ℕ → Type 0
Pays e i c m = char_bytes c + bytes m ≤ 1 + (char_bytes e + bytes i)

-- a letter or sign after a backslash names itself or an ASCII character
ascii_or_itself : (a b c d f g h j : Bool) (e x : ℕ)
    → (if a then Some e else (if b then Some 7 else (if c then Some 8 else (if d then Some 12 else (if f then Some 10 else (if g then Some 13 else (if h then Some 9 else (if j then Some 11 else None)))))))) ≡ Some x
    → (x ≡ e) ⊎ (x < 128)
ascii_or_itself true b c d f g h j e x p = inl (sym (same_Some e x p))
ascii_or_itself false true c d f g h j e x p = let q = same_Some 7 x p in inr (omega arith)
ascii_or_itself false false true d f g h j e x p = let q = same_Some 8 x p in inr (omega arith)
ascii_or_itself false false false true f g h j e x p = let q = same_Some 12 x p in inr (omega arith)
ascii_or_itself false false false false true g h j e x p = let q = same_Some 10 x p in inr (omega arith)
ascii_or_itself false false false false false true h j e x p = let q = same_Some 13 x p in inr (omega arith)
ascii_or_itself false false false false false false true j e x p = let q = same_Some 9 x p in inr (omega arith)
ascii_or_itself false false false false false false false true e x p = let q = same_Some 11 x p in inr (omega arith)
ascii_or_itself false false false false false false false false e x p = absurd (cc)

named_bytes : (e x : ℕ) → named e ≡ Some x → char_bytes x ≤ char_bytes e
named_bytes e x p =
    elim (ascii_or_itself (e == 92 || (e == 63 || (e == 34 || (e == 39 || e == 96)))) (e == 97) (e == 98) (e == 102) (e == 110) (e == 114) (e == 116) (e == 118) e x p) [
      | inl same ↦ omega (arith, ap char_bytes same)
      | inr small ↦ omega (arith, char_bytes_ascii x small, char_bytes_bounds e)
    ]

two_digits_at : (a b c : Bool) (n : ℕ) → (if a then Some 2 else (if b then Some 4 else (if c then Some 8 else None))) ≡ Some n → 2 ≤ n
two_digits_at true b c n p = let q = same_Some 2 n p in omega arith
two_digits_at false true c n p = let q = same_Some 4 n p in omega arith
two_digits_at false false true n p = let q = same_Some 8 n p in omega arith
two_digits_at false false false n p = absurd (cc)

two_digits : (e n : ℕ) → hex_len e ≡ Some n → 2 ≤ n
two_digits e n p = two_digits_at (e == 120 || e == 88) (e == 117) (e == 85) n p

with_rest_pays : (e : ℕ) (o : Option ℕ) (i : List ℕ) (other : Option (ℕ × List ℕ)) (c : ℕ) (m : List ℕ) → ((x : ℕ) → o ≡ Some x → char_bytes x ≤ char_bytes e)
    → (other ≡ Some (c, m) → Pays e i c m) → with_rest o i other ≡ Some (c, m) → Pays e i c m
with_rest_pays e None i other c m small pays h = pays h
with_rest_pays e (Some x) i other c m small pays h =
    let parts = some_pair_parts x c i m h in
    let le = small x refl in
    omega (arith, ap char_bytes parts.0, ap bytes parts.1)

hex_digits_pays : (e : ℕ) (o : Option ℕ) (i : List ℕ) (other : Option (ℕ × List ℕ)) (c : ℕ) (m : List ℕ) → ((n : ℕ) → o ≡ Some n → 2 ≤ n)
    → (other ≡ Some (c, m) → Pays e i c m) → hex_digits o i other ≡ Some (c, m) → Pays e i c m
hex_digits_pays e None i other c m long pays h = pays h
hex_digits_pays e (Some n) i other c m long pays h =
    let le = code_point_bytes 16 n i c m h in
    let two = long n refl in
    omega (arith, char_bytes_bounds c, char_bytes_bounds e)

octal_pays : (b : Bool) (e : ℕ) (i : List ℕ) (c : ℕ) (m : List ℕ) → (if b then code_point 8 3 (e ∷ i) else None) ≡ Some (c, m) → Pays e i c m
octal_pays true e i c m h = let le = code_point_bytes 8 3 (e ∷ i) c m h in omega (arith, char_bytes_bounds c)
octal_pays false e i c m h = absurd (cc)

escape_bytes : (i : List ℕ) (c : ℕ) (m : List ℕ) → escape i ≡ Some (c, m) → char_bytes c + bytes m ≤ 1 + bytes i
escape_bytes [] c m h = absurd (cc)
escape_bytes (e ∷ i) c m h =
    with_rest_pays e (named e) i _ c m (named_bytes e) (hex_digits_pays e (hex_len e) i _ c m (two_digits e) (octal_pays (nat_le 48 e && nat_le e 51) e i c m)) h

character_bytes_at : (a b : Bool) (e : ℕ) (i : List ℕ) (c : ℕ) (m : List ℕ) → (if a then escape i else (if b then None else Some (e, i))) ≡ Some (c, m) → char_bytes c + bytes m ≤ char_bytes e + bytes i
character_bytes_at true b e i c m h = let le = escape_bytes i c m h in omega (arith, char_bytes_bounds e)
character_bytes_at false true e i c m h = absurd (cc)
character_bytes_at false false e i c m h = let parts = some_pair_parts e c i m h in omega (arith, ap char_bytes parts.0, ap bytes parts.1)

character_bytes : (s : _) (i : List ℕ) (c : ℕ) (m : List ℕ) → character s i ≡ Some (c, m) → char_bytes c + bytes m ≤ bytes i
character_bytes s [] c m h = absurd (cc)
character_bytes s (e ∷ i) c m h = character_bytes_at (e == 92 && not s.raw) (is_line_end e && not s.tripled) e i c m h

after_three_bytes : (q : ℕ) (i r : List ℕ) → after_three q i ≡ Some r → 1 + bytes r ≤ bytes i
after_three_bytes q [] r e = absurd (cc)
after_three_bytes q (a ∷ []) r e = absurd (cc)
after_three_bytes q (a ∷ b ∷ []) r e = absurd (cc)
after_three_bytes q (a ∷ b ∷ c ∷ i) r e =
    let parts = cond_some (a == q && (b == q && c == q)) i r e in
    omega (arith, ap bytes parts.1, char_bytes_bounds a)

after_one_bytes : (q : ℕ) (i r : List ℕ) → after_one q i ≡ Some r → 1 + bytes r ≤ bytes i
after_one_bytes q [] r e = absurd (cc)
after_one_bytes q (a ∷ i) r e =
    let parts = cond_some (a == q) i r e in
    omega (arith, ap bytes parts.1, char_bytes_bounds a)

delimiter_bytes_at : (tripled : Bool) (q : ℕ) (i r : List ℕ) → (if tripled then after_three q i else after_one q i) ≡ Some r → 1 + bytes r ≤ bytes i
delimiter_bytes_at true q i r h = after_three_bytes q i r h
delimiter_bytes_at false q i r h = after_one_bytes q i r h

delimiter_bytes : (s : _) (i r : List ℕ) → after_delimiter s i ≡ Some r → 1 + bytes r ≤ bytes i
delimiter_bytes s i r h = delimiter_bytes_at s.tripled s.quote i r h

-- the characters of a string have no more bytes than its spelling
inside_bytes : (s : _) (i t r : List ℕ) → Inside s i t r → bytes t + bytes r ≤ bytes i
inside_bytes s i t r (closed e) = let le = delimiter_bytes s i r e in omega arith
inside_bytes s i t r (next {m = m} {t = u} {c = c} none is rest) =
    let first = character_bytes s i c m is in
    let others = inside_bytes s m u r rest in
    omega arith

quoted_bytes : (raw : Bool) (i t r : List ℕ) → IsText raw i t r → 1 + bytes t + bytes r ≤ bytes i
quoted_bytes raw i t r h =
    let style = style_of raw h.tripled h.quote in
    let opened = delimiter_bytes style i h.of.inner h.of.opened in
    let inside = inside_bytes style h.of.inner t r h.of.inside in
    omega (arith, opened, inside)

-- a lexeme has at least the bytes that its token weighs
lexeme_bytes : {k : _} {c : ℕ} {i : List ℕ} {p : Part} {r : List ℕ} → Lexeme k c i p r → part_weight p + bytes r ≤ char_bytes c + bytes i
lexeme_bytes blank = omega arith
lexeme_bytes (word {c = c} cs run) =
    let all = run_bytes run in
    let one = char_bytes_bounds c in
    let name = word_weight (c ∷ cs) (omega arith) in
    omega arith
lexeme_bytes (raw_text {c = c} {i = i} {t = t} {r = r} mark is) = let le = quoted_bytes true i t r is in omega arith
lexeme_bytes (int {c = c} is) = let le = numeral_bytes is in omega (arith, char_bytes_bounds c)
lexeme_bytes (uint {c = c} {u = u} is mark) = let le = numeral_bytes is in omega (arith, char_bytes_bounds c)
lexeme_bytes (text {c = c} {i = i} {t = t} {r = r} is) = let le = quoted_bytes false (c ∷ i) t r is in omega arith
lexeme_bytes (comment run) = let all = run_bytes run in omega arith
lexeme_bytes (one_sign {c = c} e) = omega (arith, char_bytes_bounds c)
lexeme_bytes (two_signs {c = c} e) = omega (arith, char_bytes_bounds c)

longest_bytes : (i : List ℕ) (p : Part) (r : List ℕ) → Longest i p r → part_weight p + bytes r ≤ bytes i
longest_bytes [] p r h = absurd h
longest_bytes (c ∷ i) p r h = lexeme_bytes h.lexeme

-- the tokens of a text weigh no more than its bytes
pub lexed_weights : {i : List ℕ} {ws : List Terminal} → Lexes i ws → weights ws ≤ bytes i
lexed_weights lexes.end = omega arith
lexed_weights (lexes.over {i = i} {r = r} longest rest) =
    let first = longest_bytes i Gap r longest in
    let others = lexed_weights rest in
    omega arith
lexed_weights (lexes.next {i = i} {r = r} {t = t} longest rest) =
    let first = longest_bytes i (Whole t) r longest in
    let others = lexed_weights rest in
    omega arith
