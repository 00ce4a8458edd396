-- Texts that are decoded are UTF-8, and pairs of such texts are read back from a query that is written of them.
use Rattle.std.proofs.Common.{◌≡◌, ℕ, zero, suc, ◌+◌, ◌<◌, ◌≤◌, ◌/◌, ◌==◌, nat_lt, List, [], ◌∷◌, map, length, take, drop, true, cond, Option, Some, None, IsUtf8, All, refl, sym, ap, ◌∙◌, subst, ⊎_elim, arith, length-drop, slice_index, unwrap_or}
use Rattle.std.specs.Str.{is_utf8}
use Rattle.std.specs.Int.{is_in_range}
use Rattle.std.specs.Str.Lossy.{utf8_lossy, utf8_valid_len, valid_len_up_to, replacement_bytes, after_first_chunk, utf8_error_len, utf8_invalid_len, error_len_of_some, error_len_after_one, error_len_after_two, second_byte_min, second_byte_max}
use Rattle.std.proofs.lemmas.Str.{IsUtf8-from_is_utf8, IsUtf8-append, IsUtf8-nil, utf8_lossy-IsUtf8, utf8_lossy_step, utf8_valid_len_le}
use Rattle.std.proofs.lemmas.Bool.{cond_both, cases_lt, and_parts, lt-ltb, le-ltb}
use Rattle.std.proofs.lemmas.List.{take_all}
use Rattle.std.proofs.lemmas.List.Elements.{All-nil, All-cons, All-append}
use lib.Utf8.{scalar, scalars, next, encode, encodes, scalar_cases}
use Rattle.form_urlencoded.specs.Form.{raw_pairs, decode, extend_pairs}
use Rattle.form_urlencoded.proofs.FormLemmas.{IsBytePair, round_trip}
use Rattle.routes.specs.Query.{Pair, decoded, pairs_of}

-- both texts of each pair are UTF-8
abbrev pub AreTexts : List Pair → Type 0
AreTexts [] = Unit {0}
AreTexts (pair ∷ pairs) = IsUtf8 pair.0 × IsUtf8 pair.1 × AreTexts pairs

-- ---- what is decoded is UTF-8

front_is_text : (bs : List ℕ) (m : ℕ) → IsUtf8 (take (valid_len_up_to bs m) bs)
front_is_text bs zero = IsUtf8-nil
front_is_text bs (suc m) =
    cond_both (is_utf8 (take (suc m) bs)) (suc m) (valid_len_up_to bs m) (λ n. IsUtf8 (take n bs)) (λ is. IsUtf8-from_is_utf8 _ is) (λ _. front_is_text bs m)

valid_front : (bs : List ℕ) → IsUtf8 (take (utf8_valid_len bs) bs)
unfolding utf8_valid_len
valid_front bs = front_is_text bs (length bs)

-- an invalid sequence has a byte, where there is one
invalid_some : (bs : List ℕ) → 0 < length bs → 0 < utf8_invalid_len bs
unfolding utf8_error_len
invalid_some bs some =
    let P : Option ℕ → Type 0 = λ o. 0 < unwrap_or o (length bs) in
    let one : P (Some 1) = omega arith in
    let two : P (Some 2) = omega arith in
    let three : P (Some 3) = omega arith in
    let x = slice_index bs 0 in
    let third = is_in_range 0x80 0xBF (slice_index bs 2) in
    let after_three = cond_both (nat_lt (length bs) 4) None (Some 3) P (λ _. some) (λ _. three) in
    let after_two : P (error_len_after_two bs) =
    cond_both (nat_lt (length bs) 3) None (cond third (cond (nat_lt (length bs) 4) None (Some 3)) (Some 2)) P (λ _. some)
    (λ _. cond_both third (cond (nat_lt (length bs) 4) None (Some 3)) (Some 2) P (λ _. after_three) (λ _. two)) in
    let second = is_in_range (second_byte_min x) (second_byte_max x) (slice_index bs 1) in
    let after_one : P (error_len_after_one bs) =
    cond_both (nat_lt (length bs) 2) None (cond second (error_len_after_two bs) (Some 1)) P (λ _. some)
    (λ _. cond_both second (error_len_after_two bs) (Some 1) P (λ _. after_two) (λ _. one)) in
    cond_both (length bs == 0) None (error_len_of_some bs) P (λ _. some) (λ _. cond_both (is_in_range 0xC2 0xF4 x) (error_len_after_one bs) (Some 1) P (λ _. after_one) (λ _. one))

shorter_after : (bs : List ℕ) → utf8_valid_len bs < length bs → length (after_first_chunk bs) < length bs
shorter_after bs less =
    let n = utf8_valid_len bs in
    let invalid = invalid_some (drop n bs) (omega (arith, less, length-drop n bs)) in
    omega (arith, less, length-drop (n + utf8_invalid_len (drop n bs)) bs, invalid)

replacement_is_text : IsUtf8 replacement_bytes
unfolding encode
replacement_is_text = (0xFFFD ∷ [], (refl, refl))

lossy_whole : (bs : List ℕ) → length bs ≤ utf8_valid_len bs → IsUtf8 (utf8_lossy bs)
lossy_whole bs more =
    let within = utf8_valid_len_le bs in
    let whole : utf8_valid_len bs ≡ length bs = omega (arith, more, within) in
    let text : IsUtf8 bs = subst IsUtf8 (ap (λ k. take k bs) whole ∙ take_all (length bs) bs (omega arith)) (valid_front bs) in
    subst IsUtf8 (sym (utf8_lossy-IsUtf8 bs text)) text

lossy_cut : (bs : List ℕ) → utf8_valid_len bs < length bs → IsUtf8 (utf8_lossy (after_first_chunk bs)) → IsUtf8 (utf8_lossy bs)
lossy_cut bs less rest =
    subst IsUtf8 (sym (utf8_lossy_step bs (λ same. omega (arith, less, same))))
    (IsUtf8-append _ _ (valid_front bs) (IsUtf8-append replacement_bytes _ replacement_is_text rest))

lossy_within : (n : ℕ) (bs : List ℕ) → length bs ≤ n → IsUtf8 (utf8_lossy bs)
lossy_within zero bs few = lossy_whole bs (omega (arith, few))
lossy_within (suc n) bs few = ⊎_elim
    (λ less. let shorter = shorter_after bs less in lossy_cut bs less (lossy_within n (after_first_chunk bs) (omega (arith, few, shorter))))
    (λ more. lossy_whole bs more)
    (cases_lt (utf8_valid_len bs) (length bs))

lossy_is_text : (bs : List ℕ) → IsUtf8 (utf8_lossy bs)
lossy_is_text bs = lossy_within (length bs) bs (omega arith)

pub texts_in : (raw : List Pair) → AreTexts (map decoded raw)
texts_in [] = tt
texts_in (pair ∷ raw) = (lossy_is_text (decode pair.0), lossy_is_text (decode pair.1), texts_in raw)

-- ---- UTF-8 is bytes

abbrev AreBytes : List ℕ → Type 0
AreBytes bs = All (λ (b : ℕ). b < 256) bs

one_byte : (a : ℕ) (bs : List ℕ) → a < 256 → AreBytes bs → AreBytes (a ∷ bs)
one_byte a bs small rest = All-cons (λ (b : ℕ). b < 256) a bs small rest

no_byte : AreBytes []
no_byte = All-nil (λ (b : ℕ). b < 256)

bytes_of_one : (c : ℕ) → scalar c ≡ true → AreBytes (encode c)
unfolding encode
bytes_of_one c is =
    let fits : c < 1114112 = ⊎_elim (λ low. omega (arith, low)) (λ high. omega (arith, high)) (scalar_cases c is) in
    ⊎_elim (λ one. rw (lt-ltb c 128 one) (one_byte c [] (omega (arith, one)) no_byte))
    (λ more. ⊎_elim (λ two. rw (le-ltb c 128 more, lt-ltb c 2048 two) (one_byte (192 + c / 64) (next c ∷ []) (omega (arith, two)) (one_byte (next c) [] (omega arith) no_byte)))
    (λ more_two. ⊎_elim (λ three. rw (le-ltb c 128 more, le-ltb c 2048 more_two, lt-ltb c 65536 three) (one_byte (224 + c / 4096) (next (c / 64) ∷ next c ∷ []) (omega (arith, three)) (one_byte (next (c / 64)) (next c ∷ []) (omega arith) (one_byte (next c) [] (omega arith) no_byte))))
    (λ more_three. rw (le-ltb c 128 more, le-ltb c 2048 more_two, le-ltb c 65536 more_three) (one_byte (240 + c / 262144) (next (c / 4096) ∷ next (c / 64) ∷ next c ∷ []) (omega (arith, fits)) (one_byte (next (c / 4096)) (next (c / 64) ∷ next c ∷ []) (omega arith) (one_byte (next (c / 64)) (next c ∷ []) (omega arith) (one_byte (next c) [] (omega arith) no_byte)))))
    (cases_lt c 65536)) (cases_lt c 2048)) (cases_lt c 128)

bytes_of_all : (cs : List ℕ) → scalars cs ≡ true → AreBytes (encodes cs)
bytes_of_all [] are = no_byte
bytes_of_all (c ∷ cs) are =
    let parts = and_parts (scalar c) (scalars cs) are in
    All-append (λ (b : ℕ). b < 256) (encode c) (encodes cs) (bytes_of_one c parts.0) (bytes_of_all cs parts.1)

text_is_bytes : (bs : List ℕ) → IsUtf8 bs → AreBytes bs
text_is_bytes bs text = subst AreBytes text.1.1 (bytes_of_all text.0 text.1.0)

-- ---- pairs

abbrev lossy_pair : Pair → Pair
lossy_pair pair = (utf8_lossy pair.0, utf8_lossy pair.1)

all_bytes : (pairs : List Pair) → AreTexts pairs → All IsBytePair pairs
all_bytes [] texts = All-nil IsBytePair
all_bytes (pair ∷ pairs) texts = All-cons IsBytePair pair pairs (text_is_bytes pair.0 texts.0, text_is_bytes pair.1 texts.1) (all_bytes pairs texts.2)

decoded_twice : (raw : List Pair) → map decoded raw ≡ map lossy_pair (map (λ (pair : Pair). (decode pair.0, decode pair.1)) raw)
decoded_twice [] = refl
decoded_twice (pair ∷ raw) = ap (λ l. decoded pair ∷ l) (decoded_twice raw)

texts_stay : (pairs : List Pair) → AreTexts pairs → map lossy_pair pairs ≡ pairs
texts_stay [] texts = refl
texts_stay (pair ∷ pairs) texts = λ i. (utf8_lossy-IsUtf8 pair.0 texts.0 i, utf8_lossy-IsUtf8 pair.1 texts.1 i) ∷ texts_stay pairs texts.2 i

-- the pairs of a query that was written of texts
pub written_pairs : (pairs : List Pair) → AreTexts pairs → pairs_of (extend_pairs [] pairs) ≡ pairs
written_pairs pairs texts =
    decoded_twice (raw_pairs (extend_pairs [] pairs)) ∙ ap (map lossy_pair) (round_trip pairs (all_bytes pairs texts)) ∙ texts_stay pairs texts
