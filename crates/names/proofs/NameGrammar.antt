-- The tests of labels and names decide their grammar.
use Rattle.std.proofs.Common.{◌≡◌, ℕ, ◌-◌, ◌≤◌, Bool, true, false, ◌&&◌, ◌==◌, List, [], ◌∷◌, ◌++◌, length, refl, sym, ap, ◌∙◌, arith, inl, inr, IsTrue, length-append}
use Rattle.std.proofs.lemmas.Bool.{and_parts, and_from}
use Rattle.std.proofs.lemmas.Bool.Decides.{nat_tests}
use Rattle.std.proofs.lemmas.List.Elements.{All-cons, All-nil, All-tail}
use Rattle.std.proofs.lemmas.List.Folds.{list_all-append}
use Rattle.std.proofs.lemmas.List.Splits.{join_with_byte-slice_split, slice_split_none, slice_split_at}
use Rattle.std.specs.List.{All, list_all, slice_split, join_with_byte}
use Rattle.std.specs.Option.{option_map_or}
use Rattle.std.specs.Prelude.{Some, slice_get, nat_le}
use Rattle.names.specs.Name.{dot, is_letter_or_digit, is_label_byte, is_label, is_name, IsLabel, IsSubdomain}

-- a list's last element
record EndsIn (xs : List ℕ) : Type 0 where
  front : List ℕ
  last : ℕ
  split : xs ≡ front ++ last ∷ []

ends_in : (x : ℕ) (xs : List ℕ) → EndsIn (x ∷ xs)
ends_in x [] = record { front = []; last = x; split = refl }
ends_in x (y ∷ xs) = let rest = ends_in y xs in record { front = x ∷ rest.front; last = rest.last; split = ap (λ ys. x ∷ ys) rest.split }

slice_get-seam : (front : List ℕ) (last : ℕ) → slice_get (front ++ last ∷ []) (length front) ≡ Some last
slice_get-seam [] last = refl
slice_get-seam (x ∷ front) last = slice_get-seam front last

-- the test of the last character
last_tested : (front : List ℕ) (last : ℕ)
    → option_map_or is_letter_or_digit (slice_get (front ++ last ∷ []) (length (front ++ last ∷ []) - 1)) false ≡ is_letter_or_digit last
last_tested front last =
    let place : length (front ++ last ∷ []) - 1 ≡ length front = omega (arith, length-append front (last ∷ [])) in
    ap (λ (i : ℕ). option_map_or is_letter_or_digit (slice_get (front ++ last ∷ []) i) false) place
    ∙ ap (λ o. option_map_or is_letter_or_digit o false) (slice_get-seam front last)

letter_or_digit-label_byte : (byte : ℕ) → is_letter_or_digit byte ≡ true → is_label_byte byte ≡ true
letter_or_digit-label_byte byte h = grind (arith, nat_tests)

label_byte-no_dot : (byte : ℕ) → is_label_byte byte ≡ true → (byte == dot) ≡ false
label_byte-no_dot byte h = grind (arith, nat_tests)

IsLabel-from_test : (label : List ℕ) → is_label label ≡ true → IsLabel label
IsLabel-from_test [] h = cc
IsLabel-from_test (first ∷ []) h =
    let parts = and_parts (is_letter_or_digit first && is_letter_or_digit first) (list_all is_label_byte (first ∷ [])) h in
    (first, [], refl, (and_parts (is_letter_or_digit first) (is_letter_or_digit first) parts.0).0, inl refl)
IsLabel-from_test (first ∷ second ∷ others) h =
    let rest = ends_in second others in
    let label = first ∷ second ∷ others in
    let parts = and_parts (is_letter_or_digit first && option_map_or is_letter_or_digit (slice_get label (length label - 1)) false) (list_all is_label_byte label) h in
    let edges = and_parts (is_letter_or_digit first) (option_map_or is_letter_or_digit (slice_get label (length label - 1)) false) parts.0 in
    let split : label ≡ (first ∷ rest.front) ++ rest.last ∷ [] = ap (λ ys. first ∷ ys) rest.split in
    let last : is_letter_or_digit rest.last ≡ true =
    sym (last_tested (first ∷ rest.front) rest.last) ∙ sym (ap (λ (xs : List ℕ). option_map_or is_letter_or_digit (slice_get xs (length xs - 1)) false) split) ∙ edges.1
    in
    let bytes : list_all is_label_byte (first ∷ rest.front) && list_all is_label_byte (rest.last ∷ []) ≡ true =
    sym (list_all-append is_label_byte (first ∷ rest.front) (rest.last ∷ [])) ∙ sym (ap (list_all is_label_byte) split) ∙ parts.1
    in
    let front = and_parts (list_all is_label_byte (first ∷ rest.front)) (list_all is_label_byte (rest.last ∷ [])) bytes in
    let middle = and_parts (is_label_byte first) (list_all is_label_byte rest.front) front.0 in
    (first, second ∷ others, refl, edges.0, inr (rest.front, rest.last, rest.split, middle.1, last))

test-from_IsLabel : (label : List ℕ) → IsLabel label → is_label label ≡ true
test-from_IsLabel label (first, rest, split, begins, inl none) =
    let whole : label ≡ first ∷ [] = split ∙ ap (λ xs. first ∷ xs) none in
    let byte = letter_or_digit-label_byte first begins in
    let bytes : list_all is_label_byte (first ∷ []) ≡ true = and_from (is_label_byte first) true byte refl in
    ap is_label whole ∙ and_from (is_letter_or_digit first && is_letter_or_digit first) (list_all is_label_byte (first ∷ []))
    (and_from (is_letter_or_digit first) (is_letter_or_digit first) begins begins) bytes
test-from_IsLabel label (first, rest, split, begins, inr (middle, last, end, bytes, ends)) =
    let whole : label ≡ (first ∷ middle) ++ last ∷ [] = split ∙ ap (λ xs. first ∷ xs) end in
    let front = and_from (is_label_byte first) (list_all is_label_byte middle) (letter_or_digit-label_byte first begins) bytes in
    let back = and_from (is_label_byte last) true (letter_or_digit-label_byte last ends) refl in
    let all : list_all is_label_byte ((first ∷ middle) ++ last ∷ []) ≡ true =
    list_all-append is_label_byte (first ∷ middle) (last ∷ []) ∙ and_from (list_all is_label_byte (first ∷ middle)) (list_all is_label_byte (last ∷ [])) front back
    in
    ap is_label whole
    ∙ and_from _ (list_all is_label_byte ((first ∷ middle) ++ last ∷ [])) (and_from (is_letter_or_digit first) _ begins (last_tested (first ∷ middle) last ∙ ends)) all

pub label_decided : (label : List ℕ) (answer : Bool) → answer ≡ is_label label → (IsTrue answer → IsLabel label) × (IsLabel label → IsTrue answer)
label_decided label answer e = (λ h. IsLabel-from_test label (sym e ∙ h), λ h. e ∙ test-from_IsLabel label h)

labels-from_test : (labels : List (List ℕ)) → list_all is_label labels ≡ true → All IsLabel labels
labels-from_test [] h = All-nil IsLabel
labels-from_test (label ∷ labels) h =
    let parts = and_parts (is_label label) (list_all is_label labels) h in
    All-cons IsLabel label labels (IsLabel-from_test label parts.0) (labels-from_test labels parts.1)

test-from_labels : (labels : List (List ℕ)) → All IsLabel labels → list_all is_label labels ≡ true
test-from_labels [] h = refl
test-from_labels (label ∷ labels) h =
    and_from (is_label label) (list_all is_label labels) (test-from_IsLabel label (h 0 label (omega arith))) (test-from_labels labels (All-tail IsLabel label labels h))

no_dot-from_label_bytes : (label : List ℕ) → list_all is_label_byte label ≡ true → All (λ byte. (byte == dot) ≡ false) label
no_dot-from_label_bytes [] h = All-nil (λ byte. (byte == dot) ≡ false)
no_dot-from_label_bytes (byte ∷ label) h =
    let parts = and_parts (is_label_byte byte) (list_all is_label_byte label) h in
    All-cons (λ b. (b == dot) ≡ false) byte label (label_byte-no_dot byte parts.0) (no_dot-from_label_bytes label parts.1)

no_dot : (label : List ℕ) → IsLabel label → All (λ byte. (byte == dot) ≡ false) label
no_dot label h = no_dot-from_label_bytes label (and_parts _ (list_all is_label_byte label) (test-from_IsLabel label h)).1

-- labels that are joined by dots are cut apart at them
slice_split-join : (label : List ℕ) (labels : List (List ℕ)) → All IsLabel (label ∷ labels)
    → slice_split (λ byte. byte == dot) (join_with_byte dot (label ∷ labels)) ≡ label ∷ labels
slice_split-join label [] h = slice_split_none (λ byte. byte == dot) label (no_dot label (h 0 label (omega arith)))
slice_split-join label (next ∷ labels) h =
    slice_split_at (λ byte. byte == dot) label dot (join_with_byte dot (next ∷ labels)) (no_dot label (h 0 label (omega arith))) refl
    ∙ ap (λ ls. label ∷ ls) (slice_split-join next labels (All-tail IsLabel label (next ∷ labels) h))

name-not_empty : (text : List ℕ) → is_name text ≡ true → 1 ≤ length text
name-not_empty [] h = cc
name-not_empty (byte ∷ text) h = omega arith

IsSubdomain-from_test : (text : List ℕ) → is_name text ≡ true → IsSubdomain text
IsSubdomain-from_test text h =
    let parts = and_parts (nat_le (length text) 253) (list_all is_label (slice_split (λ byte. byte == dot) text)) h in
    record {
      labels = slice_split (λ byte. byte == dot) text;
      joined = sym (join_with_byte-slice_split dot text);
      well_formed = labels-from_test (slice_split (λ byte. byte == dot) text) parts.1;
      shortest = name-not_empty text h;
      longest = (let within = parts.0 in grind (arith, nat_tests));
    }

parts-of_labels : (text : List ℕ) (labels : List (List ℕ)) → text ≡ join_with_byte dot labels → All IsLabel labels → 1 ≤ length text
    → list_all is_label (slice_split (λ byte. byte == dot) text) ≡ true
parts-of_labels text [] joined h l = let none = ap length joined in absurd (omega arith)
parts-of_labels text (label ∷ labels) joined h l =
    ap (λ (bytes : List ℕ). list_all is_label (slice_split (λ byte. byte == dot) bytes)) joined
    ∙ ap (list_all is_label) (slice_split-join label labels h) ∙ test-from_labels (label ∷ labels) h

test-from_IsSubdomain : (text : List ℕ) → IsSubdomain text → is_name text ≡ true
test-from_IsSubdomain text h =
    let within : nat_le (length text) 253 ≡ true = (let longest = h.longest in grind (arith, nat_tests)) in
    and_from (nat_le (length text) 253) (list_all is_label (slice_split (λ byte. byte == dot) text)) within
    (parts-of_labels text h.labels h.joined h.well_formed h.shortest)

pub name_decided : (text : List ℕ) (answer : Bool) → answer ≡ is_name text → (IsTrue answer → IsSubdomain text) × (IsSubdomain text → IsTrue answer)
name_decided text answer e = (λ h. IsSubdomain-from_test text (sym e ∙ h), λ h. e ∙ test-from_IsSubdomain text h)
