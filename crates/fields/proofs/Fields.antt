-- Fields: the length in front decides what a field holds.
use Rattle.std.proofs.Common.{refl, sym, ap, ◌∙◌, ◌≡◌, ℕ, ◌^◌, ◌<◌, List, ◌++◌, length, take, append_assoc}
use Rattle.std.proofs.lemmas.List.{append_cancel_left, take_at}
use Rattle.byteorder.specs.Endian.{big_bytes, big_number}
use Rattle.byteorder.specs.Numbers.{big_number-reads_back}
use Rattle.fields.specs.Field.{field}

-- What a field begins with decides its number of bytes.
pub number-field : (width : ℕ) (bytes rest : List ℕ) → length bytes < 256 ^ width → big_number width (field width bytes ++ rest) ≡ length bytes
number-field width bytes rest fits =
    ap (big_number width) (append_assoc (big_bytes width (length bytes)) bytes rest) ∙ big_number-reads_back width (length bytes) (bytes ++ rest) fits

-- Two lists of one length in front of others are the same where the whole is.
pub same-fronts : (front other rest more : List ℕ) → length front ≡ length other → front ++ rest ≡ other ++ more → (front ≡ other) × (rest ≡ more)
same-fronts front other rest more sizes same =
    let fronts : front ≡ other =
    sym (take_at front rest (length front) refl) ∙ ap (take (length front)) same ∙ take_at other more (length front) (sym sizes) in
    (fronts, append_cancel_left other rest more (ap (λ (x : List ℕ). x ++ rest) (sym fronts) ∙ same))

-- At most one field, and one rest, are the same bytes.
pub same-fields : (width : ℕ) (bytes other rest more : List ℕ) → length bytes < 256 ^ width → length other < 256 ^ width
    → field width bytes ++ rest ≡ field width other ++ more → (bytes ≡ other) × (rest ≡ more)
same-fields width bytes other rest more fits other_fits same =
    let sizes : length bytes ≡ length other =
    sym (number-field width bytes rest fits) ∙ ap (big_number width) same ∙ number-field width other more other_fits in
    let grouped : big_bytes width (length bytes) ++ (bytes ++ rest) ≡ big_bytes width (length bytes) ++ (other ++ more) =
    sym (append_assoc (big_bytes width (length bytes)) bytes rest) ∙ same ∙ append_assoc (big_bytes width (length other)) other more
    ∙ ap (λ (n : ℕ). big_bytes width n ++ (other ++ more)) (sym sizes) in
    same-fronts bytes other rest more sizes (append_cancel_left (big_bytes width (length bytes)) (bytes ++ rest) (other ++ more) grouped)
