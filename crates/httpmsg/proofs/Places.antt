-- What may follow a place in a head, one byte after the other.
use Rattle.std.proofs.Common.{◌≡◌, ℕ, ◌+◌, ◌<◌, ◌≤◌, true, List, [], ◌∷◌, ◌++◌, length, drop, refl, arith, ap, sym, subst, ◌∙◌, append_assoc, length-append, codes, All, inl, get_or, ◌-◌}
use Rattle.std.specs.List.{flat_map}
use Rattle.std.proofs.lemmas.List.{append-nil, drop_more, drop_all}
use Rattle.std.proofs.lemmas.List.Elements.{All-nil, All-cons}
use Rattle.std.proofs.lemmas.List.Concat.{flat_map-cons}
use Rattle.std.proofs.lemmas.Str.{IsUtf8-from_ascii}
use Rattle.std.proofs.lemmas.Str.Ascii.{IsAscii-from_all}
use Rattle.httparse.specs.Grammar.{is_value_byte, LineEnd, crlf, lf, print_end, print_blank, print_version, Field, IsField, print_field, print_section, RequestHead, print_request, MayBecomeRequest}
use Rattle.httparse.proofs.GrammarLemmas.{cons-append, print_request-append, request_unique, ReadsRequest-append}
use Rattle.httparse.proofs.OpenLemmas.{letter_is_token}
use Rattle.httpmsg.specs.declared.place.HeadPlace.{HeadPlace}
use Rattle.httpmsg.specs.declared.place.HeadPlace.TheVariants.{BeforeRequest, InEmptyLine, InMethod, BeforeTarget, InTarget, InVersion, AfterVersion, AfterReturn, BeforeLine, InLastLine, InName, InValue}
use Rattle.httpmsg.specs.Stream.{BeginsWith}
use Rattle.httpmsg.specs.Place.{IsHead, IsSection, IsLineEnd, IsValue, IsWord, IsVersion, IsTokenByte, IsTargetByte, IsTarget, IsAfter, Follows, IsAt}

-- one more byte of a word
pub word_more : (Byte : ℕ → Type 0) (stop : ℕ) (Next : List ℕ → Type 0) (b : ℕ) (text : List ℕ) → Byte b → IsWord Byte stop Next text
    → IsWord Byte stop Next (b ∷ text)
word_more Byte stop Next b text passes (word, rest, is, all, next) =
    (b ∷ word, rest, ap (λ x. b ∷ x) is, All-cons Byte b word passes all, next)

-- the byte after a word
pub word_stop : (Byte : ℕ → Type 0) (stop : ℕ) (Next : List ℕ → Type 0) (text : List ℕ) → Next text → IsWord Byte stop Next (stop ∷ text)
word_stop Byte stop Next text next = ([], text, refl, All-nil Byte, next)

-- one more byte of a value
pub value_more : (b : ℕ) (text : List ℕ) → is_value_byte b ≡ true → IsValue text → IsValue (b ∷ text)
value_more b text passes (value, rest, is, all, next) =
    (b ∷ value, rest, ap (λ x. b ∷ x) is, All-cons (λ v. is_value_byte v ≡ true) b value passes all, next)

pub value_end : (text : List ℕ) → IsLineEnd text → IsValue text
value_end text next = ([], text, refl, All-nil (λ v. is_value_byte v ≡ true), next)

pub line_lf : (text : List ℕ) → IsSection text → IsLineEnd (10 ∷ text)
line_lf text next = (lf, text, refl, next)

pub line_cr : (text : List ℕ) → IsAfter (λ b. b ≡ 10) IsSection text → IsLineEnd (13 ∷ text)
line_cr text (b, rest, is, ten, next) = (crlf, rest, ap (λ x. 13 ∷ x) (is ∙ ap (λ n. n ∷ rest) ten), next)

pub last_line : (text : List ℕ) → text ≡ 10 ∷ [] → IsSection (13 ∷ text)
last_line text is = ([], crlf, All-nil IsField, ap (λ x. 13 ∷ x) is)

-- the first byte of a field
pub field_first : (b : ℕ) (text : List ℕ) → IsTokenByte b → IsWord IsTokenByte 58 IsValue text → IsSection (b ∷ text)
field_first b text passes (name, rest, is, all, (value, line, value_is, values, (end, others, line_is, (fields, last, are, section_is)))) =
    let f : Field = record { name = b ∷ name; raw = value; end = end } in
    let fine : IsField f = record { name = (omega arith, All-cons IsTokenByte b name passes all); raw = values } in (
      f ∷ fields,
      last,
      All-cons IsField f fields fine are,
      ap (λ x. b ∷ x) (is ∙ ap (λ x. name ++ 58 ∷ x) (value_is ∙ ap (λ x. value ++ x) (line_is ∙ ap (λ x. print_end end ++ x) section_is)))
          ∙ joined (b ∷ name) value (print_end end) (flat_map print_field fields) (print_end last)
          ∙ ap (λ x. x ++ print_end last) (sym (flat_map-cons print_field f fields)),
    )
  where
    joined : (n v e fs l : List ℕ) → n ++ 58 ∷ (v ++ (e ++ (fs ++ l))) ≡ ((n ++ 58 ∷ v ++ e) ++ fs) ++ l
    joined n v e fs l = simp (append_assoc, cons-append)

pub version_first : (count b : ℕ) (text : List ℕ) → count < 7 → b ≡ get_or (codes "HTTP/1.") count 0 → IsVersion (count + 1) text → IsVersion count (b ∷ text)
version_first count b text below is (minor, rest, text_is, small, next) = (minor, rest, here, small, next)
  where
    here : b ∷ text ≡ drop count (codes "HTTP/1.") ++ (48 + minor) ∷ rest
    here =
        ap (λ n. n ∷ text) is ∙ ap (λ x. get_or (codes "HTTP/1.") count 0 ∷ x) text_is
        ∙ ap (λ x. x ++ (48 + minor) ∷ rest) (sym (drop_more (codes "HTTP/1.") count 0 below))

pub version_last : (count b : ℕ) (text : List ℕ) → 7 ≤ count → 48 ≤ b → b ≤ 49 → IsLineEnd text → IsVersion count (b ∷ text)
version_last count b text past low high next = (b - 48, text, here, omega (arith, low, high), next)
  where
    here : b ∷ text ≡ drop count (codes "HTTP/1.") ++ (48 + (b - 48)) ∷ text
    here =
        let digit : b ≡ 48 + (b - 48) = omega (arith, low) in
        ap (λ n. n ∷ text) digit ∙ ap (λ x. x ++ (48 + (b - 48)) ∷ text) (sym (drop_all count (codes "HTTP/1.") past))

-- an empty line before a head
empty_line : (end : LineEnd) (text : List ℕ) → IsHead text → IsHead (print_end end ++ text)
empty_line end text (h, is, text_is) =
    let k : RequestHead = record { blank = end ∷ h.blank; method = h.method; target = h.target; minor = h.minor; line_end = h.line_end; fields = h.fields; last = h.last } in (
      k,
      record { method = is.method; target = is.target; target_text = is.target_text; minor = is.minor; fields = is.fields },
      ap (λ x. print_end end ++ x) (text_is ∙ sym (append-nil (print_request h)) ∙ print_request-append h [])
          ∙ sym (append_assoc (print_end end) (print_blank h.blank) (after h))
          ∙ ap (λ x. x ++ after h) (sym (flat_map-cons print_end end h.blank))
          ∙ sym (print_request-append k []) ∙ append-nil (print_request k),
    )
  where
    after : RequestHead → List ℕ
    after h = h.method ++ 32 ∷ (h.target ++ 32 ∷ (print_version h.minor ++ (print_end h.line_end ++ (print_section h.fields h.last ++ []))))

pub empty_line_cr : (text : List ℕ) → IsAfter (λ b. b ≡ 10) IsHead text → IsHead (13 ∷ text)
empty_line_cr text (b, rest, is, ten, head) =
    let Here : List ℕ → Type 0 = λ x. IsHead (13 ∷ x) in subst Here (sym (is ∙ ap (λ n. n ∷ rest) ten)) (empty_line crlf rest head)

pub empty_line_lf : (text : List ℕ) → IsHead text → IsHead (10 ∷ text)
empty_line_lf text head = empty_line lf text head

-- the first byte of a method
pub method_first : (b : ℕ) (text : List ℕ) → IsTokenByte b → IsWord IsTokenByte 32 (IsAfter IsTargetByte IsTarget) text → IsHead (b ∷ text)
method_first b text passes (name, rest, is, all, (d, others, rest_is, first, (word, later, word_is, words, (minor, line, version_is, small, (end, lines, line_is, (fields, last, are, section_is)))))) =
    let target : List ℕ = d ∷ word in
    let bytes : All IsTargetByte target = All-cons IsTargetByte d word first words in
    let h : RequestHead = record { blank = []; method = b ∷ name; target = target; minor = minor; line_end = end; fields = fields; last = last } in (
      h,
      record {
        method = (omega arith, All-cons IsTokenByte b name passes all);
        target = (omega arith, λ k v below. (bytes k v below).0);
        target_text = IsUtf8-from_ascii target (IsAscii-from_all target (λ k v below. (bytes k v below).1));
        minor = small;
        fields = are;
      },
      ap (λ x. b ∷ x) (is ∙ ap (λ x. name ++ 32 ∷ x) (rest_is ∙ ap (λ x. d ∷ x) (word_is ∙ ap (λ x. word ++ 32 ∷ x)
          (version_is ∙ ap (λ x. codes "HTTP/1." ++ (48 + minor) ∷ x) (line_is ∙ ap (λ x. print_end end ++ x)
          (section_is ∙ sym (append-nil (print_section fields last))))))))
          ∙ sym (print_request-append h []) ∙ append-nil (print_request h),
    )

-- ---- some text that may follow each place

some_section : IsSection (10 ∷ [])
some_section = ([], lf, All-nil IsField, refl)

some_end : IsLineEnd (10 ∷ 10 ∷ [])
some_end = line_lf (10 ∷ []) some_section

abbrev version_text : ℕ → List ℕ
version_text count = drop count (codes "HTTP/1.") ++ 48 ∷ 10 ∷ 10 ∷ []

some_version : (count : ℕ) → IsVersion count (version_text count)
some_version count = (0, 10 ∷ 10 ∷ [], refl, omega arith, some_end)

some_target : IsTarget (32 ∷ version_text 0)
some_target = word_stop IsTargetByte 32 (IsVersion 0) (version_text 0) (some_version 0)

before_target : IsAfter IsTargetByte IsTarget (47 ∷ 32 ∷ version_text 0)
before_target = (47, 32 ∷ version_text 0, refl, (refl, omega arith), some_target)

some_method : IsWord IsTokenByte 32 (IsAfter IsTargetByte IsTarget) (32 ∷ 47 ∷ 32 ∷ version_text 0)
some_method = word_stop IsTokenByte 32 (IsAfter IsTargetByte IsTarget) (47 ∷ 32 ∷ version_text 0) before_target

some_head : IsHead (65 ∷ 32 ∷ 47 ∷ 32 ∷ version_text 0)
some_head = method_first 65 (32 ∷ 47 ∷ 32 ∷ version_text 0) letter_is_token some_method

some_follows : (place : HeadPlace) → (text : List ℕ) × (0 < length text) × Follows place text
some_follows BeforeRequest = (_, omega arith, some_head)
some_follows InEmptyLine = (_, omega arith, (10, _, refl, refl, some_head))
some_follows InMethod = (_, omega arith, some_method)
some_follows BeforeTarget = (_, omega arith, before_target)
some_follows InTarget = (_, omega arith, some_target)
some_follows (InVersion count) = (_, omega (arith, length-append (drop count (codes "HTTP/1.")) (48 ∷ 10 ∷ 10 ∷ [])), some_version count)
some_follows AfterVersion = (_, omega arith, some_end)
some_follows AfterReturn = (_, omega arith, (10, _, refl, refl, some_section))
some_follows BeforeLine = (_, omega arith, some_section)
some_follows InLastLine = (10 ∷ [], omega arith, refl)
some_follows InName = (_, omega arith, word_stop IsTokenByte 58 IsValue (10 ∷ 10 ∷ []) (value_end (10 ∷ 10 ∷ []) some_end))
some_follows InValue = (_, omega arith, value_end (10 ∷ 10 ∷ []) some_end)

-- bytes that end inside a head may become one, and hold none
pub at_waits : (place : HeadPlace) (bytes : List ℕ) → IsAt place bytes
    → MayBecomeRequest bytes × ((h : RequestHead) (rest : List ℕ) → BeginsWith bytes h rest → ⊥)
at_waits place bytes at =
    let some = some_follows place in
    let head = at some.0 some.2 in (
      inl (some.0, head.0, (head.1, head.2 ∙ sym (append-nil (print_request head.0)))),
      λ h rest b.
          let same = request_unique (bytes ++ some.0) h head.0 (rest ++ some.0) [] (ReadsRequest-append bytes h rest some.0 b.reads)
          (head.1, head.2 ∙ sym (append-nil (print_request head.0)))
          in
          omega (arith, some.1, ap length same.1, length-append rest some.0),
    )
