-- A text is an identifier exactly where its tokens are one name, the whole of it.
use Rattle.std.proofs.Common.{◌≡◌, ◌∙◌, ℕ, ◌<◌, ◌≤◌, Bool, true, false, ◌&&◌, ◌||◌, ◌==◌, cond, bytes_eq, codes, List, [], ◌∷◌, length, IsAscii, IsUtf8, chars, refl, ap, sym, arith}
use Rattle.std.proofs.lemmas.Bool.Decides.{nat_tests}
use Rattle.std.proofs.lemmas.Str.{chars-IsAscii, encodes-chars, encodes-IsAscii}
use Rattle.std.proofs.lemmas.Str.Ascii.{IsAscii-nil, IsAscii-cons}
use Rattle.std.specs.Bool.{Decides}
use Rattle.std.specs.Char.{is_ascii_alphabetic}
use Rattle.std.specs.List.{list_all}
use Rattle.celtokens.specs.declared.class.Class.{Class}
use Rattle.celtokens.specs.declared.class.Class.TheVariants as class_of
use Rattle.celtokens.specs.declared.run.Kind.{Kind}
use Rattle.celtokens.specs.declared.run.Kind.TheVariants as kind
use Rattle.celtokens.specs.Class.{class}
use Rattle.celtokens.specs.Run.{is_in, Run, stop, more, front, beyond}
use Rattle.celtokens.specs.Text.{HasNoText, HasNoRawText}
use Rattle.celtokens.specs.Terminal.{Terminal, Ident, Reserved, False, In, Null, True, is_reserved, word_of}
use Rattle.celtokens.specs.Lexeme.{Part, Gap, Whole, Lexeme, blank, word, raw_text, int, uint, text, comment, one_sign, two_signs}
use Rattle.celtokens.specs.Lexes.{Lexes, end, over, next}
use Rattle.celtokens.specs.Word.{is_word, is_name, is_identifier}
use Rattle.celtokens.proofs.Texts.{text_first}
use Rattle.celtokens.proofs.Words.{quote_not_in_word, word_longest}
use Rattle.celtokens.proofs.Lexed.{longest_shorter}

-- ---- characters of words

both : (a b : Bool) → (a && b) ≡ true → (a ≡ true) × (b ≡ true)
both true true e = (refl, refl)
both true false e = absurd (cc)
both false b e = absurd (cc)

front_all : (k : Kind) (i : List ℕ) → list_all (is_in k) i ≡ true → (front k i ≡ i) × (beyond k i ≡ [])
front_all k [] e = (refl, refl)
front_all k (c ∷ i) e =
    let here = both (is_in k c) (list_all (is_in k) i) e in
    let rest = front_all k i here.1 in
    rw here.0 (ap (λ l. c ∷ l) rest.0, rest.1)

all_of_run : {k : Kind} {i cs r : List ℕ} → Run k i cs r → list_all (is_in k) cs ≡ true
all_of_run stop = refl
all_of_run (more e run) = rw e (all_of_run run)

begins_letter : (c : ℕ) → (is_ascii_alphabetic c || c == 95) ≡ true → class c ≡ class_of.Letter
begins_letter c e = grind (arith, nat_tests)

letter_begins : (c : ℕ) → class c ≡ class_of.Letter → (is_ascii_alphabetic c || c == 95) ≡ true
letter_begins c e = grind (arith, nat_tests)

in_word_ascii : (c : ℕ) → is_in kind.InWord c ≡ true → c < 128
in_word_ascii c e = grind (arith, nat_tests)

begins_in_word : (c : ℕ) → (is_ascii_alphabetic c || c == 95) ≡ true → is_in kind.InWord c ≡ true
begins_in_word c e = grind (arith, nat_tests)

all_ascii : (i : List ℕ) → list_all (is_in kind.InWord) i ≡ true → IsAscii i
all_ascii [] e = IsAscii-nil
all_ascii (c ∷ i) e =
    let here = both (is_in kind.InWord c) (list_all (is_in kind.InWord) i) e in
    IsAscii-cons c i (in_word_ascii c here.0) (all_ascii i here.1)

word_ascii : (i : List ℕ) → is_identifier i ≡ true → IsAscii i
word_ascii [] e = IsAscii-nil
word_ascii (c ∷ i) e =
    let first = both (is_word (c ∷ i)) (is_name (word_of (c ∷ i))) e in
    let parts = both (is_ascii_alphabetic c || c == 95) (list_all (is_in kind.InWord) i) first.0 in
    IsAscii-cons c i (in_word_ascii c (begins_in_word c parts.0)) (all_ascii i parts.1)

no_text_in_word : (i : List ℕ) → list_all (is_in kind.InWord) i ≡ true → HasNoText true i
no_text_in_word i all t r h =
    let first = text_first true i t r h in
    let e = rw first.2 at all in
    let here = both (is_in kind.InWord first.0) (list_all (is_in kind.InWord) first.1) e in
    absurd (let n = quote_not_in_word first.0 first.3 in cc)

-- ---- names

name_at : (f i n t r : Bool) (w : List ℕ) → is_name (cond f False (cond i In (cond n Null (cond t True (cond r (Reserved w) (Ident w)))))) ≡ true → cond f False (cond i In (cond n Null (cond t True (cond r (Reserved w) (Ident w))))) ≡ Ident w
name_at true i n t r w e = absurd (cc)
name_at false true n t r w e = absurd (cc)
name_at false false true t r w e = absurd (cc)
name_at false false false true r w e = absurd (cc)
name_at false false false false true w e = absurd (cc)
name_at false false false false false w e = refl

-- a word that is a name is named by itself
named_itself : (w : List ℕ) → is_name (word_of w) ≡ true → word_of w ≡ Ident w
named_itself w e = name_at (bytes_eq w (codes "false")) (bytes_eq w (codes "in")) (bytes_eq w (codes "null")) (bytes_eq w (codes "true")) (is_reserved w) w e

ident_is_name : (w v : List ℕ) → word_of w ≡ Ident v → (is_name (word_of w) ≡ true) × (v ≡ w)
ident_is_name w v e =
    let name : is_name (word_of w) ≡ true = rw e refl in
    let itself = named_itself w name in
    (name, cc)

-- ---- forth

alone : (i : List ℕ) → is_identifier i ≡ true → Lexes i (Ident i ∷ [])
alone [] e = absurd (cc)
alone (c ∷ i) e =
    let first = both (is_word (c ∷ i)) (is_name (word_of (c ∷ i))) e in
    let parts = both (is_ascii_alphabetic c || c == 95) (list_all (is_in kind.InWord) i) first.0 in
    let in_word : list_all (is_in kind.InWord) (c ∷ i) ≡ true = rw (begins_in_word c parts.0) parts.1 in
    let whole = front_all kind.InWord (c ∷ i) in_word in
    let no_raw : HasNoRawText (c ∷ i) = (λ d j is mark. no_text_in_word j (let same : j ≡ i = cc in rw same parts.1)) in
    let longest = word_longest (c ∷ i) (Ident (c ∷ i)) (begins_letter c parts.0) no_raw (let n = named_itself (c ∷ i) first.1 in rw (whole.0) (sym n)) in
    next (rw whole.1 at longest) end

-- ---- back

-- a lexeme that is a name is a word
word_at : {k : Class} {c : ℕ} {i r : List ℕ} {p : Part} (name : List ℕ) → Lexeme k c i p r → p ≡ Whole (Ident name) → (cs : List ℕ) × (k ≡ class_of.Letter) × Run kind.InWord i cs r × (word_of (c ∷ cs) ≡ Ident name)
word_at name blank e = absurd (cc)
word_at name (word cs run) e = (cs, refl, run, cc)
word_at name (raw_text mark h) e = absurd (cc)
word_at name (int h) e = absurd (cc)
word_at name (uint h mark) e = absurd (cc)
word_at name (text h) e = absurd (cc)
word_at name (comment run) e = absurd (cc)
word_at name (one_sign h) e = absurd (cc)
word_at name (two_signs h) e = absurd (cc)

run_fits : {k : Kind} {i cs r : List ℕ} → Run k i cs r → length cs ≤ length i
run_fits stop = omega arith
run_fits (more e run) = let rest = run_fits run in omega arith

-- a name is no longer than the text
name_fits : (i name : List ℕ) (ts us : List Terminal) → Lexes i us → us ≡ Ident name ∷ ts → length name ≤ length i
name_fits i name ts us end e = absurd (cc)
name_fits i name ts us (over {r = r} h rest) e =
    let le = name_fits r name ts us rest e in
    let lt = longest_shorter i Gap r h in
    omega arith
name_fits [] name ts us (next h rest) e = absurd h
name_fits (c ∷ i) name ts us (next {t = t} h rest) e =
    let at = word_at name h.lexeme (let same : t ≡ Ident name = cc in ap (λ x. Whole x) same) in
    let same = (ident_is_name (c ∷ at.0) name at.3).1 in
    let le = run_fits at.2 in
    rw same (omega arith)

gathered : (c : ℕ) (cs i : List ℕ) → cs ≡ i → (is_ascii_alphabetic c || c == 95) ≡ true → list_all (is_in kind.InWord) cs ≡ true → is_name (word_of (c ∷ cs)) ≡ true → is_identifier (c ∷ i) ≡ true
gathered c cs i same begins all name = rw (← same, begins, all, name) refl

back : (i name : List ℕ) (ts us : List Terminal) → Lexes i us → us ≡ Ident name ∷ ts → name ≡ i → is_identifier i ≡ true
back i name ts us end e same = absurd (cc)
back i name ts us (over {r = r} h rest) e same =
    let le = name_fits r name ts us rest e in
    let lt = longest_shorter i Gap r h in
    absurd (let len = ap length same in omega arith)
back [] name ts us (next h rest) e same = absurd h
back (c ∷ i) name ts us (next {t = t} h rest) e same =
    let at = word_at name h.lexeme (let same : t ≡ Ident name = cc in ap (λ x. Whole x) same) in
    let named = ident_is_name (c ∷ at.0) name at.3 in
    gathered c at.0 i (cc) (letter_begins c at.1) (all_of_run at.2) named.0

pub lexed_alone : (i : List ℕ) → Decides (is_identifier i) (Lexes i (Ident i ∷ []))
lexed_alone i = (λ e. alone i e, λ h. back i i [] (Ident i ∷ []) h refl refl)

-- ---- bytes and characters

pub lexed_text : (bs : List ℕ) (r : Bool) → IsUtf8 bs → r ≡ is_identifier bs → Decides r (Lexes (chars bs) (Ident (chars bs) ∷ []))
lexed_text bs r u is =
    let forth : r ≡ true → Lexes (chars bs) (Ident (chars bs) ∷ []) = (λ e. let i : is_identifier bs ≡ true = cc in rw (chars-IsAscii bs (word_ascii bs i)) (alone bs i)) in
    let here : Lexes (chars bs) (Ident (chars bs) ∷ []) → r ≡ true =
    (λ h.
    let e = (lexed_alone (chars bs)).1 h in
    let ascii = encodes-IsAscii (chars bs) (word_ascii (chars bs) e) in
    let same : chars bs ≡ bs = sym ascii ∙ encodes-chars bs u in
    is ∙ rw same at e) in
    (forth, here)
