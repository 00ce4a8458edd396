-- The longest lexeme that a letter begins: a raw string, or a word.
use Rattle.std.proofs.Common.{◌≡◌, ◌∙◌, ℕ, ◌<◌, true, false, ◌⊎◌, inl, inr, List, [], ◌∷◌, length, refl, ap, sym, arith}
use Rattle.std.proofs.lemmas.Bool.Decides.{nat_tests}
use Rattle.celtokens.specs.declared.class.Class.TheVariants as class_of
use Rattle.celtokens.specs.declared.run.Kind.TheVariants as kind
use Rattle.celtokens.specs.Class.{class, is_quote, StartsWith}
use Rattle.celtokens.specs.Run.{is_in, Run, stop, more, front, beyond}
use Rattle.celtokens.specs.Numeral.{FirstIs, FirstIsNot}
use Rattle.celtokens.specs.Text.{is_r, HasNoText, BestText, IsRawText, HasNoRawText}
use Rattle.celtokens.specs.Terminal.{Terminal, Quoted, word_of}
use Rattle.celtokens.specs.Lexeme.{Part, Whole, Lexeme, word, raw_text, Longest}
use Rattle.celtokens.proofs.Runs.{run_is, run_shorter}
use Rattle.celtokens.proofs.Texts.{text_shorter, text_first}
use Rattle.celtokens.proofs.Lexemes.{starts_class, to_longest}

letter_in_word : (c : ℕ) → class c ≡ class_of.Letter → is_in kind.InWord c ≡ true
letter_in_word c h = grind (arith, nat_tests)

pub quote_not_in_word : (c : ℕ) → is_quote c ≡ true → is_in kind.InWord c ≡ false
quote_not_in_word c h = grind (arith, nat_tests)

-- no run of word characters begins with a quote
run_at_quote : (i cs r : List ℕ) (q : ℕ) (j : List ℕ) → i ≡ q ∷ j → is_quote q ≡ true → Run kind.InWord i cs r → r ≡ i
run_at_quote i cs r q j e quote stop = refl
run_at_quote i cs r q j e quote (more {c = c} {i = i'} is run) =
    absurd (let p : q ≡ c = cc in let n = rw (← p, quote_not_in_word q quote) at is in cc)

raw_others : {c : ℕ} {i t r : List ℕ} → BestText true i t r → (q : Part) (s : List ℕ) → Lexeme class_of.Letter c i q s → (length r < length s) ⊎ ((q ≡ Whole (Quoted t)) × (s ≡ r))
raw_others {i = i} {t = t} {r = r} best q s (word cs run) =
    let first = text_first true i t r best.text in
    let same : s ≡ i = run_at_quote i cs s first.0 first.1 first.2 first.3 run in
    inl (omega (arith, ap length same, text_shorter true i t r best.text))
raw_others best q s (raw_text mark other) =
    elim (best.others _ s other) [ inl w ↦ inl w | inr w ↦ inr (ap (λ u. Whole (Quoted u)) w.0, w.1) ]

word_others : (c : ℕ) (i : List ℕ) → (is_r c ≡ true → HasNoText true i) → (q : Part) (s : List ℕ) → Lexeme class_of.Letter c i q s → (length (beyond kind.InWord i) < length s) ⊎ ((q ≡ Whole (word_of (c ∷ front kind.InWord i))) × (s ≡ beyond kind.InWord i))
word_others c i none q s (word cs run) =
    elim (run_shorter kind.InWord run) [ inl w ↦ inl w.0 | inr w ↦ inr (ap (λ l. Whole (word_of (c ∷ l))) w.0, w.1) ]
word_others c i none q s (raw_text mark other) = absurd (none mark _ s other)

pub raw_longest : (l t r : List ℕ) → StartsWith class_of.Letter l → IsRawText l t r → Longest l (Whole (Quoted t)) r
raw_longest l t r starts raw =
    to_longest l raw.first raw.rest class_of.Letter _ r raw.is (starts_class l raw.first raw.rest class_of.Letter raw.is starts)
    (record { lexeme = raw_text raw.mark raw.best.text; others = raw_others raw.best })

pub word_longest : (l : List ℕ) (t : Terminal) → StartsWith class_of.Letter l → HasNoRawText l → t ≡ word_of (front kind.InWord l) → Longest l (Whole t) (beyond kind.InWord l)
word_longest [] t starts none e = absurd starts
word_longest (c ∷ i) t starts none e =
    let in_word : is_in kind.InWord c ≡ true = letter_in_word c starts in
    let same : t ≡ word_of (c ∷ front kind.InWord i) = rw in_word at e in
    rw (same, in_word) (to_longest (c ∷ i) c i class_of.Letter _ (beyond kind.InWord i) refl starts
    (record { lexeme = word (front kind.InWord i) (run_is kind.InWord i); others = word_others c i (none c i refl) }))

pub raw_from_mark : (l m t r : List ℕ) → FirstIs is_r l m → BestText true m t r → IsRawText l t r
raw_from_mark l m t r mark best = record { first = mark.0; rest = m; is = mark.1; mark = mark.2; best = best }

pub no_raw_from_mark : (l m : List ℕ) → FirstIs is_r l m → HasNoText true m → HasNoRawText l
no_raw_from_mark l m mark none c i e is = let p : i ≡ m = (let q = sym e ∙ mark.1 in cc) in rw p none

pub no_raw_without_mark : (l : List ℕ) → FirstIsNot is_r l → HasNoRawText l
no_raw_without_mark l unmarked c i e is = absurd (let p = unmarked c i e in cc)
