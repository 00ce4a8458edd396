-- From the longest lexeme of a class to the longest lexeme of a text: blanks, strings, comments and signs.
use Rattle.std.proofs.Common.{◌≡◌, ◌∙◌, ℕ, ◌<◌, ◌⊎◌, inl, inr, false, List, [], ◌∷◌, length, Some, ap, sym, refl, arith}
use Rattle.std.proofs.lemmas.Option.{same_Some}
use Rattle.celtokens.specs.declared.class.Class.{Class}
use Rattle.celtokens.specs.declared.class.Class.TheVariants as class_of
use Rattle.celtokens.specs.declared.run.Kind.TheVariants as kind
use Rattle.celtokens.specs.declared.sign.Sign.{Sign}
use Rattle.celtokens.specs.Class.{class, StartsWith}
use Rattle.celtokens.specs.Run.{beyond}
use Rattle.celtokens.specs.Text.{HasNoText, BestText}
use Rattle.celtokens.specs.Sign.{one_char, two_chars, IsSignOfTwo, HasNoSignOfTwo, IsSignOfOne, HasNoSignOfOne, IsComment, IsNoComment}
use Rattle.celtokens.specs.Terminal.{Quoted, Mark}
use Rattle.celtokens.specs.Lexeme.{Part, Gap, Whole, Lexeme, blank, text, comment, one_sign, two_signs, LongestOf, Longest, HasNoLexeme}
use Rattle.celtokens.proofs.Runs.{run_is, run_shorter, beyond_le}

pub starts_class : (l : List ℕ) (c : ℕ) (i : List ℕ) (k : Class) → l ≡ c ∷ i → StartsWith k l → class c ≡ k
starts_class l c i k e h = rw e at h

pub to_longest : (l : List ℕ) (c : ℕ) (i : List ℕ) (k : Class) (p : Part) (r : List ℕ) → l ≡ c ∷ i → class c ≡ k → LongestOf k c i p r → Longest l p r
to_longest l c i k p r e f h = rw (e, f) h

blank_others : {c : ℕ} {i : List ℕ} → (q : Part) (s : List ℕ) → Lexeme class_of.Blank c i q s → (length i < length s) ⊎ ((q ≡ Gap) × (s ≡ i))
blank_others q s blank = inr (refl, refl)

pub blank_longest : (l : List ℕ) (c : ℕ) (i : List ℕ) → l ≡ c ∷ i → class c ≡ class_of.Blank → Longest l Gap i
blank_longest l c i e is = to_longest l c i class_of.Blank Gap i e is (record { lexeme = blank; others = blank_others })

text_others : {c : ℕ} {i t r : List ℕ} → BestText false (c ∷ i) t r → (q : Part) (s : List ℕ) → Lexeme class_of.Quote c i q s → (length r < length s) ⊎ ((q ≡ Whole (Quoted t)) × (s ≡ r))
text_others best q s (text other) = elim (best.others _ s other) [ inl w ↦ inl w | inr w ↦ inr (ap (λ u. Whole (Quoted u)) w.0, w.1) ]

pub text_longest : (l t r : List ℕ) → StartsWith class_of.Quote l → BestText false l t r → Longest l (Whole (Quoted t)) r
text_longest [] t r starts best = absurd starts
text_longest (c ∷ i) t r starts best = to_longest (c ∷ i) c i class_of.Quote _ r refl starts (record { lexeme = text best.text; others = text_others best })

no_text_at : {c : ℕ} {i : List ℕ} → HasNoText false (c ∷ i) → (q : Part) (s : List ℕ) → Lexeme class_of.Quote c i q s → ⊥
no_text_at none q s (text other) = none _ s other

pub to_none : (c : ℕ) (i : List ℕ) (k : Class) → class c ≡ k → ((q : Part) (s : List ℕ) → Lexeme k c i q s → ⊥) → HasNoLexeme (c ∷ i)
to_none c i k e none q s h = none q s (rw e at h)

pub no_text_lexeme : (l : List ℕ) → StartsWith class_of.Quote l → HasNoText false l → HasNoLexeme l
no_text_lexeme [] starts none = absurd starts
no_text_lexeme (c ∷ i) starts none = to_none c i class_of.Quote starts (no_text_at none)

comment_others : {i : List ℕ} → (q : Part) (s : List ℕ) → Lexeme class_of.Other 47 (47 ∷ i) q s → (length (beyond kind.InLine i) < length s) ⊎ ((q ≡ Gap) × (s ≡ beyond kind.InLine i))
comment_others q s (comment run) = elim (run_shorter kind.InLine run) [ inl w ↦ inl w.0 | inr w ↦ inr (refl, w.1) ]
comment_others {i = i} q s (one_sign e) = let le = beyond_le kind.InLine i in inl (omega arith)
comment_others q s (two_signs e) = absurd (cc)

pub comment_longest : (l i : List ℕ) → StartsWith class_of.Other l → IsComment l i → Longest l Gap (beyond kind.InLine i)
comment_longest l i starts e =
    to_longest l 47 (47 ∷ i) class_of.Other Gap _ e (starts_class l 47 (47 ∷ i) class_of.Other e starts) (record { lexeme = comment (run_is kind.InLine i); others = comment_others })

two_others : (c d : ℕ) (r : List ℕ) (x : Sign) → two_chars c d ≡ Some x → (q : Part) (s : List ℕ) → Lexeme class_of.Other c (d ∷ r) q s → (length r < length s) ⊎ ((q ≡ Whole (Mark x)) × (s ≡ r))
two_others c d r x is q s (comment run) = absurd (cc)
two_others c d r x is q s (one_sign e) = inl (omega arith)
two_others c d r x is q s (two_signs {s = y} e) = inr (ap (λ z. Whole (Mark z)) (same_Some y x (sym e ∙ is)), refl)

pub two_longest : (l r : List ℕ) (x : Sign) → StartsWith class_of.Other l → IsSignOfTwo l x r → Longest l (Whole (Mark x)) r
two_longest l r x starts is =
    to_longest l is.0 (is.1 ∷ r) class_of.Other _ r is.2 (starts_class l is.0 (is.1 ∷ r) class_of.Other is.2 starts) (record { lexeme = two_signs is.3; others = two_others is.0 is.1 r x is.3 })

one_others : (c : ℕ) (i : List ℕ) (x : Sign) → one_char c ≡ Some x → IsNoComment (c ∷ i) → HasNoSignOfTwo (c ∷ i) → (q : Part) (s : List ℕ) → Lexeme class_of.Other c i q s → (length i < length s) ⊎ ((q ≡ Whole (Mark x)) × (s ≡ i))
one_others c i x is no_comment no_two q s (comment run) = absurd (no_comment _ refl)
one_others c i x is no_comment no_two q s (one_sign {s = y} e) = inr (ap (λ z. Whole (Mark z)) (same_Some y x (sym e ∙ is)), refl)
one_others c i x is no_comment no_two q s (two_signs {d = d} {s = y} e) = absurd (no_two c d s y refl e)

pub one_longest : (l r : List ℕ) (x : Sign) → StartsWith class_of.Other l → IsNoComment l → HasNoSignOfTwo l → IsSignOfOne l x r → Longest l (Whole (Mark x)) r
one_longest l r x starts no_comment no_two is =
    to_longest l is.0 r class_of.Other _ r is.1 (starts_class l is.0 r class_of.Other is.1 starts)
    (record { lexeme = one_sign is.2; others = one_others is.0 r x is.2 (rw is.1 at no_comment) (rw is.1 at no_two) })

no_sign_at : (c : ℕ) (i : List ℕ) → IsNoComment (c ∷ i) → HasNoSignOfTwo (c ∷ i) → HasNoSignOfOne (c ∷ i) → (q : Part) (s : List ℕ) → Lexeme class_of.Other c i q s → ⊥
no_sign_at c i no_comment no_two no_one q s (comment run) = no_comment _ refl
no_sign_at c i no_comment no_two no_one q s (one_sign {s = y} e) = no_one c s y refl e
no_sign_at c i no_comment no_two no_one q s (two_signs {d = d} {s = y} e) = no_two c d s y refl e

pub no_sign_lexeme : (l : List ℕ) → StartsWith class_of.Other l → IsNoComment l → HasNoSignOfTwo l → HasNoSignOfOne l → HasNoLexeme l
no_sign_lexeme [] starts no_comment no_two no_one = tt
no_sign_lexeme (c ∷ i) starts no_comment no_two no_one = to_none c i class_of.Other starts (no_sign_at c i no_comment no_two no_one)
