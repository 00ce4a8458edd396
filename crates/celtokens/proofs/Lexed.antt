-- Token sequences, from the front.
use Rattle.std.proofs.Common.{◌≡◌, ◌∙◌, ℕ, ◌<◌, ◌≤◌, inl, inr, true, false, List, [], ◌∷◌, ◌++◌, length, ap, sym, refl, arith, append_assoc, append-nil}
use Rattle.celtokens.specs.declared.class.Class.{Class}
use Rattle.celtokens.specs.declared.run.Kind.{Kind}
use Rattle.celtokens.specs.Run.{Run, stop, more}
use Rattle.celtokens.specs.Numeral.{Numeral, decimal, hexadecimal}
use Rattle.celtokens.specs.Terminal.{Terminal}
use Rattle.celtokens.specs.Lexeme.{Part, Gap, Whole, Lexeme, blank, word, raw_text, int, uint, text, comment, one_sign, two_signs, Longest, HasNoLexeme}
use Rattle.celtokens.specs.Lexes.{Lexes, end, over, next, HasNoTokens, OneReading}
use Rattle.celtokens.proofs.Texts.{text_shorter}

run_le : {k : Kind} {i cs r : List ℕ} → Run k i cs r → length r ≤ length i
run_le stop = omega arith
run_le (more e run) = let le = run_le run in omega arith

numeral_le : {c n : ℕ} {i r : List ℕ} → Numeral c i n r → length r ≤ length i
numeral_le (decimal ds run) = run_le run
numeral_le (hexadecimal h hs e run) = let le = run_le run in omega arith

lexeme_le : {k : Class} {c : ℕ} {i : List ℕ} {p : Part} {r : List ℕ} → Lexeme k c i p r → length r ≤ length i
lexeme_le blank = omega arith
lexeme_le (word cs run) = run_le run
lexeme_le (raw_text {i = i} {t = t} {r = r} mark h) = let lt = text_shorter true i t r h in omega arith
lexeme_le (int h) = numeral_le h
lexeme_le (uint h mark) = let le = numeral_le h in omega arith
lexeme_le (text {c = c} {i = i} {t = t} {r = r} h) = let lt = text_shorter false (c ∷ i) t r h in omega arith
lexeme_le (comment run) = let le = run_le run in omega arith
lexeme_le (one_sign e) = omega arith
lexeme_le (two_signs e) = omega arith

-- a lexeme takes something
pub longest_shorter : (l : List ℕ) (p : Part) (r : List ℕ) → Longest l p r → length r < length l
longest_shorter [] p r h = absurd h
longest_shorter (c ∷ i) p r h = let le = lexeme_le h.lexeme in omega arith

-- there is one longest lexeme
pub one_longest : (l : List ℕ) (p q : Part) (r s : List ℕ) → Longest l p r → Longest l q s → (q ≡ p) × (s ≡ r)
one_longest [] p q r s a b = absurd a
one_longest (c ∷ i) p q r s a b =
    elim (a.others q s b.lexeme) [
      | inl lt ↦ (elim (b.others p r a.lexeme) [ inl gt ↦ absurd (omega arith) | inr same ↦ (sym same.0, sym same.1) ])
      | inr same ↦ same
    ]

pub one_sequence : OneReading
one_sequence i ts us end end = refl
one_sequence i ts us end (over h rest) = absurd h
one_sequence i ts us end (next h rest) = absurd h
one_sequence i ts us (over h rest) end = absurd h
one_sequence i ts us (over {r = r} h rest) (over {r = s} g other) =
    let same = one_longest i Gap Gap r s h g in one_sequence r ts us rest (rw same.1 at other)
one_sequence i ts us (over {r = r} h rest) (next {r = s} {t = u} g other) =
    let same = one_longest i Gap (Whole u) r s h g in absurd (let p = same.0 in cc)
one_sequence i ts us (next h rest) end = absurd h
one_sequence i ts us (next {r = r} {t = t} h rest) (over {r = s} g other) =
    let same = one_longest i (Whole t) Gap r s h g in absurd (let p = same.0 in cc)
one_sequence i ts us (next {r = r} {t = t} {ts = ts'} h rest) (next {r = s} {t = u} {ts = us'} g other) =
    let same = one_longest i (Whole t) (Whole u) r s h g in
    let first : u ≡ t = (let p = same.0 in cc) in
    let others : us' ≡ ts' = one_sequence r ts' us' rest (rw same.1 at other) in
    cc

-- the tokens ts are the front of the sequence of i, and r is what is left of it
pub record Lexed (i : List ℕ) (ts : List Terminal) (r : List ℕ) : Type 0 where
  pub forth : (us : List Terminal) → Lexes r us → Lexes i (ts ++ us)
  pub back : (vs : List Terminal) → Lexes i vs → (us : List Terminal) × (vs ≡ ts ++ us) × Lexes r us

pub lexed_start : (i : List ℕ) → Lexed i [] i
lexed_start i = record { forth = λ us h. h; back = λ vs h. (vs, refl, h) }

gap_back : (m r : List ℕ) (us : List Terminal) → Longest m Gap r → Lexes m us → Lexes r us
gap_back m r us h end = absurd h
gap_back m r us h (over {r = s} g rest) = let same = one_longest m Gap Gap r s h g in rw same.1 at rest
gap_back m r us h (next {r = s} {t = u} g rest) = absurd (let p = (one_longest m Gap (Whole u) r s h g).0 in cc)

token_back : (m r : List ℕ) (t : Terminal) (us : List Terminal) → Longest m (Whole t) r → Lexes m us → (vs : List Terminal) × (us ≡ t ∷ vs) × Lexes r vs
token_back m r t us h end = absurd h
token_back m r t us h (over {r = s} g rest) = absurd (let p = (one_longest m (Whole t) Gap r s h g).0 in cc)
token_back m r t us h (next {r = s} {t = u} {ts = vs} g rest) =
    let same = one_longest m (Whole t) (Whole u) r s h g in
    let first : u ≡ t = (let p = same.0 in cc) in
    (vs, ap (λ x. x ∷ vs) first, rw same.1 at rest)

pub lexed_gap : (i : List ℕ) (ts : List Terminal) (m r : List ℕ) → Lexed i ts m → Longest m Gap r → Lexed i ts r
lexed_gap i ts m r lexed h = record {
  forth = λ us rest. lexed.forth us (over h rest);
  back = λ vs all. let old = lexed.back vs all in (old.0, old.1, gap_back m r old.0 h old.2);
}

pub lexed_token : (i : List ℕ) (ts : List Terminal) (m r : List ℕ) (t : Terminal) → Lexed i ts m → Longest m (Whole t) r → Lexed i (ts ++ t ∷ []) r
lexed_token i ts m r t lexed h = record {
  forth = λ us rest. rw append_assoc (lexed.forth (t ∷ us) (next h rest));
  back = λ vs all.
      let old = lexed.back vs all in
      let step = token_back m r t old.0 h old.2 in
      (step.0, rw append_assoc (old.1 ∙ ap (λ l. ts ++ l) step.1), step.2);
}

pub lexed_end : (i : List ℕ) (ts : List Terminal) → Lexed i ts [] → Lexes i ts
lexed_end i ts lexed = rw append-nil at (lexed.forth [] end)

no_lexes : (m : List ℕ) (us : List Terminal) → 0 < length m → HasNoLexeme m → Lexes m us → ⊥
no_lexes [] us some none h = omega arith
no_lexes (c ∷ i) us some none (over {r = r} g rest) = none Gap r g.lexeme
no_lexes (c ∷ i) us some none (next {r = r} {t = t} g rest) = none (Whole t) r g.lexeme

pub no_sequence : (i : List ℕ) (ts : List Terminal) (m : List ℕ) → Lexed i ts m → 0 < length m → HasNoLexeme m → HasNoTokens i
no_sequence i ts m lexed some none vs h = let old = lexed.back vs h in no_lexes m old.0 some none old.2
