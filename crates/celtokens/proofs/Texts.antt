-- The inside of a string, and the longest string.
use Rattle.std.proofs.Common.{◌≡◌, ◌∙◌, ℕ, ◌<◌, Bool, true, false, ◌&&◌, ◌==◌, ◌⊎◌, inl, inr, List, [], ◌∷◌, ◌++◌, length, Some, None, refl, ap, ap₂, sym, arith, append_assoc, append-nil, eqb-true, eq-eqb}
use Rattle.std.proofs.lemmas.Bool.{and_parts}
use Rattle.std.proofs.lemmas.Option.{cond_some, some_pair_parts}
use Rattle.celtokens.specs.declared.text.Style.{Style}
use Rattle.celtokens.proofs.Escapes.{character_shorter}
use Rattle.celtokens.specs.Class.{is_quote, first_quote}
use Rattle.celtokens.specs.Text.{after_three, after_one, after_delimiter, character, Inside, closed, next, IsTextOf, style_of, IsText, HasNoEnd, HasNoTextOf, HasNoText, BestText}

-- t is the front of the string that begins at i, and m is what is left of it
pub record Going (s : Style) (i t m : List ℕ) : Type 0 where
  pub forth : (u r : List ℕ) → Inside s m u r → Inside s i (t ++ u) r
  pub back : (v r : List ℕ) → Inside s i v r → (u : List ℕ) × (v ≡ t ++ u) × Inside s m u r

pub going_start : (s : Style) (i : List ℕ) → Going s i [] i
going_start s i = record { forth = λ u r h. h; back = λ v r h. (v, refl, h) }

next_inside : (s : Style) (m m' : List ℕ) (c : ℕ) (t : List ℕ) (v r : List ℕ) → after_delimiter s m ≡ None → character s m ≡ Some (c, m') → Inside s m v r → (u : List ℕ) × (v ≡ c ∷ u) × Inside s m' u r
next_inside s m m' c t v r none is (closed e) = absurd (let p = sym none ∙ e in cc)
next_inside s m m' c t v r none is (next {m = m''} {t = u} {c = d} e f rest) =
    let parts = some_pair_parts _ _ _ _ (sym f ∙ is) in
    (u, rw parts.0 refl, rw parts.1 at rest)

pub going_next : (s : Style) (i t m m' : List ℕ) (c : ℕ) → Going s i t m → after_delimiter s m ≡ None → character s m ≡ Some (c, m') → Going s i (t ++ c ∷ []) m'
going_next s i t m m' c going none is = record {
  forth = λ u r h. rw append_assoc (going.forth (c ∷ u) r (next none is h));
  back = λ v r h.
      let old = going.back v r h in
      let step = next_inside s m m' c t old.0 r none is old.2 in
      (step.0, rw append_assoc (old.1 ∙ ap (λ l. t ++ l) step.1), step.2);
}

pub going_end : (s : Style) (i t m r : List ℕ) → Going s i t m → after_delimiter s m ≡ Some r → Inside s i t r
going_end s i t m r going e = rw append-nil at (going.forth [] r (closed e))

no_inside : (s : Style) (m v r : List ℕ) → after_delimiter s m ≡ None → character s m ≡ None → Inside s m v r → ⊥
no_inside s m v r none bad (closed e) = absurd (let p = sym none ∙ e in cc)
no_inside s m v r none bad (next e f rest) = absurd (let p = sym bad ∙ f in cc)

pub going_none : (s : Style) (i t m : List ℕ) → Going s i t m → after_delimiter s m ≡ None → character s m ≡ None → HasNoEnd s i
going_none s i t m going none bad v r h = let old = going.back v r h in no_inside s m old.0 r none bad old.2

-- the inside of a string has one end
pub one_end : (s : Style) (i t r u v : List ℕ) → Inside s i t r → Inside s i u v → (u ≡ t) × (v ≡ r)
one_end s i t r u v (closed e) (closed f) = (refl, let p = sym f ∙ e in cc)
one_end s i t r u v (closed e) (next none f rest) = absurd (let p = sym none ∙ e in cc)
one_end s i t r u v (next none f rest) (closed e) = absurd (let p = sym none ∙ e in cc)
one_end s i t r u v (next {m = m} {t = t'} {c = c} none f rest) (next {m = m'} {t = u'} {c = d} none' g other) =
    let parts = some_pair_parts _ _ _ _ (sym g ∙ f) in
    let same = one_end s m t' r u' v rest (rw parts.1 at other) in
    (ap₂ (λ x l. x ∷ l) parts.0 same.0, same.1)

-- a string of a style has one end
one_text_of : (s : Style) (i t r u v : List ℕ) → IsTextOf s i t r → IsTextOf s i u v → (u ≡ t) × (v ≡ r)
one_text_of s i t r u v a b =
    let inner : b.inner ≡ a.inner = let p = sym b.opened ∙ a.opened in cc in
    one_end s a.inner t r u v a.inside (rw inner at b.inside)

after_three_parts : (q : ℕ) (i r : List ℕ) → after_three q i ≡ Some r → i ≡ q ∷ q ∷ q ∷ r
after_three_parts q [] r e = absurd (cc)
after_three_parts q (a ∷ []) r e = absurd (cc)
after_three_parts q (a ∷ b ∷ []) r e = absurd (cc)
after_three_parts q (a ∷ b ∷ c ∷ i) r e =
    let parts = cond_some (a == q && (b == q && c == q)) i r e in
    let first = and_parts (a == q) (b == q && c == q) parts.0 in
    let others = and_parts (b == q) (c == q) first.1 in
    let ea : a ≡ q = eqb-true a q first.0 in
    let eb : b ≡ q = eqb-true b q others.0 in
    let ec : c ≡ q = eqb-true c q others.1 in
    rw (ea, eb, ec, parts.1) refl

after_one_parts : (q : ℕ) (i r : List ℕ) → after_one q i ≡ Some r → i ≡ q ∷ r
after_one_parts q [] r e = absurd (cc)
after_one_parts q (a ∷ i) r e =
    let parts = cond_some (a == q) i r e in
    let ea : a ≡ q = eqb-true a q parts.0 in
    rw (ea, parts.1) refl

after_one_is : (q : ℕ) (r : List ℕ) → after_one q (q ∷ r) ≡ Some r
after_one_is q r = rw (eq-eqb q q refl) refl

-- a closing delimiter and characters take something
after_delimiter_shorter : (s : Style) (b : Bool) → s.tripled ≡ b → (i r : List ℕ) → after_delimiter s i ≡ Some r → length r < length i
after_delimiter_shorter s true e i r h = let p : after_three s.quote i ≡ Some r = rw e at h in omega (arith, ap length (after_three_parts s.quote i r p))
after_delimiter_shorter s false e i r h = let p : after_one s.quote i ≡ Some r = rw e at h in omega (arith, ap length (after_one_parts s.quote i r p))

-- the first character of a string is its quote
first_is : (raw tripled : Bool) (q c : ℕ) (i inner : List ℕ) → after_delimiter (style_of raw tripled q) (c ∷ i) ≡ Some inner → c ≡ q
first_is raw true q c i inner e = let p = after_three_parts q (c ∷ i) inner e in cc
first_is raw false q c i inner e = let p = after_one_parts q (c ∷ i) inner e in cc

-- where three quotes open, the string of one quote is the empty one
single_is_empty : (raw : Bool) (q : ℕ) (r u v : List ℕ) → IsTextOf (style_of raw false q) (q ∷ q ∷ q ∷ r) u v → (u ≡ []) × (v ≡ q ∷ r)
single_is_empty raw q r u v single =
    let opened : after_one q (q ∷ q ∷ q ∷ r) ≡ Some (q ∷ q ∷ r) = after_one_is q (q ∷ q ∷ r) in
    let inner : single.inner ≡ q ∷ q ∷ r = let p = sym single.opened ∙ opened in cc in
    one_end (style_of raw false q) (q ∷ q ∷ r) [] (q ∷ r) u v (closed (after_one_is q (q ∷ r))) (rw inner at single.inside)

inside_shorter : (s : Style) (i t r : List ℕ) → Inside s i t r → length r < length i
inside_shorter s i t r (closed e) = after_delimiter_shorter s s.tripled refl i r e
inside_shorter s i t r (next {m = m} {t = u} {c = c} none is rest) =
    let first = character_shorter s i c m is in
    let others = inside_shorter s m u r rest in
    omega arith

tripled_others : (raw tripled : Bool) (q c : ℕ) (i t r : List ℕ) → IsTextOf (style_of raw true q) (c ∷ i) t r → (p : ℕ) (u v : List ℕ) → IsTextOf (style_of raw tripled p) (c ∷ i) u v → (length r < length v) ⊎ ((u ≡ t) × (v ≡ r))
tripled_others raw true q c i t r found p u v other =
    let same : p ≡ q = sym (first_is raw true p c i other.inner other.opened) ∙ first_is raw true q c i found.inner found.opened in
    inr (one_text_of (style_of raw true q) (c ∷ i) t r u v found (rw same at other))
tripled_others raw false q c i t r found p u v other =
    let same : p ≡ q = sym (first_is raw false p c i other.inner other.opened) ∙ first_is raw true q c i found.inner found.opened in
    let whole : ◌≡◌ {A = List ℕ} (c ∷ i) (q ∷ q ∷ q ∷ found.inner) = after_three_parts q (c ∷ i) found.inner found.opened in
    let single : IsTextOf (style_of raw false q) (q ∷ q ∷ q ∷ found.inner) u v = rw (same, whole) at other in
    let empty = single_is_empty raw q found.inner u v single in
    let shorter = inside_shorter (style_of raw true q) found.inner t r found.inside in
    inl (omega (arith, ap length empty.1))

single_others : (raw tripled : Bool) (q c : ℕ) (i t r : List ℕ) → HasNoTextOf (style_of raw true q) (c ∷ i) → IsTextOf (style_of raw false q) (c ∷ i) t r → (p : ℕ) (u v : List ℕ) → IsTextOf (style_of raw tripled p) (c ∷ i) u v → (length r < length v) ⊎ ((u ≡ t) × (v ≡ r))
single_others raw true q c i t r none found p u v other =
    let same : p ≡ q = sym (first_is raw true p c i other.inner other.opened) ∙ first_is raw false q c i found.inner found.opened in
    absurd (none u v (rw same at other))
single_others raw false q c i t r none found p u v other =
    let same : p ≡ q = sym (first_is raw false p c i other.inner other.opened) ∙ first_is raw false q c i found.inner found.opened in
    inr (one_text_of (style_of raw false q) (c ∷ i) t r u v found (rw same at other))

no_text_of : (raw tripled : Bool) (q c : ℕ) (i u v : List ℕ) → HasNoTextOf (style_of raw true c) (c ∷ i) → HasNoTextOf (style_of raw false c) (c ∷ i) → IsTextOf (style_of raw tripled q) (c ∷ i) u v → ⊥
no_text_of raw true q c i u v tripled single other = let same : q ≡ c = sym (first_is raw true q c i other.inner other.opened) in tripled u v (rw same at other)
no_text_of raw false q c i u v tripled single other = let same : q ≡ c = sym (first_is raw false q c i other.inner other.opened) in single u v (rw same at other)

first_quote_parts : (l : List ℕ) (q : ℕ) → first_quote l ≡ Some q → (i : List ℕ) × (l ≡ q ∷ i) × (is_quote q ≡ true)
first_quote_parts [] q e = absurd (cc)
first_quote_parts (c ∷ i) q e = let parts = cond_some (is_quote c) c q e in (i, ap (λ x. x ∷ i) parts.1, rw (← parts.1) parts.0)

module _ (raw : Bool) (l : List ℕ) (q : ℕ) (first : first_quote l ≡ Some q) where
  pub tripled_best : (t r : List ℕ) → IsTextOf (style_of raw true q) l t r → BestText raw l t r
  tripled_best t r found =
      let parts = first_quote_parts l q first in
      record {
        text = record { tripled = true; quote = q; is = parts.2; of = found };
        others = λ u v other. tripled_others raw other.tripled q q parts.0 t r (rw parts.1 at found) other.quote u v (rw parts.1 at other.of);
      }

  pub single_best : (t r : List ℕ) → HasNoTextOf (style_of raw true q) l → IsTextOf (style_of raw false q) l t r → BestText raw l t r
  single_best t r none found =
      let parts = first_quote_parts l q first in
      record {
        text = record { tripled = false; quote = q; is = parts.2; of = found };
        others = λ u v other. single_others raw other.tripled q q parts.0 t r (rw parts.1 at none) (rw parts.1 at found) other.quote u v (rw parts.1 at other.of);
      }

  pub no_text : HasNoTextOf (style_of raw true q) l → HasNoTextOf (style_of raw false q) l → HasNoText raw l
  no_text tripled single u v other =
      let parts = first_quote_parts l q first in
      no_text_of raw other.tripled other.quote q parts.0 u v (rw parts.1 at tripled) (rw parts.1 at single) (rw parts.1 at other.of)

no_quote_at : (raw tripled : Bool) (q : ℕ) (l u v : List ℕ) → first_quote l ≡ None → is_quote q ≡ true → IsTextOf (style_of raw tripled q) l u v → ⊥
no_quote_at raw true q [] u v none is other = let p = other.opened in cc
no_quote_at raw false q [] u v none is other = let p = other.opened in cc
no_quote_at raw tripled q (c ∷ i) u v none is other =
    let same : c ≡ q = first_is raw tripled q c i other.inner other.opened in
    let p = rw (same, is) at none in cc

pub no_quote : (raw : Bool) (l : List ℕ) → first_quote l ≡ None → HasNoText raw l
no_quote raw l none u v other = no_quote_at raw other.tripled other.quote l u v none other.is other.of

pub text_shorter : (raw : Bool) (i t r : List ℕ) → IsText raw i t r → length r < length i
text_shorter raw i t r text =
    let style = style_of raw text.tripled text.quote in
    let opened = after_delimiter_shorter style text.tripled refl i text.of.inner text.of.opened in
    let inside = inside_shorter style text.of.inner t r text.of.inside in
    omega (arith, opened, inside)

text_first_at : (raw tripled : Bool) (q : ℕ) (i inner : List ℕ) → is_quote q ≡ true → after_delimiter (style_of raw tripled q) i ≡ Some inner → (c : ℕ) × (j : List ℕ) × (i ≡ c ∷ j) × (is_quote c ≡ true)
text_first_at raw true q i inner is e = (q, q ∷ q ∷ inner, after_three_parts q i inner e, is)
text_first_at raw false q i inner is e = (q, inner, after_one_parts q i inner e, is)

-- a string begins with a quote
pub text_first : (raw : Bool) (i t r : List ℕ) → IsText raw i t r → (c : ℕ) × (j : List ℕ) × (i ≡ c ∷ j) × (is_quote c ≡ true)
text_first raw i t r text = text_first_at raw text.tripled text.quote i text.of.inner text.is text.of.opened
