-- What may follow a tree.
use Rattle.std.proofs.Common.{◌≡◌, ◌∙◌, ℕ, suc, false, ◌||◌, inl, inr, Option, Some, None, List, [], ◌∷◌, refl, ap, arith, ltb-false, le-ltb}
use Rattle.std.specs.Prelude.{nat_lt}
use Rattle.std.proofs.lemmas.Bool.{or_parts, or_from, cases_eq}
use Rattle.celtokens.specs.declared.sign.Sign.TheVariants as sign
use Rattle.celtokens.specs.Terminal.{Terminal}
use Rattle.celtokens.specs.Terminal as token
use Rattle.celtree.specs.declared.tree.Operator.{Operator}
use Rattle.celtree.specs.declared.tree.Prefix.{Prefix}
use Rattle.celtokens.specs.Operators.{infix_of}
use Rattle.celread.specs.Grammar.{Primary, Member, Whole, Prefixed, Height}
use Rattle.celread.specs.Ends.{is_open, is_suffix, is_question, is_below, Ends}
use Rattle.celtokens.specs.Ahead.{IsNotNext, HasNoOperator}

is_below_down : (h : ℕ) (o : Option (ℕ × Operator)) → is_below (suc h) o ≡ false → is_below h o ≡ false
is_below_down h None e = refl
is_below_down h (Some x) e = let le = ltb-false x.0 (suc h) e in le-ltb x.0 h (omega arith)

is_below_zero : (o : Option (ℕ × Operator)) → is_below 0 o ≡ false
is_below_zero None = refl
is_below_zero (Some x) = le-ltb x.0 0 (omega arith)

pub ends_member : (h : ℕ) (r : List Terminal) → Ends (Height h) r → Ends Member r
ends_member h [] e = tt
ends_member h (w ∷ r) e = (or_parts (is_suffix w) (is_below h (infix_of w)) e).0

pub ends_zero : (r : List Terminal) → Ends Member r → Ends (Height 0) r
ends_zero [] e = tt
ends_zero (w ∷ r) e = or_from (is_suffix w) (is_below 0 (infix_of w)) e (is_below_zero (infix_of w))

pub member_prefixed : (p : Prefix) (r : List Terminal) → Ends Member r → Ends (Prefixed p) r
member_prefixed p [] e = tt
member_prefixed p (w ∷ r) e = e

pub prefixed_member : (p : Prefix) (r : List Terminal) → Ends (Prefixed p) r → Ends Member r
prefixed_member p [] e = tt
prefixed_member p (w ∷ r) e = e

pub ends_down : (h : ℕ) (r : List Terminal) → Ends (Height (suc h)) r → Ends (Height h) r
ends_down h [] e = tt
ends_down h (w ∷ r) e =
    let p = or_parts (is_suffix w) (is_below (suc h) (infix_of w)) e in
    or_from (is_suffix w) (is_below h (infix_of w)) p.0 (is_below_down h (infix_of w) p.1)

infix_not_suffix : (w : Terminal) (x : ℕ × Operator) → infix_of w ≡ Some x → is_suffix w ≡ false
infix_not_suffix (token.Mark sign.Dot) x e = absurd (cc)
infix_not_suffix (token.Mark sign.OpenParenthesis) x e = absurd (cc)
infix_not_suffix (token.Mark sign.OpenBracket) x e = absurd (cc)
infix_not_suffix w x e = refl

-- an operator is no part of its operands
pub ends_at_operator : (h : ℕ) (w : Terminal) (o : Operator) (m : List Terminal) → infix_of w ≡ Some (h, o) → Ends (Height h) (w ∷ m)
ends_at_operator h w o m e = or_from (is_suffix w) (is_below h (infix_of w)) (infix_not_suffix w (h, o) e) (rw e (le-ltb h h (omega arith)))

-- and goes on where its chain stands
pub goes_on : (h : ℕ) (w : Terminal) (o : Operator) (m : List Terminal) → infix_of w ≡ Some (h, o) → Ends (Height (suc h)) (w ∷ m) → ⊥
goes_on h w o m e ends =
    let p = or_parts (is_suffix w) (is_below (suc h) (infix_of w)) ends in
    let q : nat_lt h (suc h) ≡ false = rw e at p.1 in
    let le = ltb-false h (suc h) q in
    omega arith

is_below_up : (h : ℕ) (w : Terminal) (r : List Terminal) (o : Option (ℕ × Operator)) → infix_of w ≡ o → is_below h o ≡ false → HasNoOperator h (w ∷ r) → is_below (suc h) o ≡ false
is_below_up h w r None e f none = refl
is_below_up h w r (Some x) e f none =
    let le = ltb-false x.0 h f in
    elim (cases_eq x.0 h) [
      | inl same ↦ absurd (none w r x.1 refl (e ∙ ap (λ k. Some (k, x.1)) same))
      | inr other ↦ le-ltb x.0 (suc h) (omega arith)
    ]

pub ends_up : (h : ℕ) (r : List Terminal) → Ends (Height h) r → HasNoOperator h r → Ends (Height (suc h)) r
ends_up h [] e none = tt
ends_up h (w ∷ r) e none =
    let p = or_parts (is_suffix w) (is_below h (infix_of w)) e in
    or_from (is_suffix w) (is_below (suc h) (infix_of w)) p.0 (is_below_up h w r (infix_of w) refl p.1 none)

not_suffix_not_open : (w : Terminal) → is_suffix w ≡ false → is_open w ≡ false
not_suffix_not_open (token.Mark sign.OpenParenthesis) e = absurd (cc)
not_suffix_not_open w e = refl

pub ends_primary : (r : List Terminal) → Ends Member r → Ends Primary r
ends_primary [] e = tt
ends_primary (w ∷ r) e = not_suffix_not_open w e

pub not_open_primary : (r : List Terminal) → IsNotNext sign.OpenParenthesis r → Ends Primary r
not_open_primary [] none = tt
not_open_primary (token.Mark sign.OpenParenthesis ∷ r) none = absurd (none r refl)
not_open_primary (w ∷ r) none = refl

-- no suffix follows
pub no_suffix_next : (r : List Terminal) → IsNotNext sign.Dot r → IsNotNext sign.OpenBracket r → IsNotNext sign.OpenParenthesis r → Ends Member r
no_suffix_next [] dot bracket open_one = tt
no_suffix_next (token.Mark sign.Dot ∷ r) dot bracket open_one = absurd (dot r refl)
no_suffix_next (token.Mark sign.OpenBracket ∷ r) dot bracket open_one = absurd (bracket r refl)
no_suffix_next (token.Mark sign.OpenParenthesis ∷ r) dot bracket open_one = absurd (open_one r refl)
no_suffix_next (w ∷ r) dot bracket open_one = refl

not_question : (w : Terminal) (r : List Terminal) → IsNotNext sign.Question (w ∷ r) → is_question w ≡ false
not_question (token.Mark sign.Question) r none = absurd (none r refl)
not_question w r none = refl

pub ends_whole : (r : List Terminal) → Ends (Height 5) r → IsNotNext sign.Question r → Ends Whole r
ends_whole [] e none = tt
ends_whole (w ∷ r) e none = or_from (is_suffix w || is_below 5 (infix_of w)) (is_question w) e (not_question w r none)

pub whole_ends : (r : List Terminal) → Ends Whole r → Ends (Height 5) r
whole_ends [] e = tt
whole_ends (w ∷ r) e = (or_parts (is_suffix w || is_below 5 (infix_of w)) (is_question w) e).0
