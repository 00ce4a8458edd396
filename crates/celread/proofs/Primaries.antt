-- Primary expressions.
use Rattle.std.proofs.Common.{◌≡◌, ◌∙◌, ℕ, Some, None, List, ◌∷◌, sym, refl, ap, encode_utf8_all}
use Rattle.std.proofs.lemmas.Option.{same_Some}
use Rattle.celtokens.specs.declared.sign.Sign.TheVariants as sign
use Rattle.celtokens.specs.Terminal.{Terminal}
use Rattle.celtokens.specs.Terminal as token
use Rattle.celtokens.specs.declared.closing.Closing.TheVariants as closing
use Rattle.celtree.specs.Tree.{Expr, Exprs, Pairs, Name, Sequence, Mapping}
use Rattle.celtree.specs.Calls.{call_of}
use Rattle.celtokens.specs.Literal.{Literal, one_token, negative_int}
use Rattle.celread.specs.Grammar.{Primary, Whole, Spells, literal, name, call, brackets, list, map, Items}
use Rattle.celread.specs.Ends.{Ends, Read, HasNoTreeBefore, ReadPrimary, HasNoPrimary, ReadComposite, HasNoComposite, ReadItems, HasNoItems, ReadEntries, HasNoEntries}
use Rattle.celtokens.specs.Ahead.{IsNotNext, HasNoName, HasNoLiteral}

-- there is one literal in front
one_literal : (i : List Terminal) (t u : Expr) (r s : List Terminal) → Literal i t r → Literal i u s → (u ≡ t) × (s ≡ r)
one_literal i t u r s (one_token e) (one_token f) = (same_Some u t (sym f ∙ e), refl)
one_literal i t u r s (one_token e) (negative_int le) = absurd (cc)
one_literal i t u r s (negative_int le) (one_token f) = absurd (cc)
one_literal i t u r s (negative_int le) (negative_int other) = (refl, refl)

literal_only : (i : List Terminal) (t : Expr) (r : List Terminal) → Literal i t r → (u : Expr) (s : List Terminal) → Spells Primary i u s → (u ≡ t) × (s ≡ r)
literal_only i t r h u s (literal other) = one_literal i t u r s h other
literal_only i t r (one_token e) u s name = absurd (cc)
literal_only i t r (one_token e) u s (call arguments is) = absurd (cc)
literal_only i t r (one_token e) u s (brackets d) = absurd (cc)
literal_only i t r (one_token e) u s (list items) = absurd (cc)
literal_only i t r (one_token e) u s (map es) = absurd (cc)

pub primary_literal : (i : List Terminal) (t : Expr) (r : List Terminal) → Literal i t r → ReadPrimary i t r
primary_literal i t r h = record { spelled = literal h; only = λ u s d ends. literal_only i t r h u s d }

pub primary_composite : (i : List Terminal) (t : Expr) (r : List Terminal) → HasNoLiteral i → ReadComposite i t r → ReadPrimary i t r
primary_composite i t r none read = record { spelled = read.spelled; only = λ u s d ends. read.only u s d ends (none u s) }

pub primary_none : (i : List Terminal) → HasNoLiteral i → HasNoComposite i → HasNoPrimary i
primary_none i none no_composite u s d ends = no_composite u s d ends (none u s)

name_only : (x : List ℕ) (r : List Terminal) → IsNotNext sign.OpenParenthesis r → (u : Expr) (s : List Terminal) → Spells Primary (token.Ident x ∷ r) u s → (Literal (token.Ident x ∷ r) u s → ⊥) → (u ≡ Name (encode_utf8_all x)) × (s ≡ r)
name_only x r none u s (literal h) no_literal = absurd (no_literal h)
name_only x r none u s name no_literal = (refl, refl)
name_only x r none u s (call {i = k} arguments is) no_literal = absurd (none k refl)

pub composite_name : (i : List Terminal) (x : List ℕ) (r : List Terminal) → i ≡ token.Ident x ∷ r → IsNotNext sign.OpenParenthesis r → ReadComposite i (Name (encode_utf8_all x)) r
composite_name i x r place none = rw place (record { spelled = name; only = λ u s d ends no_literal. name_only x r none u s d no_literal })

module _ (x : List ℕ) (n : List Terminal) where
  call_only : (ts : Exprs) (t : Expr) (r : List Terminal) → ReadItems closing.Parenthesis n ts r → call_of (encode_utf8_all x) ts ≡ Some t
      → (u : Expr) (s : List Terminal) → Spells Primary (token.Ident x ∷ token.Mark sign.OpenParenthesis ∷ n) u s → Ends Primary s → (Literal (token.Ident x ∷ token.Mark sign.OpenParenthesis ∷ n) u s → ⊥) → (u ≡ t) × (s ≡ r)
  call_only ts t r read is u s (literal h) ends no_literal = absurd (no_literal h)
  call_only ts t r read is u s name ends no_literal = absurd (cc)
  call_only ts t r read is u s (call {ts = us} arguments other) ends no_literal =
      let same = read.only us s arguments in
      let tree : call_of (encode_utf8_all x) ts ≡ Some u = rw same.0 at other in
      (same_Some u t (sym tree ∙ is), same.1)

  no_call : ((us : Exprs) (u : Expr) (s : List Terminal) → Items closing.Parenthesis n us s → call_of (encode_utf8_all x) us ≡ Some u → ⊥) → HasNoComposite (token.Ident x ∷ token.Mark sign.OpenParenthesis ∷ n)
  no_call none u s (literal h) ends no_literal = no_literal h
  no_call none u s name ends no_literal = cc
  no_call none u s (call {ts = us} arguments other) ends no_literal = none us u s arguments other

  module _ (i : List Terminal) (place : i ≡ token.Ident x ∷ token.Mark sign.OpenParenthesis ∷ n) where
    pub composite_call : (ts : Exprs) (t : Expr) (r : List Terminal) → ReadItems closing.Parenthesis n ts r → call_of (encode_utf8_all x) ts ≡ Some t → ReadComposite i t r
    composite_call ts t r read is = rw place (record { spelled = call read.spelled is; only = call_only ts t r read is })

    pub composite_no_arguments : HasNoItems closing.Parenthesis n → HasNoComposite i
    composite_no_arguments none = rw place (no_call (λ us u s arguments other. none us s arguments))

    pub composite_no_call : (ts : Exprs) (r : List Terminal) → ReadItems closing.Parenthesis n ts r → call_of (encode_utf8_all x) ts ≡ None → HasNoComposite i
    composite_no_call ts r read none =
        rw place (no_call (λ us u s arguments other. let same = read.only us s arguments in let p = sym none ∙ (rw same.0 at other) in cc))

module _ (n : List Terminal) where
  brackets_only : (t : Expr) (r : List Terminal) → Read Whole n t (token.Mark sign.CloseParenthesis ∷ r) → (u : Expr) (s : List Terminal) → Spells Primary (token.Mark sign.OpenParenthesis ∷ n) u s
      → (Literal (token.Mark sign.OpenParenthesis ∷ n) u s → ⊥) → (u ≡ t) × (s ≡ r)
  brackets_only t r read u s (literal h) no_literal = absurd (no_literal h)
  brackets_only t r read u s (brackets d) no_literal =
      let same = read.only u (token.Mark sign.CloseParenthesis ∷ s) d refl in
      (same.0, let p = same.1 in cc)

  no_brackets : ((u : Expr) (s : List Terminal) → Spells Whole n u (token.Mark sign.CloseParenthesis ∷ s) → ⊥) → HasNoComposite (token.Mark sign.OpenParenthesis ∷ n)
  no_brackets none u s (literal h) ends no_literal = no_literal h
  no_brackets none u s (brackets d) ends no_literal = none u s d

  module _ (i : List Terminal) (place : i ≡ token.Mark sign.OpenParenthesis ∷ n) where
    pub composite_brackets : (t : Expr) (r : List Terminal) → Read Whole n t (token.Mark sign.CloseParenthesis ∷ r) → ReadComposite i t r
    composite_brackets t r read = rw place (record { spelled = brackets read.spelled; only = λ u s d ends no_literal. brackets_only t r read u s d no_literal })

    pub composite_no_inner : HasNoTreeBefore sign.CloseParenthesis n → HasNoComposite i
    composite_no_inner none = rw place (no_brackets (λ u s d. none u s d refl))

  list_only : (ts : Exprs) (r : List Terminal) → ReadItems closing.Bracket n ts r → (u : Expr) (s : List Terminal) → Spells Primary (token.Mark sign.OpenBracket ∷ n) u s → (Literal (token.Mark sign.OpenBracket ∷ n) u s → ⊥) → (u ≡ Sequence ts) × (s ≡ r)
  list_only ts r read u s (literal h) no_literal = absurd (no_literal h)
  list_only ts r read u s (list {ts = us} d) no_literal = let same = read.only us s d in (ap Sequence same.0, same.1)

  no_list : HasNoItems closing.Bracket n → HasNoComposite (token.Mark sign.OpenBracket ∷ n)
  no_list none u s (literal h) ends no_literal = no_literal h
  no_list none u s (list {ts = us} d) ends no_literal = none us s d

  pub composite_list : (i : List Terminal) → i ≡ token.Mark sign.OpenBracket ∷ n → (ts : Exprs) (r : List Terminal) → ReadItems closing.Bracket n ts r → ReadComposite i (Sequence ts) r
  composite_list i place ts r read = rw place (record { spelled = list read.spelled; only = λ u s d ends no_literal. list_only ts r read u s d no_literal })

  pub composite_no_list : (i : List Terminal) → i ≡ token.Mark sign.OpenBracket ∷ n → HasNoItems closing.Bracket n → HasNoComposite i
  composite_no_list i place none = rw place (no_list none)

  map_only : (ps : Pairs) (r : List Terminal) → ReadEntries n ps r → (u : Expr) (s : List Terminal) → Spells Primary (token.Mark sign.OpenBrace ∷ n) u s → (Literal (token.Mark sign.OpenBrace ∷ n) u s → ⊥) → (u ≡ Mapping ps) × (s ≡ r)
  map_only ps r read u s (literal h) no_literal = absurd (no_literal h)
  map_only ps r read u s (map {ps = qs} d) no_literal = let same = read.only qs s d in (ap Mapping same.0, same.1)

  no_map : HasNoEntries n → HasNoComposite (token.Mark sign.OpenBrace ∷ n)
  no_map none u s (literal h) ends no_literal = no_literal h
  no_map none u s (map {ps = qs} d) ends no_literal = none qs s d

  pub composite_map : (i : List Terminal) → i ≡ token.Mark sign.OpenBrace ∷ n → (ps : Pairs) (r : List Terminal) → ReadEntries n ps r → ReadComposite i (Mapping ps) r
  composite_map i place ps r read = rw place (record { spelled = map read.spelled; only = λ u s d ends no_literal. map_only ps r read u s d no_literal })

  pub composite_no_map : (i : List Terminal) → i ≡ token.Mark sign.OpenBrace ∷ n → HasNoEntries n → HasNoComposite i
  composite_no_map i place none = rw place (no_map none)

pub composite_nothing : (i : List Terminal) → HasNoName i → IsNotNext sign.OpenParenthesis i → IsNotNext sign.OpenBracket i → IsNotNext sign.OpenBrace i → HasNoComposite i
composite_nothing i no_name parenthesis bracket brace u s (literal h) ends no_literal = no_literal h
composite_nothing i no_name parenthesis bracket brace u s (name {x = x} {r = r}) ends no_literal = no_name x r refl
composite_nothing i no_name parenthesis bracket brace u s (call {x = x} {i = k} arguments is) ends no_literal = no_name x (token.Mark sign.OpenParenthesis ∷ k) refl
composite_nothing i no_name parenthesis bracket brace u s (brackets {i = k} d) ends no_literal = parenthesis k refl
composite_nothing i no_name parenthesis bracket brace u s (list {i = k} d) ends no_literal = bracket k refl
composite_nothing i no_name parenthesis bracket brace u s (map {i = k} d) ends no_literal = brace k refl
