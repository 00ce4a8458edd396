-- Prefix operators.
use Rattle.std.proofs.Common.{◌≡◌, ◌∙◌, Some, None, List, ◌∷◌, sym, refl}
use Rattle.std.proofs.lemmas.Option.{same_Some}
use Rattle.celtokens.specs.declared.sign.Sign.TheVariants as sign
use Rattle.celtokens.specs.Terminal.{Terminal}
use Rattle.celtokens.specs.Terminal as token
use Rattle.celtree.specs.declared.tree.Prefix.{Prefix}
use Rattle.celtree.specs.declared.tree.Prefix.TheVariants as prefix_of
use Rattle.celtree.specs.Tree.{Expr, Unary}
use Rattle.celtokens.specs.Operators.{after_prefix}
use Rattle.celtokens.specs.Literal.{literal_of, one_token, negative_int}
use Rattle.celread.specs.Grammar.{Primary, Member, Prefixed, Height, Spells, literal, name, call, brackets, list, map, member, plain, prefixed, bare, again}
use Rattle.celread.specs.Ends.{Ends, Read, HasNoTree}
use Rattle.celtokens.specs.Ahead.{HasNoPrefix}
use Rattle.celread.proofs.Ending.{ends_member, ends_zero, member_prefixed, prefixed_member}

literal_no_prefix : (p : Prefix) (w : Terminal) (r m : List Terminal) (t : Expr) → after_prefix p (w ∷ r) ≡ Some m → literal_of w ≡ Some t → ⊥
literal_no_prefix p (token.Mark s) r m t e f = cc
literal_no_prefix prefix_of.Not w r m t e f = cc
literal_no_prefix prefix_of.Negate w r m t e f = cc

primary_no_prefix : (p : Prefix) {i m r : List Terminal} {t : Expr} → after_prefix p i ≡ Some m → Spells Primary i t r → ⊥
primary_no_prefix p {m = m} {t = t} e (literal (one_token {w = w} {r = r} f)) = literal_no_prefix p w r m t e f
primary_no_prefix prefix_of.Not e (literal (negative_int le)) = cc
primary_no_prefix prefix_of.Negate e (literal (negative_int le)) = cc
primary_no_prefix prefix_of.Not e name = cc
primary_no_prefix prefix_of.Negate e name = cc
primary_no_prefix prefix_of.Not e (call items is) = cc
primary_no_prefix prefix_of.Negate e (call items is) = cc
primary_no_prefix prefix_of.Not e (brackets d) = cc
primary_no_prefix prefix_of.Negate e (brackets d) = cc
primary_no_prefix prefix_of.Not e (list items) = cc
primary_no_prefix prefix_of.Negate e (list items) = cc
primary_no_prefix prefix_of.Not e (map es) = cc
primary_no_prefix prefix_of.Negate e (map es) = cc

member_no_prefix : (p : Prefix) {i m r : List Terminal} {t : Expr} → after_prefix p i ≡ Some m → Spells Member i t r → ⊥
member_no_prefix p e (member first suffixes) = primary_no_prefix p e first

-- one prefix operator stands in front
one_prefix : (p q : Prefix) (i m n : List Terminal) → after_prefix p i ≡ Some m → after_prefix q i ≡ Some n → (q ≡ p) × (n ≡ m)
one_prefix prefix_of.Not prefix_of.Not i m n e f = (refl, same_Some n m (sym f ∙ e))
one_prefix prefix_of.Negate prefix_of.Negate i m n e f = (refl, same_Some n m (sym f ∙ e))
one_prefix prefix_of.Not prefix_of.Negate (token.Mark sign.Bang ∷ i) m n e f = absurd (cc)
one_prefix prefix_of.Not prefix_of.Negate i m n e f = absurd (cc)
one_prefix prefix_of.Negate prefix_of.Not (token.Mark sign.Bang ∷ i) m n e f = absurd (cc)
one_prefix prefix_of.Negate prefix_of.Not i m n e f = absurd (cc)

no_prefix : (p : Prefix) (i m : List Terminal) → HasNoPrefix i → after_prefix p i ≡ Some m → ⊥
no_prefix prefix_of.Not i m none e = let q = sym none.0 ∙ e in cc
no_prefix prefix_of.Negate i m none e = let q = sym none.1 ∙ e in cc

plain_only : (i : List Terminal) (t : Expr) (r : List Terminal) → HasNoPrefix i → Read Member i t r → (u : Expr) (s : List Terminal) → Spells (Height 0) i u s → Ends (Height 0) s → (u ≡ t) × (s ≡ r)
plain_only i t r none read u s (plain d) ends = read.only u s d (ends_member 0 s ends)
plain_only i t r none read u s (prefixed {p = p} {m = m} e d) ends = absurd (no_prefix p i m none e)

pub unary_plain : (i : List Terminal) (t : Expr) (r : List Terminal) → HasNoPrefix i → Read Member i t r → Read (Height 0) i t r
unary_plain i t r none read = record { spelled = plain read.spelled; ends = ends_zero r read.ends; only = plain_only i t r none read }

pub unary_plain_none : (i : List Terminal) → HasNoPrefix i → HasNoTree Member i → HasNoTree (Height 0) i
unary_plain_none i none no_member u s (plain d) ends = no_member u s d (ends_member 0 s ends)
unary_plain_none i none no_member u s (prefixed {p = p} {m = m} e d) ends = no_prefix p i m none e

module _ (p : Prefix) (i m : List Terminal) (is : after_prefix p i ≡ Some m) where
  unary_only : (t : Expr) (r : List Terminal) → Read (Prefixed p) m t r → (u : Expr) (s : List Terminal) → Spells (Height 0) i u s → Ends (Height 0) s → (u ≡ Unary p t) × (s ≡ r)
  unary_only t r read u s (plain d) ends = absurd (member_no_prefix p is d)
  unary_only t r read u s (prefixed {p = q} {m = n} {t = v} e d) ends =
      let one = one_prefix p q i m n is e in
      let same = read.only v s (rw (one.0, one.1) at d) (member_prefixed p s (ends_member 0 s ends)) in
      (rw (one.0, same.0) refl, same.1)

  pub unary_prefixed : (t : Expr) (r : List Terminal) → Read (Prefixed p) m t r → Read (Height 0) i (Unary p t) r
  unary_prefixed t r read = record { spelled = prefixed is read.spelled; ends = ends_zero r (prefixed_member p r read.ends); only = unary_only t r read }

  pub unary_prefixed_none : HasNoTree (Prefixed p) m → HasNoTree (Height 0) i
  unary_prefixed_none none u s (plain d) ends = member_no_prefix p is d
  unary_prefixed_none none u s (prefixed {p = q} {m = n} {t = v} e d) ends =
      let one = one_prefix p q i m n is e in
      none v s (rw (one.0, one.1) at d) (member_prefixed p s (ends_member 0 s ends))

  again_only : (t : Expr) (r : List Terminal) → Read (Prefixed p) m t r → (u : Expr) (s : List Terminal) → Spells (Prefixed p) i u s → Ends (Prefixed p) s → (u ≡ Unary p t) × (s ≡ r)
  again_only t r read u s (bare d) ends = absurd (member_no_prefix p is d)
  again_only t r read u s (again {m = n} {t = v} e d) ends =
      let one : n ≡ m = same_Some n m (sym e ∙ is) in
      let same = read.only v s (rw one at d) ends in
      (rw same.0 refl, same.1)

  pub prefixed_again : (t : Expr) (r : List Terminal) → Read (Prefixed p) m t r → Read (Prefixed p) i (Unary p t) r
  prefixed_again t r read = record { spelled = again is read.spelled; ends = read.ends; only = again_only t r read }

  pub prefixed_again_none : HasNoTree (Prefixed p) m → HasNoTree (Prefixed p) i
  prefixed_again_none none u s (bare d) ends = member_no_prefix p is d
  prefixed_again_none none u s (again {m = n} {t = v} e d) ends = let one : n ≡ m = same_Some n m (sym e ∙ is) in none v s (rw one at d) ends

bare_only : (p : Prefix) (i : List Terminal) (t : Expr) (r : List Terminal) → after_prefix p i ≡ None → Read Member i t r → (u : Expr) (s : List Terminal) → Spells (Prefixed p) i u s → Ends (Prefixed p) s → (u ≡ t) × (s ≡ r)
bare_only p i t r none read u s (bare d) ends = read.only u s d (prefixed_member p s ends)
bare_only p i t r none read u s (again e d) ends = absurd (let q = sym none ∙ e in cc)

pub prefixed_bare : (p : Prefix) (i : List Terminal) (t : Expr) (r : List Terminal) → after_prefix p i ≡ None → Read Member i t r → Read (Prefixed p) i t r
prefixed_bare p i t r none read = record { spelled = bare read.spelled; ends = member_prefixed p r read.ends; only = bare_only p i t r none read }

pub prefixed_bare_none : (p : Prefix) (i : List Terminal) → after_prefix p i ≡ None → HasNoTree Member i → HasNoTree (Prefixed p) i
prefixed_bare_none p i none no_member u s (bare d) ends = no_member u s d (prefixed_member p s ends)
prefixed_bare_none p i none no_member u s (again e d) ends = let q = sym none ∙ e in cc
