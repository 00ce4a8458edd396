-- Expressions: a chain, or a condition and its two branches.
use Rattle.std.proofs.Common.{◌≡◌, ◌∙◌, List, ◌∷◌, sym, refl, ap}
use Rattle.celtokens.specs.declared.sign.Sign.{Sign}
use Rattle.celtokens.specs.declared.sign.Sign.TheVariants as sign
use Rattle.celtokens.specs.Terminal.{Terminal}
use Rattle.celtokens.specs.Terminal as token
use Rattle.celtree.specs.Tree.{Expr, Conditional}
use Rattle.celread.specs.Grammar.{Whole, Height, Spells, simple, conditional}
use Rattle.celread.specs.Ends.{Ends, Read, HasNoTree, HasNoTreeBefore}
use Rattle.celtokens.specs.Ahead.{IsNotNext}
use Rattle.celread.proofs.Ending.{ends_whole, whole_ends}

simple_only : (i : List Terminal) (t : Expr) (r : List Terminal) → Read (Height 5) i t r → IsNotNext sign.Question r → (u : Expr) (s : List Terminal) → Spells Whole i u s → Ends Whole s → (u ≡ t) × (s ≡ r)
simple_only i t r read none u s (simple d) ends = read.only u s d (whole_ends s ends)
simple_only i t r read none u s (conditional {m = m} {c = c} d a b) ends = absurd (none m (sym (read.only c (token.Mark sign.Question ∷ m) d refl).1))

pub whole_simple : (i : List Terminal) (t : Expr) (r : List Terminal) → Read (Height 5) i t r → IsNotNext sign.Question r → Read Whole i t r
whole_simple i t r read none = record { spelled = simple read.spelled; ends = ends_whole r read.ends none; only = simple_only i t r read none }

pub whole_none : (i : List Terminal) → HasNoTree (Height 5) i → HasNoTree Whole i
whole_none i none u s (simple d) ends = none u s d (whole_ends s ends)
whole_none i none u s (conditional {m = m} {c = c} d a b) ends = none c (token.Mark sign.Question ∷ m) d refl

-- what a tree of i is, where a question mark follows the condition
pub record Branches (i : List Terminal) (c : Expr) (m : List Terminal) : Type 0 where
  pub forth : (a b : Expr) (n r : List Terminal) → Spells (Height 5) m a (token.Mark sign.Colon ∷ n) → Spells Whole n b r → Spells Whole i (Conditional c a b) r
  pub back : (u : Expr) (s : List Terminal) → Spells Whole i u s → Ends Whole s
      → (a : Expr) × (b : Expr) × (n : List Terminal) × (u ≡ Conditional c a b) × Spells (Height 5) m a (token.Mark sign.Colon ∷ n) × Spells Whole n b s

branches_back : (i : List Terminal) (c : Expr) (m : List Terminal) → Read (Height 5) i c (token.Mark sign.Question ∷ m) → (u : Expr) (s : List Terminal) → Spells Whole i u s → Ends Whole s
    → (a : Expr) × (b : Expr) × (n : List Terminal) × (u ≡ Conditional c a b) × Spells (Height 5) m a (token.Mark sign.Colon ∷ n) × Spells Whole n b s
branches_back i c m read u s (simple d) ends =
    let rest : s ≡ token.Mark sign.Question ∷ m = (read.only u s d (whole_ends s ends)).1 in
    absurd (let p = rw rest at ends in cc)
branches_back i c m read u s (conditional {m = k} {n = n} {c = e} {a = a} {b = b} d first second) ends =
    let same = read.only e (token.Mark sign.Question ∷ k) d refl in
    let rest : k ≡ m = (let p = same.1 in cc) in
    (a, b, n, ap (λ x. Conditional x a b) same.0, rw rest at first, second)

pub branches : (i : List Terminal) (c : Expr) (l m : List Terminal) → Read (Height 5) i c l → l ≡ token.Mark sign.Question ∷ m → Branches i c m
branches i c l m read place =
    let here : Read (Height 5) i c (token.Mark sign.Question ∷ m) = rw place at read in
    record { forth = λ a b n r first second. conditional here.spelled first second; back = branches_back i c m here }

module _ (i : List Terminal) (c : Expr) (m : List Terminal) (two : Branches i c m) where
  pub branches_none : HasNoTree (Height 5) m → HasNoTree Whole i
  branches_none none u s d ends = let b = two.back u s d ends in none b.0 (token.Mark sign.Colon ∷ b.2) b.4 refl

  pub branches_no_colon : (a : Expr) (k : List Terminal) → Read (Height 5) m a k → IsNotNext sign.Colon k → HasNoTree Whole i
  branches_no_colon a k read none u s d ends = let b = two.back u s d ends in none b.2 (sym (read.only b.0 (token.Mark sign.Colon ∷ b.2) b.4 refl).1)

  module _ (a : Expr) (l n : List Terminal) (first : Read (Height 5) m a l) (place : l ≡ token.Mark sign.Colon ∷ n) where
    same_first : (b : Expr) (k : List Terminal) → Spells (Height 5) m b (token.Mark sign.Colon ∷ k) → (b ≡ a) × (k ≡ n)
    same_first b k d = let same = first.only b (token.Mark sign.Colon ∷ k) d refl in (same.0, let p = same.1 ∙ place in cc)

    pub branches_no_second : HasNoTree Whole n → HasNoTree Whole i
    branches_no_second none u s d ends = let b = two.back u s d ends in none b.1 s (rw (same_first b.0 b.2 b.4).1 at b.5) ends

    both_only : (b : Expr) (r : List Terminal) → Read Whole n b r → (u : Expr) (s : List Terminal) → Spells Whole i u s → Ends Whole s → (u ≡ Conditional c a b) × (s ≡ r)
    both_only b r read u s d ends =
        let found = two.back u s d ends in
        let same = same_first found.0 found.2 found.4 in
        let second = read.only found.1 s (rw same.1 at found.5) ends in
        (found.3 ∙ (ap (λ x. Conditional c x found.1) same.0 ∙ ap (Conditional c a) second.0), second.1)

    pub branches_both : (b : Expr) (r : List Terminal) → Read Whole n b r → Read Whole i (Conditional c a b) r
    branches_both b r read = record {
      spelled = two.forth a b n r (rw place at first.spelled) read.spelled;
      ends = read.ends;
      only = both_only b r read;
    }

-- an expression and the sign after it

pub before_none : (x : Sign) (i : List Terminal) → HasNoTree Whole i → HasNoTreeBefore x i
before_none x i none u s d ends = none u (token.Mark x ∷ s) d ends

pub before_other : (x : Sign) (i : List Terminal) (t : Expr) (r : List Terminal) → Read Whole i t r → IsNotNext x r → HasNoTreeBefore x i
before_other x i t r read none u s d ends = none s (sym (read.only u (token.Mark x ∷ s) d ends).1)
