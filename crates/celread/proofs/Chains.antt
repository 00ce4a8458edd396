-- A chain of operands, from the left.
use Rattle.std.proofs.Common.{◌≡◌, ◌∙◌, ℕ, suc, Some, List, ◌∷◌, sym, refl, ap}
use Rattle.std.proofs.lemmas.Option.{same_Some}
use Rattle.celtokens.specs.Terminal.{Terminal}
use Rattle.celtree.specs.declared.tree.Operator.{Operator}
use Rattle.celtree.specs.Tree.{Expr, Infix}
use Rattle.celtokens.specs.Operators.{infix_of}
use Rattle.celread.specs.Grammar.{Height, Chain, Spells, operand, last, infixed}
use Rattle.celread.specs.Ends.{Ends, Read, HasNoTree}
use Rattle.celtokens.specs.Ahead.{HasNoOperator}
use Rattle.celread.proofs.Ending.{ends_down, ends_at_operator, goes_on, ends_up}

chain_ends : {h : ℕ} {a t : Expr} {m r : List Terminal} → Spells (Chain h a) m t r → Ends (Height (suc h)) r → Ends (Height h) m
chain_ends {h = h} {r = r} last ends = ends_down h r ends
chain_ends {h = h} (infixed {w = w} {o = o} {i = i} e second chain) ends = ends_at_operator h w o i e

-- the tokens i begin with a chain whose left side is a, and m is left
pub record Going (h : ℕ) (i : List Terminal) (a : Expr) (m : List Terminal) : Type 0 where
  pub ends : Ends (Height h) m
  pub forth : (t : Expr) (r : List Terminal) → Spells (Chain h a) m t r → Spells (Height (suc h)) i t r
  pub back : (t : Expr) (r : List Terminal) → Spells (Height (suc h)) i t r → Ends (Height (suc h)) r → Spells (Chain h a) m t r

module _ (h : ℕ) where
  start_back : (i : List Terminal) (a : Expr) (m : List Terminal) → Read (Height h) i a m → (t : Expr) (r : List Terminal) → Spells (Height (suc h)) i t r → Ends (Height (suc h)) r → Spells (Chain h a) m t r
  start_back i a m read t r (operand {m = n} {a = b} first chain) ends =
      let same = read.only b n first (chain_ends chain ends) in
      rw (same.0, same.1) at chain

  pub going_start : (i : List Terminal) (a : Expr) (m : List Terminal) → Read (Height h) i a m → Going h i a m
  going_start i a m read = record {
    ends = read.ends;
    forth = λ t r chain. operand read.spelled chain;
    back = start_back i a m read;
  }

  pub start_none : (i : List Terminal) → HasNoTree (Height h) i → HasNoTree (Height (suc h)) i
  start_none i none u s (operand {m = n} {a = b} first chain) ends = none b n first (chain_ends chain ends)

  module _ (w : Terminal) (o : Operator) (n : List Terminal) (is : infix_of w ≡ Some (h, o)) where
    next_back : (a b : Expr) (m : List Terminal) → Read (Height h) n b m → (t : Expr) (r : List Terminal) → Spells (Chain h a) (w ∷ n) t r → Ends (Height (suc h)) r → Spells (Chain h (Infix o a b)) m t r
    next_back a b m read t r last ends = absurd (goes_on h w o n is ends)
    next_back a b m read t r (infixed {o = p} {m = k} {b = c} other second chain) ends =
        let pairs : ◌≡◌ {A = ℕ × Operator} (h, p) (h, o) = same_Some (h, p) (h, o) (sym other ∙ is) in
        let operators : p ≡ o = ap (λ x. x.1) pairs in
        let same = read.only c k second (chain_ends chain ends) in
        rw (operators, same.0, same.1) at chain

    pub going_next : (i : List Terminal) (a : Expr) (l : List Terminal) (b : Expr) (m : List Terminal) → Going h i a l → l ≡ w ∷ n → Read (Height h) n b m → Going h i (Infix o a b) m
    going_next i a l b m going e read = record {
      ends = read.ends;
      forth = λ t r chain. going.forth t r (rw e (infixed is read.spelled chain));
      back = λ t r d ends. next_back a b m read t r (rw e at (going.back t r d ends)) ends;
    }

    no_next : (a : Expr) → HasNoTree (Height h) n → (t : Expr) (r : List Terminal) → Spells (Chain h a) (w ∷ n) t r → Ends (Height (suc h)) r → ⊥
    no_next a none t r last ends = goes_on h w o n is ends
    no_next a none t r (infixed {m = k} {b = c} other second chain) ends = none c k second (chain_ends chain ends)

    pub next_none : (i : List Terminal) (a : Expr) (l : List Terminal) → Going h i a l → l ≡ w ∷ n → HasNoTree (Height h) n → HasNoTree (Height (suc h)) i
    next_none i a l going e none u s d ends = no_next a none u s (rw e at (going.back u s d ends)) ends

  end_only : (a : Expr) (m : List Terminal) → HasNoOperator h m → (u : Expr) (s : List Terminal) → Spells (Chain h a) m u s → (u ≡ a) × (s ≡ m)
  end_only a m none u s last = (refl, refl)
  end_only a m none u s (infixed {w = w} {o = o} {i = i} e second chain) = absurd (none w i o refl e)

  pub going_end : (i : List Terminal) (a : Expr) (m : List Terminal) → Going h i a m → HasNoOperator h m → Read (Height (suc h)) i a m
  going_end i a m going none = record {
    spelled = going.forth a m last;
    ends = ends_up h m going.ends none;
    only = λ u s d ends. end_only a m none u s (going.back u s d ends);
  }
