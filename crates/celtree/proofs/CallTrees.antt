-- Calls with another number of arguments.
use Rattle.std.proofs.Common.{◌≡◌, ◌≢◌, List, [], ◌∷◌, length, Option, None, refl}
use Rattle.celtree.specs.declared.tree.Macro.{Macro}
use Rattle.celtree.specs.declared.tree.Tree.{Tree}
use Rattle.celtree.specs.Tree.{Expr}
use Rattle.celtree.specs.Calls.{has_of, macro_over}
use Rattle.celtree.specs.View.{views}

pub has_of_other : (ts : List Tree) → length ts ≢ 1 → ◌≡◌ {A = Option Expr} None (has_of (views ts))
has_of_other [] other = refl
has_of_other (x ∷ []) other = absurd (other refl)
has_of_other (x ∷ y ∷ ts) other = refl

pub macro_over_other : (m : Macro) (e : Expr) (ts : List Tree) → length ts ≢ 2 → length ts ≢ 3 → ◌≡◌ {A = Option Expr} None (macro_over m e (views ts))
macro_over_other m e [] two three = refl
macro_over_other m e (x ∷ []) two three = refl
macro_over_other m e (x ∷ y ∷ []) two three = absurd (two refl)
macro_over_other m e (x ∷ y ∷ z ∷ []) two three = absurd (three refl)
macro_over_other m e (x ∷ y ∷ z ∷ w ∷ ts) two three = refl
