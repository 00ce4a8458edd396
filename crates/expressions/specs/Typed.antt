-- The trees that the expressions of a policy spell, and the first expression that is bad.
use Rattle.std.specs.Prelude.{◌≡◌, ◌⊎◌, ◌∷◌, List, [], Some}
use Rattle.serde_json.specs.Data.{Data}
use Rattle.celtree.specs.Tree.{Expr}
use Rattle.celread.specs.Reading.{IsReadAs}
use Rattle.celtypes.specs.Types.{ValueType}
use Rattle.celtypes.specs.Typing.{HasType}
use Rattle.names.specs.declared.format.Format.{Format}
use Rattle.policy.specs.Forms.{Text}
use Rattle.policy.specs.Spec.{Policy}
use Rattle.expressions.specs.Expressions.{Source, Variables, sources, scope_at, and_declared, Suits}
use Rattle.expressions.specs.Places.{policy_in}

-- after these variables, the expression spells this tree, which has this type, as it must
pub record IsTyped (f : Format) (p : Policy) (vs : Variables) (s : Source) (e : Expr) (t : ValueType) : Type 0 where
  pub read : IsReadAs s.text e
  pub typed : HasType (scope_at f p vs s.place) e t
  pub suits : Suits s.place t

-- each expression, one after another, spells its tree, and has a type as it must
abbrev pub AreTyped : Format → Policy → Variables → List Source → List Expr → Type 0
AreTyped f p vs [] [] = Unit {0}
AreTyped f p vs [] (e ∷ es) = ⊥
AreTyped f p vs (s ∷ ss) [] = ⊥
AreTyped f p vs (s ∷ ss) (e ∷ es) = (t : ValueType) × IsTyped f p vs s e t × AreTyped f p (and_declared s.place t vs) ss es

-- each expression, one after another, spells its tree, whatever its type
abbrev pub AreSpelled : List Source → List Expr → Type 0
AreSpelled [] [] = Unit {0}
AreSpelled [] (e ∷ es) = ⊥
AreSpelled (s ∷ ss) [] = ⊥
AreSpelled (s ∷ ss) (e ∷ es) = IsReadAs s.text e × AreSpelled ss es

-- the expression spells no tree with a type as it must have
abbrev pub IsBad : Format → Policy → Variables → Source → Type 0
IsBad f p vs s = (e : Expr) (t : ValueType) → IsTyped f p vs s e t → ⊥

-- the text of the first expression that is bad
abbrev pub IsFirstBad : Format → Policy → Variables → List Source → Text → Type 0
IsFirstBad f p vs [] text = ⊥
IsFirstBad f p vs (s ∷ ss) text =
    ((s.text ≡ text) × IsBad f p vs s)
    ⊎ ((e : Expr) × (t : ValueType) × IsTyped f p vs s e t × IsFirstBad f p (and_declared s.place t vs) ss text)

-- the expressions spell no trees with types as they must have
abbrev pub AreUntyped : Format → Policy → List Source → Type 0
AreUntyped f p ss = (trees : List Expr) → AreTyped f p [] ss trees → ⊥

-- the document is this policy, and its expressions spell these trees
pub record IsPolicy (f : Format) (document : Data) (p : Policy) (trees : List Expr) : Type 0 where
  pub form : policy_in document ≡ Some p
  pub typed : AreTyped f p [] (sources p) trees

-- the document has the form of a policy, and this is the first of its expressions that is bad
pub record HasBadExpression (f : Format) (document : Data) (text : Text) : Type 0 where
  pub policy : Policy
  pub form : policy_in document ≡ Some policy
  pub bad : IsFirstBad f policy [] (sources policy) text
  pub none : AreUntyped f policy (sources policy)
