-- The code of a form, where that of each part is known.
use Rattle.std.proofs.Common.{◌≡◌, ℕ, List, [], ◌∷◌, ◌++◌, Result, IfOk, Vec, Global, ◌∙◌}
use Rattle.std.proofs.lemmas.Result.{IfOk-weaker}
use Rattle.celtree.specs.declared.tree.Macro.{Macro}
use Rattle.celtree.specs.declared.tree.Operator.{Operator}
use Rattle.instructions.specs.declared.instruction.Instruction.{Instruction}
use Rattle.instructions.specs.Op.{Op, Branch, Jump, Over}
use Rattle.instructions.specs.Seen.{ops_of}
use Rattle.plan.specs.Tables.{between, infix_op}

-- the code that is made, if any is made
abbrev pub Makes : {E : Type 0} → Result (Vec Instruction Global) E → List Op → Type 0
Makes r ops = IfOk r (λ v. ops_of v.items ≡ ops)

makes : {E : Type 0} (r : Result (Vec Instruction Global) E) (a b : List Op) → a ≡ b → Makes r a → Makes r b
makes r a b same made = IfOk-weaker r (λ v. ops_of v.items ≡ a) (λ v. ops_of v.items ≡ b) (λ v is. is ∙ same) made

pub joined_by : {E : Type 0} (r : Result (Vec Instruction Global) E) {a x b y : List Op} → a ≡ x → b ≡ y → Makes r (a ++ b) → Makes r (x ++ y)
joined_by r {a} {x} {b} {y} first second made = makes r (a ++ b) (x ++ y) (cc) made

pub followed_by : {E : Type 0} (r : Result (Vec Instruction Global) E) {a x : List Op} {o p : Op} → a ≡ x → o ≡ p → Makes r (a ++ o ∷ []) → Makes r (x ++ p ∷ [])
followed_by r {a} {x} {o} {p} operand last made = makes r (a ++ o ∷ []) (x ++ p ∷ []) (cc) made

pub gathered_by : {E : Type 0} (r : Result (Vec Instruction Global) E) {a x b y : List Op} {o p : Op} → a ≡ x → b ≡ y → o ≡ p → Makes r (a ++ (b ++ o ∷ [])) → Makes r (x ++ (y ++ p ∷ []))
gathered_by r {a} {x} {b} {y} {o} {p} first second last made = makes r (a ++ (b ++ o ∷ [])) (x ++ (y ++ p ∷ [])) (cc) made

pub infix_by : {E : Type 0} (r : Result (Vec Instruction Global) E) (o : Operator) {a x b y : List Op} {end to : ℕ} → a ≡ x → b ≡ y → end ≡ to
    → Makes r (a ++ (between o end ++ (b ++ infix_op o ∷ []))) → Makes r (x ++ (between o to ++ (y ++ infix_op o ∷ [])))
infix_by r o {a} {x} {b} {y} {end} {to} first second target made =
    makes r (a ++ (between o end ++ (b ++ infix_op o ∷ []))) (x ++ (between o to ++ (y ++ infix_op o ∷ []))) (cc) made

pub conditional_by : {E : Type 0} (r : Result (Vec Instruction Global) E) {a x b y c z : List Op} {other near end to : ℕ} → a ≡ x → b ≡ y → c ≡ z → other ≡ near → end ≡ to
    → Makes r (a ++ (Branch other end ∷ (b ++ (Jump end ∷ c)))) → Makes r (x ++ (Branch near to ∷ (y ++ (Jump to ∷ z))))
conditional_by r {a} {x} {b} {y} {c} {z} {other} {near} {end} {to} test first second leap target made =
    makes r (a ++ (Branch other end ∷ (b ++ (Jump end ∷ c)))) (x ++ (Branch near to ∷ (y ++ (Jump to ∷ z)))) (cc) made

pub macro_by : {E : Type 0} (r : Result (Vec Instruction Global) E) (m : Macro) {a x b y : List Op} {end to : ℕ} → a ≡ x → b ≡ y → end ≡ to
    → Makes r (a ++ (Over m end ∷ b)) → Makes r (x ++ (Over m to ∷ y))
macro_by r m {a} {x} {b} {y} {end} {to} operand body target made = makes r (a ++ (Over m end ∷ b)) (x ++ (Over m to ∷ y)) (cc) made
