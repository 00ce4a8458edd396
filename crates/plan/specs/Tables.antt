-- The instructions of operators and functions.
use Rattle.std.specs.Prelude.{ℕ, if◌then◌else◌, List, [], ◌∷◌, codes, bytes_eq}
use Rattle.celtree.specs.declared.tree.Operator.{Operator}
use Rattle.celtree.specs.declared.tree.Operator.TheVariants as operator_of
use Rattle.instructions.specs.declared.instruction.Binary.TheVariants as binary
use Rattle.instructions.specs.declared.instruction.Function.{Function}
use Rattle.instructions.specs.declared.instruction.Function.TheVariants as function
use Rattle.instructions.specs.Op.{Op, TakeBinary, TakeBoth, TakeEither, IfFalse, IfTrue}

-- what takes the two operands
abbrev pub infix_op : Operator → Op
infix_op operator_of.Multiply = TakeBinary binary.Multiply
infix_op operator_of.Divide = TakeBinary binary.Divide
infix_op operator_of.Remainder = TakeBinary binary.Remainder
infix_op operator_of.Add = TakeBinary binary.Add
infix_op operator_of.Subtract = TakeBinary binary.Subtract
infix_op operator_of.Less = TakeBinary binary.Less
infix_op operator_of.LessEqual = TakeBinary binary.LessEqual
infix_op operator_of.Greater = TakeBinary binary.Greater
infix_op operator_of.GreaterEqual = TakeBinary binary.GreaterEqual
infix_op operator_of.Equal = TakeBinary binary.Equal
infix_op operator_of.NotEqual = TakeBinary binary.NotEqual
infix_op operator_of.In = TakeBinary binary.In
infix_op operator_of.And = TakeBoth
infix_op operator_of.Or = TakeEither

-- what stands between the operands: a left side that decides `&&` or `||` leads to the end, past the right side
abbrev pub between : Operator → (end : ℕ) → List Op
between operator_of.And end = IfFalse end ∷ []
between operator_of.Or end = IfTrue end ∷ []
between o end = []

-- how many instructions that are
abbrev pub steps_between : Operator → ℕ
steps_between operator_of.And = 1
steps_between operator_of.Or = 1
steps_between o = 0

-- the function of a call: in an expression with a type, what is none of the other four is `dyn`
abbrev pub function_named : List ℕ → Function
function_named f =
    if bytes_eq f (codes "size") then function.Size
    else (if bytes_eq f (codes "int") then function.Int
    else (if bytes_eq f (codes "uint") then function.Uint
    else (if bytes_eq f (codes "string") then function.Text else function.Dyn)))

-- the function of a method: in an expression with a type, what is none of the other three is `endsWith`
abbrev pub method_named : List ℕ → Function
method_named f =
    if bytes_eq f (codes "size") then function.Size
    else (if bytes_eq f (codes "contains") then function.Contains
    else (if bytes_eq f (codes "startsWith") then function.StartsWith else function.EndsWith))
