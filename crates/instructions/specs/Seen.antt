-- What the program's instructions stand for.
use Rattle.std.specs.Prelude.{List, map, string_bytes}
use Rattle.instructions.specs.declared.instruction.Instruction.{Instruction}
use Rattle.instructions.specs.declared.instruction.Instruction.TheVariants as instruction
use Rattle.instructions.specs.declared.instruction.Plan.{Plan}
use Rattle.instructions.specs.Op.{Op, PushInt, PushUint, PushText, PushTruth, PushNull, PushName, PushVariable, PushSlot, TakeField, TakeHas, TakeIndex, TakeItems, TakePairs, TakeUnary, TakeBinary, TakeCall, TakeBoth, TakeEither, IfFalse, IfTrue, Branch, Jump, Over}

abbrev pub op_of : Instruction → Op
op_of (instruction.Int n) = PushInt n
op_of (instruction.Uint n) = PushUint n
op_of (instruction.Text s) = PushText (string_bytes s)
op_of (instruction.Bool b) = PushTruth b
op_of instruction.Null = PushNull
op_of (instruction.Name x) = PushName x
op_of (instruction.Variable v) = PushVariable v
op_of (instruction.Slot s) = PushSlot s
op_of (instruction.Field f) = TakeField (string_bytes f)
op_of (instruction.Has f) = TakeHas (string_bytes f)
op_of instruction.Index = TakeIndex
op_of (instruction.List n) = TakeItems n
op_of (instruction.Map n) = TakePairs n
op_of (instruction.Unary p) = TakeUnary p
op_of (instruction.Binary o) = TakeBinary o
op_of (instruction.Call f) = TakeCall f
op_of instruction.And = TakeBoth
op_of instruction.Or = TakeEither
op_of (instruction.IfFalse to) = IfFalse to
op_of (instruction.IfTrue to) = IfTrue to
op_of (instruction.Branch otherwise end) = Branch otherwise end
op_of (instruction.Jump to) = Jump to
op_of (instruction.Macro m end) = Over m end

abbrev pub ops_of : List Instruction → List Op
ops_of is = map op_of is

abbrev pub plan_ops : Plan → List Op
plan_ops p = ops_of p.instructions.items
