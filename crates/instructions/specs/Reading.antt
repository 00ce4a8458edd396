-- The instruction that stands at the front of bytes, or the first fault that is met there.
use Rattle.std.specs.Prelude.{ℕ, ◌≤◌, Bool, true, false, nat_lt, ◌==◌, if◌then◌else◌, List, [], ◌∷◌, length, take, drop, Result, Ok, Err}
use Rattle.std.specs.Str.{is_utf8}
use Rattle.std.specs.Int.{Width, w16, w64, byte_len, from_be_bytes, cast_signed}
use Rattle.celtree.specs.declared.tree.Prefix.{Prefix}
use Rattle.celtree.specs.declared.tree.Prefix.TheVariants as prefix
use Rattle.celtree.specs.declared.tree.Macro.{Macro}
use Rattle.celtree.specs.declared.tree.Macro.TheVariants as macro
use Rattle.instructions.specs.declared.instruction.Name.{Name}
use Rattle.instructions.specs.declared.instruction.Name.TheVariants as name
use Rattle.instructions.specs.declared.instruction.Slot.{Slot}
use Rattle.instructions.specs.declared.instruction.Slot.TheVariants as slot
use Rattle.instructions.specs.declared.instruction.Binary.{Binary}
use Rattle.instructions.specs.declared.instruction.Binary.TheVariants as binary
use Rattle.instructions.specs.declared.instruction.Function.{Function}
use Rattle.instructions.specs.declared.instruction.Function.TheVariants as function
use Rattle.instructions.specs.declared.fault.CodeFault.{CodeFault}
use Rattle.instructions.specs.declared.fault.CodeFault.TheVariants as fault
use Rattle.instructions.specs.Op.{Op, PushInt, PushUint, PushText, PushTruth, PushNull, PushName, PushVariable, PushSlot, TakeField, TakeHas, TakeIndex, TakeItems, TakePairs, TakeUnary, TakeBinary, TakeCall, TakeBoth, TakeEither, IfFalse, IfTrue, Branch, Jump, Over}
use Rattle.instructions.specs.Bytes.{name_number}
use Rattle.instructions.specs.Faults.{◌>>=◌}

-- A byte, and the bytes after it.
abbrev pub byte_at : List ℕ → Result (ℕ × List ℕ) CodeFault
byte_at [] = Err fault.Truncated
byte_at (b ∷ rest) = Ok (b, rest)

-- A number of some bytes, and the bytes after it.
abbrev pub number_at : Width → List ℕ → Result (ℕ × List ℕ) CodeFault
number_at w bytes =
    if nat_lt (length bytes) (byte_len w) then Err fault.Truncated else Ok (from_be_bytes w (take (byte_len w) bytes), drop (byte_len w) bytes)

-- The bytes of a text are UTF-8.
abbrev pub text_of : List ℕ → Result (List ℕ) CodeFault
text_of bytes = if is_utf8 bytes then Ok bytes else Err fault.TextNotUtf8

-- This many bytes of text, and the bytes after them.
abbrev pub text_of_length : ℕ → List ℕ → Result (List ℕ × List ℕ) CodeFault
text_of_length n bytes = if nat_lt (length bytes) n then Err fault.Truncated else (text_of (take n bytes) >>= λ text. Ok (text, drop n bytes))

-- The length of a text in bytes, and the text.
unfoldable pub text_at : List ℕ → Result (List ℕ × List ℕ) CodeFault
text_at bytes = number_at w16 bytes >>= λ n. text_of_length n.0 n.1

-- What the numbers of operands stand for.
abbrev pub truth_of : ℕ → Result Bool CodeFault
truth_of b = if b == 0 then Ok false else if b == 1 then Ok true else Err fault.BadOperand

abbrev pub name_of : ℕ → Result Name CodeFault
name_of b =
    if b == 1 then Ok name.Object else
    if b == 2 then Ok name.OldObject else
    if b == 3 then Ok name.Request else
    if b == 4 then Ok name.Params else
    if b == 5 then Ok name.NamespaceObject else Err fault.BadOperand

-- In a place that declares the names up to this one, by their numbers, those after it are none.
abbrev pub name_up_to : Name → ℕ → Result Name CodeFault
name_up_to greatest b = name_of b >>= λ x. if nat_lt (name_number greatest) (name_number x) then Err fault.BadOperand else Ok x

abbrev pub slot_of : ℕ → Result Slot CodeFault
slot_of b = if b == 0 then Ok slot.Outer else if b == 1 then Ok slot.Inner else Err fault.BadOperand

abbrev pub prefix_of : ℕ → Result Prefix CodeFault
prefix_of b = if b == 1 then Ok prefix.Not else if b == 2 then Ok prefix.Negate else Err fault.BadOperand

abbrev pub binary_of : ℕ → Result Binary CodeFault
binary_of b =
    if b == 1 then Ok binary.Add else
    if b == 2 then Ok binary.Subtract else
    if b == 3 then Ok binary.Multiply else
    if b == 4 then Ok binary.Divide else
    if b == 5 then Ok binary.Remainder else
    if b == 6 then Ok binary.Equal else
    if b == 7 then Ok binary.NotEqual else
    if b == 8 then Ok binary.Less else
    if b == 9 then Ok binary.LessEqual else
    if b == 10 then Ok binary.Greater else
    if b == 11 then Ok binary.GreaterEqual else
    if b == 12 then Ok binary.In else Err fault.BadOperand

abbrev pub function_of : ℕ → Result Function CodeFault
function_of b =
    if b == 1 then Ok function.Size else
    if b == 2 then Ok function.Contains else
    if b == 3 then Ok function.StartsWith else
    if b == 4 then Ok function.EndsWith else
    if b == 5 then Ok function.Int else
    if b == 6 then Ok function.Uint else
    if b == 7 then Ok function.Text else
    if b == 8 then Ok function.Dyn else Err fault.BadOperand

abbrev pub macro_of : ℕ → Result Macro CodeFault
macro_of b =
    if b == 1 then Ok macro.All else
    if b == 2 then Ok macro.Exists else
    if b == 3 then Ok macro.ExistsOne else
    if b == 4 then Ok macro.Map else
    if b == 5 then Ok macro.Filter else Err fault.BadOperand

-- An instruction with one operand: a byte that stands for one of a few, two bytes, eight bytes, or a text.
abbrev pub with_byte : {A : Type 0} → (ℕ → Result A CodeFault) → (A → Op) → List ℕ → Result (Op × List ℕ) CodeFault
with_byte table make rest = byte_at rest >>= λ b. table b.0 >>= λ x. Ok (make x, b.1)

abbrev pub with_short : (ℕ → Op) → List ℕ → Result (Op × List ℕ) CodeFault
with_short make rest = number_at w16 rest >>= λ n. Ok (make n.0, n.1)

abbrev pub with_long : (ℕ → Op) → List ℕ → Result (Op × List ℕ) CodeFault
with_long make rest = number_at w64 rest >>= λ n. Ok (make n.0, n.1)

abbrev pub with_text : (List ℕ → Op) → List ℕ → Result (Op × List ℕ) CodeFault
with_text make rest = text_at rest >>= λ text. Ok (make text.0, text.1)

-- The two targets of a branch.
unfoldable pub branch_at : List ℕ → Result (Op × List ℕ) CodeFault
branch_at rest = number_at w16 rest >>= λ otherwise. number_at w16 otherwise.1 >>= λ end. Ok (Branch otherwise.0 end.0, end.1)

-- A macro's kind and its end.
unfoldable pub macro_at : List ℕ → Result (Op × List ℕ) CodeFault
macro_at rest = byte_at rest >>= λ b. macro_of b.0 >>= λ m. number_at w16 b.1 >>= λ end. Ok (Over m end.0, end.1)

-- The instructions that lead elsewhere, by their numbers.
unfoldable pub leading_at : ℕ → List ℕ → Result (Op × List ℕ) CodeFault
leading_at b rest =
    if b == 19 then with_short IfFalse rest else
    if b == 20 then with_short IfTrue rest else
    if b == 21 then branch_at rest else
    if b == 22 then with_short Jump rest else
    if b == 23 then macro_at rest else Err fault.BadOperand

-- The instructions that take outcomes, and those that lead elsewhere.
unfoldable pub taking_at : ℕ → List ℕ → Result (Op × List ℕ) CodeFault
taking_at b rest =
    if b == 9 then with_text TakeField rest else
    if b == 10 then with_text TakeHas rest else
    if b == 11 then Ok (TakeIndex, rest) else
    if b == 12 then with_short TakeItems rest else
    if b == 13 then with_short TakePairs rest else
    if b == 14 then with_byte prefix_of TakeUnary rest else
    if b == 15 then with_byte binary_of TakeBinary rest else
    if b == 16 then with_byte function_of TakeCall rest else
    if b == 17 then Ok (TakeBoth, rest) else
    if b == 18 then Ok (TakeEither, rest) else leading_at b rest

-- The instruction with a number, and the bytes after it.
unfoldable pub operands_at : Name → ℕ → List ℕ → Result (Op × List ℕ) CodeFault
operands_at greatest b rest =
    if b == 1 then with_long (λ n. PushInt (cast_signed w64 n)) rest else
    if b == 2 then with_long PushUint rest else
    if b == 3 then with_text PushText rest else
    if b == 4 then with_byte truth_of PushTruth rest else
    if b == 5 then Ok (PushNull, rest) else
    if b == 6 then with_byte (name_up_to greatest) PushName rest else
    if b == 7 then with_short PushVariable rest else
    if b == 8 then with_byte slot_of PushSlot rest else taking_at b rest

-- An instruction, and the bytes after it.
unfoldable pub op_at : Name → List ℕ → Result (Op × List ℕ) CodeFault
op_at greatest bytes = byte_at bytes >>= λ b. operands_at greatest b.0 b.1

-- The instruction puts no declared name after this one, by their numbers.
abbrev pub NamesUpTo : Name → Op → Type 0
NamesUpTo greatest (PushName x) = name_number x ≤ name_number greatest
NamesUpTo greatest op = Unit {0}
