-- Instructions as pure data. Texts are bytes of UTF-8; targets are numbers of instructions, counted from 0.
use Rattle.std.specs.Prelude.{ℕ, ℤ, Bool, List}
use Rattle.celtree.specs.declared.tree.Prefix.{Prefix}
use Rattle.celtree.specs.declared.tree.Macro.{Macro}
use Rattle.instructions.specs.declared.instruction.Name.{Name}
use Rattle.instructions.specs.declared.instruction.Slot.{Slot}
use Rattle.instructions.specs.declared.instruction.Binary.{Binary}
use Rattle.instructions.specs.declared.instruction.Function.{Function}

pub data Op : Type 0 where
  PushInt : ℤ → Op
  PushUint : ℕ → Op
  PushText : (text : List ℕ) → Op
  PushTruth : Bool → Op
  PushNull : Op
  PushName : Name → Op
  -- by its place among the policy's variables, counted from 0
  PushVariable : (place : ℕ) → Op
  PushSlot : Slot → Op
  TakeField TakeHas : (name : List ℕ) → Op
  TakeIndex : Op
  -- this many items, and this many pairs of a key and a value
  TakeItems TakePairs : (count : ℕ) → Op
  TakeUnary : Prefix → Op
  TakeBinary : Binary → Op
  TakeCall : Function → Op
  TakeBoth TakeEither : Op
  IfFalse IfTrue : (target : ℕ) → Op
  Branch : (otherwise end : ℕ) → Op
  Jump : (target : ℕ) → Op
  Over : Macro → (end : ℕ) → Op
