-- Copies of instructions.
use Rattle.std.proofs.Common.{◌≡◌, List, [], ◌∷◌, refl}
use Rattle.std.specs.List.{AllZip}
use Rattle.instructions.specs.declared.instruction.Instruction.{Instruction}
use Rattle.instructions.specs.Seen.{op_of, ops_of}

-- copied one by one, they stand for the same
pub copied : (is copies : List Instruction) → AllZip (λ i copy. op_of copy ≡ op_of i) is copies → ops_of copies ≡ ops_of is
copied [] [] h = refl
copied [] (c ∷ cs) h = absurd h
copied (i ∷ is) [] h = absurd h
copied (i ∷ is) (c ∷ cs) h = rw (h.0, copied is cs h.1) refl
