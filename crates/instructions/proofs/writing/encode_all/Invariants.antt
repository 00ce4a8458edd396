use Rattle.std.proofs.Common.{◌≡◌, ◌++◌, length, take}
use Rattle.std.specs.List.{flat_map}
use Rattle.instructions.specs.Bytes.{short, spelled}
use Rattle.instructions.specs.Seen.{ops_of}
use Rattle.instructions.proofs.writing.encode_all.Given as goal

abbrev pub invariant-loop-instruction : goal.invariant-loop-instruction
invariant-loop-instruction l = l.out.items ≡ short (length (ops_of l.instructions)) ++ flat_map spelled (ops_of (take l.instruction-index l.instructions))
