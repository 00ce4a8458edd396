use Rattle.instructions.proofs.WellFormed.{sound_is_well_formed}
use Rattle.instructions.proofs.Passing.{well_formed_is_sound}
use Rattle.instructions.proofs.laws.sound_where_well_formed.Goals as goal

pub returns : goal.returns
returns c = λ vars code. (sound_is_well_formed vars code, well_formed_is_sound vars code)
