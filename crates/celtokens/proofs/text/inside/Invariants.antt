use Rattle.std.proofs.Common.{length}
use Rattle.celtokens.proofs.Texts.{Going}
use Rattle.celtokens.proofs.text.inside.Given as goal

abbrev pub invariant-characters : goal.invariant-characters
invariant-characters l = Going l.style l.chars l.text.items l.rest

abbrev pub decreases-characters : goal.decreases-characters
decreases-characters l = length l.rest
