use Rattle.std.proofs.Common.{◌≡◌, length}
use Rattle.celmean.specs.Texts.{text_contains}
use Rattle.celmean.proofs.texts.contains.Given as goal

abbrev pub invariant-places : goal.invariant-places
invariant-places l = text_contains l.rest l.part ≡ text_contains l.whole l.part

abbrev pub decreases-places : goal.decreases-places
decreases-places l = length l.rest
