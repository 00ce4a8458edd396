use Rattle.std.proofs.Common.{sym, subst, ℕ, List}
use Rattle.damage.specs.Parts.{HasUnjoinedPart}
use Rattle.damage.proofs.Places.{at_named_part}
use Rattle.damage.proofs.place.parts_in.Goals as goal

pub returns-in-Some-clause-at : goal.returns-in-Some-clause-at
returns-in-Some-clause-at g c = λ keeps.
    let content = g.D.Device.disk.content c.args.device.now in
    let Of : List ℕ → Type 0 = λ bytes. HasUnjoinedPart content c.args.root.now bytes in
    at_named_part content c.args.root.now c.named_by_parts.result c.deref.result.now (subst Of (sym c.deref.ensures.value) (c.in-Some.ensures.unjoined keeps)) c.named_by_parts.ensures.parts
