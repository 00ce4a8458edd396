use Rattle.std.proofs.Common.{sym, subst, ℕ, List}
use Rattle.damage.specs.Entries.{HasDamagedEntry}
use Rattle.damage.proofs.Places.{at_named}
use Rattle.damage.proofs.place.entry_in.Goals as goal

pub returns-in-Some-clause-at : goal.returns-in-Some-clause-at
returns-in-Some-clause-at g c = λ keeps.
    let content = g.D.Device.disk.content c.args.device.now in
    let Of : List ℕ → Type 0 = λ bytes. HasDamagedEntry content c.args.root.now bytes in
    at_named content c.args.root.now c.named.result c.deref.result.now (subst Of (sym c.deref.ensures.value) (c.in-Some.ensures.damaged keeps)) c.named.ensures.names
