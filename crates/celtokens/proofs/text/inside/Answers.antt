use Rattle.std.proofs.Common.{sym}
use Rattle.celtokens.proofs.Texts.{going_next, going_end, going_none}
use Rattle.celtokens.proofs.text.inside.Goals as goal

pub returns-in-Some : goal.returns-in-Some
returns-in-Some c = going_end c.args.style c.args.chars.now c.characters.text.items c.characters.rest.now c.in-Some.beyond.now c.characters.invariant (sym c.in-Some.ensures)

pub characters-preserved : goal.characters-preserved
characters-preserved c =
    rw c.in_ok-push-in-Some-character.ensures.items
    (going_next c.args.style c.args.chars.now c.characters.text.items c.characters.rest.now c.in-Some-character.after.now c.in-Some-character.next c.characters.invariant (sym c.in-None.ensures) (sym c.in-Some-character.ensures.value))

pub returns-in-None-character : goal.returns-in-None-character
returns-in-None-character c = going_none c.args.style c.args.chars.now c.characters.text.items c.characters.rest.now c.characters.invariant (sym c.in-None.ensures) (sym c.in-None-character.ensures.value)
