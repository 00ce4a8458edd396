use Rattle.std.proofs.Common.{false}
use Rattle.std.proofs.lemmas.Option.{MatchOption-at_some, MatchOption-at_none}
use Rattle.celtokens.specs.Text.{HasNoText, BestText}
use Rattle.celtokens.proofs.Lexemes.{text_longest, no_text_lexeme}
use Rattle.celtokens.proofs.lexeme.quoted.Goals as goal

pub returns-in-Some : goal.returns-in-Some
returns-in-Some c =
    text_longest c.args.chars.now c.in-Some.characters.items c.in-Some.rest.now c.requires
    (MatchOption-at_some (HasNoText false c.args.chars.now) (λ x. BestText false c.args.chars.now x.0.items x.1.now) (c.in-Some.characters, c.in-Some.rest) c.in-Some.is c.in_ok-characters.ensures)

pub returns-in-None : goal.returns-in-None
returns-in-None c =
    no_text_lexeme c.args.chars.now c.requires
    (MatchOption-at_none (HasNoText false c.args.chars.now) (λ x. BestText false c.args.chars.now x.0.items x.1.now) c.in-None.is c.in_ok-characters.ensures)
