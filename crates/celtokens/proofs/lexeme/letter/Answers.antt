use Rattle.std.proofs.Common.{◌∙◌, ap}
use Rattle.std.proofs.lemmas.Option.{MatchOption-at_some, MatchOption-at_none}
use Rattle.celtokens.specs.Seen.{terminal}
use Rattle.celtokens.specs.Text.{IsRawText, HasNoRawText}
use Rattle.celtokens.specs.Terminal.{word_of}
use Rattle.celtokens.proofs.Words.{raw_longest, word_longest}
use Rattle.celtokens.proofs.lexeme.letter.Goals as goal

pub returns-in-Some : goal.returns-in-Some
returns-in-Some c =
    raw_longest c.args.chars.now c.in-Some.characters.items c.in-Some.rest.now c.requires
    (MatchOption-at_some (HasNoRawText c.args.chars.now) (λ x. IsRawText c.args.chars.now x.0.items x.1.now) (c.in-Some.characters, c.in-Some.rest) c.in-Some.is c.in_ok-characters.ensures)

pub returns-in-None : goal.returns-in-None
returns-in-None c =
    let none = MatchOption-at_none (HasNoRawText c.args.chars.now) (λ x. IsRawText c.args.chars.now x.0.items x.1.now) c.in-None.is c.in_ok-characters.ensures in
    rw c.split_run.ensures.rest (word_longest c.args.chars.now (terminal c.word.result) c.requires none (c.word.ensures ∙ ap word_of c.split_run.ensures.run))
