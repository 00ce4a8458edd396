use Rattle.std.proofs.Common.{ap, refl, sym, map, true, List, ◌≡◌, ◌∙◌}
use Rattle.clap.specs.Words.{App, Text, app_of, is_simple, subcommand_of}
use Rattle.clap.proofs.OnLiterals.{clap_on_literals}
use Rattle.gated.specs.CommandLine.{gated_line}
use Rattle.gated.proofs.FileInWords.{file_in_words}
use Rattle.gated.proofs.command.command.Goals as goal

gated_line-is_simple : is_simple gated_line ≡ true
unfolding gated_line clap_on_literals
gated_line-is_simple = refl

pub returns-in-Some-clause-asked : goal.returns-in-Some-clause-asked
returns-in-Some-clause-asked g c =
    let words : List Text = map g.S.AsStr.text c.args.words.now in
    let line_is : app_of c.in_ok-line.line ≡ gated_line = c.in_ok-line.ensures in
    let matches = (c.in_ok-matches.ensures.ok.2) (ap is_simple line_is ∙ gated_line-is_simple) in
    let entered = c.in-Some.ensures in (
      entered.0,
      entered.1,
      ap (λ (a : App). subcommand_of a words) (sym line_is) ∙ sym matches.1 ∙ entered.2,
      entered.3,
    )

pub returns-in-Some-clause-file : goal.returns-in-Some-clause-file
returns-in-Some-clause-file g c = file_in_words (map g.S.AsStr.text c.args.words.now) c.in-Some.verb (returns-in-Some-clause-asked g c)
