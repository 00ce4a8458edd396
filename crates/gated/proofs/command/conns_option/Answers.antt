use Rattle.std.proofs.Common.{ap, ap₂, Some, ◌≡◌, ◌∙◌}
use Rattle.clap.specs.Words.{Rule, rule_of}
use Rattle.clap.specs.declared.builder.value_parser.ValueParser.TheVariants as parser
use Rattle.gated.proofs.command.conns_option.Goals as goal

pub returns-clause-rule : goal.returns-clause-rule
returns-clause-rule c =
    let given = c.value_parser.ensures.given in
    let read_by : c.value_parser.result.value_parser ≡ Some (parser.Unsigned 1 65535) = given.1 ∙ ap Some (given.2 ∙ c.unsigned.ensures) in
    ap rule_of c.value_parser.ensures.others ∙ ap₂ (λ (r : Rule) p. record r { parser = p }) c.option.ensures.rule read_by
