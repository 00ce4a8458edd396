use Rattle.std.proofs.Common.{rules, ap, ap₂, codes, [], ◌∷◌, ◌||◌, false, Some, ◌≡◌, ◌∙◌}
use Rattle.std.proofs.lemmas.Result.{IfOk-weaker}
use Rattle.clap.specs.Words.{Rule, rule_of, with_rule}
use Rattle.clap.specs.declared.builder.value_parser.ValueParser.TheVariants as parser
use Rattle.gated.specs.CommandLine.{format_rule}
use Rattle.gated.proofs.command.create_line.Goals as goal

pub returns-clause-app : goal.returns-clause-app
returns-clause-app c =
    let given = c.value_parser.ensures.given in
    let read_by : c.value_parser.result.value_parser ≡ Some (parser.Unsigned 1 3) = given.1 ∙ ap Some (given.2 ∙ c.unsigned.ensures) in
    let default_is : rule_of c.default_value.result ≡ record (rule_of c.option.result) { defaults = codes "3" ∷ [] } = search rules in
    let format_is : rule_of c.value_parser.result ≡ format_rule = ap rule_of c.value_parser.ensures.others
    ∙ ap₂ (λ (r : Rule) p. record r { parser = p }) (default_is ∙ ap (λ (r : Rule). record r { defaults = codes "3" ∷ [] }) c.option.ensures.rule) read_by
    in
    IfOk-weaker c.arg.result _ _ (λ r h. h.shape (search rules) ∙ ap₂ with_rule c.in_ok-over_file.ensures.app format_is) c.arg.ensures

pub returns-clause-local : goal.returns-clause-local
returns-clause-local c =
    let format_local : c.value_parser.result.global ≡ false = search rules in
    IfOk-weaker c.arg.result _ _ (λ r h. h.globals ∙ ap₂ (λ a b. a || b) c.in_ok-over_file.ensures.local format_local) c.arg.ensures
