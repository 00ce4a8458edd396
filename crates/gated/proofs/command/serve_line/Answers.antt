use Rattle.std.proofs.Common.{rules, ap, ap₂, codes, true, false, ◌||◌, [], ◌∷◌, Some, ◌≡◌, ◌∙◌}
use Rattle.std.proofs.lemmas.Result.{IfOk-weaker}
use Rattle.clap.specs.Words.{Rule, rule_of, with_rule}
use Rattle.clap.specs.declared.builder.value_parser.ValueParser.TheVariants as parser
use Rattle.gated.specs.CommandLine.{idle_rule, listen_rule}
use Rattle.gated.proofs.command.serve_line.Goals as goal

pub returns-clause-app : goal.returns-clause-app
returns-clause-app c =
    let listen_is : rule_of c.required.result ≡ listen_rule =
    ap rule_of c.required.ensures ∙ ap (λ (r : Rule). record r { required = true }) c.option.ensures.rule
    in
    let idle_given = c.value_parser.ensures.given in
    let idle_parser : c.value_parser.result.value_parser ≡ Some (parser.Unsigned 0 86400) = idle_given.1 ∙ ap Some (idle_given.2 ∙ c.unsigned.ensures) in
    let default_is : rule_of c.default_value.result ≡ record (rule_of c.option-2.result) { defaults = codes "60" ∷ [] } = search rules in
    let idle_is : rule_of c.value_parser.result ≡ idle_rule = ap rule_of c.value_parser.ensures.others
    ∙ ap₂ (λ (r : Rule) p. record r { parser = p }) (default_is ∙ ap (λ (r : Rule). record r { defaults = codes "60" ∷ [] }) c.option-2.ensures.rule) idle_parser
    in
    let with_listen = c.in_ok-arg.ensures.shape (search rules) ∙ ap₂ with_rule c.in_ok-over_file.ensures.app listen_is in
    let with_conns = c.in_ok-arg-2.ensures.shape (search rules) ∙ ap₂ with_rule with_listen c.conns_option.ensures.rule in
    let with_at_once = c.in_ok-arg-3.ensures.shape (search rules) ∙ ap₂ with_rule with_conns c.at_once_option.ensures.rule in
    let with_idle = c.in_ok-arg-4.ensures.shape (search rules) ∙ ap₂ with_rule with_at_once idle_is in
    let with_log = c.in_ok-arg-5.ensures.shape (search rules) ∙ ap₂ with_rule with_idle c.log_option.ensures.rule in
    let with_compact_at = c.in_ok-arg-6.ensures.shape (search rules) ∙ ap₂ with_rule with_log c.compact_at_option.ensures.rule in
    IfOk-weaker c.arg-7.result _ _ (λ r h. h.shape (search rules) ∙ ap₂ with_rule with_compact_at c.kubernetes_option.ensures.rule) c.arg-7.ensures

pub returns-clause-local : goal.returns-clause-local
returns-clause-local c =
    let listen_local : c.required.result.global ≡ false = search rules in
    let idle_local : c.value_parser.result.global ≡ false = search rules in
    let with_listen = c.in_ok-arg.ensures.globals ∙ ap₂ (λ a b. a || b) c.in_ok-over_file.ensures.local listen_local in
    let with_conns = c.in_ok-arg-2.ensures.globals ∙ ap₂ (λ a b. a || b) with_listen c.conns_option.ensures.local in
    let with_at_once = c.in_ok-arg-3.ensures.globals ∙ ap₂ (λ a b. a || b) with_conns c.at_once_option.ensures.local in
    let with_idle = c.in_ok-arg-4.ensures.globals ∙ ap₂ (λ a b. a || b) with_at_once idle_local in
    let with_log = c.in_ok-arg-5.ensures.globals ∙ ap₂ (λ a b. a || b) with_idle c.log_option.ensures.local in
    let with_compact_at = c.in_ok-arg-6.ensures.globals ∙ ap₂ (λ a b. a || b) with_log c.compact_at_option.ensures.local in
    IfOk-weaker c.arg-7.result _ _ (λ r h. h.globals ∙ ap₂ (λ a b. a || b) with_compact_at c.kubernetes_option.ensures.local) c.arg-7.ensures
