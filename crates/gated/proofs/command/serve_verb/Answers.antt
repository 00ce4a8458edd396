use Rattle.std.proofs.Common.{rules, codes, refl, subst, sym, true, Some, ◌≡◌, ◌∙◌}
use Rattle.std.specs.Prelude.{option_map}
use Rattle.std.specs.Str.Parse.{ParsesUnsigned, ExplainsUnsignedError, HasUnsignedDigitsIfOk}
use Rattle.clap.specs.Words.{found_of, rows_of}
use Rattle.clap.proofs.WalkLemmas.{first_value-rows}
use Rattle.gated.specs.CommandLine.{IsFlag, MayHaveNumber}
use Rattle.gated.proofs.Verbs.{flag_read, number_read}
use Rattle.gated.proofs.command.serve_verb.Goals as goal

pub returns : goal.returns
returns c =
    let found = found_of c.args.matches.now in
    let file : option_map (λ s. s.now) c.get_str.result ≡ Some c.in_ok-file.file.now = search rules in
    let address : option_map (λ s. s.now) c.get_str-2.result ≡ Some c.in_ok-get_str.field-0.now = search rules in
    let idle_seconds : c.get_one.result ≡ Some c.in_ok-get_one.field-0 = search rules in
    let may : c.may_be_logged.result ≡ true = search rules in
    let compacted : c.is_compacted_at.result ≡ true = search rules in
    let kubernetes : c.is_kubernetes_as.result ≡ true = search rules in (
      refl,
      sym (first_value-rows found (codes "file")) ∙ sym c.get_str.ensures ∙ file,
      sym (first_value-rows found (codes "listen")) ∙ sym c.get_str-2.ensures ∙ address,
      c.serving_of-serving.ensures,
      number_read _ (λ bs r. ParsesUnsigned 32 10 bs r × ExplainsUnsignedError 10 bs r × HasUnsignedDigitsIfOk bs r) 32 found (codes "idle") c.get_one.result
          c.in_ok-get_one.field-0 c.get_one.ensures.none c.get_one.ensures.value (λ u x g. g.0) idle_seconds,
      flag_read found (codes "log") c.get_flag-is_logged.result c.get_flag-is_logged.ensures.none c.get_flag-is_logged.ensures.value c.get_flag-is_logged.ensures.other,
      c.may_be_logged.ensures may,
      subst (MayHaveNumber (codes "compact-at") (rows_of found)) (sym (c.is_compacted_at.ensures compacted)) c.compact_at_of-compact_at.ensures,
      subst (IsFlag (codes "kubernetes") (rows_of found)) (sym (c.is_kubernetes_as.ensures kubernetes))
          (flag_read found (codes "kubernetes") c.get_flag-is_kubernetes.result c.get_flag-is_kubernetes.ensures.none c.get_flag-is_kubernetes.ensures.value
          c.get_flag-is_kubernetes.ensures.other),
    )
