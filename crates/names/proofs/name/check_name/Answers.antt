use Rattle.std.proofs.Common.{◌≡◌, ◌≤◌, ◌==◌, ◌&&◌, ℕ, List, true, length, sym, ap, ◌∙◌, arith}
use Rattle.std.proofs.lemmas.Bool.Decides.{nat_tests}
use Rattle.std.specs.List.{list_all, slice_split}
use Rattle.std.specs.Prelude.{nat_le}
use Rattle.names.specs.Name.{dot, is_label, is_name}
use Rattle.names.proofs.NameGrammar.{name_decided}
use Rattle.names.proofs.name.check_name.Goals as goal

pub returns-then-text-le-NAME_LIMIT-clause-grammar : goal.returns-then-text-le-NAME_LIMIT-clause-grammar
returns-then-text-le-NAME_LIMIT-clause-grammar c =
    let text = c.args.text.now in
    let short : length text ≤ 253 = omega arith in
    let within : nat_le (length text) 253 ≡ true = grind (arith, nat_tests) in
    let value : c.check_labels.result ≡ is_name text =
    c.check_labels.ensures ∙ ap (λ (bytes : List ℕ). list_all is_label (slice_split (λ byte. byte == dot) bytes)) c.as_bytes.ensures.value
    ∙ sym (ap (λ b. b && list_all is_label (slice_split (λ byte. byte == dot) text)) within)
    in
    name_decided text c.check_labels.result value
