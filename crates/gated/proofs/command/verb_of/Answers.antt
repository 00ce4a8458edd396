use Rattle.std.proofs.Common.{rules, codes, sym, Some, ◌≡◌, ◌∙◌}
use Rattle.std.specs.Prelude.{option_map}
use Rattle.clap.specs.Words.{found_of}
use Rattle.clap.proofs.WalkLemmas.{first_value-rows}
use Rattle.gated.proofs.command.verb_of.Goals as goal

pub returns-in_ok-format_of-in-create : goal.returns-in_ok-format_of-in-create
returns-in_ok-format_of-in-create c =
    let file : option_map (λ s. s.now) c.get_str.result ≡ Some c.in_ok-file.file.now = search rules in
    (search rules, sym (first_value-rows (found_of c.args.matches.now) (codes "file")) ∙ sym c.get_str.ensures ∙ file, c.in_ok-format_of-in-create.ensures)

pub returns-in-replay : goal.returns-in-replay
returns-in-replay c =
    let file : option_map (λ s. s.now) c.get_str.result ≡ Some c.in_ok-file.file.now = search rules in
    (search rules, sym (first_value-rows (found_of c.args.matches.now) (codes "file")) ∙ sym c.get_str.ensures ∙ file)

pub returns-in-compact : goal.returns-in-compact
returns-in-compact c =
    let file : option_map (λ s. s.now) c.get_str.result ≡ Some c.in_ok-file.file.now = search rules in
    (search rules, sym (first_value-rows (found_of c.args.matches.now) (codes "file")) ∙ sym c.get_str.ensures ∙ file)

pub returns-in-upgrade : goal.returns-in-upgrade
returns-in-upgrade c =
    let file : option_map (λ s. s.now) c.get_str.result ≡ Some c.in_ok-file.file.now = search rules in
    (search rules, sym (first_value-rows (found_of c.args.matches.now) (codes "file")) ∙ sym c.get_str.ensures ∙ file)

pub returns-in-check : goal.returns-in-check
returns-in-check c =
    let file : option_map (λ s. s.now) c.get_str.result ≡ Some c.in_ok-file.file.now = search rules in
    (search rules, sym (first_value-rows (found_of c.args.matches.now) (codes "file")) ∙ sym c.get_str.ensures ∙ file)
