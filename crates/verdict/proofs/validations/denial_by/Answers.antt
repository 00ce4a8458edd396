use Rattle.std.proofs.Common.{◌≡◌, Option, option_map, string_bytes, sym, ap, ◌∙◌}
use Rattle.std.specs.Prelude.{IsTrue}
use Rattle.std.proofs.lemmas.Result.{IfOk-weaker}
use Rattle.celmean.specs.Macros.{is_false}
use Rattle.celmean.specs.Seen.{outcome_of}
use Rattle.celmean.specs.Value.{Outcome}
use Rattle.verdict.specs.Told.{told}
use Rattle.policy.specs.Forms.{Text}
use Rattle.policy.specs.Validation.{validation_seen}
use Rattle.verdict.specs.Seen.{world_of}
use Rattle.verdict.specs.ByPlans.{line_by}
use Rattle.verdict.proofs.validations.denial_by.Goals as goal
use Rattle.verdict.proofs.validations.denial_by.Goals.{then-is_false+in_ok-line, else-is_false}

pub returns : goal.returns
returns c =
    let world = world_of c.args.scene.now c.args.variables.now in
    let line : Option Text = line_by (option_map (λ p. p.now) c.args.message) world in
    let asked : IsTrue (is_false (outcome_of c.in_ok-outcome.outcome)) → option_map string_bytes c.if-is_false.line ≡ line = λ fails.
    elim c.if-is_false.branch [
      | then-is_false+in_ok-line w ↦ ap (option_map string_bytes) w.line-is ∙ w.in_ok-line.ensures
      | else-is_false w ↦ let fails_not = sym c.is_false.ensures ∙ w.if-is_false.false in cc
    ] in
    IfOk-weaker c.told.result _ _
    (λ o told_of. told_of ∙ ap (λ (x : Outcome). told c.args.policy (validation_seen c.args.validation.now) line x) c.in_ok-outcome.ensures)
    (c.told.ensures line asked)
