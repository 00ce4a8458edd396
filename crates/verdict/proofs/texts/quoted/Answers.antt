use Rattle.std.proofs.Common.{ℕ, ◌+◌, List, ◌∷◌, ◌++◌, map, drop, string_bytes, sym, ap, ◌∙◌}
use Rattle.std.proofs.lemmas.List.{append-nil, at_drop_more, at_drop_all}
use Rattle.std.proofs.lemmas.Result.{IfOk-from_err}
use Rattle.std.specs.List.{flat_map}
use Rattle.verdict.specs.Texts.{printable, escaped}
use Rattle.verdict.proofs.texts.quoted.Goals as goal

pub loop-character-init : goal.loop-character-init
loop-character-init c = ap (λ (t : List ℕ). t ++ flat_map escaped (map printable c.args.characters.now)) c.new-text.ensures.bytes

pub loop-character-preserved : goal.loop-character-preserved
loop-character-preserved c =
    let cs = c.args.characters.now in
    let here = c.loop-character.character-index in
    let shown : List ℕ → List ℕ = λ l. flat_map escaped (map printable l) in
    let next = at_drop_more shown cs here c.character-item.result c.loop-character-test.true
    ∙ ap (λ (x : ℕ). shown (x ∷ drop (here + 1) cs)) (sym c.character-item.is) in
    c.in_ok-push_escaped.ensures (shown (drop (here + 1) cs)) ∙ ap (λ (t : List ℕ). string_bytes c.loop-character.text ++ t) (sym next)
    ∙ c.loop-character.invariant

pub returns-in_err-push_escaped : goal.returns-in_err-push_escaped
returns-in_err-push_escaped c = IfOk-from_err c.from_residual.result _ c.from_residual.ensures.0

pub returns : goal.returns
returns c =
    let written = string_bytes c.loop-character.text in
    let none =
    at_drop_all (λ (l : List ℕ). flat_map escaped (map printable l)) c.args.characters.now c.loop-character.character-index c.loop-character-test.false in
    sym (append-nil written) ∙ ap (λ (t : List ℕ). written ++ t) (sym none) ∙ c.loop-character.invariant
