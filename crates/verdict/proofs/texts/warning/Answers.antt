use Rattle.std.proofs.Common.{◌≡◌, List, ℕ, map, take, chars, string_bytes, ap, ◌∙◌}
use Rattle.std.proofs.lemmas.Result.{IfOk-weaker}
use Rattle.std.specs.List.{flat_map}
use Rattle.verdict.specs.Texts.{printable, escaped, warning}
use Rattle.verdict.proofs.texts.warning.Goals as goal

pub returns : goal.returns
returns c =
    IfOk-weaker c.quoted_front.result (λ s. string_bytes s ≡ flat_map escaped (take 256 (map printable (chars c.as_str.result.now))))
    (λ s. string_bytes s ≡ warning c.args.policy.now c.args.binding.now c.args.message.now)
    (λ s is. is ∙ ap (λ (t : List ℕ). flat_map escaped (take 256 (map printable (chars t)))) (c.as_str.ensures.value ∙ c.in_ok-text.ensures)) c.quoted_front.ensures
