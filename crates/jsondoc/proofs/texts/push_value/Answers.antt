use Rattle.std.proofs.Common.{◌≡◌, ◌∙◌, ◌++◌, ◌∷◌, subst, List, ℕ, OnOk, string_bytes}
use Rattle.serde_json.specs.Data.{string}
use Rattle.serde_json.specs.View.{view}
use Rattle.serde_json.specs.Written.{comma_if}
use Rattle.jsondoc.specs.Json.{text}
use Rattle.jsondoc.proofs.Json.{has_float-is_whole}
use Rattle.jsondoc.proofs.texts.push_value.Goals as goal

pub returns : goal.returns
returns c =
    let value : c.as_str.result.now ≡ text (view c.args.value.now) =
    c.as_str.ensures.value ∙ c.in_ok-value_text.ensures.text (has_float-is_whole (view c.args.value.now) c.requires) in
    let Added : List ℕ → Type 0 = λ x.
    OnOk c.push_member.result (string_bytes c.push_member.new.out ≡ string_bytes c.args.out.now ++ (comma_if c.args.later ++ (text (string c.args.name.now) ++ 58 ∷ x)))
    in
    subst Added value c.push_member.ensures
