use Rattle.std.proofs.Common.{◌≡◌, ◌++◌, ◌∷◌, true, false, string_bytes}
use Rattle.serde_json.specs.Data.{Data, put}
use Rattle.serde_json.specs.View.{members_view}
use Rattle.serde_json.specs.Written.{members_text}
use Rattle.jsondoc.specs.Json.{text, members_are_whole}
use Rattle.jsondoc.specs.Texts.{left_text}
use Rattle.jsondoc.proofs.texts.text_of_members.Given as goal

-- what is left to write decides
abbrev pub invariant-loop-name : goal.invariant-loop-name
invariant-loop-name l =
    ((value : Data) → l.new.text.now ≡ text value
    → string_bytes l.out ++ left_text l.is_put l.later l.new.name.now value (members_view l.name-iterator)
    ≡ 123 ∷ members_text false (put l.new.name.now value (members_view l.members.entries)))
    × (members_are_whole (members_view l.name-iterator) ≡ true)
