use Rattle.std.proofs.Common.{◌≡◌, ◌++◌, map, drop, string_bytes}
use Rattle.std.specs.List.{flat_map}
use Rattle.verdict.specs.Texts.{printable, escaped}
use Rattle.verdict.proofs.texts.quoted.Given as goal

-- what was written, and then the rest
abbrev pub invariant-loop-character : goal.invariant-loop-character
invariant-loop-character l =
    string_bytes l.text ++ flat_map escaped (map printable (drop l.character-index l.characters)) ≡ flat_map escaped (map printable l.characters)
