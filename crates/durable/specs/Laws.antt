-- Laws of contents.
use Rattle.std.specs.Prelude.{◌≡◌, ℕ, List, [], ◌++◌, map}
use Rattle.names.specs.declared.format.Rules.{Rules}
use Rattle.decoded.specs.Decoded.{Decoded}
use Rattle.decoded.specs.Shown.{Shows}
use Rattle.decoded.specs.Standing.{History, IsHistory, IsView, with_plans, write_with_plans}
use Rattle.histories.specs.View as seen
use Rattle.histories.specs.View.{view}
use Rattle.names.specs.declared.format.Format.{Format}
use Rattle.roots.specs.NewStore.{new_content, first_label}
use Rattle.durable.specs.Opened.{IsRedone}
use Rattle.durable.specs.Rules.{rules_by}
use Rattle.durable.specs.Stands.{StandsFor}

-- A content stands for histories of one view, under the numbers of one format.
abbrev pub AtMostOneView : Type 0
AtMostOneView =
    (first second : Rules) (content : List ℕ) (g h : History) → StandsFor first content g → StandsFor second content h
    → (first ≡ second) × (view first g ≡ view second h)

-- The nine sectors of a new store stand for the history without writes.
abbrev pub NewStandsForNothing : Type 0
NewStandsForNothing = (format : Format) → StandsFor (rules_by (first_label format)) (new_content format) []

-- What was read of a checkpoint that keeps a history, and of the writes after it, with the plans of their trees, shows the view of that history
-- and those writes.
abbrev pub RedoneIsShown : Type 0
RedoneIsShown =
    (rules : Rules) (held : seen.View Decoded) (base ws : History) → IsHistory rules (base ++ ws) → (is : IsRedone rules held)
    → is.base ≡ with_plans (view rules base) → is.writes ≡ map write_with_plans ws
    → Shows held (view rules (base ++ ws)) × IsView rules.format (view rules (base ++ ws))
