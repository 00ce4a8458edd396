-- How the parts of a selector are spelled, and what the reading of parts says of it.
use Rattle.std.specs.Prelude.{◌≡◌, ◌⊎◌, ◌↔◌, List, [], ◌∷◌, ◌++◌, ℕ, codes, Some, IsTrue}
use Rattle.documents.specs.Requirement.{Requirement, is_one_of, is_none_of, is_there, is_absent}
use Rattle.requests.specs.Selector.{is_label, is_value, requirement_of}

-- there is one value, and it is such
abbrev pub IsOne : List (List ℕ) → (List ℕ → Type 0) → Type 0
IsOne [] P = ⊥
IsOne (value ∷ []) P = P value
IsOne (value ∷ other ∷ more) P = ⊥

-- the label is a label, and there is one value, which is one, where values are asked for
abbrev pub IsWellFormed : Requirement → Type 0
IsWellFormed (is_one_of label values) = IsTrue (is_label label) × IsOne values (λ value. IsTrue (is_value value))
IsWellFormed (is_none_of label values) = IsTrue (is_label label) × IsOne values (λ value. IsTrue (is_value value))
IsWellFormed (is_there label) = IsTrue (is_label label)
IsWellFormed (is_absent label) = IsTrue (is_label label)

-- the text spells the requirement: `LABEL=VALUE` or `LABEL==VALUE`, `LABEL!=VALUE`, `LABEL`, `!LABEL`
abbrev pub Spells : Requirement → (part : List ℕ) → Type 0
Spells (is_one_of label values) part = IsOne values (λ value. (part ≡ label ++ (codes "=" ++ value)) ⊎ (part ≡ label ++ (codes "==" ++ value)))
Spells (is_none_of label values) part = IsOne values (λ value. part ≡ label ++ (codes "!=" ++ value))
Spells (is_there label) part = part ≡ label
Spells (is_absent label) part = part ≡ codes "!" ++ label

-- A part asks something just where it spells it, and what it asks is well-formed.
abbrev pub PartsAreSpelled : Type 0
PartsAreSpelled = (part : List ℕ) (r : Requirement) → (requirement_of part ≡ Some r) ↔ (IsWellFormed r × Spells r part)
