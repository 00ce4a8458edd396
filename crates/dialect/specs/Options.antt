-- The options in the body of a DELETE that ask for nothing here (Kubernetes API, meta/v1, "DeleteOptions").
use Rattle.std.specs.Prelude.{ℕ, Bool, false, not, List, [], ◌∷◌, ◌||◌, codes, if◌then◌else◌, is_some, option_and_then}
use Rattle.std.specs.Str.{bytes_eq}
use Rattle.serde_json.specs.Data.{Data}
use Rattle.serde_json.specs.Find.{get, as_str}
use Rattle.std.specs.Option.{option_map_or}
use Rattle.jsondoc.specs.Json.{Reading, not_json, not_whole, document, reading, text, without_member}

-- the options are of another version of the API than `v1`: what they say is the same
abbrev pub has_other_version : Data → Bool
has_other_version options = option_map_or (λ version. not (bytes_eq (codes "v1") version)) (option_and_then as_str (get (codes "apiVersion") options)) false

-- the version, where it is another
abbrev pub without_other_version : Data → Data
without_other_version options = if has_other_version options then without_member (codes "apiVersion") options else options

-- some option asks for nothing here
abbrev pub has_idle_option : Data → Bool
has_idle_option options =
    is_some (get (codes "propagationPolicy") options)
    || (is_some (get (codes "gracePeriodSeconds") options)
    || (is_some (get (codes "orphanDependents") options)
    || has_other_version options))

-- without them
abbrev pub kept_options : Data → Data
kept_options options =
    without_member (codes "propagationPolicy")
    (without_member (codes "gracePeriodSeconds") (without_member (codes "orphanDependents") (without_other_version options)))

abbrev options_text : (body : List ℕ) → Reading → List ℕ
options_text body not_json = body
options_text body not_whole = body
options_text body (document options) = if has_idle_option options then text (kept_options options) else body

-- The body of a DELETE without them. One that has none, or is no document, stays as it is.
abbrev pub restated_options : (body : List ℕ) → List ℕ
restated_options [] = []
restated_options (b ∷ bs) = options_text (b ∷ bs) (reading (b ∷ bs))
