-- The text of a revision (Kubernetes API concepts, "Resource versions": a version is opaque, and is compared for equality alone).
use Rattle.std.specs.Prelude.{ℕ, List, Bool, decimal}
use Rattle.std.specs.Str.{bytes_eq}

-- the text is that of a revision: texts are compared, not numbers
abbrev pub is_text_of : (revision : ℕ) → (text : List ℕ) → Bool
is_text_of revision text = bytes_eq text (decimal revision)
