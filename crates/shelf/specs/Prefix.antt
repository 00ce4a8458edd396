-- Keys that begin with a prefix.
use Rattle.std.specs.Prelude.{ℕ, Bool, List, nat_eq}
use Rattle.std.specs.List.{filter, starts_with}
use Rattle.pages.specs.Page.{Entry}

abbrev pub begins : (prefix key : List ℕ) → Bool
begins prefix key = starts_with nat_eq key prefix

-- the entries whose keys begin so
abbrev pub beginning : (prefix : List ℕ) → List Entry → List Entry
beginning prefix entries = filter (λ entry. begins prefix entry.0) entries
