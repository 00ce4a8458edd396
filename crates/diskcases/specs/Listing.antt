-- What a listing was told.
use Rattle.std.specs.Prelude.{◌≡◌, List, [], ◌++◌}
use Rattle.std.proofs.Common.{sym, ap, ◌∙◌, append_assoc}
use Rattle.std.proofs.lemmas.List.{append-nil}
use Rattle.pages.specs.Page.{Entry}
use Rattle.diskcases.specs.declared.scan_lines.Listing.{Listing}

abbrev pub IsTold : Listing → Listing → List Entry → Type 0
IsTold old new entries = new.entries.items ≡ old.entries.items ++ entries

pub told_none : (listing : Listing) → IsTold listing listing []
told_none listing = sym (append-nil listing.entries.items)

pub told_then : (old mid new : Listing) (front back : List Entry) → IsTold old mid front → IsTold mid new back → IsTold old new (front ++ back)
told_then old mid new front back first second =
    second ∙ ap (λ (entries : List Entry). entries ++ back) first ∙ append_assoc old.entries.items front back
