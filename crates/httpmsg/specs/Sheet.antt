-- What a sheet has gathered.
use Rattle.std.specs.Prelude.{◌≡◌, ℕ, List, [], ◌++◌, take}
use Rattle.std.proofs.Common.{sym, ◌∙◌, ap}
use Rattle.std.proofs.lemmas.List.{append-nil, append_assoc}
use Rattle.httpmsg.specs.declared.sheet.Sheet.{Sheet}

abbrev pub gathered : Sheet → List ℕ
gathered s = take s.len s.room.items

pub gathers_none : (s : Sheet) → gathered s ≡ gathered s ++ []
gathers_none s = sym (append-nil (gathered s))

pub gathers_then : (old mid new : Sheet) (front back : List ℕ) → gathered mid ≡ gathered old ++ front → gathered new ≡ gathered mid ++ back
    → gathered new ≡ gathered old ++ (front ++ back)
gathers_then old mid new front back first second =
    second ∙ ap (λ x. x ++ back) first ∙ append_assoc (gathered old) front back
