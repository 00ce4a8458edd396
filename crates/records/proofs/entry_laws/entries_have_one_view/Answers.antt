use Rattle.std.proofs.Common.{List, [], ◌∷◌, ℕ}
use Rattle.std.specs.List.{AllByRecursion}
use Rattle.names.specs.Key.{Key}
use Rattle.histories.specs.declared.stored.Stored.{Stored}
use Rattle.records.specs.EntryLaws.{bytes_beside}
use Rattle.records.proofs.Views.{one_view_of}
use Rattle.records.proofs.entry_laws.entries_have_one_view.Goals as goal

-- nothing more is asked of what stands beside a document
abbrev Any : Key × Stored (List ℕ) → Type 0
Any o = Unit {0}

all_any : (os : List (Key × Stored (List ℕ))) → AllByRecursion Any os
all_any [] = tt
all_any (o ∷ os) = (tt, all_any os)

pub returns : goal.returns
returns c rules v w a b same revision =
    one_view_of bytes_beside rules Any (λ o p s t key document plans. plans) v w a b (all_any v.objects) (all_any w.objects) same revision
