-- Laws of changes over entries.
use Rattle.std.specs.Prelude.{◌≡◌, ℕ, ◌+◌, List, [], Option, None, length, IsTrue}
use Rattle.std.specs.FinMap.{is_sorted}
use Rattle.std.specs.List.{filter}
use Rattle.names.specs.declared.resource.Resource.{Resource}
use Rattle.names.specs.Key.{Key, key_cmp}
use Rattle.objects.specs.Objects.{value_at, with_value, is_of}
use Rattle.objects.specs.Merged.{changed, merged, over}
use Rattle.objects.specs.Covered.{count_of, AreCovered}

-- A key has what was put or removed, and else what it had.
abbrev pub FoundOver : Type 0
FoundOver = (key : Key) (changes : List (Key × Option ℕ)) (base : List (Key × ℕ)) → value_at key (merged changes base) ≡ over (value_at key changes) (value_at key base)

-- One more change changes what the others leave.
abbrev pub ChangeIsOneMore : Type 0
ChangeIsOneMore =
    (key : Key) (change : Option ℕ) (changes : List (Key × Option ℕ)) (base : List (Key × ℕ)) → IsTrue (is_sorted key_cmp base)
    → merged (with_value key change changes) base ≡ changed key change (merged changes base)

-- Of a resource, in one namespace or in all, the changes of it leave what all changes do.
abbrev pub ListedOver : Type 0
ListedOver =
    (resource : Resource) (namespace : Option (List ℕ)) (changes : List (Key × Option ℕ)) (base : List (Key × ℕ)) → IsTrue (is_sorted key_cmp base)
    → filter (λ entry. is_of resource namespace entry.0) (merged changes base)
    ≡ merged (filter (λ change. is_of resource namespace change.0) changes) (filter (λ entry. is_of resource namespace entry.0) base)

-- A change that says what is there already changes nothing.
abbrev pub SameIsNothing : Type 0
SameIsNothing =
    (key : Key) (changes : List (Key × Option ℕ)) (base : List (Key × ℕ)) → IsTrue (is_sorted key_cmp base)
    → merged (with_value key (value_at key (merged changes base)) changes) base ≡ merged changes base

-- A change makes the entries as many more as what it puts, and as many fewer as what was there.
abbrev pub ChangeCounts : Type 0
ChangeCounts =
    (key : Key) (change : Option ℕ) (entries : List (Key × ℕ)) → IsTrue (is_sorted key_cmp entries)
    → length (changed key change entries) + count_of (value_at key entries) ≡ length entries + count_of change

-- Where each entry of a resource has a change, the changes alone say what is found of it,
abbrev pub FoundWhereCovered : Type 0
FoundWhereCovered =
    (resource : Resource) (key : Key) (changes : List (Key × Option ℕ)) (base : List (Key × ℕ)) → AreCovered resource changes base
    → IsTrue (is_of resource None key) → value_at key (merged changes base) ≡ over (value_at key changes) None

-- and what is listed.
abbrev pub ListedWhereCovered : Type 0
ListedWhereCovered =
    (resource : Resource) (changes : List (Key × Option ℕ)) (base : List (Key × ℕ)) → IsTrue (is_sorted key_cmp base) → AreCovered resource changes base
    → filter (λ entry. is_of resource None entry.0) (merged changes base) ≡ merged (filter (λ change. is_of resource None change.0) changes) []
