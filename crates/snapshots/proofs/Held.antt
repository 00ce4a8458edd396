-- What is held of objects that entries keep.
use Rattle.std.proofs.Common.{◌≡◌, ◌∙◌, sym, ap, subst, refl, Bool, true, ◌+◌, ◌<◌, ◌≤◌, ◌^◌, ℕ, List, [], ◌∷◌, ◌++◌, map, drop, length, get_or, append_assoc, Option, Some}
use Rattle.std.proofs.lemmas.List.{drop_more}
use Rattle.std.specs.FinMap.{is_sorted}
use Rattle.std.specs.List.{AllByRecursion}
use Rattle.names.specs.declared.resource.Resource.{Resource}
use Rattle.names.specs.Key.{Key, key_cmp}
use Rattle.objects.specs.Objects.{value_at, with_value}
use Rattle.objects.proofs.Each.{one_each}
use Rattle.objects.specs.Merged.{merged}
use Rattle.documents.specs.Document.{Document}
use Rattle.histories.specs.declared.stored.Stored.{Stored}
use Rattle.histories.specs.View.{View}
use Rattle.holdings.specs.Holdings.{State, Shows}
use Rattle.expressions.specs.Specification.{plans_bytes, MayHavePlans}
use Rattle.expressions.proofs.StoredLists.{one_stored_list}
use Rattle.records.specs.Holding.{IsStorableObject, HasFewPlans}
use Rattle.records.specs.EntryLaws.{bytes_beside}
use Rattle.records.specs.Reading.{IsStorableStored}
use Rattle.decoded.specs.Decoded.{Decoded, spelled}
use Rattle.snapshots.specs.LyingBelow.{puts_of, below_at, HasThoseBelow}
use Rattle.snapshots.specs.Keeping.{held_plans, IsHeldObject}
use Rattle.snapshots.specs.Restoring.{in_bytes, IsSpelled, IsHeldOf, AreHeldOf, HasTaken, with_objects}
use Rattle.snapshots.proofs.LyingBelow.{puts_last, merged_last, found_last}
use Rattle.snapshots.proofs.InBytes.{sorted_in_bytes}
use Rattle.snapshots.proofs.Sorted.{sorted_front}

abbrev pub Object : Type 0
Object = Key × Stored Decoded

abbrev pub Kept : Type 0
Kept = Key × Stored (List ℕ)

abbrev pub Core : Type 0
Core = State Decoded

-- at most one object is held of what is kept of it
one_held : (o p : Object) → IsSpelled o → IsSpelled p → in_bytes held_plans o ≡ in_bytes held_plans p → o ≡ p
one_held o p a b same =
    let key : o.0 ≡ p.0 = ap (λ (x : Kept). x.0) same in
    let document : o.1.document ≡ p.1.document = ap (λ (x : Kept). x.1.document) same in
    let revision : o.1.revision ≡ p.1.revision = ap (λ (x : Kept). x.1.revision) same in
    let May : Key → Document → Type 0 = λ k d. MayHavePlans k.resource d.json p.1.beside.plans in
    let there : May o.0 o.1.document = subst (λ k. May k o.1.document) (sym key) (subst (May p.0) (sym document) b.plans) in
    let bytes : plans_bytes o.0.resource o.1.beside.plans ≡ plans_bytes o.0.resource p.1.beside.plans =
    ap (λ (x : Kept). x.1.beside) same ∙ ap (λ (k : Key). plans_bytes k.resource p.1.beside.plans) (sym key) in
    let plans : o.1.beside.plans ≡ p.1.beside.plans = one_stored_list o.0.resource o.1.document.json o.1.beside.plans p.1.beside.plans a.plans there bytes in
    let beside : o.1.beside ≡ p.1.beside = a.beside ∙ (λ i. spelled (document i).json (plans i)) ∙ sym b.beside in
    λ i. (key i, record { document = document i; beside = beside i; revision = revision i })

pub one_held_list : (os ps : List Object) (kept : List Kept) → AreHeldOf os kept → AreHeldOf ps kept → os ≡ ps
one_held_list os ps kept a b = one_each IsSpelled (in_bytes held_plans) one_held os ps a.spelled b.spelled (a.are ∙ sym b.are)

-- where objects are held of all that is kept, one is held of each
held_at : (os : List Object) (done : List Kept) (kept : Kept) (next : List Kept) → AllByRecursion IsSpelled os → map (in_bytes held_plans) os ≡ done ++ kept ∷ next
    → (o : Object) × IsHeldOf o kept
held_at [] [] kept next spelled are = cc
held_at [] (d ∷ done) kept next spelled are = cc
held_at (o ∷ os) [] kept next spelled are = let head : in_bytes held_plans o ≡ kept = cc in (o, record { is = head; spelled = spelled.0 })
held_at (o ∷ os) (d ∷ done) kept next spelled are =
    let rest : map (in_bytes held_plans) os ≡ done ++ kept ∷ next = cc in
    held_at os done kept next spelled.1 rest

key_kept : (o : Object) (kept : Kept) → IsHeldOf o kept → o.0 ≡ kept.0
key_kept o kept held = ap (λ (x : Kept). x.0) held.is

all_push : {A : Type 0} (Q : A → Type 0) (xs : List A) (x : A) → AllByRecursion Q xs → Q x → AllByRecursion Q (xs ++ x ∷ [])
all_push Q [] x all new = (new, tt)
all_push Q (y ∷ xs) x all new = (all.0, all_push Q xs x all.1 new)

map_push : {A B : Type 0} (f : A → B) (xs : List A) (x : A) → map f (xs ++ x ∷ []) ≡ map f xs ++ f x ∷ []
map_push f [] x = refl
map_push f (y ∷ xs) x = ap (λ ys. f y ∷ ys) (map_push f xs x)

bytes_push : (xs : List Object) (done : List Kept) (o : Object) (kept : Kept) → AreHeldOf xs done → IsHeldOf o kept
    → map (in_bytes held_plans) (xs ++ o ∷ []) ≡ done ++ kept ∷ []
bytes_push xs done o kept all new = map_push (in_bytes held_plans) xs o ∙ (λ i. all.are i ++ new.is i ∷ [])

-- where what is kept ascends, so does what is held of it, and one more
sorted_push : (xs : List Object) (done : List Kept) (o : Object) (kept : Kept) (next : List Kept) → AreHeldOf xs done → IsHeldOf o kept
    → is_sorted key_cmp (done ++ kept ∷ next) ≡ true → is_sorted key_cmp (xs ++ o ∷ []) ≡ true
sorted_push xs done o kept next all new ascend =
    sym (sorted_in_bytes held_plans (xs ++ o ∷ []))
    ∙ ap (λ (ks : List Kept). is_sorted key_cmp ks) (bytes_push xs done o kept all new)
    ∙ sorted_front done kept next ascend

-- one more is held
held_push : (xs : List Object) (done : List Kept) (o : Object) (kept : Kept) → AreHeldOf xs done → IsHeldOf o kept → is_sorted key_cmp (xs ++ o ∷ []) ≡ true
    → AreHeldOf (xs ++ o ∷ []) (done ++ kept ∷ [])
held_push xs done o kept all new sorted = record {
  are = bytes_push xs done o kept all new;
  spelled = all_push IsSpelled xs o all.spelled new.spelled;
  ascends = sorted;
}

-- objects that entries can hold are held as they may be
all_held : (os : List Object) (kept : List Kept) → map (in_bytes held_plans) os ≡ kept → AllByRecursion IsSpelled os → AllByRecursion IsStorableStored kept
    → AllByRecursion (HasFewPlans bytes_beside) kept → AllByRecursion IsHeldObject os
all_held [] kept are all can few = tt
all_held (o ∷ os) [] are all can few = cc
all_held (o ∷ os) (k ∷ ks) are all can few =
    let head : in_bytes held_plans o ≡ k = cc in
    let rest : map (in_bytes held_plans) os ≡ ks = cc in (
      record {
        storable = subst (λ (x : Kept). IsStorableObject x.0 x.1.document x.1.revision) (sym head) can.0;
        plans = all.0.plans;
        few = subst (λ (x : Kept). length x.1.beside ≤ 2 ^ 30) (sym head) few.0.1;
        beside = all.0.beside;
      },
      all_held os ks rest all.1 can.1 few.1,
    )

pub held_objects : (os : List Object) (kept : List Kept) → AreHeldOf os kept → AllByRecursion IsStorableStored kept → AllByRecursion (HasFewPlans bytes_beside) kept
    → AllByRecursion IsHeldObject os
held_objects os kept held can few = all_held os kept held.are held.spelled can few

-- the next of those that are left
pub at_index : (ks : List Kept) (i : ℕ) (k : Kept) → i < length ks → k ≡ get_or ks i k → drop i ks ≡ k ∷ drop (i + 1) ks
at_index ks i k inside is = drop_more ks i k inside ∙ ap (λ (x : Kept). x ∷ drop (i + 1) ks) (sym is)

all_front : {A : Type 0} (Q : A → Type 0) (xs : List A) (x : A) → AllByRecursion Q (xs ++ x ∷ []) → AllByRecursion Q xs
all_front Q [] x all = tt
all_front Q (y ∷ xs) x all = (all.0, all_front Q xs x all.1)

all_last : {A : Type 0} (Q : A → Type 0) (xs : List A) (x : A) → AllByRecursion Q (xs ++ x ∷ []) → Q x
all_last Q [] x all = all.0
all_last Q (y ∷ xs) x all = all_last Q xs x all.1

-- These are restored so far, in front of those that are left.
pub record HoldsSome (lies : Resource → Bool) (start now : Core) (all left : List Kept) : Type 0 where
  pub done : List Kept
  pub parts : done ++ left ≡ all
  pub objects : List Object
  pub held : AreHeldOf objects done
  pub made : now.changes.made ≡ puts_of objects
  pub shows : (base : List Object) (v : View Decoded) → Shows start base v → HasThoseBelow lies objects base
      → Shows now base (with_objects v (merged (puts_of objects) base))

pub holds_none : (lies : Resource → Bool) (start : Core) (all : List Kept) → start.changes.made ≡ [] → HoldsSome lies start start all all
holds_none lies start all none = record {
  done = [];
  parts = refl;
  objects = [];
  held = record { are = refl; spelled = tt; ascends = refl };
  made = none;
  shows = λ base v shows there.
      let same : v.objects ≡ base = sym shows.objects.are ∙ ap (λ (cs : List (Key × Option (Stored Decoded))). merged cs base) none in
      subst (Shows start base) (λ i. record { objects = same i; revision = v.revision; events = v.events }) shows;
}

pub holds_more : (lies : Resource → Bool) (start now new : Core) (all left : List Kept) (kept : Kept) (rest : List Kept) (s : Stored Decoded)
    → is_sorted key_cmp all ≡ true → HoldsSome lies start now all left → left ≡ kept ∷ rest → IsHeldOf (kept.0, s) kept → HasTaken lies now new (kept.0, s)
    → HoldsSome lies start new all rest
holds_more lies start now new all left kept rest s ascend some step one taken =
    let o : Object = (kept.0, s) in
    let parts : some.done ++ kept ∷ rest ≡ all = ap (λ (ks : List Kept). some.done ++ ks) (sym step) ∙ some.parts in
    let sorted : is_sorted key_cmp (some.objects ++ o ∷ []) ≡ true =
    sorted_push some.objects some.done o kept rest some.held one (ap (λ (ks : List Kept). is_sorted key_cmp ks) parts ∙ ascend)
    in
    record {
      done = some.done ++ kept ∷ [];
      parts = append_assoc some.done (kept ∷ []) rest ∙ parts;
      objects = some.objects ++ o ∷ [];
      held = held_push some.objects some.done o kept some.held one sorted;
      made = taken.made ∙ ap (with_value o.0 (Some o.1)) some.made ∙ sym (puts_last some.objects o sorted);
      shows = λ base v before there.
          let Under : Object → Type 0 = λ x. value_at x.0 base ≡ below_at lies x in
          let so_far : Shows now base (with_objects v (merged (puts_of some.objects) base)) =
          some.shows base v before (all_front Under some.objects o there)
          in
          let found : value_at o.0 (merged (puts_of some.objects) base) ≡ below_at lies o =
          found_last some.objects o base sorted ∙ all_last Under some.objects o there
          in
          subst (λ (os : List Object). Shows new base (with_objects v os)) (sym (merged_last some.objects o base so_far.objects.ascends sorted))
          (taken.shows base (with_objects v (merged (puts_of some.objects) base)) so_far found);
    }

-- Where objects are held of all, one is held of the next.
pub holds_next : (lies : Resource → Bool) (start now : Core) (all left : List Kept) (kept : Kept) (rest : List Kept) (os : List Object)
    → HoldsSome lies start now all left → left ≡ kept ∷ rest → AreHeldOf os all → (s : Stored Decoded) × IsHeldOf (kept.0, s) kept
holds_next lies start now all left kept rest os some step are =
    let found = held_at os some.done kept rest are.spelled (are.are ∙ sym some.parts ∙ ap (λ (ks : List Kept). some.done ++ ks) step) in
    let o : Object = found.0 in
    let same : o ≡ (kept.0, o.1) = λ i. (key_kept o kept found.1 i, o.1) in
    (o.1, subst (λ (p : Object). IsHeldOf p kept) same found.1)
