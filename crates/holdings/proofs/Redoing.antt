-- Writes that were stored, taken again over what is shown.
use Rattle.std.proofs.Common.{◌≡◌, ℕ, ◌+◌, ◌<◌, ◌∙◌, refl, sym, ap, subst, nat_le, Bool, true, false, not, cond, ◌&&◌, ◌||◌, IsTrue, List, length, is_some, Option, Some, None, option_map, inl, inr, ⊎_elim, arith}
use Rattle.std.proofs.lemmas.Bool.{false≢true}
use borrow.Author.Tests.{ltb-true, ltb-false, leb-true, leb-false}
use Rattle.std.specs.FinMap.Entries.{find-put}
use Rattle.std.specs.Option.{option_map_or}
use Rattle.std.specs.Ordering.{is_eq}
use Rattle.serde_json.specs.Data.{null}
use Rattle.jsondoc.specs.Json.{text}
use Rattle.names.specs.declared.format.Rules.{Rules}
use Rattle.names.specs.Format.{has_resource}
use Rattle.names.specs.Key.{Key, key_cmp}
use Rattle.names.specs.KeyLaws.{key_cmp_total}
use Rattle.objects.specs.Objects.{value_at, with_value}
use Rattle.documents.specs.Document.{Document}
use Rattle.window.specs.declared.event.Change.TheVariants.{Added, Modified}
use Rattle.documents.specs.Form.{HasForm}
use Rattle.histories.specs.declared.stored.Stored.{Stored}
use Rattle.histories.specs.History.{put, delete}
use Rattle.histories.specs.View.{View, stored_at, exists, is_too_large, is_full, is_exhausted, after, after_all, MayPut, MayDelete}
use Rattle.holdings.specs.declared.source.FoundDocument.{FoundDocument}
use Rattle.holdings.specs.Holdings.{State, Shows, ShowsSame}
use Rattle.holdings.specs.Known.{KnowsSame}
use Rattle.holdings.specs.Prepared.{puts, IsNextPut, IsNextDeletion}
use Rattle.holdings.specs.Sources.{found_in}
use Rattle.holdings.specs.Writes.{Put, Deletion}
use Rattle.holdings.proofs.Showing.{some_same}

pub revision_left : (greatest revision : ℕ) (served large exhausted stands full : Bool) → exhausted ≡ nat_le greatest revision
    → (served && not large && not exhausted && (stands || not full)) ≡ true → revision < greatest
revision_left greatest revision false large exhausted stands full is holds = absurd (false≢true holds)
revision_left greatest revision true true true stands full is holds = absurd (false≢true holds)
revision_left greatest revision true true false stands full is holds = absurd (false≢true holds)
revision_left greatest revision true false true stands full is holds = absurd (false≢true holds)
revision_left greatest revision true false false stands full is holds = leb-false greatest revision (sym is)

none_of_either : {Y : Type 0} (b : Bool) (y : Y) (o : Option Y) → cond b (Some y) o ≡ None → o ≡ None
none_of_either true y o is = cc
none_of_either false y o is = is

-- a key that has no value after a put had none before
none_before : {Y : Type 0} (q k : Key) (y : Y) (old new : List (Key × Y)) → new ≡ with_value k y old → value_at q new ≡ None → value_at q old ≡ None
none_before q k y old new made none =
    none_of_either (is_eq (key_cmp q k)) y (value_at q old) (sym (find-put key_cmp key_cmp_total q k y old) ∙ ap (value_at q) (sym made) ∙ none)

module _ {P : Type 0} where
  -- ---- what memory knows

  -- one change more
  pub made_put : (old now : State P) (k : Key) (value : Option (Stored P)) (entry : Key × Option (Stored P)) (made : List (Key × Option (Stored P))) → old ≡ now → entry ≡ (k, value)
      → made ≡ with_value entry.0 entry.1 old.changes.made → made ≡ with_value k value now.changes.made
  made_put old now k value entry made same is are =
      are ∙ ap (λ (e : Key × Option (Stored P)). with_value e.0 e.1 old.changes.made) is ∙ ap (λ (st : State P). with_value k value st.changes.made) same

  -- leaves known what was known, as none does
  pub knows_made : (old mid new : State P) (k : Key) (value : Option (Stored P)) → mid.changes.made ≡ old.changes.made → new.changes.made ≡ with_value k value mid.changes.made
      → KnowsSame old new
  knows_made old mid new k value same made base key known none =
      known (ap (value_at key) (sym same) ∙ none_before key k value mid.changes.made new.changes.made made none)

  pub knows_same : (old new : State P) → new.changes.made ≡ old.changes.made → KnowsSame old new
  knows_same old new same base key known none = known (ap (value_at key) (sym same) ∙ none)

  -- ---- what may be put

  may_from_test : (rules : Rules) (v : View P) (k : Key) (d : Document) (large exhausted stands full : Bool) → HasForm k d → has_resource rules.format k.resource ≡ true
      → large ≡ is_too_large rules d → exhausted ≡ is_exhausted rules v
      → stands ≡ exists v k → full ≡ is_full rules v → (not large && not exhausted && (stands || not full)) ≡ true → MayPut rules v k d
  may_from_test rules v k d true true stands full form served size revision there room holds = absurd (false≢true holds)
  may_from_test rules v k d true false stands full form served size revision there room holds = absurd (false≢true holds)
  may_from_test rules v k d false true stands full form served size revision there room holds = absurd (false≢true holds)
  may_from_test rules v k d false false true full form served size revision there room holds = record {
    form = form;
    served = served;
    size = ltb-false rules.text_limit_bytes (length (text d.json)) (sym size);
    room = inl (sym there);
    revision = leb-false rules.greatest_revision v.revision (sym revision);
  }
  may_from_test rules v k d false false false true form served size revision there room holds = absurd (false≢true holds)
  may_from_test rules v k d false false false false form served size revision there room holds = record {
    form = form;
    served = served;
    size = ltb-false rules.text_limit_bytes (length (text d.json)) (sym size);
    room = inr (leb-false rules.object_limit (length v.objects) (sym room));
    revision = leb-false rules.greatest_revision v.revision (sym revision);
  }

  may_where_served : (rules : Rules) (v : View P) (k : Key) (d : Document) (served large exhausted stands full : Bool) → HasForm k d → served ≡ has_resource rules.format k.resource
      → large ≡ is_too_large rules d → exhausted ≡ is_exhausted rules v
      → stands ≡ exists v k → full ≡ is_full rules v → (served && not large && not exhausted && (stands || not full)) ≡ true → MayPut rules v k d
  may_where_served rules v k d true large exhausted stands full form served size revision there room holds =
      may_from_test rules v k d large exhausted stands full form (sym served) size revision there room holds
  may_where_served rules v k d false large exhausted stands full form served size revision there room holds = absurd (false≢true holds)

  test_from_may : (rules : Rules) (v : View P) (k : Key) (d : Document) (large exhausted stands full : Bool) → large ≡ is_too_large rules d → exhausted ≡ is_exhausted rules v
      → stands ≡ exists v k → full ≡ is_full rules v → MayPut rules v k d → (not large && not exhausted && (stands || not full)) ≡ true
  test_from_may rules v k d true exhausted stands full size revision there room may =
      absurd (omega (arith, ltb-true rules.text_limit_bytes (length (text d.json)) (sym size), may.size))
  test_from_may rules v k d false true stands full size revision there room may =
      absurd (omega (arith, leb-true rules.greatest_revision v.revision (sym revision), may.revision))
  test_from_may rules v k d false false true full size revision there room may = refl
  test_from_may rules v k d false false false false size revision there room may = refl
  test_from_may rules v k d false false false true size revision there room may =
      ⊎_elim (λ stands. there ∙ stands) (λ below. absurd (omega (arith, leb-true rules.object_limit (length v.objects) (sym room), below))) may.room

  pub may_put_shown : (rules : Rules) (v : View P) (k : Key) (d : Document) (served large exhausted stands full result : Bool) → HasForm k d
      → served ≡ has_resource rules.format k.resource → large ≡ is_too_large rules d
      → exhausted ≡ is_exhausted rules v → stands ≡ exists v k → full ≡ is_full rules v → result ≡ (served && not large && not exhausted && (stands || not full))
      → (IsTrue result → MayPut rules v k d) × (MayPut rules v k d → IsTrue result)
  may_put_shown rules v k d served large exhausted stands full result form known size revision there room is = (
    (λ holds. may_where_served rules v k d served large exhausted stands full form known size revision there room (sym is ∙ holds)),
    (λ may. is ∙ ap (λ b. b && not large && not exhausted && (stands || not full)) (known ∙ may.served)
        ∙ test_from_may rules v k d large exhausted stands full size revision there room may),
  )

  -- ---- a put

  pub shows_redone_put : (old mid new : State P) (base : List (Key × Stored P)) (v : View P) (k : Key) (d : Document) (b : P) (stands : Bool) (p : Put P)
      → Shows old base v → ShowsSame old mid → mid.rules ≡ old.rules
      → p ≡ record { key = k; stored = Some (record { document = d; beside = b; revision = old.revision + 1 }); change = cond stands Modified Added }
      → stands ≡ exists v k → (Shows mid base v → IsNextPut v p → Shows new base (after_all mid.rules v (puts p.key p.stored)))
      → Shows new base (after old.rules v (put k d b))
  shows_redone_put old mid new base v k d b stands p shows same rules is there taken =
      let s : Stored P = record { document = d; beside = b; revision = old.revision + 1 } in
      let made : Put P = record { key = k; stored = Some s; change = cond stands Modified Added } in
      let next : IsNextPut v made = record {
        put = s;
        stored = refl;
        revision = ap (λ n. n + 1) shows.revision;
        change = ap (λ stands. cond stands Modified Added) there;
      }
      in
      let seen : Shows new base (after_all mid.rules v (puts p.key p.stored)) = taken (same base v shows) (subst (λ (q : Put P). IsNextPut v q) (sym is) next) in
      let shown : Shows new base (after mid.rules v (put k d b)) = subst (λ (q : Put P). Shows new base (after_all mid.rules v (puts q.key q.stored))) is seen in
      subst (λ (r : Rules). Shows new base (after r v (put k d b))) rules shown

  -- ---- a deletion

  found_there : (o : Option (Stored P)) (found : FoundDocument) → Some found ≡ option_map found_in o
      → (is_some o ≡ true) × (found.document ≡ option_map_or (λ s. s.document) o (record { json = null }))
  found_there None found is = absurd (some_not_none found is)
    where
      some_not_none : (found : FoundDocument) → Some found ≡ None → ⊥
      some_not_none found is = cc
  found_there (Some s) found is = (refl, ap (λ (f : FoundDocument). f.document) (some_same found (found_in s) is))

  pub nothing_there : (o : Option (Stored P)) → None ≡ option_map found_in o → is_some o ≡ true → ⊥
  nothing_there None is holds = false≢true holds
  nothing_there (Some s) is holds = none_not_some (found_in s) is
    where
      none_not_some : (found : FoundDocument) → None ≡ Some found → ⊥
      none_not_some found is = cc

  pub may_delete_shown : (old : State P) (base : List (Key × Stored P)) (v : View P) (k : Key) (found : FoundDocument) → Shows old base v → old.revision < old.rules.greatest_revision
      → Some found ≡ option_map found_in (stored_at v k) → MayDelete old.rules v k
  may_delete_shown old base v k found shows left is = record {
    object = (found_there (stored_at v k) found is).0;
    revision = subst (λ n. n < old.rules.greatest_revision) shows.revision left;
  }

  pub shows_redone_deletion : (old mid new : State P) (base : List (Key × Stored P)) (v : View P) (k : Key) (found : FoundDocument) (x : Deletion)
      → Shows old base v → ShowsSame old mid → mid.rules ≡ old.rules → x ≡ record { key = k; document = found.document } → Some found ≡ option_map found_in (stored_at v k)
      → (Shows mid base v → IsNextDeletion v x → Shows new base (after mid.rules v (delete x.key)))
      → Shows new base (after old.rules v (delete k))
  shows_redone_deletion old mid new base v k found x shows same rules is there taken =
      let stood = found_there (stored_at v k) found there in
      let made : Deletion = record { key = k; document = found.document } in
      let next : IsNextDeletion v made = record { there = stood.0; document = stood.1 } in
      let seen : Shows new base (after mid.rules v (delete x.key)) = taken (same base v shows) (subst (λ (y : Deletion). IsNextDeletion v y) (sym is) next) in
      let shown : Shows new base (after mid.rules v (delete k)) = subst (λ (y : Deletion). Shows new base (after mid.rules v (delete y.key))) is seen in
      subst (λ (r : Rules). Shows new base (after r v (delete k))) rules shown

  -- no revision is left
  pub none_left : (rules : Rules) (v : View P) (exhausted : Bool) → exhausted ≡ is_exhausted rules v → exhausted ≡ true → v.revision < rules.greatest_revision → ⊥
  none_left rules v exhausted is holds left = omega (arith, leb-true rules.greatest_revision v.revision (sym is ∙ holds), left)
