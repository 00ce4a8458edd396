-- The one object of a resource in a namespace that has a name.
use Rattle.std.proofs.Common.{◌≡◌, ◌∙◌, sym, ap, refl, List, [], ◌∷◌, map, Bool, true, false, cond, ◌&&◌, ◌==◌, option_map, Option, Some, None, IsTrue}
use Rattle.std.proofs.lemmas.Bool.{and_parts}
use Rattle.std.proofs.lemmas.Cmp.{eq_by_cmp_equiv}
use Rattle.std.proofs.lemmas.Map.Text.{is_eq-slice_cmp}
use Rattle.std.specs.Cmp.{both_tied, unsigned_tied}
use Rattle.std.specs.FinMap.{is_sorted}
use Rattle.std.specs.FinMap.Entries.{below_all}
use Rattle.std.specs.List.{filter, cons_option}
use Rattle.std.specs.Ordering.{eq_by_cmp}
use Rattle.std.specs.Str.{bytes_eq}
use Rattle.serde_json.specs.Data.{Data}
use Rattle.documents.specs.Document.{shown}
use Rattle.names.specs.Key.{Key, key_cmp, key_of, is_key}
use Rattle.names.specs.KeyLaws.{key_cmp_total}
use Rattle.names.specs.Resource.{row}
use Rattle.names.specs.declared.resource.Resource.{Resource}
use Rattle.objects.specs.Objects.{value_at, is_of}
use Rattle.objects.proofs.Taking.{same_key}
use Rattle.histories.specs.declared.stored.Stored.{Stored}
use Rattle.holdings.specs.Sources.{found_in}
use Rattle.holdings.specs.declared.source.FoundDocument.{FoundDocument}
use Rattle.policy.specs.Forms.{Text}
use Rattle.policy.specs.Spec.{Wanted, by_name, by_selector}
use Rattle.verdict.specs.Objects.{Object, Objects, Held, held, all_held, shown_objects}
use Rattle.verdict.specs.Listed.{Shown, listed, is_wanted, wanted_of}
use Rattle.verdict.proofs.LookupStanding.{value_at-map}
use Rattle.decoded.specs.Decoded.{Decoded}
use Rattle.apicore.specs.StoreLookups.{held_of, entry_held}
use Rattle.apicore.specs.Wanted.{key_wanted, shown_found}
use Rattle.decoded.proofs.Changed.{below_none}
use Rattle.apicore.proofs.Finding.{value_found, sorted_map}

and_assoc : (a b c : Bool) → ((a && b) && c) ≡ (a && (b && c))
and_assoc true b c = refl
and_assoc false b c = refl

-- one entry more, which the test takes or not
picked : (test : Key × Data → Bool) (of : Bool) (o : Key × Data) (os : Shown)
    → map (λ p. p.1) (filter test (cond of (o ∷ os) os)) ≡ cond (of && test o) (o.1 ∷ map (λ p. p.1) (filter test os)) (map (λ p. p.1) (filter test os))
picked test true o os =
    elim (test o) as (λ b. map (λ p. p.1) (cond b (o ∷ filter test os) (filter test os)) ≡ cond b (o.1 ∷ map (λ p. p.1) (filter test os)) (map (λ p. p.1) (filter test os))) [
      | true ↦ refl
      | false ↦ refl
    ]
picked test false o os = refl

one_more : (tied : Bool) (d : Data) (rest : Option Data) (ds : List Data) → ds ≡ cons_option rest [] → (tied ≡ true → rest ≡ None)
    → cond tied (d ∷ ds) ds ≡ cons_option (cond tied (Some d) rest) []
one_more true d rest ds are none = ap (λ (es : List Data). d ∷ es) (are ∙ ap (λ (o : Option Data). cons_option o []) (none refl))
one_more false d rest ds are none = are

module _ (r : Resource) (n name : Text) where
  abbrev own : Key
  own = key_of r n name

  -- a key of these parts is this key
  tied_to_own : (k : Key) → (is_of r (Some n) k && bytes_eq k.name name) ≡ eq_by_cmp key_cmp own k
  tied_to_own k =
      and_assoc ((row k.resource).number == (row r).number) (bytes_eq k.namespace n) (bytes_eq k.name name)
      ∙ both_tied _ _ _ _ (sym (unsigned_tied (row k.resource).number (row r).number))
      (both_tied _ _ _ _ (sym (is_eq-slice_cmp k.namespace n)) (sym (is_eq-slice_cmp k.name name)))
      ∙ (eq_by_cmp_equiv key_cmp_total).symm k own

  -- where the keys ascend, what stands under it is all that is wanted by this name
  pub wanted_named : (os : Shown) → IsTrue (is_sorted key_cmp os) → wanted_of (by_name name) (listed r (Some n) os) ≡ cons_option (value_at own os) []
  wanted_named [] sorted = refl
  wanted_named (o ∷ os) sorted =
      let parts = and_parts (below_all key_cmp o.0 os) (is_sorted key_cmp os) sorted in
      let rest = wanted_named os parts.1 in
      let ds : List Data = wanted_of (by_name name) (listed r (Some n) os) in
      picked (is_wanted (by_name name)) (is_of r (Some n) o.0) o (listed r (Some n) os)
      ∙ ap (λ (b : Bool). cond b (o.1 ∷ ds) ds) (tied_to_own o.0)
      ∙ one_more (eq_by_cmp key_cmp own o.0) o.1 (value_at own os) ds rest
      (λ tied. ap (λ (k : Key). value_at k os) (same_key own o.0 tied) ∙ below_none o.0 os parts.0)

-- ---- what was found, as it is shown

abbrev shown_of : Held → Data
shown_of h = shown h.document h.revision

found_held : (s : Option (Stored Decoded)) → option_map shown_found (option_map found_in s) ≡ option_map shown_of (option_map held_of s)
found_held None = refl
found_held (Some s) = refl

object_held : (o : Option Object) → option_map shown_of (option_map held o) ≡ option_map (λ o. shown o.document o.revision) o
object_held None = refl
object_held (Some o) = refl

-- what was found under the key of a name is what is wanted by it
named_found : (r : Resource) (n name : Text) (os : List (Key × Stored Decoded)) (objects : Objects) (found : Option FoundDocument) → map entry_held os ≡ all_held objects
    → IsTrue (is_sorted key_cmp objects) → found ≡ option_map found_in (value_at (key_of r n name) os)
    → cons_option (option_map shown_found found) [] ≡ wanted_of (by_name name) (listed r (Some n) (shown_objects objects))
named_found r n name os objects found are ascends is =
    let key = key_of r n name in
    let here : option_map shown_found found ≡ value_at key (shown_objects objects) =
    ap (option_map shown_found) is
    ∙ found_held (value_at key os)
    ∙ ap (option_map shown_of) (sym (value_found key os) ∙ ap (λ (hs : List (Key × Held)). value_at key hs) are ∙ value_at-map held key objects)
    ∙ object_held (value_at key objects)
    ∙ sym (value_at-map (λ (o : Object). shown o.document o.revision) key objects)
    in
    ap (λ (o : Option Data). cons_option o []) here
    ∙ sym (wanted_named r n name (shown_objects objects) (sorted_map (λ (o : Object). shown o.document o.revision) objects ∙ ascends))

own_key : (b : Bool) (key own : Key) → Some key ≡ cond b (Some own) None → key ≡ own
own_key true key own is = cc
own_key false key own is = absurd (let never : ◌≡◌ {A = Option Key} (Some key) None = is in cc)

-- where one object is wanted, what was found under its key is all that is wanted
pub key_found : (w : Wanted) (r : Resource) (n : Text) (key : Key) (os : List (Key × Stored Decoded)) (objects : Objects) (found : Option FoundDocument) → Some key ≡ key_wanted r n w
    → map entry_held os ≡ all_held objects → IsTrue (is_sorted key_cmp objects) → found ≡ option_map found_in (value_at key os)
    → cons_option (option_map shown_found found) [] ≡ wanted_of w (listed r (Some n) (shown_objects objects))
key_found (by_name name) r n key os objects found one are ascends is =
    named_found r n name os objects found are ascends
    (is ∙ ap (λ (k : Key). option_map found_in (value_at k os)) (own_key (is_key (key_of r n name)) key (key_of r n name) one))
key_found (by_selector requirements) r n key os objects found one are ascends is = absurd (let never : ◌≡◌ {A = Option Key} (Some key) None = one in cc)
