-- Which of a request's own conditions refuses it, by what the core shows.
use Rattle.std.proofs.Common.{◌≡◌, ◌∙◌, sym, ap, refl, ℕ, List, [], ◌∷◌, ◌++◌, true, false, option_map, Option, Some, None, is_some, if◌then◌else◌}
use Rattle.serde_json.specs.Data.{Data}
use Rattle.celtree.specs.Tree.{Expr}
use Rattle.names.specs.declared.format.Rules.{Rules}
use Rattle.names.specs.Key.{Key}
use Rattle.documents.specs.Document.{shown}
use Rattle.policy.specs.Rules.{Attempt}
use Rattle.policy.specs.declared.match_rules.Operation.TheVariants.{Create, Update, Delete}
use Rattle.requests.specs.Codes.{document_in}
use Rattle.requests.specs.Manifest.{Manifest}
use Rattle.requests.specs.Request.{create, replace, delete}
use Rattle.requests.specs.declared.refusal.Refusal as code_refusal
use Rattle.requests.specs.declared.refusal.Refusal.TheVariants.{AlreadyExists, NotFound, VersionNotCurrent, NamespaceNotEmpty, BadSpec, RevisionExhausted}
use Rattle.histories.specs.History as write
use Rattle.histories.specs.History.{put}
use Rattle.histories.specs.declared.stored.Stored.{Stored}
use Rattle.histories.specs.View as seen
use Rattle.histories.specs.View.{exists, is_exhausted, stored_at}
use Rattle.holdings.specs.Sources.{found_in}
use Rattle.holdings.specs.declared.source.FoundDocument.{FoundDocument}
use Rattle.expressions.specs.Specification.{Specification}
use Rattle.expressions.specs.Specification as stands
use Rattle.decoded.specs.Decoded.{Decoded}
use Rattle.decoded.specs.Shown.{Shows}
use Rattle.decoded.specs.Standing.{View}
use Rattle.apicore.specs.Attempts.{attempt_of}
use Rattle.apicore.specs.Namespaces.{shown_at, namespace_shown, is_in_use}
use Rattle.apicore.specs.Conditions.{Refusal, Condition, known, with_bad_expression, first_of, form_conditions, own_conditions, place_conditions, create_conditions, replace_conditions, delete_conditions, create_limits, replace_limits, update_conflicts, update_conflicts_at, deletion_conflicts}
use Rattle.apicore.specs.Prepared.{put_request}
use Rattle.apicore.specs.declared.placed.Put as code_put
use Rattle.apicore.specs.declared.placed.Put.TheVariants.{Creates, Replaces}
use Rattle.apicore.proofs.First.{none_of_both, refused_alone, none_after, is_there, is_not}
use Rattle.apicore.proofs.Found.{IsFound, replace_found, first_missing}
use Rattle.apicore.proofs.Showing.{exists_shown, shown_at_shown, namespace_shown_shown, place_shown, replace_shown, delete_shown, create_limits_shown, replace_limits_shown}

-- what refuses a creation after the condition for its key, and before it
abbrev pub rest_of : Rules → View → Manifest → Specification Expr → List Condition
rest_of rules v m s = form_conditions s ++ create_limits rules v (document_in m.body)

abbrev pub after_place : Rules → View → Manifest → Specification Expr → List Condition
after_place rules v m s = create_conditions v m.key ++ rest_of rules v m s

abbrev pub replaced_after_place : Rules → View → Manifest → Specification Expr → List Condition
replaced_after_place rules v m s = replace_conditions v m.key m.version ++ (form_conditions s ++ replace_limits rules v (document_in m.body))

module _ (rules : Rules) (held : seen.View Decoded) (m : Manifest) (v : View) (shows : Shows held v) where
  place_at : {x : Option Refusal} → first_of (place_conditions rules held m.key) ≡ x → first_of (place_conditions rules v m.key) ≡ x
  place_at is = sym (ap first_of (place_shown rules held v m.key shows)) ∙ is

  -- for its place
  pub misplaced : (which : code_put.Put) (s : Specification Expr) (r : Refusal) → first_of (place_conditions rules held m.key) ≡ Some r
      → first_of (own_conditions rules v (put_request which m) s) ≡ Some r
  misplaced Creates s r is = refused_alone (place_conditions rules v m.key) (after_place rules v m s) r (place_at is)
  misplaced Replaces s r is = refused_alone (place_conditions rules v m.key) (replaced_after_place rules v m s) r (place_at is)

  -- and after it
  module _ (placed : first_of (place_conditions rules held m.key) ≡ None) where
    later : (s : Specification Expr) → first_of (own_conditions rules v (create m) s) ≡ first_of (after_place rules v m s)
    later s = none_after (place_conditions rules v m.key) (after_place rules v m s) (place_at placed)

    replaced_later : (s : Specification Expr) → first_of (own_conditions rules v (replace m) s) ≡ first_of (replaced_after_place rules v m s)
    replaced_later s = none_after (place_conditions rules v m.key) (replaced_after_place rules v m s) (place_at placed)

    -- ---- creations

    -- where there is an object
    pub create_there : (s : Specification Expr) → exists held m.key ≡ true → first_of (own_conditions rules v (create m) s) ≡ Some (known AlreadyExists)
    create_there s there =
        later s
        ∙ refused_alone (create_conditions v m.key) (rest_of rules v m s) (known AlreadyExists)
        (is_there (exists v m.key) (known AlreadyExists) (sym (exists_shown held v m.key shows) ∙ there))

    create_free : exists held m.key ≡ false → first_of (create_conditions v m.key) ≡ None
    create_free free = is_not (exists v m.key) (known AlreadyExists) (sym (exists_shown held v m.key shows) ∙ free)

    pub create_bad_spec : exists held m.key ≡ false → first_of (own_conditions rules v (create m) stands.bad_spec) ≡ Some (known BadSpec)
    create_bad_spec free = later stands.bad_spec ∙ none_after (create_conditions v m.key) (rest_of rules v m stands.bad_spec) (create_free free)

    pub create_bad_expression : (t : List ℕ) → exists held m.key ≡ false → first_of (own_conditions rules v (create m) (stands.bad_expression t)) ≡ Some (with_bad_expression t)
    create_bad_expression t free = later (stands.bad_expression t) ∙ none_after (create_conditions v m.key) (rest_of rules v m (stands.bad_expression t)) (create_free free)

    create_limits_at : {x : Option Refusal} → x ≡ first_of (create_limits rules held (document_in m.body)) → first_of (create_limits rules v (document_in m.body)) ≡ x
    create_limits_at is = sym (ap first_of (create_limits_shown rules held v (document_in m.body) shows)) ∙ sym is

    pub create_limited : (trees : List Expr) (r : code_refusal.Refusal) → exists held m.key ≡ false → option_map known (Some r) ≡ first_of (create_limits rules held (document_in m.body))
        → first_of (own_conditions rules v (create m) (stands.sound trees)) ≡ Some (known r)
    create_limited trees r free is =
        later (stands.sound trees) ∙ none_after (create_conditions v m.key) (create_limits rules v (document_in m.body)) (create_free free) ∙ create_limits_at is

    -- where none does
    pub create_clear : (trees : List Expr) → exists held m.key ≡ false → option_map known None ≡ first_of (create_limits rules held (document_in m.body))
        → first_of (own_conditions rules v (create m) (stands.sound trees)) ≡ None
    create_clear trees free none =
        later (stands.sound trees) ∙ none_of_both (create_conditions v m.key) (create_limits rules v (document_in m.body)) (create_free free) (create_limits_at none)

    -- ---- replacements

    replaced : {x : Option Refusal} → first_of (replace_conditions held m.key m.version) ≡ x → first_of (replace_conditions v m.key m.version) ≡ x
    replaced is = sym (ap first_of (replace_shown held v m.key m.version shows)) ∙ is

    replace_refused : (s : Specification Expr) (r : code_refusal.Refusal) → first_of (replace_conditions held m.key m.version) ≡ Some (known r)
        → first_of (own_conditions rules v (replace m) s) ≡ Some (known r)
    replace_refused s r is =
        replaced_later s ∙ refused_alone (replace_conditions v m.key m.version) (form_conditions s ++ replace_limits rules v (document_in m.body)) (known r) (replaced is)

    -- where there is no object, and where there is another revision of it
    pub replace_missing : (s : Specification Expr) → option_map found_in (stored_at held m.key) ≡ None → first_of (own_conditions rules v (replace m) s) ≡ Some (known NotFound)
    replace_missing s none = replace_refused s NotFound (first_missing held m.key ((known VersionNotCurrent, update_conflicts held m.key m.version) ∷ []) none)

    pub replace_conflicting : (f : FoundDocument) → IsFound (stored_at held m.key) f → (s : Specification Expr) → update_conflicts_at f.revision m.version ≡ true
        → first_of (own_conditions rules v (replace m) s) ≡ Some (known VersionNotCurrent)
    replace_conflicting f found s conflicts = replace_refused s VersionNotCurrent (replace_found held m.key f found m.version true conflicts)

    pub replace_bad_spec : first_of (replace_conditions held m.key m.version) ≡ None → first_of (own_conditions rules v (replace m) stands.bad_spec) ≡ Some (known BadSpec)
    replace_bad_spec free =
        replaced_later stands.bad_spec
        ∙ none_after (replace_conditions v m.key m.version) (form_conditions stands.bad_spec ++ replace_limits rules v (document_in m.body)) (replaced free)

    pub replace_bad_expression : (t : List ℕ) → first_of (replace_conditions held m.key m.version) ≡ None
        → first_of (own_conditions rules v (replace m) (stands.bad_expression t)) ≡ Some (with_bad_expression t)
    replace_bad_expression t free =
        replaced_later (stands.bad_expression t)
        ∙ none_after (replace_conditions v m.key m.version) (form_conditions (stands.bad_expression t) ++ replace_limits rules v (document_in m.body)) (replaced free)

    replace_limits_at : {x : Option Refusal} → x ≡ first_of (replace_limits rules held (document_in m.body)) → first_of (replace_limits rules v (document_in m.body)) ≡ x
    replace_limits_at is = sym (ap first_of (replace_limits_shown rules held v (document_in m.body) shows)) ∙ sym is

    pub replace_limited : (trees : List Expr) (r : code_refusal.Refusal) → first_of (replace_conditions held m.key m.version) ≡ None
        → option_map known (Some r) ≡ first_of (replace_limits rules held (document_in m.body)) → first_of (own_conditions rules v (replace m) (stands.sound trees)) ≡ Some (known r)
    replace_limited trees r free is =
        replaced_later (stands.sound trees) ∙ none_after (replace_conditions v m.key m.version) (replace_limits rules v (document_in m.body)) (replaced free) ∙ replace_limits_at is

    -- where nothing refuses it
    pub replace_clear : (trees : List Expr) → first_of (replace_conditions held m.key m.version) ≡ None → option_map known None ≡ first_of (replace_limits rules held (document_in m.body))
        → first_of (own_conditions rules v (replace m) (stands.sound trees)) ≡ None
    replace_clear trees free none =
        replaced_later (stands.sound trees) ∙ none_of_both (replace_conditions v m.key m.version) (replace_limits rules v (document_in m.body)) (replaced free) (replace_limits_at none)

  -- ---- what they attempt

  no_object : (o : Option (Stored (List Expr))) → is_some o ≡ false → ◌≡◌ {A = Option Data} None (option_map (λ s. shown s.document s.revision) o)
  no_object None is = refl
  no_object (Some s) is = absurd (let never : true ≡ false = is in cc)

  pub create_attempt : (trees : List Expr) (home : Option Data) → exists held m.key ≡ false → home ≡ namespace_shown held m.key
      → ◌≡◌ {A = Attempt} (record { operation = Create; key = m.key; object = Some (document_in m.body).json; old_object = None; namespace = home }) (attempt_of v (put m.key (document_in m.body) trees))
  create_attempt trees home free home_is =
      let absent : exists v m.key ≡ false = sym (exists_shown held v m.key shows) ∙ free in
      let at_home : home ≡ namespace_shown v m.key = home_is ∙ namespace_shown_shown held v m.key shows in
      λ i. record {
        operation = if sym absent i then Update else Create;
        key = m.key;
        object = Some (document_in m.body).json;
        old_object = no_object (stored_at v m.key) absent i;
        namespace = at_home i;
      }

  pub replace_attempt : (trees : List Expr) (old : Data) (home : Option Data) → exists held m.key ≡ true → Some old ≡ shown_at held m.key → home ≡ namespace_shown held m.key
      → ◌≡◌ {A = Attempt} (record { operation = Update; key = m.key; object = Some (document_in m.body).json; old_object = Some old; namespace = home }) (attempt_of v (put m.key (document_in m.body) trees))
  replace_attempt trees old home there_held is home_is =
      let there : exists v m.key ≡ true = sym (exists_shown held v m.key shows) ∙ there_held in
      let before : Some old ≡ shown_at v m.key = is ∙ shown_at_shown held v m.key shows in
      let at_home : home ≡ namespace_shown v m.key = home_is ∙ namespace_shown_shown held v m.key shows in
      λ i. record {
        operation = if sym there i then Update else Create;
        key = m.key;
        object = Some (document_in m.body).json;
        old_object = before i;
        namespace = at_home i;
      }

-- ---- deletions

module _ (rules : Rules) (held : seen.View Decoded) (k : Key) (version : Option (List ℕ)) (v : View) (shows : Shows held v) where
  -- the conditions of a deletion are all its own
  pub deleted : {x : Option Refusal} → first_of (delete_conditions rules held k version) ≡ x → (s : Specification Expr) → first_of (own_conditions rules v (delete k version) s) ≡ x
  deleted is s = sym (ap first_of (delete_shown rules held v k version shows)) ∙ is

  pub delete_missing : (s : Specification Expr) → option_map found_in (stored_at held k) ≡ None → first_of (own_conditions rules v (delete k version) s) ≡ Some (known NotFound)
  delete_missing s none =
      deleted (first_missing held k ((known VersionNotCurrent, deletion_conflicts held k version) ∷ (known NamespaceNotEmpty, is_in_use held k) ∷ (known RevisionExhausted, is_exhausted rules held) ∷ []) none) s

  pub delete_attempt : (old : Data) (home : Option Data) → Some old ≡ shown_at held k → home ≡ namespace_shown held k
      → ◌≡◌ {A = Attempt} (record { operation = Delete; key = k; object = None; old_object = Some old; namespace = home }) (attempt_of v (write.delete k))
  delete_attempt old home is home_is =
      let before : Some old ≡ shown_at v k = is ∙ shown_at_shown held v k shows in
      let at_home : home ≡ namespace_shown v k = home_is ∙ namespace_shown_shown held v k shows in
      λ i. record { operation = Delete; key = k; object = None; old_object = before i; namespace = at_home i }
