use Rattle.std.proofs.Common.{arith, ◌≡◌, ◌+◌, ◌∙◌, sym, ap, subst, ℕ, List, length, map, Err}
use Rattle.std.proofs.lemmas.Result.{IfOk-from_err}
use Rattle.std.specs.Prelude.{IsErrOf}
use Rattle.names.specs.declared.format.Rules.{Rules}
use Rattle.names.specs.Key.{Key}
use Rattle.chunks.specs.Chunks.{cut}
use Rattle.objects.specs.declared.fault.LookupFault.{LookupFault}
use Rattle.objects.specs.declared.fault.LookupFault.TheVariants as lookup
use Rattle.requests.specs.Manifest.{Manifest}
use Rattle.histories.specs.declared.stored.Stored.{Stored}
use Rattle.histories.specs.View as seen
use Rattle.holdings.specs.Holdings.{Shows}
use Rattle.decoded.specs.Decoded.{Decoded}
use Rattle.decoded.specs.Upgraded.{upgraded_rules, new_names, upgraded_view, IsOfOlderFormat}
use Rattle.snapshots.specs.Added.{AreAdded, with_added, new_of}
use Rattle.snapshots.specs.Keeping.{IsHeld, held_entries}
use Rattle.snapshots.proofs.Behind.{length-objects_from}
use Rattle.snapshots.proofs.Upgrading.{have_form}
use Rattle.checkpoint.proofs.Faults.{no_fault}
use Rattle.paged.specs.Lying.{base_of}
use Rattle.paged.specs.declared.fault.NextFault.{NextFault}
use Rattle.paged.specs.declared.fault.NextFault.TheVariants as fault
use Rattle.paged.proofs.Upgrading.{of_fault, of_memory, no_device, fits, has_room, too_many_for, exhausted_for, count_of, count_of_news, with_namespaces}
use Rattle.paged.proofs.compacting.upgraded.Goals as goal

-- what may be held by some numbers may be held by equal ones
held_as : (rules other : Rules) (view held : seen.View Decoded) → rules ≡ other → view ≡ held → IsHeld other held → IsHeld rules view
held_as rules other view held same lent is =
    let By : Rules → Type 0 = λ r. IsHeld r view in
    let Of : seen.View Decoded → Type 0 = λ w. IsHeld other w in
    subst By (sym same) (subst Of (sym lent) is)

-- the rules behind an upgrade are told by the revision of the view
rules_by : (old rules : Rules) (revision now : ℕ) → rules ≡ upgraded_rules old revision → now ≡ revision → rules ≡ upgraded_rules old now
rules_by old rules revision now are same = are ∙ ap (upgraded_rules old) (sym same)

pub returns-in_err-manifests : goal.returns-in_err-manifests
returns-in_err-manifests c =
    let handed = c.from_residual in
    record {
      next = λ same. of_memory c.args.old c.args.view handed.result handed.ensures.1;
      rules = IfOk-from_err handed.result _ handed.ensures.0;
      device = no_device handed.result (fault.Lookup lookup.Memory) handed.ensures.1 (λ is. cc);
    }

pub returns-in_err-check_room : goal.returns-in_err-check_room
returns-in_err-check_room c =
    let old : Rules = c.args.old in
    let v : seen.View Decoded = c.args.view in
    let handed = c.from_residual-in_err-check_room in
    let was = c.in_err-check_room.was in
    let told = c.check_room.ensures in
    let given : NextFault = c.in_err-check_room.field-0.0 in
    let ms : List Manifest = c.in_ok-manifests.manifests.items in
    let len_is : c.len-namespaces.result ≡ length ms = omega arith in
    let count_is : c.len-namespaces.result ≡ length (new_names old v) = len_is ∙ count_of old v ms c.in_ok-manifests.ensures in
    record {
      next = λ same.
          let rules_are = rules_by old c.upgraded_rules-rules.result c.args.revision v.revision c.upgraded_rules-rules.ensures same in
          of_fault old v handed.result given handed.ensures.1
          (λ is. too_many_for old c.upgraded_rules-rules.result v c.len-namespaces.result rules_are count_is (told.too_many (was ∙ ap (λ (f : NextFault). Err f) is)))
          (λ is. exhausted_for old c.upgraded_rules-rules.result v c.len-namespaces.result rules_are count_is (told.exhausted (was ∙ ap (λ (f : NextFault). Err f) is)))
          (λ part is older may. told.refusal (lookup.Damaged part) (was ∙ ap (λ (f : NextFault). Err f) is));
      rules = IfOk-from_err handed.result _ handed.ensures.0;
      device = no_device handed.result given handed.ensures.1 (λ is. told.refusal lookup.Device (was ∙ ap (λ (f : NextFault). Err f) is));
    }

pub of-requires : goal.of-requires
of-requires c =
    let ms : List Manifest = c.in_ok-manifests.manifests.items in
    let len_is : c.len-namespaces.result ≡ length ms = omega arith in
    let few =
    fits c.args.old c.upgraded_rules-rules.result c.args.revision (c.args.view.revision + c.len-namespaces.result) c.upgraded_rules-rules.ensures
    c.in_ok-check_room.ensures.revisions
    in
    omega (arith, c.revision.ensures, few, len_is)

pub returns-in_err-added : goal.returns-in_err-added
returns-in_err-added c =
    let handed = c.from_residual-in_err-added in
    record {
      next = λ same. of_memory c.args.old c.args.view handed.result handed.ensures.1;
      rules = IfOk-from_err handed.result _ handed.ensures.0;
      device = no_device handed.result (fault.Lookup lookup.Memory) handed.ensures.1 (λ is. cc);
    }

pub with-requires : goal.with-requires
with-requires c =
    let old : Rules = c.args.old in
    let v : seen.View Decoded = c.args.view in
    let ms : List Manifest = c.in_ok-manifests.manifests.items in
    let ms_are = c.in_ok-manifests.ensures in
    let len_is : c.len-namespaces.result ≡ length ms = omega arith in
    let count_is : c.len-namespaces.result ≡ length (new_names old v) = len_is ∙ count_of old v ms ms_are in
    let few =
    fits old c.upgraded_rules-rules.result c.args.revision (v.revision + c.len-namespaces.result) c.upgraded_rules-rules.ensures c.in_ok-check_room.ensures.revisions
    in
    let objects : length c.in_ok-added.added.objects.items ≡ length (map new_of ms) =
    ap (λ (os : List (Key × Stored Decoded)). length os) c.in_ok-added.ensures.added.objects ∙ length-objects_from c.revision.result (map new_of ms)
    in
    let news : length (map new_of ms) ≡ length (new_names old v) = count_of_news old v ms ms_are in
    omega (arith, few, objects, news, count_is)

pub returns-in_err-whole : goal.returns-in_err-whole
returns-in_err-whole c =
    let handed = c.from_residual-in_err-whole in
    record {
      next = λ same. of_memory c.args.old c.args.view handed.result handed.ensures.1;
      rules = IfOk-from_err handed.result _ handed.ensures.0;
      device = no_device handed.result (fault.Lookup lookup.Memory) handed.ensures.1 (λ is. cc);
    }

pub returns-in_err-entries : goal.returns-in_err-entries
returns-in_err-entries c =
    let handed = c.from_residual-in_err-entries in
    record {
      next = λ same. of_memory c.args.old c.args.view handed.result handed.ensures.1;
      rules = IfOk-from_err handed.result _ handed.ensures.0;
      device = no_device handed.result (fault.Lookup lookup.Memory) handed.ensures.1 (λ is. cc);
    }

pub returns-in_err-core : goal.returns-in_err-core
returns-in_err-core c =
    let old : Rules = c.args.old in
    let v : seen.View Decoded = c.args.view in
    let rules : Rules = c.upgraded_rules-rules.result in
    let ms : List Manifest = c.in_ok-manifests.manifests.items in
    let ms_are = c.in_ok-manifests.ensures in
    let len_is : c.len-namespaces.result ≡ length ms = omega arith in
    let count_is : c.len-namespaces.result ≡ length (new_names old v) = len_is ∙ count_of old v ms ms_are in
    let form = have_form (new_names old v) ms ms_are c.in_ok-added.ensures.form in
    let added = subst (λ (n : ℕ). AreAdded c.in_ok-added.added n (map new_of ms)) c.revision.ensures c.in_ok-added.ensures.added in
    let whole_as : c.in_ok-whole.whole ≡ with_added rules.window_events v (map new_of ms) = c.in_ok-whole.ensures (map new_of ms) added in
    let handed = c.from_residual-in_err-core in
    let was = c.in_err-core.was in
    let given : LookupFault = c.in_err-core.field-0.0 in
    let Told : LookupFault → Type 0 = λ f. IsErrOf c.renewed_core.result f in
    record {
      next = λ same.
          let rules_are : rules ≡ upgraded_rules old v.revision = rules_by old rules c.args.revision v.revision c.upgraded_rules-rules.ensures same in
          let room = has_room old rules v c.len-namespaces.result rules_are count_is c.in_ok-check_room.ensures.objects c.in_ok-check_room.ensures.revisions in
          let whole_is : IsOfOlderFormat old v → c.in_ok-whole.whole ≡ upgraded_view old v =
          λ older. whole_as ∙ with_namespaces old v ms ms_are rules.window_events (ap (λ (r : Rules). r.window_events) rules_are) older
          in
          of_fault old v handed.result (fault.Lookup given) handed.ensures.1 (λ is. cc) (λ is. cc)
          (λ part is older may.
          let same : given ≡ lookup.Damaged part = cc in
          c.renewed_core.ensures.damaged part (subst Told same was)
          (held_as rules (upgraded_rules old v.revision) c.in_ok-whole.whole (upgraded_view old v) rules_are (whole_is older) (may form room)));
      rules = IfOk-from_err handed.result _ handed.ensures.0;
      device = no_device handed.result (fault.Lookup given) handed.ensures.1
          (λ is. let same : given ≡ lookup.Device = cc in c.renewed_core.ensures.device (subst Told same was));
    }

pub returns : goal.returns
returns c =
    let old : Rules = c.args.old in
    let v : seen.View Decoded = c.args.view in
    let rules : Rules = c.upgraded_rules-rules.result in
    let ms : List Manifest = c.in_ok-manifests.manifests.items in
    let ms_are = c.in_ok-manifests.ensures in
    let len_is : c.len-namespaces.result ≡ length ms = omega arith in
    let count_is : c.len-namespaces.result ≡ length (new_names old v) = len_is ∙ count_of old v ms ms_are in
    let form = have_form (new_names old v) ms ms_are c.in_ok-added.ensures.form in
    let added = subst (λ (n : ℕ). AreAdded c.in_ok-added.added n (map new_of ms)) c.revision.ensures c.in_ok-added.ensures.added in
    let whole_as : c.in_ok-whole.whole ≡ with_added rules.window_events v (map new_of ms) = c.in_ok-whole.ensures (map new_of ms) added in
    let Shown : seen.View Decoded → Type 0 = λ w. Shows c.in_ok-core.core (base_of w) w in
    record {
      next = λ same.
          let rules_are : rules ≡ upgraded_rules old v.revision = rules_by old rules c.args.revision v.revision c.upgraded_rules-rules.ensures same in
          let whole_is : IsOfOlderFormat old v → c.in_ok-whole.whole ≡ upgraded_view old v =
          λ older. whole_as ∙ with_namespaces old v ms ms_are rules.window_events (ap (λ (r : Rules). r.window_events) rules_are) older
          in
          let may_hold : IsOfOlderFormat old v → IsHeld (upgraded_rules old v.revision) (upgraded_view old v) → IsHeld rules c.in_ok-whole.whole =
          λ older is. held_as rules (upgraded_rules old v.revision) c.in_ok-whole.whole (upgraded_view old v) rules_are (whole_is older) is
          in
          record {
            next = record {
              entries = λ older.
                  c.in_ok-entries.ensures.held ∙ (λ i. cut (c.newest_format.ensures i) (held_entries (whole_is older i)));
              rules = c.in_ok-core.ensures.rules ∙ rules_are;
              revision =
                  c.revision-revision.ensures ∙ ap (λ (w : seen.View Decoded). w.revision) whole_as
                  ∙ ap (λ (n : ℕ). v.revision + n) (count_of_news old v ms ms_are);
              namespaces = count_is;
              held = λ older is. subst Shown (whole_is older) (c.in_ok-core.ensures.held (may_hold older is));
              form = form;
              room = has_room old rules v c.len-namespaces.result rules_are count_is c.in_ok-check_room.ensures.objects c.in_ok-check_room.ensures.revisions;
            };
            too_many = λ told. absurd (no_fault told);
            exhausted = λ told. absurd (no_fault told);
            damaged = λ part told. absurd (no_fault told);
          };
      rules = c.in_ok-core.ensures.rules ∙ c.upgraded_rules-rules.ensures;
      device = λ told. absurd (no_fault told);
    }
