-- An upgrade to the newest format: the rules behind it, the writes that it makes, the history behind them, and what is seen of it.
use Rattle.std.specs.Prelude.{◌≡◌, ◌≤◌, ◌+◌, ℕ, Bool, true, false, List, [], ◌++◌, length}
use Rattle.std.specs.List.{AllByRecursion}
use Rattle.names.specs.Format.{has_namespaces, has_resource, rules_of}
use Rattle.names.specs.declared.format.Format.{Format}
use Rattle.names.specs.declared.format.Format.TheVariants.{First, Second, Third}
use Rattle.names.specs.declared.format.Rules.{Rules}
use Rattle.names.specs.declared.resource.Resource.TheVariants.{Namespace}
use Rattle.names.specs.Key.{key_of}
use Rattle.documents.specs.Form.{HasForm}
use Rattle.requests.specs.Namespaces.{namespace_document, namespace_puts, namespaces_in_use}
use Rattle.histories.specs.View as seen
use Rattle.histories.specs.View.{view, after_all}
use Rattle.histories.specs.Wider.{floor_at}
use Rattle.decoded.specs.Decoded.{Decoded, decoded_of}
use Rattle.decoded.specs.Standing.{Write, History, View}

-- the format that an upgrade leads to
abbrev pub newest : Format
newest = Third

abbrev pub is_newest : Format → Bool
is_newest First = false
is_newest Second = false
is_newest Third = true

-- The rules behind an upgrade of a store that keeps to these, at a revision: no event is kept up to the revision below which the old window has none.
abbrev pub upgraded_rules : (old : Rules) → (revision : ℕ) → Rules
upgraded_rules old revision = rules_of newest (floor_at old.window_events revision)

-- none where namespaces are objects
abbrev pub unless_objects : (are_objects : Bool) → (names : List (List ℕ)) → List (List ℕ)
unless_objects true names = []
unless_objects false names = names

-- the Namespaces that it puts: one for each that objects stand in, ascending, where namespaces were no objects
abbrev pub new_names : {P : Type 0} → (old : Rules) → seen.View P → List (List ℕ)
new_names old v = unless_objects (has_namespaces old.format) (namespaces_in_use v)

abbrev pub upgrade_writes : (old : Rules) → View → List Write
upgrade_writes old v = namespace_puts (λ d. []) (new_names old v)

-- the rules, and the history, behind an upgrade
abbrev pub rules_behind : Rules → History → Rules
rules_behind rules h = upgraded_rules rules (view rules h).revision

abbrev pub upgraded_history : Rules → History → History
upgraded_history rules h = h ++ upgrade_writes rules (view rules h)

-- what is seen of it, of what was seen before, as the core holds it
abbrev pub upgraded_view : (old : Rules) → seen.View Decoded → seen.View Decoded
upgraded_view old held = after_all (upgraded_rules old held.revision) held (namespace_puts (λ d. decoded_of d.json []) (new_names old held))

-- ---- what it asks

-- Namespaces of these names have documents of the right form.
abbrev pub HaveForm : (names : List (List ℕ)) → Type 0
HaveForm names = AllByRecursion (λ n. HasForm (key_of Namespace [] n) (namespace_document n)) names

module _ {P : Type 0} (old : Rules) where
  -- how many objects there are behind it, and the revision
  abbrev pub upgraded_count : seen.View P → ℕ
  upgraded_count v = length v.objects + length (new_names old v)

  abbrev pub upgraded_revision : seen.View P → ℕ
  upgraded_revision v = v.revision + length (new_names old v)

-- There is room for its writes.
pub record HasRoomForUpgrade {P : Type 0} (old : Rules) (v : seen.View P) : Type 0 where
  pub objects : upgraded_count old v ≤ (upgraded_rules old v.revision).object_limit
  pub revisions : upgraded_revision old v ≤ (upgraded_rules old v.revision).greatest_revision

-- A view as a store has it that keeps to these rules: no object is a Namespace where namespaces are no objects, a store without writes has revision 1, and
-- there are no more events than a window holds.
pub record IsOfOlderFormat {P : Type 0} (old : Rules) (v : seen.View P) : Type 0 where
  pub objects : has_namespaces old.format ≡ false → AllByRecursion (λ o. has_resource First o.0.resource ≡ true) v.objects
  pub begun : 1 ≤ v.revision
  pub events : length v.events ≤ (upgraded_rules old v.revision).window_events
