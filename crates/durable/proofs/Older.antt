-- What an upgrade reads of a store of an older format: what it shows, and the history that is kept of it.
use Rattle.std.proofs.Common.{arith, ◌≡◌, ◌≤◌, ◌<◌, ◌-◌, ◌^◌, ◌∙◌, refl, sym, ap, subst, ℕ, List, [], ◌∷◌, length, Bool, true, false, true≢false, nat_lt, nat_eq, ◌||◌, if◌then◌else◌, Some, None}
use Rattle.std.proofs.lemmas.Bool.{lt-ltb, le-ltb, eq-eqb, ne_eqb}
use Rattle.std.proofs.lemmas.List.{length-map}
use Rattle.std.specs.List.{AllByRecursion}
use Rattle.celtree.specs.Tree.{Expr}
use Rattle.device.specs.declared.device.Device.{Ghosts}
use Rattle.names.specs.declared.format.Format.{Format}
use Rattle.names.specs.declared.format.Format.TheVariants.{First, Second, Third}
use Rattle.names.specs.declared.format.Rules.{Rules}
use Rattle.names.specs.Format.{has_namespaces, has_resource, rules_of}
use Rattle.names.specs.Key.{Key}
use Rattle.roots.specs.declared.root.Label.{Label}
use Rattle.roots.specs.declared.root.Root.{Root}
use Rattle.roots.specs.Root.{MayHaveFloor}
use Rattle.pages.specs.Page.{Entry}
use Rattle.histories.specs.declared.stored.Stored.{Stored}
use Rattle.histories.specs.Mapped.{each}
use Rattle.histories.specs.View as seen
use Rattle.histories.specs.View.{view, empty}
use Rattle.histories.specs.Wider.{floor_at}
use Rattle.histories.proofs.ViewLemmas.{revision-after_all}
use Rattle.holdings.specs.Holdings.{State, Shows}
use Rattle.decoded.specs.Decoded.{Decoded}
use Rattle.decoded.specs.Laws.{UpgradesFollow}
use Rattle.decoded.specs.Standing.{History, IsHistory, View, plans_beside, with_plans}
use Rattle.decoded.specs.Upgraded.{newest, is_newest, upgraded_rules, new_names, rules_behind, upgraded_history, upgraded_view, upgraded_count, upgraded_revision, HaveForm, HasRoomForUpgrade, IsOfOlderFormat}
use Rattle.decoded.proofs.Staying.{histories_show}
use Rattle.decoded.proofs.Upgrading.{new_mapped, upgrades_show}
use Rattle.chunks.specs.Chunks.{cut}
use Rattle.snapshots.specs.Keeping.{entries_of, held_entries, IsHeld, IsKeepable}
use Rattle.snapshots.proofs.Alone.{kept_held}
use Rattle.snapshots.proofs.Showing.{held_as_it_is, entries_shown}
use Rattle.checkpoint.specs.EntryList.{entries_of as in_list}
use Rattle.paged.specs.declared.compacting.NextCheckpoint.{NextCheckpoint}
use Rattle.paged.specs.Lying.{base_of}
use Rattle.durable.specs.declared.store.Store.{Store}
use Rattle.durable.specs.declared.upgraded.UpgradeFault.{UpgradeFault}
use Rattle.durable.specs.declared.upgraded.UpgradeFault.TheVariants as upgrade
use Rattle.durable.specs.Compacted.{Keeps, label_of}
use Rattle.durable.specs.Rules.{rules_by}
use Rattle.durable.specs.Settled.{device_of, root_of, kept_rules, revision_of, format_of, IsSettledAt}
use Rattle.durable.specs.Upgraded.{refusals, first_of}
use Rattle.durable.proofs.Answering.{revision_is}
use Rattle.durable.proofs.Keeping.{root_is}
use Rattle.durable.proofs.Numbers as numbers
use Rattle.durable.proofs.Numbers.{history_kept, by_own_format, kept_format, format_by, may_of, own_of}

-- ---- formats

-- the window of the newest format is no narrower than those before
wider_window : (f : Format) (floor : ℕ) → (rules_of f 0).window_events ≤ (rules_of newest floor).window_events
unfolding rules_of
wider_window First floor = omega arith
wider_window Second floor = omega arith
wider_window Third floor = omega arith

-- namespaces are no objects in the first format alone
only_first : (f : Format) → has_namespaces f ≡ false → f ≡ First
only_first First none = refl
only_first Second none = absurd (true≢false none)
only_first Third none = absurd (true≢false none)

-- the label of a root behind an upgrade, whatever its revision
abbrev pub newest_label : (floor : ℕ) → Label
newest_label floor = record { format = newest; revision = 0; floor = floor }

-- a core that keeps to the rules behind an upgrade keeps to those of its format
pub numbers_upgraded : (core : State Decoded) (floor : ℕ) → core.rules ≡ rules_of newest floor → core.rules ≡ rules_by (label_of core)
numbers_upgraded core floor is = by_own_format core.rules (newest_label floor) is

-- which is the newest one
pub format_upgraded : (core : State Decoded) (floor : ℕ) → core.rules ≡ rules_of newest floor → core.rules.format ≡ newest
format_upgraded core floor is = numbers.format_of core.rules (newest_label floor) is

-- and has a floor
pub floor_upgraded : (core : State Decoded) (floor : ℕ) → core.rules ≡ rules_of newest floor → MayHaveFloor (label_of core).format (label_of core).floor
floor_upgraded core floor is = may_of core.rules (newest_label floor) is refl

-- ---- what is held of a view

abbrev Planted : Type 0
Planted = Key × Stored (List Expr)

abbrev Kept : Type 0
Kept = Key × Stored Decoded

served_held : (f : Format) (os : List Planted) → AllByRecursion (λ (o : Planted). has_resource f o.0.resource ≡ true) os
    → AllByRecursion (λ (o : Kept). has_resource f o.0.resource ≡ true) (each plans_beside os)
served_held f [] all = tt
served_held f (o ∷ os) all = (all.0, served_held f os all.1)

module _ (rules : Rules) (v : View) where
  -- the same Namespaces are put for it
  pub names_held : new_names rules (with_plans v) ≡ new_names rules v
  names_held = new_mapped plans_beside rules v

  pub number_held : length (new_names rules (with_plans v)) ≡ length (new_names rules v)
  number_held = ap length names_held

  pub count_held : upgraded_count rules (with_plans v) ≡ upgraded_count rules v
  count_held =
      let objects : length (with_plans v).objects ≡ length v.objects = length-map v.objects _ in
      omega (arith, objects, number_held)

  pub revision_held : upgraded_revision rules (with_plans v) ≡ upgraded_revision rules v
  revision_held = omega (arith, number_held)

  pub room_held : HasRoomForUpgrade rules (with_plans v) → HasRoomForUpgrade rules v
  room_held room = record {
    objects = subst (λ n. n ≤ (upgraded_rules rules v.revision).object_limit) count_held room.objects;
    revisions = subst (λ n. n ≤ (upgraded_rules rules v.revision).greatest_revision) revision_held room.revisions;
  }

-- ---- a store that is settled at a history

-- the floor behind an upgrade of what a store shows
abbrev pub floor_here : {D : Type 0} {g : Ghosts D} → Store D g → ℕ
floor_here store = floor_at (kept_rules store).window_events (revision_of store)

module _ {D : Type 0} {g : Ghosts D} (store : Store D g) (rules : Rules) (h : History) (settled : IsSettledAt rules store h) where
  format_here : rules.format ≡ format_of store
  format_here = ap (λ (r : Rules). r.format) (sym settled.rules_are) ∙ kept_format store

  -- its root is the one that counts
  pub root_here : root_of store ≡ settled.read.root
  root_here = root_is g.disk (device_of store) (root_of store) store.log (store.ready settled.working settled.keeps) settled.read.root settled.read.counts

  -- the rules behind an upgrade are those at the revision that it shows
  pub rules_then : upgraded_rules (kept_rules store) (revision_of store) ≡ rules_behind rules h
  rules_then =
      let revision = revision_is store (view rules h) settled.shows in
      λ i. upgraded_rules (settled.rules_are i) (revision i)

  abbrev pub held_here : seen.View Decoded
  held_here = with_plans (view rules h)

  abbrev pub view_then : View
  view_then = view (rules_behind rules h) (upgraded_history rules h)

  abbrev pub label_then : Label
  label_then = newest_label (floor_at rules.window_events (view rules h).revision)

  format_then : (rules_behind rules h).format ≡ newest
  format_then = format_by label_then

  module _ (old : is_newest (format_of store) ≡ false) where
    -- it keeps to rules without a floor
    own_rules : rules ≡ rules_of rules.format 0
    own_rules = let Own : Rules → Type 0 = λ r. r ≡ rules_of r.format 0 in subst Own settled.rules_are (own_of store old)

    -- what it holds is of an older format
    pub older : IsOfOlderFormat rules held_here
    older =
        let Served : Format → Type 0 = λ f. AllByRecursion (λ (o : Planted). has_resource f o.0.resource ≡ true) (view rules h).objects in
        let kept : IsKeepable rules (view rules h) = history_kept rules settled.read.root.label h settled.read.checkpoint.numbers settled.read.history in
        let floor : ℕ = floor_at rules.window_events (view rules h).revision in
        let window : rules.window_events ≡ (rules_of rules.format 0).window_events = ap (λ (r : Rules). r.window_events) own_rules in
        record {
          objects = λ none. served_held First (view rules h).objects (subst Served (only_first rules.format none) (histories_show rules h settled.read.history).served);
          begun = omega (arith, revision-after_all rules empty h);
          events = omega (arith, kept.last.events, window, wider_window rules.format floor);
        }

    -- what is seen of the upgraded history, as it is held
    pub view_held : with_plans view_then ≡ upgraded_view rules held_here
    view_held = upgrades_show rules h own_rules

    module _ (follow : UpgradesFollow) (form : HaveForm (new_names rules held_here)) (room : HasRoomForUpgrade rules held_here) where
      pub history_then : IsHistory (rules_behind rules h) (upgraded_history rules h)
      history_then =
          follow rules h own_rules settled.read.history (subst HaveForm (names_held rules (view rules h)) form) (room_held rules (view rules h) room)

      pub kept_then : IsKeepable (rules_behind rules h) view_then
      kept_then = history_kept (rules_behind rules h) label_then (upgraded_history rules h) refl history_then

      pub held_then : IsHeld (rules_behind rules h) (upgraded_view rules held_here)
      held_then = subst (λ (v : seen.View Decoded). IsHeld (rules_behind rules h) v) view_held (kept_held (rules_behind rules h) view_then kept_then)

    pub entries_then : (es : List Entry) → es ≡ cut newest (held_entries (upgraded_view rules held_here)) → es ≡ cut (rules_behind rules h).format (entries_of view_then)
    entries_then es are =
        are ∙ ap (cut newest) (ap (λ (v : seen.View Decoded). held_entries v) (sym view_held) ∙ entries_shown (with_plans view_then) view_then (held_as_it_is (with_plans view_then)))
        ∙ ap (λ (f : Format). cut f (entries_of view_then)) (sym format_then)

    pub shows_then : (core : State Decoded) → Shows core (base_of (upgraded_view rules held_here)) (upgraded_view rules held_here)
        → Shows core (base_of (with_plans view_then)) (with_plans view_then)
    shows_then core shows = subst (λ (v : seen.View Decoded). Shows core (base_of v) v) (sym view_held) shows

    -- The next generation keeps the upgraded history.
    pub keeps_then : (next : NextCheckpoint) → next.core.rules ≡ upgraded_rules (kept_rules store) (revision_of store)
        → in_list next.entries ≡ cut newest (held_entries (upgraded_view rules held_here))
        → Shows next.core (base_of (upgraded_view rules held_here)) (upgraded_view rules held_here) → UpgradesFollow → HaveForm (new_names rules held_here)
        → HasRoomForUpgrade rules held_here → Keeps next (rules_behind rules h) (upgraded_history rules h)
    keeps_then next is entries shows follow form room = record {
      numbers = sym (is ∙ rules_then) ∙ numbers_upgraded next.core (floor_here store) is;
      history = history_then follow form room;
      revision = (shows_then next.core shows).revision;
      entries = entries_then (in_list next.entries) entries;
    }

-- ---- what refuses it

abbrev too_many : Rules → View → Bool
too_many rules v = nat_lt (upgraded_rules rules v.revision).object_limit (upgraded_count rules v)

abbrev too_high : Rules → View → Bool
too_high rules v = nat_lt (upgraded_rules rules v.revision).greatest_revision (upgraded_revision rules v)

abbrev is_greatest : Root → Bool
is_greatest current = nat_eq current.generation (2 ^ 64 - 1)

first_is : (a b c d : Bool) (first second third : UpgradeFault) → a ≡ true
    → (if a then Some first else (if b then Some second else (if c || d then Some third else None))) ≡ Some first
first_is true b c d first second third is = refl
first_is false b c d first second third is = absurd (true≢false (sym is))

second_of : (a b c : Bool) (first second third : UpgradeFault) → a ≡ false → b ≡ true
    → (if a then Some first else (if b then Some second else (if c then Some third else None))) ≡ Some second
second_of true b c first second third one two = absurd (true≢false one)
second_of false true c first second third one two = refl
second_of false false c first second third one two = absurd (true≢false (sym two))

third_of : (a b c d : Bool) (first second third : UpgradeFault) → a ≡ false → b ≡ false → c ≡ true
    → (if a then Some first else (if b then Some second else (if c || d then Some third else None))) ≡ Some third
third_of true b c d first second third one two three = absurd (true≢false one)
third_of false true c d first second third one two three = absurd (true≢false two)
third_of false false true d first second third one two three = refl
third_of false false false d first second third one two three = absurd (true≢false (sym three))

last_of : (a b c d : Bool) (first second third : UpgradeFault) → a ≡ false → b ≡ false → d ≡ true
    → (if a then Some first else (if b then Some second else (if c || d then Some third else None))) ≡ Some third
last_of true b c d first second third one two four = absurd (true≢false one)
last_of false true c d first second third one two four = absurd (true≢false two)
last_of false false true d first second third one two four = refl
last_of false false false true first second third one two four = refl
last_of false false false false first second third one two four = absurd (true≢false (sym four))

none_of : (a b c d : Bool) (first second third : UpgradeFault) → a ≡ false → b ≡ false → c ≡ false → d ≡ false
    → (if a then Some first else (if b then Some second else (if c || d then Some third else None))) ≡ None
none_of true b c d first second third one two three four = absurd (true≢false one)
none_of false true c d first second third one two three four = absurd (true≢false two)
none_of false false true d first second third one two three four = absurd (true≢false three)
none_of false false false true first second third one two three four = absurd (true≢false four)
none_of false false false false first second third one two three four = refl

pub newest_refuses : (rules : Rules) (v : View) (current : Root) → is_newest current.label.format ≡ true → first_of (refusals rules v current) ≡ Some upgrade.NotOld
newest_refuses rules v current young =
    first_is (is_newest current.label.format) (too_many rules v) (too_high rules v) (is_greatest current) upgrade.NotOld upgrade.TooManyObjects upgrade.RevisionExhausted young

module _ (rules : Rules) (v : View) (current : Root) (old : is_newest current.label.format ≡ false) where
  abbrev limits : Rules
  limits = upgraded_rules rules v.revision

  -- of the two that have no room the objects are told first
  pub too_many_refuses : limits.object_limit < upgraded_count rules v → first_of (refusals rules v current) ≡ Some upgrade.TooManyObjects
  too_many_refuses many =
      second_of (is_newest current.label.format) (too_many rules v) (too_high rules v || is_greatest current) upgrade.NotOld upgrade.TooManyObjects upgrade.RevisionExhausted old
      (lt-ltb limits.object_limit (upgraded_count rules v) many)

  pub revision_refuses : upgraded_count rules v ≤ limits.object_limit → limits.greatest_revision < upgraded_revision rules v
      → first_of (refusals rules v current) ≡ Some upgrade.RevisionExhausted
  revision_refuses few high =
      third_of (is_newest current.label.format) (too_many rules v) (too_high rules v) (is_greatest current) upgrade.NotOld upgrade.TooManyObjects upgrade.RevisionExhausted old
      (le-ltb limits.object_limit (upgraded_count rules v) few) (lt-ltb limits.greatest_revision (upgraded_revision rules v) high)

  pub greatest_refuses : upgraded_count rules v ≤ limits.object_limit → current.generation ≡ 2 ^ 64 - 1
      → first_of (refusals rules v current) ≡ Some upgrade.RevisionExhausted
  greatest_refuses few is =
      last_of (is_newest current.label.format) (too_many rules v) (too_high rules v) (is_greatest current) upgrade.NotOld upgrade.TooManyObjects upgrade.RevisionExhausted old
      (le-ltb limits.object_limit (upgraded_count rules v) few) (eq-eqb current.generation (2 ^ 64 - 1) is)

  -- where there is room for its writes, and for a generation, nothing does
  pub none_refuses : HasRoomForUpgrade rules v → (current.generation ≡ 2 ^ 64 - 1 → ⊥) → first_of (refusals rules v current) ≡ None
  none_refuses room below =
      none_of (is_newest current.label.format) (too_many rules v) (too_high rules v) (is_greatest current) upgrade.NotOld upgrade.TooManyObjects upgrade.RevisionExhausted old
      (le-ltb limits.object_limit (upgraded_count rules v) room.objects)
      (le-ltb limits.greatest_revision (upgraded_revision rules v) room.revisions) (ne_eqb current.generation (2 ^ 64 - 1) below)
