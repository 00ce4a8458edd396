-- What puts behind all objects leave.
use Rattle.std.proofs.Common.{arith, ◌≡◌, ◌∙◌, sym, ap, refl, ◌+◌, ◌≤◌, ◌-◌, ℕ, suc, List, [], ◌∷◌, ◌++◌, length, map, append_assoc, Bool, true, false, cond, Some, None, is_some, if◌then◌else◌, nat_lt}
use Rattle.std.proofs.lemmas.Bool.Decides.{nat_tests}
use Rattle.std.proofs.lemmas.List.{append-nil, length-drop}
use Rattle.std.specs.FinMap.{find, put}
use Rattle.std.specs.FinMap.Entries.{by_order}
use Rattle.std.specs.List.{AllByRecursion}
use Rattle.std.specs.Ordering.{is_eq}
use Rattle.std.specs.declared.cmp.Ordering.{Ordering}
use Rattle.std.specs.declared.cmp.Ordering.TheVariants.{Greater}
use Rattle.circular_buffer.specs.Buffer.{keep_last}
use Rattle.names.specs.declared.format.Rules.{Rules}
use Rattle.names.specs.Key.{Key, key_cmp}
use Rattle.documents.specs.Document.{Document}
use Rattle.window.specs.declared.event.Change.TheVariants.{Added, Modified}
use Rattle.window.specs.declared.event.Event.{Event}
use Rattle.window.specs.Window.{event_at, events_above}
use Rattle.window.proofs.Kept.{keep_last-append}
use Rattle.histories.specs.declared.stored.Stored.{Stored}
use Rattle.histories.specs.History.{Write, put as put_write}
use Rattle.histories.specs.View.{View, after, after_all, exists}
use Rattle.histories.proofs.ViewLemmas.{keep_last-short}
use Rattle.snapshots.specs.Added.{NewObject, stored_from, objects_from, events_from, with_added}

-- an event behind a revision that is not below the floor is told
is_told : (floor revision : ℕ) → floor ≤ revision → nat_lt floor (revision + 1) ≡ true
is_told floor revision above = grind (arith, nat_tests)

module _ {P : Type 0} where
  -- the write that puts a new object
  abbrev pub put_of : NewObject P → Write P
  put_of n = put_write n.key n.document n.beside

  -- The key is behind those of all these objects.
  abbrev pub IsBehind : Key → List (Key × Stored P) → Type 0
  IsBehind k objects = AllByRecursion (λ o. key_cmp k o.0 ≡ Greater) objects

  -- The keys of the new objects ascend, behind those of these objects.
  abbrev pub StandBehind : List (Key × Stored P) → (revision : ℕ) → List (NewObject P) → Type 0
  StandBehind objects revision [] = Unit {0}
  StandBehind objects revision (n ∷ ns) = IsBehind n.key objects × StandBehind (objects ++ stored_from revision n ∷ []) (revision + 1) ns

  pub length-objects_from : (revision : ℕ) (ns : List (NewObject P)) → length (objects_from revision ns) ≡ length ns
  length-objects_from revision [] = refl
  length-objects_from revision (n ∷ ns) = ap suc (length-objects_from (revision + 1) ns)

  -- what is put behind all stands behind all
  put-behind : (k : Key) (x : Stored P) (es : List (Key × Stored P)) → IsBehind k es → put key_cmp k x es ≡ es ++ (k, x) ∷ []
  put-behind k x [] behind = refl
  put-behind k x (e ∷ es) behind =
      ap (λ (o : Ordering). by_order o ((k, x) ∷ e ∷ es) ((e.0, x) ∷ es) (e ∷ put key_cmp k x es)) behind.0
      ∙ ap (λ (rest : List (Key × Stored P)). e ∷ rest) (put-behind k x es behind.1)

  none-behind : (k : Key) (es : List (Key × Stored P)) → IsBehind k es → find key_cmp k es ≡ None
  none-behind k [] behind = refl
  none-behind k (e ∷ es) behind =
      ap (λ (o : Ordering). cond (is_eq o) (Some e.1) (find key_cmp k es)) behind.0 ∙ none-behind k es behind.1

  after-behind : (rules : Rules) (v : View P) (n : NewObject P) → rules.floor ≤ v.revision → IsBehind n.key v.objects
      → after rules v (put_of n) ≡ with_added rules.window_events v (n ∷ [])
  after-behind rules v n above behind =
      let new : exists v n.key ≡ false = ap is_some (none-behind n.key v.objects behind) in
      let objects = put-behind n.key (record { document = n.document; beside = n.beside; revision = v.revision + 1 }) v.objects behind in
      let Told : Bool → Event Document = λ b. event_at (v.revision + 1) (if b then Modified else Added) n.key n.document in
      let told : events_above rules.floor (Told (exists v n.key) ∷ []) ≡ Told false ∷ [] =
      ap (λ (b : Bool). cond b (Told (exists v n.key) ∷ []) []) (is_told rules.floor v.revision above) ∙ ap (λ (b : Bool). Told b ∷ []) new
      in
      λ i. record { objects = objects i; revision = v.revision + 1; events = keep_last rules.window_events (v.events ++ told i) }

  -- puts behind all, one after the other
  pub all-behind : (rules : Rules) (v : View P) (ns : List (NewObject P)) → rules.floor ≤ v.revision → StandBehind v.objects v.revision ns
      → length v.events ≤ rules.window_events → after_all rules v (map put_of ns) ≡ with_added rules.window_events v ns
  all-behind rules v [] above behind few =
      let events : keep_last rules.window_events (v.events ++ []) ≡ v.events =
      ap (keep_last rules.window_events) (append-nil v.events) ∙ keep_last-short rules.window_events v.events few
      in
      let revision : v.revision + 0 ≡ v.revision = omega arith in
      λ i. record { objects = sym (append-nil v.objects) i; revision = sym revision i; events = sym events i }
  all-behind rules v (n ∷ ns) above behind few =
      let window : ℕ = rules.window_events in
      let next : View P = with_added window v (n ∷ []) in
      let first : after rules v (put_of n) ≡ next = after-behind rules v n above behind.0 in
      let some : length next.events ≤ window =
      omega (arith, length-drop (length (v.events ++ events_from v.revision (n ∷ [])) - window) (v.events ++ events_from v.revision (n ∷ [])))
      in
      let above_next : rules.floor ≤ next.revision = omega arith in
      let rest : after_all rules next (map put_of ns) ≡ with_added window next ns = all-behind rules next ns above_next behind.1 some in
      let objects : next.objects ++ objects_from next.revision ns ≡ v.objects ++ objects_from v.revision (n ∷ ns) =
      append_assoc v.objects (stored_from v.revision n ∷ []) (objects_from (v.revision + 1) ns)
      in
      let revision : next.revision + length ns ≡ v.revision + length (n ∷ ns) = omega arith in
      let events : keep_last window (next.events ++ events_from next.revision ns) ≡ keep_last window (v.events ++ events_from v.revision (n ∷ ns)) =
      keep_last-append window (v.events ++ events_from v.revision (n ∷ [])) (events_from (v.revision + 1) ns)
      ∙ ap (keep_last window) (append_assoc v.events (events_from v.revision (n ∷ [])) (events_from (v.revision + 1) ns))
      in
      ap (λ (w : View P). after_all rules w (map put_of ns)) first
      ∙ rest
      ∙ (λ i. record { objects = objects i; revision = revision i; events = events i })
