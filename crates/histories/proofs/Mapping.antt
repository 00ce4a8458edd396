-- The same history with something else beside each document.
use Rattle.std.proofs.Common.{arith, ◌≡◌, ◌∙◌, sym, ap, subst, refl, inl, inr, ⊎_elim, ◌+◌, List, [], ◌∷◌, ◌++◌, map, Bool, true, false, cond, not, Option, Some, None, is_some, option_map, if◌then◌else◌, Less, Equal, Greater}
use Rattle.std.proofs.lemmas.List.{length-map}
use Rattle.std.specs.Option.{option_map_or}
use Rattle.std.specs.Ordering.{eq_by_cmp}
use Rattle.circular_buffer.specs.Buffer.{keep_last}
use Rattle.serde_json.specs.Data.{null}
use Rattle.names.specs.declared.format.Rules.{Rules}
use Rattle.names.specs.Key.{Key, key_cmp}
use Rattle.objects.specs.Objects.{value_at, with_value, without_key}
use Rattle.std.specs.FinMap.Entries.{by_order}
use Rattle.window.specs.declared.event.Change.TheVariants.{Added, Modified, Deleted}
use Rattle.window.specs.Window.{event_at, events_above}
use Rattle.documents.specs.Document.{Document}
use Rattle.histories.specs.declared.stored.Stored.{Stored}
use Rattle.histories.specs.History.{Write, put, delete}
use Rattle.histories.specs.View.{View, exists, objects_after, event_of, after, after_all, AllMayFollow, MayFollow}
use Rattle.histories.specs.Mapped.{one, each, mapped, mapped_write}

module _ {A B : Type 0} (f : Document → A → B) where
  pub value_each : (k : Key) (os : List (Key × Stored A)) → value_at k ((each f) os) ≡ option_map (one f) (value_at k os)
  value_each k [] = refl
  value_each k (o ∷ os) =
      elim (eq_by_cmp key_cmp k o.0) as (λ b. cond b (Some ((one f) o.1)) (value_at k ((each f) os)) ≡ option_map (one f) (cond b (Some o.1) (value_at k os))) [
        | true ↦ refl
        | false ↦ value_each k os
      ]

  with_each : (k : Key) (s : Stored A) (os : List (Key × Stored A)) → (each f) (with_value k s os) ≡ with_value k ((one f) s) ((each f) os)
  with_each k s [] = refl
  with_each k s (o ∷ os) =
      elim (key_cmp k o.0) as (λ r. (each f) (by_order r ((k, s) ∷ o ∷ os) ((o.0, s) ∷ os) (o ∷ with_value k s os))
      ≡ by_order r ((k, (one f) s) ∷ (each f) (o ∷ os)) ((o.0, (one f) s) ∷ (each f) os) ((o.0, (one f) o.1) ∷ with_value k ((one f) s) ((each f) os))) [
        | Less ↦ refl
        | Equal ↦ refl
        | Greater ↦ ap (λ (rest : List (Key × Stored B)). (o.0, (one f) o.1) ∷ rest) (with_each k s os)
      ]

  without_each : (k : Key) (os : List (Key × Stored A)) → (each f) (without_key k os) ≡ without_key k ((each f) os)
  without_each k [] = refl
  without_each k (o ∷ os) =
      elim (not (eq_by_cmp key_cmp k o.0)) as (λ b. (each f) (cond b (o ∷ without_key k os) (without_key k os)) ≡ cond b ((o.0, (one f) o.1) ∷ without_key k ((each f) os)) (without_key k ((each f) os))) [
        | true ↦ ap (λ (rest : List (Key × Stored B)). (o.0, (one f) o.1) ∷ rest) (without_each k os)
        | false ↦ without_each k os
      ]

  there_still : (o : Option (Stored A)) → is_some (option_map (one f) o) ≡ is_some o
  there_still None = refl
  there_still (Some s) = refl

  document_still : (o : Option (Stored A)) → option_map_or (λ s. s.document) (option_map (one f) o) (record { json = null }) ≡ option_map_or (λ s. s.document) o (record { json = null })
  document_still None = refl
  document_still (Some s) = refl

  objects_mapped : (v : View A) (w : Write A) → (each f) (objects_after v w) ≡ objects_after ((mapped f) v) ((mapped_write f) w)
  objects_mapped v (put k d b) = with_each k (record { document = d; beside = b; revision = v.revision + 1 }) v.objects
  objects_mapped v (delete k) = without_each k v.objects

  event_mapped : (v : View A) (w : Write A) → event_of v w ≡ event_of ((mapped f) v) ((mapped_write f) w)
  event_mapped v (put k d b) =
      ap (λ (there : Bool). event_at {D = Document} (v.revision + 1) (if there then Modified else Added) k d)
      (sym (there_still (value_at k v.objects)) ∙ ap is_some (sym (value_each k v.objects)))
  event_mapped v (delete k) =
      ap (λ (d : Document). event_at {D = Document} (v.revision + 1) Deleted k d)
      (sym (document_still (value_at k v.objects)) ∙ ap (λ (o : Option (Stored B)). option_map_or (λ s. s.document) o (record { json = null })) (sym (value_each k v.objects)))

  -- one more write, and then the other thing beside (each f) document, or first the other thing
  pub after_mapped : (rules : Rules) (v : View A) (w : Write A) → (mapped f) (after rules v w) ≡ after rules ((mapped f) v) ((mapped_write f) w)
  after_mapped rules v w = λ i. record {
    objects = objects_mapped v w i;
    revision = v.revision + 1;
    events = keep_last rules.window_events (v.events ++ events_above rules.floor (event_mapped v w i ∷ []));
  }

  pub all_mapped : (rules : Rules) (v : View A) (ws : List (Write A)) → (mapped f) (after_all rules v ws) ≡ after_all rules ((mapped f) v) (map (mapped_write f) ws)
  all_mapped rules v [] = refl
  all_mapped rules v (w ∷ ws) = all_mapped rules (after rules v w) ws ∙ ap (λ (u : View B). after_all rules u (map (mapped_write f) ws)) (after_mapped rules v w)

  -- what may follow does so whatever stands beside
  pub there_mapped : (v : View A) (k : Key) → exists (mapped f v) k ≡ exists v k
  there_mapped v k = ap is_some (value_each k v.objects) ∙ there_still (value_at k v.objects)

  pub follows_mapped : (rules : Rules) (v : View A) (w : Write A) → MayFollow rules v w → MayFollow rules (mapped f v) (mapped_write f w)
  follows_mapped rules v (put k d b) may = record {
    served = may.served;
    form = may.form;
    size = may.size;
    room = ⊎_elim (λ there. inl (there_mapped v k ∙ there)) (λ below. inr (omega (arith, below, length-map {B = Key × Stored B} v.objects (λ o. (o.0, one f o.1))))) may.room;
    revision = may.revision;
  }
  follows_mapped rules v (delete k) may = record { object = there_mapped v k ∙ may.object; revision = may.revision }

  pub all_follow_mapped : (rules : Rules) (v : View A) (ws : List (Write A)) → AllMayFollow rules v ws → AllMayFollow rules (mapped f v) (map (mapped_write f) ws)
  all_follow_mapped rules v [] all = tt
  all_follow_mapped rules v (w ∷ ws) all = (
    follows_mapped rules v w all.0,
    subst (λ (u : View B). AllMayFollow rules u (map (mapped_write f) ws)) (after_mapped rules v w) (all_follow_mapped rules (after rules v w) ws all.1),
  )

  -- and back
  pub follows_back : (rules : Rules) (v : View A) (w : Write A) → MayFollow rules (mapped f v) (mapped_write f w) → MayFollow rules v w
  follows_back rules v (put k d b) may = record {
    served = may.served;
    form = may.form;
    size = may.size;
    room = ⊎_elim (λ there. inl (sym (there_mapped v k) ∙ there)) (λ below. inr (omega (arith, below, length-map {B = Key × Stored B} v.objects (λ o. (o.0, one f o.1))))) may.room;
    revision = may.revision;
  }
  follows_back rules v (delete k) may = record { object = sym (there_mapped v k) ∙ may.object; revision = may.revision }
