-- Under wider rules a history stays one, and is seen as it was.
use Rattle.std.proofs.Common.{arith, ◌≡◌, ◌∙◌, ap, subst, sym, ◌+◌, ◌-◌, ◌<◌, ◌≤◌, ◌⊎◌, inl, inr, refl, true, ℕ, List, [], ◌∷◌, ◌++◌, length, drop, IsTrue, is_some, length-drop}
use Rattle.names.specs.declared.format.Format.{Format}
use Rattle.names.specs.declared.format.Rules.{Rules}
use Rattle.names.specs.declared.resource.Resource.{Resource}
use Rattle.names.specs.declared.resource.Resource.TheVariants.{Namespace}
use Rattle.names.specs.Format.{has_namespaces, has_resource}
use Rattle.names.specs.Key.{Key}
use Rattle.circular_buffer.specs.Buffer.{keep_last}
use Rattle.window.specs.declared.event.Event.{Event}
use Rattle.objects.specs.Objects.{value_at}
use Rattle.window.specs.Window.{events_above}
use Rattle.documents.specs.Document.{Document}
use Rattle.histories.specs.declared.stored.Stored.{Stored}
use Rattle.histories.specs.History.{Write, put, delete}
use Rattle.histories.specs.Events.{events_from}
use Rattle.histories.specs.View.{View, exists, objects_after, event_of, after, after_all, empty, view, MayFollow, AllMayFollow}
use Rattle.histories.specs.Wider.{AreWider, floor_at, HistoriesStay, ViewsStay, ViewsStayAboveFloor}
use Rattle.histories.proofs.ViewLemmas.{counted_events, events-numbered, revision-after_all, keep_last-short}

-- a resource that a format has is one of a format that has namespaces where that one has them
resource_too : (old new : Format) (r : Resource) → (has_namespaces old ≡ true → has_namespaces new ≡ true) → has_resource old r ≡ true → has_resource new r ≡ true
resource_too old new Namespace more has = more has
resource_too old new r more has = refl

-- two views of the same objects at the same revision
pub record Alike {P : Type 0} (u v : View P) : Type 0 where
  pub objects : u.objects ≡ v.objects
  pub revision : u.revision ≡ v.revision

module _ {P : Type 0} where
  abbrev seen : List (Key × Stored P) → ℕ → View P
  seen objects revision = record { objects = objects; revision = revision; events = [] }

  pub alike_after : (old new : Rules) (u v : View P) (w : Write P) → Alike u v → Alike (after old u w) (after new v w)
  alike_after old new u v (put k d b) same = record {
    objects = λ i. objects_after (record { objects = same.objects i; revision = same.revision i; events = [] }) (put k d b);
    revision = ap (λ n. n + 1) same.revision;
  }
  alike_after old new u v (delete k) same = record {
    objects = λ i. objects_after (record { objects = same.objects i; revision = same.revision i; events = [] }) (delete k);
    revision = ap (λ n. n + 1) same.revision;
  }

  there_too : (u v : View P) (k : Key) → Alike u v → IsTrue (exists u k) → IsTrue (exists v k)
  there_too u v k same there = subst (λ (os : List (Key × Stored P)). IsTrue (is_some (value_at k os))) same.objects there

  room_too : (old new : Rules) (u v : View P) (k : Key) → AreWider old new → Alike u v → IsTrue (exists u k) ⊎ (length u.objects < old.object_limit)
      → IsTrue (exists v k) ⊎ (length v.objects < new.object_limit)
  room_too old new u v k wider same (inl there) = inl (there_too u v k same there)
  room_too old new u v k wider same (inr below) = inr (omega (arith, below, wider.objects, ap length same.objects))

  pub follows_too : (old new : Rules) (u v : View P) (w : Write P) → AreWider old new → Alike u v → MayFollow old u w → MayFollow new v w
  follows_too old new u v (put k d b) wider same may = record {
    served = resource_too old.format new.format k.resource wider.namespaces may.served;
    form = may.form;
    size = omega (arith, may.size, wider.texts);
    room = room_too old new u v k wider same may.room;
    revision = omega (arith, may.revision, wider.revisions, same.revision);
  }
  follows_too old new u v (delete k) wider same may = record {
    object = there_too u v k same may.object;
    revision = omega (arith, may.revision, wider.revisions, same.revision);
  }

  all_follow : (old new : Rules) (u v : View P) (ws : List (Write P)) → AreWider old new → Alike u v → AllMayFollow old u ws → AllMayFollow new v ws
  all_follow old new u v [] wider same all = tt
  all_follow old new u v (w ∷ ws) wider same all =
      (follows_too old new u v w wider same all.0, all_follow old new (after old u w) (after new v w) ws wider (alike_after old new u v w same) all.1)

  same_after : (old new : Rules) (v : View P) (w : Write P) → new.window_events ≡ old.window_events → new.floor ≡ old.floor → after new v w ≡ after old v w
  same_after old new v w window floor = λ i. record {
    objects = objects_after v w;
    revision = v.revision + 1;
    events = keep_last (window i) (v.events ++ events_above (floor i) (event_of v w ∷ []));
  }

  same_after_all : (old new : Rules) (v : View P) (ws : List (Write P)) → new.window_events ≡ old.window_events → new.floor ≡ old.floor
      → after_all new v ws ≡ after_all old v ws
  same_after_all old new v [] window floor = refl
  same_after_all old new v (w ∷ ws) window floor =
      ap (λ (u : View P). after_all new u ws) (same_after old new v w window floor) ∙ same_after_all old new (after old v w) ws window floor

  -- ---- above a floor

  alike_after_all : (old new : Rules) (u v : View P) (ws : List (Write P)) → Alike u v → Alike (after_all old u ws) (after_all new v ws)
  alike_after_all old new u v [] same = same
  alike_after_all old new u v (w ∷ ws) same = alike_after_all old new (after old u w) (after new v w) ws (alike_after old new u v w same)

  same_event : (u v : View P) (w : Write P) → Alike u v → event_of u w ≡ event_of v w
  same_event u v (put k d b) same = λ i. event_of (seen (same.objects i) (same.revision i)) (put k d b)
  same_event u v (delete k) same = λ i. event_of (seen (same.objects i) (same.revision i)) (delete k)

  -- which events writes make is not of the rules
  same_events : (old new : Rules) (u v : View P) (ws : List (Write P)) → Alike u v → events_from old u ws ≡ events_from new v ws
  same_events old new u v [] same = refl
  same_events old new u v (w ∷ ws) same =
      λ i. same_event u v w same i ∷ same_events old new (after old u w) (after new v w) ws (alike_after old new u v w same) i

  same_events_seen : (old new : Rules) (h : List (Write P)) → old.floor ≡ 0 → old.window_events ≤ new.window_events
      → new.floor ≡ floor_at old.window_events (view old h).revision → (view new h).events ≡ (view old h).events
  same_events_seen old new h none wider floor =
      let all : List (Event Document) = events_from old empty h in
      let same : events_from new empty h ≡ all = same_events new old empty empty h (record { objects = refl; revision = refl }) in
      let count : length all ≡ length h = counted_events old empty h in
      let revision : (view old h).revision ≡ 1 + length h = revision-after_all old empty h in
      let left : new.floor - 1 ≡ length all - old.window_events = omega (arith, floor, revision, count) in
      let all_of : drop (old.floor - 1) all ≡ all = ap (λ n. drop (n - 1) all) none in
      let short : length (drop (length all - old.window_events) all) ≤ new.window_events = omega (arith, wider, length-drop (length all - old.window_events) all) in
      events-numbered new h
      ∙ ap (λ (es : List (Event Document)). keep_last new.window_events (drop (new.floor - 1) es)) same
      ∙ ap (λ n. keep_last new.window_events (drop n all)) left
      ∙ keep_last-short new.window_events (drop (length all - old.window_events) all) short
      ∙ sym (events-numbered old h ∙ ap (keep_last old.window_events) all_of)

  pub same_view : (old new : Rules) (h : List (Write P)) → old.floor ≡ 0 → old.window_events ≤ new.window_events
      → new.floor ≡ floor_at old.window_events (view old h).revision → view new h ≡ view old h
  same_view old new h none wider floor =
      let alike = alike_after_all new old empty empty h (record { objects = refl; revision = refl }) in
      let events = same_events_seen old new h none wider floor in
      λ i. record { objects = alike.objects i; revision = alike.revision i; events = events i }

pub histories_stay : (P : Type 0) → HistoriesStay P
histories_stay P old new h wider is = all_follow old new empty empty h wider (record { objects = refl; revision = refl }) is

pub views_stay : (P : Type 0) → ViewsStay P
views_stay P old new h window floor = same_after_all old new empty h window floor

pub views_stay_above_floor : (P : Type 0) → ViewsStayAboveFloor P
views_stay_above_floor P old new h none wider floor = same_view old new h none wider floor
