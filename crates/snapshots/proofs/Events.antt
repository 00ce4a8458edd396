-- Events are kept as they were.
use Rattle.std.proofs.Common.{arith, ◌≡◌, ◌∙◌, sym, ap, subst, refl, ◌+◌, ◌-◌, ◌<◌, ◌≤◌, ◌^◌, ℕ, List, [], ◌∷◌, ◌++◌, length, append_assoc, length-append}
use Rattle.std.proofs.lemmas.List.{append-nil}
use Rattle.circular_buffer.specs.Buffer.{keep_last}
use Rattle.window.specs.declared.event.Event.{Event}
use Rattle.window.specs.Window.{event_at, events_above, AreNumberedFrom}
use Rattle.window.proofs.Numbered.{told_above}
use Rattle.names.specs.declared.format.Rules.{Rules}
use Rattle.documents.specs.Document.{Document}
use Rattle.histories.specs.View.{View}
use Rattle.holdings.specs.Holdings.{Shows}
use Rattle.decoded.specs.Decoded.{Decoded}
use Rattle.snapshots.specs.Restoring.{CanKeep, with_events}
use Rattle.snapshots.proofs.Held.{Core, Object}

abbrev Told : Type 0
Told = Event Document

keep_short : (n : ℕ) (es : List Told) → length es ≤ n → keep_last n es ≡ es
keep_short n es short = let none : length es - n ≡ 0 = omega arith in rw none

numbered_at : (r : ℕ) (done : List Told) (e : Told) (rest : List Told) → AreNumberedFrom r (done ++ e ∷ rest) → e.revision ≡ r + length done + 1
numbered_at r [] e rest is = omega (arith, is.0)
numbered_at r (d ∷ done) e rest is = omega (arith, numbered_at (r + 1) done e rest is.1)

-- the view with one event more, if it is above the floor, and without those that the window has no place for
abbrev pub with_next : Rules → View Decoded → Told → View Decoded
with_next rules v e = record {
  objects = v.objects;
  revision = v.revision + 1;
  events = keep_last rules.window_events (v.events ++ events_above rules.floor (event_at (v.revision + 1) e.change e.key e.document ∷ []));
}

-- the next of some events has its revision, and a place
next_event : (rules : Rules) (v : View Decoded) (done : List Told) (e : Told) (rest all : List Told) → done ++ e ∷ rest ≡ all → AreNumberedFrom v.revision all
    → (0 < length all → rules.floor ≤ v.revision) → length v.events + length all ≤ rules.window_events
    → with_next rules (with_events v done) e ≡ with_events v (done ++ e ∷ [])
next_event rules v done e rest all parts numbered above places =
    let window : ℕ = rules.window_events in
    let number : e.revision ≡ v.revision + length done + 1 =
    numbered_at v.revision done e rest (subst (λ (es : List Told). AreNumberedFrom v.revision es) (sym parts) numbered)
    in
    let next : (v.revision + length done) + 1 ≡ e.revision = omega (arith, number) in
    let same : event_at ((v.revision + length done) + 1) e.change e.key e.document ≡ e =
    λ i. record { revision = next i; change = e.change; key = e.key; document = e.document }
    in
    let some : 0 < length all = omega (arith, ap length parts, length-append done (e ∷ rest)) in
    let told : events_above rules.floor (e ∷ []) ≡ e ∷ [] = told_above rules.floor e (omega (arith, number, above some)) in
    let short : length ((v.events ++ done) ++ e ∷ []) ≤ window =
    omega (
      arith,
      length-append (v.events ++ done) (e ∷ []),
      length-append v.events done,
      ap length parts,
      length-append done (e ∷ rest),
      places,
    )
    in
    let next_told : List Told = events_above rules.floor (event_at ((v.revision + length done) + 1) e.change e.key e.document ∷ []) in
    let is_told : next_told ≡ e ∷ [] = (λ i. events_above rules.floor (same i ∷ [])) ∙ told in
    let events : keep_last window ((v.events ++ done) ++ next_told) ≡ v.events ++ (done ++ e ∷ []) =
    ap (λ (es : List Told). keep_last window ((v.events ++ done) ++ es)) is_told ∙ keep_short window ((v.events ++ done) ++ e ∷ []) short ∙ append_assoc v.events done (e ∷ [])
    in
    let count : (v.revision + length done) + 1 ≡ v.revision + length (done ++ e ∷ []) = omega (arith, length-append done (e ∷ [])) in
    λ i. record { objects = v.objects; revision = count i; events = events i }

-- These are kept so far, in front of those that are left.
pub record AreKept (start now : Core) (all left : List Told) : Type 0 where
  pub done : List Told
  pub parts : done ++ left ≡ all
  pub revision : now.revision ≡ start.revision + length done
  pub shows : (base : List Object) (v : View Decoded) → CanKeep start base v all → Shows now base (with_events v done)

no_more : (v : View Decoded) → v ≡ with_events v []
no_more v =
    let count : v.revision ≡ v.revision + 0 = omega arith in
    let events : v.events ≡ v.events ++ [] = sym (append-nil v.events) in
    λ i. record { objects = v.objects; revision = count i; events = events i }

pub kept_none : (start : Core) (all : List Told) → AreKept start start all all
kept_none start all = record {
  done = [];
  parts = refl;
  revision = omega arith;
  shows = λ base v can. subst (Shows start base) (no_more v) can.shows;
}

pub kept_all : (start now : Core) (all : List Told) → AreKept start now all [] → (base : List Object) (v : View Decoded) → CanKeep start base v all
    → Shows now base (with_events v all)
kept_all start now all kept base v can =
    let same : kept.done ≡ all = sym (append-nil kept.done) ∙ kept.parts in
    subst (λ (es : List Told). Shows now base (with_events v es)) same (kept.shows base v can)

-- there is room for the revision of the next
pub next_revision : (start now : Core) (all left : List Told) (e : Told) (rest : List Told) → AreKept start now all left → left ≡ e ∷ rest
    → start.revision + length all < 2 ^ 64 → now.revision + 1 < 2 ^ 64
next_revision start now all left e rest kept step room =
    omega (
      arith,
      kept.revision,
      ap length kept.parts,
      length-append kept.done left,
      ap length step,
      room,
    )

pub one_more : (start now new : Core) (all left : List Told) (e : Told) (rest : List Told) → AreKept start now all left → left ≡ e ∷ rest → now.rules ≡ start.rules
    → new.revision ≡ now.revision + 1
    → ((base : List Object) (v : View Decoded) → Shows now base v → Shows new base (with_next now.rules v e)) → AreKept start new all rest
one_more start now new all left e rest kept step same number next =
    let done : List Told = kept.done in
    let parts : done ++ e ∷ rest ≡ all = ap (λ (es : List Told). done ++ es) (sym step) ∙ kept.parts in
    record {
      done = done ++ e ∷ [];
      parts = append_assoc done (e ∷ []) rest ∙ parts;
      revision = omega (arith, number, kept.revision, length-append done (e ∷ []));
      shows = λ base v can.
          subst (Shows new base)
          (ap (λ (r : Rules). with_next r (with_events v done) e) same
          ∙ next_event start.rules v done e rest all parts can.numbered can.above can.places)
          (next base (with_events v done) (kept.shows base v can));
    }
