-- A run with what stands in the documents of its requests.
use Rattle.std.proofs.Common.{arith, ◌≡◌, ◌∙◌, ap, sym, subst, ◌+◌, ◌≤◌, ◌++◌, ℕ, List, [], ◌∷◌, length, take, drop, refl}
use Rattle.std.proofs.lemmas.List.{append_assoc, map-append, length-append, length-take-le, take-append-drop}
use Rattle.std.specs.List.{AllByRecursion}
use Rattle.device.specs.declared.device.Device.{Ghosts}
use Rattle.names.specs.declared.format.Format.{Format}
use Rattle.requests.specs.Request.{Request}
use Rattle.requests.specs.Reply.{Reply}
use Rattle.histories.specs.View.{after_all}
use Rattle.celtree.specs.Tree.{Expr}
use Rattle.expressions.specs.Specification.{Specification}
use Rattle.roots.specs.declared.root.Root.{Root}
use Rattle.apicore.specs.Step.{Asked, accepted}
use Rattle.apicore.specs.Prepared.{IsReadOf}
use Rattle.apicore.proofs.Admitting.{accepted_admitted}
use Rattle.durable.specs.declared.store.Store.{Store}
use Rattle.durable.specs.Settled.{added, AreAsked, HasStoppedAs, HasServed, HasStopped, device_of, root_of, format_of}
use Rattle.durable.proofs.Unwritten.{read_then}
use Rattle.durable.proofs.Running.{served_none, served_then, stopped_then, replies-append, answered_none, answered_then, none_in_none, first_of}

module _ (format : Format) where
  abbrev Read : Asked → Type 0
  Read a = IsReadOf format a.request a.specification

  read-append : (xs ys : List Asked) → AllByRecursion Read xs → AllByRecursion Read ys → AllByRecursion Read (xs ++ ys)
  read-append [] ys first more = more
  read-append (x ∷ xs) ys first more = (first.0, read-append xs ys first.1 more)

  -- requests of which the first and the others are asked
  pub asked_then : (requests more : List Request) (asked others : List Asked) → AreAsked format requests asked → AreAsked format more others
      → AreAsked format (requests ++ more) (asked ++ others)
  asked_then requests more asked others are next = record {
    are = map-append (λ (x : Asked). x.request) asked others ∙ (λ i. are.are i ++ next.are i);
    read = read-append asked others are.read next.read;
  }

-- A store with the same root has the same format.
module _ {D : Type 0} {g : Ghosts D} (old mid : Store D g) (same : root_of mid ≡ root_of old) where
  pub read_before : (r : Request) (s : Specification Expr) → IsReadOf (format_of mid) r s → IsReadOf (format_of old) r s
  read_before r s read = let Read : Root → Type 0 = λ root. IsReadOf root.label.format r s in subst Read same read

  pub asked_before : (requests : List Request) (asked : List Asked) → AreAsked (format_of mid) requests asked → AreAsked (format_of old) requests asked
  asked_before requests asked are = let Are : Root → Type 0 = λ root. AreAsked root.label.format requests asked in subst Are same are

-- nothing was asked
pub run_none : {D : Type 0} {g : Ghosts D} (store : Store D g)
    → ((c : List ℕ) → g.disk.keeps (device_of store) → g.disk.since (device_of store) (g.disk.moment (device_of store)) c → g.disk.left (device_of store) c)
    → HasServed store store [] []
run_none store only_now = record {
  asked = [];
  are = record { are = refl; read = tt };
  root = refl;
  shown = λ rules v serving. answered_none rules store v only_now serving;
  settled = λ rules h settled. served_none rules store h (λ c since. only_now c settled.keeps since) settled;
}

module _ {D : Type 0} {g : Ghosts D} (old mid new : Store D g) (done : List Request) (given answers : List Reply) (so_far : HasServed old mid done given) where
  -- requests more
  pub run_then : (more : List Request) → HasServed mid new more answers → HasServed old new (done ++ more) (given ++ answers)
  run_then more next = record {
    asked = so_far.asked ++ next.asked;
    are = asked_then (format_of old) done more so_far.asked next.asked so_far.are (asked_before old mid so_far.root more next.asked next.are);
    root = next.root ∙ so_far.root;
    shown = λ rules v serving.
        let before = so_far.shown rules v serving in
        answered_then rules old mid new v so_far.asked next.asked given answers before (next.shown rules (after_all rules v (accepted rules v so_far.asked)) before.serving);
    settled = λ rules h settled.
        let before = so_far.settled rules h settled in
        served_then rules old mid new h so_far.asked before next.asked (next.settled rules (h ++ added rules h so_far.asked) before.settled);
  }

  -- the device failed in further requests
  pub run_stopped : (group later all : List Request) → length given ≡ length done → all ≡ done ++ (group ++ later) → (next : HasStopped mid new group answers)
      → length answers + length next.failing ≤ length group → HasStopped old new all (given ++ answers)
  run_stopped group later all one_each split next within =
      let count : ℕ = length answers + length next.failing in
      let reached : take (length (given ++ answers) + length next.failing) all ≡ done ++ take count group =
      first_of all (done ++ take count group) (drop count group ++ later) (length (given ++ answers) + length next.failing)
      (split ∙ ap (λ (rs : List Request). done ++ (rs ++ later)) (sym (take-append-drop count group)) ∙ ap (λ (rs : List Request). done ++ rs) (append_assoc (take count group) (drop count group) later)
      ∙ sym (append_assoc done (take count group) (drop count group ++ later)))
      (omega (arith, one_each, length-append given answers, length-append done (take count group), length-take-le count group within))
      in
      let Are : List Request → List Asked → Type 0 = λ rs asked. AreAsked (format_of old) rs asked in
      record {
        asked = so_far.asked ++ next.asked;
        failing = next.failing;
        some = next.some;
        few = next.few;
        are = subst (λ rs. Are rs ((so_far.asked ++ next.asked) ++ next.failing)) (sym reached)
            (subst (Are (done ++ take count group)) (sym (append_assoc so_far.asked next.asked next.failing))
            (asked_then (format_of old) done (take count group) so_far.asked (next.asked ++ next.failing) so_far.are
            (asked_before old mid so_far.root (take count group) (next.asked ++ next.failing) next.are)));
        shown = λ rules v serving.
            let before = so_far.shown rules v serving in
            let further = next.shown rules (after_all rules v (accepted rules v so_far.asked)) before.serving in
            let All : List Asked → Type 0 = λ asked. accepted rules v asked ≡ [] in (
              (λ i. before.answered i ++ further.0 i) ∙ sym (replies-append rules v so_far.asked next.asked),
              (λ none.
                  let parts = none_in_none rules v so_far.asked (next.asked ++ next.failing) (subst All (append_assoc so_far.asked next.asked next.failing) none) in
                  read_then g.disk (device_of old) (device_of mid) (device_of new) (before.untouched parts.0) (further.1 parts.1)),
              accepted_admitted rules v ((so_far.asked ++ next.asked) ++ next.failing),
            );
        stopped = λ rules h settled.
            let before = so_far.settled rules h settled in
            let Stopped : List Asked → Type 0 = λ all. HasStoppedAs rules old new h (so_far.asked ++ next.asked) all in
            subst Stopped (sym (append_assoc so_far.asked next.asked next.failing))
            (stopped_then rules old mid new h so_far.asked before next.asked (next.asked ++ next.failing) (next.stopped rules (h ++ added rules h so_far.asked) before.settled));
      }
