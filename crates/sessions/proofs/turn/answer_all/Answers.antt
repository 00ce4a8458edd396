use Rattle.std.proofs.Common.{arith, ℕ, Bool, List, length, eqb-true, ◌∙◌, sym, refl, subst, take, drop}
use Rattle.std.proofs.lemmas.List.{take-append-drop, take_rest, length-drop, length-take, nil_from_length}
use Rattle.api.proofs.Causes.{causes_none, causes_later}
use Rattle.api.proofs.Folds.{seen}
use Rattle.sessions.specs.declared.note.Note.{Note}
use Rattle.sessions.specs.Notes.{listed, Tells}
use Rattle.sessions.proofs.Taking.{known_dropped}
use Rattle.sessions.proofs.Turns.{before_none, before_more, before_all, before_stops}
use Rattle.sessions.proofs.turn.answer_all.Goals as goal

pub loop-rest-init : goal.loop-rest-init
loop-rest-init g c = record {
  before = λ rules v shows. before_none rules c.args.store.now v c.args.places.now c.args.messages.now c.args.sessions.now
      c.args.tools.now.notes.is_kept (listed c.args.tools.now.notes) shows (λ keeps content since. g.met.D.Device.only_now _ content keeps since);
  kept = refl;
  device_later = omega arith;
  goes_on = refl;
  few = c.requires.few;
  alike = c.requires.counted;
  known = c.requires.known;
}

pub returns-in-Err-clause-outcome : goal.returns-in-Err-clause-outcome
returns-in-Err-clause-outcome g c rules v shows =
    let before = c.loop-rest.invariant.before rules v shows in
    before_stops rules c.args.store.now c.loop-rest.store c.answer_front.new.store v c.args.places.now c.loop-rest.left.now c.args.messages.now c.loop-rest.rest.now
    c.args.sessions.now c.loop-rest.sessions c.answer_front.new.sessions c.in-Err.fault c.args.tools.now.notes.is_kept
    (listed c.args.tools.now.notes) (listed c.loop-rest.tools.notes) before c.loop-rest.auto.sessions
    (c.in-Err.ensures.outcome rules _ before.tells.turned.store.shows)

pub loop-rest-preserved : goal.loop-rest-preserved
loop-rest-preserved g c =
    let rest = c.loop-rest.rest.now in
    let left = c.loop-rest.left.now in
    let count : ℕ = c.in-Ok.count in
    record {
      before = λ rules v shows.
          let before = c.loop-rest.invariant.before rules v shows in
          let held : List Note = listed c.args.tools.now.notes in
          let holds : List Note = listed c.loop-rest.tools.notes in
          let told : List Note = listed c.answer_front.new.tools.notes in
          let Kept : Bool → Type 0 = λ k.
          Tells rules c.loop-rest.store c.answer_front.new.store (seen rules v before.tells.turned.answered) (take count left) (take count rest) c.loop-rest.sessions
          c.answer_front.new.sessions k holds told
          in
          simp take_rest
          (before_more rules c.args.store.now c.loop-rest.store c.answer_front.new.store v c.args.places.now left (take count left) (drop count left) c.args.messages.now rest
          (take count rest) (drop count rest) c.args.sessions.now c.loop-rest.sessions c.answer_front.new.sessions c.args.tools.now.notes.is_kept held holds told before (sym (take-append-drop count left))
          (sym (take-append-drop count rest)) (omega (arith, length-take count left, length-take count rest, c.loop-rest.invariant.alike)) c.loop-rest.auto.sessions
          (subst Kept c.loop-rest.invariant.kept (c.in-Ok.ensures.outcome rules _ before.tells.turned.store.shows)));
      kept = c.answer_front.ensures.kept ∙ c.loop-rest.invariant.kept;
      device_later = omega (arith, c.loop-rest.invariant.device_later, c.in-Ok.ensures.causes.device_later);
      goes_on = c.in-Ok.ensures.causes.goes_on ∙ c.loop-rest.invariant.goes_on;
      few = simp take_rest (omega (arith, length-drop count rest, c.loop-rest.invariant.few));
      alike = simp take_rest (omega (arith, length-drop count rest, length-drop count left, c.loop-rest.invariant.alike));
      known = simp take_rest (known_dropped (length c.args.sessions.now) count left c.loop-rest.invariant.known);
    }

pub returns-clause-outcome : goal.returns-clause-outcome
returns-clause-outcome g c rules v shows =
    let none = nil_from_length c.loop-rest.rest.now (eqb-true (length c.loop-rest.rest.now) 0 (sym c.is_empty.ensures ∙ c.loop-rest-test.false)) in
    before_all rules c.args.store.now c.loop-rest.store v c.args.places.now c.loop-rest.left.now c.args.messages.now c.loop-rest.rest.now c.args.sessions.now c.loop-rest.sessions
    c.args.tools.now.notes.is_kept (listed c.args.tools.now.notes) (listed c.loop-rest.tools.notes) (c.loop-rest.invariant.before rules v shows)
    (nil_from_length c.loop-rest.left.now (c.loop-rest.invariant.alike ∙ eqb-true (length c.loop-rest.rest.now) 0 (sym c.is_empty.ensures ∙ c.loop-rest-test.false))) none

pub returns-in-Err-clause-causes : goal.returns-in-Err-clause-causes
returns-in-Err-clause-causes g c =
    causes_later _ _ _ _ _ _ _ _ _ c.in-Err.fault (omega arith) c.loop-rest.invariant.device_later c.loop-rest.invariant.goes_on c.in-Err.ensures.causes

pub returns-clause-causes : goal.returns-clause-causes
returns-clause-causes g c = causes_none _ _ _ _ _ _ _ (omega arith) c.loop-rest.invariant.device_later c.loop-rest.invariant.goes_on
