use Rattle.std.proofs.Common.{◌∙◌, refl, sym, subst, ◌≡◌, ◌+◌, ℕ, [], ◌∷◌, ◌++◌}
use Rattle.gatelog.specs.Log.{HoldsLog}
use Rattle.gatelog.proofs.Walking.{same_then}
use Rattle.roots.specs.Root.{log_sector}
use Rattle.records.proofs.Groups.{all-push}
use Rattle.damage.specs.Records.{IsOfWrites}
use Rattle.damage.proofs.Walking.{walked_here, walked_on, damaged_there}
use Rattle.damage.proofs.record_search.first_damaged.Goals as goal

pub each-init : goal.each-init
each-init g c = record {
  ran = c.«open».ensures.ran;
  passed = [];
  walked = λ keeps.
      let content = g.D.Device.disk.content c.args.device.now in
      let start : c.log_sector.result ≡ log_sector c.args.root.now = c.log_sector.ensures.place in
      let found = c.in_ok-log.ensures.found keeps in
      let At : ℕ → Type 0 = λ s. HoldsLog s found.0 c.in_ok-log.log.last_gate_sector content in
      walked_here content (log_sector c.args.root.now) c.first_gate_sector-gate.result c.in_ok-log.log.last_gate_sector found.0
      (c.first_gate_sector-gate.ensures.gate ∙ c.in_ok-log.ensures.log.0 ∙ start) (subst At start found.1);
  sound = tt;
}

pub each-preserved : goal.each-preserved
each-preserved g c =
    let inv = c.each.invariant in
    let disk = g.D.Device.disk in
    record {
      ran = same_then disk c.args.device.now c.each.device c.payload.new.device inv.ran c.payload.ensures.ran;
      passed = inv.passed ++ c.in-Some.payload.items ∷ [];
      walked = λ keeps.
          walked_on (disk.content c.args.device.now) (disk.content c.each.device) (inv.ran.seen keeps) (log_sector c.args.root.now) c.each.gate c.each.log.last_gate_sector inv.passed (inv.walked keeps)
          c.in_ok-payload.field-0 (c.in-Some.payload, c.in-Some.next) c.in-Some.is (c.in_ok-payload.ensures.found (inv.ran.kept keeps)) _
          c.payload.ensures.place.1;
      sound = all-push IsOfWrites inv.passed c.in-Some.payload.items inv.sound
          (subst IsOfWrites c.deref.ensures.value (c.in_ok-is_of_writes.ensures.yes c.if-not-branch.false));
    }

pub returns-then-not-branch-clause-first : goal.returns-then-not-branch-clause-first
returns-then-not-branch-clause-first g c = λ keeps.
    let inv = c.each.invariant in
    let disk = g.D.Device.disk in
    damaged_there (disk.content c.args.device.now) (disk.content c.each.device) (inv.ran.seen keeps) (log_sector c.args.root.now) c.each.gate c.each.log.last_gate_sector inv.passed (inv.walked keeps)
    c.in_ok-payload.field-0 (c.in-Some.payload, c.in-Some.next) c.in-Some.is (c.in_ok-payload.ensures.found (inv.ran.kept keeps)) c.args.root.now refl inv.sound
    (λ is. c.in_ok-is_of_writes.ensures.no c.if-not-branch.true (subst IsOfWrites (sym c.deref.ensures.value) is)) (c.each.gate + 1) refl
