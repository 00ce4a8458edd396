use Rattle.std.proofs.Common.{◌∙◌, ◌≡◌, refl, sym, subst, ℕ, List, [], ◌∷◌, ◌++◌, Option}
use Rattle.std.specs.Option.{IfSome}
use Rattle.gatelog.specs.Log.{HoldsLog}
use Rattle.gatelog.proofs.Walking.{same_then}
use Rattle.names.specs.Key.{Key}
use Rattle.roots.specs.Root.{log_sector}
use Rattle.damage.specs.Plans.{ArePutIn, PutsOtherPlans}
use Rattle.damage.proofs.Walking.{walked_here, walked_on, puts_there, either_found, if_found}
use Rattle.damage.proofs.plan_search.last_put.Goals as goal

pub each-init : goal.each-init
each-init g c = record {
  ran = c.«open».ensures.ran;
  passed = [];
  walked = λ keeps.
      let content = g.D.Device.disk.content c.args.device.now in
      let start : c.log_sector.result ≡ log_sector c.args.root.now = c.log_sector.ensures.place in
      let found = c.in_ok-log.ensures.found keeps in
      let At : ℕ → Type 0 = λ s. HoldsLog s found.0 c.in_ok-log.log.last_gate_sector content in
      walked_here content (log_sector c.args.root.now) c.first_gate_sector-gate.result c.in_ok-log.log.last_gate_sector found.0
      (c.first_gate_sector-gate.ensures.gate ∙ c.in_ok-log.ensures.log.0 ∙ start) (subst At start found.1);
  found = λ keeps. tt;
}

pub each-preserved : goal.each-preserved
each-preserved g c =
    let inv = c.each.invariant in
    let disk = g.D.Device.disk in
    let content = disk.content c.args.device.now in
    let root = c.args.root.now in
    record {
      ran = same_then disk c.args.device.now c.each.device c.payload.new.device inv.ran c.payload.ensures.ran;
      passed = inv.passed ++ c.in-Some.payload.items ∷ [];
      walked = λ keeps.
          walked_on content (disk.content c.each.device) (inv.ran.seen keeps) (log_sector root) c.each.gate c.each.log.last_gate_sector inv.passed (inv.walked keeps)
          c.in_ok-payload.field-0 (c.in-Some.payload, c.in-Some.next) c.in-Some.is (c.in_ok-payload.ensures.found (inv.ran.kept keeps)) _
          c.payload.ensures.place.1;
      found = λ keeps.
          let Found : Option Key → Type 0 = λ found. IfSome found (PutsOtherPlans content root) in
          let Put : List ℕ → Type 0 = λ bytes. IfSome c.in_ok-put_in.field-0 (ArePutIn root.label.format bytes) in
          let here = subst Put c.deref.ensures.value c.in_ok-put_in.ensures in
          let puts = puts_there content (disk.content c.each.device) (inv.ran.seen keeps) (log_sector root) c.each.gate c.each.log.last_gate_sector inv.passed (inv.walked keeps)
          c.in_ok-payload.field-0 (c.in-Some.payload, c.in-Some.next) c.in-Some.is (c.in_ok-payload.ensures.found (inv.ran.kept keeps)) root refl in
          subst Found (sym c.or-found.ensures)
          (either_found (PutsOtherPlans content root) c.in_ok-put_in.field-0 c.each.found
          (if_found (ArePutIn root.label.format c.in-Some.payload.items) (PutsOtherPlans content root) puts c.in_ok-put_in.field-0 here) (inv.found keeps));
    }
