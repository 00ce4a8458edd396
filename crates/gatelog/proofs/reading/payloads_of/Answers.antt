use Rattle.std.proofs.Common.{◌∙◌, sym, ap, subst, ℕ, List, map, Option, Vec, Global}
use Rattle.std.proofs.lemmas.List.{map_push}
use Rattle.gatelog.specs.Log.{HoldsLog}
use Rattle.gatelog.specs.Walk.{IsFirstOf}
use Rattle.gatelog.proofs.Walking.{same_then, passes-first}
use Rattle.gatelog.proofs.reading.payloads_of.Goals as goal

pub each-preserved : goal.each-preserved
each-preserved g c =
    let inv = c.each.invariant in
    let disk = g.D.Device.disk in
    let content = disk.content c.args.device.now in
    record {
      ran = same_then disk c.args.device.now c.each.device c.payload_behind.new.device inv.ran c.payload_behind.ensures.ran;
      end = inv.end;
      at_most = inv.at_most;
      steady = c.in_ok-payload.ensures.steady ∙ inv.steady;
      passes = λ keeps.
          let First : Option (Vec ℕ Global × ℕ) → List (List ℕ) → List ℕ → Type 0 = λ told payloads x. IsFirstOf told payloads c.args.last x in
          let Log : List (List ℕ) → List ℕ → Type 0 = λ payloads x. HoldsLog c.each.gate payloads c.args.last x in
          passes-first c.args.start c.each.gate c.args.last content (map (λ (v : Vec ℕ Global). v.items) c.each.found.items) (map (λ (v : Vec ℕ Global). v.items) c.push.new.self.items)
          (c.in-Some.payload, c.in-Some.next) (inv.passes keeps)
          (λ payloads log.
          subst (λ told. First told payloads content) c.in-Some.is (subst (First c.in_ok-payload.field-0 payloads) (inv.ran.seen keeps)
          (c.in_ok-payload.ensures.found (inv.ran.kept keeps) payloads (subst (Log payloads) (sym (inv.ran.seen keeps)) log))))
          (ap (map (λ (v : Vec ℕ Global). v.items)) c.in_ok-push.ensures.items ∙ map_push (λ (v : Vec ℕ Global). v.items) c.each.found.items c.in-Some.payload);
    }
