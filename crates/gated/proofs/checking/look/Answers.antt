use Rattle.std.proofs.Common.{rules, ◌≡◌, sym, subst, inr, ℕ, List}
use Rattle.std.specs.Option.{IfSome}
use Rattle.damage.specs.Place.{IsDamagedAt}
use Rattle.durable.specs.declared.fault.Fault.TheVariants as fault
use Rattle.gated.proofs.checking.look.Goals as goal

pub returns-in-Some-clause-found : goal.returns-in-Some-clause-found
returns-in-Some-clause-found g c =
    let disk = g.D.Device.disk in
    let ran = c.damaged_place-place.ensures.ran in
    let At : List ℕ → Type 0 = λ content. IfSome c.damaged_place-place.result (IsDamagedAt content) in
    let is : c.in-Err.fault ≡ fault.Damaged c.in-Some.damage = search rules in
    record {
      found = c.in_ok-device.device;
      left = c.damaged_place-place.new.device;
      was_opened = c.in_ok-device.ensures.opened;
      was_closed = c.close-in-Some.ensures.closed;
      none = λ rules h holds. c.in-Err.ensures.undamaged rules h holds c.in-Some.damage is;
      kind = c.damaged_place-place.ensures.kind;
      at = λ keeps. let was = ran.had_kept keeps in subst At (sym (ran.seen was)) (c.damaged_place-place.ensures.at was);
    }

pub returns-in-None-clause-left : goal.returns-in-None-clause-left
returns-in-None-clause-left g c = inr (record {
  found = c.in_ok-device.device;
  left = c.in-Err.device;
  was_opened = c.in_ok-device.ensures.opened;
  was_closed = c.close-in-None.ensures.closed;
  is_so = c.in-Err.ensures.failed;
})
