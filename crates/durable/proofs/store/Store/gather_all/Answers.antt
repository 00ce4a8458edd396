use Rattle.std.proofs.Common.{arith, ◌∙◌, sym, ap, subst, ◌∷◌, [], List, length, map, refl, Err}
use Rattle.std.proofs.lemmas.List.{length-append, length-map}
use Rattle.checkpoint.proofs.Faults.{no_fault}
use Rattle.requests.specs.Request.{Request}
use Rattle.requests.specs.RequestOf.{request_of}
use Rattle.requests.specs.Reply.{Reply}
use Rattle.durable.specs.declared.fault.Fault.TheVariants as Faults
use Rattle.durable.specs.Gathered.{HasGatheredMore}
use Rattle.durable.specs.Settled.{device_of, serves}
use Rattle.durable.proofs.Called.{serves_value, serves_after}
use Rattle.durable.proofs.Unwritten.{idle, read_then}
use Rattle.durable.proofs.Running.{take-next, first_of}
use Rattle.durable.proofs.Grouping.{more_none, more_then, more_still, more_stopped, only_memory, retyped}
use Rattle.durable.proofs.store.Store.gather_all.Goals as goal

pub loop-request-init : goal.loop-request-init
loop-request-init g c = (
  more_none c.args.self.now c.args.group.now (map request_of c.args.requests.now) c.args.replies.now.items c.requires.none,
  omega arith,
  refl,
  idle g.D.Device.disk (device_of c.args.self.now) (g.met.D.Device.only_now (device_of c.args.self.now)),
  c.requires.serves,
  omega (arith, c.requires.none.count),
  refl,
)

pub returns-in-Err : goal.returns-in-Err
returns-in-Err g c =
    let store = c.args.self.now in
    let mid = c.loop-request.self in
    let new = c.step.new.self in
    let leaves = c.in-Err.ensures.leaves in
    let so_far = c.loop-request.invariant.0 in
    let all : List Request = map request_of c.args.requests.now in
    let run = read_then g.D.Device.disk (device_of store) (device_of mid) (device_of new) c.loop-request.invariant.3 c.step.ensures.device in
    record {
      gathered = λ working.
          let fault = only_memory c.in-Err.fault (serves new) working leaves.refusal (λ is. leaves.stops (ap Err is)) (λ damage is. leaves.damaged_stops damage (ap Err is)) in
          more_still store mid new c.loop-request.group c.step.new.group all c.args.replies.now.items c.loop-request.replies.items so_far (c.in-Err.ensures.stays (ap Err fault));
      stopped = λ is.
          let index = c.loop-request.request-index in
          let device = retyped c.in-Err.fault Faults.Device is in
          let read = c.in-Err.ensures.read device in
          more_stopped store mid new c.loop-request.group c.step.new.group all c.args.replies.now.items c.loop-request.replies.items so_far
          (request_of c.request-item.result) index c.loop-request.invariant.1
          (omega (arith, c.loop-request-test.true, length-map c.args.requests.now request_of)) (omega (arith, c.requires.few, length-map c.args.requests.now request_of))
          (take-next request_of c.args.requests.now index c.request-item.result c.loop-request-test.true c.request-item.is) read.0 read.1 run (leaves.stops device);
      damaged = λ damage is rules v serving.
          c.in-Err.ensures.damaged damage (retyped c.in-Err.fault (Faults.Damaged damage) is) rules _ (so_far.gathered.shown rules v serving).serving;
      front = first_of c.loop-request.replies.items c.args.replies.now.items so_far.more (length c.args.replies.now.items) so_far.pushed refl;
      all = tt;
      room = c.loop-request.invariant.2;
      device = run;
      leaves = serves_after store mid new c.in-Err.fault c.loop-request.invariant.3 c.loop-request.invariant.6 leaves;
    }

pub loop-request-preserved : goal.loop-request-preserved
loop-request-preserved g c =
    let all : List Request = map request_of c.args.requests.now in
    let index = c.loop-request.request-index in
    let given = c.loop-request.replies.items in
    let Now : List Reply → Type 0 = λ now. HasGatheredMore c.args.self.now c.step.new.self c.step.new.group all c.args.replies.now.items now in
    let more = c.push_reserved.ensures.items in (
      subst Now (sym more)
          (more_then c.args.self.now c.loop-request.self c.step.new.self c.loop-request.group c.step.new.group all c.args.replies.now.items given c.loop-request.invariant.0
          (request_of c.request-item.result) c.in-Ok.reply index c.loop-request.invariant.1 (omega (arith, c.loop-request-test.true, length-map c.args.requests.now request_of))
          (take-next request_of c.args.requests.now index c.request-item.result c.loop-request-test.true c.request-item.is) c.in-Ok.ensures.stepped c.step.ensures.count),
      omega (arith, c.loop-request.invariant.1, ap length more, length-append given (c.in-Ok.reply ∷ [])),
      c.push_reserved.ensures.capacity ∙ c.loop-request.invariant.2,
      read_then g.D.Device.disk (device_of c.args.self.now) (device_of c.loop-request.self) (device_of c.step.new.self) c.loop-request.invariant.3 c.step.ensures.device,
      c.in-Ok.ensures.leaves.goes_on,
      omega (arith, c.loop-request.invariant.5, c.step.ensures.count),
      c.in-Ok.ensures.leaves.steady ∙ c.loop-request.invariant.6,
    )

pub returns : goal.returns
returns g c =
    let so_far = c.loop-request.invariant.0 in
    record {
      gathered = λ working. so_far;
      stopped = λ is. absurd (no_fault is);
      damaged = λ damage is. absurd (no_fault is);
      front = first_of c.loop-request.replies.items c.args.replies.now.items so_far.more (length c.args.replies.now.items) so_far.pushed refl;
      all = omega (arith, c.loop-request.invariant.1);
      room = c.loop-request.invariant.2;
      device = c.loop-request.invariant.3;
      leaves = serves_value c.args.self.now c.loop-request.self _ c.loop-request.invariant.4 c.loop-request.invariant.6;
    }
