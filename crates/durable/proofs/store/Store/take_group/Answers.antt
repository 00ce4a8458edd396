use Rattle.std.proofs.Common.{arith, ◌≡◌, ◌∙◌, sym, ap, refl, ℕ, List, length, map, take, true≢false}
use Rattle.std.proofs.lemmas.List.{length-map, take_all}
use Rattle.requests.specs.Request.{Request}
use Rattle.requests.specs.RequestOf.{request_of}
use Rattle.durable.specs.declared.fault.Fault.TheVariants as Faults
use Rattle.durable.proofs.Called.{err_same}
use Rattle.durable.proofs.Grouping.{served, stopped, served_nothing, served_more, fault_is}
use Rattle.durable.proofs.Meeting.{met_memory, met_reading, met_appended, met_appending, told_other, device_memory}
use Rattle.durable.proofs.store.Store.take_group.Goals as goal

pub append_group-requires : goal.append_group-requires
append_group-requires g c =
    let got = c.gather_all-gathered.ensures.gathered c.if-not-self.false in
    record { serves = c.if-not-self.false; few = omega (arith, got.gathered.few, got.within, length-map c.args.requests.now request_of, c.requires.few) }

pub returns-in-Err : goal.returns-in-Err
returns-in-Err g c =
    let before = c.args.replies.now.items in
    record {
      served = λ working. served_nothing c.args.self.now (map request_of c.args.requests.now) before (g.met.D.Device.only_now c.args.self.now.device);
      stopped = λ is. told_other Faults.Memory Faults.Device device_memory is;
      front = take_all (length before) before (omega arith);
      met = met_memory c.args.self.now (length c.args.requests.now) c.args.replies.now c.requires.serves;
    }

pub returns-then-not-self : goal.returns-then-not-self
returns-then-not-self g c =
    let got = c.gather_all-gathered.ensures in
    let read = c.gather_all-gathered.result in
    record {
      served = λ working. absurd (true≢false (sym working ∙ c.if-not-self.true));
      stopped = λ is. got.stopped (fault_is read Faults.Device (sym c.err.ensures.value ∙ is));
      front = got.front;
      met = met_reading c.args.self.now c.gather_all-gathered.new.self (length c.args.requests.now) c.args.replies.now c.gather_all-gathered.new.replies read c.err.result
          c.err.ensures.value got.all got.room got.device got.leaves.refusal c.if-not-self.true got.leaves.goes_on got.leaves.memory_goes_on got.damaged got.leaves.cause
          got.leaves.steady got.leaves.unfailed;
    }

pub returns-in-Ok-append_group : goal.returns-in-Ok-append_group
returns-in-Ok-append_group g c =
    let store = c.args.self.now in
    let mid = c.gather_all-gathered.new.self in
    let new = c.append_group.new.self in
    let group = c.gather_all-gathered.new.group in
    let got = c.gather_all-gathered.ensures in
    let read = c.gather_all-gathered.result in
    let all : List Request = map request_of c.args.requests.now in
    let more = got.gathered c.if-not-self.false in
    let appended = c.in-Ok-append_group.ensures in
    let is = c.err-in-Ok-append_group.ensures.value in
    record {
      served = λ working.
          served_more store mid new all c.args.replies.now.items c.gather_all-gathered.new.replies.items group more
          (served store mid new group got.device c.append_group.ensures.paged c.append_group.ensures.lies c.append_group.ensures.stands (take (length more.more) all) more.more
          more.gathered appended.serves c.append_group.ensures.nothing appended.appended);
      stopped = λ device. absurd (true≢false (sym c.if-not-self.false ∙ got.leaves.stops (fault_is read Faults.Device (sym is ∙ device))));
      front = got.front;
      met = met_appended store mid (length c.args.requests.now) c.args.replies.now c.gather_all-gathered.new.replies read c.err-in-Ok-append_group.result is got.all got.room
          got.device got.leaves.refusal new c.if-not-self.false appended.serves got.leaves.stops got.leaves.damaged_stops (appended.cause.well refl)
          got.leaves.steady got.leaves.unfailed;
    }

pub returns-in-Err-append_group : goal.returns-in-Err-append_group
returns-in-Err-append_group g c =
    let store = c.args.self.now in
    let mid = c.gather_all-gathered.new.self in
    let new = c.append_group.new.self in
    let group = c.gather_all-gathered.new.group in
    let got = c.gather_all-gathered.ensures in
    let all : List Request = map request_of c.args.requests.now in
    let more = got.gathered c.if-not-self.false in
    let appended = c.in-Err-append_group.ensures in
    let device : c.in-Err-append_group.fault ≡ Faults.Device = err_same appended.refusal in
    record {
      served = λ working. absurd (true≢false (sym working ∙ appended.serves));
      stopped = λ is.
          stopped store mid new group got.device c.append_group.ensures.paged c.append_group.ensures.lies c.append_group.ensures.stands (take (length more.more) all) all more.more
          more.gathered appended.some more.within (omega (arith, length-map c.args.requests.now request_of, c.requires.few))
          (ap (λ (n : ℕ). take n all) (sym more.gathered.one_each)) appended.serves;
      front = got.front;
      met = met_appending store mid new (length c.args.requests.now) c.args.replies.now c.gather_all-gathered.new.replies c.in-Err-append_group.fault got.room got.device device
          appended.serves appended.cause.later (appended.cause.failed refl);
    }
