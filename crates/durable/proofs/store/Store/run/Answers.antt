use Rattle.std.proofs.Common.{arith, ◌≡◌, ◌∙◌, sym, ap, subst, ◌≤◌, ◌++◌, List, length, take, map, refl, [], ◌∷◌, ◌⊎◌, inl, inr, eqb-true, true≢false, Option, Some, None, IfSome}
use Rattle.std.proofs.lemmas.Bool.{eqb-false}
use Rattle.std.proofs.lemmas.List.{append-nil, length-map, length-take, nil_from_length}
use Rattle.device.specs.Disk.{Disk, HasFailed}
use Rattle.device.specs.Run.{Ran}
use Rattle.device.specs.Step.{Same}
use Rattle.requests.specs.Request.{Request}
use Rattle.requests.specs.RequestOf.{request_of}
use Rattle.requests.specs.Reply.{Reply}
use Rattle.durable.specs.declared.fault.Fault.{Fault}
use Rattle.durable.specs.declared.fault.Fault.TheVariants as Faults
use Rattle.durable.specs.declared.store.Store.{Store}
use Rattle.durable.specs.Faults.{MayBeMet}
use Rattle.durable.specs.Settled.{device_of, HasServed}
use Rattle.durable.proofs.Called.{no_device, no_memory, no_damage}
use Rattle.durable.proofs.Meeting.{told_none, none_told, told_other, device_memory, damage_memory}
use Rattle.durable.proofs.Runs.{run_none}
use Rattle.durable.proofs.Grouping.{in_parts, served_so_far, stopped_so_far, left_after, still_inside}
use Rattle.durable.proofs.store.Store.run.Goals as goal

nothing_before : (before more : List Reply) → before ++ more ≡ [] → before ≡ []
nothing_before [] more none = refl
nothing_before (first ∷ rest) more none = cc

failed_later : {D : Type 0} (disk : Disk D) (old mid new : D) → disk.failures old ≤ disk.failures mid → HasFailed disk mid new → HasFailed disk old new
failed_later disk old mid new before (inl more) = inl (omega (arith, before, more))
failed_later disk old mid new before (inr all) = inr all

pub returns-then-not-settled : goal.returns-then-not-settled
returns-then-not-settled g c =
    let stopped = sym c.settled.ensures ∙ c.if-not-settled.true in
    record {
      all = λ none. told_none Faults.Failed none;
      memory = λ is. told_other Faults.Failed Faults.Memory no_memory is;
      device = λ is. told_other Faults.Failed Faults.Device no_device is;
      damaged = λ damage is. told_other Faults.Failed (Faults.Damaged damage) (no_damage damage) is;
      damaged_ran = λ damage is. told_other Faults.Failed (Faults.Damaged damage) (no_damage damage) is;
      damaged_served = λ damage is. told_other Faults.Failed (Faults.Damaged damage) (no_damage damage) is;
      refusal = λ serves. absurd (true≢false (sym serves ∙ stopped));
      failed = λ was. (refl, c.new.ensures.items, refl);
      goes_on = λ told. refl;
      stops = λ is. stopped;
      damaged_stops = λ damage is. stopped;
      cause = λ is. told_other Faults.Failed Faults.Device no_device is;
      count = omega arith;
      steady = λ told. refl;
    }

pub returns-in-Err : goal.returns-in-Err
returns-in-Err g c =
    let working = sym c.settled.ensures ∙ c.if-not-settled.false in
    record {
      all = λ none. told_none Faults.Memory none;
      memory = λ is.
          let Served : List Reply → Type 0 = λ given. HasServed c.args.self.now c.args.self.now (take (length given) (map request_of c.args.requests.now)) given in
          subst Served (sym c.new-in-Err.ensures.items) (run_none c.args.self.now (g.met.D.Device.only_now c.args.self.now.device));
      device = λ is. told_other Faults.Memory Faults.Device device_memory is;
      damaged = λ damage is. told_other Faults.Memory (Faults.Damaged damage) (damage_memory damage) is;
      damaged_ran = λ damage is. told_other Faults.Memory (Faults.Damaged damage) (damage_memory damage) is;
      damaged_served = λ damage is. told_other Faults.Memory (Faults.Damaged damage) (damage_memory damage) is;
      refusal = λ serves. inr (inl refl);
      failed = λ was. absurd (true≢false (sym working ∙ was));
      goes_on = λ told. refl;
      stops = λ is. told_other Faults.Memory Faults.Device device_memory is;
      damaged_stops = λ damage is. told_other Faults.Memory (Faults.Damaged damage) (damage_memory damage) is;
      cause = λ is. told_other Faults.Memory Faults.Device device_memory is;
      count = omega arith;
      steady = λ told. refl;
    }

pub loop-rest-init : goal.loop-rest-init
loop-rest-init g c =
    let all : List Request = map request_of c.args.requests.now in
    let none = c.in-Ok.ensures.items in
    let Served : List Reply → Type 0 = λ given. HasServed c.args.self.now c.args.self.now (take (length given) all) given in
    let Left : List Reply → Type 0 = λ given. all ≡ take (length given) all ++ all in
    let working = sym c.settled.ensures ∙ c.if-not-settled.false in (
      subst Served (sym none) (run_none c.args.self.now (g.met.D.Device.only_now c.args.self.now.device)),
      subst Left (sym none) refl,
      omega (arith, ap length none),
      omega (arith, c.in-Ok.ensures.capacity),
      working,
      working,
      omega arith,
      λ nothing. refl,
      refl,
    )

pub loop-rest-preserved : goal.loop-rest-preserved
loop-rest-preserved g c =
    let all : List Request = map request_of c.args.requests.now in
    let given : List Reply = c.loop-rest.replies.items in
    let now : List Reply = c.answer_group.new.replies.items in
    let group : List Request = map request_of c.split_at.result.0.now in
    let later : List Request = map request_of c.split_at.result.1.now in
    let inside : length given ≤ length all = omega (arith, c.loop-rest.invariant.2, length-map c.args.requests.now request_of) in
    let split : all ≡ take (length given) all ++ (group ++ later) =
    c.loop-rest.invariant.1 ∙ ap (λ (rs : List Request). take (length given) all ++ rs)
    (in_parts request_of c.loop-rest.rest.now c.split_at.result.0.now c.split_at.result.1.now c.group_size.result c.split_at.ensures.front c.split_at.ensures.back) in (
      served_so_far c.args.self.now c.loop-rest.self c.answer_group.new.self all group later given now c.answer_group.result inside split c.loop-rest.invariant.0 c.answer_group.ensures.answered
          (inl c.in-None.is),
      left_after c.args.self.now c.loop-rest.self c.answer_group.new.self all group later given now c.answer_group.result inside split c.loop-rest.invariant.0 c.answer_group.ensures.answered
          c.in-None.is,
      omega (
        arith,
        still_inside c.args.self.now c.loop-rest.self c.answer_group.new.self all group later given now c.answer_group.result inside split c.loop-rest.invariant.0
            c.answer_group.ensures.answered,
        length-map c.args.requests.now request_of,
      ),
      omega (arith, c.loop-rest.invariant.3, c.answer_group.ensures.met.room),
      c.answer_group.ensures.met.goes_on (inl c.in-None.is),
      c.loop-rest.invariant.5,
      omega (arith, c.loop-rest.invariant.6, c.answer_group.ensures.met.count),
      λ nothing.
          let some = eqb-false (length c.loop-rest.rest.now) 0 (sym c.is_empty.ensures ∙ c.loop-rest-test.true) in
          absurd (omega (arith, ap length nothing, c.answer_group.ensures.met.all c.in-None.is, ap length c.split_at.ensures.front, length-take c.group_size.result c.loop-rest.rest.now, c.group_size.ensures, some)),
      c.answer_group.ensures.met.steady (inl c.in-None.is) ∙ c.loop-rest.invariant.8,
    )

pub returns-in-Some : goal.returns-in-Some
returns-in-Some g c =
    let all : List Request = map request_of c.args.requests.now in
    let given : List Reply = c.loop-rest.replies.items in
    let group : List Request = map request_of c.split_at.result.0.now in
    let later : List Request = map request_of c.split_at.result.1.now in
    let inside : length given ≤ length all = omega (arith, c.loop-rest.invariant.2, length-map c.args.requests.now request_of) in
    let split : all ≡ take (length given) all ++ (group ++ later) =
    c.loop-rest.invariant.1 ∙ ap (λ (rs : List Request). take (length given) all ++ rs)
    (in_parts request_of c.loop-rest.rest.now c.split_at.result.0.now c.split_at.result.1.now c.group_size.result c.split_at.ensures.front c.split_at.ensures.back) in
    record {
      all = λ none. told_none c.in-Some.fault none;
      memory = λ is.
          served_so_far c.args.self.now c.loop-rest.self c.answer_group.new.self all group later given c.answer_group.new.replies.items c.answer_group.result inside split c.loop-rest.invariant.0
          c.answer_group.ensures.answered (inr (c.in-Some.is ∙ is));
      device = λ is.
          stopped_so_far c.args.self.now c.loop-rest.self c.answer_group.new.self all group later given c.answer_group.new.replies.items c.answer_group.result inside split c.loop-rest.invariant.0
          c.answer_group.ensures.answered (c.in-Some.is ∙ is);
      damaged = λ damage is rules v serving.
          let so_far = c.loop-rest.invariant.0.shown rules v serving in
          c.answer_group.ensures.met.damaged damage (c.in-Some.is ∙ is) rules _ so_far.serving;
      damaged_ran = λ damage is nothing.
          let From : Store g.row.D.Denot g.D.Device → Type 0 = λ store. Ran g.D.Device.disk (device_of store) (device_of c.answer_group.new.self) Same in
          subst From (c.loop-rest.invariant.7 (nothing_before given c.answer_group.ensures.answered.more (sym c.answer_group.ensures.answered.pushed ∙ nothing)))
          (c.answer_group.ensures.met.damaged_ran damage (c.in-Some.is ∙ is));
      damaged_served = λ damage is.
          let Served : List Reply → Type 0 = λ replies. HasServed c.args.self.now c.loop-rest.self (take (length replies) all) replies in
          record {
            before = c.loop-rest.self;
            served = subst Served (sym (c.answer_group.ensures.none damage (c.in-Some.is ∙ is))) c.loop-rest.invariant.0;
            idle = c.answer_group.ensures.met.damaged_ran damage (c.in-Some.is ∙ is);
          };
      refusal = λ working.
          let Met : Option Fault → Type 0 = λ stop. IfSome stop MayBeMet in
          subst Met c.in-Some.is c.answer_group.ensures.met.refusal;
      goes_on = λ told.
          let Served : Option Fault → Type 0 = λ stop. (stop ≡ None) ⊎ (stop ≡ Some Faults.Memory) in
          c.answer_group.ensures.met.goes_on (subst Served (sym c.in-Some.is) told) ∙ sym c.loop-rest.invariant.5;
      stops = λ is. c.answer_group.ensures.met.stops (c.in-Some.is ∙ is);
      damaged_stops = λ damage is. c.answer_group.ensures.met.damaged_stops damage (c.in-Some.is ∙ is);
      cause = λ is.
          failed_later g.D.Device.disk (device_of c.args.self.now) (device_of c.loop-rest.self) (device_of c.answer_group.new.self) c.loop-rest.invariant.6
          (c.answer_group.ensures.met.cause (c.in-Some.is ∙ is));
      count = omega (arith, c.loop-rest.invariant.6, c.answer_group.ensures.met.count);
      steady = λ told.
          let Served : Option Fault → Type 0 = λ stop. (stop ≡ None) ⊎ (stop ≡ Some Faults.Memory) in
          c.answer_group.ensures.met.steady (subst Served (sym c.in-Some.is) told) ∙ c.loop-rest.invariant.8;
      failed = λ was. absurd (true≢false (sym c.loop-rest.invariant.5 ∙ was));
    }

pub returns : goal.returns
returns g c =
    let all : List Request = map request_of c.args.requests.now in
    let given : List Reply = c.loop-rest.replies.items in
    let none = nil_from_length c.loop-rest.rest.now (eqb-true (length c.loop-rest.rest.now) 0 (sym c.is_empty.ensures ∙ c.loop-rest-test.false)) in
    let whole : all ≡ take (length given) all =
    c.loop-rest.invariant.1 ∙ ap (λ rs. take (length given) all ++ map request_of rs) none ∙ append-nil (take (length given) all) in
    let Served : List Request → Type 0 = λ rs. HasServed c.args.self.now c.loop-rest.self rs given in
    record {
      all = λ is. subst Served (sym whole) c.loop-rest.invariant.0;
      memory = λ is. none_told Faults.Memory is;
      device = λ is. none_told Faults.Device is;
      damaged = λ damage is. none_told (Faults.Damaged damage) is;
      damaged_ran = λ damage is. none_told (Faults.Damaged damage) is;
      damaged_served = λ damage is. none_told (Faults.Damaged damage) is;
      refusal = λ serves. tt;
      failed = λ was. absurd (true≢false (sym c.loop-rest.invariant.5 ∙ was));
      goes_on = λ told. c.loop-rest.invariant.4 ∙ sym c.loop-rest.invariant.5;
      stops = λ is. none_told Faults.Device is;
      damaged_stops = λ damage is. none_told (Faults.Damaged damage) is;
      cause = λ is. none_told Faults.Device is;
      count = c.loop-rest.invariant.6;
      steady = λ told. c.loop-rest.invariant.8;
    }
