use Rattle.std.proofs.Common.{arith, ◌≡◌, ◌∙◌, sym, ap, subst, ◌+◌, ℕ, List, length, take, map, true≢false, inl}
use Rattle.std.proofs.lemmas.List.{length-map}
use Rattle.requests.specs.RequestOf.{request_of}
use Rattle.requests.specs.Reply.{Reply}
use Rattle.durable.specs.Gathered.{HasAnswered}
use Rattle.durable.proofs.Grouping.{answered_group, stopped_group}
use Rattle.durable.proofs.store.Store.answer_group.Goals as goal

pub returns-then-self : goal.returns-then-self
returns-then-self g c =
    let taken = c.take_group-stop.ensures in
    let before : List Reply = c.args.replies.now.items in
    record {
      answered = answered_group c.args.self.now c.take_group-stop.new.self (map request_of c.args.requests.now) before c.take_group-stop.result c.take_group-stop.new.replies.items
          (taken.served c.if-self.true) (λ none. taken.met.all none ∙ ap (λ (n : ℕ). length before + n) (sym (length-map c.args.requests.now request_of)))
          (λ device. true≢false (sym c.if-self.true ∙ taken.met.stops device));
      none = λ damage is. absurd (true≢false (sym c.if-self.true ∙ taken.met.damaged_stops damage is));
      met = taken.met;
    }

pub returns : goal.returns
returns g c =
    let taken = c.take_group-stop.ensures in
    let met = taken.met in
    let before : List Reply = c.args.replies.now.items in
    let count : c.len-before.result ≡ length before = omega (arith, c.len-before.ensures, c.args.replies.now.ok) in
    let cut : c.truncate.new.self.items ≡ before = c.truncate.ensures.items ∙ ap (λ (n : ℕ). take n c.take_group-stop.new.replies.items) count ∙ taken.front in
    let Now : List Reply → Type 0 = λ now. HasAnswered c.args.self.now c.take_group-stop.new.self (map request_of c.args.requests.now) before now c.take_group-stop.result in
    record {
      answered = subst Now (sym cut)
          (stopped_group c.args.self.now c.take_group-stop.new.self (map request_of c.args.requests.now) before c.take_group-stop.result
          (λ is. true≢false (sym (met.goes_on is) ∙ c.if-self.false)) taken.stopped);
      none = λ damage is. cut;
      met = record {
        damaged = met.damaged;
        damaged_ran = met.damaged_ran;
        all = λ none. absurd (true≢false (sym (met.goes_on (inl none)) ∙ c.if-self.false));
        room = c.truncate.ensures.capacity ∙ met.room;
        goes_on = met.goes_on;
        stops = met.stops;
        damaged_stops = met.damaged_stops;
        refusal = met.refusal;
        cause = met.cause;
        count = met.count;
        steady = met.steady;
      };
    }
