use Rattle.std.proofs.Common.{arith, ◌≡◌, refl, sym, subst, ℕ, List, [], Option, Result, Ok, Err, OnErr, ◌≢◌, ◌≤◌, true≢false}
use Rattle.std.specs.Prelude.{MatchOption}
use Rattle.gatelog.specs.declared.record.Body.{Body}
use Rattle.gatelog.specs.Payload.{payload_of}
use Rattle.histories.specs.History.{Write}
use Rattle.records.specs.Gathered.{count_of}
use Rattle.records.specs.Payload.{payload}
use Rattle.durable.specs.Gathered.{in_record}
use Rattle.durable.proofs.Grouping.{no_writes, held_still, held_with_none, is_group}
use Rattle.durable.proofs.store.Store.append_group.Goals as goal

-- what holds of both stands where there is an error
on_err : {T E : Type 0} (P : Type 0) (r : Result T E) → P → OnErr r P
on_err P (Ok x) holds = tt
on_err P (Err e) holds = holds

pub returns-in-None : goal.returns-in-None
returns-in-None g c =
    let disk = g.D.Device.disk in
    let device = c.args.self.now.device in
    record {
      paged = refl;
      lies = λ base below. below;
      nothing = λ is. refl;
      stands = λ rules h ws holds has can. held_still disk device rules h ws (g.met.D.Device.only_now device) holds;
      appended = λ rules h ws holds has can.
          let Closed : Option Body → Type 0 = λ body. MatchOption body (in_record ws ≡ []) (λ b. (payload_of b ≡ payload (in_record ws)) × (in_record ws ≢ [])) in
          held_with_none disk device rules h ws (no_writes ws (subst Closed c.in-None.is (c.close.ensures.body (in_record ws) has))) holds;
      serves = c.requires.serves;
      some = tt;
      refusal = tt;
      cause = record { later = omega arith; failed = λ is. absurd (true≢false (sym is)); well = λ is. refl };
    }

pub returns-in-Some : goal.returns-in-Some
returns-in-Some g c =
    let group = c.args.group in
    let Counted : Option Body → Type 0 = λ body. MatchOption body (count_of group ≡ 0) (λ _. 1 ≤ count_of group) in
    let Closed : List (Write (List ℕ)) → Option Body → Type 0 = λ ws body. MatchOption body (ws ≡ []) (λ b. (payload_of b ≡ payload ws) × (ws ≢ [])) in
    let some : 1 ≤ count_of group = subst Counted c.in-Some.is c.close.ensures.some in
    record {
      paged = c.append.ensures.paged;
      lies = c.append.ensures.lies;
      nothing = λ none. absurd (omega (arith, none, some));
      stands = λ rules h ws holds has can.
          c.append.ensures.stands rules h ws holds can.follow (is_group rules _ group ws has can some c.requires.few)
          (subst (Closed (in_record ws)) c.in-Some.is (c.close.ensures.body (in_record ws) has)).0;
      appended = λ rules h ws holds has can.
          c.append.ensures.appended rules h ws holds can.follow (is_group rules _ group ws has can some c.requires.few)
          (subst (Closed (in_record ws)) c.in-Some.is (c.close.ensures.body (in_record ws) has)).0;
      serves = c.append.ensures.serves;
      some = on_err _ c.append.result some;
      refusal = c.append.ensures.refusal;
      cause = c.append.ensures.cause;
    }
