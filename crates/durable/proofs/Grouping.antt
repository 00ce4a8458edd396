-- The writes of a group of requests: gathered one request after the other, and appended together.
use Rattle.std.proofs.Common.{arith, ◌≡◌, ◌∙◌, sym, ap, subst, map, ◌≤◌, ◌<◌, ◌+◌, ◌++◌, ℕ, List, [], ◌∷◌, length, take, drop, refl, Bool, true, false, true≢false, Option, Some, None, Result, Ok, Err, IsErrOf, ◌⊎◌, inl, inr}
use Rattle.std.proofs.lemmas.List.{append-nil, append_assoc, length-append, length-take-le, map-append, take_all, take-append-drop}
use Rattle.std.specs.List.{AllByRecursion}
use Rattle.std.specs.Result.{result_err}
use Rattle.device.specs.declared.device.Device.{Ghosts}
use Rattle.device.specs.Disk.{Disk}
use Rattle.device.specs.Run.{Ran, Stands}
use Rattle.device.specs.Step.{Same}
use Rattle.device.proofs.Moments.{followed_by}
use Rattle.device.proofs.Runs.{stands_now}
use Rattle.names.specs.declared.format.Rules.{Rules}
use Rattle.requests.specs.Request.{Request}
use Rattle.histories.specs.History as plain
use Rattle.requests.specs.Reply.{Reply}
use Rattle.histories.specs.View.{view, after_all}
use Rattle.records.specs.Gathered.{Gathers, count_of}
use Rattle.records.specs.Payload.{IsStorable, group_limit}
use Rattle.records.specs.declared.group.Group.{Group}
use Rattle.celtree.specs.Tree.{Expr}
use Rattle.expressions.specs.Specification.{Specification}
use Rattle.apicore.specs.Prepared.{IsReadOf}
use Rattle.decoded.specs.Standing.{Write, History, View, write_with_plans, recorded}
use Rattle.apicore.specs.Step.{Asked, writes, accepted, replies}
use Rattle.apicore.proofs.Admitting.{written_admitted, accepted_admitted}
use Rattle.decoded.proofs.Following.{AllMayFollow-append}
use Rattle.durable.specs.declared.fault.Damage.{Damage}
use Rattle.durable.specs.declared.fault.Fault.{Fault}
use Rattle.durable.specs.declared.fault.Fault.TheVariants as Faults
use Rattle.durable.specs.declared.store.Store.{Store}
use Rattle.durable.specs.Faults.{of_part, MayBeMet}
use Rattle.durable.specs.Ready.{HoldsHistory}
use Rattle.durable.specs.Recorded.{IsGroup}
use Rattle.durable.specs.Gathered.{in_record, CanBeAppended, HasStepped, StaysAs, HasGathered, HasGatheredMore, HasServedMore, HasStoppedIn, HasAnswered}
use Rattle.paged.specs.Paged as paged
use Rattle.paged.specs.declared.state.Paged.{Paged}
use Rattle.durable.specs.Settled.{LiesStill, added, AreAsked, IsFound, ServesAt, IsSettledAt, IsLeftAt, LeavesSome, HasReplied, HasFailedAt, HasServed, HasStopped, device_of, root_of, format_of, serves}
use Rattle.durable.proofs.Findings.{found_none}
use Rattle.durable.proofs.Unwritten.{held_after, moments_read, left_read}
use Rattle.durable.proofs.Answering.{held, serving_by, settled_from, settled_serves, settled_after}
use Rattle.durable.proofs.Running.{accepted-append, replies-append, view_then, first_of}
use Rattle.durable.proofs.Runs.{asked_then, read_before, run_none, run_then, run_stopped}

-- ---- what is gathered

in_record-append : (ws us : List Write) → in_record (ws ++ us) ≡ in_record ws ++ in_record us
in_record-append ws us = ap (map recorded) (map-append write_with_plans ws us) ∙ map-append recorded (map write_with_plans ws) (map write_with_plans us)

all-append : {X : Type 0} (P : X → Type 0) (xs ys : List X) → AllByRecursion P xs → AllByRecursion P ys → AllByRecursion P (xs ++ ys)
all-append P [] ys first more = more
all-append P (x ∷ xs) ys first more = (first.0, all-append P xs ys first.1 more)

appendable-append : (rules : Rules) (v : View) (ws us : List Write) → CanBeAppended rules v ws → CanBeAppended rules (after_all rules v ws) us → CanBeAppended rules v (ws ++ us)
appendable-append rules v ws us first more =
    let All : List (plain.Write (List ℕ)) → Type 0 = λ xs. AllByRecursion IsStorable xs in
    record {
      follow = AllMayFollow-append rules v ws us first.follow more.follow;
      storable = subst All (sym (in_record-append ws us)) (all-append IsStorable (in_record ws) (in_record us) first.storable more.storable);
    }

-- nothing was asked
pub gathered_none : {D : Type 0} {g : Ghosts D} (store : Store D g) (group : Group) → Gathers group [] → HasGathered store store group [] []
gathered_none store group empty = record {
  asked = [];
  are = record { are = refl; read = tt };
  root = refl;
  one_each = refl;
  few = omega (arith, empty.count);
  shown = λ rules v serving. record { answered = refl; serving = serving; appendable = record { follow = tt; storable = tt }; gathered = empty };
}

module _ {D : Type 0} {g : Ghosts D} (old mid new : Store D g) (before now : Group) (done : List Request) (given : List Reply) (so_far : HasGathered old mid before done given) where
  -- one request more
  pub gathered_more : (r : Request) (said : Reply) → HasStepped mid new before now r said → count_of now ≤ count_of before + 1
      → HasGathered old new now (done ++ r ∷ []) (given ++ said ∷ [])
  gathered_more r said next one_more =
      let a : Asked = record { request = r; specification = next.specification } in
      record {
        asked = so_far.asked ++ a ∷ [];
        are = asked_then (format_of old) done (r ∷ []) so_far.asked (a ∷ []) so_far.are
            (record { are = refl; read = (read_before old mid so_far.root r next.specification next.read, tt) });
        root = next.root ∙ so_far.root;
        one_each = length-append given (said ∷ []) ∙ ap (λ (n : ℕ). n + 1) so_far.one_each ∙ sym (length-append so_far.asked (a ∷ []));
        few = omega (arith, so_far.few, one_more, length-append given (said ∷ []));
        shown = λ rules v serving.
            let at = so_far.shown rules v serving in
            let us : List Write = accepted rules v so_far.asked in
            let mid_view : View = after_all rules v us in
            let ws : List Write = writes rules mid_view a in
            let step = next.shown rules mid_view at.serving in
            let both : accepted rules v (so_far.asked ++ a ∷ []) ≡ us ++ ws =
            accepted-append rules v so_far.asked (a ∷ []) ∙ ap (λ (x : List Write). us ++ x) (append-nil ws)
            in
            let Appendable : List Write → Type 0 = λ xs. CanBeAppended rules v xs in
            let InGroup : List (plain.Write (List ℕ)) → Type 0 = λ xs. Gathers now xs in
            let Serves : List Write → Type 0 = λ xs. ServesAt rules new (after_all rules mid_view xs) in
            record {
              answered = ap (λ (x : List Reply). x ++ said ∷ []) at.answered ∙ ap (λ (x : Reply). replies rules v so_far.asked ++ x ∷ []) step.reply
                  ∙ sym (replies-append rules v so_far.asked (a ∷ []));
              serving = subst (ServesAt rules new) (sym (view_then rules v so_far.asked (a ∷ []))) (subst Serves (sym (append-nil ws)) step.serving);
              appendable = subst Appendable (sym both) (appendable-append rules v us ws at.appendable step.appendable);
              gathered = subst InGroup (sym (in_record-append us ws) ∙ ap in_record (sym both)) (step.gathered (in_record us) at.gathered);
            };
      }

  -- memory was refused to a further request
  pub gathered_still : StaysAs mid new before now → HasGathered old new now done given
  gathered_still stays = record {
    asked = so_far.asked;
    are = so_far.are;
    root = stays.root ∙ so_far.root;
    one_each = so_far.one_each;
    few = omega (arith, so_far.few, stays.counted);
    shown = λ rules v serving.
        let at = so_far.shown rules v serving in
        record {
          answered = at.answered;
          serving = stays.serving rules (after_all rules v (accepted rules v so_far.asked)) at.serving;
          appendable = at.appendable;
          gathered = stays.gathered (in_record (accepted rules v so_far.asked)) at.gathered;
        };
  }

-- a store that serves what it served, and whose device was read at most, is settled as it was
pub settled_still : {D : Type 0} {g : Ghosts D} (old new : Store D g) → Ran g.disk (device_of old) (device_of new) Same
    → ((rules : Rules) (v : View) → ServesAt rules old v → ServesAt rules new v)
    → (rules : Rules) (h : History) → IsSettledAt rules old h → IsSettledAt rules new h × LeavesSome rules old new h []
settled_still {D} {g} old new run serves rules h settled =
    let serving = serves rules (view rules h) (settled_serves rules old h settled) in (
      settled_from rules new h serving.working serving.rules_are serving.shows
          (held_after g.disk rules h (device_of old) (device_of new) run (held rules old h settled)),
      moments_read rules old new h [] run settled,
    )

-- a device that failed while a request was read has the history, and none of its writes
pub failed_reading : {D : Type 0} {g : Ghosts D} (old new : Store D g) (r : Request) → Ran g.disk (device_of old) (device_of new) Same
    → (s : Specification Expr) → IsReadOf (format_of old) r s → serves new ≡ false → HasFailedAt old new r
failed_reading old new r run s read stopped = record {
  specification = s;
  read = read;
  untouched = λ rules v serving none. run;
  left = λ rules h settled.
      let ws : List Write = writes rules (view rules h) (record { request = r; specification = s }) in
      (left_read rules old new h ws run settled stopped, moments_read rules old new h ws run settled);
  admitted = λ rules v. written_admitted rules v r s;
}

-- ---- after other replies

pub more_none : {D : Type 0} {g : Ghosts D} (store : Store D g) (group : Group) (all : List Request) (before : List Reply) → Gathers group []
    → HasGatheredMore store store group all before before
more_none store group all before empty =
    record { more = []; pushed = sym (append-nil before); within = omega arith; gathered = gathered_none store group empty }

module _ {D : Type 0} {g : Ghosts D} (old mid new : Store D g) (was is : Group) (all : List Request) (before now : List Reply) (so_far : HasGatheredMore old mid was all before now) where
  -- one request more, of all of them the next
  pub more_then : (r : Request) (said : Reply) (i : ℕ) → length now ≡ length before + i → i < length all → take (i + 1) all ≡ take i all ++ r ∷ [] → HasStepped mid new was is r said
      → count_of is ≤ count_of was + 1 → HasGatheredMore old new is all before (now ++ said ∷ [])
  more_then r said i count inside next step one_more =
      let index : length so_far.more ≡ i = omega (arith, count, ap length so_far.pushed, length-append before so_far.more) in
      let longer : length (so_far.more ++ said ∷ []) ≡ i + 1 = omega (arith, index, length-append so_far.more (said ∷ [])) in
      let Gathered : List Request → Type 0 = λ rs. HasGathered old new is rs (so_far.more ++ said ∷ []) in
      record {
        more = so_far.more ++ said ∷ [];
        pushed = ap (λ (x : List Reply). x ++ said ∷ []) so_far.pushed ∙ append_assoc before so_far.more (said ∷ []);
        within = omega (arith, longer, inside);
        gathered = subst Gathered (ap (λ (n : ℕ). take n all ++ r ∷ []) index ∙ sym next ∙ ap (λ (n : ℕ). take n all) (sym longer))
            (gathered_more old mid new was is (take (length so_far.more) all) so_far.more so_far.gathered r said step one_more);
      }

  -- memory was refused to the next request
  pub more_still : StaysAs mid new was is → HasGatheredMore old new is all before now
  more_still stays = record {
    more = so_far.more;
    pushed = so_far.pushed;
    within = so_far.within;
    gathered = gathered_still old mid new was is (take (length so_far.more) all) so_far.more so_far.gathered stays;
  }

  -- the device failed while the next request was read, and nothing is written
  pub more_stopped : (r : Request) (i : ℕ) → length now ≡ length before + i → i < length all → length all ≤ group_limit → take (i + 1) all ≡ take i all ++ r ∷ []
      → (s : Specification Expr) → IsReadOf (format_of mid) r s → Ran g.disk (device_of old) (device_of new) Same → serves new ≡ false → HasStoppedIn old new all
  more_stopped r i count inside few next s read run stops =
      let a : Asked = record { request = r; specification = s } in
      let failing : List Asked = so_far.gathered.asked ++ a ∷ [] in
      let index : length so_far.more ≡ i = omega (arith, count, ap length so_far.pushed, length-append before so_far.more) in
      let many : length failing ≡ i + 1 = omega (arith, index, so_far.gathered.one_each, length-append so_far.gathered.asked (a ∷ [])) in
      let front : take (length so_far.more) all ++ r ∷ [] ≡ take (0 + length failing) all =
      ap (λ (n : ℕ). take n all ++ r ∷ []) index ∙ sym next ∙ ap (λ (n : ℕ). take n all) (let same : i + 1 ≡ 0 + length failing = omega (arith, many) in same)
      in
      let Are : List Request → Type 0 = λ rs. AreAsked (format_of old) rs failing in
      record {
        stopped = record {
          asked = [];
          failing = failing;
          some = omega (arith, many);
          few = omega (arith, many, inside, few);
          are = subst Are front
              (asked_then (format_of old) (take (length so_far.more) all) (r ∷ []) so_far.gathered.asked (a ∷ []) so_far.gathered.are
              (record { are = refl; read = (read_before old mid so_far.gathered.root r s read, tt) }));
          shown = λ rules v serving. (refl, (λ none. run), accepted_admitted rules v failing);
          stopped = λ rules h settled.
              let ws : List Write = added rules h failing in
              record { left = left_read rules old new h ws run settled stops; moments = moments_read rules old new h ws run settled };
        };
        within = omega (arith, many, inside);
      }

-- ---- what is gathered is appended

-- where nothing is gathered, nothing is counted
pub nothing_counted : (group : Group) (ws : List Write) → Gathers group (in_record ws) → ws ≡ [] → count_of group ≡ 0
nothing_counted group ws has none = has.count ∙ ap (λ (xs : List Write). length (in_record xs)) none

-- where nothing is gathered, no write is
pub no_writes : (ws : List Write) → in_record ws ≡ [] → ws ≡ []
no_writes [] none = refl
no_writes (w ∷ ws) none = cc

-- a device that nothing was asked of holds the history, with none of the writes
pub held_still : {D : Type 0} (disk : Disk D) (device : D) (rules : Rules) (h : History) (ws : List Write)
    → ((c : List ℕ) → disk.keeps device → disk.since device (disk.moment device) c → disk.left device c) → HoldsHistory rules disk device h
    → Stands disk device device (IsFound rules h [] ws) (IsFound rules h [] ws)
held_still disk device rules h ws only_now holds =
    stands_now disk device (IsFound rules h [] ws) (IsFound rules h [] ws) holds.keeps (λ c since. only_now c holds.keeps since) (found_none rules h ws _ holds.read)
    (λ c left. found_none rules h ws c (holds.left c left)) (λ c found. found)

-- so it holds the history with the writes, where these are none
pub held_with_none : {D : Type 0} (disk : Disk D) (device : D) (rules : Rules) (h : History) (ws : List Write) → ws ≡ [] → HoldsHistory rules disk device h
    → HoldsHistory rules disk device (h ++ ws)
held_with_none disk device rules h ws none holds =
    let Holds : History → Type 0 = λ x. HoldsHistory rules disk device x in
    subst Holds (sym (append-nil h) ∙ ap (λ (x : List Write). h ++ x) (sym none)) holds

-- the writes of a group are what one record holds
pub is_group : (rules : Rules) (v : View) (group : Group) (ws : List Write) → Gathers group (in_record ws) → CanBeAppended rules v ws → 1 ≤ count_of group
    → count_of group ≤ group_limit → IsGroup ws
is_group rules v group ws has can some few = record {
  some = omega (arith, some, has.count);
  few = omega (arith, few, has.count);
  storable = can.storable;
}

module _ {D : Type 0} {g : Ghosts D} (old mid new : Store D g) (group : Group) (run : Ran g.disk (device_of old) (device_of mid) Same) (same : new.paged ≡ mid.paged)
    (still : LiesStill mid new) (stands : (rules : Rules) (h : History) (ws : List Write) → HoldsHistory rules g.disk (device_of mid) h → Gathers group (in_record ws)
    → CanBeAppended rules (view rules h) ws → Stands g.disk (device_of mid) (device_of new) (IsFound rules h [] ws) (IsFound rules h [] ws)) where
  -- the device was read at most, so it holds what the store was settled at
  pub still_held : (rules : Rules) (h : History) → IsSettledAt rules old h → HoldsHistory rules g.disk (device_of mid) h
  still_held rules h settled = held_after g.disk rules h (device_of old) (device_of mid) run (held rules old h settled)

  -- its root stays
  same_root : root_of new ≡ root_of mid
  same_root = ap (λ (p : Paged). paged.root_of p) same

  -- and where nothing was gathered, it was read at most then
  pub read_still : new ≡ mid → Ran g.disk (device_of old) (device_of new) Same
  read_still is =
      let To : Store D g → Type 0 = λ x. Ran g.disk (device_of old) (device_of x) Same in
      subst To (sym is) run

  -- a store that goes on serves what it served
  pub serving_then : serves new ≡ true → (rules : Rules) (v : View) → ServesAt rules mid v → ServesAt rules new v
  serving_then working rules v serving = serving_by mid new (ap (λ (p : Paged). p.core) same) still working rules v serving

  module _ (rules : Rules) (h : History) (ws : List Write) (settled : IsSettledAt rules old h) (has : Gathers group (in_record ws)) (can : CanBeAppended rules (view rules h) ws) where
    pub appended_moments : LeavesSome rules old new h ws
    appended_moments =
        followed_by g.disk (device_of old) (device_of mid) (device_of new) (IsFound rules h [] ws) (IsFound rules h [] ws) (IsFound rules h [] ws)
        (moments_read rules old mid h ws run settled) (stands rules h ws (still_held rules h settled) has can).moments (λ c found. found) (λ c found. found)

    pub appended_settled : serves new ≡ true → HoldsHistory rules g.disk (device_of new) (h ++ ws) → ServesAt rules mid (after_all rules (view rules h) ws)
        → IsSettledAt rules new (h ++ ws)
    appended_settled working holds serving = settled_after rules new h ws (serving_then working rules (after_all rules (view rules h) ws) serving) holds

    pub appended_left : serves new ≡ false → IsLeftAt rules new h [] ws
    appended_left stopped =
        let at = stands rules h ws (still_held rules h settled) has can in
        record { stopped = stopped; keeps = at.kept; read = at.seen; left = at.crash }

  -- ---- a group of one request

  -- its write is on the device
  pub replied : (before : Group) (r : Request) (said : Reply) → Gathers before [] → HasStepped old mid before group r said → serves new ≡ true → (count_of group ≡ 0 → new ≡ mid)
      → ((rules : Rules) (h : History) (ws : List Write) → HoldsHistory rules g.disk (device_of mid) h → Gathers group (in_record ws) → CanBeAppended rules (view rules h) ws
      → HoldsHistory rules g.disk (device_of new) (h ++ ws))
      → HasReplied old new r said
  replied before r said empty step working nothing appended =
      let a : Asked = record { request = r; specification = step.specification } in
      record {
        specification = step.specification;
        read = step.read;
        root = same_root ∙ step.root;
        shown = λ rules v serving.
            let at = step.shown rules v serving in
            record {
              reply = at.reply;
              serving = serving_then working rules (after_all rules v (writes rules v a)) at.serving;
              untouched = λ none. read_still (nothing (nothing_counted group (writes rules v a) (at.gathered [] empty) none));
              admitted = written_admitted rules v r step.specification;
            };
        settled = λ rules h settled.
            let at = step.shown rules (view rules h) (settled_serves rules old h settled) in
            let ws : List Write = writes rules (view rules h) a in
            let has = at.gathered [] empty in
            record {
              settled = appended_settled rules h ws settled has at.appendable working (appended rules h ws (still_held rules h settled) has at.appendable) at.serving;
              moments = appended_moments rules h ws settled has at.appendable;
            };
      }

  -- or the device failed
  pub failed : (before : Group) (r : Request) (said : Reply) → Gathers before [] → HasStepped old mid before group r said → 1 ≤ count_of group → serves new ≡ false → HasFailedAt old new r
  failed before r said empty step some stopped =
      let a : Asked = record { request = r; specification = step.specification } in
      record {
        specification = step.specification;
        read = step.read;
        untouched = λ rules v serving none.
            absurd (omega (arith, some, nothing_counted group (writes rules v a) ((step.shown rules v serving).gathered [] empty) none));
        left = λ rules h settled.
            let at = step.shown rules (view rules h) (settled_serves rules old h settled) in
            let ws : List Write = writes rules (view rules h) a in
            let has = at.gathered [] empty in
            (appended_left rules h ws settled has at.appendable stopped, appended_moments rules h ws settled has at.appendable);
        admitted = λ rules v. written_admitted rules v r step.specification;
      }

  -- ---- a group of requests

  -- its writes are on the device
  pub served : (rs : List Request) (given : List Reply) → HasGathered old mid group rs given → serves new ≡ true → (count_of group ≡ 0 → new ≡ mid)
      → ((rules : Rules) (h : History) (ws : List Write) → HoldsHistory rules g.disk (device_of mid) h → Gathers group (in_record ws) → CanBeAppended rules (view rules h) ws
      → HoldsHistory rules g.disk (device_of new) (h ++ ws))
      → HasServed old new rs given
  served rs given gathered working nothing appended = record {
    asked = gathered.asked;
    are = gathered.are;
    root = same_root ∙ gathered.root;
    shown = λ rules v serving.
        let at = gathered.shown rules v serving in
        record {
          serving = serving_then working rules (after_all rules v (accepted rules v gathered.asked)) at.serving;
          answered = at.answered;
          untouched = λ none. read_still (nothing (nothing_counted group (accepted rules v gathered.asked) at.gathered none));
          admitted = accepted_admitted rules v gathered.asked;
        };
    settled = λ rules h settled.
        let at = gathered.shown rules (view rules h) (settled_serves rules old h settled) in
        let ws : List Write = added rules h gathered.asked in
        record {
          settled = appended_settled rules h ws settled at.gathered at.appendable working (appended rules h ws (still_held rules h settled) at.gathered at.appendable) at.serving;
          moments = appended_moments rules h ws settled at.gathered at.appendable;
        };
  }

  -- or the device failed, and none of it is answered
  pub stopped : (rs all : List Request) (given : List Reply) (gathered : HasGathered old mid group rs given) → 1 ≤ count_of group → length given ≤ length all
      → length all ≤ group_limit → take (length gathered.asked) all ≡ rs → serves new ≡ false → HasStoppedIn old new all
  stopped rs all given gathered some within few first stops = record {
    stopped = record {
      asked = [];
      failing = gathered.asked;
      some = omega (arith, some, gathered.few, gathered.one_each);
      few = omega (arith, within, few, gathered.one_each);
      are =
          let Are : List Request → Type 0 = λ xs. AreAsked (format_of old) xs gathered.asked in
          let First : ℕ → Type 0 = λ n. AreAsked (format_of old) (take n all) gathered.asked in
          let none_before : length gathered.asked ≡ 0 + length gathered.asked = omega arith in
          subst First none_before (subst Are (sym first) gathered.are);
      shown = λ rules v serving. (
        refl,
        (λ none.
            absurd (omega (arith, some, nothing_counted group (accepted rules v gathered.asked) (gathered.shown rules v serving).gathered none))),
        accepted_admitted rules v gathered.asked,
      );
      stopped = λ rules h settled.
          let at = gathered.shown rules (view rules h) (settled_serves rules old h settled) in
          let ws : List Write = added rules h gathered.asked in
          record {
            left = appended_left rules h ws settled at.gathered at.appendable stops;
            moments = appended_moments rules h ws settled at.gathered at.appendable;
          };
    };
    within = omega (arith, within, gathered.one_each);
  }

-- ---- what a group is answered

-- a fault that a result is
pub fault_is : {T : Type 0} (r : Result T Fault) (fault : Fault) → result_err r ≡ Some fault → IsErrOf r fault
fault_is (Ok x) fault is = cc
fault_is (Err e) fault is = let same : e ≡ fault = cc in ap Err same

-- a store that serves on met no fault but out of memory
pub only_memory : (fault : Fault) (working : Bool) → working ≡ true → MayBeMet fault → (fault ≡ Faults.Device → working ≡ false)
    → ((d : Damage) → fault ≡ Faults.Damaged d → working ≡ false) → fault ≡ Faults.Memory
only_memory fault working serves (inl device) stops damaged = absurd (true≢false (sym serves ∙ stops device))
only_memory fault working serves (inr (inl memory)) stops damaged = memory
only_memory fault working serves (inr (inr found)) stops damaged = absurd (true≢false (sym serves ∙ damaged (of_part found.0) found.1))

-- a fault of one result, seen from another
pub retyped : {T S : Type 0} (fault other : Fault) → IsErrOf {T = S} (Err fault) other → IsErrOf {T = T} (Err fault) other
retyped fault other is = let same : fault ≡ other = cc in ap Err same

-- memory was refused before its first request
pub served_nothing : {D : Type 0} {g : Ghosts D} (store : Store D g) (rs : List Request) (before : List Reply)
    → ((c : List ℕ) → g.disk.keeps (device_of store) → g.disk.since (device_of store) (g.disk.moment (device_of store)) c → g.disk.left (device_of store) c)
    → HasServedMore store store rs before before
served_nothing store rs before only_now =
    record { more = []; pushed = sym (append-nil before); within = omega arith; served = run_none store only_now }

-- what it gathered is on the device
pub served_more : {D : Type 0} {g : Ghosts D} (old mid new : Store D g) (rs : List Request) (before now : List Reply) (group : Group)
    → (gathered : HasGatheredMore old mid group rs before now) → HasServed old new (take (length gathered.more) rs) gathered.more → HasServedMore old new rs before now
served_more old mid new rs before now group gathered served =
    record { more = gathered.more; pushed = gathered.pushed; within = gathered.within; served = served }

module _ {D : Type 0} {g : Ghosts D} (old new : Store D g) (rs : List Request) (before : List Reply) (stop : Option Fault) where
  -- its replies are given
  pub answered_group : (now : List Reply) → HasServedMore old new rs before now → (stop ≡ None → length now ≡ length before + length rs) → (stop ≡ Some Faults.Device → ⊥)
      → HasAnswered old new rs before now stop
  answered_group now served all not_device = record {
    more = served.more;
    pushed = served.pushed;
    within = served.within;
    all = λ none. omega (arith, all none, ap length served.pushed, length-append before served.more);
    served = λ is. served.served;
    stopped = λ device. absurd (not_device device);
  }

  -- or none is, where the store has stopped
  pub stopped_group : ((stop ≡ None) ⊎ (stop ≡ Some Faults.Memory) → ⊥) → (stop ≡ Some Faults.Device → HasStoppedIn old new rs) → HasAnswered old new rs before before stop
  stopped_group stops failed = record {
    more = [];
    pushed = sym (append-nil before);
    within = omega arith;
    all = λ none. absurd (stops (inl none));
    served = λ is. absurd (stops is);
    stopped = λ device. let at = failed device in (at.stopped, omega (arith, at.within));
  }

-- ---- one group after another

-- what is left, cut in two
pub in_parts : {A B : Type 0} (f : A → B) (rest front back : List A) (n : ℕ) → front ≡ take n rest → back ≡ drop n rest → map f rest ≡ map f front ++ map f back
in_parts f rest front back n first second =
    ap (map f) (sym (take-append-drop n rest)) ∙ map-append f (take n rest) (drop n rest) ∙ (λ i. map f (sym first i) ++ map f (sym second i))

-- A group among all requests, after those that were answered.
module _ {D : Type 0} {g : Ghosts D} (old mid new : Store D g) (all group later : List Request) (given now : List Reply) (stop : Option Fault) (inside : length given ≤ length all)
    (split : all ≡ take (length given) all ++ (group ++ later)) (so_far : HasServed old mid (take (length given) all) given) (next : HasAnswered mid new group given now stop) where
  -- its answered ones stand in front of all that is left
  front_is : take (length now) all ≡ take (length given) all ++ take (length next.more) group
  front_is =
      first_of all (take (length given) all ++ take (length next.more) group) (drop (length next.more) group ++ later) (length now)
      (split ∙ ap (λ (rs : List Request). take (length given) all ++ (rs ++ later)) (sym (take-append-drop (length next.more) group))
      ∙ ap (λ (rs : List Request). take (length given) all ++ rs) (append_assoc (take (length next.more) group) (drop (length next.more) group) later)
      ∙ sym (append_assoc (take (length given) all) (take (length next.more) group) (drop (length next.more) group ++ later)))
      (omega (
        arith,
        ap length next.pushed,
        length-append given next.more,
        length-append (take (length given) all) (take (length next.more) group),
        length-take-le (length given) all inside,
        length-take-le (length next.more) group next.within,
      ))

  -- the requests up to a fault of memory are served
  pub served_so_far : (stop ≡ None) ⊎ (stop ≡ Some Faults.Memory) → HasServed old new (take (length now) all) now
  served_so_far is =
      let Of : List Request → List Reply → Type 0 = λ rs said. HasServed old new rs said in
      subst (λ rs. Of rs now) (sym front_is) (subst (Of (take (length given) all ++ take (length next.more) group)) (sym next.pushed)
      (run_then old mid new (take (length given) all) given next.more so_far (take (length next.more) group) (next.served is)))

  -- the device failed in the group
  pub stopped_so_far : stop ≡ Some Faults.Device → HasStopped old new all now
  stopped_so_far device =
      let failed = next.stopped device in
      let Said : List Reply → Type 0 = λ said. HasStopped old new all said in
      subst Said (sym next.pushed)
      (run_stopped old mid new (take (length given) all) given next.more so_far group later all (sym (length-take-le (length given) all inside)) split failed.0 failed.1)

  -- what is left after a group that is answered whole
  pub left_after : stop ≡ None → all ≡ take (length now) all ++ later
  left_after none =
      split ∙ sym (append_assoc (take (length given) all) group later)
      ∙ ap (λ (rs : List Request). (take (length given) all ++ rs) ++ later) (sym (take_all (length next.more) group (omega (arith, next.all none))))
      ∙ ap (λ (rs : List Request). rs ++ later) (sym front_is)

  pub still_inside : length now ≤ length all
  still_inside =
      omega (
        arith,
        ap length split,
        ap length next.pushed,
        length-append given next.more,
        next.within,
        length-append (take (length given) all) (group ++ later),
        length-append group later,
        length-take-le (length given) all inside,
      )
