-- A store whose next generation is told, and then written.
use Rattle.std.proofs.Common.{arith, ◌≡◌, ◌∙◌, sym, ap, subst, ◌⊎◌, inl, inr, ⊎_elim, [], true, false, Result, Ok, Err, OnOk, OnErr, IsErrOf}
use Rattle.device.specs.declared.device.Device.{Ghosts}
use Rattle.device.specs.Disk.{Disk, HasFailed}
use Rattle.device.specs.Run.{Ran, Stands}
use Rattle.device.specs.Step.{Same}
use Rattle.device.proofs.Moments.{followed_by}
use Rattle.names.specs.declared.format.Rules.{Rules}
use Rattle.histories.specs.View.{view}
use Rattle.holdings.specs.Holdings.{State, Shows}
use Rattle.snapshots.specs.Keeping.{IsKeepable}
use Rattle.decoded.specs.Decoded.{Decoded}
use Rattle.decoded.specs.Standing.{History, View, with_plans}
use Rattle.paged.specs.declared.state.Paged.{Paged}
use Rattle.paged.specs.Lying.{base_of}
use Rattle.paged.specs.Paged.{Below}
use Rattle.paged.proofs.Staying.{below_ran}
use Rattle.durable.specs.declared.fault.Fault.{Fault}
use Rattle.durable.specs.declared.fault.Fault.TheVariants as Faults
use Rattle.durable.specs.declared.store.Store.{Store}
use Rattle.durable.specs.Faults.{of_part, MayBeMet}
use Rattle.durable.specs.Stands.{StandsFor}
use Rattle.durable.specs.Settled.{device_of, serves, kept_rules, revision_of, IsFound, IsShown, LiesUnder, LiesStill, ServesAt, IsSettledAt, IsLeftAt, LeavesSome}
use Rattle.durable.proofs.Answering.{serving_by, settled_serves, revision_is, shown_anew}
use Rattle.durable.proofs.Findings.{found_none}
use Rattle.durable.proofs.Grouping.{settled_still}
use Rattle.durable.proofs.Numbers.{history_kept}
use Rattle.durable.proofs.Unwritten.{moments_read}

-- ---- results

pub on_ok_three : {T E : Type 0} (P Q R S : Type 0) (r : Result T E) → (P → Q → R → S) → OnOk r P → OnOk r Q → OnOk r R → OnOk r S
on_ok_three P Q R S (Ok x) to p q s = to p q s
on_ok_three P Q R S (Err e) to p q s = tt

-- what is known of an error that is told
pub at_error : {T E : Type 0} (P : Type 0) (r : Result T E) (e : E) → IsErrOf r e → OnErr r P → P
at_error P (Ok x) e is holds = cc
at_error P (Err f) e is holds = holds

pub at_either : {T E : Type 0} (P : Type 0) (r : Result T E) (e f : E) → IsErrOf r e ⊎ IsErrOf r f → OnErr r P → P
at_either P r e f is holds = ⊎_elim (λ one. at_error P r e one holds) (λ other. at_error P r f other holds) is

-- what a request may meet is neither of these
pub never_failed : (f : Fault) → MayBeMet f → f ≡ Faults.Failed → ⊥
never_failed f (inl is) never = let both : Faults.Device ≡ Faults.Failed = sym is ∙ never in cc
never_failed f (inr (inl is)) never = let both : Faults.Memory ≡ Faults.Failed = sym is ∙ never in cc
never_failed f (inr (inr is)) never = let both : Faults.Damaged (of_part is.0) ≡ Faults.Failed = sym is.1 ∙ never in cc

pub never_exhausted : (f : Fault) → MayBeMet f → f ≡ Faults.Exhausted → ⊥
never_exhausted f (inl is) never = let both : Faults.Device ≡ Faults.Exhausted = sym is ∙ never in cc
never_exhausted f (inr (inl is)) never = let both : Faults.Memory ≡ Faults.Exhausted = sym is ∙ never in cc
never_exhausted f (inr (inr is)) never = let both : Faults.Damaged (of_part is.0) ≡ Faults.Exhausted = sym is.1 ∙ never in cc

-- a device that failed after reads failed
pub failed_then : {D : Type 0} (disk : Disk D) (old mid new : D) → Ran disk old mid Same → HasFailed disk mid new → HasFailed disk old new
failed_then disk old mid new run (inl more) = inl (omega (arith, run.count, more))
failed_then disk old mid new run (inr all) = inr all

-- what lies in pages stays while the device is read
pub still_ran : {D : Type 0} {g : Ghosts D} (old new : Store D g) → new.paged ≡ old.paged → Ran g.disk (device_of old) (device_of new) Same → LiesStill old new
still_ran {D} {g} old new same run base below =
    let Lies : Paged → Type 0 = λ p. Below g.disk (device_of new) p base in
    subst Lies (sym same) (below_ran g.disk old.paged base (device_of old) (device_of new) run below)

module _ {D : Type 0} {g : Ghosts D} (old mid new : Store D g) (run : Ran g.disk (device_of old) (device_of mid) Same) (core : mid.paged.core ≡ old.paged.core) (still : LiesStill old mid) where
  -- a store that was read serves and is settled as it was
  pub serves_between : serves mid ≡ true → (rules : Rules) (v : View) → ServesAt rules old v → ServesAt rules mid v
  serves_between working = serving_by old mid core still working

  pub settled_between : serves mid ≡ true → (rules : Rules) (h : History) → IsSettledAt rules old h → IsSettledAt rules mid h
  settled_between working rules h settled = (settled_still old mid run (serves_between working) rules h settled).0

  -- it has the revision of what it showed
  pub revision_between : (v : View) → IsShown old v → revision_of mid ≡ v.revision
  revision_between v shown = ap (λ (s : State Decoded). s.revision) core ∙ revision_is old v shown

  -- where the writing changed nothing it serves, and is settled, as it was
  module _ (working : serves mid ≡ true) (same : new.paged ≡ mid.paged) (after : Ran g.disk (device_of mid) (device_of new) Same) (serving : serves new ≡ true) where
    pub serves_unchanged : (rules : Rules) (v : View) → ServesAt rules old v → ServesAt rules new v
    serves_unchanged rules v was =
        serving_by mid new (ap (λ (p : Paged). p.core) same) (still_ran mid new same after) serving rules v (serves_between working rules v was)

    pub settled_unchanged : (rules : Rules) (h : History) → IsSettledAt rules old h → IsSettledAt rules new h
    settled_unchanged rules h was = (settled_still mid new after (serving_by mid new (ap (λ (p : Paged). p.core) same) (still_ran mid new same after) serving) rules h
        (settled_between working rules h was)).0

  -- the next generation shows what the old one showed
  pub serves_renewed : (rules : Rules) (v : View) → ServesAt rules old v → (next : State Decoded) → next.rules ≡ kept_rules old
      → Shows next (base_of (with_plans v)) (with_plans v) → LiesUnder new (base_of (with_plans v)) → new.paged.core ≡ next → serves new ≡ true → ServesAt rules new v
  serves_renewed rules v serving next numbers shows lies is working =
      let Held : State Decoded → Type 0 = λ s. Shows s (base_of (with_plans v)) (with_plans v) in
      record {
        working = working;
        rules_are = ap (λ (s : State Decoded). s.rules) is ∙ numbers ∙ serving.rules_are;
        shows = shown_anew new v lies (subst Held (sym is) shows);
        seen = serving.seen;
      }

  module _ (rules : Rules) (h : History) (settled : IsSettledAt rules old h) where
    -- what it shows can be kept
    pub keepable_here : IsKeepable (kept_rules old) (view rules h)
    keepable_here =
        let Keeps : Rules → Type 0 = λ r. IsKeepable r (view rules h) in
        subst Keeps (sym settled.rules_are) (history_kept rules settled.read.root.label h settled.read.checkpoint.numbers settled.read.history)

    -- at every moment a crash leaves the history
    pub moments_renewed : Stands g.disk (device_of mid) (device_of new) (λ c. StandsFor rules c h) (λ c. StandsFor rules c h) → LeavesSome rules old new h []
    moments_renewed stands =
        followed_by g.disk (device_of old) (device_of mid) (device_of new) (IsFound rules h [] []) (λ c. StandsFor rules c h) (IsFound rules h [] [])
        (moments_read rules old mid h [] run settled) stands.moments (λ c found. found) (λ c found. found_none rules h [] c found)

    -- and the next generation is settled at it
    pub settled_renewed : (next : State Decoded) → next.rules ≡ kept_rules old → Shows next (base_of (with_plans (view rules h))) (with_plans (view rules h))
        → Stands g.disk (device_of mid) (device_of new) (λ c. StandsFor rules c h) (λ c. StandsFor rules c h)
        → LiesUnder new (base_of (with_plans (view rules h))) → new.paged.core ≡ next → serves new ≡ true → IsSettledAt rules new h
    settled_renewed next numbers shows stands lies is working =
        let serving = serves_renewed rules (view rules h) (settled_serves rules old h settled) next numbers shows lies is working in
        record {
          working = working;
          rules_are = serving.rules_are;
          keeps = stands.kept;
          shows = serving.shows;
          read = stands.seen;
          left = stands.crash;
        }

    -- a store that stops there leaves it
    pub left_renewed : Stands g.disk (device_of mid) (device_of new) (λ c. StandsFor rules c h) (λ c. StandsFor rules c h) → serves new ≡ false → IsLeftAt rules new h [] []
    left_renewed stands stopped = record {
      stopped = stopped;
      keeps = stands.kept;
      read = found_none rules h [] _ stands.seen;
      left = λ c left. found_none rules h [] c (stands.crash c left);
    }
