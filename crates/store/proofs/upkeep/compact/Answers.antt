use Rattle.std.proofs.Common.{◌∙◌, ◌+◌, sym, subst, ap, Err, true≢false, inl, inr, ⊎_elim}
use Rattle.names.specs.declared.format.Rules.{Rules}
use Rattle.roots.specs.declared.root.Root.{Root}
use Rattle.durable.specs.Settled.{root_of, kept_rules}
use Rattle.durable.proofs.Numbers.{format_of}
use Rattle.store.specs.Upkeep.{IsWrittenAnew}
use Rattle.store.proofs.Keeping.{kept_settled, kept_failed, kept_unopened, same_root}
use Rattle.store.proofs.upkeep.compact.Goals as goal

pub returns-in-Err-clause-undamaged : goal.returns-in-Err-clause-undamaged
returns-in-Err-clause-undamaged g c rules h holds damage is =
    ⊎_elim (λ device. cc) (λ memory. cc) (c.in-Err.ensures.refusal rules h holds.keeps holds.read)

pub returns-in-Ok-compact-clause-ok : goal.returns-in-Ok-compact-clause-ok
returns-in-Ok-compact-clause-ok g c rules h holds =
    let settled = c.in-Ok.ensures.settled rules h holds.keeps holds.read in
    kept_settled rules c.args.device c.in-Ok.store c.compact.new.self h holds (c.in-Ok.ensures.any_moment holds.keeps) (c.compact.ensures.any_moment rules h settled)
    (c.in-Ok-compact.ensures.settled rules h settled) c.into_device.result c.into_device.ensures

pub returns-in-Ok-compact-clause-written : goal.returns-in-Ok-compact-clause-written
returns-in-Ok-compact-clause-written g c rules h holds =
    let settled = c.in-Ok.ensures.settled rules h holds.keeps holds.read in
    let Told : g.row.D.Denot → Type 0 = λ d. IsWrittenAnew (g.D.Device.disk.content d) holds.read.root c.in-Ok-compact.compacted in
    let same = same_root (g.D.Device.disk.content c.args.device) (g.D.Device.disk.content c.in-Ok.store.device) holds.read.root settled.read.root (c.in-Ok.ensures.content holds.keeps)
    holds.read.counts settled.read.counts
    in
    subst Told (sym c.into_device.ensures) (record {
      root = _;
      counts = (c.in-Ok-compact.ensures.counts rules h settled).0;
      next = c.in-Ok-compact.ensures.counted rules h settled ∙ ap (λ (r : Root). r.generation + 1) same;
      format = c.in-Ok-compact.ensures.keeps_format ∙ sym (format_of (kept_rules c.in-Ok.store) (root_of c.in-Ok.store).label c.in-Ok.ensures.rules)
          ∙ ap (λ (r : Rules). r.format) settled.rules_are ∙ format_of rules settled.read.root.label settled.read.checkpoint.numbers ∙ ap (λ (r : Root). r.label.format) same;
      told = c.in-Ok-compact.ensures.told;
    })

pub returns-in-Err-compact-clause-failed : goal.returns-in-Err-compact-clause-failed
returns-in-Err-compact-clause-failed g c rules h holds =
    let settled = c.in-Ok.ensures.settled rules h holds.keeps holds.read in
    kept_failed rules c.args.device c.in-Ok.store c.compact.new.self h holds (c.in-Ok.ensures.any_moment holds.keeps) c.compact.result (c.compact.ensures.any_moment rules h settled)
    (c.compact.ensures.device rules h settled) (λ is. (c.compact.ensures.memory rules h settled is).0) (λ damage is. c.compact.ensures.damaged damage is rules h settled)
    (λ is. true≢false (sym c.in-Ok.ensures.serves ∙ c.compact.ensures.failed_only is)) c.in-Err-compact.fault c.in-Err-compact.is c.into_device-in-Err-compact.result
    c.into_device-in-Err-compact.ensures

pub returns-in-Err-compact-clause-undamaged : goal.returns-in-Err-compact-clause-undamaged
returns-in-Err-compact-clause-undamaged g c rules h holds damage is =
    let settled = c.in-Ok.ensures.settled rules h holds.keeps holds.read in
    c.compact.ensures.damaged damage (c.in-Err-compact.is ∙ ap Err is) rules h settled

pub returns-in-Ok-compact-clause-steady : goal.returns-in-Ok-compact-clause-steady
returns-in-Ok-compact-clause-steady g c = ap g.D.Device.disk.failures c.into_device.ensures ∙ c.in-Ok-compact.ensures.steady ∙ c.in-Ok.ensures.steady

pub returns-in-Err-compact-clause-unfailed : goal.returns-in-Err-compact-clause-unfailed
returns-in-Err-compact-clause-unfailed g c told =
    ap g.D.Device.disk.failures c.into_device-in-Err-compact.ensures
    ∙ c.compact.ensures.unfailed (⊎_elim (λ is. inl (c.in-Err-compact.is ∙ ap Err is)) (λ is. inr (c.in-Err-compact.is ∙ ap Err is)) told) ∙ c.in-Ok.ensures.steady

pub returns-in-Err-clause-unfailed : goal.returns-in-Err-clause-unfailed
returns-in-Err-clause-unfailed g c told = ⊎_elim (λ is. c.in-Err.ensures.unfailed is) (λ is. absurd (c.in-Err.ensures.never_failed.1 is)) told

pub returns-in-Err-clause-failed : goal.returns-in-Err-clause-failed
returns-in-Err-clause-failed g c rules h holds =
    kept_unopened rules g.D.Device.disk c.args.device c.in-Err.device h holds (c.in-Err.ensures.any_moment_err holds.keeps) (c.in-Err.ensures.content_err holds.keeps)
    (c.in-Err.ensures.left_err holds.keeps)
