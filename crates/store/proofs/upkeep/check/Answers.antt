use Rattle.std.proofs.Common.{◌∙◌, sym, ap, Err, ⊎_elim}
use Rattle.histories.specs.View.{view}
use Rattle.roots.specs.declared.root.Root.{Root}
use Rattle.durable.specs.Settled.{root_of}
use Rattle.durable.proofs.Answering.{settled_serves}
use Rattle.durable.proofs.Numbers.{history_kept}
use Rattle.store.proofs.Keeping.{kept_read, kept_unopened, same_root, told_of_view}
use Rattle.store.proofs.upkeep.check.Goals as goal

pub returns-in-Err-clause-undamaged : goal.returns-in-Err-clause-undamaged
returns-in-Err-clause-undamaged g c rules h holds damage is =
    ⊎_elim (λ device. cc) (λ memory. cc) (c.in-Err.ensures.refusal rules h holds.keeps holds.read)

pub returns-in-Ok-check-clause-ok : goal.returns-in-Ok-check-clause-ok
returns-in-Ok-check-clause-ok g c rules h holds =
    let settled = c.in-Ok.ensures.settled rules h holds.keeps holds.read in
    kept_read rules c.args.device c.in-Ok.store c.check.new.self h holds (c.in-Ok.ensures.any_moment holds.keeps) settled c.check.ensures.device c.into_device.result
    c.into_device.ensures

pub returns-in-Ok-check-clause-told : goal.returns-in-Ok-check-clause-told
returns-in-Ok-check-clause-told g c rules h holds =
    let settled = c.in-Ok.ensures.settled rules h holds.keeps holds.read in
    let shown = settled.shows in
    let told = c.in-Ok-check.ensures.told shown.shows.held (record { base = shown.base; below = shown.below; shows = shown.shows.shows }) in
    let same = same_root (g.D.Device.disk.content c.args.device) (g.D.Device.disk.content c.in-Ok.store.device) holds.read.root settled.read.root (c.in-Ok.ensures.content holds.keeps)
    holds.read.counts settled.read.counts
    in
    told_of_view rules h holds.read.root _ shown.shows.held c.in-Ok-check.checked shown.shows.plans told
    (sym told.generation ∙ (c.in-Ok-check.ensures.counted rules h settled).0 ∙ ap (λ (r : Root). r.generation) same)
    (sym told.format ∙ (c.in-Ok-check.ensures.counted rules h settled).1 ∙ ap (λ (r : Root). r.label.format) same)

pub returns-in-Ok-check-clause-whole : goal.returns-in-Ok-check-clause-whole
returns-in-Ok-check-clause-whole g c keeps =
    let whole = c.in-Ok.ensures.whole keeps in
    record { root = root_of c.in-Ok.store; counts = whole.counts; pages = whole.pages; objects = c.in-Ok-check.ensures.are _ whole.entries; kept = whole.kept; log = whole.log }

pub returns-in-Err-check-clause-failed : goal.returns-in-Err-check-clause-failed
returns-in-Err-check-clause-failed g c rules h holds =
    let settled = c.in-Ok.ensures.settled rules h holds.keeps holds.read in
    kept_read rules c.args.device c.in-Ok.store c.check.new.self h holds (c.in-Ok.ensures.any_moment holds.keeps) settled c.check.ensures.device
    c.into_device-in-Err-check.result c.into_device-in-Err-check.ensures

pub returns-in-Err-check-clause-undamaged : goal.returns-in-Err-check-clause-undamaged
returns-in-Err-check-clause-undamaged g c rules h holds damage is =
    let settled = c.in-Ok.ensures.settled rules h holds.keeps holds.read in
    c.check.ensures.damaged damage (c.in-Err-check.is ∙ ap Err is) rules (view rules h) (settled_serves rules c.in-Ok.store h settled)
    (history_kept rules settled.read.root.label h settled.read.checkpoint.numbers settled.read.history)

pub returns-in-Ok-check-clause-steady : goal.returns-in-Ok-check-clause-steady
returns-in-Ok-check-clause-steady g c = ap g.D.Device.disk.failures c.into_device.ensures ∙ c.in-Ok-check.ensures.steady ∙ c.in-Ok.ensures.steady

pub returns-in-Err-check-clause-unfailed : goal.returns-in-Err-check-clause-unfailed
returns-in-Err-check-clause-unfailed g c is =
    ap g.D.Device.disk.failures c.into_device-in-Err-check.ensures ∙ c.check.ensures.unfailed (c.in-Err-check.is ∙ ap Err is) ∙ c.in-Ok.ensures.steady

pub returns-in-Err-clause-unfailed : goal.returns-in-Err-clause-unfailed
returns-in-Err-clause-unfailed g c is = c.in-Err.ensures.unfailed is

pub returns-in-Err-clause-failed : goal.returns-in-Err-clause-failed
returns-in-Err-clause-failed g c rules h holds =
    kept_unopened rules g.D.Device.disk c.args.device c.in-Err.device h holds (c.in-Err.ensures.any_moment_err holds.keeps) (c.in-Err.ensures.content_err holds.keeps)
    (c.in-Err.ensures.left_err holds.keeps)
