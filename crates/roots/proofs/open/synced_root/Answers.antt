use Rattle.std.proofs.Common.{◌≡◌, ◌∙◌, ◌⊎◌, ◌<◌, ◌≤◌, ◌*◌, sym, subst, length, ℕ, List, IfOk, IsErrOf}
use Rattle.device.specs.Disk.{Only}
use Rattle.gatelog.specs.Record.{part}
use Rattle.gatelog.proofs.Walking.{same_then}
use Rattle.roots.specs.declared.open.RootFault.TheVariants.{Header, Root as NoRoot}
use Rattle.roots.specs.declared.root.Root.{Root}
use Rattle.roots.specs.Root.{IsHeader, HoldsRoot}
use Rattle.roots.proofs.Syncing.{only_after, on_ok}
use Rattle.roots.proofs.open.synced_root.Goals as goal

pub returns-clause-found : goal.returns-clause-found
returns-clause-found g c = λ keeps.
    let ran = c.sync.ensures.ran in
    let Of : List ℕ → Type 0 = λ x. IfOk c.counted_root.result (HoldsRoot x) in
    subst Of (ran.seen keeps) (c.counted_root.ensures.found (ran.kept keeps))

pub returns-clause-damaged : goal.returns-clause-damaged
returns-clause-damaged g c = λ keeps is.
    let ran = c.sync.ensures.ran in
    let Of : List ℕ → Type 0 = λ x. (root : Root) → HoldsRoot x root → ⊥ in
    subst Of (ran.seen keeps) (c.counted_root.ensures.damaged (ran.kept keeps) is)

pub returns-clause-header : goal.returns-clause-header
returns-clause-header g c = λ keeps is.
    let ran = c.sync.ensures.ran in
    let Of : List ℕ → Type 0 = λ x. IsHeader (part 0 512 x) → length x < 9 * 512 in
    subst Of (ran.seen keeps) (c.counted_root.ensures.header (ran.kept keeps) is)

pub returns-clause-root : goal.returns-clause-root
returns-clause-root g c = λ keeps is.
    let ran = c.sync.ensures.ran in
    let Of : List ℕ → Type 0 = λ x. IsHeader (part 0 512 x) × (9 * 512 ≤ length x) in
    subst Of (ran.seen keeps) (c.counted_root.ensures.root (ran.kept keeps) is)

pub returns-clause-ran : goal.returns-clause-ran
returns-clause-ran g c = same_then g.D.Device.disk c.args.device.now c.sync.new.self c.counted_root.new.device c.sync.ensures.ran c.counted_root.ensures.ran

pub returns-clause-durable : goal.returns-clause-durable
returns-clause-durable g c = λ keeps.
    let disk = g.D.Device.disk in
    let ran = c.sync.ensures.ran in
    let Synced : List ℕ → Type 0 = λ x. Only x (disk.left c.sync.new.self) in
    let synced = subst Synced (sym (ran.seen keeps)) (c.in_ok-sync.ensures.durable keeps) in
    on_ok _ c.counted_root.result (only_after disk c.sync.new.self c.counted_root.new.device c.counted_root.ensures.ran (ran.kept keeps) synced)
