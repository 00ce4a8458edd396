use Rattle.std.proofs.Common.{◌≡◌, refl, sym, subst}
use Rattle.std.specs.Prelude.{IfOk}
use Rattle.std.proofs.lemmas.Result.{IfOk-from_err}
use Rattle.histories.specs.View as seen
use Rattle.holdings.specs.Holdings.{State, Shows}
use Rattle.checkpoint.specs.EntryList.{entries_of as in_list}
use Rattle.chunks.specs.Chunks.{cut}
use Rattle.handing.specs.Cells.{cells_in}
use Rattle.snapshots.specs.Keeping.{IsHeld, held_entries}
use Rattle.decoded.specs.Decoded.{Decoded}
use Rattle.apicore.proofs.Faults.{same_fault}
use Rattle.snapshots.proofs.BaseFaults.{on_any}
use Rattle.paged.specs.Paged.{Holds}
use Rattle.paged.proofs.Owning.{below_lies}
use Rattle.paged.proofs.Showing.{shows_still}
use Rattle.paged.proofs.state.Paged.next_handed_on.Goals as goal

pub returns-in_err-cells : goal.returns-in_err-cells
returns-in_err-cells g c =
    let handed = c.from_residual in
    let all = c.all_cells.ensures in
    record {
      entries = λ held holds. IfOk-from_err handed.result _ handed.ensures.0;
      rules = IfOk-from_err handed.result _ handed.ensures.0;
      held = λ held holds is. IfOk-from_err handed.result _ handed.ensures.0;
      are = λ entries has. IfOk-from_err handed.result _ handed.ensures.0;
      damaged = λ part told held holds is. all.damaged part (same_fault handed.ensures.1 c.in_err-cells.was told) holds.base holds.below;
      core = all.core;
      root = all.root;
      below = all.below;
      ran = all.ran;
      steady = IfOk-from_err handed.result _ handed.ensures.0;
      device = λ told. all.device (same_fault handed.ensures.1 c.in_err-cells.was told);
      memory = λ told. all.memory (same_fault handed.ensures.1 c.in_err-cells.was told);
    }

pub returns : goal.returns
returns g c =
    let r = c.next_of_cells.result in
    let made = c.next_of_cells.ensures in
    let all = c.all_cells.ensures in
    let disk = g.D.Device.disk in
    let device = c.args.device.now in
    let paged = c.args.self.now in
    let old = paged.core in
    let new = c.all_cells.new.self.core in
    let shows : (held : seen.View Decoded) (holds : Holds disk device paged held) → Shows new holds.base held =
    λ held holds. shows_still old new holds.base holds.base held all.core refl holds.shows
    in
    let lie = λ (held : seen.View Decoded) (holds : Holds disk device paged held). below_lies disk device paged holds.base holds.below in
    let Kept : seen.View Decoded → State Decoded → Type 0 = λ held core. IsHeld core.rules held in
    let is_held : (held : seen.View Decoded) → IsHeld old.rules held → IsHeld new.rules held = λ held is. subst (Kept held) (sym all.core) is in
    record {
      entries = λ held holds.
          let Entries : State Decoded → Type 0 = λ core. IfOk r (λ n. in_list n.entries ≡ cut core.rules.format (held_entries held)) in
          subst Entries all.core (made.entries holds.base held (c.in_ok-cells.ensures.all holds.base holds.below) (lie held holds) (shows held holds));
      rules =
          let By : State Decoded → Type 0 = λ core. IfOk r (λ n. n.core.rules ≡ core.rules) in
          subst By all.core made.rules;
      held = λ held holds is. made.held holds.base held (lie held holds) (shows held holds) (is_held held is);
      are = λ entries has. on_any r (cells_in c.in_ok-cells.cells.items, c.in_ok-cells.ensures.are entries has);
      damaged = λ part told held holds is. made.damaged part told holds.base held (lie held holds) (shows held holds) (is_held held is);
      core = all.core;
      root = all.root;
      below = all.below;
      ran = all.ran;
      steady = on_any r c.in_ok-cells.ensures.steady;
      device = λ told. absurd (made.device told);
      memory = λ told. c.in_ok-cells.ensures.steady;
    }
