use Rattle.std.proofs.Common.{rules, refl, ap, subst, ◌∙◌, []}
use Rattle.std.specs.Prelude.{IfOk}
use Rattle.std.proofs.lemmas.Result.{on_ok_weaker}
use Rattle.device.specs.Step.{Same}
use Rattle.device.proofs.Runs.{not_yet}
use Rattle.snapshots.specs.Base.{holds_nothing}
use Rattle.snapshots.specs.declared.object_cache.ObjectCache.{ObjectCache}
use Rattle.snapshots.specs.ObjectCache as cache
use Rattle.handing.specs.Cells.{cells_in}
use Rattle.snapshots.specs.HandedOn.{AreCellsBelow}
use Rattle.paged.specs.Lying.{is_rule, made_bare, held_bare}
use Rattle.paged.proofs.Going.{holds_below, has_entries, below_goes, ran_by, failed_by, unfailed_by}
use Rattle.paged.proofs.state.Paged.all_cells.Goals as goal

pub returns : goal.returns
returns g c =
    let before = c.new-base.ensures in
    let listing = c.all_cells.ensures in
    let device = c.args.device.now in
    let start = c.new-base.result in
    let end = c.all_cells.new.self in
    record {
      all = λ base below. listing.listed base (holds_below start device c.args.self.now.cache before.device before.cache base before.whole below);
      are = λ entries has.
          let Are : ObjectCache → Type 0 = λ o. IfOk c.all_cells.result (λ cells. AreCellsBelow is_rule (cache.root_of o).label.format entries (cells_in cells.items)) in
          subst Are before.cache (listing.are entries (has_entries start device c.args.self.now.cache before.device before.cache [] entries has));
      damaged = λ part told base below.
          let holds = holds_below start device c.args.self.now.cache before.device before.cache base before.whole below in
          holds_nothing made_bare held_bare end base (listing.kept base holds) (listing.damaged part told);
      core = refl;
      root = listing.goes.root ∙ ap (λ (s : ObjectCache). cache.root_of s) before.cache;
      below = λ base below. below_goes start device c.args.self.now.cache before.device before.cache base end _ (search rules) listing.goes below;
      ran = ran_by start end device _ before.device (search rules)
          (not_yet g.D.Device.disk device Same (λ c. refl) (λ keeps content since. g.met.D.Device.only_now device content keeps since)) listing.goes;
      steady = on_ok_weaker c.all_cells.result (unfailed_by start end device _ before.device (search rules)) listing.steady;
      device = λ is. failed_by start end device _ before.device (search rules) (listing.device is);
      memory = λ is. unfailed_by start end device _ before.device (search rules) (listing.memory is);
    }
