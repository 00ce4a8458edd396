use Rattle.std.proofs.Common.{rules, refl, ap, ◌∙◌}
use Rattle.std.proofs.lemmas.Result.{on_ok_weaker}
use Rattle.device.specs.Step.{Same}
use Rattle.device.proofs.Runs.{not_yet}
use Rattle.snapshots.specs.declared.object_cache.ObjectCache.{ObjectCache}
use Rattle.snapshots.specs.ObjectCache as cache
use Rattle.paged.specs.Paged.{Below}
use Rattle.paged.proofs.Going.{ran_by, failed_by, unfailed_by}
use Rattle.paged.proofs.Stepping.{HoldsBare, base_holds, base_lies, prepared_over}
use Rattle.paged.proofs.state.Paged.prepare.Goals as goal

pub returns : goal.returns
returns g c =
    let before = c.new-base.ensures in
    let step = c.prepare.ensures in
    let device = c.args.device.now in
    let base = c.new-base.result in
    let end = c.prepare.new.source in
    record {
      rules = step.rules;
      revision = step.revision;
      root = step.goes.root ∙ ap (λ (s : ObjectCache). cache.root_of s) before.cache;
      shows = step.shows;
      below = λ objects below.
          base_lies end _ _ (search rules) refl objects
          (step.kept objects (base_holds base device c.args.self.now.cache before.device before.cache objects before.whole below));
      step = prepared_over (HoldsBare base) (Below g.D.Device.disk device c.args.self.now) c.args.self.now.core _ c.prepare.result
          (λ objects below. base_holds base device c.args.self.now.cache before.device before.cache objects before.whole below)
          step.step;
      ready = step.ready;
      form = step.form;
      ran = ran_by base end device _ before.device (search rules)
          (not_yet g.D.Device.disk device Same (λ c. refl) (λ keeps content since. g.met.D.Device.only_now device content keeps since)) step.goes;
      steady = on_ok_weaker c.prepare.result (unfailed_by base end device _ before.device (search rules)) step.steady;
      device = λ is. failed_by base end device _ before.device (search rules) (step.device is);
      memory = λ is. unfailed_by base end device _ before.device (search rules) (step.memory is);
      read = step.read;
      damaged = λ part damaged v shown is_view.
          step.damaged part damaged shown.shows.held v
          (record {
            base = shown.base;
            below = base_holds base device c.args.self.now.cache before.device before.cache shown.base before.whole shown.below;
            shows = shown.shows.shows;
            plans = shown.shows.plans;
            free = shown.shows.free;
            seen = is_view;
          });
    }
