use Rattle.std.proofs.Common.{IfOk, subst, refl, sym, ap}
use Rattle.requests.specs.Request.{RequestHasForm}
use Rattle.requests.specs.RequestOf.{request_of}
use Rattle.expressions.specs.Specification.{bad_spec}
use Rattle.apicore.specs.Prepared.{IsPrepared}
use Rattle.apicore.specs.Conditions.{known}
use Rattle.apicore.proofs.Looking.{looked_not}
use Rattle.apicore.proofs.Deciding.{watch_prepared_in, refused_prepared_in, unwritten_ready, refused_ready, read_as}
use Rattle.apicore.proofs.preparing.prepare.Goals as goal

pub returns-in-Watch : goal.returns-in-Watch
returns-in-Watch g c =
    let told = c.watch.ensures in
    let core = c.args.core.now in
    let source = c.args.source.now in
    let looked = looked_not g.S.Source.holds g.S.Source.goes_to g.S.Source.failures g.S.Source.unfailed core source c.watch.result (g.met.S.Source.stays source) (g.met.S.Source.unfailed_itself source) told.memory in
    record {
      rules = refl;
      revision = refl;
      shows = λ base held shows. shows;
      step =
          subst (λ r. IfOk c.watch.result (IsPrepared (g.S.Source.holds source) core (request_of r)))
          (sym c.in-Watch.is) (watch_prepared_in (g.S.Source.holds source) core _ _ c.watch.result told.reply told.ready);
      ready = unwritten_ready core c.watch.result told.ready;
      form = subst (λ r. RequestHasForm (request_of r)) (sym c.in-Watch.is) tt;
      kept = looked.kept;
      goes = looked.goes;
      counts = looked.counts;
      steady = looked.steady;
      device = looked.device;
      memory = looked.memory;
      damaged = looked.damaged;
      read = λ _. read_as _ _ _ (ap request_of c.in-Watch.is) (bad_spec, tt);
    }

pub returns-in-Refused : goal.returns-in-Refused
returns-in-Refused g c =
    let told = c.refused.ensures in
    let core = c.args.core.now in
    let source = c.args.source.now in
    let looked = looked_not g.S.Source.holds g.S.Source.goes_to g.S.Source.failures g.S.Source.unfailed core source c.refused.result (g.met.S.Source.stays source) (g.met.S.Source.unfailed_itself source) told.memory in
    record {
      rules = refl;
      revision = refl;
      shows = λ base held shows. shows;
      step =
          subst (λ r. IfOk c.refused.result (IsPrepared (g.S.Source.holds source) core (request_of r)))
          (sym c.in-Refused.is) (refused_prepared_in (g.S.Source.holds source) core _ c.refused.result told.step);
      ready = refused_ready core (known c.in-Refused.refusal) c.refused.result told.step;
      form = subst (λ r. RequestHasForm (request_of r)) (sym c.in-Refused.is) tt;
      kept = looked.kept;
      goes = looked.goes;
      counts = looked.counts;
      steady = looked.steady;
      device = looked.device;
      memory = looked.memory;
      damaged = looked.damaged;
      read = λ _. read_as _ _ _ (ap request_of c.in-Refused.is) (bad_spec, tt);
    }

pub returns-in-Get : goal.returns-in-Get
returns-in-Get g c =
    let told = c.get.ensures in
    record {
      rules = refl;
      revision = refl;
      shows = λ base held shows. shows;
      step =
          subst (λ r. IfOk c.get.result (IsPrepared (g.S.Source.holds c.args.source.now) c.args.core.now (request_of r)))
          (sym c.in-Get.is) told.step;
      ready = unwritten_ready c.args.core.now c.get.result told.ready;
      form = subst (λ r. RequestHasForm (request_of r)) (sym c.in-Get.is) tt;
      kept = told.looked.kept;
      goes = told.looked.goes;
      counts = told.looked.counts;
      steady = told.looked.steady;
      device = told.looked.device;
      memory = told.looked.memory;
      damaged = told.looked.damaged;
      read = λ _. read_as _ _ _ (ap request_of c.in-Get.is) (bad_spec, tt);
    }

pub returns-in-List : goal.returns-in-List
returns-in-List g c =
    let told = c.list.ensures in
    record {
      rules = refl;
      revision = refl;
      shows = λ base held shows. shows;
      step =
          subst (λ r. IfOk c.list.result (IsPrepared (g.S.Source.holds c.args.source.now) c.args.core.now (request_of r)))
          (sym c.in-List.is) told.step;
      ready = unwritten_ready c.args.core.now c.list.result told.ready;
      form = subst (λ r. RequestHasForm (request_of r)) (sym c.in-List.is) tt;
      kept = told.looked.kept;
      goes = told.looked.goes;
      counts = told.looked.counts;
      steady = told.looked.steady;
      device = told.looked.device;
      memory = told.looked.memory;
      damaged = told.looked.damaged;
      read = λ _. read_as _ _ _ (ap request_of c.in-List.is) (bad_spec, tt);
    }

pub returns-in-Create : goal.returns-in-Create
returns-in-Create g c =
    let told = c.prepare_manifest.ensures in
    record {
      rules = told.same.rules;
      revision = told.same.revision;
      shows = told.same.shows;
      step =
          subst (λ r. IfOk c.prepare_manifest.result (IsPrepared (g.S.Source.holds c.args.source.now) c.args.core.now (request_of r)))
          (sym c.in-Create.is) told.step;
      ready = told.ready;
      form = subst (λ r. RequestHasForm (request_of r)) (sym c.in-Create.is) told.form;
      kept = told.looked.kept;
      goes = told.looked.goes;
      counts = told.looked.counts;
      steady = told.looked.steady;
      device = told.looked.device;
      memory = told.looked.memory;
      damaged = told.looked.damaged;
      read = λ failed. read_as _ _ _ (ap request_of c.in-Create.is) (told.read failed);
    }

pub returns-in-Replace : goal.returns-in-Replace
returns-in-Replace g c =
    let told = c.prepare_manifest-in-Replace.ensures in
    record {
      rules = told.same.rules;
      revision = told.same.revision;
      shows = told.same.shows;
      step =
          subst (λ r. IfOk c.prepare_manifest-in-Replace.result (IsPrepared (g.S.Source.holds c.args.source.now) c.args.core.now (request_of r)))
          (sym c.in-Replace.is) told.step;
      ready = told.ready;
      form = subst (λ r. RequestHasForm (request_of r)) (sym c.in-Replace.is) told.form;
      kept = told.looked.kept;
      goes = told.looked.goes;
      counts = told.looked.counts;
      steady = told.looked.steady;
      device = told.looked.device;
      memory = told.looked.memory;
      damaged = told.looked.damaged;
      read = λ failed. read_as _ _ _ (ap request_of c.in-Replace.is) (told.read failed);
    }

pub returns-in-Delete : goal.returns-in-Delete
returns-in-Delete g c =
    let told = c.prepare_delete.ensures in
    record {
      rules = told.same.rules;
      revision = told.same.revision;
      shows = told.same.shows;
      step =
          subst (λ r. IfOk c.prepare_delete.result (IsPrepared (g.S.Source.holds c.args.source.now) c.args.core.now (request_of r)))
          (sym c.in-Delete.is) told.step;
      ready = told.ready;
      form = subst (λ r. RequestHasForm (request_of r)) (sym c.in-Delete.is) told.form;
      kept = told.looked.kept;
      goes = told.looked.goes;
      counts = told.looked.counts;
      steady = told.looked.steady;
      device = told.looked.device;
      memory = told.looked.memory;
      damaged = told.looked.damaged;
      read = λ _. read_as _ _ _ (ap request_of c.in-Delete.is) (bad_spec, tt);
    }
