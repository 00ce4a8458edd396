use Rattle.std.proofs.Common.{sym, ap, subst, ◌∙◌, inl, Err}
use Rattle.checkpoint.proofs.Faults.{no_fault}
use Rattle.names.specs.declared.format.Format.{Format}
use Rattle.requests.specs.RequestOf.{request_of}
use Rattle.apicore.specs.Prepared.{IsReadOf}
use Rattle.paged.specs.Paged as paged
use Rattle.holdings.specs.Holdings.{ShowsSame}
use Rattle.paged.specs.declared.state.Paged.{Paged}
use Rattle.durable.proofs.Numbers.{kept_format, may_still}
use Rattle.durable.specs.Settled.{root_of}
use Rattle.durable.proofs.Called.{err_same, serves_value, serves_met, look_device, look_damaged, lies_met, ran_met, failed_met, steady_met}
use Rattle.durable.proofs.Compacting.{still_ready}
use Rattle.durable.proofs.Keeping.{pages_inside}
use Rattle.roots.specs.declared.root.Root.{Root}
use Rattle.durable.specs.Rules.{rules_by}
use Rattle.durable.proofs.store.Store.prepare.Goals as goal

pub prepare-requires : goal.prepare-requires
prepare-requires g c =
    let store = c.args.self.now in
    record { inside = λ keeps. pages_inside g.D.Device.disk store.device (root_of store) store.log (store.ready c.requires.serves keeps) }

pub invariant_of-self : goal.invariant_of-self
invariant_of-self g c =
    let store = c.args.self.now in
    record {
      numbers = c.prepare.ensures.rules ∙ store.numbers ∙ sym (ap (λ (r : Root). rules_by r.label) c.prepare.ensures.root);
      floor = may_still (root_of store) _ c.prepare.ensures.root store.floor;
      in_data = store.in_data;
      works = store.works;
      ready = λ serves. still_ready g.D.Device.disk store.device c.prepare.new.device (root_of store) _ store.log c.prepare.ensures.root c.prepare.ensures.ran (store.ready serves);
    }

pub returns-in-Ok : goal.returns-in-Ok
returns-in-Ok g c = record {
  rules = c.prepare.ensures.rules;
  root = c.prepare.ensures.root;
  shows = c.prepare.ensures.shows;
  lies = c.prepare.ensures.below;
  step = c.in-Ok.ensures.step;
  ready = c.in-Ok.ensures.ready;
  form = c.prepare.ensures.form;
  device = c.prepare.ensures.ran;
  read = λ is. absurd (no_fault is);
  damaged = λ damage is. absurd (no_fault is);
  leaves = serves_value c.args.self.now _ c.in-Ok.prepared c.requires.serves c.in-Ok.ensures.steady;
}

pub returns-in-Err : goal.returns-in-Err
returns-in-Err g c =
    let store = c.args.self.now in
    let new = c.met.new.self in
    let device = c.prepare.new.device in
    let Shown : Paged → Type 0 = λ p. ShowsSame store.paged.core p.core in
    record {
      rules = ap (λ (p : Paged). p.core.rules) c.met.ensures.paged ∙ c.prepare.ensures.rules;
      root = ap (λ (p : Paged). paged.root_of p) c.met.ensures.paged ∙ c.prepare.ensures.root;
      shows = subst Shown (sym c.met.ensures.paged) c.prepare.ensures.shows;
      lies = λ base below. lies_met new device _ c.met.ensures.device c.met.ensures.paged base (c.prepare.ensures.below base below);
      step = tt;
      ready = tt;
      form = c.prepare.ensures.form;
      device = ran_met new device _ c.met.ensures.device c.met.ensures.paged store.device c.prepare.ensures.ran;
      read = λ is.
          let read = c.in-Err.ensures.read (inl (ap Err (look_device c.in-Err.fault (sym (err_same is) ∙ c.met.ensures.fault)))) in
          let As : Format → Type 0 = λ format. IsReadOf format (request_of c.args.request.now) read.0 in
          (read.0, subst As (kept_format store) read.1);
      damaged = λ damage is v shown is_view.
          let found = look_damaged c.in-Err.fault damage (sym (err_same is) ∙ c.met.ensures.fault) in
          c.in-Err.ensures.damaged found.0 (ap Err found.1) v shown is_view;
      leaves = serves_met store new c.in-Err.fault c.met.ensures.fault c.met.ensures.serves
          (λ is. failed_met new device _ c.met.ensures.device c.met.ensures.paged store.device (c.in-Err.ensures.device (ap Err is)))
          (λ is. steady_met new device _ c.met.ensures.device c.met.ensures.paged store.device (c.in-Err.ensures.memory (ap Err is)));
    }
