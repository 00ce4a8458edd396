use Rattle.std.proofs.Common.{◌≡◌, sym, ap, subst, ⊎_elim}
use Rattle.httpmsg.specs.Cut.{end_of}
use Rattle.httpmsg.specs.Stream.{IsCut, IsStream}
use Rattle.httpmsg.specs.declared.head.End.TheVariants.{Broken}
use Rattle.routes.specs.ReplyBytes.{end_bytes}
use Rattle.sessions.specs.declared.session.Phase.TheVariants.{Over}
use Rattle.sessions.specs.State.{State}
use Rattle.sessions.proofs.Writing.{closes_quietly}
use Rattle.sessions.proofs.session.Session.end_input.Goals as goal

pub returns-in-Ok-clause-ends : goal.returns-in-Ok-clause-ends
returns-in-Ok-clause-ends c read ms is_open cut =
    let same : c.self.inside.cutter ≡ c.args.self.now.progress = ap (λ (s : State). s.progress) c.self.view_is in
    record {
      end = end_of c.self.inside.cutter;
      stream = c.ending.ensures.stream read ms (subst (IsCut read ms) (sym same) cut);
      closes = closes_quietly c.args.self.now _ (end_bytes (end_of c.self.inside.cutter)) (⊎_elim (λ is. ap end_bytes is) (λ is. ap end_bytes is) c.in-Ok.ensures.end)
          (ap (λ (s : State). record s { phase = Over }) c.self.view_is);
      progress = same;
    }

pub returns-in-Err-clause-ends : goal.returns-in-Err-clause-ends
returns-in-Err-clause-ends c read ms is_open cut =
    let same : c.self.inside.cutter ≡ c.args.self.now.progress = ap (λ (s : State). s.progress) c.self.view_is in
    record {
      end = Broken c.in-Err.broken;
      stream = subst (IsStream read ms) c.in-Err.ensures.end (c.ending.ensures.stream read ms (subst (IsCut read ms) (sym same) cut));
      closes = c.end_at.ensures.closes;
      progress = c.end_at.ensures.progress;
    }
