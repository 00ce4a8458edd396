use Rattle.std.proofs.Common.{◌∙◌, ◌+◌, map, ap, string_bytes, Some}
use Rattle.std.proofs.lemmas.Result.{IfOk-from_err}
use Rattle.requests.specs.Reply.{showing}
use Rattle.holdings.specs.Prepared.{writes_of}
use Rattle.holdings.specs.Writes.{Deletion}
use Rattle.holdings.specs.declared.prepared.PreparedWrite.TheVariants as prepared
use Rattle.decoded.specs.Decoded.{Decoded}
use Rattle.apicore.proofs.Deciding.{next_deletion, as_it_was}
use Rattle.apicore.proofs.Faults.{only_memory}
use Rattle.apicore.proofs.judging.admitted_delete.Goals as goal

pub returns-in_err-reply : goal.returns-in_err-reply
returns-in_err-reply c =
    let handed = c.from_residual in
    record {
      same = as_it_was c.args.core.now;
      reply = IfOk-from_err handed.result _ handed.ensures.0;
      write = IfOk-from_err handed.result _ handed.ensures.0;
      next = λ held s there same. IfOk-from_err handed.result _ handed.ensures.0;
      ready = IfOk-from_err handed.result _ handed.ensures.0;
      memory = only_memory handed.result handed.ensures.1;
    }

pub returns-in_err-deletion : goal.returns-in_err-deletion
returns-in_err-deletion c =
    let handed = c.from_residual-in_err-deletion in
    let made = c.prepare_deletion.ensures in
    record {
      same = record { rules = made.rules; revision = made.revision; shows = made.shows };
      reply = IfOk-from_err handed.result _ handed.ensures.0;
      write = IfOk-from_err handed.result _ handed.ensures.0;
      next = λ held s there same. IfOk-from_err handed.result _ handed.ensures.0;
      ready = IfOk-from_err handed.result _ handed.ensures.0;
      memory = only_memory handed.result handed.ensures.1;
    }

pub returns : goal.returns
returns c =
    let made = c.prepare_deletion.ensures in
    record {
      same = record { rules = made.rules; revision = made.revision; shows = made.shows };
      reply = c.in_ok-reply.ensures ∙ (λ i. showing 200 (map string_bytes c.args.warnings.items) c.args.document (c.revision-revision.ensures i + 1));
      write = ap (λ (d : Deletion). writes_of {P = Decoded} (Some (prepared.Delete d))) c.in_ok-deletion.ensures.deletion;
      next = λ held s there same. next_deletion held c.in_ok-deletion.deletion c.args.key.now c.args.document s c.in_ok-deletion.ensures.deletion there same;
      ready = c.in_ok-deletion.ensures.room;
      memory = tt;
    }
