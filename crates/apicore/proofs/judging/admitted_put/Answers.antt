use Rattle.std.proofs.Common.{◌≡◌, ◌∙◌, ◌+◌, [], ◌∷◌, map, sym, ap, string_bytes, Some}
use Rattle.std.proofs.lemmas.Result.{IfOk-from_err}
use Rattle.documents.specs.Document.{Document}
use Rattle.requests.specs.Codes.{document_in}
use Rattle.histories.specs.History.{put}
use Rattle.requests.specs.Reply.{showing}
use Rattle.holdings.specs.Prepared.{writes_of}
use Rattle.holdings.specs.Writes.{Put}
use Rattle.holdings.specs.declared.prepared.PreparedWrite.TheVariants as prepared
use Rattle.expressions.specs.Specification.{these}
use Rattle.decoded.specs.Decoded.{Decoded, spelled}
use Rattle.apicore.proofs.Deciding.{next_put, as_it_was}
use Rattle.apicore.proofs.Faults.{only_memory}
use Rattle.apicore.proofs.judging.admitted_put.Goals as goal

pub returns-in_err-reply : goal.returns-in_err-reply
returns-in_err-reply c =
    let handed = c.from_residual in
    record {
      same = as_it_was c.args.core.now;
      reply = IfOk-from_err handed.result _ handed.ensures.0;
      write = IfOk-from_err handed.result _ handed.ensures.0;
      next = λ held same stands. IfOk-from_err handed.result _ handed.ensures.0;
      ready = IfOk-from_err handed.result _ handed.ensures.0;
      memory = only_memory handed.result handed.ensures.1;
    }

pub returns-in_err-beside : goal.returns-in_err-beside
returns-in_err-beside c =
    let handed = c.from_residual-in_err-beside in
    record {
      same = as_it_was c.args.core.now;
      reply = IfOk-from_err handed.result _ handed.ensures.0;
      write = IfOk-from_err handed.result _ handed.ensures.0;
      next = λ held same stands. IfOk-from_err handed.result _ handed.ensures.0;
      ready = IfOk-from_err handed.result _ handed.ensures.0;
      memory = only_memory handed.result handed.ensures.1;
    }

pub returns-in_err-put : goal.returns-in_err-put
returns-in_err-put c =
    let handed = c.from_residual-in_err-put in
    let put = c.prepare_put.ensures in
    record {
      same = record { rules = put.rules; revision = put.revision; shows = put.shows };
      reply = IfOk-from_err handed.result _ handed.ensures.0;
      write = IfOk-from_err handed.result _ handed.ensures.0;
      next = λ held same stands. IfOk-from_err handed.result _ handed.ensures.0;
      ready = IfOk-from_err handed.result _ handed.ensures.0;
      memory = only_memory handed.result handed.ensures.1;
    }

pub returns : goal.returns
returns c =
    let m = c.args.manifest.now in
    let made = c.prepare_put.ensures in
    let document : c.document-document.result.now ≡ document_in m.body = sym (ap document_in c.document-document.ensures.body) in
    let json : c.json.result.now ≡ (document_in m.body).json = c.json.ensures ∙ ap (λ (d : Document). d.json) document in
    let beside : c.in_ok-beside.beside ≡ spelled (document_in m.body).json (these c.args.plans.items) =
    c.in_ok-beside.ensures ∙ (λ i. spelled (json i) (these c.args.plans.items)) in
    record {
      same = record { rules = made.rules; revision = made.revision; shows = made.shows };
      reply = c.in_ok-reply.ensures
          ∙ (λ i. showing (c.put_code.ensures i) (map string_bytes c.args.warnings.items) (document i) (c.revision-revision.ensures i + 1));
      write = ap (λ (p : Put Decoded). writes_of (Some (prepared.Put p))) c.in_ok-put.ensures.put ∙ (λ i. put m.key (document_in m.body) (beside i) ∷ []);
      next = λ held same stands. next_put held c.in_ok-put.put m.key _ _ _ c.args.stands c.in_ok-put.ensures.put same stands;
      ready = c.in_ok-put.ensures.room;
      memory = tt;
    }
