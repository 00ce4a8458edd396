use Rattle.std.proofs.Common.{ap, ◌∙◌, [], unwrap_or, Bor, List, ℕ}
use Rattle.http.specs.StatusCode.{code_digits, reason_phrase}
use Rattle.httpmsg.proofs.Flows.{writes_as}
use Rattle.httpmsg.proofs.Pieces.{front_pieces, unwrap_now}
use Rattle.httpmsg.proofs.response.write_front.Goals as goal

pub returns-clause-writes : goal.returns-clause-writes
returns-clause-writes g c =
    writes_as g.O.Output.took g.met.O.Output.took_none g.met.O.Output.took_then c.args.output.now c.write_pieces.new.output _ _ c.write_pieces.result
    (front_pieces _ _ _ _ _ _ _ c.args.status.now c.args.length c.as_slice.ensures (c.as_bytes.ensures.value ∙ c.as_str.ensures ∙ ap code_digits c.known-known.ensures) c.as_slice-2.ensures
    (c.as_bytes-2.ensures.value ∙ ap (λ (s : Bor (List ℕ)). s.now) c.unwrap_or-phrase.ensures ∙ unwrap_now c.canonical_reason.result _
    ∙ ap (λ o. unwrap_or o []) c.canonical_reason.ensures.value ∙ ap (λ n. unwrap_or (reason_phrase n) []) c.known-known.ensures)
    c.as_slice-3.ensures (c.as_bytes-3.ensures.value ∙ c.format.ensures.text) c.as_slice-4.ensures)
    c.write_pieces.ensures.writes
