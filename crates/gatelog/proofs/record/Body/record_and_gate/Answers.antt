use Rattle.std.proofs.Common.{arith, ap, sym, subst, ◌≡◌, ◌∙◌, ◌*◌, List, ℕ, length, take}
use Rattle.gatelog.specs.declared.record.Body.{Body}
use Rattle.gatelog.specs.Payload.{payload_of}
use Rattle.gatelog.specs.Record.{part, sectors, IsRecord}
use Rattle.gatelog.proofs.Parts.{length-part, record_body}
use Rattle.gatelog.proofs.record.Body.record_and_gate.Goals as goal

-- a body's bytes in front of its gate
in_front : (body : Body) → IsRecord (payload_of body) (take (512 * sectors (payload_of body)) body.bytes.items)
in_front body =
    let size : length (payload_of body) ≡ body.payload_length = length-part 4 body.payload_length body.bytes.items (omega (arith, body.size, body.bytes.ok.0)) in
    record_body (payload_of body) body.bytes.items (omega (arith, size, body.limit)) (omega (arith, size, body.size, body.bytes.ok.0)) (body.length_field ∙ sym size)
    (ap (λ n. part 4 n body.bytes.items) size) (λ k high. body.zeros k (omega (arith, size, high)))

pub returns-clause-body : goal.returns-clause-body
returns-clause-body c =
    let body = c.args.self.now in
    let InFront : List ℕ → Type 0 = λ bytes. IsRecord (payload_of body) (take (512 * sectors (payload_of body)) bytes) in
    subst InFront (sym c.deref.ensures.value) (in_front body)
