use Rattle.std.proofs.Common.{arith, ◌∙◌, ◌+◌}
use Rattle.gatelog.proofs.Gathering.{part-extended}
use Rattle.gatelog.proofs.record.Body.extend.Goals as goal

pub invariant_of-self-2 : goal.invariant_of-self-2
invariant_of-self-2 c = record {
  limit = omega arith;
  size = omega (arith, c.put_length.ensures.len, c.put.ensures.len, c.in_ok-grow.ensures.len, c.sectors_of.ensures);
  length_field = c.put_length.ensures.number;
  zeros = λ k high. c.put_length.ensures.rest k (omega arith) ∙ c.put.ensures.above k (omega arith) ∙ c.in_ok-grow.ensures.same k ∙ c.args.self.now.zeros k (omega arith);
}

pub returns-clause-added : goal.returns-clause-added
returns-clause-added c =
    let pl = c.args.self.now.payload_length in
    let more = c.args.more.now in
    part-extended 4 pl c.args.self.now.bytes.items c.put_length.new.bytes.items more
    (omega (arith, c.args.self.now.size)) (omega (arith, c.put_length.ensures.len, c.put.ensures.len, c.in_ok-grow.ensures.len, c.sectors_of.ensures))
    (λ k low high. c.put_length.ensures.rest k low ∙ c.put.ensures.below k high ∙ c.in_ok-grow.ensures.same k)
    (λ k lt. c.put_length.ensures.rest (4 + pl + k) (omega arith) ∙ c.put.ensures.inside k lt)
