use Rattle.std.proofs.Common.{sym, arith}
use Rattle.celtokens.specs.declared.run.Kind.TheVariants as kind
use Rattle.celtokens.proofs.Runs.{all_digits_front}
use Rattle.celtokens.proofs.Numerals.{digit_in_base, hexdigit_in_base, decimal_best, hexadecimal_best}
use Rattle.celtokens.proofs.number.numeral.Goals as goal

pub invariant_of-result : goal.invariant_of-result
invariant_of-result c = record {
  at_least_two = omega arith;
  at_most_sixteen = omega arith;
  in_base = rw c.split_run.ensures.run (all_digits_front kind.HexDigit 16 hexdigit_in_base c.in-Some.hexadecimal.now);
}

pub invariant_of-result-in-None : goal.invariant_of-result-in-None
invariant_of-result-in-None c = record {
  at_least_two = omega arith;
  at_most_sixteen = omega arith;
  in_base = rw c.split_run-in-None.ensures.run (all_digits_front kind.Digit 10 digit_in_base c.args.chars.now);
}

pub returns-in-Some : goal.returns-in-Some
returns-in-Some c = rw (c.split_run.ensures.run, c.split_run.ensures.rest) (hexadecimal_best c.args.chars.now c.in-Some.hexadecimal.now (sym c.in-Some.ensures))

pub returns-in-None : goal.returns-in-None
returns-in-None c = rw (c.split_run-in-None.ensures.run, c.split_run-in-None.ensures.rest) (decimal_best c.args.chars.now c.requires (sym c.in-None.ensures))
