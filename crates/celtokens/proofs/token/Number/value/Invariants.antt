use Rattle.std.proofs.Common.{◌≡◌, ◌<◌, ◌^◌, true, drop}
use Rattle.std.specs.Str.Parse.{digits_value, digits_value_after}
use Rattle.celtree.specs.Digits.{all_digits}
use Rattle.celtokens.proofs.token.Number.value.Given as goal

abbrev pub invariant-loop-c : goal.invariant-loop-c
invariant-loop-c l = record {
  fits : l.value < 2 ^ 64;
  value : digits_value_after l.radix l.value (drop l.c-index l.c-items) ≡ digits_value l.self.radix l.self.digits.now;
  in_base : all_digits l.radix (drop l.c-index l.c-items) ≡ true;
}
