use Rattle.std.proofs.Common.{◌≡◌, ◌*◌, ◌^◌, ◌<◌, drop}
use Rattle.std.specs.Str.Parse.{digits_value, digits_value_after}
use Rattle.celtree.specs.Digits.{all_digits}
use Rattle.celtokens.proofs.escape.code_point.Given as goal

abbrev pub invariant-loop-digit : goal.invariant-loop-digit
invariant-loop-digit l = record {
  value : digits_value_after l.radix l.code (drop l.digit-index l.digits) ≡ digits_value l.radix l.digits;
  in_base : all_digits l.radix (drop l.digit-index l.digits) ≡ all_digits l.radix l.digits;
  below : l.code < 2 ^ (4 * l.digit-index);
}
