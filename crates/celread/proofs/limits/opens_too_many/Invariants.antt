use Rattle.std.proofs.Common.{◌≡◌, ◌≤◌, drop}
use Rattle.celtokens.specs.Seen.{terminals}
use Rattle.celread.specs.Limits.{opens_too_many}
use Rattle.celread.proofs.limits.opens_too_many.Given as goal

abbrev pub invariant-loop-token : goal.invariant-loop-token
invariant-loop-token l = record {
  same : opens_too_many l.opened (terminals (drop l.token-index l.tokens)) ≡ opens_too_many 0 (terminals l.tokens);
  few : l.opened ≤ 33;
}
