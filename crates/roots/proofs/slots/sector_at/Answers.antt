use Rattle.std.proofs.Common.{◌≡◌, ◌+◌, ◌-◌, ap, arith, take, drop}
use Rattle.roots.proofs.slots.sector_at.Goals as goal

pub returns-clause-bytes : goal.returns-clause-bytes
returns-clause-bytes c =
    let size : c.args.at + 512 - c.args.at ≡ 512 = omega arith in
    ap (λ n. take n (drop c.args.at c.args.front.now)) size
