use Rattle.std.proofs.Common.{arith, ◌≡◌, ◌<◌, ◌+◌, ◌-◌, ◌/◌}
use Rattle.std.specs.declared.cmp.Ordering.TheVariants.{Less, Equal, Greater}
use Rattle.pages.specs.Page.{bytes_cmp, count, key_at}
use Rattle.pages.proofs.Searching.{same_key, lower_rise, higher_rise, none_there}
use Rattle.pages.proofs.search.place_of.Goals as goal

pub halves-preserved-in-Less : goal.halves-preserved-in-Less
halves-preserved-in-Less c =
    let bytes = c.args.bytes.now in
    let middle = c.halves.low + (c.halves.high - c.halves.low) / 2 in
    let inside : middle < count bytes = omega (arith, c.halves.invariant.bounded) in
    let less : bytes_cmp (key_at middle bytes) c.args.key.now ≡ Less = cc in
    record {
      bounded = c.halves.invariant.bounded;
      lower = lower_rise bytes c.args.key.now c.requires.order middle inside less;
      higher = c.halves.invariant.higher;
    }

pub returns-in-Equal-clause-found : goal.returns-in-Equal-clause-found
returns-in-Equal-clause-found c =
    let bytes = c.args.bytes.now in
    let middle = c.halves.low + (c.halves.high - c.halves.low) / 2 in
    let tie : bytes_cmp (key_at middle bytes) c.args.key.now ≡ Equal = cc in
    same_key (key_at middle bytes) c.args.key.now tie

pub halves-preserved : goal.halves-preserved
halves-preserved c =
    let bytes = c.args.bytes.now in
    let middle = c.halves.low + (c.halves.high - c.halves.low) / 2 in
    let greater : bytes_cmp (key_at middle bytes) c.args.key.now ≡ Greater = cc in
    record {
      bounded = omega (arith, c.halves.invariant.bounded);
      lower = c.halves.invariant.lower;
      higher = higher_rise bytes c.args.key.now c.requires.order middle greater;
    }

pub returns-clause-absent : goal.returns-clause-absent
returns-clause-absent c =
    none_there c.args.bytes.now c.args.key.now c.halves.low c.halves.invariant.lower
    (λ k low l. c.halves.invariant.higher k (omega arith) l)
