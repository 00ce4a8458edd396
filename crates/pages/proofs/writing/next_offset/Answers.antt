use Rattle.std.proofs.Common.{arith}
use Rattle.pages.proofs.Room.{next_there}
use Rattle.pages.proofs.writing.next_offset.Goals as goal

pub overflow_sub-result : goal.overflow_sub-result
overflow_sub-result c =
    let there = next_there c.args.bytes.now c.args.key.now c.args.value.now c.requires.built c.requires.room in
    omega arith

pub overflow_sub-result-2 : goal.overflow_sub-result-2
overflow_sub-result-2 c =
    let there = next_there c.args.bytes.now c.args.key.now c.args.value.now c.requires.built c.requires.room in
    omega arith

pub overflow_sub-result-3 : goal.overflow_sub-result-3
overflow_sub-result-3 c =
    let there = next_there c.args.bytes.now c.args.key.now c.args.value.now c.requires.built c.requires.room in
    omega arith

pub returns-clause-ends : goal.returns-clause-ends
returns-clause-ends c =
    let there = next_there c.args.bytes.now c.args.key.now c.args.value.now c.requires.built c.requires.room in
    omega arith

pub returns-clause-behind : goal.returns-clause-behind
returns-clause-behind c =
    let there = next_there c.args.bytes.now c.args.key.now c.args.value.now c.requires.built c.requires.room in
    omega arith

pub returns-clause-inside : goal.returns-clause-inside
returns-clause-inside c =
    let there = next_there c.args.bytes.now c.args.key.now c.args.value.now c.requires.built c.requires.room in
    omega arith
