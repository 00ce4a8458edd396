use Rattle.std.proofs.Common.{ap, ◌∙◌, arith}
use Rattle.std.proofs.lemmas.List.{length-map}
use Rattle.celtree.specs.View.{view}
use Rattle.celtypes.specs.Seen.{variable_seen, declared}
use Rattle.instructions.specs.Seen.{ops_of}
use Rattle.plan.specs.Compilation.{compiled}
use Rattle.plan.specs.Correct.{names_of}
use Rattle.plan.proofs.NamesDeclared.{names_declared}
use Rattle.plan.proofs.Rooms.{has_room}
use Rattle.plan.proofs.Sizes.{size_within}
use Rattle.plan.proofs.Sound.{declared_is_well_formed}
use Rattle.plan.proofs.Spelled.{code_within}
use Rattle.plan.proofs.compiling.compile.Goals as goal

pub code_of-requires-clause-room : goal.code_of-requires-clause-room
code_of-requires-clause-room c = omega (arith, size_within (view c.args.tree.now), c.requires.small.short)

pub returns-clause-code : goal.returns-clause-code
returns-clause-code c = c.in_ok-code_of.ensures.code ∙ ap (λ d. compiled (view c.args.tree.now) 0 d) (names_declared c.args.env.now)

pub returns-clause-well_formed : goal.returns-clause-well_formed
returns-clause-well_formed c =
    declared_is_well_formed c.args.env.now (view c.args.tree.now) (ops_of c.in_ok-code_of.field-0.items) c.requires.typed c.requires.small.nested (returns-clause-code c)

pub returns-clause-room : goal.returns-clause-room
returns-clause-room c =
    let few = length-map (declared c.args.env.now).variables (λ v. v.0) in
    let same = length-map c.args.env.now.variables.now variable_seen in
    has_room (ops_of c.in_ok-code_of.field-0.items) (view c.args.tree.now) (names_of (declared c.args.env.now)) (returns-clause-code c) c.in_ok-code_of.ensures.values
    c.requires.small.short (omega (arith, few, same, c.requires.few))

pub returns-clause-short : goal.returns-clause-short
returns-clause-short c = code_within (ops_of c.in_ok-code_of.field-0.items) (view c.args.tree.now) 0 (names_of (declared c.args.env.now)) (returns-clause-code c)
