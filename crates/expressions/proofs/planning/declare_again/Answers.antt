use Rattle.expressions.proofs.planning.declare_again.Goals as goal

pub unreachable-requires : goal.unreachable-requires
unreachable-requires c = (rw (c.in-None.is, c.deref.ensures.value) at c.in_ok-found.ensures) c.requires.typed.0 c.requires.typed.1.typed
