use Rattle.damage.proofs.part_search.first_unjoined.Given as goal

-- nothing is kept
abbrev pub invariant-each : goal.invariant-each
invariant-each l = Unit {0}
