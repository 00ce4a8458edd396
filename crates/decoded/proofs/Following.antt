-- Writes that may follow, and those after them.
use Rattle.std.proofs.Common.{List, [], ◌∷◌, ◌++◌}
use Rattle.names.specs.declared.format.Rules.{Rules}
use Rattle.histories.specs.View.{after, after_all}
use Rattle.decoded.specs.Standing.{Write, View, AllMayFollow}

-- what may follow, and then more that may follow that
pub AllMayFollow-append : (rules : Rules) (v : View) (ws us : List Write) → AllMayFollow rules v ws → AllMayFollow rules (after_all rules v ws) us
    → AllMayFollow rules v (ws ++ us)
AllMayFollow-append rules v [] us first more = more
AllMayFollow-append rules v (w ∷ ws) us first more = (first.0, AllMayFollow-append rules (after rules v w) ws us first.1 more)

-- of writes that may follow the first may
pub AllMayFollow-first : (rules : Rules) (v : View) (ws us : List Write) → AllMayFollow rules v (ws ++ us) → AllMayFollow rules v ws
AllMayFollow-first rules v [] us follow = tt
AllMayFollow-first rules v (w ∷ ws) us follow = (follow.0, AllMayFollow-first rules (after rules v w) ws us follow.1)

-- and the others after them
pub AllMayFollow-others : (rules : Rules) (v : View) (ws us : List Write) → AllMayFollow rules v (ws ++ us) → AllMayFollow rules (after_all rules v ws) us
AllMayFollow-others rules v [] us follow = follow
AllMayFollow-others rules v (w ∷ ws) us follow = AllMayFollow-others rules (after rules v w) ws us follow.1
