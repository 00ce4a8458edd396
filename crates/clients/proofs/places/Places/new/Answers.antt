use Rattle.std.proofs.Common.{◌≡◌, sym, subst, ℕ, List, [], ◌∷◌, ◌++◌, None, get_or, Option}
use Rattle.sessions.specs.State.{State}
use Rattle.clients.specs.declared.line.Line.{Line}
use Rattle.clients.specs.Places.{fresh}
use Rattle.clients.proofs.Beginning.{one_more, one_longer}
use Rattle.clients.proofs.places.Places.new.Goals as goal

pub loop-preserved : goal.loop-preserved
loop-preserved g c =
    let lines : c.push.new.self.items ≡ c.loop.lines.items ++ None ∷ [] = c.in_ok-push.ensures.items in
    let sessions : c.push-in-loop.new.self.items ≡ c.loop.sessions.items ++ fresh ∷ [] = rw c.new.ensures at c.in_ok-push-2.ensures.items in
    record {
      many = one_longer None c.loop.lines.items c.push.new.self.items c.loop.counter lines c.loop.invariant.many;
      alike = one_longer fresh c.loop.sessions.items c.push-in-loop.new.self.items c.loop.counter sessions c.loop.invariant.alike;
      free = subst (λ (xs : List (Option (Line g.row.S.Denot))). (i : ℕ) → get_or xs i None ≡ None) (sym lines) (one_more None c.loop.lines.items c.loop.invariant.free);
      fresh = subst (λ (xs : List State). (i : ℕ) → get_or xs i fresh ≡ fresh) (sym sessions) (one_more fresh c.loop.sessions.items c.loop.invariant.fresh);
    }
