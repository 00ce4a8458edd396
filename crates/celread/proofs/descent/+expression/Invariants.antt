use Rattle.std.proofs.Common.{◌+◌, ◌*◌, ◌<◌, ◌≤◌, length, map}
use Rattle.celtokens.specs.Seen.{terminals}
use Rattle.celtree.specs.View.{view}
use Rattle.celread.proofs.Chains.{Going}
use Rattle.celread.proofs.Suffixes.{GoingMember}
use Rattle.celread.proofs.Lists.{AtItem, AtEntry}
use Rattle.celread.proofs.descent.+expression.Given as goal

-- the tokens left, and then how far a function stands above the others that read the same tokens
abbrev pub decreases-expression : goal.decreases-expression
decreases-expression l = 30 * length l.tokens.now + 20

abbrev pub decreases-infix : goal.decreases-infix
decreases-infix l = (30 * length l.tokens.now + 5) + l.height

abbrev pub decreases-unary : goal.decreases-unary
decreases-unary l = 30 * length l.tokens.now + 4

abbrev pub decreases-prefixed : goal.decreases-prefixed
decreases-prefixed l = 30 * length l.tokens.now + 3

abbrev pub decreases-member : goal.decreases-member
decreases-member l = 30 * length l.tokens.now + 2

abbrev pub decreases-primary : goal.decreases-primary
decreases-primary l = 30 * length l.tokens.now + 1

abbrev pub decreases-composite : goal.decreases-composite
decreases-composite l = 30 * length l.tokens.now

abbrev pub decreases-expression_before : goal.decreases-expression_before
decreases-expression_before l = 30 * length l.tokens.now + 21

abbrev pub decreases-items : goal.decreases-items
decreases-items l = 30 * length l.tokens.now + 22

abbrev pub decreases-entries : goal.decreases-entries
decreases-entries l = 30 * length l.tokens.now + 22

abbrev pub invariant-infix-operators : goal.invariant-infix-operators
invariant-infix-operators l = record { going : Going l.lower (terminals l.tokens) (view l.left.value) (terminals l.rest); shorter : length l.rest < length l.tokens }

abbrev pub decreases-infix-operators : goal.decreases-infix-operators
decreases-infix-operators l = length l.rest

abbrev pub invariant-member-suffixes : goal.invariant-member-suffixes
invariant-member-suffixes l = record { going : GoingMember (terminals l.tokens) (view l.of.value) (terminals l.rest); shorter : length l.rest < length l.tokens }

abbrev pub decreases-member-suffixes : goal.decreases-member-suffixes
decreases-member-suffixes l = length l.rest

abbrev pub invariant-items-more_items : goal.invariant-items-more_items
invariant-items-more_items l = record { here : AtItem l.closing (terminals l.tokens) (map view l.items.items) (terminals l.rest); within : length l.rest ≤ length l.tokens }

abbrev pub decreases-items-more_items : goal.decreases-items-more_items
decreases-items-more_items l = length l.rest

abbrev pub invariant-entries-more_entries : goal.invariant-entries-more_entries
invariant-entries-more_entries l = record { here : AtEntry (terminals l.tokens) (map (λ p. (view p.0, view p.1)) l.entries.items) (terminals l.rest); within : length l.rest ≤ length l.tokens }

abbrev pub decreases-entries-more_entries : goal.decreases-entries-more_entries
decreases-entries-more_entries l = length l.rest
