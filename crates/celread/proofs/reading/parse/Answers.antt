-- Why tokens spell no tree within the limits.
use Rattle.std.proofs.Common.{rules, ◌≡◌, List, [], ◌∷◌, length, true, false, Result, IfErr, IsErrAnd, inr, refl, sym}
use Rattle.std.specs.Bool.{◌==◌}
use Rattle.std.proofs.lemmas.Result.{err_from_is_err_and}
use Rattle.celtokens.specs.declared.token.Token.{Token}
use Rattle.celtokens.specs.Terminal.{Terminal}
use Rattle.celtokens.specs.Seen.{terminals}
use Rattle.celread.specs.declared.parse_fault.ParseFault.{ParseFault}
use Rattle.celread.specs.declared.parse_fault.ParseFault.TheVariants as parse_fault
use Rattle.celread.specs.Grammar.{Whole}
use Rattle.celread.specs.Ends.{HasNoTree, Refuses}
use Rattle.celread.specs.declared.fault.ReadFault.{ReadFault}
use Rattle.celread.specs.Faults.{of_parse_fault}
use Rattle.celread.specs.Limits.{opens_too_many}
use Rattle.celread.specs.Reading.{IsParseFault}
use Rattle.celread.proofs.reading.parse.Goals as goal

some_left : (tokens : List Token) → false ≡ (length tokens == 0) → [] ≡ terminals tokens → ⊥
some_left [] some none = cc
some_left (w ∷ ws) some none = cc

none_left : (tokens : List Token) → true ≡ (length tokens == 0) → terminals tokens ≡ []
none_left [] none = refl
none_left (w ∷ ws) none = absurd (search rules)

refused : {X : Type 0} (ws : List Terminal) (r : Result X ReadFault) (e : ParseFault) → IsErrAnd r (λ y. y ≡ of_parse_fault e) → opens_too_many 0 ws ≡ false
    → Refuses e (HasNoTree Whole ws) → IfErr r (IsParseFault ws)
refused ws r parse_fault.NotInGrammar is few none = let p = err_from_is_err_and r is in rw (p.1, p.2) (few, λ t spelled. none t [] spelled tt)
refused ws r parse_fault.Memory is few none = let p = err_from_is_err_and r is in rw (p.1, p.2) tt

pub returns-in_err-tree-clause-fault : goal.returns-in_err-tree-clause-fault
returns-in_err-tree-clause-fault c =
    refused _ c.from_residual.result c.in_err-tree.field-0.0 c.from_residual.ensures.1 (sym c.if-opens_too_many.ensures) c.in_err-tree.ensures.none

pub returns-then-not-is_empty-clause-fault : goal.returns-then-not-is_empty-clause-fault
returns-then-not-is_empty-clause-fault c =
    (sym c.if-opens_too_many.ensures, λ u spelled. some_left c.in_ok-tree.rest.now c.if-not-is_empty.ensures (c.in_ok-tree.ensures.tree.only u [] spelled tt).1)

pub returns-else-nests_within-clause-fault : goal.returns-else-nests_within-clause-fault
returns-else-nests_within-clause-fault c =
    let spelled = rw (none_left c.in_ok-tree.rest.now c.if-not-is_empty.ensures) at c.in_ok-tree.ensures.tree.spelled in
    inr (sym c.if-opens_too_many.ensures, (_, spelled, rw c.deref.ensures at (sym c.if-nests_within.ensures)))
