use Rattle.std.proofs.Common.{◌≡◌, ◌+◌, ℕ, List, ◌++◌, ◌∷◌, [], drop, refl, arith, sym, ◌∙◌, subst, length-drop, rules}
use Rattle.std.proofs.lemmas.List.{take_rest, drop-drop}
use Rattle.httpmsg.specs.declared.cut.NextMessage.{NextMessage}
use Rattle.httpmsg.specs.declared.cut.NextMessage.TheVariants.{Whole, Unfinished}
use Rattle.httpmsg.specs.Stream.{Message, Takes}
use Rattle.httpmsg.specs.Cut.{IsNext, Leads}
use Rattle.httpmsg.proofs.Cuts.{awaits_now}
use Rattle.httpmsg.proofs.Leads.{leads_on, leads_stop}
use Rattle.httpmsg.proofs.cut.cut_all.Goals.{In-Unfinished, In-Fails, Else-closes}
use Rattle.httpmsg.proofs.cut.cut_all.Goals as goal

pub returns-in-Unfinished-clause-cut : goal.returns-in-Unfinished-clause-cut
returns-in-Unfinished-clause-cut c =
    let IsNextHere : NextMessage → Type 0 = λ n. IsNext (drop c.messages.at c.args.bytes.now) n in
    let found : IsNextHere c.in_ok-awaited.field-0 = simp take_rest at c.in_ok-awaited.ensures in
    let next : IsNextHere (Unfinished c.in-Unfinished.awaited) = subst IsNextHere c.in-Unfinished.is found in
    (c.messages.invariant.0, leads_stop _ _ _ _ c.messages.invariant.1 (refl, (awaits_now _ _ next).1))

pub returns-in-Unfinished-clause-awaits : goal.returns-in-Unfinished-clause-awaits
returns-in-Unfinished-clause-awaits c is =
    let IsNextHere : NextMessage → Type 0 = λ n. IsNext (drop c.messages.at c.args.bytes.now) n in
    let found : IsNextHere c.in_ok-awaited.field-0 = simp take_rest at c.in_ok-awaited.ensures in
    subst IsNextHere c.in-Unfinished.is found

pub returns-in-Fails-clause-cut : goal.returns-in-Fails-clause-cut
returns-in-Fails-clause-cut c =
    let IsNextHere : NextMessage → Type 0 = λ n. IsNext (drop c.messages.at c.args.bytes.now) n in
    let found : IsNextHere c.in_ok-awaited.field-0 = simp take_rest at c.in_ok-awaited.ensures in
    (c.messages.invariant.0, leads_stop _ _ _ _ c.messages.invariant.1 (subst IsNextHere c.in-Fails.is found))

pub messages-preserved : goal.messages-preserved
messages-preserved c =
    let IsNextHere : NextMessage → Type 0 = λ n. IsNext (drop c.messages.at c.args.bytes.now) n in
    let found : IsNextHere c.in_ok-awaited.field-0 = simp take_rest at c.in_ok-awaited.ensures in
    let next : IsNextHere (Whole c.in-Whole.message c.in-Whole.len) = subst IsNextHere c.in-Whole.is found in
    let rest : List ℕ = drop (c.messages.at + c.in-Whole.len) c.args.bytes.now in
    let TakesHere : List ℕ → Type 0 = λ x. Takes (drop c.messages.at c.args.bytes.now) c.in-Whole.message x in
    let takes : TakesHere rest = subst TakesHere (drop-drop c.in-Whole.len c.messages.at c.args.bytes.now) next.2 in
    let pushed : c.push.new.self.items ≡ c.messages.messages.items ++ c.in-Whole.message ∷ [] = search rules in
    let LeadsHere : List Message → Type 0 = λ ms. Leads c.args.bytes.now ms rest in (
      omega (arith, next.1, length-drop c.messages.at c.args.bytes.now, c.messages.invariant.0),
      subst LeadsHere (sym pushed) (leads_on _ _ _ _ _ c.messages.invariant.1 takes (sym c.closes-closes.ensures ∙ c.if-closes.false)),
    )
