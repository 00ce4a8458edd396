use Rattle.std.proofs.Common.{◌≡◌, ◌∙◌, ◌⊎◌, inl, inr, subst, sym, Bool, true, false, Result, Ok, Err}
use Rattle.std.specs.Prelude.{IsTrue, MatchResult, is_err}
use Rattle.httpmsg.specs.declared.head.BrokenMessage.{BrokenMessage}
use Rattle.httpmsg.specs.declared.head.End.{End}
use Rattle.httpmsg.specs.declared.head.End.TheVariants.{Clean, Closed, Broken}
use Rattle.httpmsg.specs.Cut.{end_of}
use Rattle.sessions.specs.State.{State}
use Rattle.sessions.proofs.session.Session.has_begun.Goals as goal

abbrev Tells : {T : Type 0} → End → Result T BrokenMessage → Type 0
Tells end r = MatchResult r (λ _. (end ≡ Clean) ⊎ (end ≡ Closed)) (λ b. end ≡ Broken b)

not_broken : (end : End) (b : BrokenMessage) → (end ≡ Clean) ⊎ (end ≡ Closed) → end ≡ Broken b → ⊥
not_broken end b (inl clean) broken =
    let bad : Clean ≡ Broken b = sym clean ∙ broken in
    cc
not_broken end b (inr closed) broken =
    let bad : Closed ≡ Broken b = sym closed ∙ broken in
    cc

told : {T : Type 0} (end : End) (r : Result T BrokenMessage) (flag : Bool) → Tells end r → flag ≡ is_err r
    → (IsTrue flag → (b : BrokenMessage) × (end ≡ Broken b)) × (((b : BrokenMessage) × (end ≡ Broken b)) → IsTrue flag)
told end (Ok x) flag tells same = (
  (λ is_true.
      let bad : false ≡ true = sym same ∙ is_true in
      cc),
  (λ broken. absurd (not_broken end broken.0 tells broken.1)),
)
told end (Err b) flag tells same = ((λ _. (b, tells)), (λ _. same))

pub returns : goal.returns
returns c =
    told (end_of c.args.self.now.progress) c.ending.result c.is_err.result
    (subst (λ (s : State). Tells (end_of s.progress) c.ending.result) c.self.view_is c.ending.ensures.end) c.is_err.ensures.value
