-- What a denial by a binding comes to, among the verdicts of all bindings.
use Rattle.std.proofs.Common.{◌≡◌, List, [], ◌∷◌, ◌++◌, refl, sym, ap, ◌∙◌, rules}
use Rattle.std.proofs.lemmas.Grind.{common_steps}
use Rattle.policy.specs.Forms.{Text}
use Rattle.verdict.specs.Texts.{warning}
use Rattle.policy.specs.declared.binding.Action.{Action}
use Rattle.policy.specs.declared.binding.Action.TheVariants.{Deny, Warn}
use Rattle.verdict.specs.Told.{Denial}
use Rattle.verdict.specs.Verdict.{Verdict, admitted, denied, decided, warned, decision}
use Rattle.verdict.specs.Deciding.{and_warn, on_decision, after_warnings}

one_more : (ws : List Text) (t : Text) (rest : Verdict) → after_warnings ws (and_warn t rest) ≡ after_warnings (ws ++ t ∷ []) rest
one_more ws t (admitted ts) = let p : ws ++ (t ∷ ts) ≡ (ws ++ t ∷ []) ++ ts = search (rules, common_steps) in ap admitted p
one_more ws t (denied policy binding reason message) = refl

-- a denial that is the verdict, whatever warnings stand before it
pub verdict_is : (ws : List Text) (a : Action) (policy name : Text) (d : Denial) (v rest : Verdict) → decided v ≡ decision a policy name d
    → after_warnings ws (on_decision policy name (decision a policy name d) rest) ≡ v
verdict_is ws Deny policy name d v rest is =
    let e : v ≡ denied policy name d.reason d.message = cc in sym e
verdict_is ws Warn policy name d v rest is = cc

-- a denial that is a warning more
pub warning_is : (ws : List Text) (a : Action) (policy name : Text) (d given : Denial) (rest : Verdict) → warned given ≡ decision a policy name d
    → after_warnings ws (on_decision policy name (decision a policy name d) rest) ≡ after_warnings (ws ++ warning policy name given.message ∷ []) rest
warning_is ws Deny policy name d given rest is = cc
warning_is ws Warn policy name d given rest is =
    let e : d ≡ given = cc in
    ap (λ (x : Denial). after_warnings ws (and_warn (warning policy name x.message) rest)) e ∙ one_more ws (warning policy name given.message) rest
