-- Outcomes taken from a stack, one by one.
use Rattle.std.proofs.Common.{◌≡◌, ℕ, suc, ◌+◌, ◌-◌, ◌<◌, List, [], ◌∷◌, ◌++◌, take, drop, reverse, refl, sym, ap, ◌∙◌, arith, append_assoc}
use Rattle.std.proofs.lemmas.List.{map-append}
use mathlib.Core.List.{reverse-cons}
use Rattle.celmean.specs.declared.value.Outcome.{Outcome}
use Rattle.celmean.specs.Value as seen
use Rattle.celmean.specs.Seen.{outcome_of, outcomes_seen}

-- the topmost of a stack after those taken
pub taken_on : (os : List Outcome) (o : Outcome) (s t whole : List seen.Outcome) (h : seen.Outcome) (n i : ℕ) → i < n → s ≡ h ∷ t → outcome_of o ≡ h
    → outcomes_seen os ++ take (n - i) s ≡ whole → outcomes_seen (os ++ o ∷ []) ++ take (n - (i + 1)) t ≡ whole
taken_on os o s t whole h n i less is same was =
    let more : n - i ≡ suc (n - (i + 1)) = omega arith in
    let then_on = rw (is, more) at was in
    ap (λ x. x ++ take (n - (i + 1)) t) (map-append outcome_of os (o ∷ []))
    ∙ (append_assoc (outcomes_seen os) (outcome_of o ∷ []) (take (n - (i + 1)) t)
    ∙ (ap (λ x. outcomes_seen os ++ x ∷ take (n - (i + 1)) t) same ∙ then_on))

-- and what is left of it
pub left_on : (s t whole : List seen.Outcome) (h : seen.Outcome) (n i : ℕ) → i < n → s ≡ h ∷ t → drop (n - i) s ≡ whole → drop (n - (i + 1)) t ≡ whole
left_on s t whole h n i less is was =
    let more : n - i ≡ suc (n - (i + 1)) = omega arith in
    rw (is, more) at was

pub outcomes-reverse : (os : List Outcome) → outcomes_seen (reverse os) ≡ reverse (outcomes_seen os)
outcomes-reverse [] = refl
outcomes-reverse (o ∷ os) =
    ap outcomes_seen (reverse-cons o os) ∙ (map-append outcome_of (reverse os) (o ∷ [])
    ∙ (ap (λ x. x ++ outcome_of o ∷ []) (outcomes-reverse os) ∙ sym (reverse-cons (outcome_of o) (outcomes_seen os))))
