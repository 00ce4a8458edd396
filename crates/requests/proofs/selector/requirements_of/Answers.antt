use Rattle.std.proofs.Common.{map, drop, ap, sym, ◌∙◌, get_or, List, [], ◌∷◌, ℕ, ◌+◌, Bor, option_map, refl}
use Rattle.std.proofs.lemmas.List.{map-append}
use Rattle.documents.specs.Requirement.{Requirement, requirement_seen}
use Rattle.requests.specs.Selector.{requirement_of, requirements_of}
use Rattle.requests.proofs.Lists.{drop-next}
use Rattle.requests.proofs.Selecting.{followed_by, followed_by-nil, followed_by-more, followed_by-none}
use Rattle.requests.proofs.selector.requirements_of.Goals as goal

pub loop-part-init : goal.loop-part-init
loop-part-init c =
    let all = requirements_of (map (λ part. part.now) c.args.parts.now) in
    ap (λ rs. followed_by (map requirement_seen rs) all) c.new-requirements.ensures.items ∙ followed_by-nil all

pub returns-in-None : goal.returns-in-None
returns-in-None c =
    let i = c.loop-part.part-index in
    let parts : List (Bor (List ℕ)) = c.args.parts.now in
    let part : Bor (List ℕ) = get_or parts i (record { ref_ptr = (0, 0); now = [] }) in
    let front = map requirement_seen c.loop-part.requirements.items in
    let rest = requirements_of (map (λ (p : Bor (List ℕ)). p.now) (drop (i + 1) parts)) in
    let none = sym c.in_ok-requirement.ensures ∙ ap (λ o. option_map requirement_seen o) c.in-None.is in
    sym (followed_by-none front (requirement_of part.now) rest none)
    ∙ ap (λ (ps : List (Bor (List ℕ))). followed_by front (requirements_of (map (λ (p : Bor (List ℕ)). p.now) ps))) (sym (drop-next parts i part _ c.loop-part-test.true refl))
    ∙ c.loop-part.invariant

pub loop-part-preserved : goal.loop-part-preserved
loop-part-preserved c =
    let i = c.loop-part.part-index in
    let parts : List (Bor (List ℕ)) = c.args.parts.now in
    let part : Bor (List ℕ) = get_or parts i (record { ref_ptr = (0, 0); now = [] }) in
    let before = c.loop-part.requirements.items in
    let front = map requirement_seen before in
    let more : Requirement = requirement_seen c.in-Some.requirement in
    let rest = requirements_of (map (λ (p : Bor (List ℕ)). p.now) (drop (i + 1) parts)) in
    let some = sym c.in_ok-requirement.ensures ∙ ap (λ o. option_map requirement_seen o) c.in-Some.is in
    ap (λ rs. followed_by (map requirement_seen rs) rest) c.in_ok-push-in-Some.ensures.items
    ∙ ap (λ rs. followed_by rs rest) (map-append requirement_seen before (c.in-Some.requirement ∷ []))
    ∙ sym (followed_by-more front more (requirement_of part.now) rest some)
    ∙ ap (λ (ps : List (Bor (List ℕ))). followed_by front (requirements_of (map (λ (p : Bor (List ℕ)). p.now) ps))) (sym (drop-next parts i part _ c.loop-part-test.true refl))
    ∙ c.loop-part.invariant
