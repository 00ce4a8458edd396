-- One binding's turn.
use Rattle.std.proofs.Common.{◌≡◌, ℕ, suc, ◌+◌, ◌<◌, ◌≤◌, List, [], ◌∷◌, ◌++◌, length, get_or, map, drop, drop-cons, add-one, refl, sym, ap, ◌∙◌}
use Rattle.std.proofs.lemmas.List.{append-nil, drop_all}
use Rattle.policy.specs.Forms.{Text}
use Rattle.policy.specs.Spec as spec
use Rattle.verdict.specs.Verdict.{Verdict, admitted, denied}
use Rattle.verdict.specs.Deciding.{decide, verdict_of, after_warnings}
use Rattle.verdict.specs.Objects.{Objects}
use Rattle.policy.specs.Rules.{Attempt}
use Rattle.verdict.specs.Admission.{denial_by, finding}

-- the verdict of the bindings that are left is that of the next one, before those after it
left : (objects : Objects) (w : Attempt) (n : ℕ) (bs : List (Text × spec.Binding)) (b : Text × spec.Binding) → n < length bs → b ≡ get_or bs n b
    → verdict_of (map (finding objects w) (drop n bs)) ≡ decide b.0 b.1 (denial_by objects w b.1) (verdict_of (map (finding objects w) (drop (n + 1) bs)))
left objects w n bs b inside is =
    let next : drop n bs ≡ b ∷ drop (n + 1) bs = rw add-one (drop-cons bs n b inside ∙ ap (λ (x : Text × spec.Binding). x ∷ drop (suc n) bs) (sym is)) in
    ap (λ (rest : List (Text × spec.Binding)). verdict_of (map (finding objects w) rest)) next

-- the verdict of all, once the next binding had its turn
pub turn : (objects : Objects) (w : Attempt) (n : ℕ) (bs : List (Text × spec.Binding)) (b : Text × spec.Binding) (ws : List Text) (all after : Verdict) → n < length bs
    → b ≡ get_or bs n b → all ≡ after_warnings ws (verdict_of (map (finding objects w) (drop n bs)))
    → after_warnings ws (decide b.0 b.1 (denial_by objects w b.1) (verdict_of (map (finding objects w) (drop (n + 1) bs)))) ≡ after → all ≡ after
turn objects w n bs b ws all after inside is before turned = before ∙ ap (after_warnings ws) (left objects w n bs b inside is) ∙ turned

-- before any warning
pub begun : (ws : List Text) (all : Verdict) → ws ≡ [] → all ≡ after_warnings ws all
begun ws (admitted ts) none = ap (λ (before : List Text). admitted (before ++ ts)) (sym none)
begun ws (denied policy binding reason message) none = refl

-- the verdict of all, once each binding had its turn
pub ended : (objects : Objects) (w : Attempt) (n : ℕ) (bs : List (Text × spec.Binding)) (ws : List Text) (all : Verdict) → length bs ≤ n
    → all ≡ after_warnings ws (verdict_of (map (finding objects w) (drop n bs))) → admitted ws ≡ all
ended objects w n bs ws all over before =
    sym (before ∙ ap (λ (rest : List (Text × spec.Binding)). after_warnings ws (verdict_of (map (finding objects w) rest))) (drop_all n bs over) ∙ ap admitted (append-nil ws))
