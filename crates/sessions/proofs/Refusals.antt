-- Sessions that are refused, one after another.
use Rattle.std.proofs.Common.{◌≡◌, ◌∙◌, sym, ap, refl, subst, ◌<◌, ◌≤◌, ◌+◌, ℕ, Bool, true, false, List, length, drop, get_or, set, ◌==◌, ◌||◌}
use Rattle.std.proofs.lemmas.List.{drop_more, drop_all, get_or-set_same, get_or-set_other}
use Rattle.std.proofs.lemmas.Bool.{eqb-true, eqb-false}
use Rattle.requests.specs.declared.refusal.Refusal.TheVariants.{StorageFailed}
use Rattle.routes.specs.ReplyBytes.{closing_bytes}
use Rattle.sessions.specs.State.{State, is_open, Closes}
use Rattle.sessions.specs.Refusing.{Refuses, is_among, RefusedIf}

-- refused, and then again
refuses_then : (a b c : State) → Refuses a b → Refuses b c → Refuses a c
refuses_then a b c first second = record {
  refused = λ is.
      let once = first.refused is in
      subst (λ (s : State). Closes a s (closing_bytes false StorageFailed)) (sym (second.over once.over)) once;
  progress = second.progress ∙ first.progress;
  over = λ is.
      let same : b ≡ a = first.over is in
      second.over (ap (λ (s : State). is_open s.phase) same ∙ is) ∙ same;
}

-- one is refused, and then perhaps again
refused_first : (among : Bool) (s t later : State) → Refuses s t → RefusedIf among t later → Refuses s later
refused_first true s t later first after = refuses_then s t later first after
refused_first false s t later first after = let To : State → Type 0 = λ x. Refuses s x in subst To (sym after) first

pub refused_more : (all : List State) (ps : List ℕ) (k p i : ℕ) (d s t later : State) → k < length ps → p ≡ get_or ps k 0 → p < length all → ((e : State) → get_or all p e ≡ s)
    → Refuses s t → RefusedIf (is_among i (drop (k + 1) ps)) (get_or (set all p t) i d) later → RefusedIf (is_among i (drop k ps)) (get_or all i d) later
refused_more all ps k p i d s t later below p_is known is first after =
    let rest : List ℕ = drop (k + 1) ps in
    let At : List ℕ → Type 0 = λ xs. RefusedIf (is_among i xs) (get_or all i d) later in
    let Here : ℕ → Type 0 = λ q. RefusedIf ((q == i) || is_among i rest) (get_or all i d) later in
    subst At (sym (drop_more ps k 0 below)) (subst Here p_is (on (p == i) refl))
  where
    on : (b : Bool) → (p == i) ≡ b → RefusedIf (b || is_among i (drop (k + 1) ps)) (get_or all i d) later
    on true same =
        let at : p ≡ i = eqb-true p i same in
        let before : get_or all i d ≡ s = ap (λ n. get_or all n d) (sym at) ∙ is d in
        let now : get_or (set all p t) i d ≡ t = ap (λ n. get_or (set all p t) n d) (sym at) ∙ get_or-set_same all p t d known in
        let From : State → Type 0 = λ x. Refuses x later in
        let After : State → Type 0 = λ x. RefusedIf (is_among i (drop (k + 1) ps)) x later in
        subst From (sym before) (refused_first (is_among i (drop (k + 1) ps)) s t later first (subst After now after))
    on false other =
        let stays : get_or (set all p t) i d ≡ get_or all i d = get_or-set_other all p i t d (λ same. eqb-false p i other (sym same)) in
        let After : State → Type 0 = λ x. RefusedIf (is_among i (drop (k + 1) ps)) x later in
        subst After stays after

pub refused_end : (i k : ℕ) (ps : List ℕ) (s : State) → length ps ≤ k → RefusedIf (is_among i (drop k ps)) s s
refused_end i k ps s past = let At : List ℕ → Type 0 = λ xs. RefusedIf (is_among i xs) s s in subst At (sym (drop_all k ps past)) refl
