-- The bodies that are open at a place are those that the pass has open there, with or without those that end at the place.
use Rattle.std.proofs.Common.{◌≡◌, ◌⊎◌, inl, inr, ℕ, ◌+◌, ◌<◌, true, List, [], ◌∷◌, Some, Ok, refl, sym, ap, subst, ◌∙◌, arith}
use Rattle.std.specs.Prelude.{slice_get}
use Rattle.std.proofs.lemmas.Option.{same_Some}
use Rattle.instructions.specs.Op.{Op, Over}
use Rattle.instructions.specs.Judging.{OpenBody, left, has_one, goes_on, opens, whole}
use Rattle.instructions.proofs.Nested.{left_by}
use Rattle.instructions.proofs.Stepping.{ends_of}
use Rattle.cellaws.specs.FirstFault.{opened, Bodies}
use Rattle.cellaws.specs.FirstFault as bodies

abbrev pub all_ends : OpenBody → List OpenBody → List ℕ
all_ends b os = b.end ∷ ends_of os

-- these ends are those of the open bodies, or of what is left of them when bodies that end here are left
abbrev pub Held : ℕ → List ℕ → OpenBody → List OpenBody → Type 0
Held at ends b [] = (all_ends b [] ≡ ends) ⊎ (ends ≡ [])
Held at ends b (o ∷ os) = (all_ends b (o ∷ os) ≡ ends) ⊎ ((b.end ≡ at) × Held at ends o os)

-- at the place there are no other bodies
abbrev pub Only : List Op → ℕ → OpenBody → List OpenBody → Type 0
Only code at b os = (ends : List ℕ) → Bodies code at ends → Held at ends b os

held_all : (at : ℕ) (ends : List ℕ) (b : OpenBody) (os : List OpenBody) → all_ends b os ≡ ends → Held at ends b os
held_all at ends b [] e = inl e
held_all at ends b (o ∷ os) e = inl e

pub first_end : (e d : ℕ) (es ds : List ℕ) → e ∷ es ≡ d ∷ ds → (e ≡ d) × (es ≡ ds)
first_end e d es ds k = (cc, cc)

held_left : (at : ℕ) (ends : List ℕ) (b : OpenBody) (os : List OpenBody) → Held at (at ∷ ends) b os → Held at ends b os
held_left at ends b [] (inl e) = inr (sym (first_end b.end at [] ends e).1)
held_left at ends b [] (inr e) = absurd cc
held_left at ends b (o ∷ os) (inl e) = let f = first_end b.end at (ends_of (o ∷ os)) ends e in inr (f.0, held_all at ends o os f.1)
held_left at ends b (o ∷ os) (inr h) = inr (h.0, held_left at ends o os h.1)

-- the bodies around an instruction are those that are open when the others have been left
held_move : (at end : ℕ) (outer : List ℕ) → at < end → (b o : OpenBody) (os : List OpenBody) → b.end ≡ at → has_one at b ≡ true
    → Held at (end ∷ outer) b (o ∷ os) → Held at (end ∷ outer) o os
held_move at end outer lt b o os same one (inl e) = let f = (first_end b.end end (ends_of (o ∷ os)) outer e).0 in absurd (omega (arith, f, same, lt))
held_move at end outer lt b o os same one (inr h) = h.1

pub held_here : (at end : ℕ) (outer : List ℕ) (b : OpenBody) (os : List OpenBody) → at < b.end → Held at (end ∷ outer) b os → all_ends b os ≡ end ∷ outer
held_here at end outer b [] lt (inl e) = e
held_here at end outer b [] lt (inr e) = absurd cc
held_here at end outer b (o ∷ os) lt (inl e) = e
held_here at end outer b (o ∷ os) lt (inr h) = let k : b.end ≡ at = h.0 in absurd (omega arith)

pub around : (code : List Op) (at end : ℕ) (outer : List ℕ) (b : OpenBody) (os : List OpenBody) (x : OpenBody × List OpenBody) → Only code at b os
    → left at b os ≡ Ok x → at < x.0.end → at < end → Bodies code at (end ∷ outer) → all_ends x.0 x.1 ≡ end ∷ outer
around code at end outer b os x only went lt inside stands =
    held_here at end outer x.0 x.1 lt (left_by at (λ b os. Held at (end ∷ outer) b os) (held_move at end outer inside) b os x went (only (end ∷ outer) stands))

ends_opened : (op : Op) (at h : ℕ) (b : OpenBody) (os : List OpenBody)
    → all_ends (opens op at (goes_on op at h b) os).0 (opens op at (goes_on op at h b) os).1 ≡ opened op (all_ends b os)
ends_opened (Over m end) at h b os = refl
ends_opened op at h b os = refl

-- ---- the start

only_start_at : (code : List Op) (n : ℕ) (ends : List ℕ) → n ≡ 0 → Bodies code n ends → Held 0 ends (whole code) []
only_start_at code n ends same bodies.whole = inl refl
only_start_at code n ends same (bodies.after place end outer op stands inside here) = absurd (omega arith)
only_start_at code n ends same (bodies.left place outer stands) =
    held_left 0 outer (whole code) [] (subst (λ (p : ℕ). Held 0 (p ∷ outer) (whole code) []) same (only_start_at code place (place ∷ outer) same stands))

pub only_start : (code : List Op) → Only code 0 (whole code) []
only_start code ends b = only_start_at code 0 ends refl b

-- ---- one instruction

only_on_at : (code : List Op) (at h n : ℕ) (op : Op) (x : OpenBody × List OpenBody) → slice_get code at ≡ Some op
    → ((end : ℕ) (outer : List ℕ) → at < end → Bodies code at (end ∷ outer) → all_ends x.0 x.1 ≡ end ∷ outer)
    → (ends : List ℕ) → n ≡ at + 1 → Bodies code n ends
    → Held (at + 1) ends (opens op at (goes_on op at h x.0) x.1).0 (opens op at (goes_on op at h x.0) x.1).1
only_on_at code at h n op x here f ends same bodies.whole = absurd (omega arith)
only_on_at code at h n op x here f ends same (bodies.after place end outer op2 stands inside there) =
    let p : place ≡ at = omega arith in
    let moved : Bodies code at (end ∷ outer) = subst (λ (k : ℕ). Bodies code k (end ∷ outer)) p stands in
    let o : op ≡ op2 = same_Some op op2 (sym here ∙ (sym (ap (slice_get code) p) ∙ there)) in
    held_all (at + 1) (opened op2 (end ∷ outer)) (opens op at (goes_on op at h x.0) x.1).0 (opens op at (goes_on op at h x.0) x.1).1
    (ends_opened op at h x.0 x.1 ∙ ap (opened op) (f end outer (omega arith) moved) ∙ ap (λ (z : Op). opened z (end ∷ outer)) o)
only_on_at code at h n op x here f ends same (bodies.left place outer stands) =
    let y = opens op at (goes_on op at h x.0) x.1 in
    held_left (at + 1) outer y.0 y.1
    (subst (λ (p : ℕ). Held (at + 1) (p ∷ outer) y.0 y.1) same (only_on_at code at h place op x here f (place ∷ outer) same stands))

pub only_on : (code : List Op) (at h : ℕ) (op : Op) (b : OpenBody) (os : List OpenBody) (x : OpenBody × List OpenBody) → slice_get code at ≡ Some op
    → Only code at b os → left at b os ≡ Ok x → at < x.0.end
    → Only code (at + 1) (opens op at (goes_on op at h x.0) x.1).0 (opens op at (goes_on op at h x.0) x.1).1
only_on code at h op b os x here only went lt ends stands =
    only_on_at code at h (at + 1) op x here (λ end outer inside m. around code at end outer b os x only went lt inside m) ends refl stands

-- ---- the open bodies are bodies of the place

pub left_ends : (code : List Op) (at : ℕ) (b o : OpenBody) (os : List OpenBody) → b.end ≡ at → has_one at b ≡ true → Bodies code at (all_ends b (o ∷ os))
    → Bodies code at (all_ends o os)
left_ends code at b o os same one m = bodies.left at (all_ends o os) (subst (λ (k : ℕ). Bodies code at (k ∷ all_ends o os)) same m)

pub left_bodies : (code : List Op) (at : ℕ) (b : OpenBody) (os : List OpenBody) (x : OpenBody × List OpenBody) → left at b os ≡ Ok x → Bodies code at (all_ends b os)
    → Bodies code at (all_ends x.0 x.1)
left_bodies code at b os x went m = left_by at (λ b os. Bodies code at (all_ends b os)) (left_ends code at) b os x went m

pub bodies_on : (code : List Op) (at h : ℕ) (op : Op) (b : OpenBody) (os : List OpenBody) → slice_get code at ≡ Some op → at < b.end → Bodies code at (all_ends b os)
    → Bodies code (at + 1) (all_ends (opens op at (goes_on op at h b) os).0 (opens op at (goes_on op at h b) os).1)
bodies_on code at h op b os here lt m =
    subst (λ (es : List ℕ). Bodies code (at + 1) es) (sym (ends_opened op at h b os)) (bodies.after at b.end (ends_of os) op m lt here)
