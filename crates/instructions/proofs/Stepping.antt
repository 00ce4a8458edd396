-- One instruction: what is awaited before it and after it.
use Rattle.std.proofs.Common.{◌≡◌, inl, inr, ℕ, ◌+◌, ◌<◌, ◌≤◌, true, false, not, eq-eqb, List, [], ◌∷◌, ◌++◌, map, drop, Some, Ok, refl, sym, ap, subst, ◌∙◌, arith}
use Rattle.std.specs.Prelude.{slice_get}
use Rattle.std.specs.List.{filter}
use Rattle.std.proofs.lemmas.Option.{slice_get_within}
use Rattle.celtree.specs.declared.tree.Macro.{Macro}
use Rattle.instructions.specs.Op.{Op, Over}
use Rattle.instructions.specs.Judging.{Arrival, OpenBody, height_at, comes_to, arrivals, targets, left, goes_on, opens}
use Rattle.instructions.specs.WellFormed.{Among, Control, within, begins_body, Comes, goes}
use Rattle.instructions.proofs.Arrivals.{among_left, among_right, among_either, mapped, among_filter, not_true, agree}
use Rattle.instructions.proofs.Nested.{Fine, Nested, nested_fine, nested_later, left_by, left_stays, left_nested, before_end, Steps, Fair, fair_says, leads}

abbrev pub ends_of : List OpenBody → List ℕ
ends_of bodies = map (λ (b : OpenBody). b.end) bodies

abbrev pub arrival_of : Control → Arrival
arrival_of c = record { place = c.place; height = c.height }

-- an arrival that is awaited after an instruction was awaited before, or the instruction leads there
came : {P : Type 0} (at : ℕ) (a : Arrival) (awaited more : List Arrival) → Among a (filter (λ x. not (comes_to at x)) awaited ++ more) → (Among a awaited → (a.place ≡ at → ⊥) → P) → (Among a more → P) → P
came at a awaited more m before now =
    among_either a (filter (λ x. not (comes_to at x)) awaited) more m
    (λ n. let f = among_filter (λ x. not (comes_to at x)) a awaited n in
    before f.0 (λ e. let t : comes_to at a ≡ true = eq-eqb _ _ e in let g : comes_to at a ≡ false = not_true _ f.1 in absurd cc))
    now

-- ---- bodies lie in each other

fine_on : (code : List Op) (at h low : ℕ) (op : Op) (b : OpenBody) → Fine code at at b → at < b.end → low ≤ b.end → ((target : ℕ) → Among target (targets op) → Fair code at b.end target)
    → ((a : Arrival) → Among a b.awaited → at + 1 ≤ a.place → low ≤ a.place) → ((a : Arrival) → Among a (arrivals op at h) → low ≤ a.place) → Fine code (at + 1) low (goes_on op at h b)
fine_on code at h low op b f lt low_end fair before now = record {
  ahead = λ a m. came at a b.awaited (arrivals op at h) m (λ n other. let le : at ≤ a.place = f.ahead a n in before a n (omega arith)) (now a);
  inside = λ a m. came at a b.awaited (arrivals op at h) m (λ n other. f.inside a n) (λ n. elim (leads op at h a n) [ inl e ↦ omega arith | inr t ↦ (fair a.place t).inside ]);
  clear = λ a m j e k from under is. came at a b.awaited (arrivals op at h) m (λ n other. f.clear a n j e k (omega arith) under is) (λ n. elim (leads op at h a n) [ inl e ↦ absurd (omega arith) | inr t ↦ (fair a.place t).clear j e k from under is ]);
  low_end = low_end;
}

lead_ahead : (code : List Op) (at h : ℕ) (op : Op) (end : ℕ) → ((target : ℕ) → Among target (targets op) → Fair code at end target) → (a : Arrival) → Among a (arrivals op at h) → at + 1 ≤ a.place
lead_ahead code at h op end fair a m = elim (leads op at h a m) [ inl e ↦ omega arith | inr t ↦ (let lt : at < a.place = (fair a.place t).ahead in omega arith) ]

nested_on : (code : List Op) (at low : ℕ) (b c : OpenBody) (os : List OpenBody) → c.end ≡ b.end → Fine code (at + 1) low c → Nested code at at b os → Nested code (at + 1) low c os
nested_on code at low b c [] same f n = (f, same ∙ n.1)
nested_on code at low b c (o ∷ os) same f n = (f, subst (λ (k : ℕ). Nested code (at + 1) k o os) (sym same) (nested_later code at b.end o os n.1))

nested_plain : (code : List Op) (at h : ℕ) (op : Op) (b : OpenBody) (os : List OpenBody) → Nested code at at b os → at < b.end → ((target : ℕ) → Among target (targets op) → Fair code at b.end target) → Nested code (at + 1) (at + 1) (goes_on op at h b) os
nested_plain code at h op b os n lt fair =
    nested_on code at (at + 1) b (goes_on op at h b) os refl (fine_on code at h (at + 1) op b (nested_fine code at at b os n) lt (omega arith) fair (λ a m le. le) (lead_ahead code at h op b.end fair)) n

over_inner : (code : List Op) (at end : ℕ) → at < end → Fine code (at + 1) (at + 1) (record { end = end; awaited = record { place = at + 1; height = 0 } ∷ [] })
over_inner code at end lt = record {
  ahead = λ a m. elim m [ inl e ↦ (let p : at + 1 ≡ a.place = ap (λ (x : Arrival). x.place) e in omega arith) | inr n ↦ absurd n ];
  inside = λ a m. elim m [ inl e ↦ (let p : at + 1 ≡ a.place = ap (λ (x : Arrival). x.place) e in omega arith) | inr n ↦ absurd n ];
  clear = λ a m j e k from under is. elim m [ inl q ↦ (let p : at + 1 ≡ a.place = ap (λ (x : Arrival). x.place) q in absurd (omega arith)) | inr n ↦ absurd n ];
  low_end = omega arith;
}

over_reach : (m : Macro) (end at h : ℕ) (a : Arrival) → Among a (arrivals (Over m end) at h) → end ≤ a.place
over_reach m end at h a (inl e) = let p : end ≡ a.place = ap (λ (x : Arrival). x.place) e in omega arith
over_reach m end at h a (inr n) = absurd n

nested_opens : (code : List Op) (at h : ℕ) (op : Op) (b : OpenBody) (os : List OpenBody) → slice_get code at ≡ Some op → Nested code at at b os → at < b.end → ((target : ℕ) → Among target (targets op) → Fair code at b.end target)
    → Nested code (at + 1) (at + 1) (opens op at (goes_on op at h b) os).0 (opens op at (goes_on op at h b) os).1
nested_opens code at h (Over m end) b os here n lt fair =
    let f = nested_fine code at at b os n in
    let own = fair end (inl refl) in (
      over_inner code at end own.ahead,
      nested_on code at end b (goes_on (Over m end) at h b) os refl
          (fine_on code at h end (Over m end) b f lt own.inside fair (λ a q le. f.clear a q at end m (omega arith) (omega arith) here) (over_reach m end at h)) n,
    )
nested_opens code at h op b os here n lt fair = nested_plain code at h op b os n lt fair

pub nested_step : (vars at : ℕ) (op : Op) (code : List Op) (b : OpenBody) (os : List OpenBody) (y : OpenBody × List OpenBody) → slice_get code at ≡ Some op → Nested code at at b os → Steps vars at op (drop (at + 1) code) b os y → Nested code (at + 1) (at + 1) y.0 y.1
nested_step vars at op code b os y here n s =
    let kept = left_nested code at b os s.stays s.went n in
    let lt : at < s.stays.0.end = before_end code at s.stays.0 s.stays.1 (slice_get_within code at op here) (left_stays at b os s.stays s.went) kept in
    subst (λ (z : OpenBody × List OpenBody). Nested code (at + 1) (at + 1) z.0 z.1) s.result
    (nested_opens code at s.height op s.stays.0 s.stays.1 here kept lt (λ target m. fair_says code at s.stays.0.end target (targets op) s.fair m))

-- ---- what is awaited comes

abbrev pub RealIn : List Op → OpenBody → List OpenBody → Type 0
RealIn code b os = (a : Arrival) → Among a b.awaited → Comes code (within b.end (ends_of os) a)

abbrev pub Real : List Op → OpenBody → List OpenBody → Type 0
Real code b [] = RealIn code b []
Real code b (o ∷ os) = RealIn code b (o ∷ os) × Real code o os

pub real_here : (code : List Op) (b : OpenBody) (os : List OpenBody) → Real code b os → RealIn code b os
real_here code b [] r = r
real_here code b (o ∷ os) r = r.0

real_with : (code : List Op) (b c : OpenBody) (os : List OpenBody) → RealIn code c os → Real code b os → Real code c os
real_with code b c [] now r = now
real_with code b c (o ∷ os) now r = (now, r.1)

pub left_real : (code : List Op) (at : ℕ) (b : OpenBody) (os : List OpenBody) (x : OpenBody × List OpenBody) → left at b os ≡ Ok x → Real code b os → Real code x.0 x.1
left_real code at b os x e r = left_by at (λ b os. Real code b os) (λ b o os same one r. r.1) b os x e r

-- control stands at the instruction
pub stands : (code : List Op) (at h : ℕ) (b : OpenBody) (os : List OpenBody) → Real code b os → height_at at b.awaited ≡ Some h → Comes code (record { place = at; end = b.end; outer = ends_of os; height = h })
stands code at h b os r e =
    let g = agree at h b.awaited e in
    let k : within b.end (ends_of os) g.first ≡ record { place = at; end = b.end; outer = ends_of os; height = h } =
    ap (λ (p : ℕ). record { place = p; end = b.end; outer = ends_of os; height = g.first.height }) g.place ∙ ap (λ (n : ℕ). record { place = at; end = b.end; outer = ends_of os; height = n }) g.height in
    subst (λ (c : Control). Comes code c) k (real_here code b os r g.first g.among)

goes_real : (code : List Op) (at h : ℕ) (op : Op) (b : OpenBody) (os : List OpenBody) → slice_get code at ≡ Some op → at < b.end → Real code b os → height_at at b.awaited ≡ Some h → RealIn code (goes_on op at h b) os
goes_real code at h op b os here lt r e = λ a m.
    came at a b.awaited (arrivals op at h) m (λ n other. real_here code b os r a n)
    (λ n. let c : Control = record { place = at; end = b.end; outer = ends_of os; height = h } in
    goes c (within b.end (ends_of os) a) op (stands code at h b os r e) lt here
    (among_left (within b.end (ends_of os) a) (map (within b.end (ends_of os)) (arrivals op at h)) (begins_body op c) (mapped (within b.end (ends_of os)) a (arrivals op at h) n)))

pub inner_real : (code : List Op) (at h end : ℕ) (m : Macro) (b : OpenBody) (os : List OpenBody) → slice_get code at ≡ Some (Over m end) → at < b.end → Real code b os → height_at at b.awaited ≡ Some h
    → (a : Arrival) → Among a (record { place = at + 1; height = 0 } ∷ []) → Comes code (within end (b.end ∷ ends_of os) a)
inner_real code at h end m b os here lt r e a (inl q) =
    let c : Control = record { place = at; end = b.end; outer = ends_of os; height = h } in
    let d : Control = record { place = at + 1; end = end; outer = b.end ∷ ends_of os; height = 0 } in
    subst (λ (z : Arrival). Comes code (within end (b.end ∷ ends_of os) z)) q
    (goes c d (Over m end) (stands code at h b os r e) lt here (among_right d (map (within b.end (ends_of os)) (arrivals (Over m end) at h)) (begins_body (Over m end) c) (inl refl)))
inner_real code at h end m b os here lt r e a (inr n) = absurd n

real_opens : (code : List Op) (at h : ℕ) (op : Op) (b : OpenBody) (os : List OpenBody) → slice_get code at ≡ Some op → at < b.end → Real code b os → height_at at b.awaited ≡ Some h
    → Real code (opens op at (goes_on op at h b) os).0 (opens op at (goes_on op at h b) os).1
real_opens code at h (Over m end) b os here lt r e = (inner_real code at h end m b os here lt r e, real_with code b (goes_on (Over m end) at h b) os (goes_real code at h (Over m end) b os here lt r e) r)
real_opens code at h op b os here lt r e = real_with code b (goes_on op at h b) os (goes_real code at h op b os here lt r e) r

pub real_step : (vars at : ℕ) (op : Op) (code : List Op) (b : OpenBody) (os : List OpenBody) (y : OpenBody × List OpenBody) → slice_get code at ≡ Some op → Nested code at at b os → Real code b os → Steps vars at op (drop (at + 1) code) b os y → Real code y.0 y.1
real_step vars at op code b os y here n r s =
    let kept = left_nested code at b os s.stays s.went n in
    let lt : at < s.stays.0.end = before_end code at s.stays.0 s.stays.1 (slice_get_within code at op here) (left_stays at b os s.stays s.went) kept in
    subst (λ (z : OpenBody × List OpenBody). Real code z.0 z.1) s.result (real_opens code at s.height op s.stays.0 s.stays.1 here lt (left_real code at b os s.stays s.went r) s.agreed)
