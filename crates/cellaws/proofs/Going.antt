-- One instruction: what is awaited after it is where control comes by it and the instructions before.
use Rattle.std.proofs.Common.{◌≡◌, ◌⊎◌, inl, inr, ℕ, ◌+◌, ◌<◌, ◌≤◌, not, List, [], ◌∷◌, length, map, drop, Some, Ok, refl, sym, ap, subst, ◌∙◌, arith}
use Rattle.std.specs.Prelude.{slice_get}
use Rattle.std.specs.List.{filter}
use Rattle.std.proofs.lemmas.Bool.{cases_lt}
use Rattle.std.proofs.lemmas.Option.{same_Some}
use Rattle.celtree.specs.declared.tree.Macro.{Macro}
use Rattle.instructions.specs.Op.{Op, Over}
use Rattle.instructions.specs.Judging.{Arrival, OpenBody, comes_to, arrivals, left, goes_on, opens, whole}
use Rattle.instructions.specs.WellFormed.{Among, Control, within, begins_body, next}
use Rattle.instructions.proofs.Arrivals.{among_left, among_right, among_either, mapped, among_filter}
use Rattle.instructions.proofs.Nested.{Nested, left_by, Steps}
use Rattle.instructions.proofs.Stepping.{ends_of, arrival_of, nested_step}
use Rattle.instructions.proofs.Awaiting.{Is, Own, Awaits, own_awaits, awaits_low, stays_awaited, leads_on}
use Rattle.cellaws.specs.FirstFault.{ComesBefore}
use Rattle.cellaws.specs.FirstFault as coming

abbrev pub Sound : List Op → ℕ → OpenBody → List OpenBody → Type 0
Sound code at b os = (c : Control) → Awaits c b os → ComesBefore code at c

abbrev pub Complete : List Op → ℕ → OpenBody → List OpenBody → Type 0
Complete code at b os = (c : Control) → ComesBefore code at c → at ≤ c.place → Awaits c b os

-- ---- the start

pub sound_start : (code : List Op) → Sound code 0 (whole code) []
sound_start code c own =
    elim own.among [
      | inl e ↦ (let k : record { place = 0; end = length code; outer = []; height = 0 } ≡ c =
          ap (λ (a : Arrival). within (length code) [] a) e
          ∙ ap (λ (n : ℕ). record { place = c.place; end = n; outer = []; height = c.height }) own.is.end_is
          ∙ ap (λ (o : List ℕ). record { place = c.place; end = c.end; outer = o; height = c.height }) own.is.outer_is in
          subst (λ (d : Control). ComesBefore code 0 d) k coming.begins)
      | inr n ↦ absurd n
    ]

pub complete_start : (code : List Op) → Complete code 0 (whole code) []
complete_start code c coming.begins le = record { is = record { end_is = refl; outer_is = refl }; among = inl refl }
complete_start code c (coming.goes p d op comes before inside here m) le = absurd (omega arith)

-- ---- leaving bodies

pub left_sound : (code : List Op) (at : ℕ) (b : OpenBody) (os : List OpenBody) (x : OpenBody × List OpenBody) → left at b os ≡ Ok x → Sound code at b os
    → Sound code at x.0 x.1
left_sound code at b os x went sound = left_by at (λ b os. Sound code at b os) (λ b o os same one f c m. f c (inr m)) b os x went sound

-- ---- one instruction

pub comes_later : (code : List Op) (at : ℕ) (c : Control) → ComesBefore code at c → ComesBefore code (at + 1) c
comes_later code at c coming.begins = coming.begins
comes_later code at c (coming.goes p d op comes before inside here m) = coming.goes p d op (comes_later code at p comes) (omega arith) inside here m

-- what is awaited after an instruction is awaited before it, further on, or the instruction leads there
abbrev Came : ℕ → ℕ → Op → Control → OpenBody → List OpenBody → Type 0
Came at h op c b os = Awaits c b os ⊎ Among c (next op (record { place = at; end = b.end; outer = ends_of os; height = h }))

came_own : (at h : ℕ) (op : Op) (c : Control) (b : OpenBody) (os : List OpenBody) → Own c (goes_on op at h b) os → Came at h op c b os
came_own at h op c b os own =
    let w = within b.end (ends_of os) in
    let here : Control = record { place = at; end = b.end; outer = ends_of os; height = h } in
    let is : Is c b os = record { end_is = own.is.end_is; outer_is = own.is.outer_is } in
    let k : w (arrival_of c) ≡ c =
    ap (λ (n : ℕ). record { place = c.place; end = n; outer = ends_of os; height = c.height }) own.is.end_is
    ∙ ap (λ (o : List ℕ). record { place = c.place; end = c.end; outer = o; height = c.height }) own.is.outer_is in
    among_either (arrival_of c) (filter (λ x. not (comes_to at x)) b.awaited) (arrivals op at h) own.among
    (λ n. inl (own_awaits c b os (record { is = is; among = (among_filter (λ x. not (comes_to at x)) (arrival_of c) b.awaited n).0 })))
    (λ n. inr (subst (λ (d : Control). Among d (next op here)) k
    (among_left (w (arrival_of c)) (map w (arrivals op at h)) (begins_body op here) (mapped w (arrival_of c) (arrivals op at h) n))))

came_on : (at h : ℕ) (op : Op) (c : Control) (b : OpenBody) (os : List OpenBody) → Awaits c (goes_on op at h b) os → Came at h op c b os
came_on at h op c b [] own = came_own at h op c b [] own
came_on at h op c b (o ∷ os) (inl own) = came_own at h op c b (o ∷ os) own
came_on at h op c b (o ∷ os) (inr m) = inl (inr m)

came_inner : (at h end : ℕ) (m : Macro) (c : Control) (b : OpenBody) (os : List OpenBody)
    → Own c (record { end = end; awaited = record { place = at + 1; height = 0 } ∷ [] }) (goes_on (Over m end) at h b ∷ os)
    → Came at h (Over m end) c b os
came_inner at h end m c b os own =
    let here : Control = record { place = at; end = b.end; outer = ends_of os; height = h } in
    elim own.among [
      | inl e ↦ (let k : record { place = at + 1; end = end; outer = b.end ∷ ends_of os; height = 0 } ≡ c =
          ap (λ (a : Arrival). within end (b.end ∷ ends_of os) a) e
          ∙ ap (λ (n : ℕ). record { place = c.place; end = n; outer = b.end ∷ ends_of os; height = c.height }) own.is.end_is
          ∙ ap (λ (o : List ℕ). record { place = c.place; end = c.end; outer = o; height = c.height }) own.is.outer_is in
          inr (among_right c (map (within b.end (ends_of os)) (arrivals (Over m end) at h)) (begins_body (Over m end) here) (inl k)))
      | inr n ↦ absurd n
    ]

came : (at h : ℕ) (op : Op) (c : Control) (b : OpenBody) (os : List OpenBody)
    → Awaits c (opens op at (goes_on op at h b) os).0 (opens op at (goes_on op at h b) os).1 → Came at h op c b os
came at h (Over m end) c b os (inl own) = came_inner at h end m c b os own
came at h (Over m end) c b os (inr w) = came_on at h (Over m end) c b os w
came at h op c b os w = came_on at h op c b os w

pub sound_on : (code : List Op) (at h : ℕ) (op : Op) (b : OpenBody) (os : List OpenBody) → slice_get code at ≡ Some op → at < b.end
    → ComesBefore code at (record { place = at; end = b.end; outer = ends_of os; height = h })
    → Sound code at b os → Sound code (at + 1) (opens op at (goes_on op at h b) os).0 (opens op at (goes_on op at h b) os).1
sound_on code at h op b os here lt stands sound c m =
    elim (came at h op c b os m) [
      | inl w ↦ comes_later code at c (sound c w)
      | inr n ↦ (let d : Control = record { place = at; end = b.end; outer = ends_of os; height = h } in
          coming.goes d c op (comes_later code at d stands) (omega arith) lt here n)
    ]

record Both (code : List Op) (at : ℕ) (c : Control) (y : OpenBody × List OpenBody) : Type 0 where
  before : c.place ≤ at → ComesBefore code at c
  after : at + 1 ≤ c.place → Awaits c y.0 y.1

both_earlier : (vars at : ℕ) (op : Op) (code : List Op) (b : OpenBody) (os : List OpenBody) (y : OpenBody × List OpenBody) → Nested code at at b os
    → Complete code at b os → Steps vars at op (drop (at + 1) code) b os y
    → (c : Control) → ComesBefore code at c → Both code at c y
both_earlier vars at op code b os y n complete s c comes = record {
  before = λ le. comes;
  after = λ lt. stays_awaited vars at op code c b os y (omega arith) n s (complete c comes (omega arith));
}

both_here : (vars at : ℕ) (op : Op) (code : List Op) (b : OpenBody) (os : List OpenBody) (y : OpenBody × List OpenBody) → slice_get code at ≡ Some op
    → Nested code at at b os → Complete code at b os → Steps vars at op (drop (at + 1) code) b os y
    → (c d : Control) → ComesBefore code at c → c.place ≡ at → c.place < c.end → Among d (next op c) → Both code at d y
both_here vars at op code b os y here n complete s c d comes same inside m =
    let awaited = leads_on vars at op code c d b os y s same inside here n (complete c comes (omega arith)) m in
    let low : at + 1 ≤ d.place = awaits_low code (at + 1) (at + 1) d y.0 y.1 (nested_step vars at op code b os y here n s) awaited in
    record { before = λ le. absurd (omega arith); after = λ lt. awaited }

both : (vars at : ℕ) (op : Op) (code : List Op) (b : OpenBody) (os : List OpenBody) (y : OpenBody × List OpenBody) → slice_get code at ≡ Some op
    → Nested code at at b os → Complete code at b os → Steps vars at op (drop (at + 1) code) b os y
    → (c : Control) → ComesBefore code (at + 1) c → Both code at c y
both vars at op code b os y here n complete s c coming.begins = record { before = λ le. coming.begins; after = λ lt. absurd (omega arith) }
both vars at op code b os y here n complete s c (coming.goes p d op2 comes before inside there m) =
    let k = both vars at op code b os y here n complete s p comes in
    let earlier = k.before (omega arith) in
    elim (cases_lt p.place at) [
      | inl lt ↦ both_earlier vars at op code b os y n complete s d (coming.goes p d op2 earlier lt inside there m)
      | inr past ↦ (let same : p.place ≡ at = omega arith in
          let o : op2 ≡ op = same_Some op2 op (sym there ∙ (ap (slice_get code) same ∙ here)) in
          both_here vars at op code b os y here n complete s p d earlier same inside (subst (λ (z : Op). Among d (next z p)) o m))
    ]

pub complete_on : (vars at : ℕ) (op : Op) (code : List Op) (b : OpenBody) (os : List OpenBody) (y : OpenBody × List OpenBody) → slice_get code at ≡ Some op
    → Nested code at at b os → Complete code at b os → Steps vars at op (drop (at + 1) code) b os y
    → Complete code (at + 1) y.0 y.1
complete_on vars at op code b os y here n complete s c comes le = (both vars at op code b os y here n complete s c comes).after le
