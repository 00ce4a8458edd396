-- Where control goes in a well-formed plan.
use Rattle.std.proofs.Common.{◌≡◌, inl, inr, ℕ, ◌+◌, ◌<◌, ◌≤◌, true, List, ◌∷◌, length, map, get_or, nat_lt, Option, refl, sym, ap, ◌∙◌, arith}
use Rattle.std.specs.Prelude.{option_map}
use Rattle.std.proofs.lemmas.List.{length-map}
use Rattle.std.proofs.lemmas.Bool.Decides.{nat_tests}
use Rattle.std.proofs.lemmas.Option.{slice_get-map, slice_get-get_or}
use Rattle.celtree.specs.declared.tree.Macro.{Macro}
use Rattle.instructions.specs.declared.instruction.Instruction.{Instruction}
use Rattle.instructions.specs.Op.{Op, Over}
use Rattle.instructions.specs.Seen.{op_of, ops_of}
use Rattle.instructions.specs.Judging.{arrivals, takes, targets, is_named}
use Rattle.instructions.specs.WellFormed.{Among, Control, within, begins_body, next, Comes, begins, goes, IsWellFormed}
use Rattle.instructions.proofs.Arrivals.{among_left, among_right, among_either, among_map, mapped}
use Rattle.instructions.proofs.Nested.{leads}
use Rattle.planrun.specs.Running.{ComesTo, Stands, Begins}

abbrev there : (at stop height : ℕ) → List ℕ → Control
there at stop height outer = record { place = at; end = stop; outer = outer; height = height }

-- no operand is missing
pub operands : (vars : ℕ) (code : List Op) (op : Op) (at stop depth height : ℕ) → Stands vars code op at stop depth height → takes op ≤ height
operands vars code op at stop depth height s =
    s.well_formed.operands (there at stop height s.comes_to.outer) op (record { comes = s.comes_to.comes; inside = s.inside; here = s.here })

-- no name is unknown
pub named : (vars : ℕ) (code : List Op) (op : Op) (at stop depth height : ℕ) → Stands vars code op at stop depth height → is_named vars depth op ≡ true
named vars code op at stop depth height s =
    ap (λ (d : ℕ). is_named vars d op) (sym s.comes_to.depth_is)
    ∙ s.well_formed.named (there at stop height s.comes_to.outer) op (record { comes = s.comes_to.comes; inside = s.inside; here = s.here })

-- a target lies ahead, in the body or at its end
pub ahead : (vars : ℕ) (code : List Op) (op : Op) (at stop depth height to : ℕ) → Stands vars code op at stop depth height → Among to (targets op) → (at < to) × (to ≤ stop)
ahead vars code op at stop depth height to s m =
    s.well_formed.forward (there at stop height s.comes_to.outer) op to (record { comes = s.comes_to.comes; inside = s.inside; here = s.here }) m

-- and so does each place where an instruction leads
pub forward : (vars : ℕ) (code : List Op) (op : Op) (at stop depth height to tall : ℕ) → Stands vars code op at stop depth height → Among (record { place = to; height = tall }) (arrivals op at height) → (at < to) × (to ≤ stop)
forward vars code op at stop depth height to tall s m =
    elim (leads op at height (record { place = to; height = tall }) m) [
      | inl e ↦ (let less : at < stop = s.inside in let is : to ≡ at + 1 = e in (omega arith, omega arith))
      | inr t ↦ ahead vars code op at stop depth height to s t
    ]

-- control comes there
pub moves : (vars : ℕ) (code : List Op) (op : Op) (at stop depth height to tall : ℕ) → Stands vars code op at stop depth height → Among (record { place = to; height = tall }) (arrivals op at height) → ComesTo code to stop depth tall
moves vars code op at stop depth height to tall s m =
    let outer = s.comes_to.outer in
    let from : Control = there at stop height outer in
    record {
      outer = outer;
      comes = goes from (there to stop tall outer) op s.comes_to.comes s.inside s.here (among_left (there to stop tall outer) (map (within stop outer) (arrivals op at height)) (begins_body op from) (mapped (within stop outer) (record { place = to; height = tall }) (arrivals op at height) m));
      depth_is = s.comes_to.depth_is;
    }

-- a macro's body begins with an empty stack, in one macro more
pub enters : (vars : ℕ) (code : List Op) (m : Macro) (end at stop depth height : ℕ) → Stands vars code (Over m end) at stop depth height → Begins vars code (at + 1) end depth
enters vars code m end at stop depth height s =
    let outer = s.comes_to.outer in
    let from : Control = there at stop height outer in
    let body : Control = there (at + 1) end 0 (stop ∷ outer) in
    let deeper : length outer ≡ depth = s.comes_to.depth_is in
    let more : length (stop ∷ outer) ≡ depth + 1 = omega arith in
    let ends : at < end = (ahead vars code (Over m end) at stop depth height end s (inl refl)).0 in
    let around : nat_lt depth 2 ≡ true = named vars code (Over m end) at stop depth height s in
    record {
      well_formed = s.well_formed;
      comes_to = record {
        outer = stop ∷ outer;
        comes = goes from body (Over m end) s.comes_to.comes s.inside s.here (among_right body (map (within stop outer) (arrivals (Over m end) at height)) (begins_body (Over m end) from) (inl refl));
        depth_is = more;
      };
      before = omega arith;
      shallow = grind (arith, nat_tests);
    }

-- each body ends in the code
body_ends : (code : List Op) (c d : Control) (op : Op) → c.end ≤ length code → ((target : ℕ) → Among target (targets op) → target ≤ c.end) → Among d (begins_body op c) → d.end ≤ length code
body_ends code c d (Over m end) here ahead (inl e) = let q : end ≡ d.end = ap (λ (x : Control). x.end) e in let l : end ≤ c.end = ahead end (inl refl) in omega arith
body_ends code c d (Over m end) here ahead (inr n) = absurd n
body_ends code c d op here ahead n = absurd n

ends_at : (code : List Op) (c d : Control) (op : Op) → c.end ≤ length code → ((target : ℕ) → Among target (targets op) → target ≤ c.end) → Among d (next op c) → d.end ≤ length code
ends_at code c d op here ahead m =
    among_either d (map (within c.end c.outer) (arrivals op c.place c.height)) (begins_body op c) m
    (λ n. among_map (within c.end c.outer) d (arrivals op c.place c.height) n (λ a o e. let q : c.end ≡ d.end = ap (λ (x : Control). x.end) e in omega arith))
    (λ n. body_ends code c d op here ahead n)

ends_within : (vars : ℕ) (code : List Op) (c : Control) → IsWellFormed vars code → Comes code c → c.end ≤ length code
ends_within vars code c w begins = omega arith
ends_within vars code c w (goes b d op comes inside here m) =
    ends_at code b d op (ends_within vars code b w comes) (λ target n. (w.forward b op target (record { comes = comes; inside = inside; here = here }) n).1) m

-- control stands at no place after the code
pub in_code : (vars : ℕ) (code : List Op) (at stop depth height : ℕ) → IsWellFormed vars code → ComesTo code at stop depth height → stop ≤ length code
in_code vars code at stop depth height w c = ends_within vars code (there at stop height c.outer) w c.comes

pub inside_code : (vars : ℕ) (is : List Instruction) (at stop depth height : ℕ) → IsWellFormed vars (ops_of is) → ComesTo (ops_of is) at stop depth height → at < stop → at < length is
inside_code vars is at stop depth height w c less =
    let l : stop ≤ length (ops_of is) = in_code vars (ops_of is) at stop depth height w c in
    omega (arith, l, length-map is op_of)

-- it stands at the instruction that is read there
pub stands : (vars : ℕ) (is : List Instruction) (at stop depth height : ℕ) (d : Instruction) → IsWellFormed vars (ops_of is) → ComesTo (ops_of is) at stop depth height → at < stop → Stands vars (ops_of is) (op_of (get_or is at d)) at stop depth height
stands vars is at stop depth height d w c less = record {
  well_formed = w;
  comes_to = c;
  inside = less;
  here = slice_get-map op_of is at ∙ ap (λ (o : Option Instruction). option_map op_of o) (slice_get-get_or is at d (inside_code vars is at stop depth height w c less));
}
