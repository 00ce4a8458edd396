-- The code of an expression with a type is well formed.
use Rattle.std.proofs.Common.{◌≡◌, ℕ, zero, suc, ◌+◌, ◌*◌, ◌≤◌, Bool, true, false, ◌&&◌, cond, Option, Some, None, List, [], ◌∷◌, ◌++◌, bytes_eq, nat_lt, length, Ok, refl, sym, subst, arith}
use Rattle.std.proofs.lemmas.Bool.{false≢true, and_parts}
use Rattle.std.proofs.lemmas.Bool.Decides.{nat_tests}
use Rattle.std.proofs.lemmas.List.{length-map}
use Rattle.std.proofs.lemmas.Option.{none-some, same_Some}
use Rattle.celtree.specs.declared.tree.Operator.{Operator}
use Rattle.celtree.specs.declared.tree.Operator.TheVariants as operator_of
use Rattle.celtree.specs.Tree as expr
use Rattle.celtree.specs.Tree.{Expr, Exprs, no_items, item, Pairs, no_pairs, pair}
use Rattle.celtree.specs.Nesting.{nests_within, all_within, pairs_within}
use Rattle.celtree.specs.Variables.{is_variables}
use Rattle.celtypes.specs.declared.scope.Env.{Env}
use Rattle.celtypes.specs.Typing.{Scope}
use Rattle.celtypes.specs.Seen.{variable_seen, declared}
use Rattle.instructions.specs.declared.instruction.Slot.{Slot}
use Rattle.instructions.specs.declared.instruction.Slot.TheVariants as slot
use Rattle.instructions.specs.Op.{Op, PushInt, PushUint, PushText, PushTruth, PushNull, PushName, PushVariable, PushSlot, TakeField, TakeHas, TakeIndex, TakeItems, TakePairs, TakeUnary, TakeCall, TakeBoth, TakeEither, IfFalse, IfTrue, Branch, Jump, Over}
use Rattle.instructions.specs.Judging.{takes, is_named, first_fault}
use Rattle.instructions.specs.WellFormed.{IsWellFormed}
use Rattle.instructions.proofs.WellFormed.{sound_is_well_formed}
use Rattle.plan.specs.Names.{Names, bind, slot_inside, slot_of, declared_name, slot_or, place_of}
use Rattle.plan.specs.Tables.{infix_op, between, steps_between, function_named, method_named}
use Rattle.plan.specs.Compilation.{count, pair_count, size, size_of_items, size_of_pairs, compiled, compiled_items, compiled_pairs}
use Rattle.plan.specs.Correct.{names_of}
use Rattle.plan.specs.Seen.{HasSomeType}
use Rattle.plan.proofs.Follows.{no_locals}
use Rattle.plan.proofs.Typed.{IsDeclared, HasCode, HaveCode, KeysHaveCode, ValuesHaveCode, function_takes, method_takes, has_code}
use Rattle.plan.proofs.Passes.{plainly, is_plain, Leads, nothing, on, plain, if_false, if_true, tests, chooses, loops, sound}

-- ---- names

-- a macro more around changes nothing
deeper : (vars depth : ℕ) (s : Slot) → is_named vars depth (PushSlot s) ≡ true → is_named vars (suc depth) (PushSlot s) ≡ true
deeper vars depth slot.Outer e = grind (arith, nat_tests)
deeper vars depth slot.Inner e = grind (arith, nat_tests)

inside_named : (vars : ℕ) (ys : List (List ℕ)) → is_named vars (suc (length ys)) (PushSlot (slot_inside ys)) ≡ true
inside_named vars [] = refl
inside_named vars (y ∷ ys) = grind (arith, nat_tests)

slot_named_at : (b : Bool) (vars : ℕ) (ys : List (List ℕ)) (o : Option Slot) (s : Slot) → cond b (Some (slot_inside ys)) o ≡ Some s → (o ≡ Some s → is_named vars (length ys) (PushSlot s) ≡ true)
    → is_named vars (suc (length ys)) (PushSlot s) ≡ true
slot_named_at true vars ys o s e more = subst (λ (t : Slot). is_named vars (suc (length ys)) (PushSlot t) ≡ true) (same_Some (slot_inside ys) s e) (inside_named vars ys)
slot_named_at false vars ys o s e more = deeper vars (length ys) s (more e)

-- a macro's variable stands in as many macros as its slot needs
slot_named : (vars : ℕ) (x : List ℕ) (ls : List (List ℕ)) (s : Slot) → slot_of x ls ≡ Some s → is_named vars (length ls) (PushSlot s) ≡ true
slot_named vars x [] s e = absurd (none-some s e)
slot_named vars x (y ∷ ys) s e = slot_named_at (bytes_eq x y) vars ys (slot_of x ys) s e (slot_named vars x ys s)

-- ---- the forms

module _ (vars : ℕ) where
  -- an instruction by how many outcomes it takes: none, one, two, or all from a height on
  push : (depth at to h : ℕ) (op : Op) → is_plain op ≡ true → is_named vars depth op ≡ true → takes op ≡ 0 → at + 1 ≡ to → Leads vars depth at (op ∷ []) h to (h + 1)
  push depth at to h op p named none next = plain vars depth at h to (h + 1) op (plainly op p) named (omega (arith, none)) (omega (arith, none)) next

  take_one : (depth at to h : ℕ) (op : Op) → is_plain op ≡ true → is_named vars depth op ≡ true → takes op ≡ 1 → at + 1 ≡ to → Leads vars depth at (op ∷ []) (h + 1) to (h + 1)
  take_one depth at to h op p named one next = plain vars depth at (h + 1) to (h + 1) op (plainly op p) named (omega (arith, one)) (omega (arith, one)) next

  take_two : (depth at to h : ℕ) (op : Op) → is_plain op ≡ true → is_named vars depth op ≡ true → takes op ≡ 2 → at + 1 ≡ to → Leads vars depth at (op ∷ []) (h + 1 + 1) to (h + 1)
  take_two depth at to h op p named two next = plain vars depth at (h + 1 + 1) to (h + 1) op (plainly op p) named (omega (arith, two)) (omega (arith, two)) next

  take_all : (depth at to h k : ℕ) (op : Op) → is_plain op ≡ true → is_named vars depth op ≡ true → h + takes op ≡ k → at + 1 ≡ to → Leads vars depth at (op ∷ []) k to (h + 1)
  take_all depth at to h k op p named all next = plain vars depth at k to (h + 1) op (plainly op p) named (omega (arith, all)) (omega (arith, all)) next

  name_leads : (at to h : ℕ) (d : Names) (x : List ℕ) (o : Option Slot) → slot_of x d.locals ≡ o → at + 1 ≡ to → Leads vars (length d.locals) at (slot_or o (declared_name x) ∷ []) h to (h + 1)
  name_leads at to h d x (Some s) e next = push (length d.locals) at to h (PushSlot s) refl (slot_named vars x d.locals s e) refl next
  name_leads at to h d x None e next = push (length d.locals) at to h (PushName (declared_name x)) refl refl refl next

  field_leads : (depth at to h n place : ℕ) (f : List ℕ) (b : Bool) (code : List Op) → (b ≡ true → nat_lt place vars ≡ true) → at + cond b 1 (n + 1) ≡ to → (b ≡ false → Leads vars depth at code h (at + n) (h + 1))
      → Leads vars depth at (cond b (PushVariable place ∷ []) (code ++ TakeField f ∷ [])) h to (h + 1)
  field_leads depth at to h n place f true code known end operand = push depth at to h (PushVariable place) refl (known refl) refl end
  field_leads depth at to h n place f false code known end operand =
      on vars depth at h (at + n) (h + 1) to (h + 1) code (TakeField f ∷ []) (operand refl) (take_one depth (at + n) to h (TakeField f) refl refl refl (omega (arith, end)))

  infix_leads : (depth at from near to h : ℕ) (o : Operator) (right : List Op) → at + steps_between o ≡ from → near + 1 ≡ to → Leads vars depth from right (h + 1) near (h + 1 + 1)
      → Leads vars depth at (between o to ++ (right ++ infix_op o ∷ [])) (h + 1) to (h + 1)
  infix_leads depth at from near to h operator_of.And right next end side =
      tests vars depth at from to h (IfFalse to) (right ++ TakeBoth ∷ []) (if_false to) next
      (on vars depth from (h + 1) near (h + 1 + 1) to (h + 1) right (TakeBoth ∷ []) side (take_two depth near to h TakeBoth refl refl refl end))
  infix_leads depth at from near to h operator_of.Or right next end side =
      tests vars depth at from to h (IfTrue to) (right ++ TakeEither ∷ []) (if_true to) next
      (on vars depth from (h + 1) near (h + 1 + 1) to (h + 1) right (TakeEither ∷ []) side (take_two depth near to h TakeEither refl refl refl end))
  infix_leads depth at from near to h o right next end side =
      let here : from ≡ at = omega (arith, next) in
      subst (λ (n : ℕ). Leads vars depth n (right ++ infix_op o ∷ []) (h + 1) to (h + 1)) here
      (on vars depth from (h + 1) near (h + 1 + 1) to (h + 1) right (infix_op o ∷ []) side (take_two depth near to h (infix_op o) refl refl refl end))

mutual
  leads : (t : Expr) (at to k h : ℕ) (d : Names) → HasCode t d → nests_within t k ≡ true → length d.locals + k ≤ 2 → at + size t ≡ to
      → Leads (length d.variables) (length d.locals) at (compiled t at d) h to (h + 1)
  leads expr.Null at to k h d known nest deep end = push (length d.variables) (length d.locals) at to h PushNull refl refl refl end
  leads (expr.Truth b) at to k h d known nest deep end = push (length d.variables) (length d.locals) at to h (PushTruth b) refl refl refl end
  leads (expr.Int z) at to k h d known nest deep end = push (length d.variables) (length d.locals) at to h (PushInt z) refl refl refl end
  leads (expr.Uint n) at to k h d known nest deep end = push (length d.variables) (length d.locals) at to h (PushUint n) refl refl refl end
  leads (expr.Text s) at to k h d known nest deep end = push (length d.variables) (length d.locals) at to h (PushText s) refl refl refl end
  leads (expr.Name x) at to k h d known nest deep end = name_leads (length d.variables) at to h d x (slot_of x d.locals) refl end
  leads (expr.Field e f) at to k h d known nest deep end =
      field_leads (length d.variables) (length d.locals) at to h (size e) (place_of f d.variables) f (is_variables e) (compiled e at d)
      (λ yes. (let lt : IsDeclared f d = known.0 yes in grind (arith, nat_tests))) end (λ no. leads e at (at + size e) k h d (known.1 no) nest deep refl)
  leads (expr.Has e f) at to k h d known nest deep end =
      let p = at + size e in
      on (length d.variables) (length d.locals) at h p (h + 1) to (h + 1) (compiled e at d) (TakeHas f ∷ []) (leads e at p k h d known nest deep refl)
      (take_one (length d.variables) (length d.locals) p to h (TakeHas f) refl refl refl (omega (arith, end)))
  leads (expr.Index e i) at to k h d known nest deep end =
      let vars = length d.variables in
      let depth = length d.locals in
      let p = at + size e in
      let q = p + size i in
      let nests = and_parts (nests_within e k) (nests_within i k) nest in
      on vars depth at h p (h + 1) to (h + 1) (compiled e at d) (compiled i p d ++ TakeIndex ∷ []) (leads e at p k h d known.0 nests.0 deep refl)
      (on vars depth p (h + 1) q (h + 1 + 1) to (h + 1) (compiled i p d) (TakeIndex ∷ []) (leads i p q k (h + 1) d known.1 nests.1 deep refl)
      (take_two vars depth q to h TakeIndex refl refl refl (omega (arith, end))))
  leads (expr.Sequence es) at to k h d known nest deep end =
      let p = at + size_of_items es in
      let l = h + count es in
      on (length d.variables) (length d.locals) at h p l to (h + 1) (compiled_items es at d) (TakeItems (count es) ∷ []) (leads_all es at p k h l d known nest deep refl refl)
      (take_all (length d.variables) (length d.locals) p to h l (TakeItems (count es)) refl refl refl (omega (arith, end)))
  leads (expr.Mapping ps) at to k h d known nest deep end =
      let p = at + size_of_pairs ps in
      let l = h + 2 * pair_count ps in
      on (length d.variables) (length d.locals) at h p l to (h + 1) (compiled_pairs ps at d) (TakePairs (pair_count ps) ∷ []) (leads_pairs ps at p k h l d known.0 known.1 nest deep refl refl)
      (take_all (length d.variables) (length d.locals) p to h l (TakePairs (pair_count ps)) refl refl refl (omega (arith, end)))
  leads (expr.Unary o e) at to k h d known nest deep end =
      let p = at + size e in
      on (length d.variables) (length d.locals) at h p (h + 1) to (h + 1) (compiled e at d) (TakeUnary o ∷ []) (leads e at p k h d known nest deep refl)
      (take_one (length d.variables) (length d.locals) p to h (TakeUnary o) refl refl refl (omega (arith, end)))
  leads (expr.Infix o a b) at to k h d known nest deep end =
      let vars = length d.variables in
      let depth = length d.locals in
      let p = at + size a in
      let r = at + size a + steps_between o in
      let q = r + size b in
      let right = compiled b r d in
      let nests = and_parts (nests_within a k) (nests_within b k) nest in
      let rest = subst (λ (n : ℕ). Leads vars depth p (between o n ++ (right ++ infix_op o ∷ [])) (h + 1) to (h + 1)) (sym end)
      (infix_leads vars depth p r q to h o right refl (omega (arith, end)) (leads b r q k (h + 1) d known.1 nests.1 deep refl)) in
      on vars depth at h p (h + 1) to (h + 1) (compiled a at d) (between o (at + size (expr.Infix o a b)) ++ (right ++ infix_op o ∷ [])) (leads a at p k h d known.0 nests.0 deep refl) rest
  leads (expr.Conditional c a b) at to k h d known nest deep end =
      let vars = length d.variables in
      let depth = length d.locals in
      let p = at + size c in
      let r = at + size c + 1 in
      let q = r + size a in
      let s = at + size c + 1 + size a + 1 in
      let first = compiled a r d in
      let second = compiled b s d in
      let target = at + size (expr.Conditional c a b) in
      let nests = and_parts (nests_within c k) (nests_within a k && nests_within b k) nest in
      let nested = and_parts (nests_within a k) (nests_within b k) nests.1 in
      let rest = subst (λ (n : ℕ). Leads vars depth p (Branch s n ∷ (first ++ Jump n ∷ second)) (h + 1) to (h + 1)) (sym end)
      (chooses vars depth p r q s h to first second refl refl (leads a r q k h d known.1 nested.0 deep refl) (leads b s to k h d known.2 nested.1 deep (omega (arith, end)))) in
      on vars depth at h p (h + 1) to (h + 1) (compiled c at d) (Branch s target ∷ (first ++ Jump target ∷ second)) (leads c at p k h d known.0 nests.0 deep refl) rest
  leads (expr.Call f es) at to k h d known nest deep end =
      let p = at + size_of_items es in
      let l = h + count es in
      on (length d.variables) (length d.locals) at h p l to (h + 1) (compiled_items es at d) (TakeCall (function_named f) ∷ []) (leads_all es at p k h l d known.1 nest deep refl refl)
      (take_all (length d.variables) (length d.locals) p to h l (TakeCall (function_named f)) refl refl (omega (arith, function_takes f es known.0)) (omega (arith, end)))
  leads (expr.Method e f es) at to k h d known nest deep end =
      let vars = length d.variables in
      let depth = length d.locals in
      let p = at + size e in
      let q = p + size_of_items es in
      let l = h + 1 + count es in
      let op = TakeCall (method_named f) in
      let nests = and_parts (nests_within e k) (all_within es k) nest in
      on vars depth at h p (h + 1) to (h + 1) (compiled e at d) (compiled_items es p d ++ op ∷ []) (leads e at p k h d known.1 nests.0 deep refl)
      (on vars depth p (h + 1) q l to (h + 1) (compiled_items es p d) (op ∷ []) (leads_all es p q k (h + 1) l d known.2 nests.1 deep refl refl)
      (take_all vars depth q to h l op refl refl (omega (arith, method_takes f es known.0)) (omega (arith, end))))
  leads (expr.Over m e x body) at to zero h d known nest deep end = absurd (false≢true nest)
  leads (expr.Over m e x body) at to (suc k) h d known nest deep end =
      let vars = length d.variables in
      let depth = length d.locals in
      let inner = bind x d in
      let p = at + size e in
      let r = at + size e + 1 in
      let inside = compiled body r inner in
      let nests = and_parts (nests_within e (suc k)) (nests_within body k) nest in
      let rest = subst (λ (n : ℕ). Leads vars depth p (Over m n ∷ inside) (h + 1) to (h + 1)) (sym end)
      (loops vars depth (length inner.locals) p r to h m inside (omega arith) (omega (arith, deep)) refl (leads body r to k 0 inner known.1 nests.1 (omega (arith, deep)) (omega (arith, end)))) in
      on vars depth at h p (h + 1) to (h + 1) (compiled e at d) (Over m (at + size (expr.Over m e x body)) ∷ inside) (leads e at p (suc k) h d known.0 nests.0 deep refl) rest

  leads_all : (es : Exprs) (at to k h l : ℕ) (d : Names) → HaveCode es d → all_within es k ≡ true → length d.locals + k ≤ 2 → at + size_of_items es ≡ to → h + count es ≡ l
      → Leads (length d.variables) (length d.locals) at (compiled_items es at d) h to l
  leads_all no_items at to k h l d known nest deep end height = nothing (length d.variables) (length d.locals) at h to l (omega (arith, end)) (omega (arith, height))
  leads_all (item e es) at to k h l d known nest deep end height =
      let p = at + size e in
      let nests = and_parts (nests_within e k) (all_within es k) nest in
      on (length d.variables) (length d.locals) at h p (h + 1) to l (compiled e at d) (compiled_items es p d) (leads e at p k h d known.0 nests.0 deep refl)
      (leads_all es p to k (h + 1) l d known.1 nests.1 deep (omega (arith, end)) (omega (arith, height)))

  leads_pairs : (ps : Pairs) (at to k h l : ℕ) (d : Names) → KeysHaveCode ps d → ValuesHaveCode ps d → pairs_within ps k ≡ true → length d.locals + k ≤ 2 → at + size_of_pairs ps ≡ to → h + 2 * pair_count ps ≡ l
      → Leads (length d.variables) (length d.locals) at (compiled_pairs ps at d) h to l
  leads_pairs no_pairs at to k h l d ks vs nest deep end height = nothing (length d.variables) (length d.locals) at h to l (omega (arith, end)) (omega (arith, height))
  leads_pairs (pair a b ps) at to k h l d ks vs nest deep end height =
      let vars = length d.variables in
      let depth = length d.locals in
      let p = at + size a in
      let q = at + size a + size b in
      let nests = and_parts (nests_within a k && nests_within b k) (pairs_within ps k) nest in
      let nested = and_parts (nests_within a k) (nests_within b k) nests.0 in
      on vars depth at h p (h + 1) to l (compiled a at d) (compiled b p d ++ compiled_pairs ps q d) (leads a at p k h d ks.0 nested.0 deep refl)
      (on vars depth p (h + 1) q (h + 1 + 1) to l (compiled b p d) (compiled_pairs ps q d) (leads b p q k (h + 1) d vs.0 nested.1 deep refl)
      (leads_pairs ps q to k (h + 1 + 1) l d ks.1 vs.1 nests.1 deep (omega (arith, end)) (omega (arith, height))))

-- the code of an expression with a type, whose macros nest at most two deep
pub code_is_well_formed : (g : Scope) (e : Expr) → g.locals ≡ [] → HasSomeType g e → nests_within e 2 ≡ true → IsWellFormed (length g.variables) (compiled e 0 (names_of g))
code_is_well_formed g e none typed nest =
    let d = names_of g in
    let known = subst (λ (n : Names). HasCode e n) (no_locals g none) (has_code typed.1) in
    let stretch = leads e 0 (size e) 2 0 d known nest (omega arith) (omega arith) in
    let vars : length d.variables ≡ length g.variables = length-map g.variables (λ v. v.0) in
    sound_is_well_formed (length g.variables) (compiled e 0 d)
    (subst (λ (n : ℕ). first_fault n (compiled e 0 d) ≡ Ok tt) vars (sound (length d.variables) (compiled e 0 d) (size e) stretch))

-- the code under the program's declarations
pub declared_is_well_formed : (env : Env) (e : Expr) (ops : List Op) → HasSomeType (declared env) e → nests_within e 2 ≡ true → ops ≡ compiled e 0 (names_of (declared env)) → IsWellFormed (length env.variables.now) ops
declared_is_well_formed env e ops typed nest same =
    let vars : length (declared env).variables ≡ length env.variables.now = length-map env.variables.now variable_seen in
    subst (λ (n : ℕ). IsWellFormed n ops) vars (subst (λ (l : List Op). IsWellFormed (length (declared env).variables) l) (sym same) (code_is_well_formed (declared env) e refl typed nest))
