-- The machine follows the meaning: backwards, from what it gives after an expression's code to what it gives before it.
use Rattle.std.proofs.Common.{◌≡◌, ℕ, zero, suc, ◌+◌, ◌-◌, ◌<◌, ◌≤◌, Bool, true, false, ◌&&◌, cond, Option, Some, None, List, [], ◌∷◌, ◌++◌, map, take, drop, reverse, length, nat_lt, refl, sym, ap, ◌∙◌, subst, arith, append_assoc, length-append}
use Rattle.std.specs.Prelude.{slice_get}
use Rattle.std.proofs.lemmas.Bool.{false≢true, and_parts}
use Rattle.std.proofs.lemmas.Bool.Decides.{nat_tests}
use Rattle.std.proofs.lemmas.List.{reverse-reverse, length-reverse}
use mathlib.Core.List.{reverse-cons}
use Rattle.celtree.specs.declared.tree.Operator.{Operator}
use Rattle.celtree.specs.declared.tree.Operator.TheVariants as operator_of
use Rattle.celtree.specs.declared.tree.Macro.{Macro}
use Rattle.celtree.specs.Tree as expr
use Rattle.celtree.specs.Tree.{Expr, Exprs, no_items, item, Pairs, no_pairs, pair}
use Rattle.celtree.specs.Nesting.{nests_within, all_within, pairs_within}
use Rattle.celtree.specs.Variables.{is_variables}
use Rattle.celmean.specs.Value.{Value, Null, Truth, Int, Uint, Text, Outcome, Gives, Error, with_value, with_values}
use Rattle.celmean.specs.Collections.{indexed, member, has_member, list_of, map_of}
use Rattle.celmean.specs.Macros.{is_true, is_false, both, either, range_of, reduced, over_items}
use Rattle.celmean.specs.Operators.{prefixed, infixed}
use Rattle.celmean.specs.Functions.{called, method_called}
use Rattle.celmean.specs.Meaning as meaning
use Rattle.celmean.specs.Meaning.{Environment, bound, field, chosen, mean, all_means, pair_means}
use Rattle.celtypes.specs.Typing.{Scope}
use Rattle.instructions.specs.Op.{Op, PushInt, PushUint, PushText, PushTruth, PushNull, PushName, PushVariable, PushSlot, TakeField, TakeHas, TakeIndex, TakeItems, TakePairs, TakeUnary, TakeCall, TakeBoth, TakeEither, IfFalse, IfTrue, Branch, Jump, Over}
use Rattle.instructions.specs.declared.instruction.Slot.{Slot}
use Rattle.plan.specs.Names.{Names, bind, slot_of, declared_name, slot_or, place_of}
use Rattle.plan.specs.Tables.{infix_op, between, steps_between, function_named, method_named}
use Rattle.plan.specs.Compilation.{count, pair_count, size, size_of_items, size_of_pairs, compiled, compiled_items, compiled_pairs}
use Rattle.instructions.specs.Machine.{World, or_missing, slot_value, top, in_pairs, Next, step, step_if, exec}
use Rattle.plan.specs.Correct.{spelled, names_of, RunsAsMeant}
use Rattle.plan.proofs.Lengths.{length-between, length-compiled, length-compiled_items, length-compiled_pairs}
use Rattle.plan.proofs.Typed.{IsKnown, HasCode, HaveCode, KeysHaveCode, ValuesHaveCode, has_code, names_in}
use Rattle.plan.proofs.Meets.{Meets, meets, meets_inside, variable_at}

-- the instructions stand in the code at this place
abbrev HasAt : List Op → ℕ → List Op → Type 0
HasAt code at [] = Unit {0}
HasAt code at (i ∷ is) = (slice_get code at ≡ Some i) × HasAt code (at + 1) is

has_front : (code : List Op) (at : ℕ) (a b : List Op) → HasAt code at (a ++ b) → HasAt code at a
has_front code at [] b h = tt
has_front code at (i ∷ a) b h = (h.0, has_front code (at + 1) a b h.1)

has_back : (code : List Op) (at : ℕ) (a b : List Op) → HasAt code at (a ++ b) → HasAt code (at + length a) b
has_back code at [] b h = let e : at ≡ at + 0 = omega arith in subst (λ n. HasAt code n b) e h
has_back code at (i ∷ a) b h =
    let e : at + 1 + length a ≡ at + length (i ∷ a) = omega arith in
    subst (λ n. HasAt code n b) e (has_back code (at + 1) a b h.1)

-- what stands after the code of an expression
after : (code : List Op) (at : ℕ) (t : Expr) (d : Names) (b : List Op) → HasAt code at (compiled t at d ++ b) → HasAt code (at + size t) b
after code at t d b h = subst (λ n. HasAt code (at + n) b) (length-compiled t at d) (has_back code at (compiled t at d) b h)

after_items : (code : List Op) (at : ℕ) (es : Exprs) (d : Names) (b : List Op) → HasAt code at (compiled_items es at d ++ b) → HasAt code (at + size_of_items es) b
after_items code at es d b h = subst (λ n. HasAt code (at + n) b) (length-compiled_items es at d) (has_back code at (compiled_items es at d) b h)

seam : (pre : List Op) (i : Op) (is : List Op) → slice_get (pre ++ i ∷ is) (length pre) ≡ Some i
seam [] i is = refl
seam (j ∷ pre) i is = seam pre i is

after_pairs : (code : List Op) (at : ℕ) (ps : Pairs) (d : Names) (b : List Op) → HasAt code at (compiled_pairs ps at d ++ b) → HasAt code (at + size_of_pairs ps) b
after_pairs code at ps d b h = subst (λ n. HasAt code (at + n) b) (length-compiled_pairs ps at d) (has_back code at (compiled_pairs ps at d) b h)

all_at : (code pre : List Op) (at : ℕ) (is : List Op) → pre ++ is ≡ code → length pre ≡ at → HasAt code at is
all_at code pre at [] e l = tt
all_at code pre at (i ∷ is) e l =
    let here : slice_get (pre ++ i ∷ is) (length pre) ≡ Some i = seam pre i is in
    let joined : (pre ++ i ∷ []) ++ is ≡ code = append_assoc pre (i ∷ []) is ∙ e in
    let next : length (pre ++ i ∷ []) ≡ at + 1 = omega (arith, length-append pre (i ∷ []), l) in
    (ap (λ c. slice_get c at) (sym e) ∙ (ap (slice_get (pre ++ i ∷ is)) (sym l) ∙ here), all_at code (pre ++ i ∷ []) (at + 1) is joined next)

-- a macro over the same outcomes
map_same : (f g : Value → Outcome) → ((v : Value) → f v ≡ g v) → (vs : List Value) → map f vs ≡ map g vs
map_same f g h [] = refl
map_same f g h (v ∷ vs) = ap (λ o. o ∷ map f vs) (h v) ∙ ap (λ os. g v ∷ os) (map_same f g h vs)

over_same : (m : Macro) (f g : Value → Outcome) (r : Option (List Value)) → ((v : Value) → f v ≡ g v) → over_items m f r ≡ over_items m g r
over_same m f g None h = refl
over_same m f g (Some vs) h = ap (λ os. cond (nat_lt 1024 (length vs)) Error (reduced m vs os)) (map_same f g h vs)

-- the left side decides
false_is : (o p : Outcome) → is_false o ≡ true → o ≡ both o p
false_is Error p e = absurd (false≢true e)
false_is (Gives (Truth false)) p e = refl
false_is (Gives (Truth true)) p e = absurd (false≢true e)
false_is (Gives v) p e = absurd (false≢true e)

true_is : (o p : Outcome) → is_true o ≡ true → o ≡ either o p
true_is Error p e = absurd (false≢true e)
true_is (Gives (Truth true)) p e = refl
true_is (Gives (Truth false)) p e = absurd (false≢true e)
true_is (Gives v) p e = absurd (false≢true e)

-- lists of outcomes on the stack, the last on top
pushed : (o : Outcome) (ms os : List Outcome) → reverse ms ++ (o ∷ os) ≡ reverse (o ∷ ms) ++ os
pushed o ms os = sym (append_assoc (reverse ms) (o ∷ []) os) ∙ ap (λ l. l ++ os) (sym (reverse-cons o ms))

take_all : (ms os : List Outcome) (n : ℕ) → length ms ≡ n → take n (ms ++ os) ≡ ms
take_all [] os zero e = refl
take_all [] os (suc n) e = absurd (omega arith)
take_all (m ∷ ms) os zero e = absurd (omega arith)
take_all (m ∷ ms) os (suc n) e = ap (λ l. m ∷ l) (take_all ms os n (omega arith))

drop_all : (ms os : List Outcome) (n : ℕ) → length ms ≡ n → drop n (ms ++ os) ≡ os
drop_all [] os zero e = refl
drop_all [] os (suc n) e = absurd (omega arith)
drop_all (m ∷ ms) os zero e = absurd (omega arith)
drop_all (m ∷ ms) os (suc n) e = drop_all ms os n (omega arith)

-- the outcomes of pairs, one by one
abbrev both_means : Pairs → Environment → List Outcome
both_means no_pairs env = []
both_means (pair k v ps) env = mean k env ∷ mean v env ∷ both_means ps env

means_count : (es : Exprs) (env : Environment) → length (all_means es env) ≡ count es
means_count no_items env = refl
means_count (item e es) env = ap suc (means_count es env)

both_count : (ps : Pairs) (env : Environment) → length (both_means ps env) ≡ pair_count ps + pair_count ps
both_count no_pairs env = refl
both_count (pair k v ps) env = omega (arith, both_count ps env)

in_pairs-both : (ps : Pairs) (env : Environment) → in_pairs (both_means ps env) ≡ pair_means ps env
in_pairs-both no_pairs env = refl
in_pairs-both (pair k v ps) env = ap (λ os. (mean k env, mean v env) ∷ os) (in_pairs-both ps env)

-- what is taken from the stack
taken : (ms os : List Outcome) (n : ℕ) → length ms ≡ n → reverse (take n (reverse ms ++ os)) ≡ ms
taken ms os n e = ap reverse (take_all (reverse ms) os n (length-reverse ms ∙ e)) ∙ reverse-reverse ms

left_over : (ms os : List Outcome) (n : ℕ) → length ms ≡ n → drop n (reverse ms ++ os) ≡ os
left_over ms os n e = drop_all (reverse ms) os n (length-reverse ms ∙ e)

list_taken : (ms os : List Outcome) (n : ℕ) → length ms ≡ n → list_of (reverse (take n (reverse ms ++ os))) ∷ drop n (reverse ms ++ os) ≡ list_of ms ∷ os
list_taken ms os n e = ap (λ l. list_of l ∷ drop n (reverse ms ++ os)) (taken ms os n e) ∙ ap (λ l. list_of ms ∷ l) (left_over ms os n e)

map_taken : (ms os : List Outcome) (qs : List (Outcome × Outcome)) (n : ℕ) → length ms ≡ n → in_pairs ms ≡ qs
    → map_of (in_pairs (reverse (take n (reverse ms ++ os)))) ∷ drop n (reverse ms ++ os) ≡ map_of qs ∷ os
map_taken ms os qs n e f =
    ap (λ l. map_of (in_pairs l) ∷ drop n (reverse ms ++ os)) (taken ms os n e) ∙ (ap (λ l. map_of l ∷ drop n (reverse ms ++ os)) f ∙ ap (λ l. map_of qs ∷ l) (left_over ms os n e))

-- the operand of a field that is no variable ends before the field's end
field_end : (b : Bool) (at to stop n : ℕ) → b ≡ false → at + cond b 1 (n + 1) ≡ to → to ≤ stop → at + n ≤ stop
field_end true at to stop n e end le = absurd (false≢true (sym e))
field_end false at to stop n e end le = omega arith

-- outside all macros a scope has the names that it declares
pub no_locals : (g : Scope) → g.locals ≡ [] → names_in g ≡ names_of g
no_locals g none = ap (λ ls. record { locals = map (λ l. l.0) ls; variables = map (λ v. v.0) g.variables }) none

module _ (w : World) (code : List Op) where
  -- with any fuel that is enough, the machine ends so
  abbrev Ends : (at stop : ℕ) → List Value → List Outcome → List Outcome → Type 0
  Ends at stop items os end = (n : ℕ) → stop - at < n → exec w code n at stop items os ≡ end

  -- what the machine gives from the second place and stack it gives from the first
  record Goes (stop : ℕ) (items : List Value) (at : ℕ) (os : List Outcome) (to : ℕ) (ps : List Outcome) : Type 0 where
    by : (end : List Outcome) → Ends to stop items ps end → Ends at stop items os end

  on : {stop a b c : ℕ} {items : List Value} {os ps qs : List Outcome} → Goes stop items a os b ps → Goes stop items b ps c qs → Goes stop items a os c qs
  on g h = record { by = λ end e. g.by end (h.by end e) }

  -- where the code or a body ends
  arrived : (at : ℕ) (items : List Value) (os : List Outcome) → Ends at at items os os
  arrived at items os zero few = absurd (omega arith)
  arrived at items os (suc n) few =
      let past : nat_lt at at ≡ false = grind (arith, nat_tests) in
      ap (λ b. cond b (step_if w (slice_get code at) (exec w code n) at at items os) os) past

  acts : (op : Op) (stop at : ℕ) (items : List Value) (os : List Outcome) → slice_get code at ≡ Some op → at < stop → (n : ℕ)
      → exec w code (suc n) at stop items os ≡ step w op (exec w code n) at stop items os
  acts op stop at items os h lt n =
      let within : nat_lt at stop ≡ true = grind (arith, nat_tests) in
      ap (λ b. cond b (step_if w (slice_get code at) (exec w code n) at stop items os) os) within
      ∙ ap (λ o. step_if w o (exec w code n) at stop items os) h

  steps : (op : Op) (stop at to : ℕ) (items : List Value) (os ps end : List Outcome) → slice_get code at ≡ Some op → at < stop → at < to
      → ((next : Next) → step w op next at stop items os ≡ next to stop items ps) → Ends to stop items ps end → Ends at stop items os end
  steps op stop at to items os ps end h lt fwd st e zero few = absurd (omega arith)
  steps op stop at to items os ps end h lt fwd st e (suc n) few =
      acts op stop at items os h lt n ∙ (st (exec w code n) ∙ e n (omega arith))

  -- one instruction, which may lead ahead
  one_step : (op : Op) (stop at to : ℕ) (items : List Value) (os ps : List Outcome) → slice_get code at ≡ Some op → at < stop → at < to
      → ((next : Next) → step w op next at stop items os ≡ next to stop items ps) → Goes stop items at os to ps
  one_step op stop at to items os ps h lt fwd st = record { by = λ end e. steps op stop at to items os ps end h lt fwd st e }

  -- one instruction that leads to the next
  simple : (op : Op) (stop at to : ℕ) (items : List Value) (os ps : List Outcome) → slice_get code at ≡ Some op → at + 1 ≡ to → to ≤ stop
      → ((next : Next) → step w op next at stop items os ≡ next (at + 1) stop items ps) → Goes stop items at os to ps
  simple op stop at to items os ps h e le st =
      one_step op stop at to items os ps h (omega arith) (omega arith) (λ next. st next ∙ ap (λ n. next n stop items ps) e)

  -- the same, with what it puts written otherwise
  simple_as : (op : Op) (stop at to : ℕ) (items : List Value) (os ps qs : List Outcome) → slice_get code at ≡ Some op → at + 1 ≡ to → to ≤ stop
      → ((next : Next) → step w op next at stop items os ≡ next (at + 1) stop items ps) → ps ≡ qs → Goes stop items at os to qs
  simple_as op stop at to items os ps qs h e le st same = subst (λ l. Goes stop items at os to l) same (simple op stop at to items os ps h e le st)

  -- no instruction
  stays : (stop at to : ℕ) (items : List Value) (os : List Outcome) → at ≡ to → Goes stop items at os to os
  stays stop at to items os e = subst (λ n. Goes stop items at os n os) e (record { by = λ end h. h })

  name_goes : (stop at to : ℕ) (items : List Value) (os : List Outcome) (d : Names) (env : Environment) (x : List ℕ) (o : Option Slot) → slot_of x d.locals ≡ o
      → IsKnown x d → Meets w d env items → slice_get code at ≡ Some (slot_or o (declared_name x)) → at + 1 ≡ to → to ≤ stop → Goes stop items at os to (bound x env.names ∷ os)
  name_goes stop at to items os d env x (Some s) e known m h end le =
      simple_as (PushSlot s) stop at to items os (slot_value items s ∷ os) (bound x env.names ∷ os) h end le (λ next. refl) (ap (λ v. v ∷ os) (sym (m.slots x s e)))
  name_goes stop at to items os d env x None e known m h end le =
      let n = declared_name x in
      let free : slot_of (spelled n) d.locals ≡ None = ap (λ y. slot_of y d.locals) (known e) ∙ e in
      let same : w.names n ≡ bound x env.names = sym (m.names n free) ∙ ap (λ y. bound y env.names) (known e) in
      simple_as (PushName n) stop at to items os (w.names n ∷ os) (bound x env.names ∷ os) h end le (λ next. refl) (ap (λ v. v ∷ os) same)

  field_goes : (stop at to : ℕ) (items : List Value) (os : List Outcome) (d : Names) (env : Environment) (e : Expr) (f : List ℕ) (b : Bool) → is_variables e ≡ b
      → Meets w d env items → HasAt code at (cond b (PushVariable (place_of f d.variables) ∷ []) (compiled e at d ++ TakeField f ∷ [])) → at + cond b 1 (size e + 1) ≡ to → to ≤ stop
      → (b ≡ false → HasAt code at (compiled e at d) → Goes stop items at os (at + size e) (mean e env ∷ os))
      → Goes stop items at os to (cond b (bound f env.variables) (with_value (member f) (mean e env)) ∷ os)
  field_goes stop at to items os d env e f true is m h end le goes =
      let place : or_missing (slice_get w.variables (place_of f d.variables)) ≡ bound f env.variables =
      ap (λ vs. or_missing (slice_get vs (place_of f d.variables))) m.variables
      ∙ (ap (λ ns. or_missing (slice_get (map (λ b. b.1) env.variables) (place_of f ns))) (sym m.variable_names) ∙ variable_at f env.variables) in
      simple_as (PushVariable (place_of f d.variables)) stop at to items os (or_missing (slice_get w.variables (place_of f d.variables)) ∷ os) (bound f env.variables ∷ os) h.0 end le
      (λ next. refl) (ap (λ v. v ∷ os) place)
  field_goes stop at to items os d env e f false is m h end le goes =
      on (goes refl (has_front code at (compiled e at d) (TakeField f ∷ []) h))
      (simple (TakeField f) stop (at + size e) to items (mean e env ∷ os) (with_value (member f) (mean e env) ∷ os) (after code at e d (TakeField f ∷ []) h).0 (omega arith) le (λ next. refl))

  -- `&&` and `||`: the left side decides, or both are taken
  decides : (op last : Op) (test : Outcome → Bool) (f : Outcome → Outcome → Outcome) (stop p r q to : ℕ) (items : List Value) (os : List Outcome) (a b : Outcome) (t : Bool)
      → slice_get code p ≡ Some op → slice_get code q ≡ Some last → p + 1 ≡ r → r ≤ q → q + 1 ≡ to → to ≤ stop
      → ((next : Next) → step w op next p stop items (a ∷ os) ≡ next (cond (test a) to (p + 1)) stop items (a ∷ os))
      → ((next : Next) → step w last next q stop items (b ∷ a ∷ os) ≡ next (q + 1) stop items (f a b ∷ os))
      → ((ps : List Outcome) → Goes stop items r ps q (b ∷ ps)) → test a ≡ t → (test a ≡ true → a ≡ f a b) → Goes stop items p (a ∷ os) to (f a b ∷ os)
  decides op last test f stop p r q to items os a b true h l pr rq qt le st lst right e same =
      one_step op stop p to items (a ∷ os) (f a b ∷ os) h (omega arith) (omega arith)
      (λ next. st next ∙ (ap (λ t. next (cond t to (p + 1)) stop items (a ∷ os)) e ∙ ap (λ o. next to stop items (o ∷ os)) (same e)))
  decides op last test f stop p r q to items os a b false h l pr rq qt le st lst right e same =
      on (one_step op stop p r items (a ∷ os) (a ∷ os) h (omega arith) (omega arith)
      (λ next. st next ∙ (ap (λ t. next (cond t to (p + 1)) stop items (a ∷ os)) e ∙ ap (λ n. next n stop items (a ∷ os)) pr)))
      (on (right (a ∷ os)) (simple last stop q to items (b ∷ a ∷ os) (f a b ∷ os) l qt le lst))

  infix_goes : (o : Operator) (stop p r q to : ℕ) (items : List Value) (os : List Outcome) (a b : Outcome)
      → HasAt code p (between o to) → slice_get code q ≡ Some (infix_op o) → p + steps_between o ≡ r → r ≤ q → q + 1 ≡ to → to ≤ stop
      → ((ps : List Outcome) → Goes stop items r ps q (b ∷ ps)) → Goes stop items p (a ∷ os) to (infixed o a b ∷ os)
  infix_goes operator_of.And stop p r q to items os a b h l pr rq qt le right =
      decides (IfFalse to) TakeBoth is_false both stop p r q to items os a b (is_false a) h.0 l pr rq qt le (λ next. refl) (λ next. refl) right refl (false_is a b)
  infix_goes operator_of.Or stop p r q to items os a b h l pr rq qt le right =
      decides (IfTrue to) TakeEither is_true either stop p r q to items os a b (is_true a) h.0 l pr rq qt le (λ next. refl) (λ next. refl) right refl (true_is a b)
  infix_goes o stop p r q to items os a b h l pr rq qt le right =
      let here : r ≡ p = omega arith in
      on (subst (λ n. Goes stop items n (a ∷ os) q (b ∷ a ∷ os)) here (right (a ∷ os)))
      (simple (infix_op o) stop q to items (b ∷ a ∷ os) (infixed o a b ∷ os) l qt le (λ next. refl))

  -- one of two branches, or the error
  chooses : (stop p r q s to : ℕ) (items : List Value) (os : List Outcome) (c a b : Outcome) (t u : Bool)
      → slice_get code p ≡ Some (Branch s to) → slice_get code q ≡ Some (Jump to) → p + 1 ≡ r → r ≤ q → q + 1 ≡ s → s ≤ to → to ≤ stop → is_true c ≡ t → is_false c ≡ u
      → Goes stop items r os q (a ∷ os) → Goes stop items s os to (b ∷ os) → Goes stop items p (c ∷ os) to (cond t a (cond u b Error) ∷ os)
  chooses stop p r q s to items os c a b true u h l pr rq qs st le e f first second =
      on (one_step (Branch s to) stop p r items (c ∷ os) os h (omega arith) (omega arith)
      (λ next. ap (λ t. cond t (next (p + 1) stop items os) (cond (is_false c) (next s stop items os) (next to stop items (Error ∷ os)))) e ∙ ap (λ n. next n stop items os) pr))
      (on first (one_step (Jump to) stop q to items (a ∷ os) (a ∷ os) l (omega arith) (omega arith) (λ next. refl)))
  chooses stop p r q s to items os c a b false true h l pr rq qs st le e f first second =
      on (one_step (Branch s to) stop p s items (c ∷ os) os h (omega arith) (omega arith)
      (λ next. ap (λ t. cond t (next (p + 1) stop items os) (cond (is_false c) (next s stop items os) (next to stop items (Error ∷ os)))) e
      ∙ ap (λ u. cond u (next s stop items os) (next to stop items (Error ∷ os))) f))
      second
  chooses stop p r q s to items os c a b false false h l pr rq qs st le e f first second =
      one_step (Branch s to) stop p to items (c ∷ os) (Error ∷ os) h (omega arith) (omega arith)
      (λ next. ap (λ t. cond t (next (p + 1) stop items os) (cond (is_false c) (next s stop items os) (next to stop items (Error ∷ os)))) e
      ∙ ap (λ u. cond u (next s stop items os) (next to stop items (Error ∷ os))) f)

  -- a macro, whose body gives one outcome for each item
  loops : (m : Macro) (f : Value → Outcome) (stop p r to : ℕ) (items : List Value) (o : Outcome) (os end : List Outcome)
      → slice_get code p ≡ Some (Over m to) → p + 1 ≡ r → r ≤ to → to ≤ stop → ((v : Value) → Goes to (items ++ v ∷ []) r [] to (f v ∷ []))
      → Ends to stop items (over_items m f (range_of o) ∷ os) end → Ends p stop items (o ∷ os) end
  loops m f stop p r to items o os end h pr rt le body e zero few = absurd (omega arith)
  loops m f stop p r to items o os end h pr rt le body e (suc n) few =
      let each = λ (v : Value). ap (λ q. top (exec w code n q to (items ++ v ∷ []) [])) pr
      ∙ ap top ((body v).by (f v ∷ []) (arrived to (items ++ v ∷ []) (f v ∷ [])) n (omega arith)) in
      acts (Over m to) stop p items (o ∷ os) h (omega arith) n
      ∙ (ap (λ q. exec w code n to stop items (q ∷ os)) (over_same m (λ v. top (exec w code n (p + 1) to (items ++ v ∷ []) [])) f (range_of o) each) ∙ e n (omega arith))

  over_goes : (m : Macro) (f : Value → Outcome) (stop p r to : ℕ) (items : List Value) (o : Outcome) (os : List Outcome)
      → slice_get code p ≡ Some (Over m to) → p + 1 ≡ r → r ≤ to → to ≤ stop → ((v : Value) → Goes to (items ++ v ∷ []) r [] to (f v ∷ []))
      → Goes stop items p (o ∷ os) to (over_items m f (range_of o) ∷ os)
  over_goes m f stop p r to items o os h pr rt le body = record { by = λ end e. loops m f stop p r to items o os end h pr rt le body e }

  mutual
    runs : (t : Expr) (at to stop k : ℕ) (d : Names) (env : Environment) (items : List Value) (os : List Outcome) → HasCode t d → nests_within t k ≡ true
        → length d.locals + k ≤ 2 → Meets w d env items → HasAt code at (compiled t at d) → at + size t ≡ to → to ≤ stop → Goes stop items at os to (mean t env ∷ os)
    runs expr.Null at to stop k d env items os known nest deep m h end le = simple PushNull stop at to items os (Gives Null ∷ os) h.0 end le (λ next. refl)
    runs (expr.Truth b) at to stop k d env items os known nest deep m h end le = simple (PushTruth b) stop at to items os (Gives (Truth b) ∷ os) h.0 end le (λ next. refl)
    runs (expr.Int z) at to stop k d env items os known nest deep m h end le = simple (PushInt z) stop at to items os (Gives (Int z) ∷ os) h.0 end le (λ next. refl)
    runs (expr.Uint n) at to stop k d env items os known nest deep m h end le = simple (PushUint n) stop at to items os (Gives (Uint n) ∷ os) h.0 end le (λ next. refl)
    runs (expr.Text s) at to stop k d env items os known nest deep m h end le = simple (PushText s) stop at to items os (Gives (Text s) ∷ os) h.0 end le (λ next. refl)
    runs (expr.Name x) at to stop k d env items os known nest deep m h end le = name_goes stop at to items os d env x (slot_of x d.locals) refl known m h.0 end le
    runs (expr.Field e f) at to stop k d env items os known nest deep m h end le =
        field_goes stop at to items os d env e f (is_variables e) refl m h end le
        (λ no_variable has. runs e at (at + size e) stop k d env items os (known.1 no_variable) nest deep m has refl (field_end (is_variables e) at to stop (size e) no_variable end le))
    runs (expr.Has e f) at to stop k d env items os known nest deep m h end le =
        on (runs e at (at + size e) stop k d env items os known nest deep m (has_front code at (compiled e at d) (TakeHas f ∷ []) h) refl (omega arith))
        (simple (TakeHas f) stop (at + size e) to items (mean e env ∷ os) (with_value (has_member f) (mean e env) ∷ os) (after code at e d (TakeHas f ∷ []) h).0 (omega arith) le (λ next. refl))
    runs (expr.Index e i) at to stop k d env items os known nest deep m h end le =
        let p = at + size e in
        let nests = and_parts (nests_within e k) (nests_within i k) nest in
        let second = after code at e d (compiled i p d ++ TakeIndex ∷ []) h in
        on (runs e at p stop k d env items os known.0 nests.0 deep m (has_front code at (compiled e at d) (compiled i p d ++ TakeIndex ∷ []) h) refl (omega arith))
        (on (runs i p (p + size i) stop k d env items (mean e env ∷ os) known.1 nests.1 deep m (has_front code p (compiled i p d) (TakeIndex ∷ []) second) refl (omega arith))
        (simple TakeIndex stop (p + size i) to items (mean i env ∷ mean e env ∷ os) (with_values indexed (mean e env) (mean i env) ∷ os)
        (after code p i d (TakeIndex ∷ []) second).0 (omega arith) le (λ next. refl)))
    runs (expr.Sequence es) at to stop k d env items os known nest deep m h end le =
        let n = count es in
        let p = at + size_of_items es in
        let ms = all_means es env in
        on (runs_all es at p stop k d env items os known nest deep m (has_front code at (compiled_items es at d) (TakeItems n ∷ []) h) refl (omega arith))
        (simple_as (TakeItems n) stop p to items (reverse ms ++ os) (list_of (reverse (take n (reverse ms ++ os))) ∷ drop n (reverse ms ++ os)) (list_of ms ∷ os)
        (after_items code at es d (TakeItems n ∷ []) h).0 (omega arith) le (λ next. refl) (list_taken ms os n (means_count es env)))
    runs (expr.Mapping ps) at to stop k d env items os known nest deep m h end le =
        let n = pair_count ps in
        let p = at + size_of_pairs ps in
        let ms = both_means ps env in
        on (runs_pairs ps at p stop k d env items os known.0 known.1 nest deep m (has_front code at (compiled_pairs ps at d) (TakePairs n ∷ []) h) refl (omega arith))
        (simple_as (TakePairs n) stop p to items (reverse ms ++ os) (map_of (in_pairs (reverse (take (n + n) (reverse ms ++ os)))) ∷ drop (n + n) (reverse ms ++ os)) (map_of (pair_means ps env) ∷ os)
        (after_pairs code at ps d (TakePairs n ∷ []) h).0 (omega arith) le (λ next. refl) (map_taken ms os (pair_means ps env) (n + n) (both_count ps env) (in_pairs-both ps env)))
    runs (expr.Unary p e) at to stop k d env items os known nest deep m h end le =
        on (runs e at (at + size e) stop k d env items os known nest deep m (has_front code at (compiled e at d) (TakeUnary p ∷ []) h) refl (omega arith))
        (simple (TakeUnary p) stop (at + size e) to items (mean e env ∷ os) (with_value (prefixed p) (mean e env) ∷ os) (after code at e d (TakeUnary p ∷ []) h).0 (omega arith) le (λ next. refl))
    runs (expr.Infix o a b) at to stop k d env items os known nest deep m h end le =
        let p = at + size a in
        let r = at + size a + steps_between o in
        let q = at + size a + steps_between o + size b in
        let last = infix_op o ∷ [] in
        let target = at + size (expr.Infix o a b) in
        let nests = and_parts (nests_within a k) (nests_within b k) nest in
        let middle = after code at a d (between o target ++ (compiled b r d ++ last)) h in
        let jump = has_front code p (between o target) (compiled b r d ++ last) middle in
        let right = subst (λ n. HasAt code (p + n) (compiled b r d ++ last)) (length-between o target) (has_back code p (between o target) (compiled b r d ++ last) middle) in
        on (runs a at p stop k d env items os known.0 nests.0 deep m (has_front code at (compiled a at d) (between o target ++ (compiled b r d ++ last)) h) refl (omega arith))
        (infix_goes o stop p r q to items os (mean a env) (mean b env) (subst (λ n. HasAt code p (between o n)) end jump) (after code r b d last right).0 refl (omega arith) (omega arith) le
        (λ ps. runs b r q stop k d env items ps known.1 nests.1 deep m (has_front code r (compiled b r d) last right) refl (omega arith)))
    runs (expr.Conditional c a b) at to stop k d env items os known nest deep m h end le =
        let p = at + size c in
        let r = at + size c + 1 in
        let q = at + size c + 1 + size a in
        let s = at + size c + 1 + size a + 1 in
        let target = at + size (expr.Conditional c a b) in
        let nests = and_parts (nests_within c k) (nests_within a k && nests_within b k) nest in
        let nested = and_parts (nests_within a k) (nests_within b k) nests.1 in
        let branch = after code at c d (Branch s target ∷ (compiled a r d ++ (Jump target ∷ compiled b s d))) h in
        let jump = after code r a d (Jump target ∷ compiled b s d) branch.1 in
        on (runs c at p stop k d env items os known.0 nests.0 deep m (has_front code at (compiled c at d) (Branch s target ∷ (compiled a r d ++ (Jump target ∷ compiled b s d))) h) refl (omega arith))
        (chooses stop p r q s to items os (mean c env) (mean a env) (mean b env) (is_true (mean c env)) (is_false (mean c env))
        (branch.0 ∙ ap (λ n. Some (Branch s n)) end) (jump.0 ∙ ap (λ n. Some (Jump n)) end) refl (omega arith) refl (omega arith) le refl refl
        (runs a r q stop k d env items os known.1 nested.0 deep m (has_front code r (compiled a r d) (Jump target ∷ compiled b s d) branch.1) refl (omega arith))
        (runs b s to stop k d env items os known.2 nested.1 deep m jump.1 (omega arith) le))
    runs (expr.Call f no_items) at to stop k d env items os known nest deep m h end le = absurd known.0
    runs (expr.Call f (item e no_items)) at to stop k d env items os known nest deep m h end le =
        let es = item e no_items in
        let q = at + size_of_items es in
        let op = TakeCall (function_named f) in
        let nests = and_parts (nests_within e k) true nest in
        on (runs e at q stop k d env items os known.1.0 nests.0 deep m (has_front code at (compiled e at d) [] (has_front code at (compiled_items es at d) (op ∷ []) h)) (omega arith) (omega arith))
        (simple op stop q to items (mean e env ∷ os) (called f (mean e env ∷ []) ∷ os) (after_items code at es d (op ∷ []) h).0 (omega arith) le
        (λ next. ap (λ l. next (q + 1) stop items l) (known.0.1 (mean e env) os)))
    runs (expr.Call f (item e (item g es))) at to stop k d env items os known nest deep m h end le = absurd known.0
    runs (expr.Method e f no_items) at to stop k d env items os known nest deep m h end le =
        let p = at + size e in
        let op = TakeCall (method_named f) in
        let nests = and_parts (nests_within e k) true nest in
        on (runs e at p stop k d env items os known.1 nests.0 deep m (has_front code at (compiled e at d) (op ∷ []) h) refl (omega arith))
        (simple op stop p to items (mean e env ∷ os) (method_called f (mean e env) [] ∷ os) (after code at e d (op ∷ []) h).0 (omega arith) le
        (λ next. ap (λ l. next (p + 1) stop items l) (known.0.1 (mean e env) os)))
    runs (expr.Method e f (item g no_items)) at to stop k d env items os known nest deep m h end le =
        let es = item g no_items in
        let p = at + size e in
        let q = p + size_of_items es in
        let op = TakeCall (method_named f) in
        let nests = and_parts (nests_within e k) (nests_within g k && true) nest in
        let nested = and_parts (nests_within g k) true nests.1 in
        let second = after code at e d (compiled_items es p d ++ op ∷ []) h in
        on (runs e at p stop k d env items os known.1 nests.0 deep m (has_front code at (compiled e at d) (compiled_items es p d ++ op ∷ []) h) refl (omega arith))
        (on (runs g p q stop k d env items (mean e env ∷ os) known.2.0 nested.0 deep m (has_front code p (compiled g p d) [] (has_front code p (compiled_items es p d) (op ∷ []) second)) (omega arith) (omega arith))
        (simple op stop q to items (mean g env ∷ mean e env ∷ os) (method_called f (mean e env) (mean g env ∷ []) ∷ os) (after_items code p es d (op ∷ []) second).0 (omega arith) le
        (λ next. ap (λ l. next (q + 1) stop items l) (known.0.1 (mean e env) (mean g env) os))))
    runs (expr.Method e f (item g (item i es))) at to stop k d env items os known nest deep m h end le = absurd known.0
    runs (expr.Over c e x body) at to stop zero d env items os known nest deep m h end le = absurd (false≢true nest)
    runs (expr.Over c e x body) at to stop (suc k) d env items os known nest deep m h end le =
        let p = at + size e in
        let r = at + size e + 1 in
        let target = at + size (expr.Over c e x body) in
        let nests = and_parts (nests_within e (suc k)) (nests_within body k) nest in
        let loop = after code at e d (Over c target ∷ compiled body r (bind x d)) h in
        on (runs e at p stop (suc k) d env items os known.0 nests.0 deep m (has_front code at (compiled e at d) (Over c target ∷ compiled body r (bind x d)) h) refl (omega arith))
        (over_goes c (λ v. mean body (meaning.bind x v env)) stop p r to items (mean e env) os (loop.0 ∙ ap (λ n. Some (Over c n)) end) refl (omega arith) le
        (λ v. runs body r to to k (bind x d) (meaning.bind x v env) (items ++ v ∷ []) [] known.1 nests.1 (omega arith) (meets_inside w d env items x v (omega arith) m) loop.1 (omega arith) (omega arith)))

    runs_all : (es : Exprs) (at to stop k : ℕ) (d : Names) (env : Environment) (items : List Value) (os : List Outcome) → HaveCode es d → all_within es k ≡ true
        → length d.locals + k ≤ 2 → Meets w d env items → HasAt code at (compiled_items es at d) → at + size_of_items es ≡ to → to ≤ stop
        → Goes stop items at os to (reverse (all_means es env) ++ os)
    runs_all no_items at to stop k d env items os known nest deep m h end le = stays stop at to items os (omega arith)
    runs_all (item e es) at to stop k d env items os known nest deep m h end le =
        let p = at + size e in
        let nests = and_parts (nests_within e k) (all_within es k) nest in
        on (runs e at p stop k d env items os known.0 nests.0 deep m (has_front code at (compiled e at d) (compiled_items es p d) h) refl (omega arith))
        (subst (λ l. Goes stop items p (mean e env ∷ os) to l) (pushed (mean e env) (all_means es env) os)
        (runs_all es p to stop k d env items (mean e env ∷ os) known.1 nests.1 deep m (after code at e d (compiled_items es p d) h) (omega arith) le))

    runs_pairs : (ps : Pairs) (at to stop k : ℕ) (d : Names) (env : Environment) (items : List Value) (os : List Outcome) → KeysHaveCode ps d → ValuesHaveCode ps d → pairs_within ps k ≡ true
        → length d.locals + k ≤ 2 → Meets w d env items → HasAt code at (compiled_pairs ps at d) → at + size_of_pairs ps ≡ to → to ≤ stop
        → Goes stop items at os to (reverse (both_means ps env) ++ os)
    runs_pairs no_pairs at to stop k d env items os ks vs nest deep m h end le = stays stop at to items os (omega arith)
    runs_pairs (pair a b ps) at to stop k d env items os ks vs nest deep m h end le =
        let p = at + size a in
        let q = at + size a + size b in
        let nests = and_parts (nests_within a k && nests_within b k) (pairs_within ps k) nest in
        let nested = and_parts (nests_within a k) (nests_within b k) nests.0 in
        let second = after code at a d (compiled b p d ++ compiled_pairs ps q d) h in
        on (runs a at p stop k d env items os ks.0 nested.0 deep m (has_front code at (compiled a at d) (compiled b p d ++ compiled_pairs ps q d) h) refl (omega arith))
        (on (runs b p q stop k d env items (mean a env ∷ os) vs.0 nested.1 deep m (has_front code p (compiled b p d) (compiled_pairs ps q d) second) refl (omega arith))
        (subst (λ l. Goes stop items q (mean b env ∷ mean a env ∷ os) to l) (pushed (mean b env) (both_means ps env) (mean a env ∷ os) ∙ pushed (mean a env) (mean b env ∷ both_means ps env) os)
        (runs_pairs ps q to stop k d env items (mean b env ∷ mean a env ∷ os) ks.1 vs.1 nests.1 deep m (after code p b d (compiled_pairs ps q d) second) (omega arith) le)))

pub code_means : RunsAsMeant
code_means g e w env none typed nest world =
    let d = names_of g in
    let code = compiled e 0 d in
    let length_is : length code ≡ size e = length-compiled e 0 d in
    let known = subst (λ (n : Names). HasCode e n) (no_locals g none) (has_code typed.1) in
    let goes = runs w code e 0 (length code) (length code) 2 d env [] [] known nest (omega arith) (meets w d env refl world) (all_at code [] 0 code refl refl) (omega arith) (omega arith) in
    ap top (goes.by (mean e env ∷ []) (arrived w code (length code) [] (mean e env ∷ [])) (suc (length code)) (omega arith))
