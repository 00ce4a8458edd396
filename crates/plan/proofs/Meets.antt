-- The machine's world and items, and the environment, inside macros.
use Rattle.std.proofs.Common.{◌≡◌, ℕ, suc, ◌<◌, Bool, true, false, cond, Some, None, List, [], ◌∷◌, ◌++◌, bytes_eq, map, length, refl, sym, ap, ◌∙◌, arith, length-append}
use Rattle.std.specs.Prelude.{slice_get}
use Rattle.std.proofs.lemmas.Option.{none-some, same_Some}
use Rattle.instructions.specs.declared.instruction.Name.{Name}
use Rattle.instructions.specs.declared.instruction.Slot.{Slot}
use Rattle.instructions.specs.declared.instruction.Slot.TheVariants as slot
use Rattle.celmean.specs.Value.{Value, Outcome, Gives}
use Rattle.celmean.specs.Meaning as meaning
use Rattle.celmean.specs.Meaning.{Environment, bound}
use Rattle.plan.specs.Names.{Names, bind, slot_inside, slot_of, place_of}
use Rattle.instructions.specs.Machine.{World, or_missing, slot_value}
use Rattle.plan.specs.Correct.{spelled, IsWorldOf}

-- Macro variables stand for the items, declared names and variables for the world's.
pub record Meets (w : World) (d : Names) (env : Environment) (items : List Value) : Type 0 where
  pub slots : (x : List ℕ) (s : Slot) → slot_of x d.locals ≡ Some s → bound x env.names ≡ slot_value items s
  pub names : (x : Name) → slot_of (spelled x) d.locals ≡ None → bound (spelled x) env.names ≡ w.names x
  pub variable_names : map (λ b. b.0) env.variables ≡ d.variables
  pub variables : w.variables ≡ map (λ b. b.1) env.variables
  pub depth : length items ≡ length d.locals

-- outside all macros
pub meets : (w : World) (d : Names) (env : Environment) → d.locals ≡ [] → IsWorldOf w d env → Meets w d env []
meets w d env none h = record {
  slots = λ x s e. absurd (none-some s (ap (slot_of x) (sym none) ∙ e));
  names = λ x e. sym (h.names x);
  variable_names = h.variable_names;
  variables = h.variables;
  depth = ap length (sym none);
}

-- the outer variable stays where it is
outer_kept : (b : Bool) (s : Slot) (u v : Value) → cond b (Some slot.Outer) None ≡ Some s → slot_value (u ∷ []) s ≡ slot_value (u ∷ v ∷ []) s
outer_kept true slot.Outer u v e = refl
outer_kept true slot.Inner u v e = cc
outer_kept false s u v e = absurd (none-some s e)

-- the slot of a name inside one macro more
inner_slot : (b : Bool) (y : List ℕ) (s : Slot) (ls : List (List ℕ)) (items : List Value) (v : Value) (o : Outcome) → length items ≡ length ls → length ls < 2
    → cond b (Some (slot_inside ls)) (slot_of y ls) ≡ Some s → (slot_of y ls ≡ Some s → o ≡ slot_value items s) → cond b (Gives v) o ≡ slot_value (items ++ v ∷ []) s
inner_slot true y s [] [] v o same few e h = ap (slot_value (v ∷ [])) (same_Some slot.Outer s e)
inner_slot true y s (l ∷ []) (u ∷ []) v o same few e h = ap (slot_value (u ∷ v ∷ [])) (same_Some slot.Inner s e)
inner_slot false y s [] [] v o same few e h = absurd (none-some s e)
inner_slot false y s (l ∷ []) (u ∷ []) v o same few e h = h e ∙ outer_kept (bytes_eq y l) s u v e
inner_slot b y s (l ∷ m ∷ ls) items v o same few e h = absurd (omega arith)
inner_slot b y s [] (u ∷ items) v o same few e h = absurd (omega arith)
inner_slot b y s (l ∷ []) [] v o same few e h = absurd (omega arith)
inner_slot b y s (l ∷ []) (u ∷ t ∷ items) v o same few e h = absurd (omega arith)

-- a declared name inside one macro more
inner_name : (b : Bool) (ls : List (List ℕ)) (x : List ℕ) (v : Value) (o p : Outcome) → cond b (Some (slot_inside ls)) (slot_of x ls) ≡ None
    → (slot_of x ls ≡ None → o ≡ p) → cond b (Gives v) o ≡ p
inner_name true ls x v o p e h = absurd (none-some (slot_inside ls) (sym e))
inner_name false ls x v o p e h = h e

pub meets_inside : (w : World) (d : Names) (env : Environment) (items : List Value) (x : List ℕ) (v : Value) → length d.locals < 2 → Meets w d env items
    → Meets w (bind x d) (meaning.bind x v env) (items ++ v ∷ [])
meets_inside w d env items x v few m = record {
  slots = λ y s e. inner_slot (bytes_eq y x) y s d.locals items v (bound y env.names) m.depth few e (m.slots y s);
  names = λ y e. inner_name (bytes_eq (spelled y) x) d.locals (spelled y) v (bound (spelled y) env.names) (w.names y) e (m.names y);
  variable_names = m.variable_names;
  variables = m.variables;
  depth = omega (arith, length-append items (v ∷ []), m.depth);
}

-- what stands after `variables.`, by its place
at_place : (b : Bool) (o : Outcome) (os : List Outcome) (n : ℕ) (p : Outcome) → or_missing (slice_get os n) ≡ p → or_missing (slice_get (o ∷ os) (cond b 0 (suc n))) ≡ cond b o p
at_place true o os n p e = refl
at_place false o os n p e = e

pub variable_at : (f : List ℕ) (vs : List (List ℕ × Outcome)) → or_missing (slice_get (map (λ b. b.1) vs) (place_of f (map (λ b. b.0) vs))) ≡ bound f vs
variable_at f [] = refl
variable_at f (v ∷ vs) = at_place (bytes_eq f v.0) v.1 (map (λ b. b.1) vs) (place_of f (map (λ b. b.0) vs)) (bound f vs) (variable_at f vs)
