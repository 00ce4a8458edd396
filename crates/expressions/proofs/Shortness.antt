-- The expressions of a policy have together no more bytes than its text.
use Rattle.std.proofs.Common.{◌≡◌, ◌≢◌, ◌≤◌, ◌∙◌, sym, ap, refl, ℕ, ◌+◌, List, [], ◌∷◌, ◌++◌, length, map, Bool, true, false, true≢false, bytes_eq, not, ◌==◌, Option, Some, None, arith, option_map}
use Rattle.std.proofs.lemmas.Slice.Eq.{bytes_eq-Decides}
use Rattle.std.specs.List.{flat_map}
use Rattle.std.specs.Option.{option_map_or}
use Rattle.std.specs.Prelude.{codes}
use Rattle.serde_json.specs.Data.{Data, Items, no_items, item}
use Rattle.serde_json.specs.Find.{get, as_str, as_array}
use Rattle.jsondoc.specs.Json.{text}
use Rattle.policy.specs.declared.policy.FailurePolicy.TheVariants.{Fail}
use Rattle.policy.specs.declared.validation.Reason.TheVariants.{Invalid}
use Rattle.policy.specs.MatchRules.{match_rules_of}
use Rattle.policy.specs.Forms.{Text, given, provided, has_only, field, perhaps, read_or, optional, each, list_of, filled_list_of}
use Rattle.policy.specs.Policies.{named_of, are_conditions, are_variables, reason_of, validation_of, param_kind_of, failure_policy_of, has_rules, policy_members, policy_spec_of, policy_of}
use Rattle.policy.specs.Spec.{NamedExpression, Policy}
use Rattle.policy.specs.Validation.{Validation}
use Rattle.expressions.specs.Expressions.{message, Source, of_condition, of_variable, of_validation, sources}
use Rattle.expressions.specs.Laws.{total_length}
use Rattle.expressions.proofs.Weights.{weight, items_weight, found_weight, weight_at, three_at, text_weight, array_weight, within_text}

differ : (a b : List ℕ) → bytes_eq a b ≡ false → a ≢ b
differ a b other same = true≢false (sym ((bytes_eq-Decides a b).1 same) ∙ other)

-- ---- what forms are made of

given_some : {A B : Type 0} (o : Option A) (f : A → Option B) (y : B) → given o f ≡ Some y → (x : A) × (o ≡ Some x) × (f x ≡ Some y)
given_some None f y is = cc
given_some (Some x) f y is = (x, refl, is)

provided_some : {A : Type 0} (b : Bool) (o : Option A) (y : A) → provided b o ≡ Some y → o ≡ Some y
provided_some true o y is = is
provided_some false o y is = cc

mapped_some : {A B : Type 0} (g : A → B) (o : Option A) (y : B) → option_map g o ≡ Some y → (x : A) × (o ≡ Some x) × (g x ≡ y)
mapped_some g None y is = cc
mapped_some g (Some x) y is = (x, refl, let same : Some (g x) ≡ Some y = is in cc)

of_found : (o : Option Data) (d : Data) (n : ℕ) → o ≡ Some d → n ≤ weight d → n ≤ found_weight o
of_found None d n is short = cc
of_found (Some e) d n is short = let same : e ≡ d = cc in omega (arith, ap weight same, short)

text_short : (k : Text) (d : Data) (s : Text) → field k as_str d ≡ Some s → length s ≤ weight_at k d
text_short k d s is =
    let found = given_some (get k d) as_str s is in
    of_found (get k d) found.0 (length s) found.1 (text_weight found.0 s found.2)

optional_read : (o : Option Data) (m : Option Text) → read_or (λ e. option_map (λ (s : Text). Some s) (as_str e)) None o ≡ Some m → option_map_or (λ (s : Text). length s) m 0 ≤ found_weight o
optional_read None None is = omega arith
optional_read None (Some s) is = cc
optional_read (Some d) m is =
    let found = mapped_some (λ (s : Text). Some s) (as_str d) m is in
    let short = text_weight d found.0 found.1 in
    let same : option_map_or (λ (s : Text). length s) m 0 ≡ length found.0 = ap (λ (o : Option Text). option_map_or (λ (s : Text). length s) o 0) (sym found.2) in
    omega (arith, same, short)

-- ---- lists

abbrev total : {A : Type 0} → (A → ℕ) → List A → ℕ
total size [] = 0
total size (x ∷ xs) = size x + total size xs

module _ {A : Type 0} (f : Data → Option A) (size : A → ℕ) (short : (d : Data) (x : A) → f d ≡ Some x → size x ≤ weight d) where
  each_short : (ds : Items) (xs : List A) → each f ds ≡ Some xs → total size xs ≤ items_weight ds
  each_short no_items [] is = omega arith
  each_short no_items (x ∷ xs) is = cc
  each_short (item d ds) xs is =
      let first = given_some (f d) (λ x. option_map (λ ys. x ∷ ys) (each f ds)) xs is in
      let others = mapped_some (λ ys. first.0 ∷ ys) (each f ds) xs first.2 in
      let rest = each_short ds others.0 others.1 in
      let same : size first.0 + total size others.0 ≡ total size xs = ap (total size) others.2 in
      omega (arith, short d first.0 first.1, rest, same)

  list_short : (d : Data) (xs : List A) → list_of f d ≡ Some xs → total size xs ≤ weight d
  list_short d xs is =
      let found = given_some (as_array d) (each f) xs is in
      omega (arith, each_short found.0 xs found.2, array_weight d found.0 found.1)

  perhaps_read : (o : Option Data) (xs : List A) → read_or (list_of f) [] o ≡ Some xs → total size xs ≤ found_weight o
  perhaps_read None [] is = omega arith
  perhaps_read None (x ∷ xs) is = cc
  perhaps_read (Some d) xs is = list_short d xs is

  filled_short : (k : Text) (d : Data) (xs : List A) → field k (filled_list_of f) d ≡ Some xs → total size xs ≤ weight_at k d
  filled_short k d xs is =
      let member = given_some (get k d) (filled_list_of f) xs is in
      let list = given_some (list_of f member.0) _ xs member.2 in
      let filled : Some list.0 ≡ Some xs = provided_some (not (length list.0 == 0)) (Some list.0) xs list.2 in
      let same : list.0 ≡ xs = cc in
      of_found (get k d) member.0 (total size xs) member.1 (omega (arith, list_short member.0 list.0 list.1, ap (total size) same))

-- ---- conditions, variables and validations

named_short : (d : Data) (n : NamedExpression) → named_of d ≡ Some n → length n.expression ≤ weight d
named_short d n is =
    let name = given_some (field (codes "name") as_str d) _ n (provided_some (has_only (codes "name" ∷ codes "expression" ∷ []) d) _ n is) in
    let expression = given_some (field (codes "expression") as_str d) _ n name.2 in
    let made : Some (record { name = name.0; expression = expression.0 }) ≡ Some n = expression.2 in
    let same : expression.0 ≡ n.expression = ap (λ (o : Option NamedExpression). option_map_or (λ (m : NamedExpression). m.expression) o []) made in
    let short = text_short (codes "expression") d expression.0 expression.1 in
    let within = three_at (codes "expression") (codes "name") (codes "a") (differ _ _ refl) (differ _ _ refl) (differ _ _ refl) d in
    omega (arith, short, within, ap (length {A = ℕ}) same)

validation_short : (d : Data) (v : Validation) → validation_of d ≡ Some v → length v.expression + option_map_or (λ (s : Text). length s) v.message_expression 0 ≤ weight d
validation_short d v is =
    let expression = given_some (field (codes "expression") as_str d) _ v (provided_some (has_only (codes "expression" ∷ codes "message" ∷ codes "messageExpression" ∷ codes "reason" ∷ []) d) _ v is) in
    let told = given_some (optional (codes "message") as_str d) _ v expression.2 in
    let line = given_some (optional (codes "messageExpression") as_str d) _ v told.2 in
    let reason = given_some (perhaps (codes "reason") reason_of Invalid d) _ v line.2 in
    let made : Some (record { expression = expression.0; message = told.0; message_expression = line.0; reason = reason.0 }) ≡ Some v = reason.2 in
    let same : expression.0 ≡ v.expression = ap (λ (o : Option Validation). option_map_or (λ (w : Validation). w.expression) o []) made in
    let same_line : line.0 ≡ v.message_expression = ap (λ (o : Option Validation). option_map_or (λ (w : Validation). w.message_expression) o None) made in
    let short = text_short (codes "expression") d expression.0 expression.1 in
    let short_line = optional_read (get (codes "messageExpression") d) line.0 line.1 in
    let within = three_at (codes "expression") (codes "messageExpression") (codes "a") (differ _ _ refl) (differ _ _ refl) (differ _ _ refl) d in
    omega (arith, short, short_line, within, ap (length {A = ℕ}) same, ap (λ (o : Option Text). option_map_or (λ (s : Text). length s) o 0) same_line)

-- ---- policies

abbrev named_size : NamedExpression → ℕ
named_size n = length n.expression

abbrev test_size : Validation → ℕ
test_size v = length v.expression + option_map_or (λ (s : Text). length s) v.message_expression 0

spec_short : (d : Data) (p : Policy) → policy_spec_of d ≡ Some p → total named_size p.conditions + total named_size p.variables + total test_size p.validations ≤ weight d
spec_short d p is =
    let failure = given_some (perhaps (codes "failurePolicy") failure_policy_of Fail d) _ p (provided_some (has_only policy_members d) _ p is) in
    let kind = given_some (optional (codes "paramKind") param_kind_of d) _ p failure.2 in
    let constraints = given_some (field (codes "matchConstraints") match_rules_of d) _ p kind.2 in
    let conditions = given_some (perhaps (codes "matchConditions") (list_of named_of) [] d) _ p (provided_some (has_rules constraints.0) _ p constraints.2) in
    let variables = given_some (perhaps (codes "variables") (list_of named_of) [] d) _ p (provided_some (are_conditions conditions.0) _ p conditions.2) in
    let validations = given_some (field (codes "validations") (filled_list_of validation_of) d) _ p (provided_some (are_variables variables.0) _ p variables.2) in
    let made : Some (record {
      failure_policy = failure.0;
      param_kind = kind.0;
      constraints = constraints.0;
      conditions = conditions.0;
      variables = variables.0;
      validations = validations.0;
    }) ≡ Some p = validations.2 in
    let a : conditions.0 ≡ p.conditions = ap (λ (o : Option Policy). option_map_or (λ (q : Policy). q.conditions) o []) made in
    let b : variables.0 ≡ p.variables = ap (λ (o : Option Policy). option_map_or (λ (q : Policy). q.variables) o []) made in
    let c : validations.0 ≡ p.validations = ap (λ (o : Option Policy). option_map_or (λ (q : Policy). q.validations) o []) made in
    let short_conditions = perhaps_read named_of named_size named_short (get (codes "matchConditions") d) conditions.0 conditions.1 in
    let short_variables = perhaps_read named_of named_size named_short (get (codes "variables") d) variables.0 variables.1 in
    let short_validations = filled_short validation_of test_size validation_short (codes "validations") d validations.0 validations.1 in
    let within = three_at (codes "matchConditions") (codes "variables") (codes "validations") (differ _ _ refl) (differ _ _ refl) (differ _ _ refl) d in
    omega (arith, short_conditions, short_variables, short_validations, within, ap (total named_size) a, ap (total named_size) b, ap (total test_size) c)

-- ---- the expressions, one after another

total_append : (ss ts : List Source) → total_length (ss ++ ts) ≡ total_length ss + total_length ts
total_append [] ts = omega arith
total_append (s ∷ ss) ts = omega (arith, total_append ss ts)

total_conditions : (ns : List NamedExpression) → total_length (map of_condition ns) ≡ total named_size ns
total_conditions [] = refl
total_conditions (n ∷ ns) = omega (arith, total_conditions ns)

total_variables : (ns : List NamedExpression) → total_length (map of_variable ns) ≡ total named_size ns
total_variables [] = refl
total_variables (n ∷ ns) = omega (arith, total_variables ns)

total_message : (m : Option Text) → total_length (option_map_or (λ e. record { place = message; text = e } ∷ []) m []) ≡ option_map_or (λ (s : Text). length s) m 0
total_message None = refl
total_message (Some e) = omega arith

total_validations : (vs : List Validation) → total_length (flat_map of_validation vs) ≡ total test_size vs
total_validations [] = refl
total_validations (v ∷ vs) = omega (arith, total_append (of_validation v) (flat_map of_validation vs), total_message v.message_expression, total_validations vs)

total_sources : (p : Policy) → total_length (sources p) ≡ total named_size p.conditions + total named_size p.variables + total test_size p.validations
total_sources p = omega (
  arith,
  total_append (map of_condition p.conditions) (map of_variable p.variables ++ flat_map of_validation p.validations),
  total_append (map of_variable p.variables) (flat_map of_validation p.validations),
  total_conditions p.conditions,
  total_variables p.variables,
  total_validations p.validations,
)

pub fit_the_text : (d : Data) (p : Policy) → policy_of d ≡ Some p → total_length (sources p) ≤ length (text d)
fit_the_text d p is =
    let spec = given_some (get (codes "spec") d) policy_spec_of p (provided_some (has_only (codes "apiVersion" ∷ codes "kind" ∷ codes "metadata" ∷ codes "spec" ∷ []) d) _ p is) in
    let short = of_found (get (codes "spec") d) spec.0 (total_length (sources p)) spec.1 (omega (arith, total_sources p, spec_short spec.0 p spec.2)) in
    let within = three_at (codes "spec") (codes "kind") (codes "a") (differ _ _ refl) (differ _ _ refl) (differ _ _ refl) d in
    omega (arith, short, within, within_text d)
