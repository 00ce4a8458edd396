-- The instructions of a part begin where those before it end.
use Rattle.std.proofs.Common.{◌≡◌, ℕ, suc, ◌+◌, ◌≤◌, Bool, true, false, cond, List, [], ◌∷◌, ◌++◌, length, refl, sym, ap, subst, ◌∙◌, arith, append_assoc, length-append}
use Rattle.std.proofs.lemmas.List.{length-map}
use Rattle.celtree.specs.declared.tree.Tree.{Tree}
use Rattle.celtree.specs.Tree as expr
use Rattle.celtree.specs.Tree.{Expr, Exprs, no_items, item, Pairs, no_pairs, pair}
use Rattle.celtree.specs.View.{view, views, pair_views}
use Rattle.celtree.specs.Variables.{is_variables}
use Rattle.instructions.specs.declared.instruction.Instruction.{Instruction}
use Rattle.instructions.specs.Op.{Op}
use Rattle.instructions.specs.Seen.{op_of, ops_of}
use Rattle.plan.specs.Names.{Names}
use Rattle.plan.specs.Compilation.{count, pair_count, size, size_of_items, size_of_pairs, compiled, compiled_items, compiled_pairs}
use Rattle.plan.specs.Values.{HasValues, HaveValues, PairsHaveValues}
use Rattle.plan.proofs.Lengths.{length-compiled, length-compiled_items}

-- the code of a tree, by its place and the tree written otherwise
pub placed : (c : List Instruction) (t u : Tree) (at to : ℕ) (d : Names) → ops_of c ≡ compiled (view t) at d → t ≡ u → at ≡ to → ops_of c ≡ compiled (view u) to d
placed c t u at to d e f g = e ∙ (ap (λ t. compiled (view t) at d) f ∙ ap (λ n. compiled (view u) n d) g)

pub code_length : (c : List Instruction) (t u : Tree) (at : ℕ) (d : Names) → ops_of c ≡ compiled (view t) at d → t ≡ u → length c ≡ size (view u)
code_length c t u at d e f = sym (length-map c op_of) ∙ (ap length e ∙ (length-compiled (view t) at d ∙ ap (λ t. size (view t)) f))

pub items_length : (c : List Instruction) (ts : List Tree) (at : ℕ) (d : Names) → ops_of c ≡ compiled_items (views ts) at d → length c ≡ size_of_items (views ts)
items_length c ts at d e = sym (length-map c op_of) ∙ (ap length e ∙ length-compiled_items (views ts) at d)

pub joined_length : (a b c : List Instruction) → ops_of c ≡ ops_of a ++ ops_of b → length c ≡ length a + length b
joined_length a b c e =
    let l : length (ops_of c) ≡ length (ops_of a ++ ops_of b) = ap length e in
    omega (arith, l, length-append (ops_of a) (ops_of b), length-map a op_of, length-map b op_of, length-map c op_of)

-- an expression more of a list
pub items_step : (code more joined : List Instruction) (t : Tree) (rest : List Tree) (at : ℕ) (d : Names) (whole : List Op) → ops_of code ++ compiled_items (views (t ∷ rest)) (at + length code) d ≡ whole
    → ops_of more ≡ compiled (view t) (at + length code) d → ops_of joined ≡ ops_of code ++ ops_of more → ops_of joined ++ compiled_items (views rest) (at + length joined) d ≡ whole
items_step code more joined t rest at d whole e f g =
    let n = joined_length code more joined g in
    let m = code_length more t t (at + length code) d f refl in
    let place : at + length joined ≡ at + length code + size (view t) = omega arith in
    ap (λ n. ops_of joined ++ compiled_items (views rest) n d) place
    ∙ (ap (λ c. c ++ compiled_items (views rest) (at + length code + size (view t)) d) (g ∙ ap (λ c. ops_of code ++ c) f)
    ∙ (append_assoc (ops_of code) (compiled (view t) (at + length code) d) (compiled_items (views rest) (at + length code + size (view t)) d) ∙ e))

-- a key and a value more
pub pairs_step : (code more joined : List Instruction) (k v : Tree) (rest : List (Tree × Tree)) (at : ℕ) (d : Names) (whole : List Op)
    → ops_of code ++ compiled_pairs (pair_views ((k, v) ∷ rest)) (at + length code) d ≡ whole
    → ops_of more ≡ compiled (view k) (at + length code) d ++ compiled (view v) (at + length code + size (view k)) d → ops_of joined ≡ ops_of code ++ ops_of more
    → ops_of joined ++ compiled_pairs (pair_views rest) (at + length joined) d ≡ whole
pairs_step code more joined k v rest at d whole e f g =
    let n = joined_length code more joined g in
    let p = at + length code in
    let q = at + length code + size (view k) in
    let r = at + length code + size (view k) + size (view v) in
    let a = compiled (view k) p d in
    let b = compiled (view v) q d in
    let c = compiled_pairs (pair_views rest) r d in
    let m : length more ≡ length (a ++ b) = sym (length-map more op_of) ∙ ap length f in
    let place : at + length joined ≡ r = omega (arith, length-append a b, length-compiled (view k) p d, length-compiled (view v) q d) in
    ap (λ n. ops_of joined ++ compiled_pairs (pair_views rest) n d) place
    ∙ (ap (λ l. l ++ c) (g ∙ ap (λ l. ops_of code ++ l) f) ∙ (append_assoc (ops_of code) (a ++ b) c ∙ (ap (λ l. ops_of code ++ l) (append_assoc a b c) ∙ e)))

-- what stands before each turn of the loop over expressions, and of that over pairs
abbrev pub ItemsMade : (code : List Instruction) (rest ts : List Tree) (at : ℕ) (d : Names) → Type 0
ItemsMade code rest ts at d =
    (ops_of code ++ compiled_items (views rest) (at + length code) d ≡ compiled_items (views ts) at d)
    × (length code + size_of_items (views rest) ≡ size_of_items (views ts))
    × (HaveValues (views rest) → HaveValues (views ts))

abbrev pub PairsMade : (code : List Instruction) (rest ts : List (Tree × Tree)) (at : ℕ) (d : Names) → Type 0
PairsMade code rest ts at d =
    (ops_of code ++ compiled_pairs (pair_views rest) (at + length code) d ≡ compiled_pairs (pair_views ts) at d)
    × (length code + size_of_pairs (pair_views rest) ≡ size_of_pairs (pair_views ts))
    × (PairsHaveValues (pair_views rest) → PairsHaveValues (pair_views ts))

pub items_turn : (code more joined : List Instruction) (t : Tree) (now rest ts : List Tree) (n at : ℕ) (d : Names)
    → now ≡ t ∷ rest → n ≡ length code → ItemsMade code now ts at d
    → ops_of more ≡ compiled (view t) (at + n) d → length more ≡ size (view t) → HasValues (view t) → ops_of joined ≡ ops_of code ++ ops_of more
    → length joined ≡ length code + length more → ItemsMade joined rest ts at d
items_turn code more joined t now rest ts n at d here many made next long values is whole =
    let had : ItemsMade code (t ∷ rest) ts at d = subst (λ ys. ItemsMade code ys ts at d) here made in
    let placed_next = next ∙ ap (λ n. compiled (view t) (at + n) d) many in (
      items_step code more joined t rest at d (compiled_items (views ts) at d) had.0 placed_next is,
      omega (arith, had.1, long, whole),
      λ h. had.2 (values, h),
    )

pub pairs_turn : (code more joined : List Instruction) (p : Tree × Tree) (now rest ts : List (Tree × Tree)) (n at : ℕ) (d : Names)
    → now ≡ p ∷ rest → n ≡ length code → PairsMade code now ts at d
    → ops_of more ≡ compiled (view p.0) (at + n) d ++ compiled (view p.1) (at + n + size (view p.0)) d → length more ≡ size (view p.0) + size (view p.1)
    → HasValues (view p.0) × HasValues (view p.1) → ops_of joined ≡ ops_of code ++ ops_of more
    → length joined ≡ length code + length more → PairsMade joined rest ts at d
pairs_turn code more joined p now rest ts n at d here many made next long values is whole =
    let had : PairsMade code (p ∷ rest) ts at d = subst (λ ys. PairsMade code ys ts at d) here made in
    let placed_next = next ∙ ap (λ n. compiled (view p.0) (at + n) d ++ compiled (view p.1) (at + n + size (view p.0)) d) many in (
      pairs_step code more joined p.0 p.1 rest at d (compiled_pairs (pair_views ts) at d) had.0 placed_next is,
      omega (arith, had.1, long, whole),
      λ h. had.2 (values.0, values.1, h),
    )

-- each expression has an instruction at least
size_of_field : (b : Bool) (n : ℕ) → 1 ≤ cond b 1 (n + 1)
size_of_field true n = omega arith
size_of_field false n = omega arith

pub one_at_least : (t : Expr) → 1 ≤ size t
one_at_least expr.Null = omega arith
one_at_least (expr.Truth b) = omega arith
one_at_least (expr.Int z) = omega arith
one_at_least (expr.Uint n) = omega arith
one_at_least (expr.Text s) = omega arith
one_at_least (expr.Name x) = omega arith
one_at_least (expr.Field e f) = size_of_field (is_variables e) (size e)
one_at_least (expr.Has e f) = omega arith
one_at_least (expr.Index e i) = omega arith
one_at_least (expr.Sequence es) = omega arith
one_at_least (expr.Mapping ps) = omega arith
one_at_least (expr.Unary p e) = omega arith
one_at_least (expr.Infix o a b) = omega arith
one_at_least (expr.Conditional c a b) = omega arith
one_at_least (expr.Call f es) = omega arith
one_at_least (expr.Method e f es) = omega arith
one_at_least (expr.Over m e x body) = omega arith

pub count_is : (ts : List Tree) → count (views ts) ≡ length ts
count_is [] = refl
count_is (t ∷ ts) = ap suc (count_is ts)

pub pair_count_is : (ps : List (Tree × Tree)) → pair_count (pair_views ps) ≡ length ps
pair_count_is [] = refl
pair_count_is (p ∷ ps) = ap suc (pair_count_is ps)

pub few_items : (ts : List Tree) → length ts ≤ size_of_items (views ts)
few_items [] = omega arith
few_items (t ∷ ts) = omega (arith, few_items ts, one_at_least (view t))

pub few_pairs : (ps : List (Tree × Tree)) → length ps ≤ size_of_pairs (pair_views ps)
few_pairs [] = omega arith
few_pairs (p ∷ ps) = omega (arith, few_pairs ps, one_at_least (view p.0), one_at_least (view p.1))
