-- The outcomes of several trees, one by one, and a macro over few items.
use Rattle.std.proofs.Common.{◌≡◌, ◌≤◌, false, nat_lt, List, [], ◌∷◌, map, length, Option, Some, Box, String, Global, string_bytes, refl, ap, sym, arith, rules}
use Rattle.std.proofs.lemmas.Bool.Decides.{nat_tests}
use Rattle.celtree.specs.declared.tree.Tree as tree
use Rattle.celtree.specs.declared.tree.Tree.{Tree, the_lemmas}
use Rattle.celtree.specs.declared.tree.Macro.{Macro}
use Rattle.celtree.specs.Tree as expr
use Rattle.celtree.specs.View.{view, views, pair_views}
use Rattle.celmean.specs.Value.{Value, Outcome}
use Rattle.celmean.specs.Macros.{range_of, over_items, reduced}
use Rattle.celmean.specs.Meaning.{Environment, bind, mean, all_means, pair_means}

pub all_means-map : (ts : List Tree) (env : Environment) → all_means (views ts) env ≡ map (λ t. mean (view t) env) ts
all_means-map [] env = refl
all_means-map (t ∷ ts) env = ap (λ os. mean (view t) env ∷ os) (all_means-map ts env)

pub pair_means-map : (ps : List (Tree × Tree)) (env : Environment) → pair_means (pair_views ps) env ≡ map (λ p. (mean (view p.0) env, mean (view p.1) env)) ps
pair_means-map [] env = refl
pair_means-map (p ∷ ps) env = ap (λ os. (mean (view p.0) env, mean (view p.1) env) ∷ os) (pair_means-map ps env)

pub over_few : (m : Macro) (f : Value → Outcome) (vs : List Value) → length vs ≤ 1024 → over_items m f (Some vs) ≡ reduced m vs (map f vs)
over_few m f vs few = let e : nat_lt 1024 (length vs) ≡ false = grind (arith, nat_tests) in rw e refl

view-Macro : (m : Macro) (e : Box Tree Global) (x : String Global) (b : Box Tree Global) → view (tree.Macro m e x b) ≡ expr.Over m (view e.value) (string_bytes x) (view b.value)
view-Macro m e x b = search (rules, the_lemmas)

pub mean-Macro : (m : Macro) (e : Box Tree Global) (x : String Global) (b : Box Tree Global) (env : Environment) (range : Option (List Value)) → range ≡ range_of (mean (view e.value) env)
    → mean (view (tree.Macro m e x b)) env ≡ over_items m (λ v. mean (view b.value) (bind (string_bytes x) v env)) range
mean-Macro m e x b env range is = rw (view-Macro m e x b) (ap (over_items m (λ (v : Value). mean (view b.value) (bind (string_bytes x) v env))) (sym is))
