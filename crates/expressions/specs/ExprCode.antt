-- A code for trees of expressions, as a model's value needs one.
use Rattle.std.specs.Prelude.{◌≡◌, ℕ, false, List, ◌==◌, if◌then◌else◌}
use base.Stored.{Gv, gnil, gnum, gcons, num, Coded, coded_ℕ, coded_ℤ, coded_bool, coded_list}
use mathlib.Core.Path.{ap, refl}
use Rattle.std.proofs.Common.{eq-eqb}
use Rattle.std.specs.Coded.{code_by}
use Rattle.jsondoc.specs.DataCode.{head, tail, bytes_code}
use Rattle.celtree.specs.declared.tree.Prefix.{Prefix}
use Rattle.celtree.specs.declared.tree.Prefix.TheVariants as prefix_of
use Rattle.celtree.specs.declared.tree.Operator.{Operator}
use Rattle.celtree.specs.declared.tree.Operator.TheVariants as operator_of
use Rattle.celtree.specs.declared.tree.Macro.{Macro}
use Rattle.celtree.specs.declared.tree.Macro.TheVariants as macro_of
use Rattle.celtree.specs.Tree.{Expr, Null, Truth, Int, Uint, Text, Name, Field, Has, Index, Sequence, Mapping, Unary, Infix, Conditional, Call, Method, Over, Exprs, no_items, item, Pairs, no_pairs, pair}

abbrev pub prefix_number : Prefix → ℕ
prefix_number prefix_of.Not = 0
prefix_number prefix_of.Negate = 1

abbrev pub prefix_at : ℕ → Prefix
prefix_at n = if n == 0 then prefix_of.Not else prefix_of.Negate

pub prefix_at-prefix_number : (p : Prefix) → prefix_at (prefix_number p) ≡ p
prefix_at-prefix_number prefix_of.Not = refl
prefix_at-prefix_number prefix_of.Negate = refl

abbrev pub coded_prefix : Coded Prefix
coded_prefix = code_by ℕ coded_ℕ prefix_number prefix_at prefix_at-prefix_number

abbrev pub operator_number : Operator → ℕ
operator_number operator_of.Multiply = 0
operator_number operator_of.Divide = 1
operator_number operator_of.Remainder = 2
operator_number operator_of.Add = 3
operator_number operator_of.Subtract = 4
operator_number operator_of.Less = 5
operator_number operator_of.LessEqual = 6
operator_number operator_of.Greater = 7
operator_number operator_of.GreaterEqual = 8
operator_number operator_of.Equal = 9
operator_number operator_of.NotEqual = 10
operator_number operator_of.In = 11
operator_number operator_of.And = 12
operator_number operator_of.Or = 13

abbrev pub operator_at : ℕ → Operator
operator_at n =
    if n == 0 then operator_of.Multiply
    else (if n == 1 then operator_of.Divide
    else (if n == 2 then operator_of.Remainder
    else (if n == 3 then operator_of.Add
    else (if n == 4 then operator_of.Subtract
    else (if n == 5 then operator_of.Less
    else (if n == 6 then operator_of.LessEqual
    else (if n == 7 then operator_of.Greater
    else (if n == 8 then operator_of.GreaterEqual
    else (if n == 9 then operator_of.Equal
    else (if n == 10 then operator_of.NotEqual
    else (if n == 11 then operator_of.In
    else (if n == 12 then operator_of.And
    else operator_of.Or))))))))))))

pub operator_at-operator_number : (o : Operator) → operator_at (operator_number o) ≡ o
operator_at-operator_number operator_of.Multiply = refl
operator_at-operator_number operator_of.Divide = refl
operator_at-operator_number operator_of.Remainder = refl
operator_at-operator_number operator_of.Add = refl
operator_at-operator_number operator_of.Subtract = refl
operator_at-operator_number operator_of.Less = refl
operator_at-operator_number operator_of.LessEqual = refl
operator_at-operator_number operator_of.Greater = refl
operator_at-operator_number operator_of.GreaterEqual = refl
operator_at-operator_number operator_of.Equal = refl
operator_at-operator_number operator_of.NotEqual = refl
operator_at-operator_number operator_of.In = refl
operator_at-operator_number operator_of.And = refl
operator_at-operator_number operator_of.Or = refl

abbrev pub coded_operator : Coded Operator
coded_operator = code_by ℕ coded_ℕ operator_number operator_at operator_at-operator_number

abbrev pub macro_number : Macro → ℕ
macro_number macro_of.All = 0
macro_number macro_of.Exists = 1
macro_number macro_of.ExistsOne = 2
macro_number macro_of.Map = 3
macro_number macro_of.Filter = 4

abbrev pub macro_at : ℕ → Macro
macro_at n =
    if n == 0 then macro_of.All
    else (if n == 1 then macro_of.Exists
    else (if n == 2 then macro_of.ExistsOne
    else (if n == 3 then macro_of.Map
    else macro_of.Filter)))

pub macro_at-macro_number : (m : Macro) → macro_at (macro_number m) ≡ m
macro_at-macro_number macro_of.All = refl
macro_at-macro_number macro_of.Exists = refl
macro_at-macro_number macro_of.ExistsOne = refl
macro_at-macro_number macro_of.Map = refl
macro_at-macro_number macro_of.Filter = refl

abbrev pub coded_macro : Coded Macro
coded_macro = code_by ℕ coded_ℕ macro_number macro_at macro_at-macro_number

abbrev mutual
  pub expr_code : Expr → Gv
  expr_code Null = gcons (gnum 0) gnil
  expr_code (Truth b) = gcons (gnum 1) (coded_bool.code b)
  expr_code (Int z) = gcons (gnum 2) (coded_ℤ.code z)
  expr_code (Uint n) = gcons (gnum 3) (gnum n)
  expr_code (Text s) = gcons (gnum 4) (bytes_code s)
  expr_code (Name s) = gcons (gnum 5) (bytes_code s)
  expr_code (Field e f) = gcons (gnum 6) (gcons (expr_code e) (bytes_code f))
  expr_code (Has e f) = gcons (gnum 7) (gcons (expr_code e) (bytes_code f))
  expr_code (Index e i) = gcons (gnum 8) (gcons (expr_code e) (expr_code i))
  expr_code (Sequence es) = gcons (gnum 9) (items_code es)
  expr_code (Mapping ps) = gcons (gnum 10) (pairs_code ps)
  expr_code (Unary p e) = gcons (gnum 11) (gcons (coded_prefix.code p) (expr_code e))
  expr_code (Infix o a b) = gcons (gnum 12) (gcons (coded_operator.code o) (gcons (expr_code a) (expr_code b)))
  expr_code (Conditional c a b) = gcons (gnum 13) (gcons (expr_code c) (gcons (expr_code a) (expr_code b)))
  expr_code (Call f es) = gcons (gnum 14) (gcons (bytes_code f) (items_code es))
  expr_code (Method e f es) = gcons (gnum 15) (gcons (expr_code e) (gcons (bytes_code f) (items_code es)))
  expr_code (Over m e x b) = gcons (gnum 16) (gcons (coded_macro.code m) (gcons (expr_code e) (gcons (bytes_code x) (expr_code b))))

  pub items_code : Exprs → Gv
  items_code no_items = gnil
  items_code (item e es) = gcons (expr_code e) (items_code es)

  pub pairs_code : Pairs → Gv
  pairs_code no_pairs = gnil
  pairs_code (pair k v ps) = gcons (expr_code k) (gcons (expr_code v) (pairs_code ps))

abbrev pub bytes_inj : (s t : List ℕ) → bytes_code s ≡ bytes_code t → s ≡ t
bytes_inj = (coded_list coded_ℕ).inj

-- the parts after the number of a constructor
abbrev pub first : Gv → Gv
first g = head (tail g)

abbrev pub second : Gv → Gv
second g = tail (tail g)

abbrev pub is_pair : Gv → ℕ
is_pair gnil = 0
is_pair (gnum n) = 0
is_pair (gcons a b) = 1

-- two numbers of which the test tells that they differ
pub unlike : (m n : ℕ) → (m == n) ≡ false → m ≡ n → ⊥
unlike m n differ same = let equal = eq-eqb m n same in cc

mutual
  pub expr_inj : (x y : Expr) → expr_code x ≡ expr_code y → x ≡ y
  expr_inj Null Null p = refl
  expr_inj (Truth a) (Truth b) p = ap Truth (coded_bool.inj a b (ap tail p))
  expr_inj (Int a) (Int b) p = ap Int (coded_ℤ.inj a b (ap tail p))
  expr_inj (Uint a) (Uint b) p = ap (λ g. Uint (num (tail g))) p
  expr_inj (Text a) (Text b) p = ap Text (bytes_inj a b (ap tail p))
  expr_inj (Name a) (Name b) p = ap Name (bytes_inj a b (ap tail p))
  expr_inj (Field a f) (Field b g) p = λ i. Field (expr_inj a b (ap first p) i) (bytes_inj f g (ap second p) i)
  expr_inj (Has a f) (Has b g) p = λ i. Has (expr_inj a b (ap first p) i) (bytes_inj f g (ap second p) i)
  expr_inj (Index a x) (Index b y) p = λ i. Index (expr_inj a b (ap first p) i) (expr_inj x y (ap second p) i)
  expr_inj (Sequence a) (Sequence b) p = ap Sequence (items_inj a b (ap tail p))
  expr_inj (Mapping a) (Mapping b) p = ap Mapping (pairs_inj a b (ap tail p))
  expr_inj (Unary o a) (Unary q b) p = λ i. Unary (coded_prefix.inj o q (ap first p) i) (expr_inj a b (ap second p) i)
  expr_inj (Infix o a b) (Infix q c d) p =
      λ i. Infix (coded_operator.inj o q (ap first p) i) (expr_inj a c (ap (λ g. first (tail g)) p) i) (expr_inj b d (ap (λ g. second (tail g)) p) i)
  expr_inj (Conditional x a b) (Conditional y c d) p =
      λ i. Conditional (expr_inj x y (ap first p) i) (expr_inj a c (ap (λ g. first (tail g)) p) i) (expr_inj b d (ap (λ g. second (tail g)) p) i)
  expr_inj (Call f a) (Call g b) p = λ i. Call (bytes_inj f g (ap first p) i) (items_inj a b (ap second p) i)
  expr_inj (Method x f a) (Method y g b) p =
      λ i. Method (expr_inj x y (ap first p) i) (bytes_inj f g (ap (λ v. first (tail v)) p) i) (items_inj a b (ap (λ v. second (tail v)) p) i)
  expr_inj (Over m a x b) (Over n c y d) p =
      λ i. Over (coded_macro.inj m n (ap first p) i) (expr_inj a c (ap (λ g. first (tail g)) p) i) (bytes_inj x y (ap (λ g. first (tail (tail g))) p) i) (expr_inj b d (ap (λ g. second (tail (tail g))) p) i)
  expr_inj x y p = absurd (unlike _ _ refl (ap (λ g. num (head g)) p))

  pub items_inj : (x y : Exprs) → items_code x ≡ items_code y → x ≡ y
  items_inj no_items no_items p = refl
  items_inj (item a xs) (item b ys) p = λ i. item (expr_inj a b (ap head p) i) (items_inj xs ys (ap tail p) i)
  items_inj x y p = absurd (unlike _ _ refl (ap is_pair p))

  pub pairs_inj : (x y : Pairs) → pairs_code x ≡ pairs_code y → x ≡ y
  pairs_inj no_pairs no_pairs p = refl
  pairs_inj (pair k a xs) (pair l b ys) p =
      λ i. pair (expr_inj k l (ap head p) i) (expr_inj a b (ap first p) i) (pairs_inj xs ys (ap second p) i)
  pairs_inj x y p = absurd (unlike _ _ refl (ap is_pair p))

abbrev pub coded_expr : Coded Expr
coded_expr = record { code = expr_code; inj = expr_inj }
