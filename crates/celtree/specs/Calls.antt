-- What a call's tree is, and which calls have none: `has` and the macros are told by their names and their arguments' trees.
use Rattle.std.specs.Prelude.{ℕ, List, Option, Some, None, option_map, codes, bytes_eq, if◌then◌else◌}
use Rattle.celtree.specs.declared.tree.Macro.{Macro}
use Rattle.celtree.specs.declared.tree.Macro.TheVariants as macro_of
use Rattle.celtree.specs.Tree.{Expr, Name, Field, Has, Call, Method, Over, Exprs, no_items, item}

-- all, exists, exists_one, map and filter
abbrev pub macro_named : List ℕ → Option Macro
macro_named f =
    if bytes_eq f (codes "all") then Some macro_of.All
    else (if bytes_eq f (codes "exists") then Some macro_of.Exists
    else (if bytes_eq f (codes "exists_one") then Some macro_of.ExistsOne
    else (if bytes_eq f (codes "map") then Some macro_of.Map
    else (if bytes_eq f (codes "filter") then Some macro_of.Filter else None))))

-- `e.f` as the argument of `has`
abbrev pub selection : Expr → Option Expr
selection (Field e f) = Some (Has e f)
selection _ = None

-- a name as the variable of a macro
abbrev pub variable : Expr → Option (List ℕ)
variable (Name x) = Some x
variable _ = None

-- `has(e.f)`
abbrev pub has_of : Exprs → Option Expr
has_of (item e no_items) = selection e
has_of _ = None

-- `e.map(x, p, t)` is `e.filter(x, p).map(x, t)`
abbrev pub macro_of_three : Macro → Expr → Expr → Expr → Expr → Option Expr
macro_of_three macro_of.Map e v p t = option_map (λ x. Over macro_of.Map (Over macro_of.Filter e x p) x t) (variable v)
macro_of_three _ e v p t = None

-- a macro over e with a variable and a body
abbrev pub macro_over : Macro → Expr → Exprs → Option Expr
macro_over m e (item v (item p no_items)) = option_map (λ x. Over m e x p) (variable v)
macro_over m e (item v (item p (item t no_items))) = macro_of_three m e v p t
macro_over m e _ = None

abbrev pub unless_macro : Option Macro → Option Expr → Option Expr
unless_macro None t = t
unless_macro (Some m) t = None

abbrev pub method_or_macro : Option Macro → Expr → List ℕ → Exprs → Option Expr
method_or_macro None e f ts = if bytes_eq f (codes "has") then None else Some (Method e f ts)
method_or_macro (Some m) e f ts = macro_over m e ts

-- the tree of `f(ts)`: no macro stands without an operand
abbrev pub call_of : List ℕ → Exprs → Option Expr
call_of f ts = if bytes_eq f (codes "has") then has_of ts else unless_macro (macro_named f) (Some (Call f ts))

-- the tree of `e.f(ts)`
abbrev pub method_of : Expr → List ℕ → Exprs → Option Expr
method_of e f ts = method_or_macro (macro_named f) e f ts
