-- When what a macro gives is decided.
use Rattle.std.specs.Prelude.{Bool, false}
use Rattle.celtree.specs.declared.tree.Macro.{Macro}
use Rattle.celtree.specs.declared.tree.Macro.TheVariants as macro_of
use Rattle.celmean.specs.Value.{Outcome}
use Rattle.celmean.specs.Macros.{is_true, is_false}

-- The outcome of a body decides what the macro gives, whatever the others are: false that of `all`, and true that of `exists`.
abbrev pub decides : Macro → Outcome → Bool
decides macro_of.All o = is_false o
decides macro_of.Exists o = is_true o
decides m o = false
