-- The place that the code's enum stands for.
use Rattle.routes.specs.declared.table.PathPlace as code
use Rattle.routes.specs.declared.table.PathPlace.TheVariants.{Everywhere, Within}
use Rattle.routes.specs.Path.{PathPlace, everywhere, within}

abbrev pub seen : code.PathPlace → PathPlace
seen (Everywhere r) = everywhere r
seen (Within t) = within t
