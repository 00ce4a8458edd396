-- What the program's answers stand for.
use Rattle.std.specs.Prelude.{◌∷◌, [], map, Some, None}
use Rattle.verdict.specs.declared.parameters.Parameters as code_parameters
use Rattle.verdict.specs.declared.parameters.Parameters.TheVariants as parameters
use Rattle.verdict.specs.Parameters.{Parameters}

abbrev pub parameters_seen : code_parameters.Parameters → Parameters
parameters_seen parameters.Alone = Parameters.found (None ∷ [])
parameters_seen (parameters.Found documents) = Parameters.found (map Some documents.items)
parameters_seen parameters.Misconfigured = Parameters.misconfigured
parameters_seen parameters.NotFound = Parameters.not_found
