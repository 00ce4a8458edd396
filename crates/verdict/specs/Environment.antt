-- What the expressions of a policy see of a write (Kubernetes, "Validating Admission Policy").
use Rattle.std.specs.Prelude.{◌∷◌, [], codes, Option}
use Rattle.std.specs.Option.{option_map_or}
use Rattle.serde_json.specs.Data.{Data}
use Rattle.policy.specs.Rules.{Attempt}
use Rattle.verdict.specs.Request.{request_of}
use Rattle.celmean.specs.Value.{Value, Null, Gives}
use Rattle.celmean.specs.Meaning.{Environment}
use Rattle.planrun.specs.Documents.{json_value}

-- null where there is none
abbrev pub value_or_null : Option Data → Value
value_or_null d = option_map_or json_value d Null

-- What expressions see: the object to be stored, the one shown before, the request, a parameter, and the Namespace that the object stands in. Match
-- conditions, and policies without a kind of parameters, see no parameter: their types let no expression name it. Nor do types let one name the Namespace in
-- match conditions, and where namespaces are no objects.
abbrev pub seen : Attempt → (param : Option Data) → Environment
seen w param = record {
  names =
      (codes "object", Gives (value_or_null w.object))
      ∷ (codes "oldObject", Gives (value_or_null w.old_object))
      ∷ (codes "request", Gives (json_value (request_of w)))
      ∷ (codes "params", Gives (value_or_null param))
      ∷ (codes "namespaceObject", Gives (value_or_null w.namespace))
      ∷ [];
  variables = [];
}
