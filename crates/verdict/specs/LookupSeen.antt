-- What is lent, as it is held.
use Rattle.std.specs.Prelude.{option_map}
use Rattle.serde_json.specs.Data.{Data}
use Rattle.names.specs.Key.{Key}
use Rattle.documents.specs.Document.{shown}
use Rattle.expressions.specs.Specification.{plans_seen}
use Rattle.verdict.specs.declared.lookup.FoundObject as code_found
use Rattle.verdict.specs.declared.lookup.ListedObject as code_listed
use Rattle.policy.specs.Spec.{policy_seen}
use Rattle.verdict.specs.Objects.{Held}

abbrev pub held_by : code_found.FoundObject → Held
held_by f = record {
  document = f.document.now;
  policy = option_map (λ p. policy_seen p.now) f.policy;
  plans = plans_seen f.plans.now;
  binding = option_map (λ b. b.now) f.bound;
  revision = f.revision;
}

-- what was listed
abbrev pub listed_seen : code_listed.ListedObject → Key × Held
listed_seen l = (l.key.now, held_by l.found)

-- an object as it is held, as it is shown
abbrev pub shown_held : Key × Held → Key × Data
shown_held o = (o.0, shown o.1.document o.1.revision)
