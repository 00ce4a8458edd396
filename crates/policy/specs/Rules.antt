-- What rules ask of a write (Kubernetes, ValidatingAdmissionPolicy: MatchResources, NamedRuleWithOperations).
use Rattle.std.specs.Prelude.{ℕ, List, Option, map, option_map, string_bytes}
use Rattle.serde_json.specs.Data.{Data}
use Rattle.serde_json.specs.View.{view}
use Rattle.names.specs.Key.{Key}
use Rattle.documents.specs.Requirement.{Requirement, requirement_seen}
use Rattle.policy.specs.declared.attempt.Attempt as code_attempt
use Rattle.policy.specs.declared.match_rules.RuleEntry as code_entry
use Rattle.policy.specs.declared.match_rules.RuleEntry.TheVariants.{Any, Exactly}
use Rattle.policy.specs.declared.match_rules.MatchRules as code_match_rules
use Rattle.policy.specs.declared.match_rules.Operation.{Operation}
use Rattle.policy.specs.declared.match_rules.OperationEntry.{OperationEntry}
use Rattle.policy.specs.declared.match_rules.Rule as code_rule
use Rattle.policy.specs.declared.match_rules.RuleScope.{RuleScope}

-- the texts that an entry of a rule stands for
pub data RuleEntry : Type 0 where
  -- every text, written `*`
  any : RuleEntry
  -- this one
  exactly : (value : List ℕ) → RuleEntry

-- a rule on writes: the operations, the resources by group, version and plural, the names of objects, and the scope
pub record Rule : Type 0 where
  pub operations : List OperationEntry
  pub groups : List RuleEntry
  pub versions : List RuleEntry
  pub resources : List RuleEntry
  pub names : List (List ℕ)
  pub scope : RuleScope

-- the writes that a policy, or a binding, is for: by rules, rules that exclude, a selector of objects, and one of namespaces, if there is one
pub record MatchRules : Type 0 where
  pub rules : List Rule
  pub excluded : List Rule
  pub objects : List Requirement
  pub namespaces : Option (List Requirement)

-- a write that asks for admission: the document to be stored (a deletion has none), the one shown before (a creation has none), and the Namespace that the
-- object stands in, as it is shown (what is cluster-scoped has none)
pub record Attempt : Type 0 where
  pub operation : Operation
  pub key : Key
  pub object : Option Data
  pub old_object : Option Data
  pub namespace : Option Data

-- ---- what the code's types stand for

abbrev pub entry_seen : code_entry.RuleEntry → RuleEntry
entry_seen Any = any
entry_seen (Exactly value) = exactly (string_bytes value)

abbrev pub rule_seen : code_rule.Rule → Rule
rule_seen r = record {
  operations = r.operations.items;
  groups = map entry_seen r.groups.items;
  versions = map entry_seen r.versions.items;
  resources = map entry_seen r.resources.items;
  names = map string_bytes r.names.items;
  scope = r.scope;
}

abbrev pub match_rules_seen : code_match_rules.MatchRules → MatchRules
match_rules_seen m = record {
  rules = map rule_seen m.rules.items;
  excluded = map rule_seen m.excluded.items;
  objects = map requirement_seen m.objects.items;
  namespaces = option_map (λ v. map requirement_seen v.items) m.namespaces;
}

abbrev pub attempt_seen : code_attempt.Attempt → Attempt
attempt_seen w = record {
  operation = w.operation;
  key = w.key.now;
  object = option_map (λ d. view d.now) w.object;
  old_object = option_map (λ d. view d.now) w.old_object;
  namespace = option_map (λ d. view d.now) w.namespace;
}
