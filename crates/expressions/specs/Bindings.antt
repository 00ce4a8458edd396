-- The policy that a binding names.
use Rattle.std.specs.Prelude.{[]}
use Rattle.names.specs.declared.resource.Resource.TheVariants.{ValidatingAdmissionPolicy}
use Rattle.names.specs.Key.{Key, key_of}
use Rattle.policy.specs.Forms.{Text}

-- the key of the policy that a binding names
abbrev pub policy_key : (name : Text) → Key
policy_key name = key_of ValidatingAdmissionPolicy [] name
