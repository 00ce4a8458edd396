-- The faults of documents.
use Rattle.std.proofs.Common.{◌≡◌, refl, Some}
use Rattle.serde_json.specs.Data.{Data}
use Rattle.names.specs.declared.format.Format.{Format}
use Rattle.policy.specs.Spec.{Policy}
use Rattle.celread.specs.Reading.{UnlessMemory}
use Rattle.celread.specs.declared.fault.ReadFault.{ReadFault}
use Rattle.celread.specs.declared.fault.ReadFault.TheVariants as unread
use Rattle.expressions.specs.declared.fault.PolicyFault.{PolicyFault}
use Rattle.expressions.specs.declared.fault.PolicyFault.TheVariants.{BadSpec, BadExpression, Memory}
use Rattle.expressions.specs.Expressions.{sources}
use Rattle.expressions.specs.Places.{policy_in}
use Rattle.expressions.specs.Seen.{IsFaultOf, IsFaultAmong}

-- the fault of a policy's expressions is that of its document
pub fault_of_document : (format : Format) (d : Data) (p : Policy) (f : PolicyFault) → policy_in d ≡ Some p → IsFaultAmong format p (sources p) f → IsFaultOf format d f
fault_of_document format d p BadSpec form h = absurd h
fault_of_document format d p (BadExpression text) form h = record { policy = p; form = form; bad = h.0; none = h.1 }
fault_of_document format d p Memory form h = tt

-- what is told of a text without a tree, where memory was there
pub unless_memory : (e : ReadFault) (P : Type 0) → (e ≡ unread.Memory → ⊥) → UnlessMemory e P → P
unless_memory unread.TooLong P not none = none
unless_memory unread.TooDeep P not none = none
unless_memory unread.NotInGrammar P not none = none
unless_memory unread.Memory P not none = absurd (not refl)
