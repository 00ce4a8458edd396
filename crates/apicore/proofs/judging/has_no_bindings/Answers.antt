use Rattle.std.proofs.Common.{rules, ◌≡◌, ◌==◌, sym, subst, Bool, [], length, None}
use Rattle.std.specs.Prelude.{Decides}
use Rattle.names.specs.declared.resource.Resource.TheVariants.{ValidatingAdmissionPolicyBinding}
use Rattle.verdict.specs.Listed.{listed}
use Rattle.apicore.specs.Attempts.{objects_of}
use Rattle.apicore.proofs.Finding.{bindings_covered}
use Rattle.apicore.proofs.NoBindings.{no_bindings}
use Rattle.apicore.proofs.judging.has_no_bindings.Goals as goal

pub returns : goal.returns
returns c = λ base v over.
    let lent = c.in_ok-bindings.bindings.items in
    let Decided : Bool → Type 0 = λ b. Decides b (listed ValidatingAdmissionPolicyBinding None (objects_of v) ≡ []) in
    let counted : c.is_empty.result ≡ (length lent == 0) = search rules in
    subst Decided (sym counted) (no_bindings over.held v lent over.plans (c.in_ok-bindings.ensures base over.held over.shows (bindings_covered _ base over.free)))
