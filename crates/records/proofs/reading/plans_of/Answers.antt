use Rattle.std.proofs.Common.{arith, ◌≡◌, ◌≢◌, ◌∙◌, sym, ap, ◌++◌, ℕ, List, [], ◌∷◌, length}
use Rattle.names.specs.declared.resource.Resource.TheVariants.{ValidatingAdmissionPolicy}
use Rattle.names.specs.Key.{Key}
use Rattle.pages.specs.Page.{Entry}
use Rattle.records.specs.Entries.{plan_entries}
use Rattle.records.proofs.reading.plans_of.Goals as goal

pub returns-in-ValidatingAdmissionPolicy-clause-found : goal.returns-in-ValidatingAdmissionPolicy-clause-found
returns-in-ValidatingAdmissionPolicy-clause-found c plans rest may same =
    let policy : c.args.key.now.resource ≡ ValidatingAdmissionPolicy = sym c.resource.ensures.value ∙ c.in-ValidatingAdmissionPolicy.is in
    c.read_plans.ensures.found plans rest may.0 (may.1 policy) same

pub returns-in-ValidatingAdmissionPolicy-clause-damaged : goal.returns-in-ValidatingAdmissionPolicy-clause-damaged
returns-in-ValidatingAdmissionPolicy-clause-damaged c is_damaged plans rest may same =
    let policy : c.args.key.now.resource ≡ ValidatingAdmissionPolicy = sym c.resource.ensures.value ∙ c.in-ValidatingAdmissionPolicy.is in
    c.read_plans.ensures.damaged is_damaged plans rest may.0 (may.1 policy) same

none_of : (k : Key) (plans none : List ℕ) (rest all : List Entry) → none ≡ [] → (plans ≢ [] → ⊥) → plan_entries k plans ++ rest ≡ all
    → (none ≡ plans) × (all ≡ rest)
none_of k [] none rest all is other same = (is, sym same)
none_of k (x ∷ plans) none rest all is other same = absurd (other (λ e. cc))

pub returns-in_default : goal.returns-in_default
returns-in_default c =
    let none : c.new.result.items ≡ [] = c.new.ensures.items in
    record {
      inside = omega arith;
      entries = ap (λ (bytes : List ℕ). plan_entries c.args.key.now bytes ++ c.args.entries.now) none;
      few = (λ some. absurd (some none), omega (arith, ap length none));
      found = λ plans rest may same.
          none_of c.args.key.now plans c.new.result.items rest c.args.entries.now none
          (λ some. c.in_default.not-ValidatingAdmissionPolicy (c.resource.ensures.value ∙ may.2 some)) same;
      damaged = λ is_damaged plans rest may same. cc;
    }
