-- Plans that an object may not have, among writes.
use Rattle.std.proofs.Common.{◌≡◌, ◌∙◌, sym, ap, subst, refl, ℕ, List, [], ◌∷◌, ◌++◌, Contains, Result, Ok, Err, arith}
use Rattle.std.proofs.lemmas.List.{append_assoc}
use Rattle.std.proofs.lemmas.List.Elements.{Contains-append_right}
use Rattle.std.specs.Prelude.{◌≢◌}
use Rattle.serde_json.specs.Data.{Data}
use Rattle.names.specs.declared.resource.Resource.{Resource}
use Rattle.histories.specs.History as plain
use Rattle.expressions.specs.Specification.{Plans, MayHavePlans, plans_bytes}
use Rattle.recovery.specs.Faults.{PutsOtherPlans, OneHasOther}

abbrev Raw : Type 0
Raw = plain.Write (List ℕ)

-- no plans that the object may have have these bytes
abbrev pub AreOther : List ℕ → Resource → Data → Type 0
AreOther bytes r d = (plans : Plans) → MayHavePlans r d plans → plans_bytes r plans ≢ bytes

pub other_of : (bytes : List ℕ) (r q : Resource) (d e : Data) → r ≡ q → d ≡ e → AreOther bytes r d → AreOther bytes q e
other_of bytes r q d e same alike other =
    let OfResource : Resource → Type 0 = λ x. AreOther bytes x e in
    let OfDocument : Data → Type 0 = λ x. AreOther bytes r x in
    subst OfResource same (subst OfDocument alike other)

pub never_told : {A E : Type 0} {x : A} {fault : E} → ◌≡◌ {A = Result A E} (Ok x) (Err fault) → ⊥
never_told told = cc

-- the next write is one of all
pub next_of : (done left all : List Raw) (raw : Raw) (rest : List Raw) → done ++ left ≡ all → left ≡ raw ∷ rest → PutsOtherPlans raw → OneHasOther all
next_of done left all raw rest parts step other =
    let In : List Raw → Type 0 = λ ws. Contains ws raw in
    record {
      write = raw;
      stands = subst In (ap (λ (ws : List Raw). done ++ ws) (sym step) ∙ parts) (Contains-append_right done (raw ∷ rest) raw (0, omega arith, refl));
      other = other;
    }

-- one write more is done
pub one_done : (done left all : List Raw) (raw : Raw) (rest : List Raw) → done ++ left ≡ all → left ≡ raw ∷ rest → (done ++ raw ∷ []) ++ rest ≡ all
one_done done left all raw rest parts step = append_assoc done (raw ∷ []) rest ∙ ap (λ (ws : List Raw). done ++ ws) (sym step) ∙ parts
