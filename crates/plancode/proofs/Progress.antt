-- What was read of plans, and what is left.
use Rattle.std.proofs.Common.{◌≡◌, ◌≢◌, ◌∙◌, sym, ap, subst, refl, ℕ, List, [], ◌∷◌, ◌++◌, length, append_assoc}
use Rattle.std.proofs.lemmas.List.{append-nil}
use Rattle.std.specs.List.{flat_map}
use Rattle.plancode.specs.Plans.{Judged}
use Rattle.plancode.specs.PlanList.{plan_bytes, IsFor, AreFor}
use Rattle.plancode.proofs.Lists.{same_fronts}

-- these plans were read of the bytes for the first places, and these places and these bytes are left
pub record IsRead (places bytes : List ℕ) (left rest : List ℕ) (plans : List Judged) : Type 0 where
  pub read : flat_map plan_bytes plans ++ rest ≡ bytes
  pub fits : (later : List Judged) → AreFor left later → AreFor places (plans ++ later)
  pub only : (all : List Judged) → AreFor places all → flat_map plan_bytes all ≡ bytes → (later : List Judged) × AreFor left later × (flat_map plan_bytes later ≡ rest)

flat_map-append : (ps : List Judged) (q : Judged) (rest : List ℕ) → flat_map plan_bytes (ps ++ q ∷ []) ++ rest ≡ flat_map plan_bytes ps ++ (plan_bytes q ++ rest)
flat_map-append [] q rest = ap (λ bytes. bytes ++ rest) (append-nil (plan_bytes q))
flat_map-append (p ∷ ps) q rest =
    append_assoc (plan_bytes p) (flat_map plan_bytes (ps ++ q ∷ [])) rest
    ∙ ap (λ bytes. plan_bytes p ++ bytes) (flat_map-append ps q rest)
    ∙ sym (append_assoc (plan_bytes p) (flat_map plan_bytes ps) (plan_bytes q ++ rest))

left_after : (n : ℕ) (left rest after : List ℕ) (q : Judged) → IsFor n q → plan_bytes q ++ after ≡ rest
    → (x : (later : List Judged) × AreFor (n ∷ left) later × (flat_map plan_bytes later ≡ rest)) → (later : List Judged) × AreFor left later × (flat_map plan_bytes later ≡ after)
left_after n left rest after q is front ([], fits, same) = absurd fits
left_after n left rest after q is front (p ∷ ps, fits, same) =
    (ps, fits.1, (same_fronts n p q (flat_map plan_bytes ps) after fits.0 is (same ∙ sym front)).1)

pub one_more : (places bytes : List ℕ) (n : ℕ) (left rest : List ℕ) (plans : List Judged) (q : Judged) (after : List ℕ) → IsRead places bytes (n ∷ left) rest plans
    → IsFor n q → plan_bytes q ++ after ≡ rest → IsRead places bytes left after (plans ++ q ∷ [])
one_more places bytes n left rest plans q after is fits front = record {
  read = flat_map-append plans q after ∙ ap (λ more. flat_map plan_bytes plans ++ more) front ∙ is.read;
  fits = λ later are. let P : List Judged → Type 0 = AreFor places in subst P (sym (append_assoc plans (q ∷ []) later)) (is.fits (q ∷ later) (fits, are));
  only = λ all are same. left_after n left rest after q fits front (is.only all are same);
}

no_front : (n : ℕ) (left rest : List ℕ) → ((p : Judged) (after : List ℕ) → IsFor n p → plan_bytes p ++ after ≢ rest)
    → (x : (later : List Judged) × AreFor (n ∷ left) later × (flat_map plan_bytes later ≡ rest)) → ⊥
no_front n left rest none ([], fits, same) = absurd fits
no_front n left rest none (p ∷ ps, fits, same) = none p (flat_map plan_bytes ps) fits.0 same

-- no plans are found where none is found next
pub none_next : (places bytes : List ℕ) (n : ℕ) (left rest : List ℕ) (plans : List Judged) → IsRead places bytes (n ∷ left) rest plans
    → ((p : Judged) (after : List ℕ) → IsFor n p → plan_bytes p ++ after ≢ rest) → (all : List Judged) → AreFor places all → flat_map plan_bytes all ≢ bytes
none_next places bytes n left rest plans is none all fits same = no_front n left rest none (is.only all fits same)

-- the plans are found where nothing is left
pub all_fit : (places bytes left rest : List ℕ) (plans : List Judged) → length left ≡ 0 → IsRead places bytes left rest plans → AreFor places plans
all_fit places bytes [] rest plans none is = let P : List Judged → Type 0 = AreFor places in subst P (append-nil plans) (is.fits [] tt)
all_fit places bytes (n ∷ left) rest plans none is = cc
