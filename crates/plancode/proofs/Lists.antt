-- The bytes of plans decide them.
use Rattle.std.proofs.Common.{◌≡◌, ◌∙◌, sym, ap, subst, refl, ℕ, suc, ◌<◌, ◌^◌, List, [], ◌∷◌, ◌++◌, length}
use Rattle.std.specs.List.{flat_map}
use Rattle.std.specs.Prelude.{Result, Ok, Err, IfOk}
use Rattle.byteorder.specs.Endian.{big_bytes, big_number}
use Rattle.byteorder.specs.Numbers.{big_number-reads_back}
use Rattle.fields.specs.Field.{field}
use Rattle.fields.proofs.Fields.{same-fields}
use Rattle.instructions.specs.Bytes.{code}
use Rattle.plancode.specs.Plans.{Judged, IsVerified}
use Rattle.plancode.proofs.Codes.{one_spelling}
use Rattle.plancode.specs.PlanList.{plan_bytes, list_bytes, IsFor, AreFor, IsListFor}

same_plan : (n : ℕ) (p q : Judged) → IsFor n p → IsFor n q → code p.ops ≡ code q.ops → p ≡ q
same_plan n p q a b same =
    let ops : p.ops ≡ q.ops = one_spelling p.ops q.ops a.verified.room b.verified.room same in
    let vars : p.vars ≡ q.vars = a.place ∙ sym b.place in
    λ i. record { vars = vars i; ops = ops i }

-- what a field that was found says of a plan in front
pub same_code : (n : ℕ) (p : Judged) (bytes rest inside after : List ℕ) → IsFor n p → length inside < 256 ^ 4 → bytes ≡ field 4 inside ++ after
    → plan_bytes p ++ rest ≡ bytes → (code p.ops ≡ inside) × (rest ≡ after)
same_code n p bytes rest inside after fits short parts same = same-fields 4 (code p.ops) inside rest after fits.short short (same ∙ parts)

pub same_fronts : (n : ℕ) (p q : Judged) (rest more : List ℕ) → IsFor n p → IsFor n q → plan_bytes p ++ rest ≡ plan_bytes q ++ more → (p ≡ q) × (rest ≡ more)
same_fronts n p q rest more a b same =
    let parts = same-fields 4 (code p.ops) (code q.ops) rest more a.short b.short same in
    (same_plan n p q a b parts.0, parts.1)

same_each : (places : List ℕ) (ps qs : List Judged) → AreFor places ps → AreFor places qs → flat_map plan_bytes ps ≡ flat_map plan_bytes qs → ps ≡ qs
same_each [] [] [] a b same = refl
same_each [] [] (q ∷ qs) a b same = absurd b
same_each [] (p ∷ ps) qs a b same = absurd a
same_each (n ∷ ns) [] qs a b same = absurd a
same_each (n ∷ ns) (p ∷ ps) [] a b same = absurd b
same_each (n ∷ ns) (p ∷ ps) (q ∷ qs) a b same =
    let fronts = same_fronts n p q (flat_map plan_bytes ps) (flat_map plan_bytes qs) a.0 b.0 same in
    let others : ps ≡ qs = same_each ns ps qs a.1 b.1 fronts.1 in
    λ i. fronts.0 i ∷ others i

after_count : (a b c d : ℕ) (xs ys : List ℕ) → a ∷ b ∷ xs ≡ c ∷ d ∷ ys → xs ≡ ys
after_count a b c d xs ys same = cc

pub one_list : (places : List ℕ) (ps qs : List Judged) → IsListFor places ps → IsListFor places qs → list_bytes ps ≡ list_bytes qs → ps ≡ qs
one_list places ps qs a b same = same_each places ps qs a.each b.each (after_count _ _ _ _ (flat_map plan_bytes ps) (flat_map plan_bytes qs) same)

pub same_length : (places : List ℕ) (ps : List Judged) → AreFor places ps → length ps ≡ length places
same_length [] [] a = refl
same_length [] (p ∷ ps) a = absurd a
same_length (n ∷ ns) [] a = absurd a
same_length (n ∷ ns) (p ∷ ps) a = ap suc (same_length ns ps a.1)

-- what a number that was found says of the number of plans
pub same_count : (places : List ℕ) (ps : List Judged) (bytes rest : List ℕ) (n : ℕ) → IsListFor places ps → n < 2 ^ 16 → bytes ≡ big_bytes 2 n ++ rest
    → list_bytes ps ≡ bytes → (n ≡ length places) × (flat_map plan_bytes ps ≡ rest)
same_count places ps bytes rest n list fits parts same =
    let counts : length ps ≡ n =
    sym (big_number-reads_back 2 (length ps) (flat_map plan_bytes ps) list.count) ∙ ap (big_number 2) (same ∙ parts) ∙ big_number-reads_back 2 n rest fits in
    (sym counts ∙ same_length places ps list.each, after_count _ _ _ _ (flat_map plan_bytes ps) rest (same ∙ parts))

-- a plan that was read is the only one
pub only_plan : (n : ℕ) (q : Judged) (bytes inside after : List ℕ) → length inside < 256 ^ 4 → bytes ≡ field 4 inside ++ after
    → q.vars ≡ n → IsVerified q.vars q.ops → code q.ops ≡ inside
    → (p : Judged) (rest : List ℕ) → IsFor n p → plan_bytes p ++ rest ≡ bytes → (p ≡ q) × (rest ≡ after)
only_plan n q bytes inside after short parts place verified is p rest fits same =
    let found = same_code n p bytes rest inside after fits short parts same in
    let ops : p.ops ≡ q.ops = one_spelling p.ops q.ops fits.verified.room verified.room (found.0 ∙ sym is) in
    let vars : p.vars ≡ q.vars = fits.place ∙ sym place in
    (λ i. record { vars = vars i; ops = ops i }, found.1)

-- the plans that were read for each place, after their number
pub is_listed : {T E : Type 0} (items : T → List Judged) (r : Result T E) (places bytes rest : List ℕ) (n : ℕ) → n ≡ length places → bytes ≡ big_bytes 2 n ++ rest
    → IfOk r (λ v. flat_map plan_bytes (items v) ≡ rest) → IfOk r (λ v. AreFor places (items v)) → IfOk r (λ v. list_bytes (items v) ≡ bytes)
is_listed items (Err e) places bytes rest n counts parts found fits = tt
is_listed items (Ok v) places bytes rest n counts parts found fits =
    ap (λ (m : ℕ). big_bytes 2 m ++ flat_map plan_bytes (items v)) (same_length places (items v) fits ∙ sym counts) ∙ ap (λ (more : List ℕ). big_bytes 2 n ++ more) found ∙ sym parts

pub is_list : {T E : Type 0} (items : T → List Judged) (r : Result T E) (places : List ℕ) (n : ℕ) → n ≡ length places → n < 2 ^ 16
    → IfOk r (λ v. AreFor places (items v)) → IfOk r (λ v. IsListFor places (items v))
is_list items (Err e) places n counts fits each = tt
is_list items (Ok v) places n counts fits each =
    record { each = each; count = let P : ℕ → Type 0 = λ m. m < 2 ^ 16 in subst P (counts ∙ sym (same_length places (items v) each)) fits }
