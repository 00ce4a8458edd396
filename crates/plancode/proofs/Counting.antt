-- Reading instructions one after the other, as a loop does.
use Rattle.std.proofs.Common.{◌≡◌, ℕ, suc, ◌-◌, ◌+◌, ◌≤◌, ◌<◌, List, [], ◌∷◌, ◌++◌, Result, Ok, Err, refl, sym, ap, ◌∙◌, append_assoc, arith}
use Rattle.std.proofs.lemmas.List.{append-nil}
use Rattle.instructions.specs.declared.fault.CodeFault.{CodeFault}
use Rattle.instructions.specs.declared.instruction.Name.{Name}
use Rattle.instructions.specs.Op.{Op}
use Rattle.instructions.specs.Faults.{◌>>=◌, Fails}
use Rattle.instructions.specs.Reading.{op_at}
use Rattle.plancode.specs.Reading.{ops_at}
use Rattle.instructions.proofs.Failing.{fails}

-- what was read before, and what is still read
abbrev pub with_front : List Op → Result (List Op × List ℕ) CodeFault → Result (List Op × List ℕ) CodeFault
with_front front read = read >>= λ x. Ok (front ++ x.0, x.1)

regroup : (front : List Op) (n : Op) (read : Result (List Op × List ℕ) CodeFault) → with_front front (read >>= λ x. Ok (n ∷ x.0, x.1)) ≡ with_front (front ++ n ∷ []) read
regroup front n (Ok x) = ap (λ (ns : List Op). Ok (ns, x.1)) (simp append_assoc)
regroup front n (Err f) = refl

pub goes_on : (g : Name) (front : List Op) (count i : ℕ) (bytes : List ℕ) (n : Op) (after : List ℕ) (total : Result (List Op × List ℕ) CodeFault) → i < count → op_at g bytes ≡ Ok (n, after)
    → with_front front (ops_at g (count - i) bytes) ≡ total → with_front (front ++ n ∷ []) (ops_at g (count - (i + 1)) after) ≡ total
unfolding ops_at
goes_on g front count i bytes n after total lt h so_far =
    let k : count - i ≡ suc (count - (i + 1)) = omega arith in
    let one : with_front front (ops_at g (count - i) bytes) ≡ with_front (front ++ n ∷ []) (ops_at g (count - (i + 1)) after) = rw (k, h) (regroup front n (ops_at g (count - (i + 1)) after)) in
    sym one ∙ so_far

ends_with : (g : Name) (front : List Op) (count i : ℕ) (bytes : List ℕ) (total : Result (List Op × List ℕ) CodeFault) → i < count → with_front front (ops_at g (count - i) bytes) ≡ total → (f : CodeFault) → op_at g bytes ≡ Err f → total ≡ Err f
unfolding ops_at
ends_with g front count i bytes total lt so_far f h =
    let k : count - i ≡ suc (count - (i + 1)) = omega arith in
    let one : with_front front (ops_at g (count - i) bytes) ≡ Err f = rw (k, h) refl in
    sym so_far ∙ one

pub ends : (e : CodeFault) (g : Name) (front : List Op) (count i : ℕ) (bytes : List ℕ) (total : Result (List Op × List ℕ) CodeFault) → i < count → Fails e (op_at g bytes)
    → with_front front (ops_at g (count - i) bytes) ≡ total → Fails e total
ends e g front count i bytes total lt h so_far = fails e (op_at g bytes) total (ends_with g front count i bytes total lt so_far) h

pub is_done : (g : Name) (front : List Op) (count i : ℕ) (bytes : List ℕ) (total : Result (List Op × List ℕ) CodeFault) → count ≤ i → with_front front (ops_at g (count - i) bytes) ≡ total → total ≡ Ok (front, bytes)
unfolding ops_at
is_done g front count i bytes total le so_far =
    let k : count - i ≡ 0 = omega arith in
    let one : with_front front (ops_at g (count - i) bytes) ≡ Ok (front, bytes) = rw k (ap (λ (ns : List Op). Ok (ns, bytes)) (append-nil front)) in
    sym so_far ∙ one
