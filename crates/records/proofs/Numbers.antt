-- The bytes of numbers are in the order of the numbers.
use Rattle.std.proofs.Common.{arith, ◌≡◌, ◌∙◌, sym, ap, ⊎_elim, inl, inr, ◌⊎◌, ◌<◌, ◌≤◌, ◌+◌, ◌*◌, ◌^◌, ◌/◌, ℕ, zero, suc, List, [], ◌∷◌, length, slice_index}
use Rattle.std.proofs.Math.Nat.{add-mul, mod-lt, mul-le-mul_right}
use Rattle.std.proofs.lemmas.Bool.{cases_lt}
use Rattle.std.proofs.lemmas.Bool.Decides.{nat_tests}
use Rattle.std.proofs.lemmas.List.{append-nil}
use Rattle.std.specs.Cmp.Lexicographic.{slice_cmp}
use Rattle.std.specs.Int.{byte_at, bytes_high_first}
use Rattle.std.specs.Ordering.{nat_cmp, ordering_then}
use Rattle.std.specs.declared.cmp.Ordering.TheVariants.{Less, Equal}
use Rattle.byteorder.specs.Endian.{big_from, big_bytes}
use Rattle.byteorder.specs.Numbers.{big_from-cons, big_from-lt, big_number-reads_back, length-bytes_high_first}

pub less_is : (x y : ℕ) → x < y → nat_cmp x y ≡ Less
less_is x y less = grind (arith, nat_tests)

pub same_is : (x y : ℕ) → x ≡ y → nat_cmp x y ≡ Equal
same_is x y same = grind (arith, nat_tests)

abbrev AreSmall : List ℕ → Type 0
AreSmall [] = Unit {0}
AreSmall (x ∷ xs) = (x < 256) × AreSmall xs

small_at : (xs : List ℕ) → AreSmall xs → (k : ℕ) → slice_index xs k < 256
small_at [] small k = omega arith
small_at (x ∷ xs) small zero = small.0
small_at (x ∷ xs) small (suc k) = small_at xs small.1 k

small_byte : (k x : ℕ) → byte_at k x < 256
small_byte zero x = mod-lt x (omega arith)
small_byte (suc k) x = mod-lt (x / 256 ^ suc k) (omega arith)

small_bytes : (n x : ℕ) → AreSmall (bytes_high_first n x)
small_bytes zero x = tt
small_bytes (suc n) x = (small_byte n x, small_bytes n x)

-- the first digit that differs decides
digits : (x y base u v : ℕ) → u < base → v < base → x * base + u < y * base + v → (x < y) ⊎ ((x ≡ y) × (u < v))
digits x y base u v a b less =
    ⊎_elim (λ below. inl below) (λ above. ⊎_elim
    (λ over.
    let step : (y + 1) * base ≤ x * base = mul-le-mul_right base (omega arith) in
    absurd (omega (arith, step, add-mul y 1 base, less)))
    (λ under.
    let same : x ≡ y = omega arith in
    inr (same, omega (arith, less, ap (λ (n : ℕ). n * base) same)))
    (cases_lt y x))
    (cases_lt x y)

less_bytes : (n : ℕ) (xs ys : List ℕ) → length xs ≡ n → length ys ≡ n → AreSmall xs → AreSmall ys → big_from 0 n xs < big_from 0 n ys → slice_cmp nat_cmp xs ys ≡ Less
less_bytes zero xs ys a b s t less = absurd (omega (arith, less))
less_bytes (suc n) [] ys a b s t less = absurd (omega arith)
less_bytes (suc n) (x ∷ xs) [] a b s t less = absurd (omega arith)
less_bytes (suc n) (x ∷ xs) (y ∷ ys) a b s t less =
    let whole : x * 256 ^ n + big_from 1 n (x ∷ xs) < y * 256 ^ n + big_from 1 n (y ∷ ys) = less in
    let parts : x * 256 ^ n + big_from 0 n xs < y * 256 ^ n + big_from 0 n ys = omega (arith, whole, big_from-cons 0 n x xs, big_from-cons 0 n y ys) in
    ⊎_elim
    (λ first. ap (λ o. ordering_then o (slice_cmp nat_cmp xs ys)) (less_is x y first))
    (λ rest. ap (λ o. ordering_then o (slice_cmp nat_cmp xs ys)) (same_is x y rest.0) ∙ less_bytes n xs ys (omega arith) (omega arith) s.1 t.1 rest.1)
    (digits x y (256 ^ n) (big_from 0 n xs) (big_from 0 n ys) (big_from-lt 0 n xs (small_at xs s.1)) (big_from-lt 0 n ys (small_at ys t.1)) parts)

reads_back : (n x : ℕ) → x < 256 ^ n → big_from 0 n (big_bytes n x) ≡ x
reads_back n x fits = ap (big_from 0 n) (sym (append-nil (big_bytes n x))) ∙ big_number-reads_back n x [] fits

-- Of two numbers the lesser has the lesser bytes.
pub less_numbers : (n x y : ℕ) → x < y → y < 256 ^ n → slice_cmp nat_cmp (big_bytes n x) (big_bytes n y) ≡ Less
less_numbers n x y less fits =
    let first : big_from 0 n (big_bytes n x) ≡ x = reads_back n x (omega (arith, less, fits)) in
    let second : big_from 0 n (big_bytes n y) ≡ y = reads_back n y fits in
    less_bytes n (big_bytes n x) (big_bytes n y) (length-bytes_high_first n x) (length-bytes_high_first n y) (small_bytes n x) (small_bytes n y) (omega (arith, less, first, second))
