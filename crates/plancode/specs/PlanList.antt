-- The plans of a policy's expressions, one after another, as a record holds them. Numbers are unsigned, the highest byte first.
use Rattle.std.specs.Prelude.{◌≡◌, ℕ, ◌<◌, ◌^◌, List, [], ◌∷◌, ◌++◌, length}
use Rattle.std.specs.List.{flat_map, AllByRecursion}
use Rattle.byteorder.specs.Endian.{big_bytes}
use Rattle.fields.specs.Field.{field}
use Rattle.instructions.specs.Bytes.{code}
use Rattle.instructions.specs.declared.instruction.Name.TheVariants.{Params}
use Rattle.plancode.specs.Plans.{Judged, IsVerified}

-- the code of a plan, with its number of bytes in front
abbrev pub plan_bytes : Judged → List ℕ
plan_bytes p = field 4 (code p.ops)

-- how many plans there are, and each of them
abbrev pub list_bytes : List Judged → List ℕ
list_bytes plans = big_bytes 2 (length plans) ++ flat_map plan_bytes plans

abbrev pub IsShort : Judged → Type 0
IsShort p = length (code p.ops) < 2 ^ 32

-- the numbers have room in their bytes
pub record HaveNumbers (plans : List Judged) : Type 0 where
  pub count : length plans < 2 ^ 16
  pub sizes : AllByRecursion IsShort plans

-- a well-formed plan for a place with this many variables, whose number of bytes has room
pub record IsFor (variables : ℕ) (p : Judged) : Type 0 where
  pub place : p.vars ≡ variables
  pub verified : IsVerified p.vars p.ops
  pub short : IsShort p

-- a plan for each place, in order
abbrev pub AreFor : (places : List ℕ) → List Judged → Type 0
AreFor [] [] = Unit {0}
AreFor [] (p ∷ ps) = ⊥
AreFor (n ∷ ns) [] = ⊥
AreFor (n ∷ ns) (p ∷ ps) = IsFor n p × AreFor ns ps

-- a plan for each place, and no more than are counted
pub record IsListFor (places : List ℕ) (plans : List Judged) : Type 0 where
  pub each : AreFor places plans
  pub count : length plans < 2 ^ 16
