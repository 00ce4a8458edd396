-- What the program's tables of heights stand for.
use Rattle.std.specs.Prelude.{◌≡◌, ℕ, ◌+◌, ◌-◌, ◌<◌, ◌≤◌, ◌==◌, if◌then◌else◌, Option, Some, None, Result, Ok, Err, List, [], ◌∷◌, length, map, reverse, get_or, set, replicate}
use Rattle.std.specs.List.{AllByRecursion}
use Rattle.instructions.specs.declared.fault.CodeFault.{CodeFault}
use Rattle.instructions.specs.Op.{Op, Over}
use Rattle.instructions.specs.Faults.{Fails}
use Rattle.instructions.specs.Judging.{Arrival, OpenBody, comes_to}
use Rattle.instructions.specs.declared.bodies.Height.{Height}
use Rattle.instructions.specs.declared.bodies.Height.TheVariants as height
use Rattle.instructions.specs.declared.bodies.OpenBody.{OpenBody as Held}

abbrev pub arrival : ℕ → ℕ → Arrival
arrival place height = record { place = place; height = height }

-- One more height with which control comes to a place.
abbrev pub joined : Height → ℕ → Height
joined height.Never h = height.Always h
joined (height.Always k) h = if h == k then height.Always k else height.Mixed
joined height.Mixed h = height.Mixed

-- The one height, where there is one.
abbrev pub one_height : Height → Option ℕ
one_height height.Never = None
one_height (height.Always h) = Some h
one_height height.Mixed = None

-- What arrivals tell of a place.
abbrev pub told : ℕ → Height → Arrival → Height
told place known a = if comes_to place a then joined known a.height else known

abbrev pub all_told : ℕ → Height → List Arrival → Height
all_told place known [] = known
all_told place known (a ∷ came) = all_told place (told place known a) came

-- A body with the heights of its places, from its first to its end.
pub record Table : Type 0 where
  pub first : ℕ
  pub end : ℕ
  pub heights : List Height

abbrev pub table_of : Held → Table
table_of b = record { first = b.first; end = b.end; heights = b.heights.items }

-- The bodies around the innermost one: the program adds at the back, so the innermost of them is the last.
abbrev pub tables_of : List Held → List Table
tables_of bs = reverse (map table_of bs)

-- What the table knows of a place.
abbrev pub known_at : ℕ → Table → Height
known_at place t = get_or t.heights (place - t.first) height.Never

-- The table with an arrival more, and with more of them.
abbrev pub expecting : Table → Arrival → Table
expecting t a = record { first = t.first; end = t.end; heights = set t.heights (a.place - t.first) (joined (known_at a.place t) a.height) }

abbrev pub all_expecting : Table → List Arrival → Table
all_expecting t [] = t
all_expecting t (a ∷ came) = all_expecting (expecting t a) came

-- A body that control comes to at its first place, with an empty stack.
abbrev pub begun : ℕ → ℕ → Table
begun first end = expecting (record { first = first; end = end; heights = replicate (end - first + 1) height.Never }) (arrival first 0)

-- A macro opens its body.
abbrev pub opening : Op → ℕ → Table → List Table → Table × List Table
opening (Over m end) at t around = (begun (at + 1) end, t ∷ around)
opening op at t around = (t, around)

-- From a place on, the table has what the arrivals tell.
pub record Stands (at : ℕ) (t : Table) (b : OpenBody) : Type 0 where
  pub begins : t.first ≤ at
  pub room : t.end < t.first + length t.heights
  pub ends : t.end ≡ b.end
  pub heights : (place : ℕ) → at ≤ place → known_at place t ≡ all_told place height.Never b.awaited

-- The open bodies, each in the one around it, in a plan of this many instructions.
abbrev pub Nested : ℕ → ℕ → Table → List Table → OpenBody → List OpenBody → Type 0
Nested at count t [] b [] = Stands at t b × (t.end ≡ count)
Nested at count t [] b (c ∷ cs) = ⊥
Nested at count t (o ∷ os) b [] = ⊥
Nested at count t (o ∷ os) b (c ∷ cs) = Stands at t b × ((t.end ≤ o.end) × Nested at count o os c cs)

-- The program's open bodies are the expected ones.
pub record AreOpen (at count : ℕ) (t : Table) (ts : List Table) (bodies : OpenBody × List OpenBody) : Type 0 where
  pub before : at ≤ t.end
  pub nested : Nested at count t ts bodies.0 bodies.1

-- What is expected is a pair of bodies that the program's stand for.
pub record Reaches (at count : ℕ) (t : Table) (ts : List Table) (expected : Result (OpenBody × List OpenBody) CodeFault) : Type 0 where
  pub bodies : OpenBody × List OpenBody
  pub are : expected ≡ Ok bodies
  pub standing : AreOpen at count t ts bodies

abbrev pub Follows : ℕ → ℕ → Result Held CodeFault → List Held → Result (OpenBody × List OpenBody) CodeFault → Type 0
Follows at count (Ok held) outer expected = Reaches at count (table_of held) (tables_of outer) expected
Follows at count (Err e) outer expected = Fails e expected

-- No height in the body is above the place.
abbrev pub AreLow : ℕ → List Arrival → Type 0
AreLow at awaited = AllByRecursion (λ a. a.height ≤ at) awaited

abbrev pub AllAreLow : ℕ → List OpenBody → Type 0
AllAreLow at bodies = AllByRecursion (λ b. AreLow at b.awaited) bodies

-- There are such bodies, with low heights.
pub record AreKnown (at count : ℕ) (t : Table) (ts : List Table) : Type 0 where
  pub bodies : OpenBody × List OpenBody
  pub standing : AreOpen at count t ts bodies
  pub low : AreLow at bodies.0.awaited
  pub all_low : AllAreLow at bodies.1

-- The targets lie ahead, in the body or at its end.
abbrev pub AreWithin : ℕ → ℕ → List ℕ → Type 0
AreWithin at end targets = AllByRecursion (λ target. (at < target) × (target ≤ end)) targets
