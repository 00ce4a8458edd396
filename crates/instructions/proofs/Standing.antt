-- The program's tables stand for bodies, from place to place.
use Rattle.std.proofs.Common.{◌≡◌, ℕ, ◌+◌, ◌-◌, ◌<◌, ◌≤◌, true, false, not, cond, List, [], ◌∷◌, length, get_or, replicate, refl, sym, ap, subst, ◌∙◌, arith, eqb-true, eq-eqb, true≢false, length-set}
use Rattle.std.proofs.lemmas.List.{get_or-set_same, get_or-set_other, get_or-replicate, get_or_past, length-replicate}
use Rattle.std.specs.List.{filter, AllByRecursion}
use Rattle.instructions.specs.Op.{Op, IfFalse, IfTrue, Branch, Jump, Over}
use Rattle.instructions.specs.Judging.{Arrival, OpenBody, comes_to, arrivals, targets, goes_on, opens}
use Rattle.instructions.specs.declared.bodies.Height.{Height}
use Rattle.instructions.specs.declared.bodies.Height.TheVariants as height
use Rattle.instructions.specs.Bodies.{arrival, joined, told, all_told, Table, known_at, expecting, all_expecting, begun, opening, Stands, Nested, AreOpen, AreWithin}
use Rattle.instructions.proofs.Heights.{told_append, told_filter}

-- an arrival in the table changes what is known of its place, and nothing else
known_expecting : (place : ℕ) (t : Table) (a : Arrival) → t.first ≤ place → t.first ≤ a.place → a.place - t.first < length t.heights → known_at place (expecting t a) ≡ told place (known_at place t) a
known_expecting place t a first begins room =
    (elim (comes_to place a) as (λ b. comes_to place a ≡ b → known_at place (expecting t a) ≡ cond b (joined (known_at place t) a.height) (known_at place t)) [
      | true ↦ λ e.
          let k : a.place ≡ place = eqb-true a.place place e in
          let i : place - t.first ≡ a.place - t.first = omega arith in
          rw i (get_or-set_same t.heights (a.place - t.first) (joined (known_at a.place t) a.height) height.Never room)
      | false ↦ λ e.
          let i : place - t.first ≡ a.place - t.first → ⊥ = λ k. absurd (true≢false (sym (eq-eqb a.place place (omega arith)) ∙ e)) in
          get_or-set_other t.heights (a.place - t.first) (place - t.first) (joined (known_at a.place t) a.height) height.Never i
    ]) refl

-- the arrivals lie in the table
abbrev pub AreInside : Table → List Arrival → Type 0
AreInside t came = AllByRecursion (λ a. (t.first ≤ a.place) × (a.place - t.first < length t.heights)) came

still_inside : (t : Table) (a : Arrival) (came : List Arrival) → AreInside t came → AreInside (expecting t a) came
still_inside t a [] inside = tt
still_inside t a (b ∷ came) inside =
    let k : length (expecting t a).heights ≡ length t.heights = length-set t.heights (a.place - t.first) (joined (known_at a.place t) a.height) in
    ((inside.0.0, subst (λ (n : ℕ). b.place - t.first < n) (sym k) inside.0.1), still_inside t a came inside.1)

known_all : (place : ℕ) (t : Table) (came : List Arrival) → t.first ≤ place → AreInside t came → known_at place (all_expecting t came) ≡ all_told place (known_at place t) came
known_all place t [] first inside = refl
known_all place t (a ∷ came) first inside =
    known_all place (expecting t a) came first (still_inside t a came inside.1)
    ∙ ap (λ (k : Height). all_told place k came) (known_expecting place t a first inside.0.0 inside.0.1)

first_same : (t : Table) (came : List Arrival) → (all_expecting t came).first ≡ t.first
first_same t [] = refl
first_same t (a ∷ came) = first_same (expecting t a) came

end_same : (t : Table) (came : List Arrival) → (all_expecting t came).end ≡ t.end
end_same t [] = refl
end_same t (a ∷ came) = end_same (expecting t a) came

length_same : (t : Table) (came : List Arrival) → length (all_expecting t came).heights ≡ length t.heights
length_same t [] = refl
length_same t (a ∷ came) = length_same (expecting t a) came ∙ length-set t.heights (a.place - t.first) (joined (known_at a.place t) a.height)

is_inside : (at place : ℕ) (t : Table) (b : OpenBody) → Stands at t b → at < place → place ≤ t.end → (t.first ≤ place) × (place - t.first < length t.heights)
is_inside at place t b s lt le =
    let begins : t.first ≤ at = s.begins in
    let room : t.end < t.first + length t.heights = s.room in
    (omega arith, omega arith)

-- where an instruction leads lies ahead, in its body or at its end
arrive_inside : (op : Op) (at h : ℕ) (t : Table) (b : OpenBody) → Stands at t b → at < t.end → AreWithin at t.end (targets op) → AreInside t (arrivals op at h)
arrive_inside (IfFalse target) at h t b s lt within = (is_inside at target t b s within.0.0 within.0.1, (is_inside at (at + 1) t b s (omega arith) (omega arith), tt))
arrive_inside (IfTrue target) at h t b s lt within = (is_inside at target t b s within.0.0 within.0.1, (is_inside at (at + 1) t b s (omega arith) (omega arith), tt))
arrive_inside (Branch otherwise end) at h t b s lt within =
    (is_inside at otherwise t b s within.0.0 within.0.1, (is_inside at end t b s within.1.0.0 within.1.0.1, (is_inside at (at + 1) t b s (omega arith) (omega arith), tt)))
arrive_inside (Jump target) at h t b s lt within = (is_inside at target t b s within.0.0 within.0.1, tt)
arrive_inside (Over m end) at h t b s lt within = (is_inside at end t b s within.0.0 within.0.1, tt)
arrive_inside op at h t b s lt within = (is_inside at (at + 1) t b s (omega arith) (omega arith), tt)

pub stands_on : (op : Op) (at h : ℕ) (t : Table) (b : OpenBody) → Stands at t b → at < t.end → AreWithin at t.end (targets op) → Stands (at + 1) (all_expecting t (arrivals op at h)) (goes_on op at h b)
stands_on op at h t b s lt within =
    let came = arrivals op at h in
    let inside : AreInside t came = arrive_inside op at h t b s lt within in
    record {
      begins = let k : (all_expecting t came).first ≡ t.first = first_same t came in let l : t.first ≤ at = s.begins in omega arith;
      room = rw (first_same t came, end_same t came, length_same t came) s.room;
      ends = end_same t came ∙ s.ends;
      heights = λ place le.
          let first : t.first ≤ place = (let l : t.first ≤ at = s.begins in omega arith) in
          let lt : at < place = omega arith in
          known_all place t came first inside
          ∙ ap (λ (k : Height). all_told place k came) (s.heights place (omega arith) ∙ sym (told_filter at place height.Never b.awaited lt))
          ∙ sym (told_append place height.Never (filter (λ a. not (comes_to at a)) b.awaited) came);
    }

nothing_known : (n i : ℕ) → get_or (replicate n height.Never) i height.Never ≡ height.Never
nothing_known n i = grind (arith, get_or-replicate n i height.Never height.Never, get_or_past (replicate n height.Never) i height.Never, length-replicate n height.Never)

pub stands_begun : (first end : ℕ) → first ≤ end → Stands first (begun first end) (record { end = end; awaited = arrival first 0 ∷ [] })
stands_begun first end le =
    let heights = replicate (end - first + 1) height.Never in
    let n : length heights ≡ end - first + 1 = length-replicate (end - first + 1) height.Never in
    let t : Table = record { first = first; end = end; heights = heights } in
    let k : length (begun first end).heights ≡ end - first + 1 = length-set heights (first - first) (joined (known_at first t) 0) ∙ n in
    record {
      begins = omega arith;
      room = omega arith;
      ends = refl;
      heights = λ place le.
          known_expecting place t (arrival first 0) le (omega arith) (omega arith)
          ∙ ap (λ (k : Height). told place k (arrival first 0)) (nothing_known (end - first + 1) (place - first));
    }

stands_later : (at : ℕ) (t : Table) (b : OpenBody) → Stands at t b → Stands (at + 1) t b
stands_later at t b s = record { begins = (let l : t.first ≤ at = s.begins in omega arith); room = s.room; ends = s.ends; heights = λ place le. s.heights place (omega arith) }

nested_later : (at count : ℕ) (t : Table) (ts : List Table) (b : OpenBody) (bs : List OpenBody) → Nested at count t ts b bs → Nested (at + 1) count t ts b bs
nested_later at count t [] b [] n = (stands_later at t b n.0, n.1)
nested_later at count t [] b (c ∷ cs) n = n
nested_later at count t (o ∷ os) b [] n = n
nested_later at count t (o ∷ os) b (c ∷ cs) n = (stands_later at t b n.0, (n.1.0, nested_later at count o os c cs n.1.1))

-- the innermost body may be exchanged for one that ends where it does
innermost : (at count : ℕ) (t u : Table) (ts : List Table) (b c : OpenBody) (bs : List OpenBody) → t.end ≡ u.end → Stands at u c → Nested at count t ts b bs → Nested at count u ts c bs
innermost at count t u [] b c [] e s n = (s, sym e ∙ n.1)
innermost at count t u [] b c (d ∷ ds) e s n = n
innermost at count t u (o ∷ os) b c [] e s n = n
innermost at count t u (o ∷ os) b c (d ∷ ds) e s n = (s, (subst (λ (k : ℕ). k ≤ o.end) e n.1.0, n.1.1))

pub ends_inside : (at count : ℕ) (t : Table) (ts : List Table) (b : OpenBody) (bs : List OpenBody) → Nested at count t ts b bs → t.end ≤ count
ends_inside at count t [] b [] n = let e : t.end ≡ count = n.1 in omega arith
ends_inside at count t [] b (c ∷ cs) n = absurd n
ends_inside at count t (o ∷ os) b [] n = absurd n
ends_inside at count t (o ∷ os) b (c ∷ cs) n = let le : o.end ≤ count = ends_inside at count o os c cs n.1.1 in let k : t.end ≤ o.end = n.1.0 in omega arith

pub innermost_stands : (at count : ℕ) (t : Table) (ts : List Table) (b : OpenBody) (bs : List OpenBody) → Nested at count t ts b bs → Stands at t b
innermost_stands at count t [] b [] n = n.0
innermost_stands at count t [] b (c ∷ cs) n = absurd n
innermost_stands at count t (o ∷ os) b [] n = absurd n
innermost_stands at count t (o ∷ os) b (c ∷ cs) n = n.0

opens_inside : (op : Op) (at count : ℕ) (t : Table) (ts : List Table) (b : OpenBody) (bs : List OpenBody) → at < t.end → AreWithin at t.end (targets op) → Nested (at + 1) count t ts b bs → AreOpen (at + 1) count (opening op at t ts).0 (opening op at t ts).1 (opens op at b bs)
opens_inside (Over m end) at count t ts b bs lt within n =
    let le : at + 1 ≤ end = (let k : at < end = within.0.0 in omega arith) in
    record { before = le; nested = (stands_begun (at + 1) end le, (within.0.1, n)) }
opens_inside op at count t ts b bs lt within n = record { before = omega arith; nested = n }

pub goes_on_open : (op : Op) (at count h : ℕ) (t : Table) (ts : List Table) (b : OpenBody) (bs : List OpenBody) → at < t.end → AreWithin at t.end (targets op) → Nested at count t ts b bs
    → AreOpen (at + 1) count (opening op at (all_expecting t (arrivals op at h)) ts).0 (opening op at (all_expecting t (arrivals op at h)) ts).1 (opens op at (goes_on op at h b) bs)
goes_on_open op at count h t ts b bs lt within n =
    let u = all_expecting t (arrivals op at h) in
    let e : u.end ≡ t.end = end_same t (arrivals op at h) in
    let s : Stands (at + 1) u (goes_on op at h b) = stands_on op at h t b (innermost_stands at count t ts b bs n) lt within in
    opens_inside op at count u ts (goes_on op at h b) bs (rw e lt) (rw e within) (innermost (at + 1) count t u ts b (goes_on op at h b) bs (sym e) s (nested_later at count t ts b bs n))
