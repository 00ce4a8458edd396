-- Leaving the bodies that end at a place, over the program's tables.
use Rattle.std.proofs.Common.{◌≡◌, ℕ, ◌≤◌, true, false, cond, ◌==◌, List, [], ◌∷◌, ◌++◌, map, reverse, Ok, Err, refl, sym, ap, ◌∙◌, arith, eq-eqb}
use Rattle.std.proofs.lemmas.Bool.{ne_eqb}
use Rattle.std.proofs.lemmas.List.{map-append, reverse-append}
use Rattle.instructions.specs.declared.fault.CodeFault.TheVariants as fault
use Rattle.instructions.specs.Judging.{OpenBody, height_at, has_one, is_one, left}
use Rattle.instructions.specs.declared.bodies.OpenBody.{OpenBody as Held}
use Rattle.instructions.specs.Bodies.{one_height, Table, table_of, tables_of, known_at, Stands, AreOpen, Reaches}
use Rattle.instructions.proofs.Heights.{height_is}

pub tables_of_more : (bs : List Held) (b : Held) → tables_of (bs ++ b ∷ []) ≡ table_of b ∷ tables_of bs
tables_of_more bs b = ap (λ (ts : List Table). reverse ts) (map-append table_of bs (b ∷ [])) ∙ reverse-append (map table_of bs) (table_of b ∷ [])

-- the height in the table is the one of the body
pub height_known : (at : ℕ) (t : Table) (b : OpenBody) → Stands at t b → one_height (known_at at t) ≡ height_at at b.awaited
height_known at t b s = ap one_height (s.heights at (omega arith)) ∙ sym (height_is at b.awaited)

pub one_known : (at : ℕ) (t : Table) (b : OpenBody) → Stands at t b → is_one (one_height (known_at at t)) ≡ has_one at b
one_known at t b s = ap is_one (height_known at t b s)

pub leaves_none : (at count : ℕ) (t : Table) (bodies : OpenBody × List OpenBody) → AreOpen at count t [] bodies → Reaches at count t [] (left at bodies.0 bodies.1)
leaves_none at count t (b, []) o = record { bodies = (b, []); are = refl; standing = o }
leaves_none at count t (b, (c ∷ cs)) o = absurd o.nested

pub ends_last : (at count : ℕ) (t : Table) (bodies : OpenBody × List OpenBody) → AreOpen at count t [] bodies → t.end ≡ count
ends_last at count t (b, []) o = o.nested.1
ends_last at count t (b, (c ∷ cs)) o = absurd o.nested

pub stays : (at count : ℕ) (t around : Table) (ts : List Table) (bodies : OpenBody × List OpenBody) → AreOpen at count t (around ∷ ts) bodies → (t.end ≡ at → ⊥) → Reaches at count t (around ∷ ts) (left at bodies.0 bodies.1)
stays at count t around ts (b, []) o other = absurd o.nested
stays at count t around ts (b, (c ∷ cs)) o other =
    let e : (b.end == at) ≡ false = ne_eqb b.end at (λ k. other (o.nested.0.ends ∙ k)) in
    record { bodies = (b, c ∷ cs); are = ap (λ p. cond p (cond (has_one at b) (left at c cs) (Err fault.BadStack)) (Ok (b, c ∷ cs))) e; standing = o }

pub leaves_fails : (at count : ℕ) (t around : Table) (ts : List Table) (bodies : OpenBody × List OpenBody) → AreOpen at count t (around ∷ ts) bodies → t.end ≡ at → is_one (one_height (known_at at t)) ≡ false → left at bodies.0 bodies.1 ≡ Err fault.BadStack
leaves_fails at count t around ts (b, []) o ends none = absurd o.nested
leaves_fails at count t around ts (b, (c ∷ cs)) o ends none =
    let e : (b.end == at) ≡ true = eq-eqb b.end at (sym o.nested.0.ends ∙ ends) in
    let one : has_one at b ≡ false = sym (one_known at t b o.nested.0) ∙ none in
    ap (λ p. cond p (cond (has_one at b) (left at c cs) (Err fault.BadStack)) (Ok (b, c ∷ cs))) e ∙ ap (λ p. cond p (left at c cs) (Err fault.BadStack)) one

-- after a body that ends, the same is asked of the one around it
pub record Around (at count : ℕ) (t : Table) (ts : List Table) (bodies : OpenBody × List OpenBody) : Type 0 where
  pub others : OpenBody × List OpenBody
  pub standing : AreOpen at count t ts others
  pub goes : left at bodies.0 bodies.1 ≡ left at others.0 others.1

pub leaves_one : (at count : ℕ) (t around : Table) (ts : List Table) (bodies : OpenBody × List OpenBody) → AreOpen at count t (around ∷ ts) bodies → t.end ≡ at → is_one (one_height (known_at at t)) ≡ true → Around at count around ts bodies
leaves_one at count t around ts (b, []) o ends one = absurd o.nested
leaves_one at count t around ts (b, (c ∷ cs)) o ends one =
    let e : (b.end == at) ≡ true = eq-eqb b.end at (sym o.nested.0.ends ∙ ends) in
    let k : has_one at b ≡ true = sym (one_known at t b o.nested.0) ∙ one in
    let le : t.end ≤ around.end = o.nested.1.0 in
    record {
      others = (c, cs);
      standing = record { before = omega arith; nested = o.nested.1.1 };
      goes = ap (λ p. cond p (cond (has_one at b) (left at c cs) (Err fault.BadStack)) (Ok (b, c ∷ cs))) e ∙ ap (λ p. cond p (left at c cs) (Err fault.BadStack)) k;
    }
