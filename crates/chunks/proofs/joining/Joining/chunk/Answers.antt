use Rattle.std.proofs.Common.{rules, arith, ◌≡◌, ◌∙◌, sym, ap, subst, inl, inr, ⊎_elim, ◌⊎◌, ◌<◌, ◌≤◌, ◌*◌, List, ℕ, [], ◌∷◌, ◌++◌, Bool, true, None, Some, is_some, length, Result, Ok, Err, OnOk}
use Rattle.byteorder.specs.Endian.{big_bytes}
use Rattle.pages.specs.Page.{Entry}
use Rattle.chunks.specs.Chunks.{stem_of, cuts, count_of, AreCuttable, IsLater}
use Rattle.chunks.specs.Joining.{waiting}
use Rattle.chunks.proofs.Cuts.{same_chunk, not_later}
use Rattle.chunks.proofs.Going.{never_cut, never_on, begun, gone_on}
use Rattle.chunks.proofs.joining.Joining.chunk.Goals as goal
use Rattle.chunks.proofs.joining.Joining.chunk.Goals.{then-is_empty-via-then-is_empty, then-is_empty-via-else-is_empty+then-cell-gt-CHUNK_BYTES}

on_ok_two : {T E : Type 0} (P Q R : Type 0) (r : Result T E) → (P → Q → R) → OnOk r P → OnOk r Q → OnOk r R
on_ok_two P Q R (Ok x) to p q = to p q
on_ok_two P Q R (Err e) to p q = tt

on_ok_to : {T E : Type 0} (P Q : Type 0) (r : Result T E) → (P → Q) → OnOk r P → OnOk r Q
on_ok_to P Q (Ok x) to p = to p
on_ok_to P Q (Err e) to p = tt

-- a key with a stem has one
some_stem : (key : List ℕ) (b : Bool) → b ≡ true → b ≡ is_some (stem_of key) → stem_of key ≡ None → ⊥
some_stem key b said is none = cc

pub returns-then-is_empty-clause-refused : goal.returns-then-is_empty-clause-refused
returns-then-is_empty-clause-refused g c told =
    let e : Entry = (c.args.key.now, c.args.cell.now) in
    let size : (length e.1 ≡ 0) ⊎ (8000 < length e.1) =
    elim c.then-is_empty.branch [
      | then-is_empty-via-then-is_empty w ↦ inl (search rules)
      | then-is_empty-via-else-is_empty+then-cell-gt-CHUNK_BYTES w ↦ inr (search rules)
    ] in
    inr (λ es more can could same.
    never_cut c.args.self.now.waiting es e more can could same
    (λ begins. ⊎_elim (some_stem e.0 c.is_cut.result c.if-not-is_cut.false c.is_cut.ensures) (λ b. unfit (length e.1) size b.4 b.5) begins)
    (λ w stem is goes. unfit (length e.1) size goes.some goes.fits))
  where
    unfit : (n : ℕ) → (n ≡ 0) ⊎ (8000 < n) → 0 < n → n ≤ 8000 → ⊥
    unfit n (inl none) some fits = omega (arith, none, some)
    unfit n (inr long) some fits = omega (arith, long, fits)

pub returns-in_default-clause-refused : goal.returns-in_default-clause-refused
returns-in_default-clause-refused g c told =
    let e : Entry = (c.args.key.now, c.args.cell.now) in
    let none : (stem : List ℕ) (n : ℕ) → e.0 ≡ stem ++ big_bytes 2 n → ⊥ = search rules in
    inr (λ es more can could same.
    never_cut c.args.self.now.waiting es e more can could same
    (λ begins. ⊎_elim (some_stem e.0 c.is_cut.result c.if-not-is_cut.false c.is_cut.ensures) (λ b. none b.1 0 b.3) begins)
    (λ w stem is goes. none stem (count_of w.1) goes.key))

pub returns-in_default-whole_of-clause-refused : goal.returns-in_default-whole_of-clause-refused
returns-in_default-whole_of-clause-refused g c told =
    let e : Entry = (c.args.key.now, c.args.cell.now) in
    let here : List ℕ = c.in-Some.stem.now in
    let parts : e.0 ≡ here ++ big_bytes 2 c.in-Some.number = c.in-Some.ensures.parts in
    let fits : c.in-Some.number < 65536 = c.in-Some.ensures.fits in
    let none : (whole : List ℕ) → stem_of whole ≡ Some here → ⊥ = search rules in
    inr (λ es more can could same.
    never_cut c.args.self.now.waiting es e more can could same
    (λ begins. ⊎_elim (some_stem e.0 c.is_cut.result c.if-not-is_cut.false c.is_cut.ensures)
    (λ b. none b.0 (b.2 ∙ ap Some (same_chunk b.1 here 0 c.in-Some.number (omega arith) fits (sym b.3 ∙ parts)).0)) begins)
    (λ w stem is goes. none w.0 (is ∙ ap Some (same_chunk stem here (count_of w.1) c.in-Some.number goes.few fits (sym goes.key ∙ parts)).0)))

pub returns-then-number-eq0-clause-told : goal.returns-then-number-eq0-clause-told
returns-then-number-eq0-clause-told g c =
    let old = c.args.self.now in
    let new = c.begin-then-number-eq0.new.self in
    let e : Entry = (c.args.key.now, c.args.cell.now) in
    let stem : List ℕ = c.in-Some.stem.now in
    let is : stem_of c.in-Some-whole_of.whole.now ≡ Some stem = c.in-Some-whole_of.ensures.some in
    let some : 0 < length e.1 = search rules in
    let fits : length e.1 ≤ 8000 = omega arith in
    let first = begun c.in-Some-whole_of.whole.now stem e.1 is some fits in
    let key : e.0 ≡ stem ++ big_bytes 2 0 = c.in-Some.ensures.parts ∙ ap (λ (n : ℕ). stem ++ big_bytes 2 n) c.if-number-eq0.true in
    on_ok_two _ _ _ c.begin-then-number-eq0.result
    (λ told waits.
    let Can : List Entry → Type 0 = λ x. AreCuttable x in
    record {
      same = c.begin-then-number-eq0.ensures.cutting ∙ c.requires.cutting;
      whole = waiting old;
      told_on = told;
      can = λ can. (can, subst Can (sym waits) first.0);
      parts = ap (λ (x : List Entry). cuts (waiting old) ++ x) ((λ i. (key i, e.1) ∷ []) ∙ sym first.1 ∙ ap (cuts) (sym waits));
      fresh = λ none. absurd (some_waits (sym waits ∙ none));
    })
    c.begin-then-number-eq0.ensures.told c.begin-then-number-eq0.ensures.waits
  where
    some_waits : {x : Entry} {xs : List Entry} → ◌≡◌ {A = List Entry} (x ∷ xs) [] → ⊥
    some_waits is = cc

pub returns-then-number-eq0-clause-refused : goal.returns-then-number-eq0-clause-refused
returns-then-number-eq0-clause-refused g c told =
    let stem : List ℕ = c.in-Some.stem.now in
    let is : stem_of c.in-Some-whole_of.whole.now ≡ Some stem = c.in-Some-whole_of.ensures.some in
    let key : c.args.key.now ≡ stem ++ big_bytes 2 0 = c.in-Some.ensures.parts ∙ ap (λ (n : ℕ). stem ++ big_bytes 2 n) c.if-number-eq0.true in
    let refused = c.begin-then-number-eq0.ensures.refused told in
    let Later : List ℕ → Type 0 = λ k. IsLater k in
    inl (refused.0, refused.1, (λ later. not_later c.in-Some-whole_of.whole.now stem is (subst Later key later)), refused.2)

pub returns-clause-told : goal.returns-clause-told
returns-clause-told g c =
    let old = c.args.self.now in
    let new = c.go_on.new.self in
    let e : Entry = (c.args.key.now, c.args.cell.now) in
    let stem : List ℕ = c.in-Some.stem.now in
    let some : 0 < length e.1 = search rules in
    let fits : length e.1 ≤ 8000 = omega arith in
    let few : c.in-Some.number < 65536 = c.in-Some.ensures.fits in
    on_ok_to _ _ c.go_on.result
    (λ added.
    let w : Entry = added.0 in
    let next = gone_on w stem e.1 c.in-Some.number added.2 added.3 few some fits in
    let Can : List Entry → Type 0 = λ x. AreCuttable x in
    let Reads : g.row.R.Denot → Type 0 = λ r. g.R.Reader.told old.reader r [] in
    record {
      same = c.go_on.ensures.cutting ∙ c.requires.cutting;
      whole = [];
      told_on = subst Reads (sym c.go_on.ensures.reader) (g.met.R.Reader.told_none old.reader);
      can = λ can. (tt, subst Can (sym added.4) next.0);
      parts = ap (λ (x : List Entry). cuts x ++ e ∷ []) added.1 ∙ (λ i. cuts (w ∷ []) ++ (c.in-Some.ensures.parts i, e.1) ∷ []) ∙ next.1 ∙ ap (cuts) (sym added.4);
      fresh = λ none. absurd (some_waits (sym added.4 ∙ none));
    })
    c.go_on.ensures.added
  where
    some_waits : {x : Entry} {xs : List Entry} → ◌≡◌ {A = List Entry} (x ∷ xs) [] → ⊥
    some_waits is = cc

pub returns-clause-refused : goal.returns-clause-refused
returns-clause-refused g c told =
    let e : Entry = (c.args.key.now, c.args.cell.now) in
    let stem : List ℕ = c.in-Some.stem.now in
    let is : stem_of c.in-Some-whole_of.whole.now ≡ Some stem = c.in-Some-whole_of.ensures.some in
    let few : c.in-Some.number < 65536 = c.in-Some.ensures.fits in
    let more : 0 < c.in-Some.number = search rules in
    let later : IsLater e.0 = record { whole = c.in-Some-whole_of.whole.now; stem = stem; chunk = c.in-Some.number; is_stem = is; some = more; few = few; is = c.in-Some.ensures.parts } in
    inr (λ es more can could same.
    never_on c.args.self.now.waiting es e more can could same later
    (λ w other one has goes.
    let chunk = same_chunk other stem (count_of w.1) c.in-Some.number goes.few few (sym goes.key ∙ c.in-Some.ensures.parts) in
    c.go_on.ensures.refused told w one (has ∙ ap Some chunk.0) (goes.whole ∙ ap (λ (n : ℕ). 8000 * n) chunk.1)))
