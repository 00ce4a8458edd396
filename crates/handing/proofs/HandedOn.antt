-- Changes and cells, taken in turn in the order of their keys.
use Rattle.std.proofs.Common.{arith, ◌≡◌, ◌∙◌, sym, ap, subst, refl, ℕ, zero, suc, ◌+◌, ◌<◌, ◌≤◌, true, Bool, List, [], ◌∷◌, ◌++◌, length, map, take, drop, get_or, append_assoc, IsTrue, Option}
use Rattle.std.proofs.lemmas.List.{map-append, drop_more, take_all, drop_all}
use Rattle.std.specs.FinMap.{is_sorted}
use Rattle.std.specs.Prelude.{Some, None, slice_get}
use Rattle.std.specs.List.{AllByRecursion}
use Rattle.std.specs.declared.alloc.Global.{Global}
use Rattle.std.specs.declared.cmp.Ordering.TheVariants.{Less}
use Rattle.std.specs.declared.vec.Vec.{Vec}
use Rattle.byteorder.specs.Endian.{big_bytes}
use Rattle.jsondoc.specs.Json.{text}
use Rattle.names.specs.Key.{Key, key_cmp}
use Rattle.names.specs.KeyLaws.{key_cmp_total}
use Rattle.objects.specs.Merged.{merged}
use Rattle.objects.specs.Steps.{put_by, puts_of, IsNext, IsSplitAt, NoneBelow, AllAbove}
use Rattle.objects.proofs.Found.{first_above, rest_sorted}
use Rattle.objects.proofs.Taking.{sorted_drop, step_merged, step_end}
use Rattle.histories.specs.declared.stored.Stored.{Stored}
use Rattle.pages.specs.Page.{Entry}
use Rattle.records.specs.Entries.{stored_entry}
use Rattle.handing.specs.Cells.{cells_in, stored_cells, Adds}

-- ---- how many changes are below a key

module _ {X : Type 0} where
  none_after : (key first : Key) (changes : List (Key × Option X)) → (key_cmp first key ≡ Less → ⊥) → AllByRecursion (λ c. key_cmp first c.0 ≡ Less) changes → NoneBelow key changes
  none_after key first [] other above = tt
  none_after key first (c ∷ changes) other above =
      (λ less. other (key_cmp_total.trans first c.0 key above.0 less), none_after key first changes other above.1)

  -- Where the first of ascending changes is not below a key, none is.
  pub none_below : (key : Key) (first : Key × Option X) (changes : List (Key × Option X)) → IsTrue (is_sorted key_cmp (first ∷ changes)) → (key_cmp first.0 key ≡ Less → ⊥)
      → NoneBelow key (first ∷ changes)
  none_below key first changes sorted other = (other, none_after key first.0 changes other (first_above first changes sorted))

  -- ---- one after the other

  abbrev pub AreBelow : Key → List (Key × Option X) → Type 0
  AreBelow key changes = AllByRecursion (λ change. key_cmp change.0 key ≡ Less) changes

  pub one_more_below : (key : Key) (changes : List (Key × Option X)) (at : ℕ) (change : Key × Option X) → at < length changes → change ≡ get_or changes at change
      → key_cmp change.0 key ≡ Less → AreBelow key (take at changes) → AreBelow key (take (at + 1) changes)
  one_more_below key [] at change inside is less all = absurd (omega arith)
  one_more_below key (c ∷ changes) zero change inside is less all = (ap (λ (c : Key × Option X). key_cmp c.0 key) (sym is) ∙ less, tt)
  one_more_below key (c ∷ changes) (suc at) change inside is less all =
      let more : suc (at + 1) ≡ suc at + 1 = omega arith in
      subst (λ n. AreBelow key (take n (c ∷ changes))) more (all.0, one_more_below key changes at change (omega arith) is less all.1)

  pub split_here : (key : Key) (changes : List (Key × Option X)) (at : ℕ) (change : Key × Option X) → at < length changes → change ≡ get_or changes at change
      → (key_cmp change.0 key ≡ Less → ⊥) → AreBelow key (take at changes) → IsTrue (is_sorted key_cmp changes) → IsSplitAt key changes at
  split_here key changes at change inside is other all sorted =
      let rest : List (Key × Option X) = drop (at + 1) changes in
      let next : drop at changes ≡ change ∷ rest = drop_more changes at change inside ∙ ap (λ (c : Key × Option X). c ∷ rest) (sym is) in
      let Sorted : List (Key × Option X) → Type 0 = λ cs. is_sorted key_cmp cs ≡ true in
      let None : List (Key × Option X) → Type 0 = λ cs. NoneBelow key cs in
      record { below = all; after = subst None (sym next) (none_below key change rest (subst Sorted next (sorted_drop at changes sorted)) other) }

  pub split_end : (key : Key) (changes : List (Key × Option X)) (at : ℕ) → length changes ≤ at → AreBelow key (take at changes) → IsSplitAt key changes (length changes)
  split_end key changes at all_of below =
      let Below : List (Key × Option X) → Type 0 = λ cs. AreBelow key cs in
      let None : List (Key × Option X) → Type 0 = λ cs. NoneBelow key cs in
      record {
        below = subst Below (take_all at changes all_of ∙ sym (take_all (length changes) changes (omega arith))) below;
        after = subst None (sym (drop_all (length changes) changes (omega arith))) tt;
      }

  -- whether the first change is one of the key
  pub next_is : (key : Key) (changes : List (Key × Option X)) (first : Key × Option X) → Some first ≡ slice_get changes 0
      → (first.0 ≡ key → IsNext key changes) × (IsNext key changes → first.0 ≡ key)
  next_is key [] first is = absurd (nothing first is)
    where
      nothing : (first : Key × Option X) → Some first ≡ None → ⊥
      nothing first h = cc
  next_is key (change ∷ changes) first is =
      let same : first ≡ change = cc in
      ((λ h. ap (λ (c : Key × Option X). c.0) (sym same) ∙ h), (λ h. ap (λ (c : Key × Option X). c.0) same ∙ h))

  -- the first change, where it is one of the key
  pub next_first : (key : Key) (changes : List (Key × Option X)) (first : Key × Option X) → IsNext key changes → first ≡ get_or changes 0 first
      → (changes ≡ first ∷ drop 1 changes) × (first.0 ≡ key)
  next_first key [] first next is = absurd next
  next_first key (change ∷ changes) first next is =
      (ap (λ (c : Key × Option X). c ∷ changes) (sym is), ap (λ (c : Key × Option X). c.0) is ∙ next)

-- ---- entries that were added, and what is left

-- After the last cell none is left.
pub none_left : (left : List (Key × Vec ℕ Global)) → length left ≡ 0 → left ≡ []
none_left [] none = refl
none_left (c ∷ left) none = absurd (omega arith)

module _ {P : Type 0} where
  abbrev pub entries : List (Key × Stored P) → List Entry
  entries objects = map stored_entry objects

  -- With what the changes that are left make of the objects whose cells are left, the entries are those of what all changes make of all objects.
  pub record HandsOn (changes : List (Key × Option (Stored P))) (base : List (Key × Stored P)) (done : ℕ) (left : List (Key × Vec ℕ Global)) (made : List Entry) : Type 0 where
    pub rest : List (Key × Stored P)
    pub cells : cells_in left ≡ stored_cells rest
    pub sorted : IsTrue (is_sorted key_cmp rest)
    pub handed : made ++ entries (merged (drop done changes) rest) ≡ entries (merged changes base)

  -- Before the first cell all is left.
  pub begins : (changes : List (Key × Option (Stored P))) (base : List (Key × Stored P)) (left : List (Key × Vec ℕ Global)) (made : List Entry) → made ≡ [] → cells_in left ≡ stored_cells base → IsTrue (is_sorted key_cmp base)
      → HandsOn changes base 0 left made
  begins changes base left made none cells sorted = record {
    rest = base;
    cells = cells;
    sorted = sorted;
    handed = ap (λ (es : List Entry). es ++ entries (merged changes base)) none;
  }

  -- what one more change put, and then what is left
  pub puts_more : (changes : List (Key × Option (Stored P))) (at : ℕ) (change : Key × Option (Stored P)) (old new all : List Entry) → at < length changes → change ≡ get_or changes at change
      → new ≡ old ++ entries (put_by change) → old ++ entries (puts_of (drop at changes)) ≡ all → new ++ entries (puts_of (drop (at + 1) changes)) ≡ all
  puts_more changes at change old new all inside is added before =
      let rest : List (Key × Option (Stored P)) = drop (at + 1) changes in
      let next : drop at changes ≡ change ∷ rest = drop_more changes at change inside ∙ ap (λ (c : Key × Option (Stored P)). c ∷ rest) (sym is) in
      ap (λ (es : List Entry). es ++ entries (puts_of rest)) added
      ∙ append_assoc old (entries (put_by change)) (entries (puts_of rest))
      ∙ ap (λ (es : List Entry). old ++ es) (sym (map-append stored_entry (put_by change) (puts_of rest)))
      ∙ ap (λ (cs : List (Key × Option (Stored P))). old ++ entries (puts_of cs)) (sym next)
      ∙ before

  turn : (old : List Entry) (xs ys zs : List (Key × Stored P)) → ((old ++ entries xs) ++ entries ys) ++ entries zs ≡ old ++ entries ((xs ++ ys) ++ zs)
  turn old xs ys zs =
      append_assoc (old ++ entries xs) (entries ys) (entries zs)
      ∙ append_assoc old (entries xs) (entries ys ++ entries zs)
      ∙ ap (λ (es : List Entry). old ++ es)
      (sym (append_assoc (entries xs) (entries ys) (entries zs))
      ∙ ap (λ (es : List Entry). es ++ entries zs) (sym (map-append stored_entry xs ys))
      ∙ sym (map-append stored_entry (xs ++ ys) zs))

  module _ (changes : List (Key × Option (Stored P))) (base : List (Key × Stored P)) (done count more : ℕ) (old mid new : List Entry) (changes_sorted : IsTrue (is_sorted key_cmp changes)) where
    -- A step: what the changes below an object put, and then the object, or what its change put.
    object_done : (o : Key × Stored P) (back : List (Key × Stored P)) → IsTrue (is_sorted key_cmp (o ∷ back)) → IsSplitAt o.0 (drop done changes) count
        → mid ≡ old ++ entries (puts_of (take count (drop done changes)))
        → Adds mid new (drop (done + count) changes) (drop more (drop (done + count) changes)) o
        → new ++ entries (merged (drop (done + count + more) changes) back) ≡ old ++ entries (merged (drop done changes) (o ∷ back))
    object_done o back sorted split below adds =
        let front : List (Key × Stored P) = puts_of (take count (drop done changes)) in
        let left : List (Key × Stored P) = merged (drop (done + count + more) changes) back in
        let step : (front ++ adds.objects) ++ left ≡ merged (drop done changes) (o ∷ back) =
        step_merged changes (o ∷ back) done count more 0 o [] front (front ++ adds.objects) (merged (drop done changes) (o ∷ back)) changes_sorted sorted refl split refl
        (λ others others_sorted none above.
        append_assoc front adds.objects (merged (drop more (drop (done + count) changes)) others)
        ∙ ap (λ (os : List (Key × Stored P)). front ++ os) (adds.are others others_sorted none above))
        refl
        in
        ap (λ (es : List Entry). es ++ entries left) (adds.added ∙ ap (λ (es : List Entry). es ++ entries adds.objects) below)
        ∙ turn old front adds.objects left
        ∙ ap (λ (os : List (Key × Stored P)). old ++ entries os) step

    pub one_more : (pair : Key × Vec ℕ Global) (left : List (Key × Vec ℕ Global)) → IsSplitAt pair.0 (drop done changes) count
        → mid ≡ old ++ entries (puts_of (take count (drop done changes)))
        → ((stored : Stored P) → pair.1.items ≡ big_bytes 8 stored.revision ++ text stored.document.json
        → Adds mid new (drop (done + count) changes) (drop more (drop (done + count) changes)) (pair.0, stored))
        → HandsOn changes base done (pair ∷ left) old → HandsOn changes base (done + count + more) left new
    one_more pair left split below adds hands = of hands.rest hands.cells hands.sorted hands.handed
      where
        of : (rest : List (Key × Stored P)) → cells_in (pair ∷ left) ≡ stored_cells rest → IsTrue (is_sorted key_cmp rest)
            → old ++ entries (merged (drop done changes) rest) ≡ entries (merged changes base) → HandsOn changes base (done + count + more) left new
        of [] cells sorted handed = cc
        of (o ∷ back) cells sorted handed =
            let head : ◌≡◌ {A = Key × List ℕ} (pair.0, pair.1.items) (o.0, big_bytes 8 o.1.revision ++ text o.1.document.json) = cc in
            let key : pair.0 ≡ o.0 = ap (λ (c : Key × List ℕ). c.0) head in
            let cell : pair.1.items ≡ big_bytes 8 o.1.revision ++ text o.1.document.json = ap (λ (c : Key × List ℕ). c.1) head in
            let others : cells_in left ≡ stored_cells back = cc in
            let Split : Key → Type 0 = λ k. IsSplitAt k (drop done changes) count in
            let Added : Key → Type 0 = λ k. Adds mid new (drop (done + count) changes) (drop more (drop (done + count) changes)) (k, o.1) in
            record {
              rest = back;
              cells = others;
              sorted = rest_sorted o back sorted;
              handed = object_done o back sorted (subst Split key split) below (subst Added key (adds o.1 cell)) ∙ handed;
            }

  -- When all cells are done, the changes that are left come last.
  pub all_done : (changes : List (Key × Option (Stored P))) (base : List (Key × Stored P)) (done : ℕ) (old new : List Entry) → IsTrue (is_sorted key_cmp changes) → HandsOn changes base done [] old
      → new ≡ old ++ entries (puts_of (drop done changes)) → new ≡ entries (merged changes base)
  all_done changes base done old new sorted hands is = of hands.rest hands.cells hands.handed
    where
      of : (rest : List (Key × Stored P)) → cells_in [] ≡ stored_cells rest → old ++ entries (merged (drop done changes) rest) ≡ entries (merged changes base) → new ≡ entries (merged changes base)
      of [] cells handed =
          is ∙ ap (λ (os : List (Key × Stored P)). old ++ entries os) (step_end changes [] done 0 [] (puts_of (drop done changes)) (merged (drop done changes) []) sorted refl refl refl)
          ∙ handed
      of (o ∷ rest) cells handed = cc
