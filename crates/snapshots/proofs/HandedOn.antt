-- Cells of objects that are told and handed on, and what of a view is held in memory.
use Rattle.std.proofs.Common.{◌≡◌, ◌∙◌, sym, ap, subst, refl, ℕ, Bool, true, false, cond, not, List, [], ◌∷◌, ◌++◌, ◌+◌, ◌<◌, map, length, get_or, drop, append_assoc, Option, Some, None, IsTrue}
use Rattle.std.proofs.lemmas.List.{drop_more}
use Rattle.std.specs.FinMap.{is_sorted}
use Rattle.std.specs.List.{AllByRecursion, filter}
use Rattle.std.specs.declared.alloc.Global.{Global}
use Rattle.std.specs.declared.vec.Vec.{Vec}
use Rattle.names.specs.declared.resource.Resource.{Resource}
use Rattle.names.specs.Key.{Key, key_bytes, key_cmp}
use Rattle.names.proofs.KeyOrder.{key_bytes-injective}
use Rattle.documents.specs.Document.{Document}
use Rattle.objects.specs.Merged.{merged}
use Rattle.objects.specs.Steps.{put_by, puts_of}
use Rattle.objects.proofs.Changing.{merged-filter}
use Rattle.objects.proofs.Taking.{step_end}
use Rattle.histories.specs.declared.stored.Stored.{Stored}
use Rattle.decoded.specs.Decoded.{Decoded}
use Rattle.pages.specs.Page.{Entry}
use Rattle.shelf.specs.Prefix.{beginning}
use Rattle.chunks.specs.Chunks.{cut_if, AreCuttable}
use Rattle.chunks.specs.Joining.{HasHeard, IsNoneTaken}
use Rattle.chunks.specs.Whole.{BeginsAlike}
use Rattle.chunks.proofs.Joined.{heard_whole}
use Rattle.chunks.proofs.Prefixes.{beginning_if, can_begin}
use Rattle.records.specs.Entries.{plan_entries, plans_among}
use Rattle.handing.specs.Cells.{cells_in, stored_cells}
use Rattle.snapshots.specs.declared.cached_object.CachedObject.{CachedObject}
use Rattle.snapshots.specs.declared.cells.CellReader.{CellReader}
use Rattle.snapshots.specs.HandedOn.{cell_entry, HaveKeys, cells_of, AreCutCells, IsTold, Refuses, told_then, AllLie, LieWithoutPlans}
use Rattle.snapshots.specs.Base.{not_held}
use Rattle.snapshots.specs.Keeping.{held_plans}
use Rattle.snapshots.specs.ObjectCache.{cell_of, cached_entry, IsStorable, AreOf}
use Rattle.snapshots.specs.Whole.{whole}
use Rattle.snapshots.proofs.Holding.{stands_among}
use Rattle.snapshots.proofs.LyingBelow.{sorted_filter}

-- ---- of a reader of cells

-- Cells whose entries are those of objects are the objects'.
pub same_cells : (cells : List (Key × List ℕ)) (objects : List (Key × CachedObject)) → HaveKeys cells → AllByRecursion IsStorable objects
    → map cell_entry cells ≡ map cached_entry objects → cells ≡ cells_of objects
same_cells [] [] keys can same = refl
same_cells [] (o ∷ objects) keys can same = cc
same_cells (c ∷ cells) [] keys can same = cc
same_cells (c ∷ cells) (o ∷ objects) keys can same =
    let head : cell_entry c ≡ cached_entry o = cc in
    let others : map cell_entry cells ≡ map cached_entry objects = cc in
    let keyed : 1 ∷ key_bytes c.0 ≡ 1 ∷ key_bytes o.0 = ap (λ (e : Entry). e.0) head in
    let spelled : key_bytes c.0 ≡ key_bytes o.0 = cc in
    let key : c.0 ≡ o.0 = key_bytes-injective c.0 o.0 keys.0 can.0.0.key spelled in
    let cell : c.1 ≡ cell_of o.1 = ap (λ (e : Entry). e.1) head in
    let rest = same_cells cells objects keys.1 can.1 others in
    λ i. (key i, cell i) ∷ rest i

-- A reader that heard entries has the cells that they are of.
pub heard_cells : (c : Bool) (entries : List Entry) (old new : CellReader) → old.cells.items ≡ [] → HasHeard IsTold c old new entries → AreCutCells c entries (cells_in new.cells.items)
heard_cells c entries old new none heard =
    let told : IsTold old new heard.whole = heard.told_on in
    let items : cells_in new.cells.items ≡ told.cells = told.added ∙ ap (λ (vs : List (Key × Vec ℕ Global)). cells_in vs ++ told.cells) none in
    record {
      are = sym heard.are ∙ ap (λ (es : List Entry). cut_if c es) (sym told.are ∙ ap (map cell_entry) (sym items));
      keys = subst (λ (cs : List (Key × List ℕ)). HaveKeys cs) (sym items) told.keys;
    }

module _ (c : Bool) (prefix : List ℕ) (entries : List Entry) (objects : List (Key × CachedObject)) (can : AreCuttable entries) (alike : AllByRecursion (BeginsAlike prefix) entries)
    (of : AreOf (beginning prefix entries) objects) where
  can_be : AreCuttable (beginning prefix entries)
  can_be = can_begin prefix entries can

  cut_so : cut_if c (beginning prefix entries) ≡ beginning prefix (cut_if c entries)
  cut_so = sym (beginning_if c prefix entries alike)

  -- A reader that heard them has the cells of the objects.
  pub told_cells : (old new : CellReader) → old.cells.items ≡ [] → HasHeard IsTold c old new (beginning prefix (cut_if c entries)) → cells_in new.cells.items ≡ cells_of objects
  told_cells old new none heard =
      let told : IsTold old new (beginning prefix entries) = heard_whole IsTold told_then c old new (beginning prefix (cut_if c entries)) (beginning prefix entries) can_be cut_so heard in
      told.added ∙ ap (λ (vs : List (Key × Vec ℕ Global)). cells_in vs ++ told.cells) none ∙ same_cells told.cells objects told.keys of.storable (told.are ∙ of.are)

  -- It refuses none of them.
  pub no_cell_refused : (old : CellReader) → IsNoneTaken IsTold Refuses c old (beginning prefix (cut_if c entries)) → ⊥
  no_cell_refused old not_taken =
      not_taken (beginning prefix entries) can_be cut_so
      (λ refused.
      let found = stands_among objects of.storable refused.before refused.entry refused.after (sym of.are ∙ refused.are) in
      refused.refused found.0.0 found.1.0.key (ap (λ (e : Entry). e.0) found.2))

-- ---- of what lies below

-- Those of the cells whose objects are not held in memory, as they lie there.
pub cells_in-filter : (held : Resource → Bool) (cells : List (Key × Vec ℕ Global))
    → cells_in (filter (λ c. not (held c.0.resource)) cells) ≡ filter (λ c. not (held c.0.resource)) (cells_in cells)
cells_in-filter held [] = refl
cells_in-filter held (c ∷ cells) =
    let behind : List (Key × Vec ℕ Global) = filter (λ c. not (held c.0.resource)) cells in
    let others : List (Key × List ℕ) = filter (λ c. not (held c.0.resource)) (cells_in cells) in
    elim (not (held c.0.resource)) as (λ b. cells_in (cond b (c ∷ behind) behind) ≡ cond b ((c.0, c.1.items) ∷ others) others) [
      | true ↦ ap (λ (cs : List (Key × List ℕ)). (c.0, c.1.items) ∷ cs) (cells_in-filter held cells)
      | false ↦ cells_in-filter held cells
    ]

-- The cells of the objects that are not held in memory are those of what lies below.
pub cells_lie : {P : Type 0} (made : Document → P) (held : Resource → Bool) (all : List (Key × CachedObject))
    → filter (λ c. not (held c.0.resource)) (cells_of all) ≡ stored_cells (map (whole made) (not_held held all))
cells_lie made held [] = refl
cells_lie made held (o ∷ all) =
    let behind : List (Key × CachedObject) = not_held held all in
    let others : List (Key × List ℕ) = filter (λ c. not (held c.0.resource)) (cells_of all) in
    elim (not (held o.0.resource)) as (λ b. cond b ((o.0, cell_of o.1) ∷ others) others ≡ stored_cells (map (whole made) (cond b (o ∷ behind) behind))) [
      | true ↦ ap (λ (cs : List (Key × List ℕ)). (o.0, cell_of o.1) ∷ cs) (cells_lie made held all)
      | false ↦ cells_lie made held all
    ]

-- ---- of what is held in memory

module _ {X : Type 0} (p : Key → Bool) where
  put_filtered : (change : Key × Option X) (changes : List (Key × Option X)) → filter (λ o. p o.0) (puts_of changes) ≡ puts_of (filter (λ c. p c.0) changes)
      → filter (λ o. p o.0) (puts_of (change ∷ changes)) ≡ puts_of (filter (λ c. p c.0) (change ∷ changes))
  put_filtered (key, Some value) changes before =
      let behind : List (Key × X) = filter (λ o. p o.0) (puts_of changes) in
      let others : List (Key × Option X) = filter (λ c. p c.0) changes in
      elim (p key) as (λ b. cond b ((key, value) ∷ behind) behind ≡ puts_of (cond b ((key, Some value) ∷ others) others)) [
        | true ↦ ap (λ (os : List (Key × X)). (key, value) ∷ os) before
        | false ↦ before
      ]
  put_filtered (key, None) changes before =
      let behind : List (Key × X) = filter (λ o. p o.0) (puts_of changes) in
      let others : List (Key × Option X) = filter (λ c. p c.0) changes in
      elim (p key) as (λ b. behind ≡ puts_of (cond b ((key, None) ∷ others) others)) [
        | true ↦ before
        | false ↦ before
      ]

  pub puts_filtered : (changes : List (Key × Option X)) → filter (λ o. p o.0) (puts_of changes) ≡ puts_of (filter (λ c. p c.0) changes)
  puts_filtered [] = refl
  puts_filtered (change ∷ changes) = put_filtered change changes (puts_filtered changes)

  filter_both : (xs ys : List (Key × X)) → filter (λ o. p o.0) (xs ++ ys) ≡ filter (λ o. p o.0) xs ++ filter (λ o. p o.0) ys
  filter_both [] ys = refl
  filter_both (x ∷ xs) ys =
      let front : List (Key × X) = filter (λ o. p o.0) xs in
      let back : List (Key × X) = filter (λ o. p o.0) ys in
      let all : List (Key × X) = filter (λ o. p o.0) (xs ++ ys) in
      elim (p x.0) as (λ b. cond b (x ∷ all) all ≡ cond b (x ∷ front) front ++ back) [
        | true ↦ ap (λ (os : List (Key × X)). x ∷ os) (filter_both xs ys)
        | false ↦ filter_both xs ys
      ]

  -- what of one more change is lent, and then of what is left
  pub lent_more : (changes : List (Key × Option X)) (at : ℕ) (change : Key × Option X) (old new all : List (Key × X)) → at < length changes → change ≡ get_or changes at change
      → new ≡ old ++ filter (λ o. p o.0) (put_by change) → old ++ filter (λ o. p o.0) (puts_of (drop at changes)) ≡ all
      → new ++ filter (λ o. p o.0) (puts_of (drop (at + 1) changes)) ≡ all
  lent_more changes at change old new all inside is added before =
      let rest : List (Key × Option X) = drop (at + 1) changes in
      let next : drop at changes ≡ change ∷ rest = drop_more changes at change inside ∙ ap (λ (c : Key × Option X). c ∷ rest) (sym is) in
      let back : List (Key × X) = filter (λ o. p o.0) (puts_of rest) in
      ap (λ (os : List (Key × X)). os ++ back) added
      ∙ append_assoc old (filter (λ o. p o.0) (put_by change)) back
      ∙ ap (λ (os : List (Key × X)). old ++ os) (sym (filter_both (put_by change) (puts_of rest)))
      ∙ ap (λ (cs : List (Key × Option X)). old ++ filter (λ o. p o.0) (puts_of cs)) (sym next)
      ∙ before

abbrev is_apart : (lies : Resource → Bool) → Key → Bool
is_apart lies k = not (lies k.resource)

module _ {P : Type 0} (lies : Resource → Bool) where
  none_apart : (base : List (Key × Stored P)) → AllLie lies base → filter (λ o. is_apart lies o.0) base ≡ []
  none_apart [] all = refl
  none_apart (o ∷ base) all =
      let behind : List (Key × Stored P) = filter (λ o. is_apart lies o.0) base in
      ap (λ b. cond (not b) (o ∷ behind) behind) all.0 ∙ none_apart base all.1

  -- Of what changes leave of objects that lie below, what does not is what they put of it.
  pub apart_put : (changes : List (Key × Option (Stored P))) (base objects : List (Key × Stored P)) → IsTrue (is_sorted key_cmp changes) → IsTrue (is_sorted key_cmp base)
      → AllLie lies base → merged changes base ≡ objects → filter (λ o. not (lies o.0.resource)) (puts_of changes) ≡ filter (λ o. not (lies o.0.resource)) objects
  apart_put changes base objects changes_sorted base_sorted all leave =
      let some : List (Key × Option (Stored P)) = filter (λ c. is_apart lies c.0) changes in
      puts_filtered (is_apart lies) changes
      ∙ step_end some [] 0 0 [] (puts_of some) (merged some []) (sorted_filter (is_apart lies) changes changes_sorted) refl refl refl
      ∙ ap (λ (bs : List (Key × Stored P)). merged some bs) (sym (none_apart base all))
      ∙ sym (merged-filter (is_apart lies) changes base base_sorted)
      ∙ ap (λ (os : List (Key × Stored P)). filter (λ o. not (lies o.0.resource)) os) leave

-- All plans are those of what does not lie below.
pub plans_apart : (lies : Resource → Bool) → LieWithoutPlans lies → (objects : List (Key × Stored Decoded))
    → plans_among held_plans (filter (λ o. not (lies o.0.resource)) objects) ≡ plans_among held_plans objects
plans_apart lies none [] = refl
plans_apart lies none (o ∷ objects) =
    let behind : List (Key × Stored Decoded) = filter (λ o. not (lies o.0.resource)) objects in
    let others : List Entry = plans_among held_plans objects in
    let before : plans_among held_plans behind ≡ others = plans_apart lies none objects in
    elim (lies o.0.resource) as (λ b. lies o.0.resource ≡ b → plans_among held_plans (cond (not b) (o ∷ behind) behind) ≡ plan_entries o.0 (held_plans o) ++ others) [
      | true ↦ λ is. before ∙ ap (λ (bytes : List ℕ). plan_entries o.0 bytes ++ others) (sym (none o.0.resource o.1.beside.plans is))
      | false ↦ λ is. ap (λ (es : List Entry). plan_entries o.0 (held_plans o) ++ es) before
    ] refl
