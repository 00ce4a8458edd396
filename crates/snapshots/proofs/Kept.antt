-- What is promised of the entries of a view.
use Rattle.std.proofs.Common.{◌≡◌, ◌≤◌, ◌⊎◌, inl, inr, subst, Bool, true, false, List, [], ◌∷◌, IsTrue}
use Rattle.std.specs.FinMap.{is_sorted}
use Rattle.std.specs.List.{AllByRecursion}
use Rattle.celtree.specs.Tree.{Expr}
use Rattle.names.specs.declared.format.Format.{Format}
use Rattle.names.specs.Key.{Key}
use Rattle.documents.specs.Document.{Document}
use Rattle.histories.specs.declared.stored.Stored.{Stored}
use Rattle.expressions.specs.Specification.{Spells}
use Rattle.pages.specs.Page.{Entry, bytes_cmp}
use Rattle.names.specs.Format.{has_chunks}
use Rattle.chunks.specs.Chunks.{cuts, cut_if}
use Rattle.chunks.proofs.Cuts.{one_cut}
use Rattle.snapshots.proofs.Chunked.{entries_cuttable, cut_ascend, cut_fit}
use Rattle.checkpoint.specs.Filling.{AllFit}
use Rattle.records.proofs.Ascending as ascending
use Rattle.records.proofs.Fitting as fitting
use Rattle.records.proofs.Fitting.{Fits}
use Rattle.records.proofs.Views.{one_view_of}
use Rattle.decoded.specs.Standing.{HasTrees}
use Rattle.snapshots.specs.Keeping.{tree_plans, entries_of}
use Rattle.snapshots.specs.Laws.{AtMostOneView, EntriesAreCuttable, EntriesAscend, EntriesFit}
use Rattle.snapshots.proofs.Spelling.{spelled_there}

abbrev Planted : Type 0
Planted = Key × Stored (List Expr)

abbrev Stands : Format → Planted → Type 0
Stands f o = HasTrees f o.0.resource o.1.document.json o.1.beside

-- a document has one list of trees
one_list : (f : Format) (o p : Planted) → Stands f o → Stands f p → o.0 ≡ p.0 → o.1.document ≡ p.1.document → tree_plans o ≡ tree_plans p → o.1.beside ≡ p.1.beside
one_list f o p a b key document plans =
    let Are : Key → Document → Type 0 = λ k d. Spells k.resource d.json o.1.beside in
    let there : Are o.0 o.1.document = spelled_there f o.0.resource o.1.document o.1.beside a.spelled in
    b.alone o.1.beside (subst (Are p.0) document (subst (λ k. Are k o.1.document) key there))

pub entries_are_cuttable : EntriesAreCuttable
entries_are_cuttable rules v keepable = entries_cuttable rules keepable.short tree_plans v keepable.holdable

pub entries_have_one_view : AtMostOneView
entries_have_one_view rules format v w a b same revision =
    let entries : entries_of v ≡ entries_of w = one_cut format (entries_of v) (entries_of w) (entries_are_cuttable rules v a) (entries_are_cuttable rules w b) same in
    one_view_of tree_plans rules (Stands rules.format) (one_list rules.format) v w a.holdable b.holdable a.trees b.trees entries revision

pub entries_ascend : EntriesAscend
entries_ascend rules format v keepable = ascend_if (has_chunks format)
  where
    ascend_if : (c : Bool) → IsTrue (is_sorted bytes_cmp (cut_if c (entries_of v)))
    ascend_if false = ascending.entries_ascend tree_plans rules v keepable.holdable
    ascend_if true = cut_ascend tree_plans rules v (entries_are_cuttable rules v keepable) keepable.holdable

all_fit : (es : List Entry) → AllByRecursion Fits es → AllFit es
all_fit [] all = tt
all_fit (e ∷ es) all = (all.0, all_fit es all.1)

pub entries_fit : EntriesFit
entries_fit rules format v short keepable = fit_if (has_chunks format) short
  where
    fit_if : (c : Bool) → (rules.text_limit_bytes ≤ 16384) ⊎ (c ≡ true) → AllFit (cut_if c (entries_of v))
    fit_if false (inl few) = all_fit (entries_of v) (fitting.entries_fit tree_plans rules few v keepable.holdable)
    fit_if false (inr never) = cc
    fit_if true short = all_fit (cuts (entries_of v)) (cut_fit rules keepable.short tree_plans v keepable.holdable)
