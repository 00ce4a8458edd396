use Rattle.std.proofs.Common.{rules, arith, refl, ◌∙◌, sym, ap, subst, ⊎_elim, inl, inr, List, [], ◌++◌, ℕ, Err}
use Rattle.std.proofs.lemmas.List.{length-map}
use Rattle.std.proofs.lemmas.Result.{IfOk-from_err}
use Rattle.checkpoint.proofs.Faults.{no_fault}
use Rattle.snapshots.specs.declared.kept_entries.KeptEntries.{KeptEntries}
use Rattle.pages.specs.Page.{Entry}
use Rattle.checkpoint.specs.Pages.{joined, pages_of_root, HoldsEntries, IsIndex}
use Rattle.checkpoint.specs.Index.{keys_of}
use Rattle.chunks.specs.Chunks.{cut}
use Rattle.snapshots.specs.KeptEntries.{kept_of}
use Rattle.snapshots.specs.Keeping.{held_entries}
use Rattle.paged.specs.declared.chosen.Chosen.{Chosen}
use Rattle.paged.specs.Chosen.{is_chosen}
use Rattle.paged.proofs.Choosing.{chooses_rules}
use Rattle.paged.proofs.Lying.{wholes_of, wholes_of_none, lying, none_lying}
use Rattle.paged.proofs.Pages.{IsBad, kept_of_them, pages_hold, count_keys, index_of_none, holds_none, knows_all, none_or_some, scan_bad, scan_memory, snapshot_bad}
use Rattle.paged.proofs.state.Paged.read.Goals as goal

pub returns-in_err-first_keys-clause-damaged : goal.returns-in_err-first_keys-clause-damaged
returns-in_err-first_keys-clause-damaged g c keeps told held is holds revision =
    let content = g.D.Device.disk.content c.args.device.now in
    ⊎_elim
    (λ bad. c.scan_whole.ensures.page keeps (c.in_err-first_keys.was ∙ ap Err bad) (pages_hold c.args.rules held c.args.root.now content is holds))
    (λ bad. c.scan_whole.ensures.refused keeps (c.in_err-first_keys.was ∙ ap Err bad) (held_entries held) holds.can (sym holds.pages.are) (λ refused. refused.refused))
    (scan_bad c.from_residual.result c.in_err-first_keys.field-0.0 c.from_residual.ensures.1 told)

pub returns-in_err-core-clause-damaged : goal.returns-in_err-core-clause-damaged
returns-in_err-core-clause-damaged g c keeps told held is holds revision =
    let content = g.D.Device.disk.content c.args.device.now in
    let chosen : Chosen = c.args.chosen in
    let made = c.new-none.ensures in
    let read =
    kept_of_them c.args.rules held c.args.root.now content chosen c.new-none.result c.in_ok-first_keys.kept_entries made.choice made.kept made.objects c.requires.small holds
    (c.in_ok-first_keys.ensures.told keeps)
    in
    let kept = c.kept.ensures ∙ read.0 in
    let objects = c.objects.ensures ∙ read.1 in
    let all = chooses_rules chosen in
    ⊎_elim
    (λ bad. c.core_of-core.ensures.damaged (inl (c.in_err-core.was ∙ ap Err bad)) held (is_chosen chosen) is all kept objects (sym revision))
    (λ bad. c.core_of-core.ensures.damaged (inr (c.in_err-core.was ∙ ap Err bad)) held (is_chosen chosen) is all kept objects (sym revision))
    (snapshot_bad c.from_residual-in_err-core.result c.in_err-core.field-0.0 c.from_residual-in_err-core.ensures.1 told)

pub returns-in_err-cache-clause-damaged : goal.returns-in_err-cache-clause-damaged
returns-in_err-cache-clause-damaged g c keeps told held is holds revision =
    let content = g.D.Device.disk.content c.args.device.now in
    let bad : IsBad c.cache_of.result = ⊎_elim (λ x. inl (search rules)) (⊎_elim (λ x. inr (inl (search rules))) (λ x. inr (inr (search rules)))) told in
    c.cache_of.ensures.damaged bad
    (sym (length-map c.in_ok-first_keys.first_keys.items (λ key. key.items))
    ∙ count_keys (keys_of c.in_ok-first_keys.first_keys.items) c.args.root.now content (c.in_ok-first_keys.ensures.index keeps))

pub returns-clause-held : goal.returns-clause-held
returns-clause-held g c keeps held is holds revision =
    let disk = g.D.Device.disk in
    let content = disk.content c.args.device.now in
    let root = c.args.root.now in
    let chosen : Chosen = c.args.chosen in
    let made = c.new-none.ensures in
    let read =
    kept_of_them c.args.rules held root content chosen c.new-none.result c.in_ok-first_keys.kept_entries made.choice made.kept made.objects c.requires.small holds
    (c.in_ok-first_keys.ensures.told keeps)
    in
    let shown =
    c.in_ok-core.ensures.shows held (is_chosen chosen) is (chooses_rules chosen) (c.kept.ensures ∙ read.0) (c.objects.ensures ∙ read.1) (sym revision)
    in
    let same = sym (c.scan_whole.ensures.ran.seen keeps) in
    let keys = keys_of c.in_ok-first_keys.first_keys.items in
    let Index : List ℕ → Type 0 = λ x. IsIndex keys (pages_of_root root x) in
    let entries : List Entry = cut root.label.format (held_entries held) in
    let Holds : List ℕ → Type 0 = λ x. HoldsEntries x root entries in
    let shelves =
    c.in_ok-cache.ensures.shelves entries (subst Index same (c.in_ok-first_keys.ensures.index keeps)) (λ some. c.scan_whole.ensures.ran.kept keeps)
    (subst Holds same holds.pages)
    in (
      lying disk c.scan_whole.new.device c.in_ok-cache.cache c.args.rules held is c.in_ok-cache.ensures.found
          (wholes_of disk c.scan_whole.new.device c.in_ok-cache.cache.shelf root (held_entries held) c.in_ok-cache.ensures.root holds.can shelves),
      shown.0,
      λ k has.
          ⊎_elim (λ none. knows_all root content held c.in_ok-core.core k none holds) (λ some. shown.1 k (has some)) (none_or_some root.pages),
    )

pub returns-clause-no_pages : goal.returns-clause-no_pages
returns-clause-no_pages g c none =
    let disk = g.D.Device.disk in
    let content = disk.content c.scan_whole.new.device in
    let root = c.args.root.now in
    let untold = c.in_ok-first_keys.ensures.none none in
    let made = c.new-none.ensures in
    let keys = keys_of c.in_ok-first_keys.first_keys.items in
    let index =
    index_of_none keys root content none
    (length-map c.in_ok-first_keys.first_keys.items (λ key. key.items) ∙ c.in_ok-cache.ensures.counted)
    in
    let shelves = c.in_ok-cache.ensures.shelves [] index (λ some. absurd (omega (arith, some, none))) (holds_none root content none) in (
      none_lying disk c.scan_whole.new.device c.in_ok-cache.cache c.in_ok-cache.ensures.found
          (wholes_of_none disk c.scan_whole.new.device c.in_ok-cache.cache.shelf shelves),
      c.in_ok-core.ensures.none (c.kept.ensures ∙ ap (λ (s : KeptEntries Chosen). s.kept.items) untold ∙ made.kept)
          (c.objects.ensures ∙ ap (λ (s : KeptEntries Chosen). s.objects) untold ∙ made.objects),
    )

pub returns-in_err-first_keys-clause-rules : goal.returns-in_err-first_keys-clause-rules
returns-in_err-first_keys-clause-rules g c = IfOk-from_err c.from_residual.result _ c.from_residual.ensures.0

pub returns-in_err-first_keys-clause-root : goal.returns-in_err-first_keys-clause-root
returns-in_err-first_keys-clause-root g c = IfOk-from_err c.from_residual.result _ c.from_residual.ensures.0

pub returns-in_err-first_keys-clause-held : goal.returns-in_err-first_keys-clause-held
returns-in_err-first_keys-clause-held g c keeps held is holds revision = IfOk-from_err c.from_residual.result _ c.from_residual.ensures.0

pub returns-in_err-first_keys-clause-no_pages : goal.returns-in_err-first_keys-clause-no_pages
returns-in_err-first_keys-clause-no_pages g c none = IfOk-from_err c.from_residual.result _ c.from_residual.ensures.0

pub returns-in_err-first_keys-clause-ran : goal.returns-in_err-first_keys-clause-ran
returns-in_err-first_keys-clause-ran g c = c.scan_whole.ensures.ran

pub returns-in_err-core-clause-rules : goal.returns-in_err-core-clause-rules
returns-in_err-core-clause-rules g c = IfOk-from_err c.from_residual-in_err-core.result _ c.from_residual-in_err-core.ensures.0

pub returns-in_err-core-clause-root : goal.returns-in_err-core-clause-root
returns-in_err-core-clause-root g c = IfOk-from_err c.from_residual-in_err-core.result _ c.from_residual-in_err-core.ensures.0

pub returns-in_err-core-clause-held : goal.returns-in_err-core-clause-held
returns-in_err-core-clause-held g c keeps held is holds revision = IfOk-from_err c.from_residual-in_err-core.result _ c.from_residual-in_err-core.ensures.0

pub returns-in_err-core-clause-no_pages : goal.returns-in_err-core-clause-no_pages
returns-in_err-core-clause-no_pages g c none = IfOk-from_err c.from_residual-in_err-core.result _ c.from_residual-in_err-core.ensures.0

pub returns-in_err-core-clause-ran : goal.returns-in_err-core-clause-ran
returns-in_err-core-clause-ran g c = c.scan_whole.ensures.ran

pub returns-in_err-cache-clause-rules : goal.returns-in_err-cache-clause-rules
returns-in_err-cache-clause-rules g c = IfOk-from_err c.from_residual-in_err-cache.result _ c.from_residual-in_err-cache.ensures.0

pub returns-in_err-cache-clause-root : goal.returns-in_err-cache-clause-root
returns-in_err-cache-clause-root g c = IfOk-from_err c.from_residual-in_err-cache.result _ c.from_residual-in_err-cache.ensures.0

pub returns-in_err-cache-clause-held : goal.returns-in_err-cache-clause-held
returns-in_err-cache-clause-held g c keeps held is holds revision = IfOk-from_err c.from_residual-in_err-cache.result _ c.from_residual-in_err-cache.ensures.0

pub returns-in_err-cache-clause-no_pages : goal.returns-in_err-cache-clause-no_pages
returns-in_err-cache-clause-no_pages g c none = IfOk-from_err c.from_residual-in_err-cache.result _ c.from_residual-in_err-cache.ensures.0

pub returns-in_err-cache-clause-ran : goal.returns-in_err-cache-clause-ran
returns-in_err-cache-clause-ran g c = c.scan_whole.ensures.ran

pub returns-clause-rules : goal.returns-clause-rules
returns-clause-rules g c = c.in_ok-core.ensures.rules

pub returns-clause-root : goal.returns-clause-root
returns-clause-root g c = c.in_ok-cache.ensures.root

pub returns-clause-damaged : goal.returns-clause-damaged
returns-clause-damaged g c keeps told held is holds revision = ⊎_elim no_fault (λ other. ⊎_elim no_fault no_fault other) told

pub returns-clause-ran : goal.returns-clause-ran
returns-clause-ran g c = c.scan_whole.ensures.ran

pub returns-clause-cause : goal.returns-clause-cause
returns-clause-cause g c told = absurd (no_fault told)

pub returns-in_err-first_keys-clause-steady : goal.returns-in_err-first_keys-clause-steady
returns-in_err-first_keys-clause-steady g c = IfOk-from_err c.from_residual.result _ c.from_residual.ensures.0

pub returns-in_err-core-clause-steady : goal.returns-in_err-core-clause-steady
returns-in_err-core-clause-steady g c = IfOk-from_err c.from_residual-in_err-core.result _ c.from_residual-in_err-core.ensures.0

pub returns-in_err-cache-clause-steady : goal.returns-in_err-cache-clause-steady
returns-in_err-cache-clause-steady g c = IfOk-from_err c.from_residual-in_err-cache.result _ c.from_residual-in_err-cache.ensures.0

pub returns-in_err-first_keys-clause-memory : goal.returns-in_err-first_keys-clause-memory
returns-in_err-first_keys-clause-memory g c told =
    c.scan_whole.ensures.unfailed (c.in_err-first_keys.was ∙ ap Err
    (scan_memory c.from_residual.result c.in_err-first_keys.field-0.0 c.from_residual.ensures.1 told))

pub returns-in_err-core-clause-memory : goal.returns-in_err-core-clause-memory
returns-in_err-core-clause-memory g c told = c.in_ok-first_keys.ensures.steady

pub returns-in_err-cache-clause-memory : goal.returns-in_err-cache-clause-memory
returns-in_err-cache-clause-memory g c told = c.in_ok-first_keys.ensures.steady

pub returns-clause-steady : goal.returns-clause-steady
returns-clause-steady g c = c.in_ok-first_keys.ensures.steady

pub returns-clause-memory : goal.returns-clause-memory
returns-clause-memory g c told = c.in_ok-first_keys.ensures.steady

pub returns-in_err-first_keys-clause-whole : goal.returns-in_err-first_keys-clause-whole
returns-in_err-first_keys-clause-whole g c keeps = IfOk-from_err c.from_residual.result _ c.from_residual.ensures.0

pub returns-in_err-first_keys-clause-entries : goal.returns-in_err-first_keys-clause-entries
returns-in_err-first_keys-clause-entries g c keeps = IfOk-from_err c.from_residual.result _ c.from_residual.ensures.0

pub returns-in_err-core-clause-whole : goal.returns-in_err-core-clause-whole
returns-in_err-core-clause-whole g c keeps = IfOk-from_err c.from_residual-in_err-core.result _ c.from_residual-in_err-core.ensures.0

pub returns-in_err-core-clause-entries : goal.returns-in_err-core-clause-entries
returns-in_err-core-clause-entries g c keeps = IfOk-from_err c.from_residual-in_err-core.result _ c.from_residual-in_err-core.ensures.0

pub returns-in_err-cache-clause-whole : goal.returns-in_err-cache-clause-whole
returns-in_err-cache-clause-whole g c keeps = IfOk-from_err c.from_residual-in_err-cache.result _ c.from_residual-in_err-cache.ensures.0

pub returns-in_err-cache-clause-entries : goal.returns-in_err-cache-clause-entries
returns-in_err-cache-clause-entries g c keeps = IfOk-from_err c.from_residual-in_err-cache.result _ c.from_residual-in_err-cache.ensures.0

pub returns-clause-whole : goal.returns-clause-whole
returns-clause-whole g c = c.in_ok-first_keys.ensures.whole

pub returns-clause-entries : goal.returns-clause-entries
returns-clause-entries g c keeps =
    let content = g.D.Device.disk.content c.args.device.now in
    let root = c.args.root.now in
    let entries : List Entry = joined (pages_of_root root content) in
    let same = sym (c.scan_whole.ensures.ran.seen keeps) in
    let Index : List ℕ → Type 0 = λ x. IsIndex (keys_of c.in_ok-first_keys.first_keys.items) (pages_of_root root x) in
    let Holds : List ℕ → Type 0 = λ x. HoldsEntries x root entries in
    c.in_ok-cache.ensures.shelves entries (subst Index same (c.in_ok-first_keys.ensures.index keeps)) (λ some. c.scan_whole.ensures.ran.kept keeps)
    (subst Holds same (record { sound = (c.in_ok-first_keys.ensures.whole keeps).sound; are = refl }))

pub returns-in_err-first_keys-clause-kept : goal.returns-in_err-first_keys-clause-kept
returns-in_err-first_keys-clause-kept g c keeps = IfOk-from_err c.from_residual.result _ c.from_residual.ensures.0

pub returns-in_err-core-clause-kept : goal.returns-in_err-core-clause-kept
returns-in_err-core-clause-kept g c keeps = IfOk-from_err c.from_residual-in_err-core.result _ c.from_residual-in_err-core.ensures.0

pub returns-in_err-cache-clause-kept : goal.returns-in_err-cache-clause-kept
returns-in_err-cache-clause-kept g c keeps = IfOk-from_err c.from_residual-in_err-cache.result _ c.from_residual-in_err-cache.ensures.0

pub returns-clause-kept : goal.returns-clause-kept
returns-clause-kept g c keeps =
    let chosen : Chosen = c.args.chosen in
    let made = c.new-none.ensures in
    let heard = c.in_ok-first_keys.ensures.told keeps in
    let held = c.in_ok-core.ensures.kept in
    record {
      whole = heard.whole;
      can = heard.can;
      cut_are = heard.are;
      chosen = is_chosen chosen;
      choice = chooses_rules chosen;
      held = held.0;
      is_held = held.1;
      counted = held.2;
      are = sym (held.3 ∙ c.kept.ensures ∙ heard.told_on.kept ∙ (λ i. made.kept i ++ kept_of (is_chosen (made.choice i)) heard.whole));
    }
