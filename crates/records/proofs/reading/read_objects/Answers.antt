use Rattle.std.proofs.Common.{rules, arith, ◌≡◌, ◌≤◌, ◌∙◌, sym, ap, subst, ◌+◌, ℕ, List, [], ◌∷◌, ◌++◌, map, take, drop, length}
use Rattle.std.specs.Prelude.{IsErrOf}
use Rattle.std.proofs.lemmas.List.{take-append-drop, take_more, drop_more, drop_all, length-map, length-take-le, map_push}
use Rattle.std.specs.List.{AllByRecursion}
use Rattle.pages.specs.Page.{Entry}
use Rattle.records.specs.declared.object.StoredObject.{StoredObject}
use Rattle.records.specs.declared.entry_fault.EntryFault.TheVariants as EntryFault
use Rattle.records.specs.Entries.{stored_entry}
use Rattle.records.specs.Reading.{entry_read, IsReadObject, BeginsOtherwise}
use Rattle.records.proofs.FoundAgain.{at_index, next_object}
use Rattle.records.proofs.Groups.{all-push}
use Rattle.records.proofs.reading.read_objects.Goals as goal

pub returns-in_err-read_object-clause-damaged : goal.returns-in_err-read_object-clause-damaged
returns-in_err-read_object-clause-damaged c is_damaged os rest can other same =
    let x : Entry = c.entry-item.result in
    let all : List Entry = c.args.entries.now in
    let i = c.loop-entry.entry-index in
    let told : ◌≡◌ {A = Entry} (c.key-own_key.result.now, c.cell.result.now) x = λ j. (c.key-own_key.ensures j, c.cell.ensures j) in
    let bad : IsErrOf c.read_object.result EntryFault.Damaged = search rules in
    let marked = c.is_object_key.ensures.yes c.if-not-is_object_key.false in
    let parts : map stored_entry os ++ rest ≡ map entry_read c.loop-entry.objects.items ++ x ∷ drop (i + 1) all =
    same ∙ at_index all i x c.loop-entry-test.true c.entry-item.is ∙ ap (λ (front : List Entry). front ++ x ∷ drop (i + 1) all) (sym c.loop-entry.invariant.0) in
    let found = next_object c.loop-entry.objects.items x (drop (i + 1) all) os rest marked.0 (sym c.key-own_key.ensures ∙ marked.1) can other parts in
    c.read_object.ensures.damaged bad found.0.0 found.0.1.document found.0.1.revision found.1 (found.2 ∙ sym told)

pub loop-entry-preserved : goal.loop-entry-preserved
loop-entry-preserved c =
    let x : Entry = c.entry-item.result in
    let all : List Entry = c.args.entries.now in
    let i = c.loop-entry.entry-index in
    let o : StoredObject = c.in_ok-read_object.field-0 in
    let objects : List StoredObject = c.loop-entry.objects.items in
    let inv = c.loop-entry.invariant in
    let told : ◌≡◌ {A = Entry} (c.key-own_key.result.now, c.cell.result.now) x = λ j. (c.key-own_key.ensures j, c.cell.ensures j) in
    let now : c.push.new.self.items ≡ objects ++ o ∷ [] = c.in_ok-push.ensures.items in (
      ap (map entry_read) now ∙ map_push entry_read objects o
          ∙ ap (λ (front : List Entry). front ++ entry_read o ∷ []) inv.0
          ∙ ap (λ (y : Entry). take i all ++ y ∷ []) (c.in_ok-read_object.ensures.entry ∙ told ∙ c.entry-item.is)
          ∙ sym (take_more all i x c.loop-entry-test.true),
      subst (AllByRecursion IsReadObject) (sym now) (all-push IsReadObject objects o inv.1 c.in_ok-read_object.ensures.form),
    )

-- the entries after those of the objects so far
behind : (os : List StoredObject) (all : List Entry) (i : ℕ) → map entry_read os ≡ take i all → i ≤ length all → drop (length os) all ≡ drop i all
behind os all i read inside =
    let count : length os ≡ i = sym (length-map os entry_read) ∙ ap length read ∙ length-take-le i all inside in
    ap (λ (n : ℕ). drop n all) count

whole : (os : List StoredObject) (all : List Entry) (i : ℕ) → map entry_read os ≡ take i all → i ≤ length all → map entry_read os ++ drop (length os) all ≡ all
whole os all i read inside =
    ap (λ (front : List Entry). front ++ drop (length os) all) read
    ∙ ap (λ (back : List Entry). take i all ++ back) (behind os all i read inside)
    ∙ take-append-drop i all

pub returns-then-not-is_object_key-clause-entries : goal.returns-then-not-is_object_key-clause-entries
returns-then-not-is_object_key-clause-entries c =
    whole c.loop-entry.objects.items c.args.entries.now c.loop-entry.entry-index c.loop-entry.invariant.0 (omega (arith, c.loop-entry-test.true))

pub returns-then-not-is_object_key-clause-stops : goal.returns-then-not-is_object_key-clause-stops
returns-then-not-is_object_key-clause-stops c =
    let x : Entry = c.entry-item.result in
    let all : List Entry = c.args.entries.now in
    let i = c.loop-entry.entry-index in
    let within = c.loop-entry-test.true in
    let next : drop (length c.loop-entry.objects.items) all ≡ x ∷ drop (i + 1) all =
    behind c.loop-entry.objects.items all i c.loop-entry.invariant.0 (omega (arith, within))
    ∙ drop_more all i x within ∙ ap (λ (y : Entry). y ∷ drop (i + 1) all) (sym c.entry-item.is) in
    subst BeginsOtherwise (sym next) (λ rest is. c.is_object_key.ensures.no c.if-not-is_object_key.true rest (c.key-own_key.ensures ∙ is))

pub returns-clause-entries : goal.returns-clause-entries
returns-clause-entries c = whole c.loop-entry.objects.items c.args.entries.now c.loop-entry.entry-index c.loop-entry.invariant.0 c.loop-entry.auto.entry-index-end

pub returns-clause-stops : goal.returns-clause-stops
returns-clause-stops c =
    let all : List Entry = c.args.entries.now in
    let i = c.loop-entry.entry-index in
    let none : drop (length c.loop-entry.objects.items) all ≡ [] =
    behind c.loop-entry.objects.items all i c.loop-entry.invariant.0 c.loop-entry.auto.entry-index-end ∙ drop_all i all c.loop-entry-test.false in
    subst BeginsOtherwise (sym none) tt
