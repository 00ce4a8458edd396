-- An entry says which object or event it is of.
use Rattle.std.proofs.Common.{◌≡◌, ap, refl, ℕ, List, [], ◌∷◌, ◌++◌}
use Rattle.byteorder.specs.Endian.{big_bytes}
use Rattle.fields.specs.Field.{field}
use Rattle.fields.proofs.Fields.{same-fields}
use Rattle.jsondoc.specs.Json.{text}
use Rattle.names.specs.Key.{Key, key_bytes}
use Rattle.names.proofs.KeyOrder.{key_bytes-injective}
use Rattle.window.specs.declared.event.Change.{Change}
use Rattle.window.specs.declared.event.Change.TheVariants.{Added, Modified, Deleted}
use Rattle.window.specs.declared.event.Event.{Event}
use Rattle.documents.specs.Document.{Document}
use Rattle.records.proofs.Frames.{key-fits}
use Rattle.records.proofs.Writes.{same-documents}
use Rattle.pages.specs.Page.{Entry}
use Rattle.records.specs.Entries.{object_entry, event_entry, change_number}
use Rattle.records.specs.Holding.{IsStorableObject, IsStorableEvent}
use Rattle.records.proofs.EntryParts.{same_numbered}

pub one_object : (k l : Key) (d e : Document) (m n : ℕ) → IsStorableObject k d m → IsStorableObject l e n → object_entry k d m ≡ object_entry l e n
    → (k ≡ l) × (d ≡ e) × (m ≡ n)
one_object k l d e m n a b same =
    let keys : 1 ∷ key_bytes k ≡ 1 ∷ key_bytes l = ap (λ (x : Entry). x.0) same in
    let bytes : key_bytes k ≡ key_bytes l = cc in
    let cells : big_bytes 8 m ++ text d.json ≡ big_bytes 8 n ++ text e.json = ap (λ (x : Entry). x.1) same in
    let parts = same_numbered m n (text d.json) (text e.json) a.1 b.1 cells in
    (key_bytes-injective k l a.0.key b.0.key bytes, same-documents d e a.0.reads_back b.0.reads_back parts.1, parts.0)

one_change : (c d : Change) → change_number c ≡ change_number d → c ≡ d
one_change Added Added e = refl
one_change Added Modified e = cc
one_change Added Deleted e = cc
one_change Modified Added e = cc
one_change Modified Modified e = refl
one_change Modified Deleted e = cc
one_change Deleted Added e = cc
one_change Deleted Modified e = cc
one_change Deleted Deleted e = refl

pub one_event : (e f : Event Document) → IsStorableEvent e → IsStorableEvent f → event_entry e ≡ event_entry f → e ≡ f
one_event e f a b same =
    let keys : 3 ∷ big_bytes 8 e.revision ≡ 3 ∷ big_bytes 8 f.revision = ap (λ (x : Entry). x.0) same in
    let bytes : big_bytes 8 e.revision ≡ big_bytes 8 f.revision = cc in
    let revision : e.revision ≡ f.revision = (same_numbered e.revision f.revision [] [] a.1 b.1 (ap (λ (x : List ℕ). x ++ []) bytes)).0 in
    let cells : change_number e.change ∷ (field 2 (key_bytes e.key) ++ text e.document.json) ≡ change_number f.change ∷ (field 2 (key_bytes f.key) ++ text f.document.json)
    = ap (λ (x : Entry). x.1) same in
    let number : change_number e.change ≡ change_number f.change = cc in
    let rest : field 2 (key_bytes e.key) ++ text e.document.json ≡ field 2 (key_bytes f.key) ++ text f.document.json = cc in
    let change : e.change ≡ f.change = one_change e.change f.change number in
    let parts = same-fields 2 (key_bytes e.key) (key_bytes f.key) (text e.document.json) (text f.document.json) (key-fits e.key a.0.key) (key-fits f.key b.0.key) rest in
    let key : e.key ≡ f.key = key_bytes-injective e.key f.key a.0.key b.0.key parts.0 in
    let documents : e.document ≡ f.document = same-documents e.document f.document a.0.reads_back b.0.reads_back parts.1 in
    λ i. record { revision = revision i; change = change i; key = key i; document = documents i }
