-- The document of a Namespace has the form of its key.
use Rattle.std.proofs.Common.{◌≡◌, ℕ, ◌≤◌, true, false, ◌&&◌, ◌==◌, List, [], ◌∷◌, length, refl, ap, sym, subst, ◌∙◌, arith}
use Rattle.std.proofs.lemmas.Bool.{and_parts, and_from}
use Rattle.std.proofs.lemmas.Bool.Decides.{nat_tests}
use Rattle.std.specs.List.{list_all, slice_split, onto_first}
use Rattle.std.specs.Prelude.{nat_le}
use Rattle.serde_json.specs.Data.{Data, depth}
use Rattle.names.specs.declared.resource.Resource.TheVariants.{Namespace}
use Rattle.names.specs.Key.{Key, key_of}
use Rattle.names.specs.Name.{dot, is_label_byte, is_label, is_name, is_namespace}
use Rattle.documents.specs.Document.{Document}
use Rattle.jsondoc.specs.Json.{IsDocument}
use Rattle.requests.specs.Manifest.{key_at}
use Rattle.documents.specs.Form.{HasForm}
use Rattle.requests.specs.Namespaces.{namespace_document}

-- ---- a namespace is a name

label_byte-no_dot : (byte : ℕ) → is_label_byte byte ≡ true → (byte == dot) ≡ false
label_byte-no_dot byte h = grind (arith, nat_tests)

one_label : (text : List ℕ) → list_all is_label_byte text ≡ true → slice_split (λ byte. byte == dot) text ≡ text ∷ []
one_label [] h = refl
one_label (byte ∷ bytes) h =
    let parts = and_parts (is_label_byte byte) (list_all is_label_byte bytes) h in
    rw (label_byte-no_dot byte parts.0) (ap (onto_first byte) (one_label bytes parts.1))

shorter : (n : ℕ) → nat_le n 63 ≡ true → nat_le n 253 ≡ true
shorter n h = grind (arith, nat_tests)

is_name-from_namespace : (text : List ℕ) → is_namespace text ≡ true → is_name text ≡ true
is_name-from_namespace text h =
    let parts = and_parts (nat_le (length text) 63) (is_label text) h in
    let one = one_label text (and_parts _ (list_all is_label_byte text) parts.1).1 in
    and_from (nat_le (length text) 253) _ (shorter (length text) parts.0) (ap (list_all is_label) one ∙ and_from (is_label text) true parts.1 refl)

-- ---- its document

-- if its text reads back to it
HasForm-namespace : (name : List ℕ) → is_namespace name ≡ true → IsDocument (namespace_document name).json → HasForm (key_of Namespace [] name) (namespace_document name)
HasForm-namespace name is reads_back = record {
  key = is;
  reads_back = reads_back;
  kind = refl;
  metadata = and_from (is_name name && true) true (and_from (is_name name) true (is_name-from_namespace name is) refl) refl;
  name = refl;
  namespace = refl;
  no_version = refl;
}

pub depth-namespace : (name : List ℕ) (json : Data) → json ≡ (namespace_document name).json → depth json ≤ 127
depth-namespace name json is =
    let shallow : depth (namespace_document name).json ≤ 127 = omega arith in
    subst (λ (d : Data). depth d ≤ 127) (sym is) shallow

module _ (name : List ℕ) (key : Key) (json : Data) (stored : Document) (is : json ≡ (namespace_document name).json) (key_is : key ≡ key_at Namespace [] json)
    (stored_is : stored ≡ record { json = json }) where
  key_same : key ≡ key_of Namespace [] name
  key_same = key_is ∙ ap (key_at Namespace []) is

  stored_same : stored ≡ namespace_document name
  stored_same = stored_is ∙ λ i. record { json = is i }

  pub HasForm-of_namespace : is_namespace name ≡ true → IsDocument stored.json → HasForm key stored
  HasForm-of_namespace well reads_back =
      let form = HasForm-namespace name well (subst (λ (x : Document). IsDocument x.json) stored_same reads_back) in
      let P : Key → Type 0 = λ x. HasForm x stored in
      let Q : Document → Type 0 = λ x. HasForm (key_of Namespace [] name) x in
      subst P (sym key_same) (subst Q (sym stored_same) form)
