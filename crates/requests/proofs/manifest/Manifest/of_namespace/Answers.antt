use Rattle.std.proofs.Common.{ap, ◌≡◌, ◌∙◌, [], List, ℕ, string_bytes}
use Rattle.serde_json.specs.Data.{Data}
use Rattle.names.specs.declared.resource.Resource.TheVariants.{Namespace}
use Rattle.names.specs.Key.{is_key}
use Rattle.documents.specs.Document.{Document}
use Rattle.jsondoc.specs.Json.{text, IsDocument}
use Rattle.requests.specs.Manifest.{key_at}
use Rattle.requests.specs.Namespaces.{namespace_document}
use Rattle.requests.proofs.Forms.{IsDocument-text}
use Rattle.requests.proofs.NamespaceNames.{HasForm-of_namespace, depth-namespace}
use Rattle.requests.proofs.manifest.Manifest.of_namespace.Goals as goal

pub key_of-requires : goal.key_of-requires
key_of-requires c = ap (λ (d : Data). is_key (key_at Namespace [] d)) c.in_ok-document.ensures ∙ c.requires

pub invariant_of-result : goal.invariant_of-result
invariant_of-result c =
    let name : List ℕ = c.args.name.now in
    let stored : Document = c.in_ok-stored.stored in
    let is : stored.json ≡ (namespace_document name).json = ap (λ (d : Document). d.json) c.in_ok-stored.ensures ∙ c.in_ok-document.ensures in
    let back : IsDocument stored.json =
    IsDocument-text stored.json c.json.result.now (string_bytes c.in_ok-text.text) c.json.ensures c.in_ok-text.ensures.text c.in_ok-text.ensures.reads_back
    (depth-namespace name stored.json is) in (
      HasForm-of_namespace name c.in_ok-key.key c.in_ok-document.document stored c.in_ok-document.ensures c.in_ok-key.ensures c.in_ok-stored.ensures c.requires back,
      c.in_ok-text.ensures.text ∙ ap text c.json.ensures,
    )
