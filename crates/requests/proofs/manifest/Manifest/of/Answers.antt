use Rattle.std.proofs.Common.{ap, ◌∙◌, List, ℕ, option_map, Bor, string_bytes}
use Rattle.serde_json.specs.Data.{Data}
use Rattle.jsondoc.specs.Json.{text, IsDocument}
use Rattle.documents.specs.Document.{Document}
use Rattle.requests.specs.Manifest.{Target, target}
use Rattle.requests.proofs.Forms.{made, HasForm-made, is_key-key_at, IsDocument-text, depth-made}
use Rattle.requests.proofs.manifest.Manifest.of.Goals as goal

pub key_of-requires : goal.key_of-requires
key_of-requires c =
    is_key-key_at (target c.args.resource c.args.namespace.now (option_map (λ (n : Bor (List ℕ)). n.now) c.args.name)) c.args.document c.requires.target
    c.requires.sound

pub invariant_of-result : goal.invariant_of-result
invariant_of-result c =
    let t : Target = target c.args.resource c.args.namespace.now (option_map (λ (n : Bor (List ℕ)). n.now) c.args.name) in
    let d : Data = c.args.document in
    let stored : Document = c.in_ok-stored.stored in
    let stored_is = c.in_ok-stored.ensures t.name in
    let back : IsDocument stored.json =
    IsDocument-text stored.json c.json.result.now (string_bytes c.in_ok-text.text) c.json.ensures c.in_ok-text.ensures.text c.in_ok-text.ensures.reads_back
    (depth-made t d stored stored_is c.requires.shallow) in
    (HasForm-made t d c.in_ok-key.key stored c.in_ok-key.ensures stored_is c.requires.target c.requires.sound back, c.in_ok-text.ensures.text ∙ ap text c.json.ensures)

pub returns-clause-ok : goal.returns-clause-ok
returns-clause-ok c =
    let t : Target = target c.args.resource c.args.namespace.now (option_map (λ (n : Bor (List ℕ)). n.now) c.args.name) in
    made t c.args.document c.in_ok-key.key c.in_ok-stored.stored (option_map string_bytes c.in_ok-version.version) c.in_ok-key.ensures
    (c.in_ok-stored.ensures t.name) c.in_ok-version.ensures

pub returns-clause-form : goal.returns-clause-form
returns-clause-form c =
    let t : Target = target c.args.resource c.args.namespace.now (option_map (λ (n : Bor (List ℕ)). n.now) c.args.name) in
    let d : Data = c.args.document in
    let stored : Document = c.in_ok-stored.stored in
    let stored_is = c.in_ok-stored.ensures t.name in
    let back : IsDocument stored.json =
    IsDocument-text stored.json c.json.result.now (string_bytes c.in_ok-text.text) c.json.ensures c.in_ok-text.ensures.text c.in_ok-text.ensures.reads_back
    (depth-made t d stored stored_is c.requires.shallow) in
    HasForm-made t d c.in_ok-key.key stored c.in_ok-key.ensures stored_is c.requires.target c.requires.sound back
