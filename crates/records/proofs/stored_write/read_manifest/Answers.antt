use Rattle.std.proofs.Common.{◌≡◌, ◌∙◌, sym, subst}
use Rattle.names.specs.Key.{Key}
use Rattle.names.proofs.KeyOrder.{key_bytes-injective}
use Rattle.documents.specs.Form.{HasForm}
use Rattle.records.proofs.stored_write.read_manifest.Goals as goal

pub returns-clause-damaged : goal.returns-clause-damaged
returns-clause-damaged c is_damaged k d form keys texts =
    let key : k ≡ c.in_ok-key.key = key_bytes-injective k c.in_ok-key.key form.key c.in_ok-key.ensures.key (keys ∙ sym c.in_ok-key.ensures.value) in
    let Form : Key → Type 0 = λ x. HasForm x d in
    c.read_document.ensures.damaged is_damaged d (subst Form key form) texts
