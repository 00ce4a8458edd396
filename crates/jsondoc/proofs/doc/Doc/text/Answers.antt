use Rattle.std.proofs.Common.{◌≡◌, ◌≤◌, string_bytes, ap, ◌∙◌, subst}
use Rattle.serde_json.specs.Data.{Data, depth}
use Rattle.serde_json.specs.View.{view}
use Rattle.jsondoc.specs.Json.{text, reading, document}
use Rattle.jsondoc.proofs.Json.{has_float-is_whole, text_reads_back}
use Rattle.jsondoc.proofs.doc.Doc.text.Goals as goal

pub returns-clause-text : goal.returns-clause-text
returns-clause-text c = c.in_ok-text.ensures.text (has_float-is_whole (view c.self.inside.value) c.self.invariant) ∙ ap text c.self.view_is

pub returns-clause-reads_back : goal.returns-clause-reads_back
returns-clause-reads_back c =
    let P : Data → Type 0 = λ d. depth d ≤ 127 → reading (string_bytes c.in_ok-text.text) ≡ document d in
    subst P c.self.view_is (λ shallow. text_reads_back c.in_ok-text.text (view c.self.inside.value) (c.in_ok-text.ensures.reads_back shallow) c.self.invariant)
