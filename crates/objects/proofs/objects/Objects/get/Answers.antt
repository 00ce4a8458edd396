use Rattle.std.proofs.Common.{◌≡◌, List, get_or, sym, ap, ◌∙◌}
use Rattle.std.specs.Prelude.{Some}
use Rattle.names.specs.Key.{Key}
use Rattle.objects.specs.Objects.{Objects}
use Rattle.objects.proofs.Edits.{found-some, gap-value}
use Rattle.objects.proofs.objects.Objects.get.Goals as goal

pub returns-in-Ok-clause-value : goal.returns-in-Ok-clause-value
returns-in-Ok-clause-value g c =
    let same : c.self.inside.entries.items ≡ c.args.self.now.entries = ap (λ (o : Objects g.row.T.Denot). o.entries) c.self.view_is in
    let entry = c.index.result.now in
    let read : entry ≡ get_or c.args.self.now.entries c.in-Ok.at entry =
    c.index.ensures ∙ ap (λ (es : List (Key × g.row.T.Denot)). get_or es c.in-Ok.at entry) same
    in
    ap (λ (x : g.row.T.Denot). Some x) c.value.ensures ∙ found-some c.args.self.now.entries c.args.key.now c.in-Ok.at c.in-Ok.ensures.found entry read

pub returns-in-Err-clause-value : goal.returns-in-Err-clause-value
returns-in-Err-clause-value g c = sym (gap-value c.args.self.now.entries c.args.key.now c.in-Err.field-0 c.in-Err.ensures.absent)
