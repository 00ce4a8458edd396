use Rattle.std.proofs.Common.{◌≡◌, List, get_or, sym, ap, ◌∙◌, subst, IsTrue}
use Rattle.std.specs.FinMap.{is_sorted}
use Rattle.std.specs.List.{remove}
use Rattle.std.specs.Prelude.{Some}
use Rattle.names.specs.Key.{Key, key_cmp}
use Rattle.objects.specs.Objects.{Objects, value_at}
use Rattle.objects.proofs.Edits.{found-some, found-remove, gap-value, gap-without, sorted-without_key, value_at-without_key}
use Rattle.objects.proofs.objects.Objects.remove.Goals as goal

entries-in-Ok : goal.returns-in-Ok-clause-entries
entries-in-Ok g c =
    let same : c.self.inside.entries.items ≡ c.args.self.now.entries = ap (λ (o : Objects g.row.T.Denot). o.entries) c.self.view_is in
    c.remove.ensures.items ∙ ap (λ (es : List (Key × g.row.T.Denot)). remove es c.in-Ok.at) same
    ∙ found-remove c.args.self.now.entries c.args.key.now c.in-Ok.at c.in-Ok.ensures.found

pub returns-in-Ok-clause-entries : goal.returns-in-Ok-clause-entries
returns-in-Ok-clause-entries = entries-in-Ok

pub invariant_of-self : goal.invariant_of-self
invariant_of-self g c =
    let same : c.self.inside.entries.items ≡ c.args.self.now.entries = ap (λ (o : Objects g.row.T.Denot). o.entries) c.self.view_is in
    let sorted = subst (λ (es : List (Key × g.row.T.Denot)). IsTrue (is_sorted key_cmp es)) same c.self.invariant in
    subst (λ (es : List (Key × g.row.T.Denot)). IsTrue (is_sorted key_cmp es)) (sym (entries-in-Ok g c))
    (sorted-without_key c.args.self.now.entries c.args.key.now sorted)

pub returns-in-Ok-clause-value : goal.returns-in-Ok-clause-value
returns-in-Ok-clause-value g c =
    let same : c.self.inside.entries.items ≡ c.args.self.now.entries = ap (λ (o : Objects g.row.T.Denot). o.entries) c.self.view_is in
    let entry = c.remove.result in
    let read : entry ≡ get_or c.args.self.now.entries c.in-Ok.at entry =
    c.remove.ensures.value ∙ ap (λ (es : List (Key × g.row.T.Denot)). get_or es c.in-Ok.at entry) same
    in
    ap (λ (x : g.row.T.Denot). Some x) c.into_value.ensures
    ∙ found-some c.args.self.now.entries c.args.key.now c.in-Ok.at c.in-Ok.ensures.found entry read

pub returns-in-Err-clause-value : goal.returns-in-Err-clause-value
returns-in-Err-clause-value g c = sym (gap-value c.args.self.now.entries c.args.key.now c.in-Err.field-0 c.in-Err.ensures.absent)

entries-in-Err : goal.returns-in-Err-clause-entries
entries-in-Err g c = sym (gap-without c.args.self.now.entries c.args.key.now c.in-Err.field-0 c.in-Err.ensures.absent)

pub returns-in-Err-clause-entries : goal.returns-in-Err-clause-entries
returns-in-Err-clause-entries = entries-in-Err

pub returns-in-Ok-clause-map : goal.returns-in-Ok-clause-map
returns-in-Ok-clause-map g c = λ other. ap (value_at other) (entries-in-Ok g c) ∙ value_at-without_key c.args.key.now other c.args.self.now.entries

pub returns-in-Err-clause-map : goal.returns-in-Err-clause-map
returns-in-Err-clause-map g c = λ other. ap (value_at other) (entries-in-Err g c) ∙ value_at-without_key c.args.key.now other c.args.self.now.entries
