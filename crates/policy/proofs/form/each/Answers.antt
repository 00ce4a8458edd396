use Rattle.std.proofs.Common.{rules, ◌≡◌, ◌≤◌, ◌<◌, ◌+◌, List, length, get_or, map, drop, sym, ap, ◌∙◌}
use Rattle.std.specs.Prelude.{IsErrOf}
use Rattle.std.proofs.lemmas.List.{drop_all}
use Rattle.serde_json.specs.View.{items_view}
use Rattle.serde_json.specs.declared.value.Value.{Value}
use Rattle.policy.specs.Forms.{after, each}
use Rattle.policy.specs.declared.form.FormFault.TheVariants.{BadForm}
use Rattle.policy.proofs.Gathering.{after_none, each_read, each_refused, each_whole}
use Rattle.policy.proofs.form.each.Goals as goal

pub loop-item-init : goal.loop-item-init
loop-item-init g c =
    let whole = each g.F.Form.form_of (items_view c.args.items.now.items) in
    after_none whole ∙ ap (λ (read : List g.row.F.Denot). after (map g.F.Form.seen read) whole) (sym c.new-read.ensures.items)

pub loop-item-preserved : goal.loop-item-preserved
loop-item-preserved g c =
    let xs = c.args.items.now.items in
    let inside : c.loop-item.item-index < length xs = rw c.deref-item-items.ensures.value at c.loop-item-test.true in
    let item : c.item-item.result ≡ get_or xs c.loop-item.item-index c.item-item.result = rw c.deref-item-items.ensures.value at c.item-item.is in
    let whole = each g.F.Form.form_of (items_view xs) in
    each_read g.F.Form.form_of g.F.Form.seen whole xs c.loop-item.item-index c.item-item.result c.loop-item.read.items c.in_ok-value.value inside item c.in_ok-value.ensures.read
    c.loop-item.invariant
    ∙ ap (λ (read : List g.row.F.Denot). after (map g.F.Form.seen read) (each g.F.Form.form_of (items_view (drop (c.loop-item.item-index + 1) xs)))) (sym c.in_ok-push.ensures.items)

pub returns-in_err-value-clause-refused : goal.returns-in_err-value-clause-refused
returns-in_err-value-clause-refused g c told =
    let xs = c.args.items.now.items in
    let inside : c.loop-item.item-index < length xs = rw c.deref-item-items.ensures.value at c.loop-item-test.true in
    let item : c.item-item.result ≡ get_or xs c.loop-item.item-index c.item-item.result = rw c.deref-item-items.ensures.value at c.item-item.is in
    let bad : IsErrOf c.read.result BadForm = search rules in
    each_refused g.F.Form.form_of (map g.F.Form.seen c.loop-item.read.items) (each g.F.Form.form_of (items_view xs)) xs c.loop-item.item-index c.item-item.result inside item
    (c.read.ensures.refused bad) c.loop-item.invariant

pub returns-clause-read : goal.returns-clause-read
returns-clause-read g c =
    let xs = c.args.items.now.items in
    let whole = each g.F.Form.form_of (items_view xs) in
    let all : length xs ≤ c.loop-item.item-index = rw c.deref-item-items.ensures.value at c.loop-item-test.false in
    each_whole g.F.Form.form_of g.F.Form.seen whole c.loop-item.read.items
    (c.loop-item.invariant ∙ ap (λ (rest : List Value). after (map g.F.Form.seen c.loop-item.read.items) (each g.F.Form.form_of (items_view rest))) (drop_all c.loop-item.item-index xs all))
