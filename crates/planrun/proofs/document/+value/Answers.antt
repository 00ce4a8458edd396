use Rattle.std.proofs.Common.{◌≡◌, ◌∙◌, ◌+◌, List, [], ◌∷◌, ◌++◌, map, drop, get_or, sym, ap}
use Rattle.std.proofs.lemmas.List.{at_drop_more}
use Rattle.std.specs.Prelude.{string_bytes}
use Rattle.serde_json.specs.View.{view, items_view, members_view}
use Rattle.celmean.specs.Seen.{value_of, entry_seen, values_seen, entries_seen}
use Rattle.celmean.specs.Value.{Text}
use Rattle.celmean.specs.declared.value.Value as program
use Rattle.celmean.proofs.Inside.{value_of-Text}
use Rattle.planrun.specs.Documents.{json_value, item_values, member_values}
use Rattle.planrun.proofs.document.+value.Goals as goal

map_more : {A B : Type 0} (f : A → B) (xs : List A) (x : A) (w : B) (rest : List B) → f x ≡ w → map f (xs ++ x ∷ []) ++ rest ≡ map f xs ++ w ∷ rest
map_more f [] x w rest e = ap (λ v. v ∷ rest) e
map_more f (y ∷ ys) x w rest e = ap (λ vs. f y ∷ vs) (map_more f ys x w rest e)

pub values_of_items-loop-item-preserved : goal.values_of_items-loop-item-preserved
values_of_items-loop-item-preserved t c =
    let items = c.deref-item-items.result.now in
    let i = c.loop-item.item-index in
    let values = c.loop-item.values.items in
    let item = c.item-item.result in
    let rest = item_values (items_view (drop (i + 1) items)) in
    let is = c.in_ok-value_of.ensures ∙ ap (λ j. json_value (view j)) c.item-item.is in
    ap (λ vs. values_seen vs ++ rest) c.in_ok-push.ensures.items
    ∙ map_more value_of values c.in_ok-value_of.field-0 (json_value (view (get_or items i item))) rest is
    ∙ sym (at_drop_more (λ js. values_seen values ++ item_values (items_view js)) items i item c.loop-item-test.true)
    ∙ c.loop-item.invariant

pub values_of_members-loop-name-preserved : goal.values_of_members-loop-name-preserved
values_of_members-loop-name-preserved t c =
    let entries = c.loop-name.entries.items in
    let name = c.in_ok-key.key in
    let rest = member_values (members_view c.next.new.self) in
    let key = value_of-Text name ∙ ap Text c.in_ok-key.ensures.cases in
    ap (λ es. entries_seen es ++ rest) c.in_ok-push.ensures.items
    ∙ map_more entry_seen entries (program.Text name, c.in_ok-value.value) (Text (string_bytes c.in-Some.name.now), json_value (view c.in-Some.member.now)) rest (λ i. (key i, c.in_ok-value.ensures i))
    ∙ sym (ap (λ ms. entries_seen entries ++ member_values (members_view ms)) c.in-Some.ensures.steps)
    ∙ c.loop-name.invariant
