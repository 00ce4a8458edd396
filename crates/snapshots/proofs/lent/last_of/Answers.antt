use Rattle.std.proofs.Common.{arith, ◌≡◌, ◌-◌, ◌∙◌, refl, ap, ℕ, zero, suc, List, [], ◌∷◌, length, map, drop, Bor}
use Rattle.std.proofs.lemmas.List.{length-map}
use Rattle.std.proofs.lemmas.Result.{IfOk-weaker}
use Rattle.circular_buffer.specs.Buffer.{keep_last}
use Rattle.documents.specs.Document.{Document}
use Rattle.window.specs.declared.event.Event.{Event}
use Rattle.snapshots.proofs.lent.last_of.Goals as goal

map-drop : {A B : Type 0} (f : A → B) (n : ℕ) (xs : List A) → map f (drop n xs) ≡ drop n (map f xs)
map-drop f zero xs = refl
map-drop f (suc n) [] = refl
map-drop f (suc n) (x ∷ xs) = map-drop f n xs

pub returns : goal.returns
returns c =
    let Lends : Type 0 = Bor (Event Document) in
    let events : List Lends = c.args.events.items in
    let now : Lends → Event Document = λ event. event.now in
    let surplus : c.saturating_sub-surplus.result ≡ length (map now events) - c.args.places = omega (arith, length-map events now) in
    IfOk-weaker c.split_off.result (λ last. last.items ≡ drop c.saturating_sub-surplus.result events) (λ last. map now last.items ≡ keep_last c.args.places (map now events))
    (λ last is. ap (map now) is ∙ map-drop now c.saturating_sub-surplus.result events ∙ ap (λ (k : ℕ). drop k (map now events)) surplus) c.split_off.ensures.tail
