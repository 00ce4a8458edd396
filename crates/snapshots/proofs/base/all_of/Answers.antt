use Rattle.std.proofs.Common.{◌≡◌, List, [], ◌∷◌, ◌++◌, map, sym, ap, ◌∙◌}
use Rattle.std.proofs.lemmas.List.{append_assoc}
use Rattle.std.specs.Vec.Iter.{into_iter_items}
use Rattle.snapshots.specs.Whole.{whole}
use Rattle.snapshots.proofs.base.all_of.Goals as goal

-- one more of those that are ahead is listed
one_more : {A B : Type 0} (f : A → B) (listed pushed : List B) (x : A) (y : B) (here rest : List A) → pushed ≡ listed ++ y ∷ [] → y ≡ f x → here ≡ x ∷ rest
    → pushed ++ map f rest ≡ listed ++ map f here
one_more f listed pushed x y here rest pushes gives is =
    ap (λ ys. ys ++ map f rest) pushes ∙ append_assoc listed (y ∷ []) (map f rest) ∙ ap (λ z. listed ++ z ∷ map f rest) gives
    ∙ sym (ap (λ xs. listed ++ map f xs) is)

pub loop-object-preserved : goal.loop-object-preserved
loop-object-preserved g c =
    one_more (whole (g.M.FromDocument.made c.args.making.now)) c.loop-object.listed.items c.push.new.self.items c.in-Some.object c.in_ok-whole.field-0
    (into_iter_items c.loop-object.object-iterator) (into_iter_items c.next.new.self) c.in_ok-push.ensures.items c.in_ok-whole.ensures c.in-Some.ensures.steps.0
    ∙ c.loop-object.invariant
