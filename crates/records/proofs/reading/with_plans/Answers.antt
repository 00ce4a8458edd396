use Rattle.std.proofs.Common.{rules, arith, ◌≡◌, ◌≢◌, ◌∙◌, sym, ap, subst, ◌≤◌, ◌+◌, ◌-◌, ◌^◌, ℕ, List, [], ◌∷◌, ◌++◌, map, take, drop, length}
use Rattle.std.specs.Prelude.{IsErrOf}
use Rattle.std.proofs.lemmas.List.{take_rest, map_push, append_assoc, drop-drop, length-drop}
use Rattle.std.specs.List.{AllByRecursion}
use Rattle.std.specs.Vec.Iter.{into_iter_items}
use Rattle.records.proofs.Groups.{all-push}
use Rattle.names.specs.declared.resource.Resource.TheVariants.{ValidatingAdmissionPolicy}
use Rattle.names.specs.Key.{Key}
use Rattle.requests.specs.Codes.{document_in}
use Rattle.pages.specs.Page.{Entry}
use Rattle.records.specs.declared.entry_fault.EntryFault.TheVariants as EntryFault
use Rattle.records.specs.declared.object.StoredObject.{StoredObject}
use Rattle.records.specs.Entries.{stored_entry, plan_entries, plans_among}
use Rattle.records.specs.Holding.{HasFewPlans}
use Rattle.records.specs.EntryLaws.{bytes_beside}
use Rattle.records.specs.Reading.{entry_read, IsReadObject, IsStorableStored, ArePlans}
use Rattle.records.proofs.FoundAgain.{Kept, First, first_left, plans_push}
use Rattle.records.proofs.reading.with_plans.Invariants.{Ahead}
use Rattle.records.proofs.reading.with_plans.Goals as goal

-- what is ahead begins with the object that the iterator gives
ahead_first : (all kept : List Kept) (rest : List Entry) (left : List StoredObject) (o : StoredObject) (next : List StoredObject) (entries : List Entry)
    → left ≡ o ∷ next → AllByRecursion IsReadObject left → (ahead : Ahead all rest kept left entries) → First ahead.0 rest o next entries
ahead_first all kept rest left o next entries step can ahead =
    let here : AllByRecursion IsReadObject (o ∷ next) = subst (AllByRecursion IsReadObject) step can in
    first_left ahead.0 rest o next entries here.0 ahead.2 (ahead.3 ∙ ap (map entry_read) step) ahead.4

pub returns-in_err-plans-clause-damaged : goal.returns-in_err-plans-clause-damaged
returns-in_err-plans-clause-damaged c is_damaged os rest can followed stored planned =
    let all : List Entry = c.args.entries.now in
    let at = c.loop-object.at in
    let left : List StoredObject = into_iter_items c.loop-object.object-iterator in
    let o : StoredObject = c.in-Some.object in
    let next : List StoredObject = into_iter_items c.next.new.self in
    let inv = c.loop-object.invariant in
    let f = ahead_first os c.loop-object.kept.items rest left o next (drop at all) c.in-Some.ensures.steps.0 (inv.2 can).1 (inv.5 os rest can followed stored planned) in
    let behind : List Entry = plans_among bytes_beside f.others ++ rest in
    let key : f.first.0 ≡ c.key.result.now = f.key ∙ sym c.key.ensures in
    let bad : IsErrOf c.plans_of.result EntryFault.Damaged = search rules in
    c.plans_of.ensures.damaged bad f.first.1.beside behind (subst (λ (k : Key). ArePlans k f.first.1.beside behind) key f.plans)
    (ap (λ (k : Key). plan_entries k f.first.1.beside ++ behind) (sym key) ∙ f.stand ∙ sym (take_rest all at))

pub loop-object-preserved : goal.loop-object-preserved
loop-object-preserved c =
    let all : List Entry = c.args.entries.now in
    let at = c.loop-object.at in
    let count = c.in_ok-plans.count in
    let plans : List ℕ = c.in_ok-plans.plans.items in
    let left : List StoredObject = into_iter_items c.loop-object.object-iterator in
    let o : StoredObject = c.in-Some.object in
    let next : List StoredObject = into_iter_items c.next.new.self in
    let kept : List Kept = c.loop-object.kept.items in
    let inv = c.loop-object.invariant in
    let step : left ≡ o ∷ next = c.in-Some.ensures.steps.0 in
    let key : c.key.result.now ≡ o.manifest.key = c.key.ensures in
    let new : Kept = (o.manifest.key, record { document = document_in o.manifest.body; beside = plans; revision = o.revision }) in
    let now : c.push.new.self.items ≡ kept ++ new ∷ [] = c.in_ok-push.ensures.items in
    let rest_is : take (length all - at) (drop at all) ≡ drop at all = take_rest all at in
    let further : drop count (take (length all - at) (drop at all)) ≡ drop (at + count) all = ap (drop count) rest_is ∙ drop-drop count at all in
    let read : plan_entries o.manifest.key plans ++ drop (at + count) all ≡ drop at all =
    ap (λ (k : Key). plan_entries k plans ++ drop (at + count) all) (sym key)
    ∙ ap (λ (back : List Entry). plan_entries c.key.result.now plans ++ back) (sym further)
    ∙ c.in_ok-plans.ensures.entries ∙ rest_is
    in
    let Few : Key → Type 0 = λ k. (plans ≢ [] → k.resource ≡ ValidatingAdmissionPolicy) × (length plans ≤ 2 ^ 30) in (
      omega (arith, c.in_ok-plans.ensures.inside, ap length rest_is, length-drop at all, inv.0),
      ap (λ (ks : List Kept). map stored_entry ks ++ map entry_read next) now
          ∙ ap (λ (es : List Entry). es ++ map entry_read next) (map_push stored_entry kept new)
          ∙ append_assoc (map stored_entry kept) (entry_read o ∷ []) (map entry_read next)
          ∙ ap (λ (os : List StoredObject). map stored_entry kept ++ map entry_read os) (sym step) ∙ inv.1,
      (λ can.
          let both = inv.2 can in
          let here : AllByRecursion IsReadObject (o ∷ next) = subst (AllByRecursion IsReadObject) step both.1 in
          (subst (AllByRecursion IsStorableStored) (sym now) (all-push IsStorableStored kept new both.0 here.0), here.1)),
      ap (λ (ks : List Kept). plans_among bytes_beside ks ++ drop (at + count) all) now
          ∙ ap (λ (es : List Entry). es ++ drop (at + count) all) (plans_push kept new)
          ∙ append_assoc (plans_among bytes_beside kept) (plan_entries o.manifest.key plans) (drop (at + count) all)
          ∙ ap (λ (es : List Entry). plans_among bytes_beside kept ++ es) read ∙ inv.3,
      subst (AllByRecursion (HasFewPlans bytes_beside)) (sym now)
          (all-push (HasFewPlans bytes_beside) kept new inv.4 (subst Few key c.in_ok-plans.ensures.few)),
      (λ os rest can followed stored planned.
          let ahead = inv.5 os rest can followed stored planned in
          let f = ahead_first os kept rest left o next (drop at all) step (inv.2 can).1 ahead in
          let behind : List Entry = plans_among bytes_beside f.others ++ rest in
          let same_key : f.first.0 ≡ c.key.result.now = f.key ∙ sym key in
          let found =
          c.in_ok-plans.ensures.found f.first.1.beside behind (subst (λ (k : Key). ArePlans k f.first.1.beside behind) same_key f.plans)
          (ap (λ (k : Key). plan_entries k f.first.1.beside ++ behind) (sym same_key) ∙ f.stand ∙ sym rest_is)
          in
          let same : f.first ≡ new = λ i. (f.key i, record { document = f.document i; beside = sym found.0 i; revision = f.revision i }) in
          let parts : os ≡ c.push.new.self.items ++ f.others =
          ahead.1 ∙ ap (λ (ks : List Kept). kept ++ ks) (f.parts ∙ ap (λ (k : Kept). k ∷ f.others) same)
          ∙ sym (append_assoc kept (new ∷ []) f.others) ∙ ap (λ (ks : List Kept). ks ++ f.others) (sym now)
          in
          (f.others, parts, f.followed, f.read, sym found.1 ∙ further)),
    )
