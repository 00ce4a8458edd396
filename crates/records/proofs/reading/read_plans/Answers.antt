use Rattle.std.proofs.Common.{rules, arith, ◌≡◌, ◌∙◌, sym, ap, subst, ◌+◌, List, ℕ, [], ◌∷◌, ◌++◌, drop, take, length}
use Rattle.std.specs.Prelude.{IsErrOf}
use Rattle.std.proofs.lemmas.List.{take-append-drop, take_more, drop_more, drop_all, length-take-le}
use Rattle.std.specs.Int.{div_ceil}
use Rattle.pages.specs.Page.{Entry}
use Rattle.records.specs.declared.entry_fault.EntryFault.TheVariants as EntryFault
use Rattle.records.specs.Entries.{plan_entry, plan_entries}
use Rattle.records.specs.Reading.{BeginsWithout}
use Rattle.records.proofs.FoundAgain.{few_bytes, count_pieces, plans_end, plans_go_on}
use Rattle.records.proofs.reading.read_plans.Goals as goal

pub returns-then-not-branch-clause-found : goal.returns-then-not-branch-clause-found
returns-then-not-branch-clause-found c plans rest small above same =
    let k = c.args.policy.now in
    let all : List Entry = c.args.entries.now in
    let x : Entry = c.entry-item.result in
    let i = c.loop-entry.entry-index in
    let inv = c.loop-entry.invariant in
    let within = c.loop-entry-test.true in
    let behind : drop i all ≡ x ∷ drop (i + 1) all = drop_more all i x within ∙ ap (λ (y : Entry). y ∷ drop (i + 1) all) (sym c.entry-item.is) in
    let other : BeginsWithout k c.loop-entry.count (x ∷ drop (i + 1) all) = c.in_ok-is_piece.ensures.other c.if-not-branch.true in
    let without : BeginsWithout k i (drop i all) =
    subst (λ (n : ℕ). BeginsWithout k n (drop i all)) inv.0 (subst (BeginsWithout k c.loop-entry.count) (sym behind) other) in
    let found = plans_end k all i c.loop-entry.plans.items plans rest inv.1 (omega (arith, within)) above same small without in
    (found.0, ap (λ (n : ℕ). drop n all) inv.0 ∙ found.1)

pub returns-clause-found : goal.returns-clause-found
returns-clause-found c plans rest small above same =
    let k = c.args.policy.now in
    let all : List Entry = c.args.entries.now in
    let i = c.loop-entry.entry-index in
    let inv = c.loop-entry.invariant in
    let none : drop i all ≡ [] = drop_all i all c.loop-entry-test.false in
    let without : BeginsWithout k i (drop i all) = subst (BeginsWithout k i) (sym none) tt in
    let found = plans_end k all i c.loop-entry.plans.items plans rest inv.1 c.loop-entry.auto.entry-index-end above same small without in
    (found.0, ap (λ (n : ℕ). drop n all) inv.0 ∙ found.1)

pub returns-in_err-read_piece-clause-damaged : goal.returns-in_err-read_piece-clause-damaged
returns-in_err-read_piece-clause-damaged c is_damaged plans rest small above same =
    let k = c.args.policy.now in
    let all : List Entry = c.args.entries.now in
    let x : Entry = c.entry-item.result in
    let i = c.loop-entry.entry-index in
    let inv = c.loop-entry.invariant in
    let within = c.loop-entry-test.true in
    let told : ◌≡◌ {A = Entry} (c.key.result.now, c.cell.result.now) x = λ j. (c.key.ensures j, c.cell.ensures j) in
    let bad : IsErrOf c.read_piece.result EntryFault.Damaged = search rules in
    let key : x.0 ≡ (plan_entry k [] i).0 = c.in_ok-is_piece.ensures.piece c.if-not-branch.false ∙ ap (λ (n : ℕ). (plan_entry k [] n).0) inv.0 in
    let more = plans_go_on k all i c.loop-entry.plans.items plans rest inv.1 (omega (arith, within)) above same x within c.entry-item.is key in
    c.read_piece.ensures.damaged bad plans more.0 small
    (more.1 ∙ ap (λ (y : Entry). plan_entries k c.loop-entry.plans.items ++ y ∷ more.0) (sym told))

pub loop-entry-preserved : goal.loop-entry-preserved
loop-entry-preserved c =
    let k = c.args.policy.now in
    let all : List Entry = c.args.entries.now in
    let x : Entry = c.entry-item.result in
    let i = c.loop-entry.entry-index in
    let inv = c.loop-entry.invariant in
    let within = c.loop-entry-test.true in
    let new : List ℕ = c.read_piece.new.plans.items in
    let told : ◌≡◌ {A = Entry} (c.key.result.now, c.cell.result.now) x = λ j. (c.key.ensures j, c.cell.ensures j) in
    let read : plan_entries k new ≡ take (i + 1) all =
    c.in_ok-read_piece.ensures.entry
    ∙ ap (λ (front : List Entry). front ++ (c.key.result.now, c.cell.result.now) ∷ []) inv.1
    ∙ ap (λ (y : Entry). take i all ++ y ∷ []) (told ∙ c.entry-item.is)
    ∙ sym (take_more all i x within)
    in
    let count : div_ceil (length new) 16384 ≡ i + 1 =
    sym (count_pieces k new) ∙ ap length read ∙ length-take-le (i + 1) all (omega (arith, within)) in
    (omega (arith, inv.0), read, few_bytes new (omega (arith, count, inv.0, c.in_ok-is_piece.ensures.few c.if-not-branch.false)))

pub returns-then-not-branch-clause-entries : goal.returns-then-not-branch-clause-entries
returns-then-not-branch-clause-entries c =
    let all : List Entry = c.args.entries.now in
    let inv = c.loop-entry.invariant in
    (λ j. inv.1 j ++ drop (inv.0 j) all) ∙ take-append-drop c.loop-entry.entry-index all

pub returns-clause-entries : goal.returns-clause-entries
returns-clause-entries c =
    let all : List Entry = c.args.entries.now in
    let inv = c.loop-entry.invariant in
    (λ j. inv.1 j ++ drop (inv.0 j) all) ∙ take-append-drop c.loop-entry.entry-index all
