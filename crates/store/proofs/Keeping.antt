-- The history that a device holds stays where its store is written anew or checked.
use Rattle.std.proofs.Common.{◌≡◌, ◌∙◌, ap, sym, subst, refl, ◌++◌, ℕ, suc, List, [], ◌∷◌, length, inl, inr, Result, Err, IsErrOf, ◌⊎◌}
use Rattle.std.proofs.lemmas.List.{append-nil}
use Rattle.device.specs.Disk.{Disk, LeavesOnly}
use Rattle.device.specs.Run.{Ran}
use Rattle.device.specs.Step.{Same}
use Rattle.device.specs.declared.device.Device.{Ghosts}
use Rattle.device.proofs.Moments.{weaker, followed_by}
use Rattle.names.specs.declared.format.Rules.{Rules}
use Rattle.names.specs.Key.{Key}
use Rattle.documents.specs.Document.{Document}
use Rattle.histories.specs.declared.stored.Stored.{Stored}
use Rattle.histories.specs.Mapped.{each, mapped}
use Rattle.histories.specs.View as seen
use Rattle.histories.specs.View.{view}
use Rattle.roots.specs.declared.root.Root.{Root}
use Rattle.roots.specs.Root.{HoldsRoot}
use Rattle.roots.proofs.Counting.{one_counts}
use Rattle.decoded.specs.Decoded.{Decoded}
use Rattle.decoded.specs.Shown.{Shows, plans_held}
use Rattle.decoded.specs.Standing.{Write, History, plans_beside, with_plans}
use Rattle.durable.specs.declared.compacted.Checked.{Checked}
use Rattle.durable.specs.declared.fault.Damage.{Damage}
use Rattle.durable.specs.declared.fault.Fault.{Fault}
use Rattle.durable.specs.declared.fault.Fault.TheVariants as fault
use Rattle.durable.specs.declared.store.Store.{Store}
use Rattle.durable.specs.Compacted.{IsCheckOf}
use Rattle.durable.specs.Ready.{HoldsHistory}
use Rattle.durable.specs.Stands.{StandsFor}
use Rattle.durable.specs.Settled.{device_of, IsFound, IsSettledAt, IsLeftAt, LeavesSome}
use Rattle.durable.proofs.Answering.{held}
use Rattle.durable.proofs.Unwritten.{held_after, moments_read}
use Rattle.store.specs.Upkeep.{KeepsHistory, IsToldOfHistory}

-- ---- what is found of no writes

nothing_more : (rules : Rules) (h : History) (c : List ℕ) (more rest : List Write) → [] ≡ more ++ rest → StandsFor rules c (h ++ more) → StandsFor rules c h
nothing_more rules h c [] rest is stands =
    let For : History → Type 0 = λ x. StandsFor rules c x in
    subst For (append-nil h) stands
nothing_more rules h c (w ∷ more) rest is stands = cc

found_nothing : (rules : Rules) (h : History) (c : List ℕ) → IsFound rules h [] [] c → StandsFor rules c h
found_nothing rules h c found = nothing_more rules h c found.more found.rest found.parts found.stands

-- ---- no store was opened

pub kept_unopened : {D : Type 0} (rules : Rules) (disk : Disk D) (old new : D) (h : History) → HoldsHistory rules disk old h → LeavesOnly disk old new (disk.left old)
    → disk.keeps new × (disk.content new ≡ disk.content old) → ((c : List ℕ) → disk.left new c → disk.left old c) → KeepsHistory rules disk old new h
kept_unopened rules disk old new h holds moments same left =
    let For : List ℕ → Type 0 = λ c. StandsFor rules c h in
    record {
      holds = record { keeps = same.0; read = subst For (sym same.1) holds.read; left = λ c l. holds.left c (left c l) };
      any_moment = weaker disk old new (disk.left old) (λ c. StandsFor rules c h) moments holds.left;
    }

-- ---- a store was opened on the device, and a call made of it

module _ {D : Type 0} {g : Ghosts D} (rules : Rules) (old : D) (opened new : Store D g) (h : History) (holds : HoldsHistory rules g.disk old h)
    (opening : LeavesOnly g.disk old (device_of opened) (g.disk.left old)) where
  moments_since : LeavesSome rules opened new h [] → LeavesOnly g.disk old (device_of new) (λ c. StandsFor rules c h)
  moments_since calling =
      followed_by g.disk old (device_of opened) (device_of new) (g.disk.left old) (IsFound rules h [] []) (λ c. StandsFor rules c h) opening calling holds.left
      (λ c found. found_nothing rules h c found)

  -- it is settled at the history still
  pub kept_settled : LeavesSome rules opened new h [] → IsSettledAt rules new h → (left : D) → left ≡ device_of new → KeepsHistory rules g.disk old left h
  kept_settled calling settled left is =
      let At : D → Type 0 = λ d. KeepsHistory rules g.disk old d h in
      subst At (sym is) (record { holds = held rules new h settled; any_moment = moments_since calling })

  -- its device failed
  pub kept_left : LeavesSome rules opened new h [] → IsLeftAt rules new h [] [] → (left : D) → left ≡ device_of new → KeepsHistory rules g.disk old left h
  kept_left calling stopped left is =
      let At : D → Type 0 = λ d. KeepsHistory rules g.disk old d h in
      subst At (sym is) (record {
        holds = record {
          keeps = stopped.keeps;
          read = found_nothing rules h _ stopped.read;
          left = λ c l. found_nothing rules h c (stopped.left c l);
        };
        any_moment = moments_since calling;
      })

  -- it read its device at most
  pub kept_read : IsSettledAt rules opened h → Ran g.disk (device_of opened) (device_of new) Same → (left : D) → left ≡ device_of new → KeepsHistory rules g.disk old left h
  kept_read settled run left is =
      let At : D → Type 0 = λ d. KeepsHistory rules g.disk old d h in
      subst At (sym is) (record {
        holds = held_after g.disk rules h (device_of opened) (device_of new) run (held rules opened h settled);
        any_moment = moments_since (moments_read rules opened new h [] run settled);
      })

  -- why it was not written anew
  pub kept_failed : {T : Type 0} (r : Result T Fault) → LeavesSome rules opened new h [] → (IsErrOf r fault.Device → IsLeftAt rules new h [] [])
      → (IsErrOf r fault.Memory ⊎ IsErrOf r fault.Exhausted → IsSettledAt rules new h) → ((damage : Damage) → IsErrOf r (fault.Damaged damage) → ⊥)
      → (IsErrOf r fault.Failed → ⊥) → (f : Fault) → r ≡ Err f → (left : D) → left ≡ device_of new → KeepsHistory rules g.disk old left h
  kept_failed r calling stopped settled undamaged never fault.Device is = kept_left calling (stopped is)
  kept_failed r calling stopped settled undamaged never fault.Memory is = kept_settled calling (settled (inl is))
  kept_failed r calling stopped settled undamaged never fault.Exhausted is = kept_settled calling (settled (inr is))
  kept_failed r calling stopped settled undamaged never (fault.Damaged damage) is = absurd (undamaged damage is)
  kept_failed r calling stopped settled undamaged never fault.Failed is = absurd (never is)

-- ---- what is told

-- the root that counts is the same as long as the content is
pub same_root : (content same : List ℕ) (root other : Root) → same ≡ content → HoldsRoot content root → HoldsRoot same other → other ≡ root
same_root content same root other is holds held =
    let At : List ℕ → Type 0 = λ c. HoldsRoot c other in
    let here : HoldsRoot content other = subst At is held in
    one_counts content other root here.counts holds.counts

-- what stands beside each object changes none of their number
length-each : {A B : Type 0} (f : Document → A → B) (os : List (Key × Stored A)) → length (each f os) ≡ length os
length-each f [] = refl
length-each f (o ∷ os) = ap suc (length-each f os)

-- what is told of what a store holds is told of the view that it shows
pub told_of_view : (rules : Rules) (h : History) (root other : Root) (stored : seen.View Decoded) (c : Checked) → Shows stored (view rules h) → IsCheckOf other stored c
    → other.generation ≡ root.generation → other.label.format ≡ root.label.format → IsToldOfHistory rules h root c
told_of_view rules h root other stored c shows told same format =
    let counted : length (mapped plans_held stored).objects ≡ length (with_plans (view rules h)).objects = ap (λ (v : seen.View Decoded). length v.objects) shows in
    record {
      revision = told.revision ∙ ap (λ (v : seen.View Decoded). v.revision) shows;
      objects = told.objects ∙ (sym (length-each plans_held stored.objects) ∙ (counted ∙ length-each plans_beside (view rules h).objects));
      generation = told.generation ∙ same;
      format = told.format ∙ format;
    }
