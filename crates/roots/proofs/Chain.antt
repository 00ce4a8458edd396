-- The steps from one generation to the next, at every moment.
use Rattle.std.proofs.Common.{arith, refl, ◌≡◌, ◌∙◌, sym, ap, subst, ◌≤◌, ◌+◌, ◌*◌, inl, inr, ⊎_elim, ℕ, List, length, take, slice_index, Result, Ok, Err}
use Rattle.std.specs.Prelude.{OnOk}
use Rattle.std.proofs.lemmas.Bool.{cases_eq}
use Rattle.device.specs.Disk.{Disk, Only}
use Rattle.device.specs.Run.{Ran, Stands}
use Rattle.device.specs.Step.{Same, Torn, Cut}
use Rattle.device.proofs.Moments.{weaker}
use Rattle.device.proofs.Runs.{ran_wider, stands_now, stands_then, stands_synced, stands_weaker}
use Rattle.gatelog.specs.Log.{IsOpen}
use Rattle.gatelog.specs.Record.{part}
use Rattle.roots.specs.declared.root.Slot.{Slot}
use Rattle.roots.specs.declared.root.Root.{Root}
use Rattle.roots.specs.Root.{root_sector, gate_sector, other, IsRoot, log_sector}
use Rattle.roots.specs.Install.{HasAt, IsStaged, IsNext, IsInUse, IsBefore, IsClear, IsAfter, IsBeforeOrAfter, Spares}
use Rattle.roots.proofs.Steps.{Closing, Opening, before-kept, closing-before, closing-gate, closing-clear, start-closing, start-clear, clear-spares, opening-gate, opening-after, opening-either, after-cut}
use Rattle.roots.proofs.Staging.{spares-torn}

-- what left M left N
pub stands_moments : {D : Type 0} (disk : Disk D) (old new : D) (M N S : List ℕ → Type 0) → Stands disk old new M S → ((c : List ℕ) → M c → N c) → Stands disk old new N S
stands_moments disk old new M N S was wider = record {
  kept = was.kept;
  moments = weaker disk old new M N was.moments wider;
  seen = was.seen;
  crash = was.crash;
}

-- the other slot's gate is closed, if it reads open
module _ {D : Type 0} (disk : Disk D) (start mid : D) (current : Root) (last : ℕ)
    (keeps : disk.keeps start) (now : (c : List ℕ) → disk.since start (disk.moment start) c → disk.left start c) (in_use : IsInUse disk start current last) where
  abbrev Before : List ℕ → Type 0
  Before c = IsBefore current last (disk.content start) c

  abbrev Clear : List ℕ → Type 0
  Clear c = IsClear current last (disk.content start) c

  abbrev WasOpen : Type 0
  WasOpen = IsOpen (gate_sector (other current.slot)) (disk.content start)

  abbrev Closes : List ℕ → List ℕ → Type 0
  Closes = Torn (512 * gate_sector (other current.slot)) 512

  before_start : IsBefore current last (disk.content start) (disk.content start)
  before_start = record { holds = in_use.holds; in_use = λ k low high. refl; reaches = in_use.inside }

  closing_run : WasOpen → Ran disk start mid Closes → (lesser : Root) × Stands disk start mid Before (Closing current last (disk.content start) lesser)
  closing_run was_open run =
      let found = in_use.holds.counts.greater was_open in
      let IsClosing : List ℕ → Type 0 = λ c. Closing current last (disk.content start) found.0 c in
      let Spells : Slot → Type 0 = λ s. IsRoot found.0 (part (512 * root_sector s) 512 (disk.content start)) in
      let here : IsClosing (disk.content start) = record {
        kept = before-kept current last (disk.content start) (disk.content start) before_start;
        slot = found.1;
        spelled = subst Spells found.1 found.2.spelled;
        less = found.3;
      } in
      let wider = λ (c : List ℕ) (closing : IsClosing c). closing-before current last (disk.content start) found.0 c closing in (
        found.0,
        stands_then disk start start mid Before IsClosing IsClosing Closes
            (stands_now disk start Before IsClosing keeps now here
            (λ c left. start-closing current last (disk.content start) found.0 (disk.content start) c here in_use.behind (in_use.durable c left)) wider)
            run (λ a b closing torn. closing-gate current last (disk.content start) found.0 a b closing torn) wider,
      )

  idle_run : (WasOpen → ⊥) → Ran disk start mid Same → Stands disk start mid Before Clear
  idle_run closed run =
      let here : Clear (disk.content start) = record { before = before_start; closed = closed } in
      let wider = λ (c : List ℕ) (clear : Clear c). clear.before in
      stands_then disk start start mid Before Clear Clear Same
      (stands_now disk start Before Clear keeps now here
      (λ c left. start-clear current last (disk.content start) (disk.content start) c here in_use.behind (in_use.durable c left)) wider)
      run (λ a b clear same. subst Clear (sym same) clear) wider

  -- the call answered, or failed
  pub gate_written : Ran disk start mid Closes → ((WasOpen → ⊥) → Ran disk start mid Same) → Stands disk start mid Before Before
  gate_written run idle = ⊎_elim
      (λ was_open.
      let closing = closing_run was_open run in
      stands_weaker disk start mid Before (Closing current last (disk.content start) closing.0) Before closing.1
      (λ c at. closing-before current last (disk.content start) closing.0 c at))
      (λ closed. stands_weaker disk start mid Before Clear Before (idle_run closed (idle closed)) (λ c clear. clear.before))
      (cases_eq (slice_index (disk.content start) (512 * gate_sector (other current.slot))) 165)

  -- the call answered
  pub gate_closed : Ran disk start mid Closes → ((WasOpen → ⊥) → Ran disk start mid Same) → (WasOpen → Only (disk.content mid) (disk.left mid))
      → (IsOpen (gate_sector (other current.slot)) (disk.content mid) → ⊥) → Stands disk start mid Before Clear
  gate_closed run idle synced closed = ⊎_elim
      (λ was_open.
      let closing = closing_run was_open run in
      stands_synced disk start mid Before (Closing current last (disk.content start) closing.0) Clear closing.1 (synced was_open)
      (closing-clear current last (disk.content start) closing.0 (disk.content mid) closing.1.seen closed))
      (λ was_closed. idle_run was_closed (idle was_closed))
      (cases_eq (slice_index (disk.content start) (512 * gate_sector (other current.slot))) 165)

  pub gate_closed_on : {T E : Type 0} (r : Result T E) → Ran disk start mid Closes → ((WasOpen → ⊥) → Ran disk start mid Same)
      → (WasOpen → OnOk r (Only (disk.content mid) (disk.left mid))) → OnOk r (IsOpen (gate_sector (other current.slot)) (disk.content mid) → ⊥)
      → OnOk r (Stands disk start mid Before Clear)
  gate_closed_on (Ok x) run idle synced closed = gate_closed run idle synced closed
  gate_closed_on (Err e) run idle synced closed = tt

-- the next root is installed
module _ {D : Type 0} (disk : Disk D) (start : D) (current next : Root) (last : ℕ) (old : List ℕ) (is : IsNext current last next) where
  abbrev Old : List ℕ → Type 0
  Old c = IsBefore current last old c

  abbrev Cleared : List ℕ → Type 0
  Cleared c = IsClear current last old c

  abbrev Writes : List ℕ → List ℕ → Type 0
  Writes = Spares (other current.slot) (512 * next.first_sector) (32768 * next.pages + 512)

  -- some of the pages, the gate behind them and the root are written
  pub staged_more : (mid new : D) → Stands disk start mid Old Cleared → Ran disk mid new Writes → Stands disk start new Old Cleared
  staged_more mid new was run =
      stands_then disk start mid new Old Cleared Cleared Writes was run
      (λ a b clear spares. clear-spares current last old next is a b clear spares) (λ c clear. clear.before)

  -- some of the pages are written
  pub pages_more : (mid new : D) (n : ℕ) → n ≤ 32768 * next.pages + 512 → Stands disk start mid Old Cleared → Ran disk mid new (Torn (512 * next.first_sector) n)
      → Stands disk start new Old Cleared
  pages_more mid new n inside was run =
      staged_more mid new was
      (ran_wider disk mid new (Torn (512 * next.first_sector) n) Writes run
      (λ a b torn. spares-torn (other current.slot) (512 * next.first_sector) (32768 * next.pages + 512) (512 * next.first_sector) n a b (omega arith) (omega (arith, inside)) torn))

  -- all of them are
  pub pages_staged : (mid new : D) (pages : List ℕ) → length pages ≡ 32768 * next.pages → Stands disk start mid Old Cleared
      → Ran disk mid new (Torn (512 * next.first_sector) (length pages)) → HasAt (512 * next.first_sector) pages (disk.content new) → IsStaged disk start new current last old next pages
  pages_staged mid new pages size was run there = record {
    follows = is;
    stands = pages_more mid new (length pages) (omega (arith, size)) was run;
    size = size;
    there = there;
  }

  module _ (body : List ℕ) (size : length body ≡ 32768 * next.pages + 512) where
    abbrev Either : List ℕ → Type 0
    Either c = IsBeforeOrAfter current last next body old c

    abbrev IsOpening : List ℕ → Type 0
    IsOpening c = Opening current last old next body c

    abbrev Opens : List ℕ → List ℕ → Type 0
    Opens = Torn (512 * gate_sector (other current.slot)) 512

    abbrev Installed : List ℕ → Type 0
    Installed c = IsAfter next body c

    -- the old root counts, so one of the two does
    pub before_either : (new : D) → Stands disk start new Old Old → Stands disk start new Either Either
    before_either new was =
        stands_moments disk start new Old Either Either (stands_weaker disk start new Old Old Either was (λ c before. inl before)) (λ c before. inl before)

    pub clear_either : (new : D) → Stands disk start new Old Cleared → Stands disk start new Either Either
    clear_either new was = before_either new (stands_weaker disk start new Old Cleared Old was (λ c clear. clear.before))

    pub staging_either : (mid new : D) → Stands disk start mid Old Cleared → Ran disk mid new Writes → Stands disk start new Either Either
    staging_either mid new was run =
        clear_either new (staged_more mid new was run)

    -- all of them are on the disk
    pub staged : (mid new : D) → Stands disk start mid Old Cleared → Ran disk mid new Writes → Only (disk.content new) (disk.left new)
        → IsRoot next (part (512 * root_sector (other current.slot)) 512 (disk.content new)) → HasAt (512 * next.first_sector) body (disk.content new)
        → Stands disk start new Either IsOpening
    staged mid new was run synced spelled pages =
        let clear = staged_more mid new was run in
        stands_moments disk start new Old Either IsOpening
        (stands_synced disk start new Old Cleared IsOpening clear synced
        (record { kept = before-kept current last old (disk.content new) clear.seen.before; spelled = spelled; pages = pages })) (λ c before. inl before)

    opening_run : (mid new : D) → Stands disk start mid Either IsOpening → Ran disk mid new Opens → Stands disk start new Either IsOpening
    opening_run mid new was run =
        stands_then disk start mid new Either IsOpening IsOpening Opens was run
        (λ a b opening torn. opening-gate current last old next is body a b opening torn)
        (λ c opening. opening-either current last old next is body c size opening)

    pub opening_fails : (mid new : D) → Stands disk start mid Either IsOpening → Ran disk mid new Opens → Stands disk start new Either Either
    opening_fails mid new was run =
        stands_weaker disk start new Either IsOpening Either (opening_run mid new was run) (λ c opening. opening-either current last old next is body c size opening)

    -- the gate is open on the disk
    pub opened : (mid new : D) → Stands disk start mid Either IsOpening → Ran disk mid new Opens → Only (disk.content new) (disk.left new)
        → IsOpen (gate_sector (other current.slot)) (disk.content new) → Stands disk start new Either Installed
    opened mid new was run synced is_open =
        let opening = opening_run mid new was run in
        stands_synced disk start new Either IsOpening Installed opening synced (opening-after current last old next is body (disk.content new) size opening.seen is_open)

    pub cut_away : (mid new : D) → Stands disk start mid Either Installed → Ran disk mid new (Cut (512 * log_sector next + 512)) → Stands disk start new Either Installed
    cut_away mid new was run =
        stands_then disk start mid new Either Installed Installed (Cut (512 * log_sector next + 512)) was run
        (λ a b after cut. after-cut next body a b size after cut) (λ c after. inr after)

    pub installed_either : (new : D) → Stands disk start new Either Installed → Stands disk start new Either Either
    installed_either new was = stands_weaker disk start new Either Installed Either was (λ c after. inr after)

-- after the cut the new generation is in use
pub in_use_next : {D : Type 0} (disk : Disk D) (mid new : D) (next : Root) (body : List ℕ) → length body ≡ 32768 * next.pages + 512 → disk.keeps mid
    → Only (disk.content mid) (disk.left mid) → Ran disk mid new (Cut (512 * log_sector next + 512)) → IsAfter next body (disk.content new)
    → IsInUse disk new next (log_sector next)
in_use_next disk mid new next body size keeps synced run after = record {
  holds = after.holds;
  behind = omega arith;
  inside = after.holds.inside;
  durable = λ c left.
      let found = run.crash keeps c left in
      found.2.front ∙ ap (take (512 * log_sector next + 512)) (synced found.0 found.1) ∙ sym (run.seen keeps).front;
}
