-- What stands after the writes of a generation, and what they leave.
use Rattle.std.proofs.Common.{arith, refl, ◌≡◌, ◌∙◌, sym, ap, subst, ◌<◌, ◌≤◌, ◌+◌, ◌-◌, ◌*◌, ◌++◌, inl, inr, ⊎_elim, ℕ, List, length, take, drop, replicate, max, slice_index}
use Rattle.std.proofs.lemmas.List.{length-take, length-append, length-replicate, get_or_append_left, get_or-append_right, ext_get_or}
use Rattle.std.proofs.lemmas.Bool.{cases_lt}
use Rattle.device.specs.Disk.{Disk}
use Rattle.device.specs.Step.{Holds, Same, Torn}
use Rattle.device.specs.Run.{Ran}
use Rattle.device.proofs.Steps.{torn-bytes, torn_idle, torn_wider, torn_next, length-holds}
use Rattle.device.proofs.Runs.{ran_then, ran_wider}
use Rattle.gatelog.specs.Record.{part}
use Rattle.gatelog.proofs.Parts.{length-part, get-part}
use Rattle.roots.specs.declared.root.Slot.{Slot}
use Rattle.roots.specs.declared.root.Root.{Root}
use Rattle.roots.specs.Root.{root_sector, IsRoot, log_sector}
use Rattle.roots.specs.Install.{HasAt, generation, Spares}
use Rattle.roots.proofs.Steps.{in_front, HasAt-agree}

-- what was written stands there
pub HasAt-holds : (at : ℕ) (bytes old new : List ℕ) → at ≤ length old → Holds old at bytes new → HasAt at bytes new
HasAt-holds at bytes old new room holds =
    let front : length (take at old) ≡ at = omega (arith, length-take at old) in
    let whole : length new ≡ max (length old) (at + length bytes) = length-holds at bytes old new room holds in
    record {
      inside = omega (arith, whole);
      each = λ k lt.
          let place : at + k - at ≡ k = omega arith in
          ap (λ (x : List ℕ). slice_index x (at + k)) holds
          ∙ get_or_append_left (take at old ++ bytes) (drop (at + length bytes) old) 0 (at + k) (omega (arith, length-append (take at old) bytes, front, lt))
          ∙ get_or-append_right (take at old) bytes at (at + k) 0 front (omega arith)
          ∙ ap (slice_index bytes) place;
    }

-- a range with bytes is these bytes
pub part-HasAt : (at n : ℕ) (bytes content : List ℕ) → length bytes ≡ n → HasAt at bytes content → part at n content ≡ bytes
part-HasAt at n bytes content size has =
    let inside : at + n ≤ length content = omega (arith, has.inside, size) in
    ext_get_or 0 (part at n content) bytes
    (length-part at n content inside ∙ sym size)
    (λ k lt.
    let here : k < n = omega (arith, length-part at n content inside, lt) in
    get-part at n k content here ∙ has.each k (omega (arith, here, size)))

-- bytes behind bytes
pub HasAt-append : (at : ℕ) (front behind content : List ℕ) → HasAt at front content → HasAt (at + length front) behind content → HasAt at (front ++ behind) content
HasAt-append at front behind content first second = record {
  inside = omega (arith, second.inside, length-append front behind);
  each = λ k lt. ⊎_elim
      (λ low. first.each k low ∙ sym (get_or_append_left front behind 0 k low))
      (λ high.
      let place : at + k ≡ at + length front + (k - length front) = omega (arith, high) in
      ap (slice_index content) place
      ∙ second.each (k - length front) (omega (arith, lt, high, length-append front behind))
      ∙ sym (get_or-append_right front behind (length front) k 0 refl high))
      (cases_lt k (length front));
}

-- bytes that are written right behind those that stand there
pub HasAt-more : (at : ℕ) (front behind a b : List ℕ) → HasAt at front a → Torn (at + length front) (length behind) a b
    → Holds a (at + length front) behind b → HasAt at (front ++ behind) b
HasAt-more at front behind a b has torn holds =
    HasAt-append at front behind b
    (HasAt-agree at front a b has (λ k low high. torn-bytes (at + length front) (length behind) a b torn k (inl high)) torn.no_shorter)
    (HasAt-holds (at + length front) behind a b has.inside holds)

-- a write right behind another is one write of both
pub torn_run : {D : Type 0} (disk : Disk D) (old mid new : D) (at n m : ℕ) → Ran disk old mid (Torn at n) → Ran disk mid new (Torn (at + n) m) → Ran disk old new (Torn at (n + m))
torn_run disk old mid new at n m first second =
    ran_then disk old mid new (Torn at n) (Torn (at + n) m) (Torn at (n + m)) first second
    (λ a b torn. torn_wider at n at (n + m) a b (omega arith) (omega arith) torn)
    (λ a b c one two. torn_next at n m a b c one two)

-- what the writes leave

pub spares-torn : (slot : Slot) (first size at n : ℕ) (a b : List ℕ) → first ≤ at → at + n ≤ first + size → Torn at n a b → Spares slot first size a b
spares-torn slot first size at n a b low high torn = record {
  apart = λ k off_root off_body. torn-bytes at n a b torn k
      (⊎_elim (λ front. inl (omega (arith, front, low))) (λ behind. inr (omega (arith, behind, high))) off_body);
  no_shorter = torn.no_shorter;
}

pub spares-root : (slot : Slot) (first size : ℕ) (a b : List ℕ) → Torn (512 * root_sector slot) 512 a b → Spares slot first size a b
spares-root slot first size a b torn = record {
  apart = λ k off_root off_body. torn-bytes (512 * root_sector slot) 512 a b torn k off_root;
  no_shorter = torn.no_shorter;
}

pub spares-spares : (slot : Slot) (first size : ℕ) (a b c : List ℕ) → Spares slot first size a b → Spares slot first size b c → Spares slot first size a c
spares-spares slot first size a b c one two = record {
  apart = λ k off_root off_body. two.apart k off_root off_body ∙ one.apart k off_root off_body;
  no_shorter = omega (arith, one.no_shorter, two.no_shorter);
}

module _ (root : Root) where
  abbrev Writes : List ℕ → List ℕ → Type 0
  Writes = Spares root.slot (512 * root.first_sector) (32768 * root.pages + 512)

  gate-spares : (a b : List ℕ) → Torn (512 * log_sector root) 512 a b → Writes a b
  gate-spares a b torn = spares-torn root.slot (512 * root.first_sector) (32768 * root.pages + 512) (512 * log_sector root) 512 a b (omega arith) (omega arith) torn

  -- the gate behind the pages is written, or torn
  pub gate_run : {D : Type 0} (disk : Disk D) (old new : D) → Ran disk old new (Torn (512 * log_sector root) 512) → Ran disk old new Writes
  gate_run disk old new run = ran_wider disk old new (Torn (512 * log_sector root) 512) Writes run gate-spares

  -- and then the root
  pub gate_and_root_run : {D : Type 0} (disk : Disk D) (old mid new : D) → Ran disk old mid (Torn (512 * log_sector root) 512)
      → Ran disk mid new (Torn (512 * root_sector root.slot) 512) → Ran disk old new Writes
  gate_and_root_run disk old mid new gate last =
      ran_then disk old mid new (Torn (512 * log_sector root) 512) (Torn (512 * root_sector root.slot) 512) Writes gate last gate-spares
      (λ a b c one two. spares-spares root.slot (512 * root.first_sector) (32768 * root.pages + 512) a b c (gate-spares a b one)
      (spares-root root.slot (512 * root.first_sector) (32768 * root.pages + 512) b c two))

  -- the pages stay, and the gate stands behind them
  pub pages_and_gate : (pages a b c : List ℕ) → 8 ≤ root.first_sector → length pages ≡ 32768 * root.pages → HasAt (512 * root.first_sector) pages a
      → 512 * log_sector root ≤ length a → Holds a (512 * log_sector root) (replicate 512 0) b → Torn (512 * log_sector root) 512 a b
      → Torn (512 * root_sector root.slot) 512 b c → HasAt (512 * root.first_sector) (generation pages) c
  pages_and_gate pages a b c in_data size has room holds gate last =
      let places = in_front root.slot in
      let behind : 512 * root.first_sector + length pages ≡ 512 * log_sector root = omega (arith, size) in
      let At : ℕ → Type 0 = λ at. HasAt at (replicate 512 0) b in
      let pages_there : HasAt (512 * root.first_sector) pages b = HasAt-agree (512 * root.first_sector) pages a b has
      (λ k low high. torn-bytes (512 * log_sector root) 512 a b gate k (inl (omega (arith, high, behind)))) gate.no_shorter
      in
      let gate_there : HasAt (512 * root.first_sector + length pages) (replicate 512 0) b = subst At (sym behind) (HasAt-holds (512 * log_sector root) (replicate 512 0) a b room holds) in
      HasAt-agree (512 * root.first_sector) (generation pages) b c (HasAt-append (512 * root.first_sector) pages (replicate 512 0) b pages_there gate_there)
      (λ k low high. torn-bytes (512 * root_sector root.slot) 512 b c last k (inr (omega (arith, low, places.root, in_data)))) last.no_shorter

  -- how long the content then is
  pub length-gate : (a b c : List ℕ) → 8 ≤ root.first_sector → 512 * log_sector root ≤ length a → Holds a (512 * log_sector root) (replicate 512 0) b
      → Torn (512 * root_sector root.slot) 512 b c → length c ≡ max (length a) (512 * log_sector root + 512)
  length-gate a b c in_data room holds last =
      let places = in_front root.slot in
      let with_gate : length b ≡ max (length a) (512 * log_sector root + length (replicate {A = ℕ} 512 0)) = length-holds (512 * log_sector root) (replicate 512 0) a b room holds in
      omega (arith, with_gate, in_data, places.root, last.no_shorter, last.no_longer, length-replicate {A = ℕ} 512 0)

-- a root that was written is spelled
pub spelled : (root : Root) (at : ℕ) (bytes old new : List ℕ) → IsRoot root bytes → at ≤ length old → Holds old at bytes new → IsRoot root (part at 512 new)
spelled root at bytes old new is room holds =
    let Spelled : List ℕ → Type 0 = λ x. IsRoot root x in
    subst Spelled (sym (part-HasAt at 512 bytes new is.whole (HasAt-holds at bytes old new room holds))) is

-- a write inside leaves the length
pub length-torn : (at n : ℕ) (a b : List ℕ) → at + n ≤ length a → Torn at n a b → length b ≡ length a
length-torn at n a b inside torn = omega (arith, inside, torn.no_shorter, torn.no_longer)

-- a look, and then a write
pub look_then_torn : {D : Type 0} (disk : Disk D) (old mid new : D) (at n : ℕ) → Ran disk old mid Same → Ran disk mid new (Torn at n) → Ran disk old new (Torn at n)
look_then_torn disk old mid new at n look write =
    ran_then disk old mid new Same (Torn at n) (Torn at n) look write
    (λ a b same. subst (λ (x : List ℕ). Torn at n a x) (sym same) (torn_idle at n a))
    (λ a b c same torn. subst (λ (x : List ℕ). Torn at n x c) same torn)

-- a look alone
pub look_torn : {D : Type 0} (disk : Disk D) (old new : D) (at n : ℕ) → Ran disk old new Same → Ran disk old new (Torn at n)
look_torn disk old new at n look = ran_wider disk old new Same (Torn at n) look (λ a b same. subst (λ (x : List ℕ). Torn at n a x) (sym same) (torn_idle at n a))
