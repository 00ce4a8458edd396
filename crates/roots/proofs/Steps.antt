-- What each step from one generation to the next leaves of a content.
use Rattle.std.proofs.Common.{arith, refl, ◌≡◌, ◌∙◌, sym, ap, subst, ◌<◌, ◌≤◌, ◌+◌, ◌*◌, ◌⊎◌, inl, inr, ⊎_elim, ℕ, List, length, take, slice_index}
use Rattle.std.proofs.lemmas.Bool.{cases_eq}
use Rattle.device.specs.Step.{Torn, Cut}
use Rattle.device.proofs.Steps.{torn-bytes}
use Rattle.gatelog.specs.Log.{IsOpen}
use Rattle.gatelog.specs.Record.{part, Agree}
use Rattle.gatelog.proofs.Parts.{part-agree, agree-take, reaches-take}
use Rattle.roots.specs.declared.root.Slot.{Slot}
use Rattle.roots.specs.declared.root.Slot.TheVariants.{A, B}
use Rattle.roots.specs.declared.root.Root.{Root}
use Rattle.roots.specs.Root.{root_sector, gate_sector, other, IsHeader, IsRoot, IsOpenRoot, log_sector, HoldsRoot}
use Rattle.roots.specs.Install.{HasAt, IsNext, IsBefore, IsClear, IsAfter, IsBeforeOrAfter, Spares}

-- where the roots and their gates lie

pub other-other : (s : Slot) → other (other s) ≡ s
other-other A = refl
other-other B = refl

-- a slot's root and gate lie between the header and the data
pub record InFront (s : Slot) : Type 0 where
  pub root : 512 * root_sector s + 512 ≤ 4096
  pub gate : 512 * gate_sector s + 512 ≤ 4096
  pub behind_header : 512 ≤ 512 * root_sector s
  pub in_order : 512 * root_sector s + 512 ≤ 512 * gate_sector s

pub in_front : (s : Slot) → InFront s
in_front A = record { root = omega arith; gate = omega arith; behind_header = omega arith; in_order = omega arith }
in_front B = record { root = omega arith; gate = omega arith; behind_header = omega arith; in_order = omega arith }

-- the other slot's root and gate lie off this one's
pub record Apart (s : Slot) : Type 0 where
  pub root_root : (512 * root_sector s + 512 ≤ 512 * root_sector (other s)) ⊎ (512 * root_sector (other s) + 512 ≤ 512 * root_sector s)
  pub root_gate : (512 * root_sector s + 512 ≤ 512 * gate_sector (other s)) ⊎ (512 * gate_sector (other s) + 512 ≤ 512 * root_sector s)
  pub gate_root : (512 * gate_sector s + 512 ≤ 512 * root_sector (other s)) ⊎ (512 * root_sector (other s) + 512 ≤ 512 * gate_sector s)
  pub gate_gate : (512 * gate_sector s + 512 ≤ 512 * gate_sector (other s)) ⊎ (512 * gate_sector (other s) + 512 ≤ 512 * gate_sector s)

pub apart : (s : Slot) → Apart s
apart A = record { root_root = inl (omega arith); root_gate = inl (omega arith); gate_root = inl (omega arith); gate_gate = inl (omega arith) }
apart B = record { root_root = inr (omega arith); root_gate = inr (omega arith); gate_root = inr (omega arith); gate_gate = inr (omega arith) }

-- what agrees

agree-torn : (from to at n : ℕ) (a b : List ℕ) → Torn at n a b → (to ≤ at) ⊎ (at + n ≤ from) → Agree from to a b
agree-torn from to at n a b torn (inl front) = λ k low high. torn-bytes at n a b torn k (inl (omega (arith, front, high)))
agree-torn from to at n a b torn (inr behind) = λ k low high. torn-bytes at n a b torn k (inr (omega (arith, behind, low)))

agree-spares : (from to : ℕ) (slot : Slot) (first size : ℕ) (a b : List ℕ) → Spares slot first size a b
    → (to ≤ 512 * root_sector slot) ⊎ (512 * root_sector slot + 512 ≤ from) → (to ≤ first) ⊎ (first + size ≤ from) → Agree from to a b
agree-spares from to slot first size a b spares off_root off_body = λ k low high.
    spares.apart k
    (⊎_elim (λ front. inl (omega (arith, front, high))) (λ behind. inr (omega (arith, behind, low))) off_root)
    (⊎_elim (λ front. inl (omega (arith, front, high))) (λ behind. inr (omega (arith, behind, low))) off_body)

agree_within : (from to at n : ℕ) (a b : List ℕ) → Agree from to a b → from ≤ at → at + n ≤ to → Agree at (at + n) a b
agree_within from to at n a b agree below above = λ k low high. agree k (omega (arith, below, low)) (omega (arith, above, high))

header-agree : (a b : List ℕ) → 512 ≤ length a → 512 ≤ length b → Agree 0 512 a b → IsHeader (part 0 512 a) → IsHeader (part 0 512 b)
header-agree a b in_a in_b agree header =
    let Head : List ℕ → Type 0 = λ x. IsHeader x in
    subst Head (sym (part-agree 0 512 a b (omega (arith, in_a)) (omega (arith, in_b)) agree)) header

root-agree : (root : Root) (at : ℕ) (a b : List ℕ) → at + 512 ≤ length a → at + 512 ≤ length b → Agree at (at + 512) a b → IsRoot root (part at 512 a)
    → IsRoot root (part at 512 b)
root-agree root at a b in_a in_b agree spelled =
    let Spelled : List ℕ → Type 0 = λ x. IsRoot root x in
    subst Spelled (sym (part-agree at 512 a b in_a in_b agree)) spelled

-- what stands at an offset stays there
pub HasAt-agree : (at : ℕ) (bytes a b : List ℕ) → HasAt at bytes a → Agree at (at + length bytes) a b → length a ≤ length b → HasAt at bytes b
HasAt-agree at bytes a b has agree no_shorter = record {
  inside = omega (arith, has.inside, no_shorter);
  each = λ k lt. agree (at + k) (omega arith) (omega (arith, lt)) ∙ has.each k lt;
}

-- the states

module _ (current : Root) (last : ℕ) (old : List ℕ) where
  -- the old root with its gate, and its generation, are there
  pub record Kept (c : List ℕ) : Type 0 where
    pub header : IsHeader (part 0 512 c)
    pub stands : IsOpenRoot c current
    pub inside : 512 * log_sector current + 512 ≤ length c
    pub in_use : Agree (512 * current.first_sector) (512 * last + 512) old c
    pub reaches : 512 * last + 512 ≤ length c

  -- and a lesser root stands in the other slot, whose gate is being closed
  pub record Closing (lesser : Root) (c : List ℕ) : Type 0 where
    pub kept : Kept c
    pub slot : lesser.slot ≡ other current.slot
    pub spelled : IsRoot lesser (part (512 * root_sector (other current.slot)) 512 c)
    pub less : lesser.generation < current.generation

  -- and the next root and its generation are there, and the next root's gate is being opened
  pub record Opening (next : Root) (body c : List ℕ) : Type 0 where
    pub kept : Kept c
    pub spelled : IsRoot next (part (512 * root_sector (other current.slot)) 512 c)
    pub pages : HasAt (512 * next.first_sector) body c

  long : (c : List ℕ) → Kept c → 4608 ≤ length c
  long c kept = omega (arith, kept.stands.spelled.in_data, kept.inside)

  kept-agree : (a b : List ℕ) → Kept a → Agree 0 512 a b → Agree (512 * root_sector current.slot) (512 * root_sector current.slot + 512) a b
      → Agree (512 * gate_sector current.slot) (512 * gate_sector current.slot + 512) a b
      → Agree (512 * current.first_sector) (512 * last + 512) a b → 512 * log_sector current + 512 ≤ length b → 512 * last + 512 ≤ length b → Kept b
  kept-agree a b kept header root gate in_use inside reaches =
      let places = in_front current.slot in
      let in_a = long a kept in
      let in_b : 4608 ≤ length b = omega (arith, kept.stands.spelled.in_data, inside) in
      record {
        header = header-agree a b (omega (arith, in_a)) (omega (arith, in_b)) header kept.header;
        stands = record {
          is_open = gate (512 * gate_sector current.slot) (omega arith) (omega arith) ∙ kept.stands.is_open;
          spelled = root-agree current (512 * root_sector current.slot) a b (omega (arith, in_a, places.root)) (omega (arith, in_b, places.root)) root kept.stands.spelled;
        };
        inside = inside;
        in_use = λ k low high. in_use k low high ∙ kept.in_use k low high;
        reaches = reaches;
      }

  pub before-kept : (c : List ℕ) → IsBefore current last old c → Kept c
  before-kept c before = record {
    header = before.holds.header;
    stands = before.holds.counts.stands;
    inside = before.holds.inside;
    in_use = before.in_use;
    reaches = before.reaches;
  }

  kept-before : (c : List ℕ) → Kept c
      → (IsOpen (gate_sector (other current.slot)) c → (lesser : Root) × (lesser.slot ≡ other current.slot) × IsOpenRoot c lesser × (lesser.generation < current.generation))
      → IsBefore current last old c
  kept-before c kept greater = record {
    holds = record { header = kept.header; counts = record { stands = kept.stands; greater = greater }; inside = kept.inside };
    in_use = kept.in_use;
    reaches = kept.reaches;
  }

  kept-clear : (c : List ℕ) → Kept c → (IsOpen (gate_sector (other current.slot)) c → ⊥) → IsClear current last old c
  kept-clear c kept closed = record { before = kept-before c kept (λ opened. absurd (closed opened)); closed = closed }

  -- the old root counts, whatever the other gate reads
  pub closing-before : (lesser : Root) (c : List ℕ) → Closing lesser c → IsBefore current last old c
  closing-before lesser c closing =
      let Opens : Slot → Type 0 = λ s. IsOpen (gate_sector s) c in
      let Spells : Slot → Type 0 = λ s. IsRoot lesser (part (512 * root_sector s) 512 c) in
      kept-before c closing.kept (λ opened. (
        lesser,
        closing.slot,
        record { is_open = subst Opens (sym closing.slot) opened; spelled = subst Spells (sym closing.slot) closing.spelled },
        closing.less,
      ))

  -- the start

  -- a content that agrees with what reads give up to the last gate
  kept_start : (a b : List ℕ) → Kept a → log_sector current ≤ last → take (512 * last + 512) b ≡ take (512 * last + 512) a → Kept b
  kept_start a b kept behind same =
      let places = in_front current.slot in
      let agree = agree-take (512 * last + 512) a b same in
      let far : 4608 ≤ 512 * last + 512 = omega (arith, kept.stands.spelled.in_data, behind) in
      let reaches = reaches-take (512 * last + 512) a b same kept.reaches in
      kept-agree a b kept
      (agree_within 0 (512 * last + 512) 0 512 a b agree (omega arith) (omega (arith, far)))
      (agree_within 0 (512 * last + 512) (512 * root_sector current.slot) 512 a b agree (omega arith) (omega (arith, far, places.root)))
      (agree_within 0 (512 * last + 512) (512 * gate_sector current.slot) 512 a b agree (omega arith) (omega (arith, far, places.gate)))
      (λ k low high. agree k (omega arith) high)
      (omega (arith, behind, reaches)) reaches

  pub start-closing : (lesser : Root) (a b : List ℕ) → Closing lesser a → log_sector current ≤ last → take (512 * last + 512) b ≡ take (512 * last + 512) a
      → Closing lesser b
  start-closing lesser a b closing behind same =
      let places = in_front (other current.slot) in
      let far : 4608 ≤ 512 * last + 512 = omega (arith, closing.kept.stands.spelled.in_data, behind) in
      let kept = kept_start a b closing.kept behind same in
      record {
        kept = kept;
        slot = closing.slot;
        spelled = root-agree lesser (512 * root_sector (other current.slot)) a b (omega (arith, long a closing.kept, places.root)) (omega (arith, long b kept, places.root))
            (agree_within 0 (512 * last + 512) (512 * root_sector (other current.slot)) 512 a b (agree-take (512 * last + 512) a b same) (omega arith) (omega (arith, far, places.root)))
            closing.spelled;
        less = closing.less;
      }

  pub start-clear : (a b : List ℕ) → IsClear current last old a → log_sector current ≤ last → take (512 * last + 512) b ≡ take (512 * last + 512) a → IsClear current last old b
  start-clear a b clear behind same =
      let places = in_front (other current.slot) in
      let kept = before-kept a clear.before in
      let far : 4608 ≤ 512 * last + 512 = omega (arith, kept.stands.spelled.in_data, behind) in
      let gate = agree-take (512 * last + 512) a b same (512 * gate_sector (other current.slot)) (omega arith) (omega (arith, far, places.gate)) in
      kept-clear b (kept_start a b kept behind same) (λ opened. clear.closed (sym gate ∙ opened))

  -- the other gate is written

  kept-gate : (a b : List ℕ) → Kept a → Torn (512 * gate_sector (other current.slot)) 512 a b → Kept b
  kept-gate a b kept torn =
      let places = in_front (other current.slot) in
      let off = apart current.slot in
      kept-agree a b kept
      (agree-torn 0 512 (512 * gate_sector (other current.slot)) 512 a b torn (inl (omega (arith, places.behind_header, places.in_order))))
      (agree-torn (512 * root_sector current.slot) (512 * root_sector current.slot + 512) (512 * gate_sector (other current.slot)) 512 a b torn off.root_gate)
      (agree-torn (512 * gate_sector current.slot) (512 * gate_sector current.slot + 512) (512 * gate_sector (other current.slot)) 512 a b torn off.gate_gate)
      (agree-torn (512 * current.first_sector) (512 * last + 512) (512 * gate_sector (other current.slot)) 512 a b torn
      (inr (omega (arith, places.gate, kept.stands.spelled.in_data))))
      (omega (arith, kept.inside, torn.no_shorter)) (omega (arith, kept.reaches, torn.no_shorter))

  pub closing-gate : (lesser : Root) (a b : List ℕ) → Closing lesser a → Torn (512 * gate_sector (other current.slot)) 512 a b → Closing lesser b
  closing-gate lesser a b closing torn =
      let places = in_front (other current.slot) in
      let kept = kept-gate a b closing.kept torn in
      record {
        kept = kept;
        slot = closing.slot;
        spelled = root-agree lesser (512 * root_sector (other current.slot)) a b (omega (arith, long a closing.kept, places.root)) (omega (arith, long b kept, places.root))
            (agree-torn (512 * root_sector (other current.slot)) (512 * root_sector (other current.slot) + 512) (512 * gate_sector (other current.slot)) 512 a b torn (inl places.in_order))
            closing.spelled;
        less = closing.less;
      }

  pub closing-clear : (lesser : Root) (c : List ℕ) → Closing lesser c → (IsOpen (gate_sector (other current.slot)) c → ⊥) → IsClear current last old c
  closing-clear lesser c closing closed = kept-clear c closing.kept closed

  module _ (next : Root) (is : IsNext current last next) where
    -- the next root, its pages and the gate behind them are written
    pub clear-spares : (a b : List ℕ) → IsClear current last old a → Spares (other current.slot) (512 * next.first_sector) (32768 * next.pages + 512) a b → IsClear current last old b
    clear-spares a b clear spares =
        let places = in_front (other current.slot) in
        let own = in_front current.slot in
        let off = apart current.slot in
        let kept = before-kept a clear.before in
        let size = 32768 * next.pages + 512 in
        kept-clear b
        (kept-agree a b kept
        (agree-spares 0 512 (other current.slot) (512 * next.first_sector) size a b spares (inl (omega (arith, places.behind_header))) (inl (omega (arith, is.in_data))))
        (agree-spares (512 * root_sector current.slot) (512 * root_sector current.slot + 512) (other current.slot) (512 * next.first_sector) size a b spares
        off.root_root (inl (omega (arith, own.root, is.in_data))))
        (agree-spares (512 * gate_sector current.slot) (512 * gate_sector current.slot + 512) (other current.slot) (512 * next.first_sector) size a b spares
        off.gate_root (inl (omega (arith, own.gate, is.in_data))))
        (agree-spares (512 * current.first_sector) (512 * last + 512) (other current.slot) (512 * next.first_sector) size a b spares
        (inr (omega (arith, places.root, kept.stands.spelled.in_data)))
        (⊎_elim (λ front. inr (omega (arith, front))) (λ behind. inl (omega (arith, behind))) is.off))
        (omega (arith, kept.inside, spares.no_shorter)) (omega (arith, kept.reaches, spares.no_shorter)))
        (λ opened. clear.closed (sym (spares.apart (512 * gate_sector (other current.slot)) (inr places.in_order) (inl (omega (arith, places.gate, is.in_data)))) ∙ opened))

    module _ (body : List ℕ) where
      -- the next root's gate is written
      pub opening-gate : (a b : List ℕ) → Opening next body a → Torn (512 * gate_sector (other current.slot)) 512 a b → Opening next body b
      opening-gate a b opening torn =
          let places = in_front (other current.slot) in
          let kept = kept-gate a b opening.kept torn in
          record {
            kept = kept;
            spelled = root-agree next (512 * root_sector (other current.slot)) a b (omega (arith, long a opening.kept, places.root)) (omega (arith, long b kept, places.root))
                (agree-torn (512 * root_sector (other current.slot)) (512 * root_sector (other current.slot) + 512) (512 * gate_sector (other current.slot)) 512 a b torn (inl places.in_order))
                opening.spelled;
            pages = HasAt-agree (512 * next.first_sector) body a b opening.pages
                (agree-torn (512 * next.first_sector) (512 * next.first_sector + length body) (512 * gate_sector (other current.slot)) 512 a b torn (inr (omega (arith, places.gate, is.in_data))))
                torn.no_shorter;
          }

      pub opening-after : (c : List ℕ) → length body ≡ 32768 * next.pages + 512 → Opening next body c → IsOpen (gate_sector (other current.slot)) c → IsAfter next body c
      opening-after c size opening opened =
          let Opens : Slot → Type 0 = λ s. IsOpen (gate_sector s) c in
          let Spells : Slot → Type 0 = λ s. IsRoot next (part (512 * root_sector s) 512 c) in
          let back : current.slot ≡ other next.slot = sym (other-other current.slot) ∙ ap other (sym is.slot) in
          record {
            holds = record {
              header = opening.kept.header;
              counts = record {
                stands = record { is_open = subst Opens (sym is.slot) opened; spelled = subst Spells (sym is.slot) opening.spelled };
                greater = λ too. (current, back, opening.kept.stands, omega (arith, is.generation));
              };
              inside = omega (arith, opening.pages.inside, size);
            };
            pages = opening.pages;
          }

      -- the one or the other root counts, whatever the next root's gate reads
      pub opening-either : (c : List ℕ) → length body ≡ 32768 * next.pages + 512 → Opening next body c → IsBeforeOrAfter current last next body old c
      opening-either c size opening = ⊎_elim
          (λ opened. inr (opening-after c size opening opened))
          (λ closed. inl (kept-clear c opening.kept closed).before)
          (cases_eq (slice_index c (512 * gate_sector (other current.slot))) 165)

-- the sectors behind the new log's first gate are cut away

-- a root that counts does so in a content that agrees in front
pub holds-agree : (root : Root) (n : ℕ) (a b : List ℕ) → HoldsRoot a root → Agree 0 n a b → 512 * log_sector root + 512 ≤ n → n ≤ length a → n ≤ length b → HoldsRoot b root
holds-agree root n a b holds agree far in_a in_b =
    let whole : 4608 ≤ n = omega (arith, holds.counts.stands.spelled.in_data, far) in
    let open_root : (r : Root) → IsOpenRoot a r → IsOpenRoot b r = λ r stands.
    let places = in_front r.slot in
    record {
      is_open = agree (512 * gate_sector r.slot) (omega arith) (omega (arith, places.gate, whole)) ∙ stands.is_open;
      spelled = root-agree r (512 * root_sector r.slot) a b (omega (arith, places.root, whole, in_a)) (omega (arith, places.root, whole, in_b))
          (agree_within 0 n (512 * root_sector r.slot) 512 a b agree (omega arith) (omega (arith, places.root, whole))) stands.spelled;
    } in
    let places = in_front (other root.slot) in
    record {
      header = header-agree a b (omega (arith, whole, in_a)) (omega (arith, whole, in_b)) (agree_within 0 n 0 512 a b agree (omega arith) (omega (arith, whole))) holds.header;
      counts = record {
        stands = open_root root holds.counts.stands;
        greater = λ opened.
            let found = holds.counts.greater (sym (agree (512 * gate_sector (other root.slot)) (omega arith) (omega (arith, places.gate, whole))) ∙ opened) in
            (found.0, found.1, open_root found.0 found.2, found.3);
      };
      inside = omega (arith, far, in_b);
    }

pub after-cut : (next : Root) (body a b : List ℕ) → length body ≡ 32768 * next.pages + 512 → IsAfter next body a → Cut (512 * log_sector next + 512) a b → IsAfter next body b
after-cut next body a b size after cut =
    let agree = agree-take (512 * log_sector next + 512) a b cut.front in
    let whole : 512 * log_sector next + 512 ≤ length a = omega (arith, after.pages.inside, size) in
    let reaches = reaches-take (512 * log_sector next + 512) a b cut.front whole in
    record {
      holds = holds-agree next (512 * log_sector next + 512) a b after.holds agree (omega arith) whole reaches;
      pages = record {
        inside = omega (arith, reaches, size);
        each = λ k lt. agree (512 * next.first_sector + k) (omega arith) (omega (arith, lt, size)) ∙ after.pages.each k lt;
      };
    }
