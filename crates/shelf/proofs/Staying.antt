-- What a shelf holds stays while the bytes before the start of its log do.
use Rattle.std.proofs.Common.{arith, refl, ◌≡◌, ◌∙◌, sym, ap, subst, ◌<◌, ◌≤◌, ◌+◌, ◌*◌, ◌∷◌, ℕ, zero, suc, List, length, take}
use Rattle.std.proofs.lemmas.List.{length-take}
use Rattle.device.specs.Disk.{Disk}
use Rattle.device.specs.Run.{Ran}
use Rattle.device.specs.Step.{Same}
use Rattle.gatelog.specs.Record.{part, Agree}
use Rattle.gatelog.proofs.Parts.{part-agree, agree-take}
use Rattle.pages.specs.Page.{Entry, entries_in, IsSound}
use Rattle.roots.specs.Root.{log_sector}
use Rattle.checkpoint.specs.Pages.{pages_at, joined, AreSound, IsIndex}
use Rattle.shelf.specs.declared.shelf.Shelf.{Shelf}
use Rattle.shelf.specs.Shelf.{root_of, firsts_of, pages_of, IsHeld, Shelves}
use Rattle.shelf.proofs.Cached.{AreCached}
use Rattle.shelf.proofs.Holding.{shelves_still, ran_same}

module _ (old new : List ℕ) where
  same_page : (first end : ℕ) → Agree 0 (512 * end) old new → first + 64 ≤ end → 512 * end ≤ length old → 512 * end ≤ length new
      → part (512 * first) 32768 new ≡ part (512 * first) 32768 old
  same_page first end agree fits in_old in_new =
      part-agree (512 * first) 32768 old new (omega (arith, fits, in_old)) (omega (arith, fits, in_new)) (λ k low high. agree k (omega arith) (omega (arith, fits, high)))

  same_pages : (first count end : ℕ) → Agree 0 (512 * end) old new → first + 64 * count ≤ end → 512 * end ≤ length old → 512 * end ≤ length new
      → pages_at first count new ≡ pages_at first count old
  same_pages first zero end agree fits in_old in_new = refl
  same_pages first (suc count) end agree fits in_old in_new =
      let here = same_page first end agree (omega (arith, fits)) in_old in_new in
      let rest = same_pages (first + 64) count end agree (omega (arith, fits)) in_old in_new in
      λ i. entries_in (here i) ∷ rest i

  same_sound : (first count end : ℕ) → Agree 0 (512 * end) old new → first + 64 * count ≤ end → 512 * end ≤ length old → 512 * end ≤ length new
      → AreSound first count old → AreSound first count new
  same_sound first zero end agree fits in_old in_new sound = tt
  same_sound first (suc count) end agree fits in_old in_new sound = (
    subst IsSound (sym (same_page first end agree (omega (arith, fits)) in_old in_new)) sound.0,
    same_sound (first + 64) count end agree (omega (arith, fits)) in_old in_new sound.1,
  )

  -- a front of the new content that is a front of the old one lies inside both
  in_both : (n : ℕ) → n ≤ length new → take n new ≡ take n old → n ≤ length old
  in_both n in_new same = omega (arith, length-take n new, length-take n old, ap length same, in_new)

-- The device keeps the disk model, and holds up to the start of the shelf's log what another one holds.
abbrev pub HoldsAsBefore : {D : Type 0} → Disk D → Shelf → D → D → Type 0
HoldsAsBefore disk shelf old new =
    disk.keeps new
    × (512 * log_sector (root_of shelf) ≤ length (disk.content new))
    × (take (512 * log_sector (root_of shelf)) (disk.content new) ≡ take (512 * log_sector (root_of shelf)) (disk.content old))

module _ {D : Type 0} (disk : Disk D) (shelf : Shelf) (old new : D) where
  -- this many pages, from a sector on
  pages_stay : (count : ℕ) → (root_of shelf).first_sector + 64 * count ≤ log_sector (root_of shelf) → (0 < count → HoldsAsBefore disk shelf old new)
      → pages_at (root_of shelf).first_sector count (disk.content new) ≡ pages_at (root_of shelf).first_sector count (disk.content old)
  pages_stay zero fits holds = refl
  pages_stay (suc count) fits holds =
      let as_before = holds (omega arith) in
      let end : ℕ = 512 * log_sector (root_of shelf) in
      same_pages (disk.content old) (disk.content new) (root_of shelf).first_sector (suc count) (log_sector (root_of shelf)) (agree-take end (disk.content old) (disk.content new) as_before.2) fits
      (in_both (disk.content old) (disk.content new) end as_before.1 as_before.2) as_before.1

  held_stays : HoldsAsBefore disk shelf old new → pages_of disk new shelf ≡ pages_of disk old shelf → IsHeld disk old shelf → IsHeld disk new shelf
  held_stays as_before pages held =
      let root = root_of shelf in
      let end : ℕ = 512 * log_sector root in
      let Cached : List (List Entry) → Type 0 = λ ps. AreCached ps shelf.cache in
      record {
        keeps = as_before.0;
        sound = same_sound (disk.content old) (disk.content new) root.first_sector root.pages (log_sector root) (agree-take end (disk.content old) (disk.content new) as_before.2) (omega arith)
            (in_both (disk.content old) (disk.content new) end as_before.1 as_before.2) as_before.1 held.sound;
        cached = subst Cached (sym pages) held.cached;
      }

  -- What the pages of a shelf hold stays where the device holds, up to the start of the log, what it held. Where there are no pages nothing is asked of it.
  pub shelves_stay : (entries : List Entry) → (0 < (root_of shelf).pages → HoldsAsBefore disk shelf old new) → Shelves disk old shelf entries → Shelves disk new shelf entries
  shelves_stay entries as_before shelves =
      let pages : pages_of disk new shelf ≡ pages_of disk old shelf = pages_stay (root_of shelf).pages (omega arith) as_before in
      let Of : List (List Entry) → Type 0 = λ ps. IsIndex (firsts_of shelf) ps in
      record {
        index = subst Of (sym pages) shelves.index;
        held = λ some. held_stays (as_before some) pages (shelves.held some);
        are = ap joined pages ∙ shelves.are;
      }

  -- So it does where the device was read, and nothing was written.
  pub shelves_ran : (entries : List Entry) → Ran disk old new Same → Shelves disk old shelf entries → Shelves disk new shelf entries
  shelves_ran entries ran shelves =
      shelves_still disk old new shelf shelf entries refl refl
      (λ held. let same = ran_same disk old new ran held.keeps in (same.0, same.1, held.cached)) shelves
