-- The pages of a generation stay while their bytes stay.
use Rattle.std.proofs.Common.{arith, refl, ◌≡◌, ◌∙◌, sym, ap, subst, ◌≤◌, ◌+◌, ◌*◌, ◌∷◌, ℕ, zero, suc, List, length}
use Rattle.gatelog.specs.Record.{part, Agree}
use Rattle.gatelog.proofs.Parts.{part-agree}
use Rattle.pages.specs.Page.{Entry, entries_in, IsSound}
use Rattle.roots.specs.declared.root.Root.{Root}
use Rattle.roots.specs.Root.{log_sector}
use Rattle.checkpoint.specs.Pages.{pages_at, AreSound, joined, HoldsEntries}

module _ (old new : List ℕ) where
  same_page : (first end : ℕ) → Agree (512 * first) (512 * end) old new → first + 64 ≤ end → 512 * end ≤ length old → 512 * end ≤ length new
      → part (512 * first) 32768 new ≡ part (512 * first) 32768 old
  same_page first end agree fits in_old in_new =
      part-agree (512 * first) 32768 old new (omega (arith, fits, in_old)) (omega (arith, fits, in_new)) (λ k low high. agree k low (omega (arith, fits, high)))

  same_pages : (first count end : ℕ) → Agree (512 * first) (512 * end) old new → first + 64 * count ≤ end → 512 * end ≤ length old → 512 * end ≤ length new
      → pages_at first count new ≡ pages_at first count old
  same_pages first zero end agree fits in_old in_new = refl
  same_pages first (suc count) end agree fits in_old in_new =
      let here = same_page first end agree (omega (arith, fits)) in_old in_new in
      let rest = same_pages (first + 64) count end (λ k low high. agree k (omega (arith, low)) high) (omega (arith, fits)) in_old in_new in
      λ i. entries_in (here i) ∷ rest i

  same_sound : (first count end : ℕ) → Agree (512 * first) (512 * end) old new → first + 64 * count ≤ end → 512 * end ≤ length old → 512 * end ≤ length new
      → AreSound first count old → AreSound first count new
  same_sound first zero end agree fits in_old in_new sound = tt
  same_sound first (suc count) end agree fits in_old in_new sound = (
    subst IsSound (sym (same_page first end agree (omega (arith, fits)) in_old in_new)) sound.0,
    same_sound (first + 64) count end (λ k low high. agree k (omega (arith, low)) high) (omega (arith, fits)) in_old in_new sound.1,
  )

  pub HoldsEntries-stays : (root : Root) (entries : List Entry) → HoldsEntries old root entries → Agree (512 * root.first_sector) (512 * log_sector root) old new
      → 512 * log_sector root ≤ length old → 512 * log_sector root ≤ length new → HoldsEntries new root entries
  HoldsEntries-stays root entries holds agree in_old in_new = record {
    sound = same_sound root.first_sector root.pages (log_sector root) agree (omega arith) in_old in_new holds.sound;
    are = ap joined (same_pages root.first_sector root.pages (log_sector root) agree (omega arith) in_old in_new) ∙ holds.are;
  }
