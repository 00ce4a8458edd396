-- A root is installed, call by call.
use Rattle.std.proofs.Common.{arith, ◌≡◌, subst, ◌+◌, ◌*◌, ℕ, List, length, replicate, Result, Ok, Err}
use Rattle.std.specs.Prelude.{OnOk}
use Rattle.std.proofs.lemmas.List.{length-append, length-replicate}
use Rattle.device.specs.Disk.{Disk, Only}
use Rattle.device.specs.Step.{Torn, Cut}
use Rattle.device.specs.Run.{Ran, Stands}
use Rattle.gatelog.specs.Log.{IsOpen}
use Rattle.gatelog.specs.Record.{part}
use Rattle.roots.specs.declared.root.Slot.{Slot}
use Rattle.roots.specs.declared.root.Root.{Root}
use Rattle.roots.specs.Root.{root_sector, gate_sector, other, IsRoot, log_sector}
use Rattle.roots.specs.Install.{HasAt, IsInUse, IsAfter, IsBeforeOrAfter, generation, IsStaged, Spares}
use Rattle.roots.proofs.Chain.{staging_either, staged, opening_fails, opened, cut_away, installed_either, in_use_next}

-- what holds in any case holds after `Ok`
pub on_ok : {T E P : Type 0} (r : Result T E) → P → OnOk r P
on_ok (Ok x) holds = holds
on_ok (Err e) holds = tt

-- how long the bytes of a generation are
pub generation_size : (root : Root) (pages : List ℕ) → length pages ≡ 32768 * root.pages → length (generation pages) ≡ 32768 * root.pages + 512
generation_size root pages size = omega (arith, length-append pages (replicate 512 0), length-replicate {A = ℕ} 512 0, size)

-- what holds once the new root's gate is open and the cut was tried
pub record AfterCut {D : Type 0} (disk : Disk D) (start : D) (current : Root) (last : ℕ) (old : List ℕ) (next : Root) (pages : List ℕ) (now : D) : Type 0 where
  pub either : Stands disk start now (IsBeforeOrAfter current last next (generation pages) old) (IsBeforeOrAfter current last next (generation pages) old)
  pub installed : Stands disk start now (IsBeforeOrAfter current last next (generation pages) old) (IsAfter next (generation pages))
  pub in_use : IsInUse disk now next (log_sector next)

module _ {D : Type 0} (disk : Disk D) (start first : D) (current : Root) (last : ℕ) (old : List ℕ) (next : Root) (pages : List ℕ)
    (is : IsStaged disk start first current last old next pages) where
  abbrev body : List ℕ
  body = generation pages

  abbrev Either : List ℕ → Type 0
  Either c = IsBeforeOrAfter current last next body old c

  body_size : length body ≡ 32768 * next.pages + 512
  body_size = generation_size next pages is.size

  module _ (second : D) (root_run : Ran disk first second (Spares next.slot (512 * next.first_sector) (32768 * next.pages + 512))) where
    root_run_there : Ran disk first second (Spares (other current.slot) (512 * next.first_sector) (32768 * next.pages + 512))
    root_run_there =
        let At : Slot → Type 0 = λ s. Ran disk first second (Spares s (512 * next.first_sector) (32768 * next.pages + 512)) in
        subst At is.follows.slot root_run

    -- the root was not written, or not all of it
    pub root_fails : Stands disk start second Either Either
    root_fails = staging_either disk start current next last old is.follows body body_size first second is.stands root_run_there

    module _ (synced : Only (disk.content second) (disk.left second))
        (spelled : IsRoot next (part (512 * root_sector next.slot) 512 (disk.content second))) (there : HasAt (512 * next.first_sector) body (disk.content second))
        (third : D) (gate_run : Ran disk second third (Torn (512 * gate_sector next.slot) 512)) where
      gate_run_there : Ran disk second third (Torn (512 * gate_sector (other current.slot)) 512)
      gate_run_there =
          let At : Slot → Type 0 = λ s. Ran disk second third (Torn (512 * gate_sector s) 512) in
          subst At is.follows.slot gate_run

      -- the gate was not opened, or torn
      pub gate_fails : Stands disk start third Either Either
      gate_fails =
          let At : Slot → Type 0 = λ s. IsRoot next (part (512 * root_sector s) 512 (disk.content second)) in
          opening_fails disk start current next last old is.follows body body_size second third
          (staged disk start current next last old is.follows body body_size first second is.stands root_run_there synced (subst At is.follows.slot spelled) there)
          gate_run_there

      module _ (opened_synced : Only (disk.content third) (disk.left third)) (is_open : IsOpen (gate_sector next.slot) (disk.content third))
          (fourth : D) (cut_run : Ran disk third fourth (Cut (512 * log_sector next + 512))) where
        -- the new root counts, whether the cut went through or not
        root_installed : Stands disk start fourth Either (IsAfter next body)
        root_installed =
            let At : Slot → Type 0 = λ s. IsRoot next (part (512 * root_sector s) 512 (disk.content second)) in
            let Opens : Slot → Type 0 = λ s. IsOpen (gate_sector s) (disk.content third) in
            cut_away disk start current next last old is.follows body body_size third fourth
            (opened disk start current next last old is.follows body body_size second third
            (staged disk start current next last old is.follows body body_size first second is.stands root_run_there synced (subst At is.follows.slot spelled) there)
            gate_run_there opened_synced (subst Opens is.follows.slot is_open))
            cut_run

        cut_either : Stands disk start fourth Either Either
        cut_either = installed_either disk start current next last old is.follows body body_size fourth root_installed

        root_in_use : IsInUse disk fourth next (log_sector next)
        root_in_use = in_use_next disk third fourth next body body_size (cut_run.had_kept root_installed.kept) opened_synced cut_run root_installed.seen

        pub after_cut : AfterCut disk start current last old next pages fourth
        after_cut = record { either = cut_either; installed = root_installed; in_use = root_in_use }
