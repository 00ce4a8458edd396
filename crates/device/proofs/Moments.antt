-- How the moments of a run go on.
use Rattle.std.proofs.Common.{inl, inr, ⊎_elim, ℕ, List, arith}
use Rattle.device.specs.Disk.{Disk, LeavesOnly}

-- before the first call
pub started : {D : Type 0} (disk : Disk D) (old : D) (P : List ℕ → Type 0) → ((c : List ℕ) → disk.since old (disk.moment old) c → P c) → LeavesOnly disk old old P
started disk old P here = record { later = omega arith; each = here; before = λ t c le left. inl left }

-- what has P has Q
pub weaker : {D : Type 0} (disk : Disk D) (old new : D) (P Q : List ℕ → Type 0) → LeavesOnly disk old new P → ((c : List ℕ) → P c → Q c) → LeavesOnly disk old new Q
weaker disk old new P Q so_far wider = record {
  later = so_far.later;
  each = λ c left. wider c (so_far.each c left);
  before = λ t c le left. ⊎_elim (λ was. inl was) (λ now. inr (wider c now)) (so_far.before t c le left);
}

-- one run after another
pub followed_by : {D : Type 0} (disk : Disk D) (old mid new : D) (P Q R : List ℕ → Type 0)
    → LeavesOnly disk old mid P → LeavesOnly disk mid new Q → ((c : List ℕ) → P c → R c) → ((c : List ℕ) → Q c → R c) → LeavesOnly disk old new R
followed_by disk old mid new P Q R first second wider_first wider_second = record {
  later = omega (arith, first.later, second.later);
  each = λ c left. ⊎_elim (λ was. wider_first c (first.each c was)) (wider_second c) (second.before (disk.moment old) c first.later left);
  before = λ t c le left. ⊎_elim
      (λ was. ⊎_elim (λ long_ago. inl long_ago) (λ p. inr (wider_first c p)) (first.before t c le was))
      (λ q. inr (wider_second c q))
      (second.before t c (omega (arith, le, first.later)) left);
}
