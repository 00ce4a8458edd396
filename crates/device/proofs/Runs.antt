-- How runs go on.
use Rattle.std.proofs.Common.{sym, subst, ℕ, List, arith}
use Rattle.device.specs.Disk.{Disk, Only}
use Rattle.device.specs.Step.{After}
use Rattle.device.specs.Run.{Ran, Stands}
use Rattle.device.proofs.Moments.{started, weaker, followed_by}

-- before the first call, for a step that may do nothing
pub not_yet : {D : Type 0} (disk : Disk D) (old : D) (step : List ℕ → List ℕ → Type 0) → ((c : List ℕ) → step c c)
    → (disk.keeps old → (c : List ℕ) → disk.since old (disk.moment old) c → disk.left old c) → Ran disk old old step
not_yet disk old step idle only_now = record {
  kept = λ k. k;
  had_kept = λ k. k;
  count = omega arith;
  seen = λ k. idle (disk.content old);
  crash = λ k c left. (c, left, idle c);
  any_moment = λ k. started disk old (After step (disk.left old)) (λ c left. (c, only_now k c left, idle c));
}

-- a step that allows no less
pub ran_wider : {D : Type 0} (disk : Disk D) (old new : D) (step wider : List ℕ → List ℕ → Type 0) → Ran disk old new step
    → ((a b : List ℕ) → step a b → wider a b) → Ran disk old new wider
ran_wider disk old new step wider run widen = record {
  kept = run.kept;
  had_kept = run.had_kept;
  count = run.count;
  seen = λ k. widen (disk.content old) (disk.content new) (run.seen k);
  crash = λ k c left. let after = run.crash k c left in (after.0, after.1, widen after.0 c after.2);
  any_moment = λ k. weaker disk old new (After step (disk.left old)) (After wider (disk.left old)) (run.any_moment k)
      (λ c after. (after.0, after.1, widen after.0 c after.2));
}

-- one run after another
pub ran_then : {D : Type 0} (disk : Disk D) (old mid new : D) (first second step : List ℕ → List ℕ → Type 0)
    → Ran disk old mid first → Ran disk mid new second
    → ((a b : List ℕ) → first a b → step a b) → ((a b c : List ℕ) → first a b → second b c → step a c) → Ran disk old new step
ran_then disk old mid new first second step run next widen join = record {
  kept = λ k. next.kept (run.kept k);
  had_kept = λ k. run.had_kept (next.had_kept k);
  count = omega (arith, run.count, next.count);
  seen = λ k. join (disk.content old) (disk.content mid) (disk.content new) (run.seen k) (next.seen (run.kept k));
  crash = λ k c left.
      let now = next.crash (run.kept k) c left in
      let was = run.crash k now.0 now.1 in
      (was.0, was.1, join was.0 now.0 c was.2 now.2);
  any_moment = λ k. followed_by disk old mid new (After first (disk.left old)) (After second (disk.left mid)) (After step (disk.left old))
      (run.any_moment k) (next.any_moment (run.kept k))
      (λ c after. (after.0, after.1, widen after.0 c after.2))
      (λ c after. let was = run.crash k after.0 after.1 in (was.0, was.1, join was.0 after.0 c was.2 after.2));
}

-- before the first call
pub stands_now : {D : Type 0} (disk : Disk D) (old : D) (M S : List ℕ → Type 0) → disk.keeps old
    → ((c : List ℕ) → disk.since old (disk.moment old) c → disk.left old c)
    → S (disk.content old) → ((c : List ℕ) → disk.left old c → S c) → ((c : List ℕ) → S c → M c) → Stands disk old old M S
stands_now disk old M S kept only_now seen crash wider = record {
  kept = kept;
  moments = started disk old M (λ c left. wider c (crash c (only_now c left)));
  seen = seen;
  crash = crash;
}

-- a run after which what had S has T
pub stands_then : {D : Type 0} (disk : Disk D) (old mid new : D) (M S T : List ℕ → Type 0) (step : List ℕ → List ℕ → Type 0)
    → Stands disk old mid M S → Ran disk mid new step
    → ((a b : List ℕ) → S a → step a b → T b) → ((c : List ℕ) → T c → M c) → Stands disk old new M T
stands_then disk old mid new M S T step was run goes_on wider = record {
  kept = run.kept was.kept;
  moments = followed_by disk old mid new M (After step (disk.left mid)) M was.moments (run.any_moment was.kept)
      (λ c has. has)
      (λ c after. wider c (goes_on after.0 c (was.crash after.0 after.1) after.2));
  seen = goes_on (disk.content mid) (disk.content new) was.seen (run.seen was.kept);
  crash = λ c left. let after = run.crash was.kept c left in goes_on after.0 c (was.crash after.0 after.1) after.2;
}

-- after a sync all that a crash leaves has what is read
pub stands_synced : {D : Type 0} (disk : Disk D) (old new : D) (M S T : List ℕ → Type 0) → Stands disk old new M S
    → Only (disk.content new) (disk.left new) → T (disk.content new) → Stands disk old new M T
stands_synced disk old new M S T was durable seen = record {
  kept = was.kept;
  moments = was.moments;
  seen = seen;
  crash = λ c left. subst T (sym (durable c left)) seen;
}

-- what has S has T
pub stands_weaker : {D : Type 0} (disk : Disk D) (old new : D) (M S T : List ℕ → Type 0) → Stands disk old new M S
    → ((c : List ℕ) → S c → T c) → Stands disk old new M T
stands_weaker disk old new M S T was wider = record {
  kept = was.kept;
  moments = was.moments;
  seen = wider (disk.content new) was.seen;
  crash = λ c left. wider c (was.crash c left);
}
