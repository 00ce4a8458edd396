-- The steps of a file of bytes, seen as sectors.
use Rattle.std.proofs.Common.{rules, arith, refl, ◌≡◌, ◌∙◌, sym, ap, subst, ◌<◌, ◌≤◌, ◌+◌, ◌*◌, ◌/◌, ◌%◌, ◌-◌, inl, inr, ⊎_elim, ℕ, List, length, take, drop, min, max, slice_index}
use Rattle.std.proofs.lemmas.List.{places, same_lists, length-take, length-drop, get_or-take, take-take}
use Rattle.device.specs.declared.sector_file.SectorFile.{SectorFile}
use Rattle.device.specs.Disk.{Disk, Only}
use Rattle.device.specs.Step.{Holds, Same, Torn, Cut, After}
use Rattle.device.specs.Run.{Ran}
use Rattle.device.specs.Sectors.{whole, Whole, sector_disk}
use Rattle.device.proofs.Steps.{torn_from_bytes, cut_from_bytes, take-holds, torn-bytes, length-holds}

-- a run over the file is a run over its sectors
pub ran_whole : {F : Type 0} (disk : Disk F) (old new : SectorFile F) (step sectors : List ℕ → List ℕ → Type 0) → Ran disk old.file new.file step
    → (disk.keeps old.file → (a b : List ℕ) → step a b → sectors (whole a) (whole b)) → Ran (sector_disk disk) old new sectors
ran_whole disk old new step sectors run lift =
    let after_whole : disk.keeps old.file → (c raw : List ℕ) → After step (disk.left old.file) raw → c ≡ whole raw → After sectors (Whole (disk.left old.file)) c
    = λ k c raw after e. (whole after.0, (after.0, after.1, refl), subst (sectors (whole after.0)) (sym e) (lift k after.0 raw after.2)) in
    record {
      kept = run.kept;
      had_kept = run.had_kept;
      count = run.count;
      seen = λ k. lift k (disk.content old.file) (disk.content new.file) (run.seen k);
      crash = λ k c left. after_whole k c left.0 (run.crash k left.0 left.1) left.2;
      any_moment = λ k. record {
        later = (run.any_moment k).later;
        each = λ c since. after_whole k c since.0 ((run.any_moment k).each since.0 since.1) since.2;
        before = λ t c le since. ⊎_elim (λ was. inl (since.0, was, since.2)) (λ now. inr (after_whole k c since.0 now since.2))
            ((run.any_moment k).before t since.0 le since.1);
      };
    }

pub length-whole : (bytes : List ℕ) → length (whole bytes) ≡ 512 * (length bytes / 512)
length-whole bytes = omega (arith, length-take (512 * (length bytes / 512)) bytes)

get-whole : (bytes : List ℕ) (k : ℕ) → k < length (whole bytes) → slice_index (whole bytes) k ≡ slice_index bytes k
get-whole bytes k lt = get_or-take (512 * (length bytes / 512)) bytes k 0 (omega (arith, length-whole bytes))

pub same-whole : (a b : List ℕ) → Same a b → Same (whole a) (whole b)
same-whole a b same = ap whole same

pub torn-whole : (at n : ℕ) (a b : List ℕ) → n % 512 ≡ 0 → Torn (512 * at) n a b → Torn (512 * at) n (whole a) (whole b)
torn-whole at n a b sectors torn =
    let la = length-whole a in
    let lb = length-whole b in
    let front : min (512 * at) (length b) ≡ min (512 * at) (length a) = sym (length-take (512 * at) b) ∙ ap length torn.before ∙ length-take (512 * at) a in
    let back : length b - (512 * at + n) ≡ length a - (512 * at + n) = sym (length-drop (512 * at + n) b) ∙ ap length torn.after ∙ length-drop (512 * at + n) a in
    torn_from_bytes (512 * at) n (whole a) (whole b)
    (omega (arith, la, lb, torn.no_shorter))
    (omega (arith, la, lb, torn.no_longer, sectors))
    (omega (arith, la, lb, torn.no_shorter, front))
    (λ k off lt.
    let here : k < length (whole a) = ⊎_elim (λ low. omega (arith, la, lb, front, torn.no_shorter)) (λ high. omega (arith, la, lb, back, torn.no_longer)) off in
    get-whole b k lt ∙ torn-bytes (512 * at) n a b torn k off ∙ sym (get-whole a k here))

pub cut-whole : (n : ℕ) (a b : List ℕ) → Cut (512 * n) a b → Cut (512 * n) (whole a) (whole b)
cut-whole n a b cut =
    let la = length-whole a in
    let lb = length-whole b in
    cut_from_bytes (512 * n) (whole a) (whole b)
    (omega (arith, la, lb, cut.no_shorter))
    (omega (arith, la, lb, cut.no_longer))
    (λ k low lt.
    get-whole b k lt
    ∙ (sym (get_or-take (512 * n) b k 0 low) ∙ ap (λ (x : List ℕ). slice_index x k) cut.front ∙ get_or-take (512 * n) a k 0 low)
    ∙ sym (get-whole a k (omega (arith, la, lb, cut.no_longer))))

-- what a read gives
pub read-whole : (at n : ℕ) (bytes : List ℕ) → 512 * at + n ≤ length (whole bytes) → take n (drop (512 * at) bytes) ≡ take n (drop (512 * at) (whole bytes))
read-whole at n bytes inside = same_lists _ _ (search (rules, places)) (λ k d h. grind (arith, places, length-whole bytes))

-- what is there after a write
pub holds-whole : (at : ℕ) (bytes a b : List ℕ) → length bytes % 512 ≡ 0 → 512 * at ≤ length (whole a) → Holds a (512 * at) bytes b → Holds (whole a) (512 * at) bytes (whole b)
holds-whole at bytes a b sectors inside holds =
    let la = length-whole a in
    let lb : length b ≡ max (length a) (512 * at + length bytes) = length-holds (512 * at) bytes a b (omega (arith, la, inside)) holds in
    let end : 512 * (length b / 512) ≡ max (512 * (length a / 512)) (512 * at + length bytes) = omega (arith, lb, sectors) in
    ap (λ n. take n b) end ∙ ap (take (max (512 * (length a / 512)) (512 * at + length bytes))) holds
    ∙ take-holds a bytes (512 * at) (512 * (length a / 512)) (omega (arith, la, inside)) (omega arith)

-- what is there after a cut
pub take-whole : (n : ℕ) (a b : List ℕ) → 512 * n ≤ length (whole a) → b ≡ take (512 * n) a → whole b ≡ take (512 * n) (whole a)
take-whole n a b inside e =
    let la = length-whole a in
    let lb : 512 * (length b / 512) ≡ 512 * n = omega (arith, ap length e, length-take (512 * n) a, la, inside) in
    ap (λ m. take m b) lb ∙ ap (take (512 * n)) e ∙ take-take (512 * n) (512 * n) a (omega arith)
    ∙ sym (take-take (512 * n) (512 * (length a / 512)) a (omega (arith, la, inside)))

-- what a crash leaves after a sync
pub only-whole : (content : List ℕ) (outcomes : List ℕ → Type 0) → Only content outcomes → Only (whole content) (Whole outcomes)
only-whole content outcomes only c left = left.2 ∙ ap whole (only left.0 left.1)
