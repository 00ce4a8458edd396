-- A shelf that shows what another one does.
use Rattle.std.proofs.Common.{arith, ◌≡◌, ◌∙◌, sym, ap, subst, refl, ◌+◌, ◌*◌, ◌<◌, ◌≤◌, ℕ, zero, suc, List, [], length, get_or, Contains}
use Rattle.device.specs.Disk.{Disk}
use Rattle.device.specs.Run.{Ran}
use Rattle.device.specs.Step.{Same}
use Rattle.gatelog.specs.Record.{part}
use Rattle.pages.specs.Page.{Entry, entries_in}
use Rattle.roots.specs.declared.root.Root.{Root}
use Rattle.checkpoint.specs.Pages.{pages_at, pages_of_root, joined, AreSound, HoldsEntries, IsIndex}
use Rattle.roots.specs.Root.{log_sector}
use Rattle.checkpoint.proofs.Joining.{page_at}
use Rattle.shelf.specs.declared.shelf.Shelf.{Shelf}
use Rattle.shelf.specs.Shelf.{root_of, firsts_of, pages_of, IsHeld, Shelves}
use Rattle.shelf.proofs.Cached.{AreCached}

-- ---- pages by number

pub length-pages_at : (first n : ℕ) (content : List ℕ) → length (pages_at first n content) ≡ n
length-pages_at first zero content = refl
length-pages_at first (suc n) content = ap suc (length-pages_at (first + 64) n content)

pub get-pages_at : (first n i : ℕ) (content : List ℕ) → i < n → get_or (pages_at first n content) i [] ≡ entries_in (page_at first i content)
get-pages_at first zero i content inside = absurd (omega arith)
get-pages_at first (suc n) zero content inside =
    let same : first ≡ first + 64 * 0 = omega arith in ap (λ at. entries_in (part (512 * at) 32768 content)) same
get-pages_at first (suc n) (suc i) content inside =
    let same : first + 64 + 64 * i ≡ first + 64 * suc i = omega arith in
    get-pages_at (first + 64) n i content (omega arith) ∙ ap (λ at. entries_in (part (512 * at) 32768 content)) same

same_at : (first n : ℕ) (a b : List ℕ) → (0 < n → b ≡ a) → pages_at first n b ≡ pages_at first n a
same_at first zero a b same = refl
same_at first (suc n) a b same = ap (pages_at first (suc n)) (same (omega arith))

-- a page lies inside
pub page_inside : (root : Root) (page size : ℕ) → page < root.pages → 512 * log_sector root ≤ size → 512 * (root.first_sector + 64 * page) + 32768 ≤ size
page_inside root page size inside all = omega (arith, inside, all)

-- ---- shelves

module _ {D : Type 0} (disk : Disk D) (before after : D) (old new : Shelf) where
  same_pages : root_of new ≡ root_of old → (0 < (root_of old).pages → disk.content after ≡ disk.content before) → pages_of disk after new ≡ pages_of disk before old
  same_pages root same =
      ap (λ (r : Root). pages_of_root r (disk.content after)) root
      ∙ same_at (root_of old).first_sector (root_of old).pages (disk.content before) (disk.content after) same

  held_still : root_of new ≡ root_of old → pages_of disk after new ≡ pages_of disk before old → IsHeld disk before old → disk.keeps after
      → disk.content after ≡ disk.content before → AreCached (pages_of disk before old) new.cache → IsHeld disk after new
  held_still root pages held keeps same cached =
      let Sound : List ℕ → Type 0 = λ content. AreSound (root_of old).first_sector (root_of old).pages content in
      let Whole : Root → Type 0 = λ r. AreSound r.first_sector r.pages (disk.content after) in
      let Cached : List (List Entry) → Type 0 = λ ps. AreCached ps new.cache in
      record {
        keeps = keeps;
        sound = subst Whole (sym root) (subst Sound (sym same) held.sound);
        cached = subst Cached (sym pages) cached;
      }

  -- what lies in memory is of the same pages, and the device holds what it held, if it held pages
  pub shelves_still : (entries : List Entry) → root_of new ≡ root_of old → firsts_of new ≡ firsts_of old
      → (IsHeld disk before old → disk.keeps after × (disk.content after ≡ disk.content before) × AreCached (pages_of disk before old) new.cache)
      → Shelves disk before old entries → Shelves disk after new entries
  shelves_still entries root firsts same shelves =
      let seen : 0 < (root_of old).pages → disk.content after ≡ disk.content before = λ some. (same (shelves.held some)).1 in
      let pages = same_pages root seen in
      let Of : List (List Entry) → Type 0 = λ ps. IsIndex (firsts_of new) ps in
      let By : List (List ℕ) → Type 0 = λ keys. IsIndex keys (pages_of disk before old) in
      record {
        index = subst Of (sym pages) (subst By (sym firsts) shelves.index);
        held = λ some.
            let held = shelves.held (subst (λ (r : Root). 0 < r.pages) root some) in
            let parts = same held in
            held_still root pages held parts.0 parts.1 parts.2;
        are = ap joined pages ∙ shelves.are;
      }

no_page : (number : ℕ) (page : List Entry) → Contains {X = ℕ × List Entry} [] (number, page) → ⊥
no_page number page there = let within = there.1 in omega arith

-- a shelf none of whose pages lies in memory
pub shelves_unread : {D : Type 0} (disk : Disk D) (device : D) (shelf : Shelf) (entries : List Entry) → shelf.cache.entries ≡ []
    → IsIndex (firsts_of shelf) (pages_of disk device shelf) → (0 < (root_of shelf).pages → disk.keeps device)
    → HoldsEntries (disk.content device) (root_of shelf) entries → Shelves disk device shelf entries
shelves_unread disk device shelf entries none index keeps holds = record {
  index = index;
  held = λ some. record {
    keeps = keeps some;
    sound = holds.sound;
    cached = λ number page there.
        let In : List (ℕ × List Entry) → Type 0 = λ es. Contains es (number, page) in absurd (no_page number page (subst In none there));
  };
  are = holds.are;
}

-- where a device keeps the disk model after reads, it did before, and the pages of the same root lie inside still
pub inside_still : {D : Type 0} (disk : Disk D) (before after : D) (old new : Root) → new ≡ old → Ran disk before after Same
    → (disk.keeps before → 512 * log_sector old ≤ length (disk.content before)) → disk.keeps after → 512 * log_sector new ≤ length (disk.content after)
inside_still disk before after old new root ran inside keeps =
    let kept = ran.had_kept keeps in
    let Of : Root → Type 0 = λ r. 512 * log_sector r ≤ length (disk.content after) in
    let Inside : List ℕ → Type 0 = λ content. 512 * log_sector old ≤ length content in
    subst Of (sym root) (subst Inside (sym (ran.seen kept)) (inside kept))

-- a read leaves what a device holds
pub ran_same : {D : Type 0} (disk : Disk D) (old new : D) → Ran disk old new Same → disk.keeps old → disk.keeps new × (disk.content new ≡ disk.content old)
ran_same disk old new ran keeps = (ran.kept keeps, ran.seen keeps)

pub length-pages_of : {D : Type 0} (disk : Disk D) (device : D) (shelf : Shelf) → length (pages_of disk device shelf) ≡ (root_of shelf).pages
length-pages_of disk device shelf = length-pages_at (root_of shelf).first_sector (root_of shelf).pages (disk.content device)
