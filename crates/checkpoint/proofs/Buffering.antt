-- Pages that are filled, in a writer's buffer and on the device.
use Rattle.std.proofs.Common.{arith, refl, ◌≡◌, ◌∙◌, sym, ap, subst, ◌<◌, ◌≤◌, ◌+◌, ◌-◌, ◌*◌, ◌++◌, ◌∷◌, [], ℕ, zero, suc, List, length, take, drop, slice_index, append_assoc}
use Rattle.std.proofs.lemmas.List.{length-append, length-take, get_or_append_left, get_or-append_right, ext_get_or, append-nil, take_at, nil_from_length}
use Rattle.device.specs.Disk.{Disk}
use Rattle.device.specs.Run.{Ran}
use Rattle.device.specs.Step.{Holds, Same, Torn}
use Rattle.device.proofs.Runs.{ran_then, ran_wider}
use Rattle.device.proofs.Steps.{torn_again, torn_wider}
use Rattle.gatelog.specs.Record.{part}
use Rattle.gatelog.proofs.Parts.{length-part, get-part}
use Rattle.pages.specs.Page.{Entry, entries_in, IsSound, SoundPage}
use Rattle.checkpoint.specs.declared.page_writer.PageWriter.{PageWriter}
use Rattle.checkpoint.specs.Pages.{pages_at, AreSound}
use Rattle.checkpoint.specs.Filling.{pages_of}
use Rattle.roots.specs.Install.{HasAt}
use Rattle.checkpoint.specs.PageWriter.{ArePages, IsFilled, HasPages, Advances}
use Rattle.checkpoint.proofs.Joining.{page_at, pages_at-more, sound_more}
use Rattle.roots.proofs.Staging.{HasAt-more, part-HasAt, look_then_torn, look_torn}

-- ---- where bytes stand

has_front : (a b : List ℕ) → HasAt 0 a (a ++ b)
has_front a b = record {
  inside = omega (arith, length-append a b);
  each = λ k lt. let place : 0 + k ≡ k = omega arith in ap (slice_index (a ++ b)) place ∙ get_or_append_left a b 0 k lt;
}

has_back : (at : ℕ) (a b : List ℕ) → at ≡ length a → HasAt at b (a ++ b)
has_back at a b is = record {
  inside = omega (arith, length-append a b, is);
  each = λ k lt.
      let place : at + k - at ≡ k = omega arith in
      get_or-append_right a b at (at + k) 0 (sym is) (omega arith) ∙ ap (slice_index b) place;
}

part_there : (at k : ℕ) (bytes c : List ℕ) → HasAt at bytes c → k + 32768 ≤ length bytes → part (at + k) 32768 c ≡ part k 32768 bytes
part_there at k bytes c has fits =
    let size : length (part (at + k) 32768 c) ≡ 32768 = length-part (at + k) 32768 c (omega (arith, has.inside, fits)) in
    ext_get_or 0 (part (at + k) 32768 c) (part k 32768 bytes)
    (size ∙ sym (length-part k 32768 bytes fits))
    (λ i lt.
    let here : i < 32768 = omega (arith, size, lt) in
    let place : at + k + i ≡ at + (k + i) = omega arith in
    get-part (at + k) 32768 i c here ∙ ap (slice_index c) place ∙ has.each (k + i) (omega (arith, here, fits))
    ∙ sym (get-part k 32768 i bytes here))

page_there : (first j : ℕ) (bytes c : List ℕ) → HasAt (512 * first) bytes c → 512 * j + 32768 ≤ length bytes
    → part (512 * (first + j)) 32768 c ≡ part (512 * j) 32768 bytes
page_there first j bytes c has fits =
    let place : 512 * (first + j) ≡ 512 * first + 512 * j = omega arith in
    ap (λ at. part at 32768 c) place ∙ part_there (512 * first) (512 * j) bytes c has fits

-- the pages of bytes that stand in a content
pages_there_from : (first n j : ℕ) (bytes c : List ℕ) → HasAt (512 * first) bytes c → 512 * j + 32768 * n ≤ length bytes
    → pages_at (first + j) n c ≡ pages_at j n bytes
pages_there_from first zero j bytes c has fits = refl
pages_there_from first (suc n) j bytes c has fits =
    let place : first + j + 64 ≡ first + (j + 64) = omega arith in
    ap (λ (page : List ℕ). entries_in page ∷ pages_at (first + j + 64) n c) (page_there first j bytes c has (omega (arith, fits)))
    ∙ ap (λ (pages : List (List Entry)). entries_in (part (512 * j) 32768 bytes) ∷ pages)
    (ap (λ at. pages_at at n c) place ∙ pages_there_from first n (j + 64) bytes c has (omega (arith, fits)))

sound_there_from : (first n j : ℕ) (bytes c : List ℕ) → HasAt (512 * first) bytes c → 512 * j + 32768 * n ≤ length bytes
    → AreSound j n bytes → AreSound (first + j) n c
sound_there_from first zero j bytes c has fits sound = tt
sound_there_from first (suc n) j bytes c has fits sound =
    let place : first + (j + 64) ≡ first + j + 64 = omega arith in (
      subst (λ (page : List ℕ). IsSound page) (sym (page_there first j bytes c has (omega (arith, fits)))) sound.0,
      subst (λ at. AreSound at n c) place (sound_there_from first n (j + 64) bytes c has (omega (arith, fits)) sound.1),
    )

pub pages_there : (first n : ℕ) (bytes c : List ℕ) → HasAt (512 * first) bytes c → 32768 * n ≤ length bytes → pages_at first n c ≡ pages_at 0 n bytes
pages_there first n bytes c has fits =
    let place : first ≡ first + 0 = omega arith in
    ap (λ at. pages_at at n c) place ∙ pages_there_from first n 0 bytes c has (omega (arith, fits))

pub sound_there : (first n : ℕ) (bytes c : List ℕ) → HasAt (512 * first) bytes c → 32768 * n ≤ length bytes → AreSound 0 n bytes → AreSound first n c
sound_there first n bytes c has fits sound =
    let place : first + 0 ≡ first = omega arith in
    subst (λ at. AreSound at n c) place (sound_there_from first n 0 bytes c has (omega (arith, fits)) sound)

-- ---- one page more

pub are_no_pages : ArePages [] []
are_no_pages = record { size = refl; sound = tt; are = refl }

pub are_pages_more : (bytes last : List ℕ) (pages : List (List Entry)) (page : List Entry) → ArePages bytes pages → length last ≡ 32768 → SoundPage last page
    → ArePages (bytes ++ last) (pages ++ page ∷ [])
are_pages_more bytes last pages page are size is =
    let n : ℕ = length pages in
    let all : List ℕ = bytes ++ last in
    let count : n + 1 ≡ length (pages ++ page ∷ []) = omega (arith, length-append pages (page ∷ [])) in
    let place : 512 * (0 + 64 * n) ≡ length bytes = omega (arith, are.size) in
    let here : page_at 0 n all ≡ last = part-HasAt (512 * (0 + 64 * n)) 32768 last all size (has_back (512 * (0 + 64 * n)) bytes last place) in
    let fits : 32768 * n ≤ length bytes = omega (arith, are.size) in
    let Sound : ℕ → Type 0 = λ m. AreSound 0 m all in
    record {
      size = omega (arith, length-append bytes last, are.size, size, count);
      sound = subst Sound count
          (sound_more 0 n all (sound_there 0 n bytes all (has_front bytes last) fits are.sound)
          (subst (λ (x : List ℕ). IsSound x) (sym here) is.sound));
      are = ap (λ m. pages_at 0 m all) (sym count) ∙ pages_at-more 0 n all
          ∙ ap (λ (x : List ℕ). pages_at 0 n all ++ entries_in x ∷ []) here
          ∙ ap (λ (es : List Entry). pages_at 0 n all ++ es ∷ []) is.are
          ∙ ap (λ (ps : List (List Entry)). ps ++ page ∷ []) (pages_there 0 n bytes all (has_front bytes last) fits ∙ are.are);
    }

-- ---- a writer

-- before the first page
pub filled_none : (writer : PageWriter) (content : List ℕ) → writer.filled ≡ 0 → 512 * writer.at ≤ length content → IsFilled writer writer.at [] content
filled_none writer content none inside = record {
  written = [];
  there = record { inside = omega (arith, inside); each = λ k lt. absurd (omega (arith, lt)) };
  place = omega arith;
  are = subst (λ n. ArePages (take (32768 * n) writer.buffer.items) []) (sym none) are_no_pages;
}

-- the pages in the buffer are written
pub filled_flushed : (old new : PageWriter) (first : ℕ) (pages : List (List Entry)) (a b bytes : List ℕ) → IsFilled old first pages a
    → bytes ≡ take (32768 * old.filled) old.buffer.items → length bytes ≡ 32768 * old.filled
    → Holds a (512 * old.at) bytes b → Torn (512 * old.at) (length bytes) a b
    → new.at ≡ old.at + 64 * old.filled → new.filled ≡ 0 → IsFilled new first pages b
filled_flushed old new first pages a b bytes filled is size holds torn at none =
    let written : List ℕ = filled.written in
    let Tears : ℕ → Type 0 = λ n. Torn n (length bytes) a b in
    let Stand : ℕ → Type 0 = λ n. Holds a n bytes b in
    let Are : List ℕ → Type 0 = λ x. ArePages x pages in
    let rest : take (32768 * new.filled) new.buffer.items ≡ [] = ap (λ n. take (32768 * n) new.buffer.items) none in
    record {
      written = written ++ bytes;
      there = HasAt-more (512 * first) written bytes a b filled.there (subst Tears filled.place torn) (subst Stand filled.place holds);
      place = omega (arith, at, filled.place, size, length-append written bytes);
      are = subst Are
          (ap (λ (x : List ℕ). written ++ x) (sym is) ∙ sym (append-nil (written ++ bytes)) ∙ ap (λ (x : List ℕ). (written ++ bytes) ++ x) (sym rest))
          filled.are;
    }

take_laid : (n m : ℕ) (front last rest : List ℕ) → length front ≡ n → length last ≡ m → take (n + m) (front ++ last ++ rest) ≡ front ++ last
take_laid n m front last rest front_size last_size =
    take_at (front ++ last) rest (n + m) (omega (arith, length-append front last, front_size, last_size))

-- a page is laid behind them
pub filled_more : (old new : PageWriter) (first : ℕ) (pages : List (List Entry)) (page : List Entry) (content last : List ℕ) → IsFilled old first pages content
    → length last ≡ 32768 → SoundPage last page → 32768 * old.filled ≤ length old.buffer.items → new.at ≡ old.at → new.filled ≡ old.filled + 1
    → new.buffer.items ≡ take (32768 * old.filled) old.buffer.items ++ last ++ drop (32768 * old.filled + length last) old.buffer.items
    → IsFilled new first (pages ++ page ∷ []) content
filled_more old new first pages page content last filled size is room at count put =
    let front : List ℕ = take (32768 * old.filled) old.buffer.items in
    let front_size : length front ≡ 32768 * old.filled = omega (arith, length-take (32768 * old.filled) old.buffer.items, room) in
    let both : 32768 * new.filled ≡ 32768 * old.filled + 32768 = omega (arith, count) in
    let now : take (32768 * new.filled) new.buffer.items ≡ front ++ last =
    ap (λ n. take n new.buffer.items) both
    ∙ ap (take (32768 * old.filled + 32768)) put
    ∙ take_laid (32768 * old.filled) 32768 front last (drop (32768 * old.filled + length last) old.buffer.items) front_size size
    in
    let Are : List ℕ → Type 0 = λ x. ArePages x (pages ++ page ∷ []) in
    record {
      written = filled.written;
      there = filled.there;
      place = omega (arith, at, filled.place);
      are = subst Are (append_assoc filled.written front last ∙ ap (λ (x : List ℕ). filled.written ++ x) (sym now))
          (are_pages_more (filled.written ++ front) last pages page filled.are size is);
    }

-- all of them are written
pub filled_all : (writer : PageWriter) (first : ℕ) (entries : List Entry) (content : List ℕ) → IsFilled writer first (pages_of entries) content → writer.filled ≡ 0
    → HasPages first entries content
filled_all writer first entries content filled none =
    let Are : List ℕ → Type 0 = λ x. ArePages x (pages_of entries) in
    record {
      bytes = filled.written;
      there = filled.there;
      are = subst Are
          (ap (λ n. filled.written ++ take (32768 * n) writer.buffer.items) none ∙ append-nil filled.written)
          filled.are;
    }

-- there are none, and so nothing has to be written
pub no_pages_there : (first : ℕ) (entries : List Entry) (content : List ℕ) → 512 * first ≤ length content → length (pages_of entries) ≡ 0
    → HasPages first entries content
no_pages_there first entries content inside none = record {
  bytes = [];
  there = record { inside = omega (arith, inside); each = λ k lt. absurd (omega (arith, lt)) };
  are = subst (λ (ps : List (List Entry)). ArePages [] ps) (sym (nil_from_length (pages_of entries) none)) are_no_pages;
}

-- ---- what writing leaves

-- a write inside of a range
pub torn_within : {D : Type 0} (disk : Disk D) (old new : D) (at n first count : ℕ) → first ≤ at → at + n ≤ first + count → Ran disk old new (Torn at n)
    → Ran disk old new (Torn first count)
torn_within disk old new at n first count low high run =
    ran_wider disk old new (Torn at n) (Torn first count) run (λ a b torn. torn_wider at n first count a b low high torn)

-- and one after writes in that range
pub torn_then : {D : Type 0} (disk : Disk D) (old mid new : D) (first count at n : ℕ) → first ≤ at → at + n ≤ first + count
    → Ran disk old mid (Torn first count) → Ran disk mid new (Torn at n) → Ran disk old new (Torn first count)
torn_then disk old mid new first count at n low high before run =
    ran_then disk old mid new (Torn first count) (Torn at n) (Torn first count) before run (λ a b torn. torn)
    (λ a b c one two. torn_again first count a b c one (torn_wider at n first count b c low high two))

-- and a look before it
pub look_then_within : {D : Type 0} (disk : Disk D) (old mid look new : D) (first count at n : ℕ) → first ≤ at → at + n ≤ first + count
    → Ran disk old mid (Torn first count) → Ran disk mid look Same → Ran disk look new (Torn at n) → Ran disk old new (Torn first count)
look_then_within disk old mid look new first count at n low high before same run =
    torn_then disk old mid new first count at n low high before (look_then_torn disk mid look new at n same run)

-- what is written by a writer that filled nothing when it began lies within its pages
pub pages_within : {D : Type 0} (disk : Disk D) (old mid look new : D) (start writer : PageWriter) → start.filled ≡ 0 → Advances start writer
    → Ran disk old mid (Torn (512 * start.at) (32768 * (start.filled + start.left))) → Ran disk mid look Same
    → Ran disk look new (Torn (512 * writer.at) (32768 * (writer.filled + writer.left))) → Ran disk old new (Torn (512 * start.at) (32768 * start.left))
pages_within disk old mid look new start writer none goes_on before same run =
    torn_within disk old new (512 * start.at) (32768 * (start.filled + start.left)) (512 * start.at) (32768 * start.left) (omega arith) (omega (arith, none))
    (look_then_within disk old mid look new (512 * start.at) (32768 * (start.filled + start.left)) (512 * writer.at) (32768 * (writer.filled + writer.left))
    (omega (arith, goes_on.at)) (omega (arith, goes_on.end)) before same run)

-- and where the walk could not go on
pub pages_looked : {D : Type 0} (disk : Disk D) (old mid look : D) (start : PageWriter) → start.filled ≡ 0
    → Ran disk old mid (Torn (512 * start.at) (32768 * (start.filled + start.left))) → Ran disk mid look Same
    → Ran disk old look (Torn (512 * start.at) (32768 * start.left))
pages_looked disk old mid look start none before same =
    torn_then disk old mid look (512 * start.at) (32768 * start.left) (512 * start.at) (32768 * start.left) (omega arith) (omega arith)
    (torn_within disk old mid (512 * start.at) (32768 * (start.filled + start.left)) (512 * start.at) (32768 * start.left) (omega arith) (omega (arith, none)) before)
    (look_torn disk mid look (512 * start.at) (32768 * start.left) same)
