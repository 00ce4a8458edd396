-- What a reader was told of entries with a prefix.
use Rattle.std.proofs.Common.{arith, ◌≡◌, refl, sym, ap, subst, ◌∙◌, ◌+◌, ◌-◌, ◌<◌, ◌≤◌, ◌⊎◌, inl, inr, ℕ, true, false, cond, Result, Ok, Err, OnErr, IsErrOf, List, [], ◌∷◌, ◌++◌, length, get_or, take, drop}
use Rattle.std.specs.Result.{IsErrAnd}
use Rattle.std.proofs.lemmas.List.{take_more, take_all, take-append-drop}
use Rattle.device.specs.Disk.{Disk}
use Rattle.pages.specs.Page.{Entry}
use Rattle.checkpoint.specs.Pages.{joined}
use Rattle.checkpoint.specs.Reader.{IsRefused}
use Rattle.checkpoint.specs.declared.reader.ReaderFault as reader
use Rattle.checkpoint.specs.declared.reader.ReaderFault.TheVariants as ReaderFault
use Rattle.checkpoint.proofs.Faults.{no_fault}
use Rattle.checkpoint.proofs.Hearing.{refused_more, refused_then}
use Rattle.shelf.specs.Faults.{of_reader_fault}
use Rattle.shelf.specs.declared.fault.ShelfFault.{ShelfFault as Fault}
use Rattle.shelf.specs.declared.fault.ShelfFault.TheVariants as ShelfFault
use Rattle.shelf.specs.declared.shelf.Shelf.{Shelf}
use Rattle.shelf.specs.Places.{is_at_or_below, may_begin, IsSplit}
use Rattle.shelf.specs.Prefix.{begins, beginning}
use Rattle.shelf.specs.Shelf.{root_of, firsts_of, pages_of, Shelves}
use Rattle.shelf.proofs.Holding.{length-pages_of}
use Rattle.shelf.proofs.Places.{range_of}
use Rattle.shelf.proofs.Ranging.{beginning-append, pages_from, range_more, range_front}

-- ---- faults of a reader

err_same : {T E : Type 0} {a b : E} → ◌≡◌ {A = Result T E} (Err a) (Err b) → a ≡ b
err_same told = cc

pub an_entry : (f : reader.ReaderFault) → ShelfFault.Entry ≡ of_reader_fault f → ReaderFault.Entry ≡ f
an_entry ReaderFault.Entry is = refl
an_entry ReaderFault.Memory is = cc

pub told_by : {T : Type 0} (r : Result T Fault) (f : reader.ReaderFault) → IsErrAnd r (λ e. e ≡ of_reader_fault f) → OnErr r (IsErrOf r ShelfFault.Entry ⊎ IsErrOf r ShelfFault.Memory)
told_by (Ok x) f passed = tt
told_by (Err e) ReaderFault.Entry passed = inl (ap (λ x. Err x) passed)
told_by (Err e) ReaderFault.Memory passed = inr (ap (λ x. Err x) passed)

-- when out of memory no other fault is told
pub no_want : {T : Type 0} (r : Result T Fault) (fault : Fault) → (fault ≡ ShelfFault.Memory → ⊥) → IsErrAnd r (λ e. e ≡ ShelfFault.Memory) → IsErrOf r fault → ⊥
no_want (Ok x) fault other passed is = passed
no_want (Err e) fault other passed is = other (sym (err_same is) ∙ passed)

pub never_page : {T : Type 0} (r : Result T Fault) → OnErr r (IsErrOf r ShelfFault.Entry ⊎ IsErrOf r ShelfFault.Memory) → IsErrOf r ShelfFault.Page → ⊥
never_page (Ok x) only is = no_fault is
never_page (Err e) (inl entry) is = let never : ShelfFault.Entry ≡ ShelfFault.Page = sym (err_same entry) ∙ err_same is in cc
never_page (Err e) (inr memory) is = let never : ShelfFault.Memory ≡ ShelfFault.Page = sym (err_same memory) ∙ err_same is in cc

pub never_device : {T : Type 0} (r : Result T Fault) → OnErr r (IsErrOf r ShelfFault.Entry ⊎ IsErrOf r ShelfFault.Memory) → IsErrOf r ShelfFault.Device → ⊥
never_device (Ok x) only is = no_fault is
never_device (Err e) (inl entry) is = let never : ShelfFault.Entry ≡ ShelfFault.Device = sym (err_same entry) ∙ err_same is in cc
never_device (Err e) (inr memory) is = let never : ShelfFault.Memory ≡ ShelfFault.Device = sym (err_same memory) ∙ err_same is in cc

-- ---- entries

-- one entry, which begins so, or does not
pub one_beginning : (prefix : List ℕ) (entry : Entry) → begins prefix entry.0 ≡ true → beginning prefix (entry ∷ []) ≡ entry ∷ []
one_beginning prefix entry h = ap (λ b. cond b (entry ∷ []) []) h

pub none_beginning : (prefix : List ℕ) (entry : Entry) → begins prefix entry.0 ≡ false → beginning prefix (entry ∷ []) ≡ []
none_beginning prefix entry h = ap (λ b. cond b (entry ∷ []) []) h

pub refused_one : {R : Type 0} (told : R → R → List Entry → Type 0) (refuses : R → Entry → Type 0) → ((reader : R) → told reader reader [])
    → (reader : R) (prefix : List ℕ) (entry : Entry) → begins prefix entry.0 ≡ true → refuses reader entry → IsRefused told refuses reader (beginning prefix (entry ∷ []))
refused_one told refuses told_none reader prefix entry h refused = record {
  before = [];
  entry = entry;
  after = [];
  are = one_beginning prefix entry h;
  reader = reader;
  was_told = told_none reader;
  refused = refused;
}

-- ---- along a page

entry_is : (page : List Entry) (i : ℕ) (key cell : List ℕ) → ((d : Entry) → key ≡ (get_or page i d).0) → ((d : Entry) → cell ≡ (get_or page i d).1)
    → ◌≡◌ {A = Entry} (key, cell) (get_or page i (key, cell))
entry_is page i key cell key_is cell_is = λ j. (key_is (key, cell) j, cell_is (key, cell) j)

taken : (page : List Entry) (prefix : List ℕ) (i : ℕ) (key cell : List ℕ) → i < length page → ((d : Entry) → key ≡ (get_or page i d).0) → ((d : Entry) → cell ≡ (get_or page i d).1)
    → beginning prefix (take i page) ++ beginning prefix ((key, cell) ∷ []) ≡ beginning prefix (take (i + 1) page)
taken page prefix i key cell inside key_is cell_is =
    sym (beginning-append prefix (take i page) ((key, cell) ∷ []))
    ∙ ap (λ (e : Entry). beginning prefix (take i page ++ e ∷ [])) (entry_is page i key cell key_is cell_is)
    ∙ ap (beginning prefix) (sym (take_more page i (key, cell) inside))

module _ {R : Type 0} (told : R → R → List Entry → Type 0)
    (told_then : (old mid new : R) (front back : List Entry) → told old mid front → told mid new back → told old new (front ++ back)) where
  pub told_more : (start mid new : R) (page : List Entry) (prefix : List ℕ) (i : ℕ) (key cell : List ℕ) → i < length page
      → ((d : Entry) → key ≡ (get_or page i d).0) → ((d : Entry) → cell ≡ (get_or page i d).1)
      → told start mid (beginning prefix (take i page)) → told mid new (beginning prefix ((key, cell) ∷ [])) → told start new (beginning prefix (take (i + 1) page))
  told_more start mid new page prefix i key cell inside key_is cell_is before here =
      let Told : List Entry → Type 0 = λ es. told start new es in
      subst Told (taken page prefix i key cell inside key_is cell_is) (told_then start mid new (beginning prefix (take i page)) (beginning prefix ((key, cell) ∷ [])) before here)

  pub refused_at : (refuses : R → Entry → Type 0) (start mid : R) (page : List Entry) (prefix : List ℕ) (i : ℕ) (key cell : List ℕ) → i < length page
      → ((d : Entry) → key ≡ (get_or page i d).0) → ((d : Entry) → cell ≡ (get_or page i d).1)
      → told start mid (beginning prefix (take i page)) → IsRefused told refuses mid (beginning prefix ((key, cell) ∷ [])) → IsRefused told refuses start (beginning prefix page)
  refused_at refuses start mid page prefix i key cell inside key_is cell_is before refused =
      let front : List Entry = beginning prefix (take i page) in
      let here : List Entry = beginning prefix ((key, cell) ∷ []) in
      let rest : List Entry = beginning prefix (drop (i + 1) page) in
      let all : (front ++ here) ++ rest ≡ beginning prefix page =
      ap (λ (es : List Entry). es ++ rest) (taken page prefix i key cell inside key_is cell_is)
      ∙ sym (beginning-append prefix (take (i + 1) page) (drop (i + 1) page)) ∙ ap (beginning prefix) (take-append-drop (i + 1) page)
      in
      let Refused : List Entry → Type 0 = λ es. IsRefused told refuses start es in
      subst Refused all (refused_more told refuses start (front ++ here) rest (refused_then told refuses told_then start mid front here before refused))

pub told_all : {R : Type 0} (told : R → R → List Entry → Type 0) (start now : R) (page : List Entry) (prefix : List ℕ) (n : ℕ) → length page ≤ n
    → told start now (beginning prefix (take n page)) → told start now (beginning prefix page)
told_all told start now page prefix n all before =
    let Told : List Entry → Type 0 = λ es. told start now (beginning prefix es) in subst Told (take_all n page all) before

-- ---- along a range of pages

module _ {R : Type 0} (told : R → R → List Entry → Type 0)
    (told_then : (old mid new : R) (front back : List Entry) → told old mid front → told mid new back → told old new (front ++ back)) where
  pub told_page : (start mid new : R) (pages seen : List (List Entry)) (first n : ℕ) (prefix : List ℕ) → seen ≡ pages → first + n < length pages
      → told start mid (beginning prefix (joined (pages_from pages first n))) → told mid new (beginning prefix (get_or seen (first + n) []))
      → told start new (beginning prefix (joined (pages_from pages first (n + 1))))
  told_page start mid new pages seen first n prefix same inside before here =
      let Told : List Entry → Type 0 = λ es. told start new es in
      let Here : List (List Entry) → Type 0 = λ ps. told mid new (beginning prefix (get_or ps (first + n) [])) in
      subst Told (range_more pages first n prefix inside)
      (told_then start mid new (beginning prefix (joined (pages_from pages first n))) (beginning prefix (get_or pages (first + n) [])) before (subst Here same here))

  pub refused_page : (refuses : R → Entry → Type 0) (start mid : R) (pages seen : List (List Entry)) (first n count : ℕ) (prefix : List ℕ) → seen ≡ pages
      → first + n < length pages → n + 1 ≤ count → told start mid (beginning prefix (joined (pages_from pages first n)))
      → IsRefused told refuses mid (beginning prefix (get_or seen (first + n) [])) → IsRefused told refuses start (beginning prefix (joined (pages_from pages first count)))
  refused_page refuses start mid pages seen first n count prefix same inside within before refused =
      let front : List Entry = beginning prefix (joined (pages_from pages first n)) in
      let here : List Entry = beginning prefix (get_or pages (first + n) []) in
      let rest = range_front pages first (n + 1) count prefix within in
      let Refused : List Entry → Type 0 = λ es. IsRefused told refuses start es in
      let Here : List (List Entry) → Type 0 = λ ps. IsRefused told refuses mid (beginning prefix (get_or ps (first + n) [])) in
      subst Refused (ap (λ (es : List Entry). es ++ rest.0) (range_more pages first n prefix inside) ∙ rest.1)
      (refused_more told refuses start (front ++ here) rest.0 (refused_then told refuses told_then start mid front here before (subst Here same refused)))

-- the pages between the two splits show all that begins so
pub range_shown : {D : Type 0} (disk : Disk D) (device : D) (shelf : Shelf) (entries : List Entry) (prefix : List ℕ) (low high start count : ℕ)
    → Shelves disk device shelf entries → IsSplit (is_at_or_below prefix) (firsts_of shelf) low → IsSplit (may_begin prefix) (firsts_of shelf) high
    → low ≤ (root_of shelf).pages → high ≤ (root_of shelf).pages → start ≡ low - 1 → count ≡ high - start
    → beginning prefix (joined (pages_from (pages_of disk device shelf) start count)) ≡ beginning prefix entries
range_shown disk device shelf entries prefix low high start count shelves lows highs low_bound high_bound start_is count_is =
    let size = length-pages_of disk device shelf in
    ap (λ n. beginning prefix (joined (pages_from (pages_of disk device shelf) start n))) count_is
    ∙ sym (range_of (firsts_of shelf) (pages_of disk device shelf) shelves.index prefix low high start lows highs
    (omega (arith, low_bound, size)) (omega (arith, high_bound, size)) start_is)
    ∙ ap (beginning prefix) shelves.are
