-- What stands whole under a key in the pages of a shelf.
use Rattle.std.proofs.Common.{arith, ◌≡◌, ◌∙◌, sym, ap, subst, refl, ⊎_elim, ◌<◌, ◌≤◌, ◌+◌, ◌*◌, ℕ, min, Bool, true, false, List, [], ◌∷◌, ◌++◌, take, drop, length, Option, Some, None, is_some, cond}
use Rattle.std.proofs.lemmas.Bool.{cases_lt}
use Rattle.std.proofs.lemmas.Option.{same_Some}
use Rattle.std.proofs.lemmas.Grind.{div_ceil_times}
use Rattle.std.proofs.lemmas.List.{take-append-drop, take-take, drop-take, take_all, length-take}
use Rattle.std.specs.FinMap.{find}
use Rattle.std.specs.Ordering.{is_eq}
use Rattle.byteorder.specs.Endian.{big_bytes}
use Rattle.device.specs.Disk.{Disk}
use Rattle.device.specs.Run.{Ran}
use Rattle.device.specs.Step.{Same}
use Rattle.pages.proofs.Searching.{same_key as tied_key}
use Rattle.pages.specs.Page.{Entry, bytes_cmp}
use Rattle.roots.specs.declared.root.Root.{Root}
use Rattle.shelf.specs.declared.shelf.Shelf.{Shelf}
use Rattle.shelf.specs.Shelf.{root_of, Shelves}
use Rattle.shelf.proofs.Staying.{HoldsAsBefore, shelves_stay, shelves_ran}
use Rattle.chunks.specs.Chunks.{count_of, stem_of, cuts, cut_if, cut, HasChunks, AreCuttable}
use Rattle.chunks.specs.Whole.{key_by, chunk_key, first_key, HasAdded, Wholes}
use Rattle.chunks.proofs.Ascending.{Ascends}
use Rattle.chunks.proofs.Found.{found_chunk, found_no_chunk, found_past, found_uncut, tied}

no_stem : (s : Option (List ℕ)) → is_some s ≡ false → s ≡ None
no_stem None is = refl
no_stem (Some stem) is = cc

some_stem : (s : Option (List ℕ)) → is_some s ≡ true → (stem : List ℕ) × (s ≡ Some stem)
some_stem None is = cc
some_stem (Some stem) is = (stem, refl)

take_on : (a b : ℕ) (xs : List ℕ) → take (a + b) xs ≡ take a xs ++ take b (drop a xs)
take_on a b xs = sym (take-append-drop a (take (a + b) xs)) ∙ (λ i. take-take a (a + b) xs (omega arith) i ++ drop-take a b xs i)

-- what is found can be cut
found_can : (key stem : List ℕ) → stem_of key ≡ Some stem → (es : List Entry) → AreCuttable es → (v : List ℕ) → find bytes_cmp key es ≡ Some v
    → (0 < length v) × (length v ≤ 8000 * 65536)
found_can key stem is [] can v found = cc
found_can key stem is (e ∷ es) can v found =
    elim (is_eq (bytes_cmp key e.0)) as (λ b. is_eq (bytes_cmp key e.0) ≡ b → cond b (Some e.1) (find bytes_cmp key es) ≡ Some v → (0 < length v) × (length v ≤ 8000 * 65536)) [
      | true ↦ λ tie found.
          let same : key ≡ e.0 = tied_key key e.0 (tied (bytes_cmp key e.0) tie) in
          let Can : Option (List ℕ) → Type 0 = λ s. HasChunks s e in
          let has = subst Can (ap stem_of (sym same) ∙ is) can.0 in
          let Value : List ℕ → Type 0 = λ x. (0 < length x) × (length x ≤ 8000 * 65536) in
          subst Value (same_Some e.1 v found) has
      | false ↦ λ other found. found_can key stem is es can.1 v found
    ] refl found

-- So many chunks of the value under a key are these bytes.
pub record IsFront (es : List Entry) (key : List ℕ) (n : ℕ) (bytes : List ℕ) : Type 0 where
  pub value : List ℕ
  pub found : find bytes_cmp key es ≡ Some value
  pub are : bytes ≡ take (8000 * n) value

module _ (es : List Entry) (can : AreCuttable es) (ascends : Ascends (cuts es)) (key stem : List ℕ) (is : stem_of key ≡ Some stem) where
  chunk_is : (n : ℕ) → chunk_key key n ≡ stem ++ big_bytes 2 n
  chunk_is n = ap (λ (s : Option (List ℕ)). key_by s key n) is

  at_chunk : (n : ℕ) (found : Option (List ℕ)) → find bytes_cmp (chunk_key key n) (cuts es) ≡ found → find bytes_cmp (stem ++ big_bytes 2 n) (cuts es) ≡ found
  at_chunk n found there = ap (λ (k : List ℕ). find bytes_cmp k (cuts es)) (sym (chunk_is n)) ∙ there

  -- Without a first chunk there is no value.
  pub no_first : find bytes_cmp (chunk_key key 0) (cuts es) ≡ None → find bytes_cmp key es ≡ None
  no_first none = step (find bytes_cmp key es) refl
    where
      step : (o : Option (List ℕ)) → find bytes_cmp key es ≡ o → o ≡ None
      step None at = refl
      step (Some v) at =
          let some = found_can key stem is es can v at in
          let bounds = div_ceil_times (length v) 8000 (omega arith) in
          let there = found_chunk stem 0 (omega arith) key is es v can at (omega (arith, some.0, bounds.0)) in
          let never : Some (take 8000 (drop (8000 * 0) v)) ≡ None = sym there ∙ at_chunk 0 None none in
          cc

  -- The first chunk is the front of the value.
  pub with_first : (cell : List ℕ) → find bytes_cmp (chunk_key key 0) (cuts es) ≡ Some cell → IsFront es key 1 cell
  with_first cell there = step (find bytes_cmp key es) refl
    where
      step : (o : Option (List ℕ)) → find bytes_cmp key es ≡ o → IsFront es key 1 cell
      step None at =
          let never : None ≡ Some cell = sym (found_no_chunk stem 0 (omega arith) key is es can at) ∙ at_chunk 0 (Some cell) there in
          cc
      step (Some v) at =
          let some = found_can key stem is es can v at in
          let bounds = div_ceil_times (length v) 8000 (omega arith) in
          let first = found_chunk stem 0 (omega arith) key is es v can at (omega (arith, some.0, bounds.0)) in
          record { value = v; found = at; are = same_Some cell (take 8000 v) (sym (at_chunk 0 (Some cell) there) ∙ first) }

  module _ (n : ℕ) (bytes : List ℕ) (front : IsFront es key n bytes) where
    abbrev v : List ℕ
    v = front.value

    size : length bytes ≡ min (8000 * n) (length v)
    size = ap length front.are ∙ length-take (8000 * n) v

    -- Fewer bytes are all.
    pub short_is : length bytes < 8000 * n → find bytes_cmp key es ≡ Some bytes
    short_is less = front.found ∙ ap (λ (x : List ℕ). Some x) (sym (front.are ∙ take_all (8000 * n) v (omega (arith, size, less))))

    -- All chunks are all.
    pub all_is : 65536 ≤ n → find bytes_cmp key es ≡ Some bytes
    all_is most =
        let few = found_can key stem is es can v front.found in
        front.found ∙ ap (λ (x : List ℕ). Some x) (sym (front.are ∙ take_all (8000 * n) v (omega (arith, few.1, most))))

    module _ (full : 8000 * n ≤ length bytes) (few : n < 65536) where
      -- Where there is no chunk more, they are all.
      pub none_more : find bytes_cmp (chunk_key key n) (cuts es) ≡ None → find bytes_cmp key es ≡ Some bytes
      none_more none =
          ⊎_elim
          (λ less.
          let there = found_chunk stem n few key is es v can front.found less in
          let never : Some (take 8000 (drop (8000 * n) v)) ≡ None = sym there ∙ at_chunk n None none in
          cc)
          (λ all.
          let bounds = div_ceil_times (length v) 8000 (omega arith) in
          front.found ∙ ap (λ (x : List ℕ). Some x) (sym (front.are ∙ take_all (8000 * n) v (omega (arith, bounds.0, all)))))
          (cases_lt n (count_of v))

      -- And where there is one, it goes on.
      pub one_more : (cell more : List ℕ) → find bytes_cmp (chunk_key key n) (cuts es) ≡ Some cell → more ≡ bytes ++ cell → IsFront es key (n + 1) more
      one_more cell more there added =
          ⊎_elim
          (λ less.
          let found = found_chunk stem n few key is es v can front.found less in
          let cells : cell ≡ take 8000 (drop (8000 * n) v) = same_Some cell (take 8000 (drop (8000 * n) v)) (sym (at_chunk n (Some cell) there) ∙ found) in
          let next : 8000 * n + 8000 ≡ 8000 * (n + 1) = omega arith in
          let are : more ≡ take (8000 * (n + 1)) v = added ∙ (λ i. front.are i ++ cells i) ∙ sym (take_on (8000 * n) 8000 v) ∙ ap (λ (k : ℕ). take k v) next in
          record { value = v; found = front.found; are = are })
          (λ all.
          let none = found_past stem n few key is es v can ascends front.found all in
          let never : None ≡ Some cell = sym none ∙ at_chunk n (Some cell) there in
          cc)
          (cases_lt n (count_of v))

-- ---- by the truth whether the format cuts

module _ (es : List Entry) (key first : List ℕ) where
  at_key : (c : Bool) → first ≡ first_key c key → (c ≡ true → stem_of key ≡ None) → (found : Option (List ℕ)) → found ≡ find bytes_cmp first (cut_if c es) → found ≡ find bytes_cmp key es
  at_key false is uncut found there = there ∙ ap (λ (k : List ℕ). find bytes_cmp k es) is
  at_key true is uncut found there =
      there ∙ ap (λ (k : List ℕ). find bytes_cmp k (cuts es)) (is ∙ ap (λ (s : Option (List ℕ)). key_by s key 0) (uncut refl)) ∙ found_uncut key (uncut refl) es

  -- Where the value is not cut, it is there as it is.
  pub whole_there : (c : Bool) → first ≡ first_key c key → (c ≡ true → is_some (stem_of key) ≡ false) → (cell : List ℕ) → Some cell ≡ find bytes_cmp first (cut_if c es)
      → Some cell ≡ find bytes_cmp key es
  whole_there c is uncut cell there = at_key c is (λ cuts. no_stem (stem_of key) (uncut cuts)) (Some cell) there

  pub none_whole : AreCuttable es → (c : Bool) → Ascends (cut_if c es) → first ≡ first_key c key → None ≡ find bytes_cmp first (cut_if c es) → None ≡ find bytes_cmp key es
  none_whole can false ascends is there = there ∙ ap (λ (k : List ℕ). find bytes_cmp k es) is
  none_whole can true ascends is there = step (stem_of key) refl
    where
      step : (s : Option (List ℕ)) → stem_of key ≡ s → None ≡ find bytes_cmp key es
      step None uncut = at_key true is (λ cutting. uncut) None there
      step (Some stem) cut_is = sym (no_first es can ascends key stem cut_is (ap (λ (k : List ℕ). find bytes_cmp k (cuts es)) (sym is) ∙ sym there))

module _ (c : Bool) (es : List Entry) (can : AreCuttable es) (ascends : Ascends (cut_if c es)) (key : List ℕ) (cutting : c ≡ true) (cut_is : is_some (stem_of key) ≡ true) where
  up : Ascends (cuts es)
  up = let In : Bool → Type 0 = λ b. Ascends (cut_if b es) in subst In cutting ascends

  at_cuts : (k : List ℕ) (found : Option (List ℕ)) → find bytes_cmp k (cut_if c es) ≡ found → find bytes_cmp k (cuts es) ≡ found
  at_cuts k found = let In : Bool → Type 0 = λ b. find bytes_cmp k (cut_if b es) ≡ found in subst In cutting

  has : (s : List ℕ) × (stem_of key ≡ Some s)
  has = some_stem (stem_of key) cut_is

  pub first_front : (first cell : List ℕ) → first ≡ first_key c key → Some cell ≡ find bytes_cmp first (cut_if c es) → IsFront es key 1 cell
  first_front first cell is there =
      let is_first : first ≡ chunk_key key 0 = is ∙ ap (λ (b : Bool). first_key b key) cutting in
      with_first es can up key has.0 has.1 cell (ap (λ (k : List ℕ). find bytes_cmp k (cuts es)) (sym is_first) ∙ at_cuts first (Some cell) (sym there))

  module _ (n : ℕ) (bytes : List ℕ) (front : IsFront es key n bytes) where
    pub short_found : length bytes < 8000 * n → Some bytes ≡ find bytes_cmp key es
    short_found less = sym (short_is es can up key has.0 has.1 n bytes front less)

    pub all_found : 65536 ≤ n → Some bytes ≡ find bytes_cmp key es
    all_found most = sym (all_is es can up key has.0 has.1 n bytes front most)

    module _ (full : 8000 * n ≤ length bytes) (few : n < 65536) (more : List ℕ) where
      pub last_found : (added : Bool) → added ≡ false → HasAdded (find bytes_cmp (chunk_key key n) (cut_if c es)) bytes more added → Some more ≡ find bytes_cmp key es
      last_found false is a =
          ap (λ (x : List ℕ). Some x) a.1 ∙ sym (none_more es can up key has.0 has.1 n bytes front full few (at_cuts (chunk_key key n) None a.0))
      last_found true is a = cc

      pub next_front : (added : Bool) → added ≡ true → HasAdded (find bytes_cmp (chunk_key key n) (cut_if c es)) bytes more added → IsFront es key (n + 1) more
      next_front true is a = one_more es can up key has.0 has.1 n bytes front full few a.0 more (at_cuts (chunk_key key n) (Some a.0) a.1) a.2
      next_front false is a = cc

-- ---- in the pages of a shelf

module _ {D : Type 0} (disk : Disk D) where
  pub pages_ascend : (device : D) (shelf : Shelf) (entries : List Entry) → Shelves disk device shelf entries → Ascends entries
  pages_ascend device shelf entries shelves = subst Ascends shelves.are shelves.index.ascending

  -- whole entries stay where the entries do
  pub wholes_still : (before after : D) (old new : Shelf) → ((entries : List Entry) → Shelves disk before old entries → Shelves disk after new entries) → root_of new ≡ root_of old
      → (entries : List Entry) → Wholes disk before old entries → Wholes disk after new entries
  wholes_still before after old new still root entries wholes =
      let As : Root → Type 0 = λ r. Shelves disk after new (cut r.label.format entries) in
      record { can = wholes.can; shelves = subst As (sym root) (still (cut (root_of old).label.format entries) wholes.shelves) }

  pub wholes_stay : (shelf : Shelf) (old new : D) (entries : List Entry) → (0 < (root_of shelf).pages → HoldsAsBefore disk shelf old new) → Wholes disk old shelf entries → Wholes disk new shelf entries
  wholes_stay shelf old new entries as_before wholes = record { can = wholes.can; shelves = shelves_stay disk shelf old new (cut (root_of shelf).label.format entries) as_before wholes.shelves }

  pub wholes_ran : (shelf : Shelf) (old new : D) (entries : List Entry) → Ran disk old new Same → Wholes disk old shelf entries → Wholes disk new shelf entries
  wholes_ran shelf old new entries ran wholes = record { can = wholes.can; shelves = shelves_ran disk shelf old new (cut (root_of shelf).label.format entries) ran wholes.shelves }

-- ---- where a value is not cut

pub uncut_found : (c : Bool) (key : List ℕ) (es : List Entry) → (c ≡ true → stem_of key ≡ None) → find bytes_cmp (first_key c key) (cut_if c es) ≡ find bytes_cmp key es
uncut_found false key es uncut = refl
uncut_found true key es uncut =
    ap (λ (s : Option (List ℕ)). find bytes_cmp (key_by s key 0) (cuts es)) (uncut refl) ∙ found_uncut key (uncut refl) es
