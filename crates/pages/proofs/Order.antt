-- Ascending keys, by place and along the list.
use Rattle.std.proofs.Common.{arith, ◌≡◌, ◌≢◌, ◌∙◌, sym, ap, subst, refl, ◌<◌, ◌≤◌, ◌+◌, ℕ, zero, suc, true, List, [], ◌∷◌, length, get_or, IsTrue, ◌&&◌}
use Rattle.std.proofs.lemmas.Bool.{and_parts}
use Rattle.std.specs.FinMap.{is_sorted}
use Rattle.std.specs.FinMap.Entries.{below_all}
use Rattle.std.specs.Ordering.{is_lt}
use Rattle.std.specs.declared.cmp.Ordering.{Ordering}
use Rattle.std.specs.declared.cmp.Ordering.TheVariants.{Less, Equal, Greater}
use Rattle.pages.specs.Building.{IsBuilt}
use Rattle.pages.specs.Page.{Entry, bytes_cmp, count, key_at, entry_at, entries_in, HasOrder, SoundPage}
use Rattle.pages.proofs.Entries.{length-entries_in, get_or-entries_in}
use Rattle.pages.proofs.Searching.{keys_rise}

abbrev AllAbove : List ℕ → List Entry → Type 0
AllAbove key entries = (i : ℕ) (d : Entry) → i < length entries → bytes_cmp key (get_or entries i d).0 ≡ Less

abbrev AllRise : List Entry → Type 0
AllRise entries = (i j : ℕ) (d : Entry) → i < j → j < length entries → bytes_cmp (get_or entries i d).0 (get_or entries j d).0 ≡ Less

less_from_test : (o : Ordering) → is_lt o ≡ true → o ≡ Less
less_from_test Less h = refl
less_from_test Equal h = cc
less_from_test Greater h = cc

above_from_test : (key : List ℕ) (entries : List Entry) → below_all bytes_cmp key entries ≡ true → AllAbove key entries
above_from_test key [] h i d l = absurd (omega arith)
above_from_test key (entry ∷ entries) h zero d l =
    less_from_test (bytes_cmp key entry.0) (and_parts (is_lt (bytes_cmp key entry.0)) (below_all bytes_cmp key entries) h).0
above_from_test key (entry ∷ entries) h (suc i) d l =
    above_from_test key entries (and_parts (is_lt (bytes_cmp key entry.0)) (below_all bytes_cmp key entries) h).1 i d (omega arith)

test_from_above : (key : List ℕ) (entries : List Entry) → AllAbove key entries → below_all bytes_cmp key entries ≡ true
test_from_above key [] above = refl
test_from_above key (entry ∷ entries) above =
    ap (λ o. is_lt o && below_all bytes_cmp key entries) (above 0 entry (omega arith))
    ∙ test_from_above key entries (λ i d l. above (suc i) d (omega arith))

rise_from_sorted : (entries : List Entry) → is_sorted bytes_cmp entries ≡ true → AllRise entries
rise_from_sorted [] h i j d l m = absurd (omega arith)
rise_from_sorted (entry ∷ entries) h i zero d l m = absurd (omega arith)
rise_from_sorted (entry ∷ entries) h zero (suc j) d l m =
    above_from_test entry.0 entries (and_parts (below_all bytes_cmp entry.0 entries) (is_sorted bytes_cmp entries) h).0 j d (omega arith)
rise_from_sorted (entry ∷ entries) h (suc i) (suc j) d l m =
    let rest = (and_parts (below_all bytes_cmp entry.0 entries) (is_sorted bytes_cmp entries) h).1 in
    rise_from_sorted entries rest i j d (omega arith) (omega arith)

sorted_from_rise : (entries : List Entry) → AllRise entries → is_sorted bytes_cmp entries ≡ true
sorted_from_rise [] rise = refl
sorted_from_rise (entry ∷ entries) rise =
    ap (λ b. b && is_sorted bytes_cmp entries) (test_from_above entry.0 entries (λ i d l. rise 0 (suc i) d (omega arith) (omega arith)))
    ∙ sorted_from_rise entries (λ i j d l m. rise (suc i) (suc j) d (omega arith) (omega arith))

pub order_from_sorted : (bytes : List ℕ) → is_sorted bytes_cmp (entries_in bytes) ≡ true → HasOrder bytes
order_from_sorted bytes sorted i l =
    let d = entry_at bytes i in
    let less = rise_from_sorted (entries_in bytes) sorted i (i + 1) d (omega arith) (omega (arith, length-entries_in bytes)) in
    ap (λ (e : Entry). bytes_cmp e.0 (key_at (i + 1) bytes)) (sym (get_or-entries_in bytes i d (omega arith)))
    ∙ ap (λ (e : Entry). bytes_cmp (get_or (entries_in bytes) i d).0 e.0) (sym (get_or-entries_in bytes (i + 1) d l))
    ∙ less

pub sorted_from_order : (bytes : List ℕ) → HasOrder bytes → IsTrue (is_sorted bytes_cmp (entries_in bytes))
sorted_from_order bytes order = sorted_from_rise (entries_in bytes) (λ i j d l m.
    let inside : j < count bytes = omega (arith, length-entries_in bytes) in
    ap (λ (e : Entry). bytes_cmp e.0 (get_or (entries_in bytes) j d).0) (get_or-entries_in bytes i d (omega arith))
    ∙ ap (λ (e : Entry). bytes_cmp (key_at i bytes) e.0) (get_or-entries_in bytes j d inside)
    ∙ keys_rise bytes order j i l inside)

no_entries : (entries : List Entry) → length entries ≡ 0 → entries ≡ []
no_entries [] e = refl
no_entries (entry ∷ entries) e = absurd (omega arith)

pub sound_built : (bytes : List ℕ) (entries : List Entry) → IsBuilt bytes → entries_in bytes ≡ entries → entries ≢ []
    → is_sorted bytes_cmp entries ≡ true → SoundPage bytes entries
sound_built bytes entries built are some sorted = record {
  sound = record {
    mark = built.mark;
    slots = record {
      some = elim (count bytes) as (λ n. count bytes ≡ n → 1 ≤ n) [
        | zero ↦ λ none. absurd (some (no_entries entries (ap length (sym are) ∙ length-entries_in bytes ∙ none)))
        | suc n ↦ λ is. omega arith
      ] refl;
      zeros = built.zeros;
      each = built.each;
    };
    cells = built.cells;
    order = order_from_sorted bytes (ap (is_sorted bytes_cmp) are ∙ sorted);
    free = built.free;
  };
  are = are;
}

pub sound_some : (bytes : List ℕ) (entries : List Entry) → SoundPage bytes entries → entries ≢ []
sound_some bytes entries page none =
    let empty : length entries ≡ 0 = ap length none in
    absurd (omega (arith, length-entries_in bytes, ap length page.are, page.sound.slots.some))

pub sound_ascends : (bytes : List ℕ) (entries : List Entry) → SoundPage bytes entries → IsTrue (is_sorted bytes_cmp entries)
sound_ascends bytes entries page = subst (λ (es : List Entry). IsTrue (is_sorted bytes_cmp es)) page.are (sorted_from_order bytes page.sound.order)
