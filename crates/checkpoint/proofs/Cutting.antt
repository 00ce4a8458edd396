-- First keys, by the room that is left.
use Rattle.std.proofs.Common.{arith, ◌≡◌, refl, sym, ap, subst, ◌∙◌, ◌+◌, ◌-◌, ◌<◌, ◌≤◌, ℕ, Bool, true, false, cond, List, [], ◌∷◌, ◌++◌, map, length, length-append, append_assoc}
use Rattle.std.proofs.lemmas.Bool.Decides.{nat_tests}
use Rattle.std.proofs.lemmas.List.{append-nil}
use Rattle.std.proofs.lemmas.List.Sums.{sum_by_push}
use Rattle.std.specs.Prelude.{nat_le}
use Rattle.pages.specs.Page.{Entry, cell_size, room_of}
use Rattle.checkpoint.specs.Pages.{first_key, joined}
use Rattle.checkpoint.specs.Filling.{pages_from, pages_of, AllFit, keys_from}

room_more : (page : List Entry) (entry : Entry) → room_of (page ++ entry ∷ []) ≡ room_of page + (4 + cell_size entry)
room_more page entry = omega (arith, sum_by_push cell_size page entry, length-append page (entry ∷ []))

first_key_push : (page : List Entry) (entry : Entry) → 1 ≤ length page → first_key (page ++ entry ∷ []) ≡ first_key page
first_key_push [] entry some = absurd (omega arith)
first_key_push (first ∷ page) entry some = refl

-- a test of room, told by what is free
same_test : (free room size : ℕ) → free + room ≡ 32768 → nat_le (room + size) 32768 ≡ nat_le size free
same_test free room size whole = grind (arith, nat_tests)

test_is : (a b : ℕ) → nat_le a b ≡ true → a ≤ b
test_is a b is = grind (arith, nat_tests)

pub keys_of_pages : (page entries : List Entry) (free : ℕ) → 1 ≤ length page → free + room_of page ≡ 32768 → AllFit entries
    → map first_key (pages_from page entries) ≡ first_key page ∷ keys_from free entries
keys_of_pages page [] free some whole fit = refl
keys_of_pages page (entry ∷ entries) free some whole fit =
    let more : List Entry = page ++ entry ∷ [] in
    let size : ℕ = 4 + cell_size entry in
    let room = room_more page entry in
    let test : nat_le (room_of more) 32768 ≡ nat_le size free = ap (λ r. nat_le r 32768) room ∙ same_test free (room_of page) size whole in
    let Goal : Bool → Type 0 = λ b.
    map first_key (cond b (pages_from more entries) (page ∷ pages_from (entry ∷ []) entries))
    ≡ first_key page ∷ cond (nat_le size free) (keys_from (free - size) entries) (entry.0 ∷ keys_from (32760 - size) entries)
    in
    subst Goal (sym test)
    (elim (nat_le size free) as (λ b. nat_le size free ≡ b
    → map first_key (cond b (pages_from more entries) (page ∷ pages_from (entry ∷ []) entries))
    ≡ first_key page ∷ cond b (keys_from (free - size) entries) (entry.0 ∷ keys_from (32760 - size) entries)) [
      | true ↦ λ is.
          let within = test_is size free is in
          keys_of_pages more entries (free - size) (omega (arith, length-append page (entry ∷ []))) (omega (arith, room, within, whole)) fit.1
          ∙ ap (λ (key : List ℕ). key ∷ keys_from (free - size) entries) (first_key_push page entry some)
      | false ↦ λ is.
          ap (λ (keys : List (List ℕ)). first_key page ∷ keys)
          (keys_of_pages (entry ∷ []) entries (32760 - size) (omega arith) (omega (arith, fit.0)) fit.1)
    ] refl)

-- no page is there before the first entry
pub keys_of_all : (entries : List Entry) → AllFit entries → map first_key (pages_of entries) ≡ keys_from 0 entries
keys_of_all [] fit = refl
keys_of_all (entry ∷ entries) fit =
    let size : ℕ = 4 + cell_size entry in
    let first = keys_of_pages (entry ∷ []) entries (32760 - size) (omega arith) (omega (arith, fit.0)) fit.1 in
    let test : nat_le size 0 ≡ false = grind (arith, nat_tests) in
    first ∙ ap (λ b. cond b (keys_from (0 - size) entries) (entry.0 ∷ keys_from (32760 - size) entries)) (sym test)

pub joined_pages_from : (page entries : List Entry) → joined (pages_from page entries) ≡ page ++ entries
joined_pages_from page [] = refl
joined_pages_from page (entry ∷ entries) =
    let more : List Entry = page ++ entry ∷ [] in
    elim (nat_le (room_of more) 32768) as (λ b. joined (cond b (pages_from more entries) (page ∷ pages_from (entry ∷ []) entries)) ≡ page ++ entry ∷ entries) [
      | true ↦ joined_pages_from more entries ∙ append_assoc page (entry ∷ []) entries
      | false ↦ ap (λ (es : List Entry). page ++ es) (joined_pages_from (entry ∷ []) entries)
    ]

-- cut into pages, the entries are the same
pub joined_pages_of : (entries : List Entry) → joined (pages_of entries) ≡ entries
joined_pages_of [] = refl
joined_pages_of (entry ∷ entries) = joined_pages_from (entry ∷ []) entries

-- what one more entry does to the keys that are still to come
pub keys_same : (free left size : ℕ) (entry : Entry) (entries : List Entry) → size ≡ 4 + cell_size entry → left + size ≡ free
    → keys_from free (entry ∷ entries) ≡ keys_from left entries
keys_same free left size entry entries is fits =
    let test : nat_le (4 + cell_size entry) free ≡ true = grind (arith, nat_tests) in
    let rest : free - (4 + cell_size entry) ≡ left = omega (arith, is, fits) in
    ap (λ b. cond b (keys_from (free - (4 + cell_size entry)) entries) (entry.0 ∷ keys_from (32760 - (4 + cell_size entry)) entries)) test
    ∙ ap (λ n. keys_from n entries) rest

pub keys_begin : (free left size : ℕ) (entry : Entry) (entries : List Entry) → size ≡ 4 + cell_size entry → free < size → left + size ≡ 32760
    → keys_from free (entry ∷ entries) ≡ entry.0 ∷ keys_from left entries
keys_begin free left size entry entries is full fits =
    let test : nat_le (4 + cell_size entry) free ≡ false = grind (arith, nat_tests) in
    let rest : 32760 - (4 + cell_size entry) ≡ left = omega (arith, is, fits) in
    ap (λ b. cond b (keys_from (free - (4 + cell_size entry)) entries) (entry.0 ∷ keys_from (32760 - (4 + cell_size entry)) entries)) test
    ∙ ap (λ n. entry.0 ∷ keys_from n entries) rest

-- ---- a walk

-- The walk has some of the entries before it; with what is known of the others, the first keys of all are these and those still to come.
pub record Walked (ahead : List Entry → Type 0) (keys : List (List ℕ)) (free : ℕ) (all : List Entry) : Type 0 where
  pub rest : List Entry
  pub there : ahead rest
  pub are : keys ++ keys_from free rest ≡ keys_from 0 all
  pub fit : AllFit rest → AllFit all
  pub fits : AllFit all → AllFit rest

pub walked_none : (ahead : List Entry → Type 0) (keys : List (List ℕ)) (free : ℕ) (all : List Entry) → ahead all → keys ≡ [] → free ≡ 0
    → Walked ahead keys free all
walked_none ahead keys free all there none full = record {
  rest = all;
  there = there;
  are = ap (λ (ks : List (List ℕ)). ks ++ keys_from free all) none ∙ ap (λ n. keys_from n all) full;
  fit = λ fit. fit;
  fits = λ fit. fit;
}

-- at the end of the walk
pub walked_all : (ahead : List Entry → Type 0) (keys : List (List ℕ)) (free : ℕ) (all : List Entry) (walked : Walked ahead keys free all)
    → ((entry : Entry) (entries : List Entry) → ahead (entry ∷ entries) → ⊥) → (keys ≡ map first_key (pages_of all)) × AllFit all
walked_all ahead keys free all walked none = at_end walked.rest walked.there walked.are walked.fit
  where
    at_end : (rest : List Entry) → ahead rest → keys ++ keys_from free rest ≡ keys_from 0 all → (AllFit rest → AllFit all)
        → (keys ≡ map first_key (pages_of all)) × AllFit all
    at_end [] there are fit = let all_fit = fit tt in (sym (append-nil keys) ∙ are ∙ sym (keys_of_all all all_fit), all_fit)
    at_end (entry ∷ entries) there are fit = absurd (none entry entries there)

-- over one entry
pub walked_more : (ahead after : List Entry → Type 0) (keys more : List (List ℕ)) (free left : ℕ) (all : List Entry) (here : Entry)
    → (walked : Walked ahead keys free all) → (ahead [] → ⊥)
    → ((entry : Entry) (entries : List Entry) → ahead (entry ∷ entries) → (here ≡ entry) × after entries)
    → ((entries : List Entry) → more ++ keys_from left entries ≡ keys ++ keys_from free (here ∷ entries))
    → room_of (here ∷ []) ≤ 32768 → Walked after more left all
walked_more ahead after keys more free left all here walked some next adds fits = step walked.rest walked.there walked.are walked.fit walked.fits
  where
    step : (rest : List Entry) → ahead rest → keys ++ keys_from free rest ≡ keys_from 0 all → (AllFit rest → AllFit all) → (AllFit all → AllFit rest)
        → Walked after more left all
    step [] there are fit fit_all = absurd (some there)
    step (entry ∷ entries) there are fit fit_all =
        let found = next entry entries there in
        let Room : Entry → Type 0 = λ e. room_of (e ∷ []) ≤ 32768 in
        record {
          rest = entries;
          there = found.1;
          are = adds entries ∙ ap (λ (e : Entry). keys ++ keys_from free (e ∷ entries)) found.0 ∙ are;
          fit = λ others. fit (subst Room found.0 fits, others);
          fits = λ others. (fit_all others).1;
        }

-- an entry that fits no page
pub walked_long : (ahead : List Entry → Type 0) (keys : List (List ℕ)) (free : ℕ) (all : List Entry) (here : Entry)
    → (walked : Walked ahead keys free all) → (ahead [] → ⊥) → ((entry : Entry) (entries : List Entry) → ahead (entry ∷ entries) → here ≡ entry)
    → 32768 < room_of (here ∷ []) → AllFit all → ⊥
walked_long ahead keys free all here walked some next long fit = step walked.rest walked.there (walked.fits fit)
  where
    step : (rest : List Entry) → ahead rest → AllFit rest → ⊥
    step [] there fit = some there
    step (entry ∷ entries) there fit =
        let Room : Entry → Type 0 = λ e. room_of (e ∷ []) ≤ 32768 in
        let room : room_of (here ∷ []) ≤ 32768 = subst Room (sym (next entry entries there)) fit.0 in
        absurd (omega (arith, long, room))
