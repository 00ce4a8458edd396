-- Which cut entries begin with a prefix.
use Rattle.std.proofs.Common.{◌≡◌, ◌∙◌, ap, refl, ◌+◌, ℕ, zero, suc, Bool, true, false, cond, List, [], ◌∷◌, ◌++◌, map, Option, Some, None}
use Rattle.std.specs.List.{AllByRecursion, range_with_len}
use Rattle.byteorder.specs.Endian.{big_bytes}
use Rattle.pages.specs.Page.{Entry}
use Rattle.shelf.specs.Prefix.{begins, beginning}
use Rattle.chunks.specs.Whole.{BeginsAlike}
use Rattle.chunks.specs.Chunks.{count_of, chunk_entry, stem_of, cut_by, cut_entry, cuts, cut_if, AreCuttable}

beginning-append : (prefix : List ℕ) (xs ys : List Entry) → beginning prefix (xs ++ ys) ≡ beginning prefix xs ++ beginning prefix ys
beginning-append prefix [] ys = refl
beginning-append prefix (x ∷ xs) ys =
    elim (begins prefix x.0) as (λ b. cond b (x ∷ beginning prefix (xs ++ ys)) (beginning prefix (xs ++ ys)) ≡ cond b (x ∷ beginning prefix xs) (beginning prefix xs) ++ beginning prefix ys) [
      | true ↦ ap (λ (rest : List Entry). x ∷ rest) (beginning-append prefix xs ys)
      | false ↦ beginning-append prefix xs ys
    ]

module _ (prefix stem value : List ℕ) (b : Bool) (alike : (n : ℕ) → begins prefix (stem ++ big_bytes 2 n) ≡ b) where
  all_begin : (from count : ℕ) → b ≡ true → beginning prefix (map (chunk_entry stem value) (range_with_len from count)) ≡ map (chunk_entry stem value) (range_with_len from count)
  all_begin from zero is = refl
  all_begin from (suc count) is =
      let rest : List Entry = beginning prefix (map (chunk_entry stem value) (range_with_len (from + 1) count)) in
      ap (λ x. cond x (chunk_entry stem value from ∷ rest) rest) (alike from ∙ is) ∙ ap (λ (es : List Entry). chunk_entry stem value from ∷ es) (all_begin (from + 1) count is)

  none_begin : (from count : ℕ) → b ≡ false → beginning prefix (map (chunk_entry stem value) (range_with_len from count)) ≡ []
  none_begin from zero is = refl
  none_begin from (suc count) is =
      let rest : List Entry = beginning prefix (map (chunk_entry stem value) (range_with_len (from + 1) count)) in
      ap (λ x. cond x (chunk_entry stem value from ∷ rest) rest) (alike from ∙ is) ∙ none_begin (from + 1) count is

one_begins : (prefix : List ℕ) (e : Entry) → BeginsAlike prefix e → (b : Bool) → begins prefix e.0 ≡ b → beginning prefix (cut_entry e) ≡ cond b (cut_entry e) []
one_begins prefix e alike b is = step (stem_of e.0) refl b is
  where
    step : (s : Option (List ℕ)) → stem_of e.0 ≡ s → (b : Bool) → begins prefix e.0 ≡ b → beginning prefix (cut_by s e) ≡ cond b (cut_by s e) []
    step None at b is = ap (λ x. cond x (e ∷ []) []) is
    step (Some stem) at true is = all_begin prefix stem e.1 true (λ n. alike stem at n ∙ is) 0 (count_of e.1) refl
    step (Some stem) at false is = none_begin prefix stem e.1 false (λ n. alike stem at n ∙ is) 0 (count_of e.1) refl

-- Those of the cut entries that begin so are what those of the entries are cut to.
pub beginning_cuts : (prefix : List ℕ) (es : List Entry) → AllByRecursion (BeginsAlike prefix) es → beginning prefix (cuts es) ≡ cuts (beginning prefix es)
beginning_cuts prefix [] alike = refl
beginning_cuts prefix (e ∷ es) alike =
    beginning-append prefix (cut_entry e) (cuts es)
    ∙ (elim (begins prefix e.0) as (λ b. begins prefix e.0 ≡ b → beginning prefix (cut_entry e) ++ beginning prefix (cuts es) ≡ cuts (cond b (e ∷ beginning prefix es) (beginning prefix es))) [
      | true ↦ λ is. (λ i. one_begins prefix e alike.0 true is i ++ beginning_cuts prefix es alike.1 i)
      | false ↦ λ is. (λ i. one_begins prefix e alike.0 false is i ++ beginning_cuts prefix es alike.1 i)
    ] refl)

pub beginning_if : (c : Bool) (prefix : List ℕ) (es : List Entry) → AllByRecursion (BeginsAlike prefix) es → beginning prefix (cut_if c es) ≡ cut_if c (beginning prefix es)
beginning_if false prefix es alike = refl
beginning_if true prefix es alike = beginning_cuts prefix es alike

pub can_begin : (prefix : List ℕ) (es : List Entry) → AreCuttable es → AreCuttable (beginning prefix es)
can_begin prefix [] can = tt
can_begin prefix (e ∷ es) can =
    elim (begins prefix e.0) as (λ b. AreCuttable (cond b (e ∷ beginning prefix es) (beginning prefix es))) [
      | true ↦ (can.0, can_begin prefix es can.1)
      | false ↦ can_begin prefix es can.1
    ]
