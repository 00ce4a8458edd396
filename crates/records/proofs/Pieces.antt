-- The pieces of a policy's plans say the plans.
use Rattle.std.proofs.Common.{arith, ◌≡◌, ◌≢◌, ◌∙◌, sym, ap, subst, refl, ◌≤◌, ◌+◌, ◌*◌, ℕ, zero, suc, List, [], ◌∷◌, ◌++◌, map, take, drop, length}
use Rattle.std.proofs.lemmas.Bool.{and_parts}
use Rattle.std.proofs.lemmas.Cmp.{nat_list_cmp_total, tied_itself}
use Rattle.std.proofs.lemmas.Grind.{div_ceil_times}
use Rattle.std.proofs.lemmas.List.{take-append-drop, drop-drop, drop_all}
use Rattle.std.specs.FinMap.Entries.{below_all}
use Rattle.std.specs.Int.{div_ceil}
use Rattle.std.specs.List.{flat_map, range_with_len}
use Rattle.std.specs.Ordering.{is_lt}
use Rattle.std.specs.declared.cmp.Ordering.TheVariants.{Less, Equal}
use Rattle.names.specs.Key.{Key}
use Rattle.pages.specs.Page.{Entry, bytes_cmp}
use Rattle.records.specs.Entries.{plan_entry, plan_entries}
use Rattle.records.specs.Reading.{AreAbove, BeginsWithout}
use Rattle.records.proofs.Ascending.{IsBelow, less_from}

abbrev cells : List Entry → List ℕ
cells es = flat_map (λ e. e.1) es

-- the pieces from one on are what stands there
joined : (k : Key) (bytes : List ℕ) (from count : ℕ) → length bytes ≤ 16384 * (from + count)
    → cells (map (plan_entry k bytes) (range_with_len from count)) ≡ drop (16384 * from) bytes
joined k bytes from zero all = sym (drop_all (16384 * from) bytes (omega arith))
joined k bytes from (suc count) all =
    let here : List ℕ = drop (16384 * from) bytes in
    let next : 16384 * from + 16384 ≡ 16384 * (from + 1) = omega arith in
    let rest : cells (map (plan_entry k bytes) (range_with_len (from + 1) count)) ≡ drop 16384 here =
    joined k bytes (from + 1) count (omega arith) ∙ ap (λ (n : ℕ). drop n bytes) (sym next) ∙ sym (drop-drop 16384 (16384 * from) bytes) in
    ap (λ (r : List ℕ). take 16384 here ++ r) rest ∙ take-append-drop 16384 here

all_of : (k : Key) (bytes : List ℕ) → cells (plan_entries k bytes) ≡ bytes
all_of k bytes = joined k bytes 0 (div_ceil (length bytes) 16384) (omega (arith, (div_ceil_times (length bytes) 16384 (omega arith)).0))

-- The entries of plans say the plans.
pub one_plans : (k : Key) (a b : List ℕ) → plan_entries k a ≡ plan_entries k b → a ≡ b
one_plans k a b same = sym (all_of k a) ∙ ap cells same ∙ all_of k b

-- ---- the pieces of one policy, in front of what is above them

not_itself : (key : List ℕ) (e : Entry) (es : List Entry) → IsBelow key (e ∷ es) → e.0 ≡ key → ⊥
not_itself key e es below same =
    let less : bytes_cmp key e.0 ≡ Less = less_from (bytes_cmp key e.0) (and_parts (is_lt (bytes_cmp key e.0)) (below_all bytes_cmp key es) below).0 in
    let tie : bytes_cmp key e.0 ≡ Equal = ap (bytes_cmp key) same ∙ tied_itself nat_list_cmp_total key in
    cc

module _ (k : Key) (a b : List ℕ) where
  split_pieces : (from n m : ℕ) (xs ys : List Entry) → AreAbove k xs → AreAbove k ys
      → map (plan_entry k a) (range_with_len from n) ++ xs ≡ map (plan_entry k b) (range_with_len from m) ++ ys
      → (map (plan_entry k a) (range_with_len from n) ≡ map (plan_entry k b) (range_with_len from m)) × (xs ≡ ys)
  split_pieces from zero zero xs ys first second same = (refl, same)
  split_pieces from zero (suc m) [] ys first second same = cc
  split_pieces from zero (suc m) (x ∷ xs) ys first second same =
      let head : x ≡ plan_entry k b from = cc in
      absurd (not_itself (plan_entry k [] from).0 x xs (first from) (ap (λ (e : Entry). e.0) head))
  split_pieces from (suc n) zero xs [] first second same = cc
  split_pieces from (suc n) zero xs (y ∷ ys) first second same =
      let head : plan_entry k a from ≡ y = cc in
      absurd (not_itself (plan_entry k [] from).0 y ys (second from) (sym (ap (λ (e : Entry). e.0) head)))
  split_pieces from (suc n) (suc m) xs ys first second same =
      let head : plan_entry k a from ≡ plan_entry k b from = cc in
      let rest : map (plan_entry k a) (range_with_len (from + 1) n) ++ xs ≡ map (plan_entry k b) (range_with_len (from + 1) m) ++ ys = cc in
      let parts = split_pieces (from + 1) n m xs ys first second rest in
      (λ i. head i ∷ parts.0 i, parts.1)

  split_all : (xs ys : List Entry) → AreAbove k xs → AreAbove k ys → plan_entries k a ++ xs ≡ plan_entries k b ++ ys → (a ≡ b) × (xs ≡ ys)
  split_all xs ys first second same =
      let parts = split_pieces 0 (div_ceil (length a) 16384) (div_ceil (length b) 16384) xs ys first second same in
      (one_plans k a b parts.0, parts.1)

-- ---- as they are read, piece by piece

module _ (k : Key) (a b : List ℕ) where
  -- the pieces end where the next one does not stand
  pub cut_pieces : (from n m : ℕ) (xs ys : List Entry) → from + m ≤ 65536 → BeginsWithout k (from + n) xs → AreAbove k ys
      → map (plan_entry k a) (range_with_len from n) ++ xs ≡ map (plan_entry k b) (range_with_len from m) ++ ys
      → (map (plan_entry k a) (range_with_len from n) ≡ map (plan_entry k b) (range_with_len from m)) × (xs ≡ ys)
  cut_pieces from zero zero xs ys few without above same = (refl, same)
  cut_pieces from zero (suc m) [] ys few without above same = cc
  cut_pieces from zero (suc m) (x ∷ xs) ys few without above same =
      let head : x ≡ plan_entry k b from = cc in
      absurd (without (omega (arith, few)) (ap (λ (e : Entry). e.0) head ∙ ap (λ (n : ℕ). (plan_entry k [] n).0) (omega arith)))
  cut_pieces from (suc n) zero xs [] few without above same = cc
  cut_pieces from (suc n) zero xs (y ∷ ys) few without above same =
      let head : plan_entry k a from ≡ y = cc in
      absurd (not_itself (plan_entry k [] from).0 y ys (above from) (sym (ap (λ (e : Entry). e.0) head)))
  cut_pieces from (suc n) (suc m) xs ys few without above same =
      let head : plan_entry k a from ≡ plan_entry k b from = cc in
      let rest : map (plan_entry k a) (range_with_len (from + 1) n) ++ xs ≡ map (plan_entry k b) (range_with_len (from + 1) m) ++ ys = cc in
      let ends : BeginsWithout k (from + 1 + n) xs = subst (λ (i : ℕ). BeginsWithout k i xs) (omega arith) without in
      let parts = cut_pieces (from + 1) n m xs ys (omega (arith, few)) ends above rest in
      (λ i. head i ∷ parts.0 i, parts.1)

  -- and go on where it stands
  pub more_pieces : (from n m : ℕ) (x : Entry) (xs ys : List Entry) → x.0 ≡ (plan_entry k [] (from + n)).0 → AreAbove k ys
      → map (plan_entry k a) (range_with_len from n) ++ x ∷ xs ≡ map (plan_entry k b) (range_with_len from m) ++ ys
      → (rest : List Entry) × (map (plan_entry k b) (range_with_len from m) ≡ map (plan_entry k a) (range_with_len from n) ++ x ∷ rest)
  more_pieces from zero zero x xs [] key above same = cc
  more_pieces from zero zero x xs (y ∷ ys) key above same =
      let head : y ≡ x = cc in
      absurd (not_itself (plan_entry k [] (from + 0)).0 y ys (above (from + 0)) (ap (λ (e : Entry). e.0) head ∙ key))
  more_pieces from zero (suc m) x xs ys key above same =
      let head : plan_entry k b from ≡ x = cc in
      (map (plan_entry k b) (range_with_len (from + 1) m), λ i. head i ∷ map (plan_entry k b) (range_with_len (from + 1) m))
  more_pieces from (suc n) zero x xs [] key above same = cc
  more_pieces from (suc n) zero x xs (y ∷ ys) key above same =
      let head : plan_entry k a from ≡ y = cc in
      absurd (not_itself (plan_entry k [] from).0 y ys (above from) (sym (ap (λ (e : Entry). e.0) head)))
  more_pieces from (suc n) (suc m) x xs ys key above same =
      let head : plan_entry k b from ≡ plan_entry k a from = cc in
      let rest : map (plan_entry k a) (range_with_len (from + 1) n) ++ x ∷ xs ≡ map (plan_entry k b) (range_with_len (from + 1) m) ++ ys = cc in
      let next : x.0 ≡ (plan_entry k [] (from + 1 + n)).0 = key ∙ ap (λ (i : ℕ). (plan_entry k [] i).0) (omega arith) in
      let parts = more_pieces (from + 1) n m x xs ys next above rest in
      (parts.0, λ i. head i ∷ parts.1 i)

-- what is after the plans of an object is above them, if it has some
pub split_plans : (k : Key) (a b : List ℕ) (xs ys : List Entry) → (a ≢ [] → AreAbove k xs × AreAbove k ys) → (b ≢ [] → AreAbove k xs × AreAbove k ys)
    → plan_entries k a ++ xs ≡ plan_entries k b ++ ys → (a ≡ b) × (xs ≡ ys)
split_plans k [] [] xs ys first second same = (refl, same)
split_plans k [] (y ∷ b) xs ys first second same = let above = second (λ e. cc) in split_all k [] (y ∷ b) xs ys above.0 above.1 same
split_plans k (x ∷ a) b xs ys first second same = let above = first (λ e. cc) in split_all k (x ∷ a) b xs ys above.0 above.1 same
