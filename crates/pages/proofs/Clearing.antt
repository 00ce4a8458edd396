-- A page with no cell.
use Rattle.std.proofs.Common.{arith, ◌≡◌, ap, ◌≤◌, ℕ, List, [], map, length, take, slice_index, replicate, codes, ⊎_elim}
use Rattle.std.proofs.lemmas.Bool.{cases_lt}
use Rattle.std.proofs.lemmas.List.{get_or-replicate, get_or_past, length-replicate}
use Rattle.std.specs.List.{range_with_len}
use Rattle.pages.specs.Building.{IsBuilt}
use Rattle.pages.specs.Page.{count, cell_end, entry_at, entries_in}
use Rattle.pages.proofs.Numbers.{number_is}

pub replicate-zero : (n k : ℕ) → slice_index (replicate n 0) k ≡ 0
replicate-zero n k = ⊎_elim
    (λ lt. get_or-replicate n k 0 0 lt)
    (λ past. get_or_past (replicate n 0) k 0 (omega (arith, length-replicate {A = ℕ} n 0)))
    (cases_lt k n)

module _ (bytes : List ℕ) (whole : length bytes ≡ 32768) (mark : take 4 bytes ≡ codes "PAGE")
    (zeros : (k : ℕ) → 4 ≤ k → slice_index bytes k ≡ 0) where
  no_cells : count bytes ≡ 0
  no_cells = omega (arith, number_is 4 bytes, zeros 4 (omega arith), zeros 5 (omega arith))

  pub built_empty : IsBuilt bytes
  built_empty = record {
    mark = record { whole = whole; mark = mark };
    zeros = omega (arith, number_is 6 bytes, zeros 6 (omega arith), zeros 7 (omega arith));
    each = λ i l. absurd (omega (arith, no_cells));
    room = omega (arith, no_cells, ap (λ n. cell_end n bytes) no_cells);
    cells = λ i l. absurd (omega (arith, no_cells));
    free = λ k low high. zeros k (omega (arith, no_cells));
  }

  pub entries_empty : entries_in bytes ≡ []
  unfolding entries_in
  entries_empty = ap (λ n. map (entry_at bytes) (range_with_len 0 n)) no_cells
