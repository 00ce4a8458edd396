-- A walk over entries in memory.
use Rattle.std.proofs.Common.{arith, ◌≡◌, ap, ◌+◌, ◌<◌, ◌≤◌, ℕ, List, [], ◌∷◌, length, get_or, drop, length-drop}
use Rattle.std.proofs.lemmas.List.{drop_more, length-map}
use Rattle.std.specs.declared.alloc.Global.{Global}
use Rattle.std.specs.declared.vec.Vec.{Vec}
use Rattle.pages.specs.Page.{Entry}
use Rattle.checkpoint.specs.EntryList.{listed}

-- the entry that a walk comes to
pub record Comes (entries : List Entry) (n : ℕ) (entry : Entry) (rest : List Entry) : Type 0 where
  pub inside : n < length entries
  pub is : get_or entries n ([], []) ≡ entry
  pub others : drop (n + 1) entries ≡ rest

pub comes_to : (entries : List Entry) (n : ℕ) (entry : Entry) (rest : List Entry) → drop n entries ≡ entry ∷ rest → Comes entries n entry rest
comes_to entries n entry rest ahead =
    let size : length (drop n entries) ≡ length (entry ∷ rest) = ap length ahead in
    let inside : n < length entries = omega (arith, size, length-drop n entries) in
    let more = drop_more entries n ([], []) inside in
    record { inside = inside; is = cc; others = cc }

pub comes_to_end : (entries : List Entry) (n : ℕ) → drop n entries ≡ [] → length entries ≤ n
comes_to_end entries n ahead = let size : length (drop n entries) ≡ 0 = ap length ahead in omega (arith, size, length-drop n entries)

pub listed_length : (pairs : List (Vec ℕ Global × Vec ℕ Global)) → length (listed pairs) ≡ length pairs
listed_length pairs = let Pair : Vec ℕ Global × Vec ℕ Global → Entry = λ pair. (pair.0.items, pair.1.items) in length-map pairs Pair
