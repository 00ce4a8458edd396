-- The steps of calls, byte by byte, and one after another.
use Rattle.std.proofs.Common.{⊎_elim, subst, rules, arith, refl, ◌≡◌, ◌∙◌, sym, ap, ◌<◌, ◌≤◌, ◌+◌, ◌-◌, ◌⊎◌, inl, inr, ℕ, List, ◌++◌, length, take, drop, min, max, slice_index}
use Rattle.std.proofs.lemmas.List.{append_assoc, length-append, length-take, length-drop, get_or-take, get_or-drop, ext_get_or, take-take, drop-drop, drop_at, take_at, same_lists, places}
use Rattle.device.specs.Step.{Holds, Torn, Cut, After}

same_take : (n : ℕ) (xs ys : List ℕ) → min n (length xs) ≡ min n (length ys) → ((k : ℕ) → k < n → k < length xs → slice_index xs k ≡ slice_index ys k) → take n xs ≡ take n ys
same_take n xs ys lengths bytes = ext_get_or 0 (take n xs) (take n ys)
    (length-take n xs ∙ lengths ∙ sym (length-take n ys))
    (λ k lt. let in_take : k < min n (length xs) = omega (arith, length-take n xs) in
    let below : k < n = omega arith in
    rw (get_or-take n xs k 0, get_or-take n ys k 0) (bytes k below (omega arith)))

same_drop : (n : ℕ) (xs ys : List ℕ) → length xs - n ≡ length ys - n → ((k : ℕ) → n ≤ k → k < length xs → slice_index xs k ≡ slice_index ys k) → drop n xs ≡ drop n ys
same_drop n xs ys lengths bytes = ext_get_or 0 (drop n xs) (drop n ys)
    (length-drop n xs ∙ lengths ∙ sym (length-drop n ys))
    (λ k lt. let in_drop : k < length xs - n = omega (arith, length-drop n xs) in
    rw (get_or-drop n xs k 0, get_or-drop n ys k 0) (bytes (n + k) (omega arith) (omega arith)))

pub torn_from_bytes : (at n : ℕ) (old new : List ℕ) → length old ≤ length new → length new ≤ max (length old) (at + n)
    → min at (length new) ≡ min at (length old)
    → ((k : ℕ) → (k < at) ⊎ (at + n ≤ k) → k < length new → slice_index new k ≡ slice_index old k) → Torn at n old new
torn_from_bytes at n old new no_shorter no_longer front bytes = record {
  before = same_take at new old front (λ k below inside. bytes k (inl below) inside);
  after = same_drop (at + n) new old (omega arith) (λ k above inside. bytes k (inr above) inside);
  no_shorter = no_shorter;
  no_longer = no_longer;
}

pub cut_from_bytes : (n : ℕ) (old new : List ℕ) → min n (length old) ≤ length new → length new ≤ length old
    → ((k : ℕ) → k < n → k < length new → slice_index new k ≡ slice_index old k) → Cut n old new
cut_from_bytes n old new no_shorter no_longer bytes = record {
  front = same_take n new old (omega arith) bytes;
  no_shorter = no_shorter;
  no_longer = no_longer;
}

-- a write that is done is one that may be torn
pub torn_holds : (at : ℕ) (bytes old new : List ℕ) → at ≤ length old → Holds old at bytes new → Torn at (length bytes) old new
torn_holds at bytes old new inside holds = let lengths : length new ≡ max (length old) (at + length bytes) = rw holds (grind (arith, places)) in record {
  before = rw (holds, append_assoc) (take_at (take at old) (bytes ++ drop (at + length bytes) old) at (omega (arith, length-take at old)));
  after = rw holds (drop_at (take at old ++ bytes) (drop (at + length bytes) old) (at + length bytes) (omega (arith, length-take at old, length-append (take at old) bytes)));
  no_shorter = omega arith;
  no_longer = omega arith;
}

-- a cut that is done is one that may be cut short
pub cut_take : (n : ℕ) (old : List ℕ) → Cut n old (take n old)
cut_take n old = record {
  front = take-take n n old (omega arith);
  no_shorter = omega (arith, length-take n old);
  no_longer = omega (arith, length-take n old);
}

pub torn_idle : (at n : ℕ) (c : List ℕ) → Torn at n c c
torn_idle at n c = record { before = refl; after = refl; no_shorter = omega arith; no_longer = omega arith }

pub cut_idle : (n : ℕ) (c : List ℕ) → Cut n c c
cut_idle n c = record { front = refl; no_shorter = omega arith; no_longer = omega arith }

-- a write of the same range again
pub torn_again : (at n : ℕ) (a b c : List ℕ) → Torn at n a b → Torn at n b c → Torn at n a c
torn_again at n a b c first second = record {
  before = second.before ∙ first.before;
  after = second.after ∙ first.after;
  no_shorter = omega (arith, first.no_shorter, second.no_shorter);
  no_longer = omega (arith, first.no_longer, second.no_longer);
}

same_take_less : (m n : ℕ) (xs ys : List ℕ) → m ≤ n → take n xs ≡ take n ys → take m xs ≡ take m ys
same_take_less m n xs ys le same = sym (take-take m n xs le) ∙ ap (take m) same ∙ take-take m n ys le

same_drop_more : (m n : ℕ) (xs ys : List ℕ) → drop m xs ≡ drop m ys → drop (m + n) xs ≡ drop (m + n) ys
same_drop_more m n xs ys same = sym (drop-drop n m xs) ∙ ap (drop n) same ∙ drop-drop n m ys

-- a write is one of a wider range
pub torn_wider : (at n first count : ℕ) (a b : List ℕ) → first ≤ at → at + n ≤ first + count → Torn at n a b → Torn first count a b
torn_wider at n first count a b low high torn = record {
  before = same_take_less first at b a low torn.before;
  after = let e : (at + n) + ((first + count) - (at + n)) ≡ first + count = omega arith in
      rw (← e) (same_drop_more (at + n) ((first + count) - (at + n)) b a torn.after);
  no_shorter = torn.no_shorter;
  no_longer = omega (arith, torn.no_longer);
}

-- a write of the range behind another
pub torn_next : (at n m : ℕ) (a b c : List ℕ) → Torn at n a b → Torn (at + n) m b c → Torn at (n + m) a c
torn_next at n m a b c first second = torn_again at (n + m) a b c
    (torn_wider at n at (n + m) a b (omega arith) (omega arith) first)
    (torn_wider (at + n) m at (n + m) b c (omega arith) (omega arith) second)

-- a step after a step
pub after_after : (first second step : List ℕ → List ℕ → Type 0) (old : List ℕ → Type 0) (c : List ℕ) → ((x y z : List ℕ) → first x y → second y z → step x z)
    → After second (After first old) c → After step old c
after_after first second step old c join after = let was = after.1 in (was.0, was.1, join was.0 after.0 c was.2 after.2)

-- the front of what a write leaves is a write to the front
pub take-holds : (cur bytes : List ℕ) (at end : ℕ) → at ≤ end → end ≤ length cur
    → take (max end (at + length bytes)) (take at cur ++ bytes ++ drop (at + length bytes) cur) ≡ take at (take end cur) ++ bytes ++ drop (at + length bytes) (take end cur)
take-holds cur bytes at end inside room = same_lists _ _ (search (rules, places)) (λ k d h. grind (arith, places))

-- outside of its range a torn write leaves each byte
pub torn-bytes : (at n : ℕ) (a b : List ℕ) → Torn at n a b → (k : ℕ) → (k < at) ⊎ (at + n ≤ k) → slice_index b k ≡ slice_index a k
torn-bytes at n a b torn k off = ⊎_elim
    (λ low. sym (get_or-take at b k 0 low) ∙ ap (λ (x : List ℕ). slice_index x k) torn.before ∙ get_or-take at a k 0 low)
    (λ high.
    let e : (at + n) + (k - (at + n)) ≡ k = omega arith in
    let same = sym (get_or-drop (at + n) b (k - (at + n)) 0) ∙ ap (λ (x : List ℕ). slice_index x (k - (at + n))) torn.after ∙ get_or-drop (at + n) a (k - (at + n)) 0 in
    let P : ℕ → Type 0 = λ j. slice_index b j ≡ slice_index a j in
    subst P e same)
    off

-- how long a content is after a write
pub length-holds : (at : ℕ) (bytes a b : List ℕ) → at ≤ length a → Holds a at bytes b → length b ≡ max (length a) (at + length bytes)
length-holds at bytes a b inside holds = rw holds (grind (arith, places))
