-- The place of a key in a map, and a map literal's entries.
use Rattle.std.proofs.Common.{◌≡◌, ◌∙◌, ℕ, zero, suc, ◌+◌, ◌<◌, true, false, List, [], ◌∷◌, ◌++◌, map, length, take, drop, get_or, refl, ap, sym, arith}
use Rattle.std.specs.List.{insert}
use Rattle.std.proofs.lemmas.List.{map-append, take-map, drop-map, get_or-map, length-map}
use Rattle.celmean.specs.Value.{Value, Outcome, Gives, Error}
use Rattle.celmean.specs.Order.{key_before}
use Rattle.celmean.specs.Collections.{inserted, put_entry, map_of}
use Rattle.celmean.specs.Seen.{value_of, entry_seen, entries_seen, outcome_of, outcome_pairs_seen}
use Rattle.celmean.specs.declared.value.Value as program
use Rattle.celmean.specs.declared.value.Outcome as program_outcome

module _ (k v : Value) where
  -- the entry goes before the first greater key
  pub place_here : (i : ℕ) (es : List (Value × Value)) (e : Value × Value) → i < length es → get_or es i e ≡ e → key_before k e.0 ≡ true
      → take i es ++ inserted k v (drop i es) ≡ insert es i (k, v)
  place_here i [] e within got before = absurd (omega arith)
  place_here zero (f ∷ es) e within got before = let p : key_before k f.0 ≡ true = rw (← got) at before in rw p refl
  place_here (suc i) (f ∷ es) e within got before = ap (λ x. f ∷ x) (place_here i es e (omega arith) got before)

  -- and after all others
  pub place_past : (i : ℕ) (es : List (Value × Value)) (e : Value × Value) → i < length es → get_or es i e ≡ e → key_before k e.0 ≡ false
      → take i es ++ inserted k v (drop i es) ≡ take (suc i) es ++ inserted k v (drop (suc i) es)
  place_past i [] e within got after = absurd (omega arith)
  place_past zero (f ∷ es) e within got after = let p : key_before k f.0 ≡ false = rw (← got) at after in rw p refl
  place_past (suc i) (f ∷ es) e within got after = ap (λ x. f ∷ x) (place_past i es e (omega arith) got after)

pub map-insert : {A B : Type 0} (f : A → B) (xs : List A) (i : ℕ) (x : A) → map f (insert xs i x) ≡ insert (map f xs) i (f x)
map-insert f xs i x = map-append f (take i xs) (x ∷ drop i xs) ∙ (rw (take-map f i xs, drop-map f i xs) refl)

put_error : (a b : Outcome) → put_entry a b Error ≡ Error
put_error Error b = refl
put_error (Gives k) Error = refl
put_error (Gives k) (Gives v) = refl

-- an entry that is an error makes the map one
pub map_of-error : (n : ℕ) (os : List (Outcome × Outcome)) → map_of (drop n os) ≡ Error → map_of os ≡ Error
map_of-error zero os e = e
map_of-error (suc n) [] e = e
map_of-error (suc n) (o ∷ os) e = rw (map_of-error n os e) (put_error o.0 o.1)

-- the same of the program's entries and outcomes
module _ (k v : Value) (i : ℕ) (all : List (program.Value × program.Value)) (x : program.Value × program.Value) (within : i < length all) (is : x ≡ get_or all i x) where
  got : get_or (entries_seen all) i (entry_seen x) ≡ entry_seen x
  got = get_or-map entry_seen all i x (entry_seen x) within ∙ ap entry_seen (sym is)

  within_seen : i < length (entries_seen all)
  within_seen = rw (length-map all entry_seen) within

  pub key_here : key_before k (value_of x.0) ≡ true → take i (entries_seen all) ++ inserted k v (drop i (entries_seen all)) ≡ insert (entries_seen all) i (k, v)
  key_here before = place_here k v i (entries_seen all) (entry_seen x) within_seen got before

  pub key_past : key_before k (value_of x.0) ≡ false
      → take i (entries_seen all) ++ inserted k v (drop i (entries_seen all)) ≡ take (i + 1) (entries_seen all) ++ inserted k v (drop (i + 1) (entries_seen all))
  key_past after = let one : i + 1 ≡ suc i = omega arith in rw one (place_past k v i (entries_seen all) (entry_seen x) within_seen got after)

pub map_of-step : (n : ℕ) (os : List (program_outcome.Outcome × program_outcome.Outcome)) (o : program_outcome.Outcome × program_outcome.Outcome) → n < length os → o ≡ get_or os n o
    → map_of (outcome_pairs_seen (drop n os)) ≡ put_entry (outcome_of o.0) (outcome_of o.1) (map_of (outcome_pairs_seen (drop (suc n) os)))
map_of-step n [] o within is = absurd (omega arith)
map_of-step zero (p ∷ os) o within is = rw is refl
map_of-step (suc n) (p ∷ os) o within is = map_of-step n os o (omega arith) is

pub map_of-drop : (n : ℕ) (os : List (program_outcome.Outcome × program_outcome.Outcome)) → map_of (drop n (outcome_pairs_seen os)) ≡ map_of (outcome_pairs_seen (drop n os))
map_of-drop zero os = refl
map_of-drop (suc n) [] = refl
map_of-drop (suc n) (o ∷ os) = map_of-drop n os
