-- The messages that are routed so far, and one more.
use Rattle.std.proofs.Common.{arith, ◌≡◌, ◌∙◌, sym, ap, ◌≤◌, ◌<◌, ◌+◌, ℕ, List, [], ◌∷◌, ◌++◌, length, map, take, get_or}
use Rattle.std.proofs.lemmas.List.{length-map, length-take, map_push, take_more}

-- as many are routed as were looked at
pub front_length : {A B C : Type 0} (f : A → C) (g : B → C) (n : ℕ) (routed : List A) (messages : List B) → map f routed ≡ map g (take n messages) → n ≤ length messages
    → length routed ≡ n
front_length f g n routed messages is le = omega (
  arith,
  le,
  sym (length-map routed f) ∙ ap length is,
  length-map (take n messages) g,
  length-take n messages,
)

-- one more is routed
pub one_more : {A B C : Type 0} (f : A → C) (g : B → C) (routed new : List A) (one : A) (messages : List B) (i : ℕ) (message : B) → i < length messages
    → message ≡ get_or messages i message → f one ≡ g message → new ≡ routed ++ one ∷ [] → map f routed ≡ map g (take i messages)
    → map f new ≡ map g (take (i + 1) messages)
one_more {A} {B} {C} f g routed new one messages i message below is same now before =
    ap (map f) now ∙ map_push f routed one ∙ ap (λ (xs : List C). xs ++ f one ∷ []) before
    ∙ ap (λ (x : C). map g (take i messages) ++ x ∷ []) (same ∙ ap g is)
    ∙ sym (ap (map g) (take_more messages i message below) ∙ map_push g (take i messages) (get_or messages i message))

-- so what is said of the first this many messages is said of as many as were routed
pub up_to : {A B C : Type 0} (f : A → C) (g : B → C) (n k : ℕ) (routed : List A) (messages : List B) → n ≡ k → map f routed ≡ map g (take n messages)
    → map f routed ≡ map g (take k messages)
up_to f g n k routed messages same is = is ∙ ap (λ (m : ℕ). map g (take m messages)) same
