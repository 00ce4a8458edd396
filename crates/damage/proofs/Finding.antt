-- An entry that was found among others.
use Rattle.std.proofs.Common.{arith, ◌≡◌, ◌<◌, ◌+◌, ◌∙◌, sym, ap, subst, ℕ, List, [], ◌∷◌, ◌++◌, length, length-append, map, ⊎_elim, take, drop, get_or}
use Rattle.std.specs.Prelude.{Contains}
use Rattle.std.proofs.lemmas.List.{take-append-drop, take_more, drop_more, get_or-map, length-map}
use Rattle.std.proofs.lemmas.List.Elements.{Contains-get_or, Contains-push_cases}
use Rattle.names.specs.Key.{Key, key_bytes}
use Rattle.pages.specs.Page.{Entry}
use Rattle.damage.specs.Entries.{IsOfNothing, IsOneOfNothing, AreWithout}

-- the entries in front of one, it, and those behind it
pub split_there : (entries : List Entry) (i : ℕ) (e : Entry) → i < length entries → get_or entries i e ≡ e → entries ≡ take i entries ++ e ∷ drop (i + 1) entries
split_there entries i e below there =
    sym (take-append-drop i entries)
    ∙ ap (λ (rest : List Entry). take i entries ++ rest) (drop_more entries i e below ∙ ap (λ (x : Entry). x ∷ drop (i + 1) entries) there)

pub one_there : (entries : List Entry) (i : ℕ) (e : Entry) (key : List ℕ) → i < length entries → get_or entries i e ≡ e → IsOfNothing e → key ≡ e.0
    → IsOneOfNothing entries key
one_there entries i e key below there damaged is =
    let Of : List ℕ → Type 0 = λ k. IsOneOfNothing entries k in
    subst Of (sym is) (record {
      before = take i entries;
      value = e.1;
      after = drop (i + 1) entries;
      are = split_there entries i e below there;
      damaged = damaged;
    })

none_pushed : (xs : List Entry) (x : Entry) → length (xs ++ x ∷ []) ≡ 0 → ⊥
none_pushed xs x none = omega (arith, none, length-append xs (x ∷ []))

-- the last of some entries
pub last_same : (xs ys : List Entry) (x y : Entry) → xs ++ x ∷ [] ≡ ys ++ y ∷ [] → x ≡ y
last_same [] [] x y same = cc
last_same [] (b ∷ ys) x y same = let rest : [] ≡ ys ++ y ∷ [] = cc in absurd (none_pushed ys y (sym (ap length rest)))
last_same (a ∷ xs) [] x y same = let rest : xs ++ x ∷ [] ≡ [] = cc in absurd (none_pushed xs x (ap length rest))
last_same (a ∷ xs) (b ∷ ys) x y same = let rest : xs ++ x ∷ [] ≡ ys ++ y ∷ [] = cc in last_same xs ys x y rest

-- there is one
pub some_last : (entries others : List Entry) (e : Entry) → length entries ≡ 0 → entries ≡ others ++ e ∷ [] → ⊥
some_last entries others e none is = none_pushed others e (ap length (sym is) ∙ none)

-- what stands at a place
pub contains_here : {X : Type 0} (xs : List X) (i : ℕ) (x : X) → i < length xs → x ≡ get_or xs i x → Contains xs x
contains_here {X} xs i x below is = let In : X → Type 0 = λ y. Contains xs y in subst In (sym is) (Contains-get_or xs i x below)

-- and what a list that is made of it has there
pub contains_mapped : {X Y : Type 0} (f : X → Y) (xs : List X) (i : ℕ) (x : X) (y : Y) → i < length xs → x ≡ get_or xs i x → f x ≡ y → Contains (map f xs) y
contains_mapped {X} {Y} f xs i x y below is same =
    let at : get_or (map f xs) i (f x) ≡ y = get_or-map f xs i x (f x) below ∙ ap f (sym is) ∙ same in
    let In : Y → Type 0 = λ z. Contains (map f xs) z in
    subst In at (Contains-get_or (map f xs) i (f x) (omega (arith, below, length-map xs f)))

-- one entry more that has not the key
pub without_more : (key : Key) (entries : List Entry) (i : ℕ) (e : Entry) → i < length entries → e ≡ get_or entries i e → (e.0 ≡ 1 ∷ key_bytes key → ⊥) → AreWithout key (take i entries)
    → AreWithout key (take (i + 1) entries)
without_more key entries i e below is other before entry has same =
    let In : List Entry → Type 0 = λ es. Contains es entry in
    ⊎_elim (λ earlier. before entry earlier same) (λ last. other (ap (λ (x : Entry). x.0) (is ∙ last) ∙ same))
    (Contains-push_cases (take i entries) (get_or entries i e) entry (subst In (take_more entries i e below) has))
