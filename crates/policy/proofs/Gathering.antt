-- What was read of a list, item by item.
use Rattle.std.proofs.Common.{◌≡◌, ◌<◌, ◌+◌, ℕ, suc, Bool, true, false, cond, Bor, List, [], ◌∷◌, ◌++◌, Option, Some, None, option_map, map, length, get_or, drop, drop-cons, add-one, refl, sym, ap, ◌∙◌, rules}
use Rattle.std.proofs.lemmas.Grind.{common_steps}
use Rattle.std.proofs.lemmas.List.{append-nil, length-map, map_push}
use Rattle.std.specs.Str.{bytes_eq}
use Rattle.serde_json.specs.Data.{Data, Members, member}
use Rattle.serde_json.specs.View.{view, items_view}
use Rattle.serde_json.specs.declared.value.Value.{Value}
use Rattle.documents.specs.Requirement.{Requirement, requirement_seen}
use Rattle.documents.specs.declared.requirement.Requirement as code
use Rattle.policy.specs.Forms.{Text, after, each, given, row_of}
use Rattle.policy.specs.MatchRules.{label_of, labels_of}

pub after_more : {A : Type 0} (xs : List A) (x : A) (o : Option (List A)) → after xs (option_map (λ ys. x ∷ ys) o) ≡ after (xs ++ x ∷ []) o
after_more xs x None = refl
after_more {A} xs x (Some ys) = let p : xs ++ (x ∷ ys) ≡ (xs ++ x ∷ []) ++ ys = search (rules, common_steps) in ap Some p

pub after_none : {A : Type 0} (o : Option (List A)) → o ≡ after [] o
after_none None = refl
after_none (Some ys) = refl

pub mapped_length : {A B : Type 0} (f : A → B) (xs : List A) → length (map f xs) ≡ length xs
mapped_length f xs = length-map xs f

pub mapped_append : {A B : Type 0} (f : A → B) (xs ys : List A) → map f (xs ++ ys) ≡ map f xs ++ map f ys
mapped_append f xs ys = search (rules, common_steps)

pub same_option : {A : Type 0} (o : Option A) → option_map (λ x. x) o ≡ o
same_option None = refl
same_option (Some x) = refl

-- the first label is read
pub label_read : (whole : Option (List Requirement)) (read : List code.Requirement) (r : code.Requirement) (key : Text) (d : Data) (rest : Members)
    → label_of key d ≡ Some (requirement_seen r) → whole ≡ after (map requirement_seen read) (labels_of (member key d rest))
    → whole ≡ after (map requirement_seen (read ++ r ∷ [])) (labels_of rest)
label_read whole read r key d rest found before =
    before ∙ ap (λ (o : Option Requirement). after (map requirement_seen read) (given o (λ label. option_map (λ labels. label ∷ labels) (labels_of rest)))) found
    ∙ after_more (map requirement_seen read) (requirement_seen r) (labels_of rest) ∙ ap (λ (ys : List Requirement). after ys (labels_of rest)) (sym (map_push requirement_seen read r))

-- what is left of a list begins with its next item
each_next : {A : Type 0} (f : Data → Option A) (xs : List Value) (i : ℕ) (x : Value) → i < length xs → x ≡ get_or xs i x
    → each f (items_view (drop i xs)) ≡ given (f (view x)) (λ y. option_map (λ ys. y ∷ ys) (each f (items_view (drop (i + 1) xs))))
each_next f xs i x inside is =
    let next : drop i xs ≡ x ∷ drop (i + 1) xs = rw add-one (drop-cons xs i x inside ∙ ap (λ (y : Value). y ∷ drop (suc i) xs) (sym is)) in
    ap (λ (rest : List Value). each f (items_view rest)) next

-- once the next item is read
pub each_read : {S A : Type 0} (f : Data → Option A) (seen : S → A) (whole : Option (List A)) (xs : List Value) (i : ℕ) (x : Value) (read : List S) (v : S)
    → i < length xs → x ≡ get_or xs i x → f (view x) ≡ Some (seen v) → whole ≡ after (map seen read) (each f (items_view (drop i xs)))
    → whole ≡ after (map seen (read ++ v ∷ [])) (each f (items_view (drop (i + 1) xs)))
each_read {S} {A} f seen whole xs i x read v inside is found before =
    let rest : Option (List A) = each f (items_view (drop (i + 1) xs)) in
    before ∙ ap (after (map seen read)) (each_next f xs i x inside is) ∙ ap (λ (o : Option A). after (map seen read) (given o (λ y. option_map (λ ys. y ∷ ys) rest))) found
    ∙ after_more (map seen read) (seen v) rest ∙ ap (λ (ys : List A). after ys rest) (sym (map_push seen read v))

-- where the next item has not the form
pub each_refused : {A : Type 0} (f : Data → Option A) (ys : List A) (whole : Option (List A)) (xs : List Value) (i : ℕ) (x : Value) → i < length xs → x ≡ get_or xs i x
    → f (view x) ≡ None → whole ≡ after ys (each f (items_view (drop i xs))) → whole ≡ None
each_refused {A} f ys whole xs i x inside is refused before =
    let rest : Option (List A) = each f (items_view (drop (i + 1) xs)) in
    before ∙ ap (after ys) (each_next f xs i x inside is) ∙ ap (λ (o : Option A). after ys (given o (λ y. option_map (λ zs. y ∷ zs) rest))) refused

-- once all items are read
pub each_whole : {S A : Type 0} (f : Data → Option A) (seen : S → A) (whole : Option (List A)) (read : List S)
    → whole ≡ after (map seen read) (each f (items_view [])) → whole ≡ Some (map seen read)
each_whole f seen whole read before = before ∙ ap Some (append-nil (map seen read))

-- what is left of a table begins with its next row
row_next : {A : Type 0} (rows : List (Bor Text × A)) (i : ℕ) (row : Bor Text × A) (text : Text) → i < length rows → row ≡ get_or rows i row
    → row_of (map (λ r. (r.0.now, r.1)) (drop i rows)) text ≡ cond (bytes_eq text row.0.now) (Some row.1) (row_of (map (λ r. (r.0.now, r.1)) (drop (i + 1) rows)) text)
row_next {A} rows i row text inside is =
    let next : drop i rows ≡ row ∷ drop (i + 1) rows = rw add-one (drop-cons rows i row inside ∙ ap (λ (y : Bor Text × A). y ∷ drop (suc i) rows) (sym is)) in
    ap (λ (rest : List (Bor Text × A)). row_of (map (λ r. (r.0.now, r.1)) rest) text) next

-- where the next row is of another text
pub row_passed : {A : Type 0} (rows : List (Bor Text × A)) (i : ℕ) (row : Bor Text × A) (text : Text) (whole : Option A) → i < length rows → row ≡ get_or rows i row
    → bytes_eq text row.0.now ≡ false → row_of (map (λ r. (r.0.now, r.1)) (drop i rows)) text ≡ whole
    → row_of (map (λ r. (r.0.now, r.1)) (drop (i + 1) rows)) text ≡ whole
row_passed {A} rows i row text whole inside is other before =
    let rest : Option A = row_of (map (λ r. (r.0.now, r.1)) (drop (i + 1) rows)) text in
    sym (row_next rows i row text inside is ∙ ap (λ (b : Bool). cond b (Some row.1) rest) other) ∙ before

-- where it is the text's
pub row_found : {A : Type 0} (rows : List (Bor Text × A)) (i : ℕ) (row : Bor Text × A) (text : Text) (whole : Option A) → i < length rows → row ≡ get_or rows i row
    → bytes_eq text row.0.now ≡ true → row_of (map (λ r. (r.0.now, r.1)) (drop i rows)) text ≡ whole → whole ≡ Some row.1
row_found {A} rows i row text whole inside is same before =
    let rest : Option A = row_of (map (λ r. (r.0.now, r.1)) (drop (i + 1) rows)) text in
    sym before ∙ row_next rows i row text inside is ∙ ap (λ (b : Bool). cond b (Some row.1) rest) same
