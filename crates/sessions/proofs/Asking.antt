-- What the reading of a message says of it, and of those before the first that a constant answers.
use Rattle.std.proofs.Common.{arith, ◌≡◌, ◌∙◌, sym, ap, refl, subst, inl, inr, ◌<◌, ℕ, false, List, [], ◌∷◌, ◌++◌, append_assoc, map, length, get_or, Option, Some, None, Result, Ok, Err, IfOk, IfSome}
use Rattle.std.specs.Prelude.{is_some, if◌then◌else◌}
use Rattle.std.proofs.lemmas.List.{append-nil}
use Rattle.std.specs.Option.{option_map_or}
use Rattle.names.specs.declared.format.Format.{Format}
use Rattle.requests.specs.declared.refusal.Refusal.TheVariants.{OutOfMemory}
use Rattle.httpmsg.specs.Stream.{Message}
use Rattle.routes.specs.ReplyBytes.{closing_bytes}
use Rattle.dialect.specs.ConstantBytes.{constant_bytes}
use Rattle.dialect.specs.Restated.{asks, constant, constant_of, restated, reading_of}
use Rattle.sessions.specs.State.{State, GoesOnWith, Closes}
use Rattle.sessions.specs.Restating.{first_constant, asking, behind, Gives}

pub if_some : {A : Type 0} (o : Option A) (P Q : A → Type 0) → ((a : A) → P a → Q a) → IfSome o P → IfSome o Q
if_some None P Q on is = is
if_some (Some a) P Q on is = on a is

pub if_ok_some : {A E : Type 0} (r : Result (Option A) E) (P Q : A → Type 0) → ((a : A) → P a → Q a) → IfOk r (λ o. IfSome o P) → IfOk r (λ o. IfSome o Q)
if_ok_some (Err e) P Q on is = is
if_ok_some (Ok o) P Q on is = if_some o P Q on is

of_constant : (o : Option (List ℕ)) (x : Message) (t : List ℕ) → constant t ≡ option_map_or constant o (asks x) → o ≡ Some t
of_constant None x t is = absurd cc
of_constant (Some u) x t is = cc

-- a message that reads as a constant is answered by it
pub constant_is : (f : Format) (m : Message) (t : List ℕ) → constant t ≡ reading_of f m → constant_of f m ≡ Some t
constant_is f m t is = of_constant (constant_of f m) (restated f m) t is

of_none : (o : Option (List ℕ)) (x y : Message) → asks y ≡ option_map_or constant o (asks x) → (o ≡ None) × (x ≡ y)
of_none None x y is = (refl, cc)
of_none (Some u) x y is = absurd cc

-- one that asks is answered by none, and is restated so
asks_so : (f : Format) (m x : Message) → asks x ≡ reading_of f m → (constant_of f m ≡ None) × (restated f m ≡ x)
asks_so f m x is = of_none (constant_of f m) (restated f m) x is

-- the message that is there first
first_item : (ms : List Message) (m : Message) → 0 < length ms → m ≡ get_or ms 0 m → (rest : List Message) × (ms ≡ m ∷ rest)
first_item [] m some is = absurd (omega (arith, some))
first_item (x ∷ xs) m some is = (xs, ap (λ y. y ∷ xs) (sym is))

pub first_is : (f : Format) (ms : List Message) (m : Message) (t : List ℕ) → 0 < length ms → m ≡ get_or ms 0 m → constant_of f m ≡ Some t → first_constant f ms ≡ Some t
first_is f ms m t some is told = let found = first_item ms m some is in ap (first_constant f) found.1 ∙ told

-- what was taken is all, where a constant answers the first of the others
pub taken_all : (f g : Format) (taken ms : List Message) (m : Message) (all : List Message) (t : List ℕ) → g ≡ f → 0 < length ms → m ≡ get_or ms 0 m → constant t ≡ reading_of g m
    → taken ++ map (restated f) (asking f ms) ≡ all → taken ≡ all
taken_all f g taken ms m all t same some is reads before =
    let found = first_item ms m some is in
    let reads_so : constant t ≡ reading_of f m = subst (λ h. constant t ≡ reading_of h m) same reads in
    let From : List Message → Type 0 = λ xs. taken ++ map (restated f) (asking f xs) ≡ all in
    let Of : Option (List ℕ) → Type 0 = λ o. taken ++ map (restated f) (if is_some o then [] else m ∷ asking f found.0) ≡ all in
    sym (append-nil taken) ∙ subst Of (constant_is f m t reads_so) (subst From found.1 before)

pub rest_all : (f g : Format) (ms : List Message) (m : Message) (all : List Message) (t : List ℕ) → g ≡ f → 0 < length ms → m ≡ get_or ms 0 m → constant t ≡ reading_of g m
    → behind f ms ≡ all → ms ≡ all
rest_all f g ms m all t same some is reads before =
    let found = first_item ms m some is in
    let reads_so : constant t ≡ reading_of f m = subst (λ h. constant t ≡ reading_of h m) same reads in
    let From : List Message → Type 0 = λ xs. behind f xs ≡ all in
    let Of : Option (List ℕ) → Type 0 = λ o. (if is_some o then m ∷ found.0 else behind f found.0) ≡ all in
    found.1 ∙ subst Of (constant_is f m t reads_so) (subst From found.1 before)

-- one more is taken
pub taken_more : (f g : Format) (taken ms : List Message) (m x : Message) (rest all now : List Message) → g ≡ f → ms ≡ m ∷ rest → asks x ≡ reading_of g m → now ≡ taken ++ x ∷ []
    → taken ++ map (restated f) (asking f ms) ≡ all → now ++ map (restated f) (asking f rest) ≡ all
taken_more f g taken ms m x rest all now same first reads more before =
    let so = asks_so f m x (subst (λ h. asks x ≡ reading_of h m) same reads) in
    let From : List Message → Type 0 = λ xs. taken ++ map (restated f) (asking f xs) ≡ all in
    let Of : Option (List ℕ) → Type 0 = λ o. taken ++ map (restated f) (if is_some o then [] else m ∷ asking f rest) ≡ all in
    let With : Message → Type 0 = λ y. (taken ++ y ∷ []) ++ map (restated f) (asking f rest) ≡ all in
    let Now : List Message → Type 0 = λ xs. xs ++ map (restated f) (asking f rest) ≡ all in
    subst Now (sym more) (subst With so.1 (append_assoc taken (restated f m ∷ []) (map (restated f) (asking f rest)) ∙ subst Of so.0 (subst From first before)))

pub rest_more : (f g : Format) (ms : List Message) (m x : Message) (rest all : List Message) → g ≡ f → ms ≡ m ∷ rest → asks x ≡ reading_of g m → behind f ms ≡ all → behind f rest ≡ all
rest_more f g ms m x rest all same first reads before =
    let so = asks_so f m x (subst (λ h. asks x ≡ reading_of h m) same reads) in
    let From : List Message → Type 0 = λ xs. behind f xs ≡ all in
    let Of : Option (List ℕ) → Type 0 = λ o. (if is_some o then m ∷ rest else behind f rest) ≡ all in
    subst Of so.0 (subst From first before)

-- what becomes of the messages before a session
pub answers_first : (f : Format) (before after : List Message) (old new : State) (m : Message) (text : List ℕ) → before ≡ m ∷ after → constant_of f m ≡ Some text
    → GoesOnWith old new (constant_bytes m text) → Gives f before after old new (Some m)
answers_first f before after old new m text first is gains = record { text = text; first = first; constant = is; gains = gains }

pub gives_up : (f : Format) (before after : List Message) (old new : State) → after ≡ [] → Closes old new (closing_bytes false OutOfMemory) → new.progress ≡ old.progress
    → Gives f before after old new None
gives_up f before after old new none closes progress = inr (record { none = none; closes = closes; progress = progress })
