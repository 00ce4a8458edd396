-- Reading selectors part by part.
use Rattle.std.proofs.Common.{◌≡◌, ◌≢◌, ℕ, Bool, true, false, cond, List, [], ◌∷◌, ◌++◌, append_assoc, Option, Some, None, MatchOption, Bor, option_map, option_and_then, ◌==◌, refl, sym, ap, ◌∙◌, eq-eqb, eqb-true}
use Rattle.documents.specs.Requirement.{Requirement}
use Rattle.requests.specs.Selector.{rest_after}

begins_otherwise : (v : Bool) (byte b : ℕ) (bs : List ℕ) → (b == byte) ≡ v → ((rest : List ℕ) → b ∷ bs ≢ byte ∷ rest)
    → None ≡ cond v (Some bs) None
begins_otherwise true byte b bs is otherwise = absurd (otherwise bs (ap (λ x. x ∷ bs) (eqb-true b byte is)))
begins_otherwise false byte b bs is otherwise = refl

-- what a text begins with, told by an equation
pub after_is : (byte : ℕ) (text : List ℕ) (r : Option (Bor (List ℕ)))
    → MatchOption r ((rest : List ℕ) → text ≢ byte ∷ rest) (λ x. text ≡ byte ∷ x.now) → option_map (λ x. x.now) r ≡ rest_after byte text
after_is byte [] None is = refl
after_is byte [] (Some x) is = absurd (let never : [] ≡ byte ∷ x.now = is in cc)
after_is byte (b ∷ bs) None is = begins_otherwise (b == byte) byte b bs refl is
after_is byte (b ∷ bs) (Some x) is =
    let same : b ≡ byte = cc in let rest : bs ≡ x.now = cc in ap Some (sym rest) ∙ ap (λ v. cond v (Some bs) None) (sym (eq-eqb b byte same))

-- these requirements, and then those of the rest
abbrev pub followed_by : List Requirement → Option (List Requirement) → Option (List Requirement)
followed_by front rest = option_map (λ rs. front ++ rs) rest

pub followed_by-nil : (rest : Option (List Requirement)) → followed_by [] rest ≡ rest
followed_by-nil None = refl
followed_by-nil (Some rs) = refl

pub followed_by-more : (front : List Requirement) (r : Requirement) (o : Option Requirement) (rest : Option (List Requirement)) → o ≡ Some r
    → followed_by front (option_and_then (λ x. option_map (λ rs. x ∷ rs) rest) o) ≡ followed_by (front ++ r ∷ []) rest
followed_by-more front r None rest is = absurd (let never : None ≡ Some r = is in cc)
followed_by-more front r (Some x) None is = refl
followed_by-more front r (Some x) (Some rs) is = let same : x ≡ r = cc in ap (λ q. Some (front ++ q ∷ rs)) same ∙ ap Some (sym (append_assoc front (r ∷ []) rs))

pub followed_by-none : (front : List Requirement) (o : Option Requirement) (rest : Option (List Requirement)) → o ≡ None
    → followed_by front (option_and_then (λ x. option_map (λ rs. x ∷ rs) rest) o) ≡ None
followed_by-none front None rest is = refl
followed_by-none front (Some x) rest is = absurd (let never : Some x ≡ None = is in cc)
