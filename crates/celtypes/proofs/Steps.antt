-- What a step gave, where the whole gave something.
use Rattle.std.proofs.Common.{◌≡◌, ◌≢◌, ℕ, Bool, true, false, cond, Option, Some, None, option_map, option_and_then, List, bytes_eq, refl}
use Rattle.std.proofs.lemmas.Option.{option_and_then_some, none-some, same_Some}
use Rattle.std.proofs.lemmas.Bool.{false_from_ne_true}
use Rattle.std.proofs.lemmas.Slice.Eq.{bytes_eq-Decides}

pub map_some : {A B P : Type 0} (f : A → B) (o : Option A) (y : B) → option_map f o ≡ Some y → ((x : A) → o ≡ Some x → f x ≡ y → P) → P
map_some f None y h k = absurd (none-some y h)
map_some f (Some x) y h k = k x refl (same_Some (f x) y h)

pub both_some : {A B C P : Type 0} (f : A → B → Option C) (o : Option A) (p : Option B) (y : C) → option_and_then (λ a. option_and_then (f a) p) o ≡ Some y
    → ((a : A) (b : B) → o ≡ Some a → p ≡ Some b → f a b ≡ Some y → P) → P
both_some f o p y h k = option_and_then_some (λ a. option_and_then (f a) p) o y h (λ a q r. option_and_then_some (f a) p y r (λ b s t. k a b q s t))

pub if_some : {A P : Type 0} (b : Bool) (x y : Option A) (r : A) → cond b x y ≡ Some r → (b ≡ true → x ≡ Some r → P) → (b ≡ false → y ≡ Some r → P) → P
if_some true x y r h first second = first refl h
if_some false x y r h first second = second refl h

pub named : (x y : List ℕ) → bytes_eq x y ≡ true → x ≡ y
named x y e = (bytes_eq-Decides x y).0 e

pub unnamed : (x y : List ℕ) → x ≢ y → bytes_eq x y ≡ false
unnamed x y other = false_from_ne_true (bytes_eq x y) (λ e. other (named x y e))
