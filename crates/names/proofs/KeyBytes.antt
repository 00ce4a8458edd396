-- Taking key bytes apart at their zero byte.
use Rattle.std.proofs.Common.{◌≡◌, ◌≢◌, ℕ, zero, suc, ◌<◌, List, [], ◌∷◌, ◌++◌, length, get_or, arith, sym, ap, ◌∙◌, Bor, false, IsTrue}
use Rattle.std.proofs.lemmas.Str.{IsUtf8-from_ascii, IsAscii-append}
use Rattle.std.proofs.lemmas.Str.Ascii.{IsAscii-cons}
use Rattle.std.specs.Prelude.{Option, Some, None, Result, Ok, Err, MatchOption, MatchResult, IsSomeAnd}
use Rattle.std.specs.Result.{result_ok}
use Rattle.std.specs.Str.{IsUtf8}
use Rattle.std.specs.List.{IsFirstAndRest}
use Rattle.names.specs.declared.resource.Resource.{Resource}
use Rattle.names.specs.Key.{Key, is_key}
use Rattle.names.specs.KeyParts.{IsPlain}
use Rattle.names.proofs.NameBytes.{IsPlain-IsAscii}

pub IsPlain-no_zero : (bytes : List ℕ) → IsPlain bytes → (i : ℕ) → i < length bytes → get_or bytes i 0 ≢ 0
IsPlain-no_zero [] h i l = absurd (omega arith)
IsPlain-no_zero (byte ∷ bytes) h zero l = let positive = h.0 in omega arith
IsPlain-no_zero (byte ∷ bytes) h (suc i) l = IsPlain-no_zero bytes h.2 i (omega arith)

pub IsUtf8-zero_parted : (front back : List ℕ) → IsPlain front → IsPlain back → IsUtf8 (front ++ 0 ∷ back)
IsUtf8-zero_parted front back p q =
    IsUtf8-from_ascii _ (IsAscii-append front (0 ∷ back) (IsPlain-IsAscii front p) (IsAscii-cons 0 back (omega arith) (IsPlain-IsAscii back q)))

-- what a result says where its value was taken, and where there was none
pub taken_from_ok : {T E : Type 0} (r : Result T E) (x : T) (P : T → Type 0) (Q : E → Type 0) → result_ok r ≡ Some x → MatchResult r P Q → P x
taken_from_ok (Ok y) x P Q e h = let same : y ≡ x = cc in rw (← same) h
taken_from_ok (Err y) x P Q e h = cc

pub refused_from_ok : {T E : Type 0} (r : Result T E) (P : T → Type 0) (Q : Type 0) (R : E → Type 0) → result_ok r ≡ None → MatchResult r P (λ e. Q × R e) → Q
refused_from_ok (Ok y) P Q R e h = cc
refused_from_ok (Err y) P Q R e h = h.0

pub IsSomeAnd-from_match : {T : Type 0} (o : Option T) (P : T → Type 0) → MatchOption o ⊥ P → IsSomeAnd o P
IsSomeAnd-from_match None P h = absurd h
IsSomeAnd-from_match (Some x) P h = h

pub IsSomeAnd-not_none : {T : Type 0} (o : Option T) (P : T → Type 0) → o ≡ None → IsSomeAnd o P → ⊥
IsSomeAnd-not_none None P e h = h
IsSomeAnd-not_none (Some x) P e h = cc

pub IsSomeAnd-at_some : {T : Type 0} (o : Option T) (x : T) (P : T → Type 0) → o ≡ Some x → IsSomeAnd o P → P x
IsSomeAnd-at_some None x P e h = cc
IsSomeAnd-at_some (Some y) x P e h = let same : y ≡ x = cc in rw (← same) h

-- the first byte and the rest, where there are such
pub first_and_rest : (bytes : List ℕ) (o : Option (Bor ℕ × Bor (List ℕ))) (number : Bor ℕ) (parts : Bor (List ℕ)) → o ≡ Some (number, parts)
    → MatchOption o (length bytes ≡ 0) (λ p. IsFirstAndRest bytes p.0.now p.1.now) → bytes ≡ number.now ∷ parts.now
first_and_rest bytes None number parts e h = cc
first_and_rest bytes (Some p) number parts e h =
    let numbers : p.0 ≡ number = cc in
    let rests : p.1 ≡ parts = cc in
    h.0 ∙ (λ i. (numbers i).now ∷ (rests i).now)

-- and where there are none
pub none_first : (bytes : List ℕ) (o : Option (Bor ℕ × Bor (List ℕ))) → o ≡ None
    → MatchOption o (length bytes ≡ 0) (λ p. IsFirstAndRest bytes p.0.now p.1.now) → length bytes ≡ 0
none_first bytes None e h = h
none_first bytes (Some p) e h = cc

-- no key has these parts, if they make none
pub no_key_of_parts : (k : Key) (r : Resource) (namespace name : List ℕ) → k.resource ≡ r → namespace ≡ k.namespace → name ≡ k.name
    → is_key (record { resource = r; namespace = namespace; name = name }) ≡ false → IsTrue (is_key k) → ⊥
no_key_of_parts k r namespace name resources namespaces names refused key =
    let same : k ≡ record { resource = r; namespace = namespace; name = name } = λ i. record { resource = resources i; namespace = sym namespaces i; name = sym names i } in
    let both : is_key k ≡ false = ap is_key same ∙ refused in
    cc
