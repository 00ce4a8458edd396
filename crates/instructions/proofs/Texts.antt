-- Whether bytes are UTF-8, as a test and as a fact.
use Rattle.std.proofs.Common.{◌≡◌, ℕ, Bool, true, false, List, Ok, Err, refl}
use Rattle.std.specs.Str.{IsUtf8, is_utf8}
use Rattle.std.proofs.lemmas.Str.{IsUtf8-from_is_utf8, is_utf8-from_IsUtf8}
use Rattle.instructions.specs.declared.fault.CodeFault.TheVariants as fault
use Rattle.instructions.specs.Reading.{text_of}

pub text_of-utf8 : (bytes text : List ℕ) → IsUtf8 bytes → text ≡ bytes → text_of bytes ≡ Ok text
text_of-utf8 bytes text is same = rw (is_utf8-from_IsUtf8 bytes is, same) refl

decided : (b : Bool) → (b ≡ true → ⊥) → b ≡ false
decided true never = absurd (never refl)
decided false never = refl

pub text_of-other : (bytes : List ℕ) → (IsUtf8 bytes → ⊥) → text_of bytes ≡ Err fault.TextNotUtf8
text_of-other bytes never = rw (decided (is_utf8 bytes) (λ is. never (IsUtf8-from_is_utf8 bytes is))) refl
