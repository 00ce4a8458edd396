-- Numbers in eight bytes, in front of something.
use Rattle.std.proofs.Common.{◌≡◌, ◌∙◌, sym, ap, ◌<◌, ◌^◌, ℕ, List, ◌++◌}
use Rattle.byteorder.specs.Endian.{big_number, big_bytes}
use Rattle.byteorder.specs.Numbers.{big_number-reads_back, length-bytes_high_first}
use Rattle.fields.proofs.Fields.{same-fronts}

pub same_number : (x y : ℕ) (a b : List ℕ) → x < 2 ^ 64 → y < 2 ^ 64 → big_bytes 8 x ++ a ≡ big_bytes 8 y ++ b → x ≡ y
same_number x y a b p q same = sym (big_number-reads_back 8 x a p) ∙ ap (big_number 8) same ∙ big_number-reads_back 8 y b q

-- Two lists of one length in front of others are the same where the whole is.
pub same_numbered : (x y : ℕ) (a b : List ℕ) → x < 2 ^ 64 → y < 2 ^ 64 → big_bytes 8 x ++ a ≡ big_bytes 8 y ++ b → (x ≡ y) × (a ≡ b)
same_numbered x y a b p q same = (
  same_number x y a b p q same,
  (same-fronts (big_bytes 8 x) (big_bytes 8 y) a b (length-bytes_high_first 8 x ∙ sym (length-bytes_high_first 8 y)) same).1,
)
