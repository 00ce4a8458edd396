-- What is spelled is read again, whatever follows it.
use Rattle.std.proofs.Common.{◌≡◌, ℕ, ℤ, ◌^◌, ◌<◌, List, ◌∷◌, ◌++◌, length, Ok, refl, ap, ◌∙◌, append_assoc}
use Rattle.std.specs.Int.{w16, w64, cast_signed, cast_unsigned}
use Rattle.std.specs.Str.{IsUtf8}
use Rattle.celtree.specs.declared.tree.Macro.{Macro}
use Rattle.std.proofs.Math.Facts.{Fits-of_z}
use Rattle.std.proofs.lemmas.Int.{to_z-of_z}
use Rattle.instructions.specs.Op.{Op, PushInt, PushUint, PushText, PushTruth, PushNull, PushName, PushVariable, PushSlot, TakeField, TakeHas, TakeIndex, TakeItems, TakePairs, TakeUnary, TakeBinary, TakeCall, TakeBoth, TakeEither, IfFalse, IfTrue, Branch, Jump, Over}
use Rattle.instructions.specs.Faults.{◌>>=◌}
use Rattle.instructions.specs.Bytes.{short, long, text_bytes, spelled, Fits, macro_number}
use Rattle.instructions.specs.declared.instruction.Name.{Name}
use Rattle.instructions.specs.Reading.{number_at, with_short, with_long, with_text, branch_at, macro_at, leading_at, taking_at, operands_at, op_at, NamesUpTo}
use Rattle.instructions.proofs.Fields.{short_again, long_again, text_again}
use Rattle.instructions.proofs.Tables.{truth_again, name_up_to_again, slot_again, prefix_again, binary_again, function_again, macro_again}

with_short_again : (make : ℕ → Op) (n : ℕ) (rest : List ℕ) → n < 2 ^ 16 → with_short make (short n ++ rest) ≡ Ok (make n, rest)
with_short_again make n rest lt = ap (λ r. r >>= λ x. Ok (make x.0, x.1)) (short_again n rest lt)

with_long_again : (make : ℕ → Op) (n : ℕ) (rest : List ℕ) → n < 2 ^ 64 → with_long make (long n ++ rest) ≡ Ok (make n, rest)
with_long_again make n rest lt = ap (λ r. r >>= λ x. Ok (make x.0, x.1)) (long_again n rest lt)

branch_again : (otherwise end : ℕ) (rest : List ℕ) → otherwise < 2 ^ 16 → end < 2 ^ 16 → branch_at (short otherwise ++ (short end ++ rest)) ≡ Ok (Branch otherwise end, rest)
unfolding branch_at
branch_again otherwise end rest lt less =
    ap (λ r. r >>= λ o. number_at w16 o.1 >>= λ e. Ok (Branch o.0 e.0, e.1)) (short_again otherwise (short end ++ rest) lt)
    ∙ ap (λ r. r >>= λ e. Ok (Branch otherwise e.0, e.1)) (short_again end rest less)

over_again : (m : Macro) (end : ℕ) (rest : List ℕ) → end < 2 ^ 16 → macro_at (macro_number m ∷ (short end ++ rest)) ≡ Ok (Over m end, rest)
unfolding macro_at
over_again m end rest lt =
    ap (λ r. r >>= λ k. number_at w16 (short end ++ rest) >>= λ e. Ok (Over k e.0, e.1)) (macro_again m)
    ∙ ap (λ r. r >>= λ e. Ok (Over m e.0, e.1)) (short_again end rest lt)

text_op_again : (make : List ℕ → Op) (text rest : List ℕ) → length text < 2 ^ 16 → IsUtf8 text → with_text make (text_bytes text ++ rest) ≡ Ok (make text, rest)
text_op_again make text rest lt u = ap (λ r. r >>= λ t. Ok (make t.0, t.1)) (text_again text rest lt u)

pub op_again : (g : Name) (op : Op) (rest : List ℕ) → Fits op → NamesUpTo g op → op_at g (spelled op ++ rest) ≡ Ok (op, rest)
unfolding op_at operands_at taking_at leading_at
op_again g (PushInt n) rest fits known = with_long_again (λ m. PushInt (cast_signed w64 m)) (cast_unsigned w64 n) rest (Fits-of_z fits).fits ∙ ap (λ (z : ℤ). Ok (PushInt z, rest)) (to_z-of_z w64 n fits)
op_again g (PushUint n) rest fits known = with_long_again PushUint n rest fits
op_again g (PushText text) rest fits known = text_op_again PushText text rest fits.0 fits.1
op_again g (PushTruth b) rest fits known = ap (λ r. r >>= λ x. Ok (PushTruth x, rest)) (truth_again b)
op_again g PushNull rest fits known = refl
op_again g (PushName x) rest fits known = ap (λ r. r >>= λ x. Ok (PushName x, rest)) (name_up_to_again g x known)
op_again g (PushVariable place) rest fits known = with_short_again PushVariable place rest fits
op_again g (PushSlot s) rest fits known = ap (λ r. r >>= λ x. Ok (PushSlot x, rest)) (slot_again s)
op_again g (TakeField f) rest fits known = text_op_again TakeField f rest fits.0 fits.1
op_again g (TakeHas f) rest fits known = text_op_again TakeHas f rest fits.0 fits.1
op_again g TakeIndex rest fits known = refl
op_again g (TakeItems count) rest fits known = with_short_again TakeItems count rest fits
op_again g (TakePairs count) rest fits known = with_short_again TakePairs count rest fits
op_again g (TakeUnary p) rest fits known = ap (λ r. r >>= λ x. Ok (TakeUnary x, rest)) (prefix_again p)
op_again g (TakeBinary o) rest fits known = ap (λ r. r >>= λ x. Ok (TakeBinary x, rest)) (binary_again o)
op_again g (TakeCall f) rest fits known = ap (λ r. r >>= λ x. Ok (TakeCall x, rest)) (function_again f)
op_again g TakeBoth rest fits known = refl
op_again g TakeEither rest fits known = refl
op_again g (IfFalse target) rest fits known = with_short_again IfFalse target rest fits
op_again g (IfTrue target) rest fits known = with_short_again IfTrue target rest fits
op_again g (Branch otherwise end) rest fits known = ap branch_at (append_assoc (short otherwise) (short end) rest) ∙ branch_again otherwise end rest fits.0 fits.1
op_again g (Jump target) rest fits known = with_short_again Jump target rest fits
op_again g (Over m end) rest fits known = over_again m end rest fits
