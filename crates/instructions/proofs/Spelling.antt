-- The two laws: what is read is spelled so, and what is spelled so is read.
use Rattle.std.proofs.Common.{◌≡◌, ℕ, ◌^◌, ◌<◌, Bool, true, false, cond, eqb, List, [], ◌∷◌, ◌++◌, length, Result, Ok, refl, sym, ap, subst, ◌∙◌}
use Rattle.std.specs.Str.{IsUtf8}
use Rattle.std.specs.Int.{w16, w64, cast_signed}
use Rattle.std.proofs.Math.Facts.{sfits_to_z}
use Rattle.std.proofs.lemmas.Int.{of_z-to_z}
use Rattle.std.proofs.lemmas.Bool.{eqb-true}
use Rattle.instructions.specs.declared.fault.CodeFault.{CodeFault}
use Rattle.instructions.specs.Op.{Op, PushInt, PushUint, PushText, PushTruth, PushNull, PushName, PushVariable, PushSlot, TakeField, TakeHas, TakeIndex, TakeItems, TakePairs, TakeUnary, TakeBinary, TakeCall, TakeBoth, TakeEither, IfFalse, IfTrue, Branch, Jump, Over}
use Rattle.instructions.specs.Faults.{◌>>=◌}
use Rattle.instructions.specs.Bytes.{short, long, text_bytes, spelled, Fits, truth_number, name_number, slot_number, prefix_number, binary_number, function_number, macro_number}
use Rattle.instructions.specs.declared.instruction.Name.{Name}
use Rattle.instructions.specs.Reading.{number_at, text_at, truth_of, name_up_to, slot_of, prefix_of, binary_of, function_of, macro_of, with_byte, with_short, with_long, with_text, branch_at, macro_at, leading_at, taking_at, operands_at, op_at, NamesUpTo}
use Rattle.instructions.proofs.Low.{bind_ok}
use Rattle.instructions.proofs.Fields.{IsBytes, IsBytes-rest, ok_is, Takes, Takes-then, wide16, wide64, number_takes, text_takes}
use Rattle.instructions.proofs.Tables.{truth_takes, name_up_to_takes, slot_takes, prefix_takes, binary_takes, function_takes, macro_takes}

-- the operands of an instruction have room, and its name is declared
abbrev pub Room : Name → Op → Type 0
Room g op = Fits op × NamesUpTo g op

-- a number, and the bytes after it, are the bytes of an instruction, and those after it
pub record Spells (g : Name) (b : ℕ) (bytes : List ℕ) (x : Op × List ℕ) : Type 0 where
  pub parts : b ∷ bytes ≡ spelled x.0 ++ x.1
  pub rest_fits : IsBytes x.1
  pub room : Room g x.0

alone_takes : (g : Name) (k : ℕ) (op : Op) → spelled op ≡ k ∷ [] → Room g op → (bytes : List ℕ) (x : Op × List ℕ) → IsBytes bytes → ◌≡◌ {A = Result (Op × List ℕ) CodeFault} (Ok (op, bytes)) (Ok x) → Spells g k bytes x
alone_takes g k op is room bytes x fits e =
    let made : Op × List ℕ = (op, bytes) in
    subst (λ (y : Op × List ℕ). Spells g k bytes y) (ok_is made x e) (record { parts = sym (ap (λ (t : List ℕ). t ++ bytes) is); rest_fits = fits; room = room })

byte_takes : (g : Name) {A : Type 0} (k : ℕ) (table : ℕ → Result A CodeFault) (number : A → ℕ) (make : A → Op) → ((b : ℕ) (y : A) → table b ≡ Ok y → number y ≡ b) → ((y : A) → spelled (make y) ≡ k ∷ number y ∷ []) → ((b : ℕ) (y : A) → table b ≡ Ok y → Room g (make y))
    → (bytes : List ℕ) (x : Op × List ℕ) → IsBytes bytes → with_byte table make bytes ≡ Ok x → Spells g k bytes x
byte_takes g k table number make back is room [] x fits e = absurd cc
byte_takes g k table number make back is room (b ∷ bytes) x fits e =
    let a = bind_ok (table b) (λ y. Ok (make y, bytes)) x e in
    let made : Op × List ℕ = (make a.0, bytes) in
    let n : number a.0 ≡ b = back b a.0 a.1 in
    let p : k ∷ b ∷ bytes ≡ spelled (make a.0) ++ bytes = ap (λ (m : ℕ). k ∷ m ∷ bytes) (sym n) ∙ sym (ap (λ (t : List ℕ). t ++ bytes) (is a.0)) in
    subst (λ (y : Op × List ℕ). Spells g k (b ∷ bytes) y) (ok_is made x a.2) (record { parts = p; rest_fits = IsBytes-rest b bytes fits; room = room b a.0 a.1 })

short_takes : (g : Name) (k : ℕ) (make : ℕ → Op) → ((n : ℕ) → spelled (make n) ≡ k ∷ short n) → ((n : ℕ) → n < 2 ^ 16 → Room g (make n)) → (bytes : List ℕ) (x : Op × List ℕ) → IsBytes bytes → with_short make bytes ≡ Ok x → Spells g k bytes x
short_takes g k make is room bytes x fits e =
    let a = bind_ok (number_at w16 bytes) (λ n. Ok (make n.0, n.1)) x e in
    let t = number_takes w16 (2 ^ 16) wide16 bytes a.0.0 a.0.1 fits a.1 in
    let made : Op × List ℕ = (make a.0.0, a.0.1) in
    let p : k ∷ bytes ≡ spelled (make a.0.0) ++ a.0.1 = ap (λ (t : List ℕ). k ∷ t) t.0.parts ∙ sym (ap (λ (t : List ℕ). t ++ a.0.1) (is a.0.0)) in
    subst (λ (y : Op × List ℕ). Spells g k bytes y) (ok_is made x a.2) (record { parts = p; rest_fits = t.0.rest_fits; room = room a.0.0 t.1 })

long_takes : (g : Name) (k : ℕ) (make : ℕ → Op) → ((n : ℕ) → n < 2 ^ 64 → spelled (make n) ≡ k ∷ long n) → ((n : ℕ) → n < 2 ^ 64 → Room g (make n)) → (bytes : List ℕ) (x : Op × List ℕ) → IsBytes bytes → with_long make bytes ≡ Ok x → Spells g k bytes x
long_takes g k make is room bytes x fits e =
    let a = bind_ok (number_at w64 bytes) (λ n. Ok (make n.0, n.1)) x e in
    let t = number_takes w64 (2 ^ 64) wide64 bytes a.0.0 a.0.1 fits a.1 in
    let made : Op × List ℕ = (make a.0.0, a.0.1) in
    let p : k ∷ bytes ≡ spelled (make a.0.0) ++ a.0.1 = ap (λ (t : List ℕ). k ∷ t) t.0.parts ∙ sym (ap (λ (t : List ℕ). t ++ a.0.1) (is a.0.0 t.1)) in
    subst (λ (y : Op × List ℕ). Spells g k bytes y) (ok_is made x a.2) (record { parts = p; rest_fits = t.0.rest_fits; room = room a.0.0 t.1 })

with_text_takes : (g : Name) (k : ℕ) (make : List ℕ → Op) → ((t : List ℕ) → spelled (make t) ≡ k ∷ text_bytes t) → ((t : List ℕ) → length t < 2 ^ 16 → IsUtf8 t → Room g (make t)) → (bytes : List ℕ) (x : Op × List ℕ) → IsBytes bytes → with_text make bytes ≡ Ok x → Spells g k bytes x
with_text_takes g k make is room bytes x fits e =
    let a = bind_ok (text_at bytes) (λ t. Ok (make t.0, t.1)) x e in
    let t = text_takes bytes a.0.0 a.0.1 fits a.1 in
    let made : Op × List ℕ = (make a.0.0, a.0.1) in
    let p : k ∷ bytes ≡ spelled (make a.0.0) ++ a.0.1 = ap (λ (t : List ℕ). k ∷ t) t.0.parts ∙ sym (ap (λ (t : List ℕ). t ++ a.0.1) (is a.0.0)) in
    subst (λ (y : Op × List ℕ). Spells g k bytes y) (ok_is made x a.2) (record { parts = p; rest_fits = t.0.rest_fits; room = room a.0.0 t.1 t.2 })

branch_takes : (g : Name) (bytes : List ℕ) (x : Op × List ℕ) → IsBytes bytes → branch_at bytes ≡ Ok x → Spells g 21 bytes x
unfolding branch_at
branch_takes g bytes x fits e =
    let a = bind_ok (number_at w16 bytes) (λ o. number_at w16 o.1 >>= λ end. Ok (Branch o.0 end.0, end.1)) x e in
    let c = bind_ok (number_at w16 a.0.1) (λ end. Ok (Branch a.0.0 end.0, end.1)) x a.2 in
    let t0 = number_takes w16 (2 ^ 16) wide16 bytes a.0.0 a.0.1 fits a.1 in
    let t1 = number_takes w16 (2 ^ 16) wide16 a.0.1 c.0.0 c.0.1 t0.0.rest_fits c.1 in
    let both = Takes-then bytes (short a.0.0) a.0.1 (short c.0.0) c.0.1 t0.0 t1.0 in
    let made : Op × List ℕ = (Branch a.0.0 c.0.0, c.0.1) in
    subst (λ (y : Op × List ℕ). Spells g 21 bytes y) (ok_is made x c.2) (record { parts = ap (λ (t : List ℕ). 21 ∷ t) both.parts; rest_fits = both.rest_fits; room = ((t0.1, t1.1), tt) })

over_takes : (g : Name) (bytes : List ℕ) (x : Op × List ℕ) → IsBytes bytes → macro_at bytes ≡ Ok x → Spells g 23 bytes x
unfolding macro_at
over_takes g [] x fits e = absurd cc
over_takes g (b ∷ bytes) x fits e =
    let a = bind_ok (macro_of b) (λ m. number_at w16 bytes >>= λ end. Ok (Over m end.0, end.1)) x e in
    let c = bind_ok (number_at w16 bytes) (λ end. Ok (Over a.0 end.0, end.1)) x a.2 in
    let t = number_takes w16 (2 ^ 16) wide16 bytes c.0.0 c.0.1 (IsBytes-rest b bytes fits) c.1 in
    let n : macro_number a.0 ≡ b = macro_takes b a.0 a.1 in
    let made : Op × List ℕ = (Over a.0 c.0.0, c.0.1) in
    let p : 23 ∷ b ∷ bytes ≡ spelled (Over a.0 c.0.0) ++ c.0.1 = ap (λ (t : List ℕ). 23 ∷ b ∷ t) t.0.parts ∙ ap (λ (m : ℕ). (23 ∷ m ∷ short c.0.0) ++ c.0.1) (sym n) in
    subst (λ (y : Op × List ℕ). Spells g 23 (b ∷ bytes) y) (ok_is made x c.2) (record { parts = p; rest_fits = t.0.rest_fits; room = (t.1, tt) })

chosen : (g : Name) (t : Bool) (b k : ℕ) (bytes : List ℕ) (x : Op × List ℕ) (first rest : Result (Op × List ℕ) CodeFault) → (t ≡ true → b ≡ k) → (first ≡ Ok x → Spells g k bytes x) → (rest ≡ Ok x → Spells g b bytes x) → cond t first rest ≡ Ok x → Spells g b bytes x
chosen g true b k bytes x first rest is here more e = subst (λ (n : ℕ). Spells g n bytes x) (sym (is refl)) (here e)
chosen g false b k bytes x first rest is here more e = more e

-- the number of an instruction
by : (g : Name) (b k : ℕ) (bytes : List ℕ) (x : Op × List ℕ) (first rest : Result (Op × List ℕ) CodeFault) → (first ≡ Ok x → Spells g k bytes x) → (rest ≡ Ok x → Spells g b bytes x) → cond (eqb b k) first rest ≡ Ok x → Spells g b bytes x
by g b k bytes x first rest here more e = chosen g (eqb b k) b k bytes x first rest (eqb-true b k) here more e

leading_takes : (g : Name) (b : ℕ) (bytes : List ℕ) (x : Op × List ℕ) → IsBytes bytes → leading_at b bytes ≡ Ok x → Spells g b bytes x
unfolding leading_at
leading_takes g b bytes x fits e =
    by g b 19 bytes x _ _ (short_takes g 19 IfFalse (λ n. refl) (λ n lt. (lt, tt)) bytes x fits) (λ e.
    by g b 20 bytes x _ _ (short_takes g 20 IfTrue (λ n. refl) (λ n lt. (lt, tt)) bytes x fits) (λ e.
    by g b 21 bytes x _ _ (branch_takes g bytes x fits) (λ e.
    by g b 22 bytes x _ _ (short_takes g 22 Jump (λ n. refl) (λ n lt. (lt, tt)) bytes x fits) (λ e.
    by g b 23 bytes x _ _ (over_takes g bytes x fits) (λ e. absurd cc) e) e) e) e) e

taking_takes : (g : Name) (b : ℕ) (bytes : List ℕ) (x : Op × List ℕ) → IsBytes bytes → taking_at b bytes ≡ Ok x → Spells g b bytes x
unfolding taking_at
taking_takes g b bytes x fits e =
    by g b 9 bytes x _ _ (with_text_takes g 9 TakeField (λ t. refl) (λ t lt u. ((lt, u), tt)) bytes x fits) (λ e.
    by g b 10 bytes x _ _ (with_text_takes g 10 TakeHas (λ t. refl) (λ t lt u. ((lt, u), tt)) bytes x fits) (λ e.
    by g b 11 bytes x _ _ (alone_takes g 11 TakeIndex refl (tt, tt) bytes x fits) (λ e.
    by g b 12 bytes x _ _ (short_takes g 12 TakeItems (λ n. refl) (λ n lt. (lt, tt)) bytes x fits) (λ e.
    by g b 13 bytes x _ _ (short_takes g 13 TakePairs (λ n. refl) (λ n lt. (lt, tt)) bytes x fits) (λ e.
    by g b 14 bytes x _ _ (byte_takes g 14 prefix_of prefix_number TakeUnary prefix_takes (λ y. refl) (λ b y e. (tt, tt)) bytes x fits) (λ e.
    by g b 15 bytes x _ _ (byte_takes g 15 binary_of binary_number TakeBinary binary_takes (λ y. refl) (λ b y e. (tt, tt)) bytes x fits) (λ e.
    by g b 16 bytes x _ _ (byte_takes g 16 function_of function_number TakeCall function_takes (λ y. refl) (λ b y e. (tt, tt)) bytes x fits) (λ e.
    by g b 17 bytes x _ _ (alone_takes g 17 TakeBoth refl (tt, tt) bytes x fits) (λ e.
    by g b 18 bytes x _ _ (alone_takes g 18 TakeEither refl (tt, tt) bytes x fits) (leading_takes g b bytes x fits) e) e) e) e) e) e) e) e) e) e

operands_take : (g : Name) (b : ℕ) (bytes : List ℕ) (x : Op × List ℕ) → IsBytes bytes → operands_at g b bytes ≡ Ok x → Spells g b bytes x
unfolding operands_at
operands_take g b bytes x fits e =
    by g b 1 bytes x _ _ (long_takes g 1 (λ n. PushInt (cast_signed w64 n)) (λ n lt. ap (λ (m : ℕ). 1 ∷ long m) (of_z-to_z w64 n lt)) (λ n lt. (sfits_to_z (record { fits = lt }), tt)) bytes x fits) (λ e.
    by g b 2 bytes x _ _ (long_takes g 2 PushUint (λ n lt. refl) (λ n lt. (lt, tt)) bytes x fits) (λ e.
    by g b 3 bytes x _ _ (with_text_takes g 3 PushText (λ t. refl) (λ t lt u. ((lt, u), tt)) bytes x fits) (λ e.
    by g b 4 bytes x _ _ (byte_takes g 4 truth_of truth_number PushTruth truth_takes (λ y. refl) (λ b y e. (tt, tt)) bytes x fits) (λ e.
    by g b 5 bytes x _ _ (alone_takes g 5 PushNull refl (tt, tt) bytes x fits) (λ e.
    by g b 6 bytes x _ _ (byte_takes g 6 (name_up_to g) name_number PushName (λ b y e. (name_up_to_takes g b y e).0) (λ y. refl) (λ b y e. (tt, (name_up_to_takes g b y e).1)) bytes x fits) (λ e.
    by g b 7 bytes x _ _ (short_takes g 7 PushVariable (λ n. refl) (λ n lt. (lt, tt)) bytes x fits) (λ e.
    by g b 8 bytes x _ _ (byte_takes g 8 slot_of slot_number PushSlot slot_takes (λ y. refl) (λ b y e. (tt, tt)) bytes x fits) (taking_takes g b bytes x fits) e) e) e) e) e) e) e) e

pub op_takes : (g : Name) (bytes : List ℕ) (x : Op × List ℕ) → IsBytes bytes → op_at g bytes ≡ Ok x → Takes bytes (spelled x.0) x.1 × Room g x.0
unfolding op_at
op_takes g [] x fits e = absurd cc
op_takes g (b ∷ bytes) x fits e =
    let s = operands_take g b bytes x (IsBytes-rest b bytes fits) e in
    (record { parts = s.parts; rest_fits = s.rest_fits }, s.room)
