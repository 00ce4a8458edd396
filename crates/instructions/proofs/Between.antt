-- The last macro in front of a place, and the macros between an instruction and its target.
use Rattle.std.proofs.Common.{◌≡◌, ℕ, ◌+◌, ◌-◌, ◌<◌, ◌≤◌, Bool, true, false, not, cond, ◌&&◌, nat_lt, nat_le, List, [], ◌∷◌, ◌++◌, length, take, drop, get_or, refl, sym, ap, ◌∙◌, arith, le-leb, ltb-true, ltb-false, take-add, slice_get, Some, None, lt-ltb, le-ltb, subst, ⊎_elim, eq-or-lt_of_le}
use Rattle.std.specs.List.{list_all}
use Rattle.std.proofs.lemmas.Bool.{lt-leb}
use Rattle.std.proofs.lemmas.List.{take_more, length-take-le, length-map, get_or-map, get_or_append_left}
use Rattle.std.proofs.lemmas.Option.{get_or_from_slice_get, slice_get-get_or}
use Rattle.std.proofs.Math.Seq.{take-length, get_or-append_seam}
use Rattle.instructions.specs.declared.instruction.Instruction.{Instruction}
use Rattle.instructions.specs.Seen.{op_of, ops_of}
use Rattle.instructions.specs.Op.{Op}
use Rattle.instructions.specs.Judging.{goes_past, is_fair}
use Rattle.instructions.specs.declared.macros.Span.{Span}
use Rattle.instructions.specs.Macros.{last_start, last_of, Tells, is_clear}

last_start_append : (place at found : ℕ) (ops more : List Op) → last_start place at found (ops ++ more) ≡ last_start place (at + length ops) (last_start place at found ops) more
last_start_append place at found [] more = ap (λ (n : ℕ). last_start place n found more) (omega arith)
last_start_append place at found (op ∷ ops) more =
    let f = cond (goes_past place op) (at + 1) found in
    last_start_append place (at + 1) f ops more ∙ ap (λ (n : ℕ). last_start place n (last_start place (at + 1) f ops) more) (omega arith)

pub last_of_append : (place found : ℕ) (spans : List Span) (s : Span) → last_of place found (spans ++ s ∷ []) ≡ cond (nat_lt place s.end) s.start (last_of place found spans)
last_of_append place found [] s = refl
last_of_append place found (x ∷ spans) s = last_of_append place (cond (nat_lt place x.end) x.start found) spans s

-- what was found is never after what is found later
no_earlier : (place at found : ℕ) (ops : List Op) → found ≤ at → found ≤ last_start place at found ops
no_earlier place at found [] le = omega arith
no_earlier place at found (op ∷ ops) le =
    elim (goes_past place op) as (λ b. found ≤ last_start place (at + 1) (cond b (at + 1) found) ops) [
      | true ↦ (let k : at + 1 ≤ last_start place (at + 1) (at + 1) ops = no_earlier place (at + 1) (at + 1) ops (omega arith) in omega arith)
      | false ↦ no_earlier place (at + 1) found ops (omega arith)
    ]

no_later : (place at found : ℕ) (ops : List Op) → found ≤ at → last_start place at found ops ≤ at + length ops
no_later place at found [] le = omega arith
no_later place at found (op ∷ ops) le =
    elim (goes_past place op) as (λ b. last_start place (at + 1) (cond b (at + 1) found) ops ≤ at + length (op ∷ ops)) [
      | true ↦ (let k : last_start place (at + 1) (at + 1) ops ≤ at + 1 + length ops = no_later place (at + 1) (at + 1) ops (omega arith) in omega arith)
      | false ↦ (let k : last_start place (at + 1) found ops ≤ at + 1 + length ops = no_later place (at + 1) found ops (omega arith) in omega arith)
    ]

-- no macro goes past the place where the last that does stands in front of them
none_past : (place at bound found : ℕ) (ops : List Op) → found ≤ bound → bound ≤ at → list_all (λ op. not (goes_past place op)) ops ≡ nat_le (last_start place at found ops) bound
none_past place at bound found [] le more = sym (le-leb found bound le)
none_past place at bound found (op ∷ ops) le more =
    elim (goes_past place op) as (λ b. (not b && list_all (λ x. not (goes_past place x)) ops) ≡ nat_le (last_start place (at + 1) (cond b (at + 1) found) ops) bound) [
      | true ↦ (let k : at + 1 ≤ last_start place (at + 1) (at + 1) ops = no_earlier place (at + 1) (at + 1) ops (omega arith) in
          sym (lt-leb (last_start place (at + 1) (at + 1) ops) bound (omega arith)))
      | false ↦ none_past place (at + 1) bound found ops le (omega arith)
    ]

between : (target at : ℕ) (ops : List Op) → at < target → at + 1 ≤ length ops → list_all (λ op. not (goes_past target op)) (take (target - (at + 1)) (drop (at + 1) ops)) ≡ nat_le (last_start target 0 0 (take target ops)) (at + 1)
between target at ops lt le =
    let n : length (take (at + 1) ops) ≡ at + 1 = length-take-le (at + 1) ops le in
    let zero_n : 0 + length (take (at + 1) ops) ≡ at + 1 = omega arith in
    let k : (at + 1) + (target - (at + 1)) ≡ target = omega arith in
    let first = last_start target 0 0 (take (at + 1) ops) in
    let low : first ≤ at + 1 = (let m : first ≤ 0 + length (take (at + 1) ops) = no_later target 0 0 (take (at + 1) ops) (omega arith) in omega arith) in
    let parts : take target ops ≡ take (at + 1) ops ++ take (target - (at + 1)) (drop (at + 1) ops) = ap (λ (i : ℕ). take i ops) (sym k) ∙ take-add (at + 1) (target - (at + 1)) ops in
    none_past target (at + 1) (at + 1) first (take (target - (at + 1)) (drop (at + 1) ops)) low (omega arith)
    ∙ ap (λ (i : ℕ). nat_le (last_start target i first (take (target - (at + 1)) (drop (at + 1) ops))) (at + 1)) (sym zero_n)
    ∙ sym (ap (λ (l : ℕ). nat_le l (at + 1)) (ap (last_start target 0 0) parts ∙ last_start_append target 0 0 (take (at + 1) ops) (take (target - (at + 1)) (drop (at + 1) ops))))

where_fair : (at end target : ℕ) (x y : Bool) → (at < target → target ≤ end → x ≡ y) → (nat_lt at target && (not (nat_lt end target) && x)) ≡ (nat_lt at target && (not (nat_lt end target) && y))
where_fair at end target x y same =
    (elim (nat_lt at target) as (λ b. nat_lt at target ≡ b → (b && (not (nat_lt end target) && x)) ≡ (b && (not (nat_lt end target) && y))) [
      | true ↦ λ e. (elim (nat_lt end target) as (λ c. nat_lt end target ≡ c → (not c && x) ≡ (not c && y)) [ true ↦ λ f. refl | false ↦ λ f. same (ltb-true at target e) (ltb-false end target f) ]) refl
      | false ↦ λ e. refl
    ]) refl

pub clear_is : (at end target : ℕ) (ops : List Op) (starts : List ℕ) → Tells ops starts → end ≤ length ops → is_clear at end starts target ≡ is_fair at end (drop (at + 1) ops) target
clear_is at end target ops starts t le =
    where_fair at end target (nat_le (get_or starts target 0) (at + 1)) (list_all (λ op. not (goes_past target op)) (take (target - (at + 1)) (drop (at + 1) ops))) (λ lt in_body.
    ap (λ (l : ℕ). nat_le l (at + 1)) (t.tells target (omega arith)) ∙ sym (between target at ops lt (omega arith)))

-- one instruction more
pub one_more : (place at : ℕ) (ops : List Op) (op d : Op) → at < length ops → op ≡ get_or ops at d → last_start place 0 0 (take (at + 1) ops) ≡ cond (goes_past place op) (at + 1) (last_start place 0 0 (take at ops))
one_more place at ops op d lt is =
    let l : length (take at ops) ≡ at = length-take-le at ops (omega arith) in
    let n : 0 + length (take at ops) ≡ at = omega arith in
    ap (last_start place 0 0) (take_more ops at d lt ∙ ap (λ (o : Op). take at ops ++ o ∷ []) (sym is))
    ∙ last_start_append place 0 0 (take at ops) (op ∷ [])
    ∙ ap (λ (i : ℕ). cond (goes_past place op) (i + 1) (last_start place 0 0 (take at ops))) n

-- one instruction more of a code
pub one_more_of : (place at : ℕ) (code : List Instruction) (i : Instruction) → at < length code → i ≡ get_or code at i
    → last_start place 0 0 (take (at + 1) (ops_of code)) ≡ cond (goes_past place (op_of i)) (at + 1) (last_start place 0 0 (take at (ops_of code)))
one_more_of place at code i lt is =
    let n : length (ops_of code) ≡ length code = length-map code op_of in
    one_more place at (ops_of code) (op_of i) (op_of i) (omega arith) (ap op_of is ∙ sym (get_or-map op_of code at i (op_of i) lt))

-- the last of the bodies that are open, and those in front of it
parts_of : (spans : List Span) (s : Span) → slice_get spans (length spans - 1) ≡ Some s → spans ≡ take (length spans - 1) spans ++ s ∷ []
parts_of [] s e = absurd cc
parts_of (x ∷ xs) s e =
    let spans = x ∷ xs in
    let n : length spans - 1 + 1 ≡ length spans = omega arith in
    sym (take-length spans) ∙ ap (λ (i : ℕ). take i spans) (sym n) ∙ take_more spans (length spans - 1) s (omega arith)
    ∙ ap (λ (y : Span). take (length spans - 1) spans ++ y ∷ []) (get_or_from_slice_get spans (length spans - 1) s s e)

last_of_parts : (place : ℕ) (spans : List Span) (s : Span) → slice_get spans (length spans - 1) ≡ Some s → last_of place 0 spans ≡ cond (nat_lt place s.end) s.start (last_of place 0 (take (length spans - 1) spans))
last_of_parts place spans s e = ap (last_of place 0) (parts_of spans s e) ∙ last_of_append place 0 (take (length spans - 1) spans) s

pub last_goes_past : (place : ℕ) (spans : List Span) (s : Span) → slice_get spans (length spans - 1) ≡ Some s → place < s.end → last_of place 0 spans ≡ s.start
last_goes_past place spans s e lt = last_of_parts place spans s e ∙ ap (λ b. cond b s.start (last_of place 0 (take (length spans - 1) spans))) (lt-ltb place s.end lt)

pub last_ends : (place : ℕ) (spans : List Span) (s : Span) → slice_get spans (length spans - 1) ≡ Some s → s.end ≤ place → last_of place 0 spans ≡ last_of place 0 (take (length spans - 1) spans)
last_ends place spans s e le = last_of_parts place spans s e ∙ ap (λ b. cond b s.start (last_of place 0 (take (length spans - 1) spans))) (le-ltb place s.end le)

pub last_of_none : (place : ℕ) (spans : List Span) → slice_get spans (length spans - 1) ≡ None → last_of place 0 spans ≡ 0
last_of_none place [] e = refl
last_of_none place (x ∷ xs) e = let k : slice_get (x ∷ xs) (length (x ∷ xs) - 1) ≡ Some (get_or (x ∷ xs) (length (x ∷ xs) - 1) x) = slice_get-get_or (x ∷ xs) (length (x ∷ xs) - 1) x (omega arith) in absurd cc

-- the table with one place more
at_most : (P : ℕ → Type 0) (n : ℕ) → ((place : ℕ) → place ≤ n → P place) → P (n + 1) → (place : ℕ) → place ≤ n + 1 → P place
at_most P n before here place le =
    ⊎_elim (λ (e : place ≡ n + 1). subst P (sym e) here) (λ (lt : place < n + 1). before place (omega arith)) (eq-or-lt_of_le le)

pub one_told : (at start : ℕ) (ops : List Op) (starts : List ℕ) → length starts ≡ at + 1 → ((place : ℕ) → place ≤ at → get_or starts place 0 ≡ last_start place 0 0 (take place ops))
    → start ≡ last_start (at + 1) 0 0 (take (at + 1) ops) → (place : ℕ) → place ≤ at + 1 → get_or (starts ++ start ∷ []) place 0 ≡ last_start place 0 0 (take place ops)
one_told at start ops starts room tells is =
    at_most (λ place. get_or (starts ++ start ∷ []) place 0 ≡ last_start place 0 0 (take place ops)) at
    (λ place le. get_or_append_left starts (start ∷ []) 0 place (omega arith) ∙ tells place le)
    (ap (λ (i : ℕ). get_or (starts ++ start ∷ []) i 0) (sym room) ∙ get_or-append_seam starts start [] 0 ∙ is)
