-- The parts of a selector ask what they spell.
use Rattle.std.proofs.Common.{◌≡◌, ℕ, ◌+◌, suc, Bool, true, false, cond, not, ◌&&◌, ◌==◌, nat_lt, List, [], ◌∷◌, ◌++◌, length, take, drop, Option, Some, None, option_map, unwrap_or, inl, inr, refl, sym, ap, subst, ◌∙◌, arith, eq-eqb, eqb-true}
use Rattle.std.proofs.lemmas.List.Folds.{list_all-append}
use Rattle.std.specs.List.{list_all, position_or_len}
use Rattle.std.specs.Option.{option_map_or}
use Rattle.jsondoc.proofs.Json.{both}
use Rattle.documents.specs.Requirement.{Requirement, is_one_of, is_none_of, is_there, is_absent}
use Rattle.requests.specs.Selector.{equals, differs, is_label, is_label_byte, is_value, is_value_byte, parted, rest_after, on_label, on_pair, negated, equated, affirmed, requirement_of}
use Rattle.requests.specs.Spelling.{IsWellFormed, Spells}

and_true : (a b : Bool) → a ≡ true → b ≡ true → (a && b) ≡ true
and_true true b one other = other
and_true false b one other = one

not_true : (v : Bool) → not v ≡ true → v ≡ false
not_true true e = sym e
not_true false e = refl

-- ---- texts in two parts

abbrev in_front : ℕ → Option (List ℕ × List ℕ) → Option (List ℕ × List ℕ)
in_front b o = option_map (λ p. (b ∷ p.0, p.1)) o

abbrev parts_at : ℕ → List ℕ → Option (List ℕ × List ℕ)
parts_at n text = cond (nat_lt n (length text)) (Some (take n text, drop (n + 1) text)) None

later_test : (v : Bool) (b : ℕ) (front back : List ℕ) → cond v (Some (b ∷ front, back)) None ≡ in_front b (cond v (Some (front, back)) None)
later_test true b front back = refl
later_test false b front back = refl

lt_first : (n : ℕ) → nat_lt 0 (suc n) ≡ true
lt_first n = Prim.grind arith

lt_more : (m n : ℕ) → nat_lt (suc m) (suc n) ≡ nat_lt m n
lt_more m n = Prim.grind arith

parts_later : (n b : ℕ) (bs : List ℕ) → parts_at (suc n) (b ∷ bs) ≡ in_front b (parts_at n bs)
parts_later n b bs =
    let less : nat_lt (suc n) (suc (length bs)) ≡ nat_lt n (length bs) = lt_more n (length bs) in
    let next : suc n + 1 ≡ suc (n + 1) = omega arith in
    ap (λ t. cond t (Some (take (suc n) (b ∷ bs), drop (suc n + 1) (b ∷ bs))) None) less
    ∙ ap (λ k. cond (nat_lt n (length bs)) (Some (b ∷ take n bs, drop k (b ∷ bs))) None) next ∙ later_test (nat_lt n (length bs)) b (take n bs) (drop (n + 1) bs)

abbrev place : ℕ → List ℕ → ℕ
place byte text = position_or_len (λ b. b == byte) text

place_test : (v : Bool) (byte b : ℕ) (bs : List ℕ) → (b == byte) ≡ v → place byte (b ∷ bs) ≡ cond v 0 (suc (place byte bs))
place_test true byte b bs is = rw is refl
place_test false byte b bs is = let more : 1 + place byte bs ≡ suc (place byte bs) = omega arith in rw is more

parted_first : (byte b : ℕ) (bs : List ℕ) → (b == byte) ≡ true → parted byte (b ∷ bs) ≡ Some ([], bs)
parted_first byte b bs is = ap (λ n. parts_at n (b ∷ bs)) (place_test true byte b bs is) ∙ ap (λ t. cond t (Some ([], bs)) None) (lt_first (length bs))

parted_later : (byte b : ℕ) (bs : List ℕ) → (b == byte) ≡ false → parted byte (b ∷ bs) ≡ in_front b (parted byte bs)
parted_later byte b bs other = ap (λ n. parts_at n (b ∷ bs)) (place_test false byte b bs other) ∙ parts_later (place byte bs) b bs

abbrev lacks_byte : ℕ → List ℕ → Bool
lacks_byte byte text = list_all (λ b. not (b == byte)) text

parted_none : (byte : ℕ) (text : List ℕ) → lacks_byte byte text ≡ true → parted byte text ≡ None
parted_none byte [] all = refl
parted_none byte (b ∷ bs) all =
    let parts = both (not (b == byte)) (lacks_byte byte bs) all in
    parted_later byte b bs (not_true (b == byte) parts.0) ∙ ap (in_front b) (parted_none byte bs parts.1)

parted_some : (byte : ℕ) (front back : List ℕ) → lacks_byte byte front ≡ true → parted byte (front ++ byte ∷ back) ≡ Some (front, back)
parted_some byte [] back all = parted_first byte byte back (eq-eqb byte byte refl)
parted_some byte (b ∷ bs) back all =
    let parts = both (not (b == byte)) (lacks_byte byte bs) all in
    parted_later byte b (bs ++ byte ∷ back) (not_true (b == byte) parts.0) ∙ ap (in_front b) (parted_some byte bs back parts.1)

abbrev front_of : Option (List ℕ × List ℕ) → List ℕ
front_of None = []
front_of (Some p) = p.0

abbrev back_of : Option (List ℕ × List ℕ) → List ℕ
back_of None = []
back_of (Some p) = p.1

later_is : (o : Option (List ℕ × List ℕ)) (byte b : ℕ) (bs : List ℕ) (p : List ℕ × List ℕ) → in_front b o ≡ Some p
    → ((q : List ℕ × List ℕ) → o ≡ Some q → bs ≡ q.0 ++ byte ∷ q.1) → b ∷ bs ≡ p.0 ++ byte ∷ p.1
later_is None byte b bs p is rest_after = absurd (let never : None ≡ Some p = is in cc)
later_is (Some q) byte b bs p is rest_after =
    ap (λ x. b ∷ x) (rest_after q refl) ∙ ap (λ f. f ++ byte ∷ q.1) (ap front_of is) ∙ ap (λ x. p.0 ++ byte ∷ x) (ap back_of is)

is_test : (v : Bool) (byte b : ℕ) (bs : List ℕ) (p : List ℕ × List ℕ) → (b == byte) ≡ v → parted byte (b ∷ bs) ≡ Some p
    → ((q : List ℕ × List ℕ) → parted byte bs ≡ Some q → bs ≡ q.0 ++ byte ∷ q.1) → b ∷ bs ≡ p.0 ++ byte ∷ p.1
is_test true byte b bs p here is rest_after =
    let whole = sym (parted_first byte b bs here) ∙ is in
    ap (λ x. x ∷ bs) (eqb-true b byte here) ∙ ap (λ f. f ++ byte ∷ bs) (ap front_of whole) ∙ ap (λ x. p.0 ++ byte ∷ x) (ap back_of whole)
is_test false byte b bs p here is rest_after = later_is (parted byte bs) byte b bs p (sym (parted_later byte b bs here) ∙ is) rest_after

parted_is : (byte : ℕ) (text : List ℕ) (p : List ℕ × List ℕ) → parted byte text ≡ Some p → text ≡ p.0 ++ byte ∷ p.1
parted_is byte [] p is = absurd (let never : None ≡ Some p = is in cc)
parted_is byte (b ∷ bs) p is = is_test (b == byte) byte b bs p refl is (λ q e. parted_is byte bs q e)

-- ---- what stands after a byte

rest_after_none : (byte : ℕ) (text : List ℕ) → lacks_byte byte text ≡ true → rest_after byte text ≡ None
rest_after_none byte [] all = refl
rest_after_none byte (b ∷ bs) all =
    let parts = both (not (b == byte)) (lacks_byte byte bs) all in ap (λ v. cond v (Some bs) None) (not_true (b == byte) parts.0)

some_test : (v : Bool) (byte b : ℕ) (bs rest : List ℕ) → (b == byte) ≡ v → cond v (Some bs) None ≡ Some rest → b ∷ bs ≡ byte ∷ rest
some_test true byte b bs rest here is = let same : bs ≡ rest = cc in ap (λ x. x ∷ bs) (eqb-true b byte here) ∙ ap (λ x. byte ∷ x) same
some_test false byte b bs rest here is = absurd (let never : None ≡ Some rest = is in cc)

rest_after_some : (byte : ℕ) (text rest : List ℕ) → rest_after byte text ≡ Some rest → text ≡ byte ∷ rest
rest_after_some byte [] rest is = absurd (let never : None ≡ Some rest = is in cc)
rest_after_some byte (b ∷ bs) rest is = some_test (b == byte) byte b bs rest refl is

-- ---- the bytes of labels and values

excluded_test : (v : Bool) (p : ℕ → Bool) (byte b : ℕ) → (b == byte) ≡ v → p byte ≡ false → p b ≡ true → not v ≡ true
excluded_test true p byte b is out passes = sym out ∙ ap p (sym (eqb-true b byte is)) ∙ passes
excluded_test false p byte b is out passes = refl

excluded : (p : ℕ → Bool) (byte : ℕ) (text : List ℕ) → p byte ≡ false → list_all p text ≡ true → lacks_byte byte text ≡ true
excluded p byte [] out all = refl
excluded p byte (b ∷ bs) out all =
    let parts = both (p b) (list_all p bs) all in
    and_true (not (b == byte)) (lacks_byte byte bs) (excluded_test (b == byte) p byte b refl out parts.0) (excluded p byte bs out parts.1)

in_label : (byte : ℕ) (label : List ℕ) → is_label_byte byte ≡ false → is_label label ≡ true → lacks_byte byte label ≡ true
in_label byte label out is = excluded is_label_byte byte label out (both (not (length label == 0)) (list_all is_label_byte label) is).1

in_value : (byte : ℕ) (value : List ℕ) → is_value_byte byte ≡ false → is_value value ≡ true → lacks_byte byte value ≡ true
in_value byte value out is = excluded is_value_byte byte value out is

in_both : (byte : ℕ) (front back : List ℕ) → lacks_byte byte front ≡ true → lacks_byte byte back ≡ true → lacks_byte byte (front ++ back) ≡ true
in_both byte front back one other =
    list_all-append (λ b. not (b == byte)) front back ∙ and_true (lacks_byte byte front) (lacks_byte byte back) one other

-- ---- what is spelled is asked

on_parted : (part : List ℕ) (p : List ℕ × List ℕ) → parted 33 part ≡ Some p → requirement_of part ≡ negated p.0 p.1
on_parted part p is = ap (λ o. option_map_or (λ q. negated q.0 q.1) o (affirmed part)) is

on_whole : (part : List ℕ) → parted 33 part ≡ None → requirement_of part ≡ affirmed part
on_whole part is = ap (λ o. option_map_or (λ q. negated q.0 q.1) o (affirmed part)) is

on_equated : (part : List ℕ) (p : List ℕ × List ℕ) → parted 61 part ≡ Some p → affirmed part ≡ equated p.0 p.1
on_equated part p is = ap (λ o. option_map_or (λ q. equated q.0 q.1) o (on_label is_there part)) is

on_alone : (part : List ℕ) → parted 61 part ≡ None → affirmed part ≡ on_label is_there part
on_alone part is = ap (λ o. option_map_or (λ q. equated q.0 q.1) o (on_label is_there part)) is

made_pair : (asks : List ℕ → List ℕ → Requirement) (label value : List ℕ) → is_label label ≡ true → is_value value ≡ true
    → on_pair asks label value ≡ Some (asks label value)
made_pair asks label value l v = ap (λ t. cond t (Some (asks label value)) None) (and_true (is_label label) (is_value value) l v)

made_label : (asks : List ℕ → Requirement) (label : List ℕ) → is_label label ≡ true → on_label asks label ≡ Some (asks label)
made_label asks label l = ap (λ t. cond t (Some (asks label)) None) l

equals_spelled : (label value : List ℕ) → is_label label ≡ true → is_value value ≡ true → requirement_of (label ++ 61 ∷ value) ≡ Some (equals label value)
equals_spelled label value l v =
    on_whole (label ++ 61 ∷ value) (parted_none 33 (label ++ 61 ∷ value) (in_both 33 label (61 ∷ value) (in_label 33 label refl l) (in_value 33 value refl v)))
    ∙ on_equated (label ++ 61 ∷ value) (label, value) (parted_some 61 label value (in_label 61 label refl l))
    ∙ ap (λ o. on_pair equals label (unwrap_or o value)) (rest_after_none 61 value (in_value 61 value refl v)) ∙ made_pair equals label value l v

twice_spelled : (label value : List ℕ) → is_label label ≡ true → is_value value ≡ true
    → requirement_of (label ++ 61 ∷ 61 ∷ value) ≡ Some (equals label value)
twice_spelled label value l v =
    on_whole (label ++ 61 ∷ 61 ∷ value)
    (parted_none 33 (label ++ 61 ∷ 61 ∷ value) (in_both 33 label (61 ∷ 61 ∷ value) (in_label 33 label refl l) (in_value 33 value refl v)))
    ∙ on_equated (label ++ 61 ∷ 61 ∷ value) (label, 61 ∷ value) (parted_some 61 label (61 ∷ value) (in_label 61 label refl l))
    ∙ made_pair equals label value l v

differs_spelled : (label value : List ℕ) → is_label label ≡ true → is_value value ≡ true
    → requirement_of (label ++ 33 ∷ 61 ∷ value) ≡ Some (differs label value)
differs_spelled label value l v =
    on_parted (label ++ 33 ∷ 61 ∷ value) (label, 61 ∷ value) (parted_some 33 label (61 ∷ value) (in_label 33 label refl l)) ∙ made_pair differs label value l v

has_spelled : (label : List ℕ) → is_label label ≡ true → requirement_of label ≡ Some (is_there label)
has_spelled label l =
    on_whole label (parted_none 33 label (in_label 33 label refl l)) ∙ on_alone label (parted_none 61 label (in_label 61 label refl l)) ∙ made_label is_there label l

lacks_spelled : (label : List ℕ) → is_label label ≡ true → requirement_of (33 ∷ label) ≡ Some (is_absent label)
lacks_spelled label l =
    on_parted (33 ∷ label) ([], label) (parted_some 33 [] label refl)
    ∙ ap (λ o. option_map_or (on_pair differs []) o (on_label is_absent label)) (rest_after_none 61 label (in_label 61 label refl l)) ∙ made_label is_absent label l

spelled : (part : List ℕ) (r : Requirement) → IsWellFormed r → Spells r part → requirement_of part ≡ Some r
spelled part (is_one_of label []) form is = absurd is
spelled part (is_one_of label (value ∷ other ∷ more)) form is = absurd is
spelled part (is_none_of label []) form is = absurd is
spelled part (is_none_of label (value ∷ other ∷ more)) form is = absurd is
spelled part (is_one_of label (value ∷ [])) form (inl is) = ap requirement_of is ∙ equals_spelled label value form.0 form.1
spelled part (is_one_of label (value ∷ [])) form (inr is) = ap requirement_of is ∙ twice_spelled label value form.0 form.1
spelled part (is_none_of label (value ∷ [])) form is = ap requirement_of is ∙ differs_spelled label value form.0 form.1
spelled part (is_there label) form is = ap requirement_of is ∙ has_spelled label form
spelled part (is_absent label) form is = ap requirement_of is ∙ lacks_spelled label form

-- ---- what is asked is spelled

cond_is : (v : Bool) (made r : Requirement) → cond v (Some made) None ≡ Some r → (v ≡ true) × (made ≡ r)
cond_is true made r is = (refl, cc)
cond_is false made r is = absurd (let never : None ≡ Some r = is in cc)

abbrev Asks : List ℕ → Requirement → Type 0
Asks part r = IsWellFormed r × Spells r part

pair_asked : (asks : List ℕ → List ℕ → Requirement) (label value part : List ℕ) (r : Requirement) → on_pair asks label value ≡ Some r
    → (is_label label ≡ true → is_value value ≡ true → Asks part (asks label value)) → Asks part r
pair_asked asks label value part r is spells =
    let made = cond_is (is_label label && is_value value) (asks label value) r is in
    let parts = both (is_label label) (is_value value) made.0 in subst (Asks part) made.1 (spells parts.0 parts.1)

label_asked : (asks : List ℕ → Requirement) (label part : List ℕ) (r : Requirement) → on_label asks label ≡ Some r
    → (is_label label ≡ true → Asks part (asks label)) → Asks part r
label_asked asks label part r is spells =
    let made = cond_is (is_label label) (asks label) r is in subst (Asks part) made.1 (spells made.0)

no_length : (text : List ℕ) → (length text == 0) ≡ true → text ≡ []
no_length [] is = refl
no_length (b ∷ bs) is = absurd (let never : suc (length bs) ≡ 0 = eqb-true (suc (length bs)) 0 is in cc)

empty_asked : (v : Bool) (part before after : List ℕ) (r : Requirement) → (length before == 0) ≡ v → part ≡ before ++ 33 ∷ after
    → cond v (on_label is_absent after) None ≡ Some r → Asks part r
empty_asked true part before after r empty whole is =
    label_asked is_absent after part r is (λ l. (l, whole ∙ ap (λ b. b ++ 33 ∷ after) (no_length before empty)))
empty_asked false part before after r empty whole is = absurd (let never : None ≡ Some r = is in cc)

negated_asked : (o : Option (List ℕ)) (part before after : List ℕ) (r : Requirement) → rest_after 61 after ≡ o → part ≡ before ++ 33 ∷ after
    → option_map_or (on_pair differs before) o (cond (length before == 0) (on_label is_absent after) None) ≡ Some r → Asks part r
negated_asked None part before after r at whole is = empty_asked (length before == 0) part before after r refl whole is
negated_asked (Some value) part before after r at whole is =
    pair_asked differs before value part r is (λ l v. ((l, v), whole ∙ ap (λ a. before ++ 33 ∷ a) (rest_after_some 61 after value at)))

equated_asked : (o : Option (List ℕ)) (part before after : List ℕ) (r : Requirement) → rest_after 61 after ≡ o → part ≡ before ++ 61 ∷ after
    → on_pair equals before (unwrap_or o after) ≡ Some r → Asks part r
equated_asked None part before after r at whole is = pair_asked equals before after part r is (λ l v. ((l, v), inl whole))
equated_asked (Some value) part before after r at whole is =
    pair_asked equals before value part r is (λ l v. ((l, v), inr (whole ∙ ap (λ a. before ++ 61 ∷ a) (rest_after_some 61 after value at))))

affirmed_asked : (o : Option (List ℕ × List ℕ)) (part : List ℕ) (r : Requirement) → parted 61 part ≡ o
    → option_map_or (λ q. equated q.0 q.1) o (on_label is_there part) ≡ Some r → Asks part r
affirmed_asked None part r at is = label_asked is_there part part r is (λ l. (l, refl))
affirmed_asked (Some p) part r at is = equated_asked (rest_after 61 p.1) part p.0 p.1 r refl (parted_is 61 part p at) is

part_asked : (o : Option (List ℕ × List ℕ)) (part : List ℕ) (r : Requirement) → parted 33 part ≡ o
    → option_map_or (λ q. negated q.0 q.1) o (affirmed part) ≡ Some r → Asks part r
part_asked None part r at is = affirmed_asked (parted 61 part) part r refl is
part_asked (Some p) part r at is = negated_asked (rest_after 61 p.1) part p.0 p.1 r refl (parted_is 33 part p at) is

-- a part asks something just where it spells it
pub parts_are_spelled : (part : List ℕ) (r : Requirement)
    → (requirement_of part ≡ Some r → IsWellFormed r × Spells r part) × (IsWellFormed r × Spells r part → requirement_of part ≡ Some r)
parts_are_spelled part r = (λ is. part_asked (parted 33 part) part r refl is, λ asks. spelled part r asks.0 asks.1)
