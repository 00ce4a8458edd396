-- Lists and maps inside a value, and as such.
use Rattle.std.proofs.Common.{◌≡◌, ◌≢◌, suc, Bool, true, false, ◌&&◌, Option, Some, None, is_some, option_map, List, [], ◌∷◌, length, refl, ap}
use Rattle.celmean.specs.Value.{Value, sequence, items, mapping, entries}
use Rattle.celmean.specs.Equality.{same, all_same, entries_same}

pub items-sequence : (vs : List Value) → items (sequence vs) ≡ vs
items-sequence [] = refl
items-sequence (v ∷ vs) = ap (λ ws. v ∷ ws) (items-sequence vs)

pub entries-mapping : (es : List (Value × Value)) → entries (mapping es) ≡ es
entries-mapping [] = refl
entries-mapping (e ∷ es) = ap (λ fs. e ∷ fs) (entries-mapping es)

pub ruleset both_ways = (items-sequence, entries-mapping)

pub is_some-option_map : {A B : Type 0} (f : A → B) (o : Option A) → is_some (option_map f o) ≡ is_some o
is_some-option_map f None = refl
is_some-option_map f (Some a) = refl

and_false : (b : Bool) → (b && false) ≡ false
and_false true = refl
and_false false = refl

-- lists of unlike lengths are unequal
pub all_same-lengths : (vs ws : List Value) → length vs ≢ length ws → all_same (sequence vs) (sequence ws) ≡ false
all_same-lengths [] [] unlike = absurd (unlike refl)
all_same-lengths [] (w ∷ ws) unlike = refl
all_same-lengths (v ∷ vs) [] unlike = refl
all_same-lengths (v ∷ vs) (w ∷ ws) unlike = rw (all_same-lengths vs ws (λ e. unlike (ap suc e))) (and_false (same v w))

pub entries_same-lengths : (es fs : List (Value × Value)) → length es ≢ length fs → entries_same (mapping es) (mapping fs) ≡ false
entries_same-lengths [] [] unlike = absurd (unlike refl)
entries_same-lengths [] (f ∷ fs) unlike = refl
entries_same-lengths (e ∷ es) [] unlike = refl
entries_same-lengths (e ∷ es) (f ∷ fs) unlike = rw (entries_same-lengths es fs (λ p. unlike (ap suc p))) (and_false (same e.0 f.0 && same e.1 f.1))
