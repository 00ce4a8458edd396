-- What the definitions make of the program's lists, maps and texts.
use Rattle.std.proofs.Common.{◌≡◌, ℕ, ℤ, Bool, true, List, [], ◌∷◌, String, Vec, Global, string_bytes, refl, rules}
use Rattle.std.specs.declared.rc.Rc.{Rc}
use Rattle.celmean.specs.Value as seen
use Rattle.celmean.specs.Value.{sequence, items, mapping, entries}
use Rattle.celmean.specs.Texts.{text_starts_with, text_contains}
use Rattle.celmean.specs.Seen.{value_of, values_seen, entries_seen}
use Rattle.celmean.specs.declared.value.Value.{Value, the_lemmas}
use Rattle.celmean.specs.declared.value.Value as value

pub value_of-Text : (s : String Global) → value_of (value.Text s) ≡ seen.Text (string_bytes s)
value_of-Text s = search (rules, the_lemmas)

pub value_of-List : (v : Rc (Vec Value Global) Global) → value_of (value.List v) ≡ seen.Sequence (sequence (values_seen v.value.items))
value_of-List v = search (rules, the_lemmas)

pub value_of-Map : (v : Rc (Vec (Value × Value) Global) Global) → value_of (value.Map v) ≡ seen.Mapping (mapping (entries_seen v.value.items))
value_of-Map v = search (rules, the_lemmas)

pub value_of-Bool : (b : Bool) → value_of (value.Bool b) ≡ seen.Truth b
value_of-Bool b = search (rules, the_lemmas)

pub value_of-Int : (z : ℤ) → value_of (value.Int z) ≡ seen.Int z
value_of-Int z = search (rules, the_lemmas)

pub value_of-Uint : (n : ℕ) → value_of (value.Uint n) ≡ seen.Uint n
value_of-Uint n = search (rules, the_lemmas)

-- a text begins with what stands at its front, and so contains it
pub contains-front : (s t : List ℕ) → text_starts_with s t ≡ true → text_contains s t ≡ true
contains-front [] t e = e
contains-front (c ∷ s) t e = rw e refl
