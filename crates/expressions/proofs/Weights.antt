-- A value's text has at least the bytes of its strings, and so those of the expressions that it spells.
use Rattle.std.proofs.Common.{◌≡◌, ◌≢◌, ◌≤◌, ◌∙◌, sym, ap, refl, ℕ, ◌+◌, List, [], ◌∷◌, ◌++◌, length, Bool, true, false, cond, nat_lt, Option, Some, None, Ordering, Equal, nat_cmp, arith, length-append}
use Rattle.std.specs.Cmp.Lexicographic.{slice_cmp}
use Rattle.std.specs.Ordering.{match_ordering}
use Rattle.json.specs.Print.{escape, escape_byte, escape_letter, quoted}
use Rattle.serde_json.specs.Data.{Data, null, boolean, number, string, array, object, Items, no_items, item, Members, no_members, member}
use Rattle.serde_json.specs.Find.{get, get_member, as_str, as_array}
use Rattle.serde_json.specs.Written.{compact_text, items_text, members_text, comma_if}
use Rattle.jsondoc.specs.Json.{text}
use Rattle.jsondoc.proofs.Json.{same_names}

-- ---- the bytes of all strings

abbrev mutual
  pub weight : Data → ℕ
  weight null = 0
  weight (boolean b) = 0
  weight (number n) = 0
  weight (string s) = length s
  weight (array ds) = items_weight ds
  weight (object ms) = members_weight ms

  pub items_weight : Items → ℕ
  items_weight no_items = 0
  items_weight (item d ds) = weight d + items_weight ds

  pub members_weight : Members → ℕ
  members_weight no_members = 0
  members_weight (member k d ms) = weight d + members_weight ms

byte_written : (letter byte : Bool) (x : ℕ) (short long : List ℕ) → 1 ≤ length short → 1 ≤ length long → 1 ≤ length (cond letter short (cond byte long (x ∷ [])))
byte_written true byte x short long a b = a
byte_written false true x short long a b = b
byte_written false false x short long a b = omega arith

one_written : (x : ℕ) → 1 ≤ length (escape_byte x)
unfolding escape_byte
one_written x = byte_written (nat_lt 0 (escape_letter x)) (nat_lt x 32) x _ _ (omega arith) (omega arith)

all_written : (s : List ℕ) → length s ≤ length (escape s)
all_written [] = omega arith
all_written (x ∷ xs) = omega (arith, one_written x, all_written xs, length-append (escape_byte x) (escape xs))

string_written : (s : List ℕ) → length s ≤ length (quoted s)
string_written s = omega (arith, all_written s, length-append (escape s) (34 ∷ []))

mutual
  weight_written : (d : Data) → weight d ≤ length (compact_text d)
  weight_written null = omega arith
  weight_written (boolean b) = omega arith
  weight_written (number n) = omega arith
  weight_written (string s) = string_written s
  weight_written (array ds) = omega (arith, items_written ds false)
  weight_written (object ms) = omega (arith, members_written ms false)

  items_written : (ds : Items) (later : Bool) → items_weight ds ≤ length (items_text later ds)
  items_written no_items later = omega arith
  items_written (item d ds) later =
      omega (arith, weight_written d, items_written ds true, length-append (comma_if later) (compact_text d ++ items_text true ds), length-append (compact_text d) (items_text true ds))

  members_written : (ms : Members) (later : Bool) → members_weight ms ≤ length (members_text later ms)
  members_written no_members later = omega arith
  members_written (member k d ms) later =
      omega (
        arith,
        weight_written d,
        members_written ms true,
        length-append (comma_if later) (quoted k ++ 58 ∷ (compact_text d ++ members_text true ms)),
        length-append (quoted k) (58 ∷ (compact_text d ++ members_text true ms)),
        length-append (compact_text d) (members_text true ms),
      )

pub within_text : (d : Data) → weight d ≤ length (text d)
within_text d = weight_written d

-- ---- three members of an object

abbrev pub found_weight : Option Data → ℕ
found_weight None = 0
found_weight (Some d) = weight d

abbrev pub weight_at : List ℕ → Data → ℕ
weight_at k d = found_weight (get k d)

-- what a member adds to each of three names: it has one of them at most
added : (o p q : Ordering) (e : Data) (x y z : Option Data) (rest : ℕ) → (o ≡ Equal → p ≡ Equal → ⊥) → (o ≡ Equal → q ≡ Equal → ⊥) → (p ≡ Equal → q ≡ Equal → ⊥)
    → found_weight x + found_weight y + found_weight z ≤ rest
    → found_weight (match_ordering o x (Some e) x) + found_weight (match_ordering p y (Some e) y) + found_weight (match_ordering q z (Some e) z) ≤ weight e + rest
added Equal Equal q e x y z rest a b c h = absurd (a refl refl)
added Equal p Equal e x y z rest a b c h = absurd (b refl refl)
added o Equal Equal e x y z rest a b c h = absurd (c refl refl)
added o p Equal e x y z rest a b c h = omega arith
added o p q e x y z rest a b c h = omega arith

not_both : (j k l : List ℕ) → j ≢ k → slice_cmp nat_cmp j l ≡ Equal → slice_cmp nat_cmp k l ≡ Equal → ⊥
not_both j k l differ a b = differ (same_names j l a ∙ sym (same_names k l b))

three_members : (i j k : List ℕ) → i ≢ j → i ≢ k → j ≢ k → (ms : Members)
    → found_weight (get_member i ms) + found_weight (get_member j ms) + found_weight (get_member k ms) ≤ members_weight ms
three_members i j k a b c no_members = omega arith
three_members i j k a b c (member l e ms) =
    added (slice_cmp nat_cmp i l) (slice_cmp nat_cmp j l) (slice_cmp nat_cmp k l) e (get_member i ms) (get_member j ms) (get_member k ms) (members_weight ms)
    (not_both i j l a) (not_both i k l b) (not_both j k l c) (three_members i j k a b c ms)

-- members of different names are of no more than the object
pub three_at : (i j k : List ℕ) → i ≢ j → i ≢ k → j ≢ k → (d : Data) → weight_at i d + weight_at j d + weight_at k d ≤ weight d
three_at i j k a b c null = omega arith
three_at i j k a b c (boolean x) = omega arith
three_at i j k a b c (number n) = omega arith
three_at i j k a b c (string s) = omega arith
three_at i j k a b c (array ds) = omega arith
three_at i j k a b c (object ms) = three_members i j k a b c ms

pub text_weight : (d : Data) (s : List ℕ) → as_str d ≡ Some s → length s ≤ weight d
text_weight null s is = cc
text_weight (boolean b) s is = cc
text_weight (number n) s is = cc
text_weight (string t) s is = let same : t ≡ s = cc in omega (arith, ap (length {A = ℕ}) same)
text_weight (array ds) s is = cc
text_weight (object ms) s is = cc

pub array_weight : (d : Data) (ds : Items) → as_array d ≡ Some ds → items_weight ds ≤ weight d
array_weight null ds is = cc
array_weight (boolean b) ds is = cc
array_weight (number n) ds is = cc
array_weight (string t) ds is = cc
array_weight (array es) ds is = let same : es ≡ ds = cc in omega (arith, ap items_weight same)
array_weight (object ms) ds is = cc
