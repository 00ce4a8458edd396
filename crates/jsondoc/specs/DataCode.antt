-- A code for JSON data, as a model's value needs one.
use Rattle.std.specs.Prelude.{◌≡◌, ℕ, List}
use base.Stored.{Gv, gnil, gnum, gcons, num, Coded, coded_ℕ, coded_ℤ, coded_bool, coded_list, coded_float}
use mathlib.Core.Path.{ap, refl}
use Rattle.serde_json.specs.Data.{Num, unsigned, negative, float, Data, null, boolean, number, string, array, object, Items, no_items, item, Members, no_members, member}

abbrev pub head : Gv → Gv
head gnil = gnil
head (gnum n) = gnil
head (gcons a b) = a

abbrev pub tail : Gv → Gv
tail gnil = gnil
tail (gnum n) = gnil
tail (gcons a b) = b

abbrev pub bytes_code : List ℕ → Gv
bytes_code s = (coded_list coded_ℕ).code s

abbrev pub num_code : Num → Gv
num_code (unsigned n) = gcons (gnum 0) (gnum n)
num_code (negative z) = gcons (gnum 1) (coded_ℤ.code z)
num_code (float x) = gcons (gnum 2) (coded_float.code x)

abbrev mutual
  pub data_code : Data → Gv
  data_code null = gcons (gnum 0) gnil
  data_code (boolean b) = gcons (gnum 1) (coded_bool.code b)
  data_code (number n) = gcons (gnum 2) (num_code n)
  data_code (string s) = gcons (gnum 3) (bytes_code s)
  data_code (array ds) = gcons (gnum 4) (items_code ds)
  data_code (object ms) = gcons (gnum 5) (members_code ms)

  pub items_code : Items → Gv
  items_code no_items = gnil
  items_code (item d ds) = gcons (data_code d) (items_code ds)

  pub members_code : Members → Gv
  members_code no_members = gnil
  members_code (member k d ms) = gcons (bytes_code k) (gcons (data_code d) (members_code ms))

pub num_inj : (x y : Num) → num_code x ≡ num_code y → x ≡ y
num_inj (unsigned m) (unsigned n) p = ap (λ g. unsigned (num (tail g))) p
num_inj (negative m) (negative n) p = ap negative (coded_ℤ.inj m n (ap tail p))
num_inj (float m) (float n) p = ap float (coded_float.inj m n (ap tail p))
num_inj x y p = cc

mutual
  pub data_inj : (x y : Data) → data_code x ≡ data_code y → x ≡ y
  data_inj null null p = refl
  data_inj (boolean a) (boolean b) p = ap boolean (coded_bool.inj a b (ap tail p))
  data_inj (number a) (number b) p = ap number (num_inj a b (ap tail p))
  data_inj (string a) (string b) p = ap string ((coded_list coded_ℕ).inj a b (ap tail p))
  data_inj (array a) (array b) p = ap array (items_inj a b (ap tail p))
  data_inj (object a) (object b) p = ap object (members_inj a b (ap tail p))
  data_inj x y p = cc

  pub items_inj : (x y : Items) → items_code x ≡ items_code y → x ≡ y
  items_inj no_items no_items p = refl
  items_inj (item a as') (item b bs) p = λ i. item (data_inj a b (ap head p) i) (items_inj as' bs (ap tail p) i)
  items_inj x y p = cc

  pub members_inj : (x y : Members) → members_code x ≡ members_code y → x ≡ y
  members_inj no_members no_members p = refl
  members_inj (member k a ms) (member l b ns) p =
      λ i. member ((coded_list coded_ℕ).inj k l (ap head p) i) (data_inj a b (ap (λ g. head (tail g)) p) i) (members_inj ms ns (ap (λ g. tail (tail g)) p) i)
  members_inj x y p = cc

abbrev pub coded_data : Coded Data
coded_data = record { code = data_code; inj = data_inj }
