-- What the bytes of frames say of them.
use Rattle.std.proofs.Common.{arith, ◌≡◌, ℕ, ◌^◌, ◌<◌, ◌≤◌, ◌+◌, List, [], ◌∷◌, ◌++◌, map, length, IsTrue, refl, sym, ap, suc, ◌∙◌, append_assoc}
use Rattle.std.specs.Prelude.{flat_map}
use Rattle.std.specs.List.{AllByRecursion}
use Rattle.byteorder.specs.Endian.{big_bytes, big_number}
use Rattle.byteorder.specs.Numbers.{big_number-reads_back}
use Rattle.jsondoc.specs.Json.{text}
use Rattle.names.specs.Key.{Key, is_key, key_bytes}
use Rattle.names.proofs.KeyOrder.{key_bytes-injective}
use Rattle.histories.specs.History.{Write, put, delete}
use Rattle.fields.specs.Field.{field}
use Rattle.fields.proofs.Fields.{same-fields, same-fronts}
use Rattle.std.proofs.lemmas.List.{append-nil, map_push, length_push}
use Rattle.records.specs.Payload.{write_bytes, payload, group_limit, IsStorable, IsGroup}
use Rattle.records.specs.Frames.{Frame, put_frame, delete_frame, key_in, frame_bytes, frame_of, IsFrame, LieInFront, IsFramed}
use Rattle.records.proofs.Keys.{key_bytes-short}
use Rattle.records.proofs.Groups.{all-push}
use Rattle.records.proofs.Rows.{one_more, same_rows, none_next, none_after}

-- the length of a well-formed key fits two bytes
pub key-fits : (k : Key) → IsTrue (is_key k) → length (key_bytes k) < 256 ^ 2
key-fits k is = omega (arith, key_bytes-short k is)

-- after a put's key stand its text and its plans, and what stands after the put
pub rest-of_put_frame : (k : Key) (t p rest : List ℕ)
    → (field 2 (key_bytes k) ++ (field 4 t ++ field 4 p)) ++ rest ≡ field 2 (key_bytes k) ++ (field 4 t ++ (field 4 p ++ rest))
rest-of_put_frame k t p rest =
    append_assoc (field 2 (key_bytes k)) (field 4 t ++ field 4 p) rest ∙ ap (λ (x : List ℕ). field 2 (key_bytes k) ++ x) (append_assoc (field 4 t) (field 4 p) rest)

-- bytes that begin with a frame begin with no other
pub one_frame : (f g : Frame) (x y : List ℕ) → IsFrame f → IsFrame g → frame_bytes f ++ x ≡ frame_bytes g ++ y → (f ≡ g) × (x ≡ y)
one_frame (put_frame k t p) (put_frame l u q) x y a b same =
    let whole : (field 2 (key_bytes k) ++ (field 4 t ++ field 4 p)) ++ x ≡ (field 2 (key_bytes l) ++ (field 4 u ++ field 4 q)) ++ y = cc in
    let keys = same-fields 2 (key_bytes k) (key_bytes l) (field 4 t ++ (field 4 p ++ x)) (field 4 u ++ (field 4 q ++ y)) (key-fits k a.0) (key-fits l b.0)
    (sym (rest-of_put_frame k t p x) ∙ whole ∙ rest-of_put_frame l u q y) in
    let texts = same-fields 4 t u (field 4 p ++ x) (field 4 q ++ y) a.1 b.1 keys.1 in
    let plans = same-fields 4 p q x y a.2 b.2 texts.1 in
    let key : k ≡ l = key_bytes-injective k l a.0 b.0 keys.0 in
    ((λ i. put_frame (key i) (texts.0 i) (plans.0 i)), plans.1)
one_frame (put_frame k t p) (delete_frame l) x y a b same = cc
one_frame (delete_frame k) (put_frame l u q) x y a b same = cc
one_frame (delete_frame k) (delete_frame l) x y a b same =
    let whole : field 2 (key_bytes k) ++ x ≡ field 2 (key_bytes l) ++ y = cc in
    let keys = same-fields 2 (key_bytes k) (key_bytes l) x y (key-fits k a) (key-fits l b) whole in
    (ap delete_frame (key_bytes-injective k l a b keys.0), keys.1)

-- ---- payloads

-- the bytes of a payload say how many its parts are, and which bytes these have
pub counted-parts : (size count : ℕ) (bytes rest : List ℕ) → size < 256 ^ 2 → count < 256 ^ 2 → big_bytes 2 size ++ bytes ≡ big_bytes 2 count ++ rest → (size ≡ count) × (bytes ≡ rest)
counted-parts size count bytes rest few fits same =
    let sizes : size ≡ count = sym (big_number-reads_back 2 size bytes few) ∙ ap (big_number 2) same ∙ big_number-reads_back 2 count rest fits in
    (sizes, (same-fronts (big_bytes 2 size) (big_bytes 2 count) bytes rest (ap (λ (n : ℕ). length (big_bytes 2 n)) sizes) same).1)

-- a payload has the keys of its frames alone
pub same_keys : (bytes : List ℕ) (ks ls : List Key) → IsFramed bytes ks → IsFramed bytes ls → ks ≡ ls
same_keys bytes ks ls a b =
    let parts = counted-parts (length a.frames) (length b.frames) (flat_map frame_bytes a.frames) (flat_map frame_bytes b.frames) (omega (arith, a.few)) (omega (arith, b.few))
    (a.bytes_are ∙ sym b.bytes_are) in
    let one : a.frames ≡ b.frames = same_rows frame_bytes IsFrame one_frame a.frames b.frames a.fitting b.fitting parts.0 parts.1 in
    sym a.keys_are ∙ ap (map key_in) one ∙ b.keys_are

-- ---- the frames of writes

pub bytes-of_write : (w : Write (List ℕ)) → write_bytes w ≡ frame_bytes (frame_of w)
bytes-of_write (put k d plans) = refl
bytes-of_write (delete k) = refl

pub fits-of_write : (w : Write (List ℕ)) → IsStorable w → IsFrame (frame_of w)
fits-of_write (put k d plans) is = (is.0.key, is.1, is.2)
fits-of_write (delete k) is = is

all_bytes : (ws : List (Write (List ℕ))) → flat_map frame_bytes (map frame_of ws) ≡ flat_map write_bytes ws
all_bytes [] = refl
all_bytes (w ∷ ws) = λ i. sym (bytes-of_write w) i ++ all_bytes ws i

all_fit : (ws : List (Write (List ℕ))) → AllByRecursion IsStorable ws → AllByRecursion IsFrame (map frame_of ws)
all_fit [] all = tt
all_fit (w ∷ ws) all = (fits-of_write w all.0, all_fit ws all.1)

size_same : (ws : List (Write (List ℕ))) → length (map frame_of ws) ≡ length ws
size_same [] = refl
size_same (w ∷ ws) = ap suc (size_same ws)

keys_same : (ws : List (Write (List ℕ))) → map key_in (map frame_of ws) ≡ map (λ w. key_in (frame_of w)) ws
keys_same [] = refl
keys_same (w ∷ ws) = λ i. key_in (frame_of w) ∷ keys_same ws i

-- the payload of a group is one of frames, with the keys of its writes
pub group-framed : (ws : List (Write (List ℕ))) → IsGroup ws → IsFramed (payload ws) (map (λ w. key_in (frame_of w)) ws)
group-framed ws group = record {
  frames = map frame_of ws;
  some = omega (arith, group.some, size_same ws);
  few = omega (arith, group.few, size_same ws);
  fitting = all_fit ws group.storable;
  bytes_are = λ i. big_bytes 2 (size_same ws i) ++ all_bytes ws i;
  keys_are = keys_same ws;
}

-- ---- frames in front of a rest, one after the other

module _ (bytes rest : List ℕ) (count : ℕ) (keys : List Key) (front : LieInFront bytes rest count keys) where
  -- one frame more
  pub one_more_frame : (f : Frame) (after : List ℕ) → IsFrame f → frame_bytes f ++ after ≡ rest → LieInFront bytes after (count + 1) (keys ++ key_in f ∷ [])
  one_more_frame f after is next = record {
    frames = front.frames ++ f ∷ [];
    fitting = all-push IsFrame front.frames f front.fitting is;
    counted = length_push front.frames f ∙ ap (λ (n : ℕ). n + 1) front.counted;
    bytes_are = one_more frame_bytes front.frames f rest after bytes front.bytes_are next;
    keys_are = map_push key_in front.frames f ∙ ap (λ (ks : List Key). ks ++ key_in f ∷ []) front.keys_are;
  }

  -- no more frames than these have the bytes, where the rest begins with none
  pub none_more : (fs : List Frame) → AllByRecursion IsFrame fs → count < length fs → ((f : Frame) (after : List ℕ) → IsFrame f → frame_bytes f ++ after ≡ rest → ⊥)
      → flat_map frame_bytes fs ≡ bytes → ⊥
  none_more fs fitting more none same =
      none_next frame_bytes IsFrame one_frame fs front.frames rest fitting front.fitting (omega (arith, front.counted, more)) none (same ∙ sym front.bytes_are)

  -- as many frames with the bytes leave no rest
  pub no_rest : (fs : List Frame) → AllByRecursion IsFrame fs → length fs ≡ count → flat_map frame_bytes fs ≡ bytes → rest ≡ []
  no_rest fs fitting counted same =
      none_after frame_bytes IsFrame one_frame fs front.frames rest fitting front.fitting (front.counted ∙ sym counted) (same ∙ sym front.bytes_are)

-- frames that are all of the bytes, behind their number
pub framed-whole : (bytes rest : List ℕ) (count : ℕ) (keys : List Key) → LieInFront rest [] count keys → 1 ≤ count → count ≤ group_limit → bytes ≡ big_bytes 2 count ++ rest
    → IsFramed bytes keys
framed-whole bytes rest count keys front some few parts = record {
  frames = front.frames;
  some = omega (arith, front.counted, some);
  few = omega (arith, front.counted, few);
  fitting = front.fitting;
  bytes_are = (λ i. big_bytes 2 (front.counted i) ++ (sym (append-nil (flat_map frame_bytes front.frames)) ∙ front.bytes_are) i) ∙ sym parts;
  keys_are = front.keys_are;
}
