-- What a payload says of its writes where their documents are not read.
use Rattle.std.specs.Prelude.{◌≡◌, ℕ, ◌<◌, ◌≤◌, ◌^◌, List, ◌∷◌, ◌++◌, length, map, flat_map, IsTrue}
use Rattle.std.specs.List.{AllByRecursion}
use Rattle.byteorder.specs.Endian.{big_bytes}
use Rattle.fields.specs.Field.{field}
use Rattle.jsondoc.specs.Json.{text}
use Rattle.names.specs.Key.{Key, is_key, key_bytes}
use Rattle.histories.specs.History.{Write, put, delete}
use Rattle.records.specs.Payload.{group_limit}

-- A write as it lies in a payload: its key, and for a put the bytes of its document's text and of its plans, whatever they are.
pub data Frame : Type 0 where
  put_frame : Key → (text plans : List ℕ) → Frame
  delete_frame : Key → Frame

abbrev pub key_in : Frame → Key
key_in (put_frame k t p) = k
key_in (delete_frame k) = k

-- The kind and the fields stand as in the bytes of a write.
abbrev pub frame_bytes : Frame → List ℕ
frame_bytes (put_frame k t p) = 1 ∷ (field 2 (key_bytes k) ++ (field 4 t ++ field 4 p))
frame_bytes (delete_frame k) = 2 ∷ field 2 (key_bytes k)

-- The key is well formed, and the length of each field fits its bytes.
abbrev pub IsFrame : Frame → Type 0
IsFrame (put_frame k t p) = IsTrue (is_key k) × (length t < 2 ^ 32) × (length p < 2 ^ 32)
IsFrame (delete_frame k) = IsTrue (is_key k)

-- What lies in a payload of a write.
abbrev pub frame_of : Write (List ℕ) → Frame
frame_of (put k d plans) = put_frame k (text d.json) plans
frame_of (delete k) = delete_frame k

-- The bytes begin with this many frames, in front of the rest, and these are their keys, in order.
pub record LieInFront (bytes rest : List ℕ) (count : ℕ) (keys : List Key) : Type 0 where
  pub frames : List Frame
  pub fitting : AllByRecursion IsFrame frames
  pub counted : length frames ≡ count
  pub bytes_are : flat_map frame_bytes frames ++ rest ≡ bytes
  pub keys_are : map key_in frames ≡ keys

-- The bytes are a payload as far as its writes and their fields go, and these are the keys of the writes, in order.
pub record IsFramed (bytes : List ℕ) (keys : List Key) : Type 0 where
  pub frames : List Frame
  pub some : 1 ≤ length frames
  pub few : length frames ≤ group_limit
  pub fitting : AllByRecursion IsFrame frames
  pub bytes_are : big_bytes 2 (length frames) ++ flat_map frame_bytes frames ≡ bytes
  pub keys_are : map key_in frames ≡ keys
