-- A record's body, as it is read.
use Rattle.std.specs.Prelude.{◌≡◌, ◌<◌, ◌≤◌, ◌+◌, ◌*◌, ◌/◌, ℕ, List, length, take, drop, slice_index}
use Rattle.byteorder.specs.Endian.{big_number}

-- The bytes of a content in a range.
abbrev pub part : ℕ → ℕ → List ℕ → List ℕ
part at count content = take count (drop at content)

-- Two contents agree from one offset to another.
abbrev pub Agree : ℕ → ℕ → List ℕ → List ℕ → Type 0
Agree from to old new = (k : ℕ) → from ≤ k → k < to → slice_index new k ≡ slice_index old k

-- The number of sectors of the body of a payload of this many bytes: four bytes more, rounded up.
abbrev pub body_sectors : ℕ → ℕ
body_sectors payload_length = (payload_length + 515) / 512

-- The number of sectors of a payload's body.
abbrev pub sectors : List ℕ → ℕ
sectors payload = body_sectors (length payload)

-- A payload's body: the payload's length in four bytes, the highest first, the payload, and zeros to the end of the sector.
pub record IsRecord (payload body : List ℕ) : Type 0 where
  pub whole : length body ≡ 512 * sectors payload
  pub limit : length payload ≤ 67108864
  pub size : big_number 4 body ≡ length payload
  pub bytes : part 4 (length payload) body ≡ payload
  pub zeros : (k : ℕ) → length payload + 4 ≤ k → slice_index body k ≡ 0
