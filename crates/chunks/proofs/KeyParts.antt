-- Of which entry a key is, as a format has it.
use Rattle.std.proofs.Common.{◌≡◌, ◌≢◌, ◌∙◌, sym, ap, ℕ, Bool, true, false, List, ◌++◌, Option, None, Some, is_some, refl}
use Rattle.std.specs.Prelude.{option_map, IfSome}
use Rattle.byteorder.specs.Endian.{big_bytes}
use Rattle.byteorder.specs.Numbers.{length-bytes_high_first}
use denote.Ref.{Bor}
use Rattle.chunks.specs.Chunks.{stem_of}
use Rattle.chunks.specs.Whole.{key_by, part_key}
use Rattle.chunks.proofs.Cuts.{same_parts, same_key, none_begins}

-- A key that has no stem is that of its own entry,
pub uncut_under : (c : Bool) (key whole : List ℕ) (chunk : ℕ) → stem_of key ≡ None → key ≡ part_key c whole chunk → key ≡ whole
uncut_under false key whole chunk none same = same
uncut_under true key whole chunk none same = step (stem_of whole) refl same
  where
    step : (s : Option (List ℕ)) → stem_of whole ≡ s → key ≡ key_by s whole chunk → key ≡ whole
    step None is same = same
    step (Some stem) is same = absurd (none_begins key whole stem (big_bytes 2 chunk) none is same)

-- and one that has a stem, in a format that cuts, that of a chunk.
chunk_under : (c : Bool) → c ≡ true → (key whole : List ℕ) (chunk : ℕ) → is_some (stem_of key) ≡ true → key ≡ part_key c whole chunk
    → (stem : List ℕ) × (stem_of whole ≡ Some stem) × (key ≡ stem ++ big_bytes 2 chunk)
chunk_under false cuts key whole chunk some same = cc
chunk_under true cuts key whole chunk some same = step (stem_of whole) refl same
  where
    step : (s : Option (List ℕ)) → stem_of whole ≡ s → key ≡ key_by s whole chunk → (stem : List ℕ) × (stem_of whole ≡ Some stem) × (key ≡ stem ++ big_bytes 2 chunk)
    step None is same =
        let never : is_some (stem_of key) ≡ false = ap (λ (k : List ℕ). is_some (stem_of k)) same ∙ ap is_some is in
        absurd (apart (sym some ∙ never))
      where
        apart : true ≡ false → ⊥
        apart is = cc
    step (Some stem) is same = (stem, is, same)

module _ (c : Bool) (cuts : c ≡ true) (key whole : List ℕ) (chunk : ℕ) (some : is_some (stem_of key) ≡ true) (same : key ≡ part_key c whole chunk) where
  under : (stem : List ℕ) × (stem_of whole ≡ Some stem) × (key ≡ stem ++ big_bytes 2 chunk)
  under = chunk_under c cuts key whole chunk some same

  -- What stands in front of its number tells the entry,
  pub split_under : (stem : List ℕ) (number : ℕ) → key ≡ stem ++ big_bytes 2 number → stem_of whole ≡ Some stem
  split_under stem number parts =
      let both = same_parts under.0 stem (big_bytes 2 chunk) (big_bytes 2 number) (length-bytes_high_first 2 chunk ∙ sym (length-bytes_high_first 2 number)) (sym under.2 ∙ parts) in
      under.1 ∙ ap (λ (s : List ℕ). Some s) both.0

  pub told_under : (stem : List ℕ) (number : ℕ) → key ≡ stem ++ big_bytes 2 number → (result : Option (Bor (List ℕ))) → IfSome result (λ w. stem_of w.now ≡ Some stem)
      → (result ≡ None → (w : List ℕ) → stem_of w ≢ Some stem) → option_map (λ k. k.now) result ≡ Some whole
  told_under stem number parts None is none = absurd (none refl whole (split_under stem number parts))
  told_under stem number parts (Some w) is none = ap (λ (k : List ℕ). Some k) (same_key w.now whole stem is (split_under stem number parts))

  -- and it has a number.
  pub never_under : ((stem : List ℕ) (n : ℕ) → key ≢ stem ++ big_bytes 2 n) → ⊥
  never_under none = none under.0 chunk under.2
