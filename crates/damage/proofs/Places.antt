-- What is damaged, as a place.
use Rattle.std.proofs.Common.{◌≡◌, ◌∙◌, sym, ap, inl, inr, subst, ℕ, List, [], ◌∷◌, ◌++◌, Option, None, Some}
use Rattle.std.specs.Option.{IfSome}
use Rattle.byteorder.specs.Endian.{big_bytes}
use Rattle.names.specs.declared.resource.Resource.TheVariants.{ValidatingAdmissionPolicy}
use Rattle.names.specs.Key.{Key, key_bytes}
use Rattle.pages.specs.Page.{Entry}
use Rattle.roots.specs.declared.root.Root.{Root}
use Rattle.damage.specs.declared.place.Place.{Place}
use Rattle.damage.specs.declared.place.Place.TheVariants as place
use Rattle.damage.specs.Entries.{HasDamagedEntry, IsPieceOf}
use Rattle.damage.specs.Parts.{HasUnjoinedPart}
use Rattle.damage.specs.Place.{IsAt, Names, NamesParts}

module _ (content : List ℕ) (root : Root) where
  at_entry : (p : Place) (key : List ℕ) → Names p key → HasDamagedEntry content root key → IsAt content root p
  at_entry (place.Page number sector) key names damaged = absurd names
  at_entry (place.Object k) key names damaged = inl (subst (HasDamagedEntry content root) names damaged)
  at_entry (place.Event revision) key names damaged = inl (subst (HasDamagedEntry content root) names damaged)
  at_entry (place.Plans k) key names damaged = absurd names
  at_entry (place.Record sector) key names damaged = absurd names

  at_part : (p : Place) (stem : List ℕ) → NamesParts p stem → HasUnjoinedPart content root stem → IsAt content root p
  at_part (place.Page number sector) stem names unjoined = absurd names
  at_part (place.Object k) stem names unjoined = inr (subst (HasUnjoinedPart content root) names unjoined)
  at_part (place.Event revision) stem names unjoined = inr (subst (HasUnjoinedPart content root) names unjoined)
  at_part (place.Plans k) stem names unjoined = inl (names.0, subst (HasUnjoinedPart content root) names.1 unjoined)
  at_part (place.Record sector) stem names unjoined = absurd names

  -- the place that an entry's key names, if it names one
  pub at_named : (found : Option Place) (key : List ℕ) → HasDamagedEntry content root key → IfSome found (λ p. Names p key) → IfSome found (IsAt content root)
  at_named None key damaged names = names
  at_named (Some p) key damaged names = at_entry p key names damaged

  -- the place that the key of a part names, if it names one
  pub at_named_part : (found : Option Place) (stem : List ℕ) → HasUnjoinedPart content root stem → IfSome found (λ p. NamesParts p stem) → IfSome found (IsAt content root)
  at_named_part None stem unjoined names = names
  at_named_part (Some p) stem unjoined names = at_part p stem names unjoined

-- ---- keys in front of the numbers of parts

-- of an object
pub object_parts : (k : Key) (bytes rest : List ℕ) (end : ℕ) → bytes ≡ rest ++ end ∷ [] → end ≡ 0 → key_bytes k ≡ rest → 1 ∷ bytes ≡ (1 ∷ key_bytes k) ++ 0 ∷ []
object_parts k bytes rest end are zero same =
    ap (λ (xs : List ℕ). 1 ∷ xs) (are ∙ ap (λ (n : ℕ). rest ++ n ∷ []) zero ∙ ap (λ (xs : List ℕ). xs ++ 0 ∷ []) (sym same))

-- of a policy's plans
pub plans_parts : (k : Key) (bytes : List ℕ) → bytes ≡ k.name ++ 0 ∷ [] → 2 ∷ bytes ≡ (2 ∷ k.name) ++ 0 ∷ []
plans_parts k bytes are = ap (λ (xs : List ℕ). 2 ∷ xs) are

pub piece_of : (k : Key) (e : Entry) (stem rest : List ℕ) (mark number : ℕ) → k.resource ≡ ValidatingAdmissionPolicy → e.0 ≡ stem ++ big_bytes 2 number → stem ≡ mark ∷ rest → mark ≡ 2
    → rest ≡ k.name ++ 0 ∷ [] → IsPieceOf k e
piece_of k e stem rest mark number policy key parts is name = record {
  is_policy = policy;
  number = number;
  key = key ∙ ap (λ (xs : List ℕ). xs ++ big_bytes 2 number) (parts ∙ ap (λ (m : ℕ). m ∷ rest) is ∙ plans_parts k rest name);
}
