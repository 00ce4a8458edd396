-- What was found of an object, and the conditions for the object at its key.
use Rattle.std.proofs.Common.{◌≡◌, ◌∙◌, ap, refl, ℕ, ◌<◌, nat_le, List, [], ◌∷◌, length, Bool, true, false, cond, not, ◌&&◌, ◌==◌, option_map, Option, Some, None, is_some, arith}
use Rattle.std.specs.Option.{option_map_or}
use Rattle.names.specs.declared.format.Rules.{Rules}
use Rattle.names.specs.Key.{Key}
use Rattle.documents.specs.Document.{Document}
use Rattle.requests.specs.declared.refusal.Refusal.TheVariants.{NotFound, VersionNotCurrent, NamespaceNotEmpty, RevisionExhausted}
use Rattle.requests.specs.Reply as plain
use Rattle.requests.specs.Reply.{showing}
use Rattle.histories.specs.declared.stored.Stored.{Stored}
use Rattle.histories.specs.View as seen
use Rattle.histories.specs.View.{exists, is_exhausted, stored_at}
use Rattle.holdings.specs.Holdings.{State}
use Rattle.holdings.specs.Sources.{found_in}
use Rattle.holdings.specs.declared.source.FoundDocument.{FoundDocument}
use Rattle.decoded.specs.Decoded.{Decoded}
use Rattle.apicore.specs.Namespaces.{is_in_use}
use Rattle.requests.specs.Version.{is_text_of}
use Rattle.apicore.specs.Conditions.{Condition, known, first_of, replace_conditions, delete_conditions, update_conflicts, update_conflicts_at, deletion_conflicts, deletion_conflicts_at}
use Rattle.apicore.proofs.Showing.{getting}

-- what is found is stored, with something beside it
abbrev pub IsFound : Option (Stored Decoded) → FoundDocument → Type 0
IsFound s f = option_map found_in s ≡ Some f

module _ {C : Type 0} (to : Document → ℕ → C) where
  -- what an object says, what was found of it says
  pub said_found : (s : Option (Stored Decoded)) (f : FoundDocument) (x : C) → IsFound s f → option_map_or (λ s. to s.document s.revision) s x ≡ to f.document f.revision
  said_found None f x is = absurd (let never : ◌≡◌ {A = Option FoundDocument} None (Some f) = is in cc)
  said_found (Some s) f x is = let same : found_in s ≡ f = cc in ap (λ (g : FoundDocument). to g.document g.revision) same

  pub told_found : (s : Option (Stored Decoded)) (f : FoundDocument) → IsFound s f → option_map (λ s. to s.document s.revision) s ≡ Some (to f.document f.revision)
  told_found None f is = absurd (let never : ◌≡◌ {A = Option FoundDocument} None (Some f) = is in cc)
  told_found (Some s) f is = let same : found_in s ≡ f = cc in ap (λ (g : FoundDocument). Some (to g.document g.revision)) same

pub there_found : (s : Option (Stored Decoded)) (f : FoundDocument) → IsFound s f → is_some s ≡ true
there_found None f is = absurd (let never : ◌≡◌ {A = Option FoundDocument} None (Some f) = is in cc)
there_found (Some s) f is = refl

pub none_found : (s : Option (Stored Decoded)) → option_map found_in s ≡ None → s ≡ None
none_found None is = refl
none_found (Some s) is = absurd (let never : ◌≡◌ {A = Option FoundDocument} (Some (found_in s)) None = is in cc)

pub stored_found : (s : Option (Stored Decoded)) (f : FoundDocument) → IsFound s f → (t : Stored Decoded) × (s ≡ Some t) × (t.document ≡ f.document)
stored_found None f is = absurd (let never : ◌≡◌ {A = Option FoundDocument} None (Some f) = is in cc)
stored_found (Some s) f is = let same : found_in s ≡ f = cc in (s, refl, ap (λ (g : FoundDocument). g.document) same)

module _ (held : seen.View Decoded) (k : Key) (f : FoundDocument) (is : IsFound (stored_at held k) f) where
  update_found : (asked : Option (List ℕ)) → update_conflicts held k asked ≡ update_conflicts_at f.revision asked
  update_found None = refl
  update_found (Some text) = ap (λ (b : Bool). not (length text == 0) && not b) (said_found (λ _ n. is_text_of n text) (stored_at held k) f false is)

  deletion_found : (asked : Option (List ℕ)) → deletion_conflicts held k asked ≡ deletion_conflicts_at f.revision asked
  deletion_found None = refl
  deletion_found (Some text) = ap not (said_found (λ _ n. is_text_of n text) (stored_at held k) f false is)

  -- the conditions for the object at the key, by what was found of it
  pub replace_found : (asked : Option (List ℕ)) (b : Bool) → update_conflicts_at f.revision asked ≡ b
      → first_of (replace_conditions held k asked) ≡ cond b (Some (known VersionNotCurrent)) None
  replace_found asked b conflicts = λ i.
      first_of ((known NotFound, not (there_found (stored_at held k) f is i)) ∷ (known VersionNotCurrent, (update_found asked ∙ conflicts) i) ∷ [])

  pub delete_found : (rules : Rules) (asked : Option (List ℕ)) (b used exhausted : Bool) → deletion_conflicts_at f.revision asked ≡ b → is_in_use held k ≡ used → is_exhausted rules held ≡ exhausted
      → first_of (delete_conditions rules held k asked)
      ≡ cond b (Some (known VersionNotCurrent)) (cond used (Some (known NamespaceNotEmpty)) (cond exhausted (Some (known RevisionExhausted)) None))
  delete_found rules asked b used exhausted conflicts in_use is_exhausted = λ i.
      first_of ((known NotFound, not (there_found (stored_at held k) f is i))
      ∷ (known VersionNotCurrent, (deletion_found asked ∙ conflicts) i)
      ∷ (known NamespaceNotEmpty, in_use i)
      ∷ (known RevisionExhausted, is_exhausted i)
      ∷ [])

-- below the greatest revision it is not reached
at_most : (n m : ℕ) → m < n → nat_le n m ≡ false
at_most n m less = Prim.grind (arith, less)

pub not_exhausted : (core : State Decoded) (rules : Rules) (held : seen.View Decoded) → core.revision ≡ held.revision → core.revision < rules.greatest_revision → is_exhausted rules held ≡ false
not_exhausted core rules held same room = at_most rules.greatest_revision held.revision (omega (arith, same, room))

-- and where there is none
pub nothing_there : (held : seen.View Decoded) (k : Key) → option_map found_in (stored_at held k) ≡ None → exists held k ≡ false
nothing_there held k none = ap is_some (none_found (stored_at held k) none)

pub first_missing : (held : seen.View Decoded) (k : Key) (rest : List Condition) → option_map found_in (stored_at held k) ≡ None
    → first_of ((known NotFound, not (exists held k)) ∷ rest) ≡ Some (known NotFound)
first_missing held k rest none = ap (λ (b : Bool). first_of ((known NotFound, not b) ∷ rest)) (nothing_there held k none)

-- what was found is shown as the object is
pub getting_found : (held : seen.View Decoded) (k : Key) (o : Option FoundDocument) → o ≡ option_map found_in (stored_at held k)
    → option_map_or (λ f. showing 200 [] f.document f.revision) o (plain.status NotFound) ≡ getting held k
getting_found held k o is = ap (λ (x : Option FoundDocument). option_map_or (λ f. showing 200 [] f.document f.revision) x (plain.status NotFound)) is ∙ stored_said (stored_at held k)
  where
    stored_said : (x : Option (Stored Decoded)) → option_map_or (λ f. showing 200 [] f.document f.revision) (option_map found_in x) (plain.status NotFound)
        ≡ option_map_or (λ s. showing 200 [] s.document s.revision) x (plain.status NotFound)
    stored_said None = refl
    stored_said (Some s) = refl
