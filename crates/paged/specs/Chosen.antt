-- What of a checkpoint is held in memory from an opening on: the policies, the bindings, and what stands under some keys.
use Rattle.std.specs.Prelude.{◌≡◌, ℕ, ◌==◌, Bool, true, false, ◌||◌, ◌&&◌, List, [], ◌∷◌, length}
use Rattle.std.specs.BTreeSet.{BTreeSet, contains_by}
use Rattle.std.specs.List.{filter}
use Rattle.std.specs.Option.{option_map_or}
use Rattle.std.specs.declared.alloc.Global.{Global}
use Rattle.std.specs.declared.vec.Vec.{Vec}
use Rattle.names.specs.Key.{Key, key_bytes}
use Rattle.names.specs.Resource.{numbered}
use Rattle.pages.specs.Page.{Entry, bytes_cmp}
use Rattle.roots.specs.declared.root.Label.{Label}
use Rattle.names.specs.Format.{has_chunks}
use Rattle.chunks.specs.Chunks.{cut, AreCuttable}
use Rattle.names.specs.declared.format.Rules.{Rules}
use Rattle.histories.specs.View as seen
use Rattle.decoded.specs.Decoded.{Decoded}
use Rattle.snapshots.specs.KeptEntries.{kept_of}
use Rattle.snapshots.specs.Keeping.{held_entries, IsHeld}
use Rattle.paged.specs.Lying.{is_rule}
use Rattle.paged.specs.declared.chosen.Chosen.{Chosen}

-- the number is that of policies or of bindings
abbrev pub is_rule_number : ℕ → Bool
is_rule_number number = option_map_or is_rule (numbered number) false

-- these are the bytes of the key of a policy or a binding
abbrev pub are_of_rule : List ℕ → Bool
are_of_rule [] = false
are_of_rule (number ∷ rest) = is_rule_number number

-- the key is that of the entry of a policy or a binding
abbrev pub is_rule_key : List ℕ → Bool
is_rule_key [] = false
is_rule_key (mark ∷ rest) = mark == 1 && are_of_rule rest

-- how many of the entries are those of policies and bindings
abbrev pub rules_among : List Entry → ℕ
rules_among entries = length (filter (λ e. is_rule_key e.0) entries)

-- the key is among these
abbrev pub has_key : BTreeSet (Vec ℕ Global) → List ℕ → Bool
has_key keys key = contains_by (λ k. bytes_cmp key k.items) keys

-- the object whose entry has this key is held in memory
abbrev pub is_chosen : Chosen → List ℕ → Bool
is_chosen chosen key = is_rule_key key || has_key chosen.keys key

-- Each policy and each binding is chosen.
abbrev pub ChoosesRules : (List ℕ → Bool) → Type 0
ChoosesRules chosen = (k : Key) → is_rule k.resource ≡ true → chosen (1 ∷ key_bytes k) ≡ true

-- These are entries as the format of a root has them. Of the whole ones those of policies and bindings, of some other objects, and all that are no object's,
-- are together the entries of a view that may be held: so each of them is that of an object, of a policy's plans or of an event, and the revisions of the
-- events count up to that of the root.
pub record HasHeldEntries (rules : Rules) (label : Label) (entries : List Entry) : Type 0 where
  pub whole : List Entry
  pub can : has_chunks label.format ≡ true → AreCuttable whole
  pub cut_are : cut label.format whole ≡ entries
  pub chosen : List ℕ → Bool
  pub choice : ChoosesRules chosen
  pub held : seen.View Decoded
  pub is_held : IsHeld rules held
  pub counted : held.revision ≡ label.revision
  pub are : kept_of chosen whole ≡ held_entries held
