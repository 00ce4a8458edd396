-- One object as it is held or found, whether it is wanted, and under which key it stands if it is wanted by its name.
use Rattle.std.specs.Prelude.{Option, Some, None, if◌then◌else◌}
use Rattle.serde_json.specs.Data.{Data}
use Rattle.names.specs.declared.resource.Resource.{Resource}
use Rattle.names.specs.Key.{Key, key_of, is_key}
use Rattle.documents.specs.Document.{shown}
use Rattle.holdings.specs.declared.source.FoundDocument.{FoundDocument}
use Rattle.policy.specs.Forms.{Text}
use Rattle.policy.specs.Spec.{Wanted, by_name, by_selector}
use Rattle.verdict.specs.Objects.{Held}
use Rattle.verdict.specs.Listed.{is_wanted}
use Rattle.verdict.specs.LookupSeen.{shown_held}

-- the object as it is shown, if it is wanted
abbrev pub if_wanted : Wanted → Key × Held → Option Data
if_wanted wanted o = if is_wanted wanted (shown_held o) then Some (shown_held o).1 else None

-- the key of the one object of a resource in a namespace that is wanted, where it is wanted by a name, and these are the parts of a key
abbrev pub key_wanted : Resource → (namespace : Text) → Wanted → Option Key
key_wanted r namespace (by_name name) = if is_key (key_of r namespace name) then Some (key_of r namespace name) else None
key_wanted r namespace (by_selector requirements) = None

-- an object that was found, as it is shown
abbrev pub shown_found : FoundDocument → Data
shown_found f = shown f.document f.revision
