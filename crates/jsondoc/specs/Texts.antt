-- The text of an object to which a member is put, as it is written member by member.
use Rattle.std.specs.Prelude.{ℕ, List, Bool, if◌then◌else◌}
use Rattle.serde_json.specs.Data.{Data, Members, put}
use Rattle.serde_json.specs.Written.{members_text}

-- what is left to write where these members are left: the new one has its place among them, unless it is put already
abbrev pub left_text : (is_put later : Bool) (name : List ℕ) → Data → Members → List ℕ
left_text is_put later name value members = if is_put then members_text later members else members_text later (put name value members)
