-- The command line, and what its words ask for.
use Rattle.std.specs.Prelude.{◌≡◌, ◌⊎◌, ◌||◌, is_some, ℕ, ◌<◌, ◌^◌, Bool, true, false, List, [], ◌∷◌, Option, None, Some, codes}
use Rattle.std.specs.Str.Parse.{IsNumeral, digits_value, without_leading_plus}
use Rattle.clap.specs.Words.{App, Row, Rule, Shape, Text, first_of, new_rule, one_of, subcommand_of}
use Rattle.clap.specs.Simple.{new_shape}
use Rattle.clap.specs.declared.builder.action.ArgAction.TheVariants.{Set, SetTrue}
use Rattle.clap.specs.declared.builder.value_parser.ValueParser.TheVariants as parser
use Rattle.names.specs.Format.{number_of}
use Rattle.gated.specs.declared.command.Serving.{Serving}
use Rattle.gated.specs.declared.command.Serving.TheVariants.{OneByOne, AtOnce}
use Rattle.gated.specs.declared.command.Verb.{Verb}
use Rattle.gated.specs.declared.command.Verb.TheVariants.{Create, Replay, Serve, Compact, Upgrade, Check}

-- ---- the line

-- FILE, which is required
abbrev pub file_rule : Rule
file_rule = record (new_rule (codes "file")) { value_names = 1; action = Some Set; required = true }

-- `--NAME VALUE`
abbrev pub option_rule : Text → Rule
option_rule name = record (new_rule name) { long = Some name; value_names = 1; action = Some Set }

-- `--listen IP:PORT`, which is required
abbrev pub listen_rule : Rule
listen_rule = record (option_rule (codes "listen")) { required = true }

-- `--conns N`: 1 to 65535
abbrev pub conns_rule : Rule
conns_rule = record (option_rule (codes "conns")) { parser = Some (parser.Unsigned 1 65535) }

-- `--at-once M`: 1 to 1024
abbrev pub at_once_rule : Rule
at_once_rule = record (option_rule (codes "at-once")) { parser = Some (parser.Unsigned 1 1024) }

-- `--idle SECONDS`: 0 to 86400, and 60 where it is left out
abbrev pub idle_rule : Rule
idle_rule = record (option_rule (codes "idle")) { defaults = codes "60" ∷ []; parser = Some (parser.Unsigned 0 86400) }

-- `--log`, a flag
abbrev pub log_rule : Rule
log_rule = record (new_rule (codes "log")) { long = Some (codes "log"); action = Some SetTrue }

-- `--compact-at N`: 1 to 1000
abbrev pub compact_at_rule : Rule
compact_at_rule = record (option_rule (codes "compact-at")) { parser = Some (parser.Unsigned 1 1000) }

-- `--kubernetes`, a flag
abbrev pub kubernetes_rule : Rule
kubernetes_rule = record (new_rule (codes "kubernetes")) { long = Some (codes "kubernetes"); action = Some SetTrue }

-- `--format N`: 1 to 3, and 3 where it is left out
abbrev pub format_rule : Rule
format_rule = record (option_rule (codes "format")) { defaults = codes "3" ∷ []; parser = Some (parser.Unsigned 1 3) }

-- a command of this name over a file
abbrev pub over_file : Text → Shape
over_file name = record (new_shape name) { rules = file_rule ∷ [] }

abbrev pub create_shape : Shape
create_shape = record (new_shape (codes "create")) { rules = file_rule ∷ format_rule ∷ [] }

abbrev pub serve_shape : Shape
serve_shape = record (new_shape (codes "serve")) { rules = file_rule ∷ listen_rule ∷ conns_rule ∷ at_once_rule ∷ idle_rule ∷ log_rule ∷ compact_at_rule ∷ kubernetes_rule ∷ [] }

-- `gated COMMAND FILE`, where the command is replay, compact, upgrade or check, `gated create FILE OPTION` and `gated serve FILE OPTION..`; `gated` alone is refused
unfoldable pub gated_line : App
gated_line = record {
  top = record (new_shape (codes "gated")) { is_leaf = false; has_version = true; subcommand_required = true };
  subs = create_shape ∷ over_file (codes "replay") ∷ serve_shape ∷ over_file (codes "compact") ∷ over_file (codes "upgrade") ∷ over_file (codes "check") ∷ [];
}

-- ---- what is asked

-- the number that stands in an option's row
abbrev pub HasNumber : Text → List Row → ℕ → Type 0
HasNumber name rows n = (text : Text) × (one_of name rows ≡ Some text) × (n ≡ digits_value 10 (without_leading_plus text))

-- no number below 2^16 stands in an option's row
abbrev pub HasNoNumber : Text → List Row → Type 0
HasNoNumber name rows = (text : Text) → one_of name rows ≡ Some text
    → IsNumeral 10 (without_leading_plus text) × (digits_value 10 (without_leading_plus text) < 2 ^ 16) → ⊥

-- the number that may stand in an option's row
abbrev pub MayHaveNumber : Text → List Row → Option ℕ → Type 0
MayHaveNumber name rows None = HasNoNumber name rows
MayHaveNumber name rows (Some n) = HasNumber name rows n

-- Connections are served at once where the rows have `--at-once`, of as many in all as `--conns` says; where they have `--conns` alone one by one, so many in
-- all; and where they have neither, 256 at once, of any number in all.
abbrev pub IsServedAs : List Row → Serving → Type 0
IsServedAs rows (OneByOne connections) = HasNoNumber (codes "at-once") rows × HasNumber (codes "conns") rows connections
IsServedAs rows (AtOnce at_once connections compact_at is_kubernetes) =
    (HasNumber (codes "at-once") rows at_once × MayHaveNumber (codes "conns") rows connections)
    ⊎ (HasNoNumber (codes "at-once") rows × HasNoNumber (codes "conns") rows × (at_once ≡ 256) × (connections ≡ None))

-- Messages are told of in a log of connections that are served at once, and of no others.
abbrev pub MayBeLogged : Serving → Bool → Type 0
MayBeLogged (OneByOne connections) is_logged = is_logged ≡ false
MayBeLogged (AtOnce at_once connections compact_at is_kubernetes) is_logged = Unit {0}

-- when a store is compacted while connections are served so: never where they are served one by one
abbrev pub compacted_at : Serving → Option ℕ
compacted_at (OneByOne connections) = None
compacted_at (AtOnce at_once connections times is_kubernetes) = times

-- whether messages of Kubernetes clients are served: never where connections are served one by one
abbrev pub serves_kubernetes : Serving → Bool
serves_kubernetes (OneByOne connections) = false
serves_kubernetes (AtOnce at_once connections compact_at is_served) = is_served

-- whether an option without a value is there, as its row says
pub record IsFlag (name : Text) (rows : List Row) (is_there : Bool) : Type 0 where
  pub none : one_of name rows ≡ None → is_there ≡ false
  pub given : one_of name rows ≡ Some (codes "true") → is_there ≡ true
  pub left_out : one_of name rows ≡ Some (codes "false") → is_there ≡ false

-- The verb is that of a command of this name whose arguments have these rows.
abbrev pub IsAsked : Text → List Row → Verb → Type 0
IsAsked name rows (Create file format) =
    (name ≡ codes "create") × (first_of (codes "file") rows ≡ Some file.now) × HasNumber (codes "format") rows (number_of format)
IsAsked name rows (Replay file) = (name ≡ codes "replay") × (first_of (codes "file") rows ≡ Some file.now)
IsAsked name rows (Serve file address serving idle_seconds is_logged) =
    (name ≡ codes "serve") × (first_of (codes "file") rows ≡ Some file.now) × (first_of (codes "listen") rows ≡ Some address.now)
    × IsServedAs rows serving × HasNumber (codes "idle") rows idle_seconds × IsFlag (codes "log") rows is_logged × MayBeLogged serving is_logged
    × MayHaveNumber (codes "compact-at") rows (compacted_at serving) × IsFlag (codes "kubernetes") rows (serves_kubernetes serving)
IsAsked name rows (Compact file) = (name ≡ codes "compact") × (first_of (codes "file") rows ≡ Some file.now)
IsAsked name rows (Upgrade file) = (name ≡ codes "upgrade") × (first_of (codes "file") rows ≡ Some file.now)
IsAsked name rows (Check file) = (name ≡ codes "check") × (first_of (codes "file") rows ≡ Some file.now)

-- The words, of which the first is the program's name, name the verb's command, and its fields are what stands after the name.
abbrev pub AskFor : List Text → Verb → Type 0
AskFor words verb = (name : Text) × (rows : List Row) × (subcommand_of gated_line words ≡ Some (name, rows)) × IsAsked name rows verb

-- Whether a verb is that of a check.
abbrev pub is_check : Verb → Bool
is_check (Create file format) = false
is_check (Replay file) = false
is_check (Serve file address serving idle_seconds is_logged) = false
is_check (Compact file) = false
is_check (Upgrade file) = false
is_check (Check file) = true

-- Whether something is told of in a log: messages, or compactions.
abbrev pub is_logged : Verb → Bool
is_logged (Create file format) = false
is_logged (Replay file) = false
is_logged (Serve file address serving idle_seconds told) = told || is_some (compacted_at serving)
is_logged (Compact file) = false
is_logged (Upgrade file) = false
is_logged (Check file) = false

-- a verb's address, if it has one
abbrev pub address_of : Verb → Option Text
address_of (Create file format) = None
address_of (Replay file) = None
address_of (Serve file address serving idle_seconds is_logged) = Some address.now
address_of (Compact file) = None
address_of (Upgrade file) = None
address_of (Check file) = None

-- a verb's file
abbrev pub file_of : Verb → Text
file_of (Create file format) = file.now
file_of (Replay file) = file.now
file_of (Serve file address serving idle_seconds is_logged) = file.now
file_of (Compact file) = file.now
file_of (Upgrade file) = file.now
file_of (Check file) = file.now
