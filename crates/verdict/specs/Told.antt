-- What is said of a write that is not admitted (Kubernetes, "Validating Admission Policy": validations, messages, failure policy).
use Rattle.std.specs.Prelude.{ℕ, ◌++◌, ◌==◌, ◌||◌, Bool, codes, if◌then◌else◌, Option, Some, None, unwrap_or}
use Rattle.std.specs.List.{list_all, list_any}
use Rattle.celmean.specs.Value.{Null, Truth, Int, Uint, Text, Sequence, Mapping, Outcome, Gives, Error}
use Rattle.celmean.specs.Macros.{is_true, is_false}
use Rattle.policy.specs.Validation as asked
use Rattle.policy.specs.Validation.{Validation}
use Rattle.policy.specs.declared.policy.FailurePolicy.{FailurePolicy}
use Rattle.policy.specs.declared.policy.FailurePolicy.TheVariants.{Fail, Ignore}
use Rattle.policy.specs.declared.validation.Reason.{Reason}
use Rattle.policy.specs.declared.validation.Reason.TheVariants.{Invalid}

pub record Denial : Type 0 where
  pub reason : Reason
  pub message : asked.Text

-- what cannot be evaluated is denied, or passes
abbrev pub failure : FailurePolicy → (message : asked.Text) → Option Denial
failure Fail message = Some (record { reason = Invalid; message = message })
failure Ignore message = None

-- ---- messages

-- a space or a tab
abbrev pub is_blank : ℕ → Bool
is_blank byte = byte == 32 || byte == 9

-- a line feed or a carriage return
abbrev pub breaks_line : ℕ → Bool
breaks_line byte = byte == 10 || byte == 13

-- a text on one line that is not blank
abbrev pub line_of : Outcome → Option asked.Text
line_of (Gives (Text s)) = if list_all is_blank s || list_any breaks_line s then None else Some s
line_of (Gives Null) = None
line_of (Gives (Truth b)) = None
line_of (Gives (Int z)) = None
line_of (Gives (Uint n)) = None
line_of (Gives (Sequence vs)) = None
line_of (Gives (Mapping es)) = None
line_of Error = None

-- the line, or else the message, or else the expression
abbrev pub said : Validation → (line : Option asked.Text) → asked.Text
said v line = unwrap_or line (unwrap_or v.message (codes "failed expression: " ++ v.expression))

-- ---- validations

-- of a validation that is true nothing, of one that is false its denial with this line, else a failure
abbrev pub told : FailurePolicy → Validation → (line : Option asked.Text) → Outcome → Option Denial
told f v line o =
    if is_true o then None
    else (if is_false o then Some (record { reason = v.reason; message = said v line })
    else failure f (codes "expression error: " ++ v.expression))
