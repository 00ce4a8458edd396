-- What the program tells of a problem, and how it then ends.
use Rattle.std.specs.Prelude.{◌≡◌, ℕ, ℤ, ◌⊎◌, List, [], ◌++◌, Option, None, Some, codes}
use Rattle.std.specs.IoError.{error_kind, raw_os_error}
use Rattle.std.specs.Option.{option_map_or}
use Rattle.std.specs.declared.io.ErrorKind.{ErrorKind}
use Rattle.objects.specs.Failing.{HasGrown}
use Rattle.api.specs.declared.fault.ServeFault as serve
use Rattle.api.specs.declared.fault.ServeFault.TheVariants as serve_fault
use Rattle.clients.specs.declared.fault.BindFault as bind
use Rattle.clients.specs.declared.fault.BindFault.TheVariants as bind_fault
use Rattle.clients.specs.declared.fault.ClientsFault as clients
use Rattle.clients.specs.declared.fault.ClientsFault.TheVariants as clients_fault
use Rattle.device.specs.declared.file_device.CreateFault as file_create
use Rattle.device.specs.declared.file_device.CreateFault.TheVariants as file_create_fault
use Rattle.device.specs.declared.file_device.OpenFault as file_open
use Rattle.device.specs.declared.file_device.OpenFault.TheVariants as file_open_fault
use Rattle.durable.specs.declared.fault.Damage.TheVariants as damage
use Rattle.durable.specs.declared.fault.Fault as store
use Rattle.durable.specs.declared.fault.Fault.TheVariants as store_fault
use Rattle.durable.specs.declared.upgraded.UpgradeFault as upgrade
use Rattle.durable.specs.declared.upgraded.UpgradeFault.TheVariants as upgrade_fault
use Rattle.durable.specs.declared.new_store.CreateFault as store_create
use Rattle.durable.specs.declared.new_store.CreateFault.TheVariants as store_create_fault
use Rattle.httpmsg.specs.Flow.{TookSome}
use Rattle.store.specs.declared.cause.Cause.{Cause}
use Rattle.store.specs.declared.fault.AnswerFault as answer
use Rattle.store.specs.declared.fault.AnswerFault.TheVariants as answer_fault
use Rattle.store.specs.Cause as told
use Rattle.gated.specs.declared.command.Verb.{Verb}
use Rattle.gated.specs.declared.problem.Problem.{Problem}
use Rattle.gated.specs.declared.problem.Problem.TheVariants as problem
use Rattle.gated.specs.declared.problem.Reason.{Reason}
use Rattle.gated.specs.declared.status.Status.{Status}
use Rattle.gated.specs.declared.status.Status.TheVariants as status
use Rattle.gated.specs.CommandLine.{address_of, file_of}

-- what is told of it: in its line on standard error after the program's name, and of damage that a check finds in a line of the output
abbrev pub text_of : Problem → List ℕ
text_of problem.FileExists = codes "file exists"
text_of problem.NoStore = codes "no store"
text_of (problem.Damaged damage.Header) = codes "damaged: header"
text_of (problem.Damaged damage.Root) = codes "damaged: root"
text_of (problem.Damaged damage.Page) = codes "damaged: page"
text_of (problem.Damaged damage.Entry) = codes "damaged: entry"
text_of (problem.Damaged damage.Log) = codes "damaged: log"
text_of (problem.Damaged damage.Plan) = codes "damaged: plan"
text_of problem.Exhausted = codes "generation exhausted"
text_of problem.TooManyObjects = codes "too many objects"
text_of problem.RevisionExhausted = codes "revision exhausted"
text_of problem.AlreadyUpgraded = codes "already upgraded"
text_of problem.DeviceFailed = codes "device failed"
text_of problem.StreamFailed = codes "input or output failed"
text_of (problem.ListenFailed cause) = codes "input or output failed"
text_of problem.OutOfMemory = codes "out of memory"

-- the line
abbrev pub line_of : Problem → List ℕ
line_of p = codes "gated: " ++ text_of p ++ codes "\n"

-- the line of why a file or an address of this name could not be had
abbrev pub cause_line : List ℕ → Cause → List ℕ
cause_line name cause = codes "gated: " ++ (name ++ (codes ": " ++ (told.text_of cause ++ codes "\n")))

-- the line of a reason, if there is one
abbrev pub reason_line : Option Reason → List ℕ
reason_line None = []
reason_line (Some r) = cause_line r.name.now r.cause

-- the bytes were taken, all of them unless the output failed
pub record TellsAll {E : Type 0} (took : E → E → List ℕ → Type 0) (failures : E → ℕ) (old new : E) (bytes : List ℕ) : Type 0 where
  pub some : TookSome took old new bytes
  pub whole : (some.rest ≡ []) ⊎ HasGrown (failures old) (failures new)

-- how the program ends
abbrev pub status_of : Problem → Status
status_of problem.FileExists = status.NoStore
status_of problem.NoStore = status.NoStore
status_of (problem.Damaged d) = status.NoStore
status_of problem.Exhausted = status.NoStore
status_of problem.TooManyObjects = status.NoStore
status_of problem.RevisionExhausted = status.NoStore
status_of problem.AlreadyUpgraded = status.NoStore
status_of problem.DeviceFailed = status.Failed
status_of problem.StreamFailed = status.Failed
status_of (problem.ListenFailed cause) = status.Failed
status_of problem.OutOfMemory = status.OutOfMemory

-- What may stand behind the line of a problem where there is no verb: nothing.
abbrev pub SaysNoMore : Problem → List ℕ → Type 0
SaysNoMore p more = more ≡ []

-- What stands behind the line of a problem of a verb: where a device failed, what the storage knows of why, with the verb's file; where the address is not listened on,
-- why, with the verb's address; and nothing else.
abbrev pub SaysWhy : {S : Type 0} (caused : S → List ℕ → Option Cause → Type 0) → S → Verb → Problem → List ℕ → Type 0
SaysWhy caused storage v problem.DeviceFailed more =
    (known : Option Cause) × caused storage (file_of v) known × (more ≡ option_map_or (cause_line (file_of v)) known [])
SaysWhy caused storage v (problem.ListenFailed cause) more = more ≡ option_map_or (λ address. cause_line address cause) (address_of v) []
SaysWhy caused storage v other more = more ≡ []

-- a problem that ends so is told in its line, and behind it what may stand there
abbrev pub TellsOf : {E : Type 0} (IsMore : Problem → List ℕ → Type 0) (took : E → E → List ℕ → Type 0) (failures : E → ℕ) (old new : E) → Status → Type 0
TellsOf IsMore took failures old new s =
    (p : Problem) × (more : List ℕ) × (status_of p ≡ s) × IsMore p more × TellsAll took failures old new (line_of p ++ more)

-- What is told of errors where the program ends so: nothing on success, some text where the words were not understood, and else a problem that ends so.
abbrev pub Tells : {E : Type 0} (IsMore : Problem → List ℕ → Type 0) (took : E → E → List ℕ → Type 0) (failures : E → ℕ) (old new : E) → Status → Type 0
Tells IsMore took failures old new status.Success = new ≡ old
Tells IsMore took failures old new status.Usage = (text : List ℕ) × TookSome took old new text
Tells IsMore took failures old new status.NoStore = TellsOf IsMore took failures old new status.NoStore
Tells IsMore took failures old new status.Failed = TellsOf IsMore took failures old new status.Failed
Tells IsMore took failures old new status.OutOfMemory = TellsOf IsMore took failures old new status.OutOfMemory

-- ---- the problem that a fault is

abbrev pub of_file_create : file_create.CreateFault → Problem
of_file_create file_create_fault.Exists = problem.FileExists
of_file_create file_create_fault.Device = problem.DeviceFailed
of_file_create file_create_fault.Memory = problem.OutOfMemory

abbrev pub of_file_open : file_open.OpenFault → Problem
of_file_open file_open_fault.Missing = problem.NoStore
of_file_open file_open_fault.Device = problem.DeviceFailed
of_file_open file_open_fault.Memory = problem.OutOfMemory

abbrev pub of_store_create : store_create.CreateFault → Problem
of_store_create store_create_fault.Device = problem.DeviceFailed
of_store_create store_create_fault.NotEmpty = problem.FileExists

abbrev pub of_store : store.Fault → Problem
of_store store_fault.Device = problem.DeviceFailed
of_store store_fault.Memory = problem.OutOfMemory
of_store (store_fault.Damaged d) = problem.Damaged d
of_store store_fault.Failed = problem.DeviceFailed
of_store store_fault.Exhausted = problem.Exhausted

abbrev pub of_upgrade : upgrade.UpgradeFault → Problem
of_upgrade upgrade_fault.Device = problem.DeviceFailed
of_upgrade upgrade_fault.Memory = problem.OutOfMemory
of_upgrade (upgrade_fault.Damaged d) = problem.Damaged d
of_upgrade upgrade_fault.Failed = problem.DeviceFailed
of_upgrade upgrade_fault.TooManyObjects = problem.TooManyObjects
of_upgrade upgrade_fault.RevisionExhausted = problem.RevisionExhausted
of_upgrade upgrade_fault.NotOld = problem.AlreadyUpgraded

abbrev pub of_serve : serve.ServeFault → Problem
of_serve serve_fault.Read = problem.StreamFailed
of_serve serve_fault.Write = problem.StreamFailed
of_serve serve_fault.Device = problem.DeviceFailed
of_serve serve_fault.Memory = problem.OutOfMemory
of_serve (serve_fault.Damaged d) = problem.Damaged d
of_serve serve_fault.Failed = problem.DeviceFailed

abbrev pub of_answer : answer.AnswerFault → Problem
of_answer (answer_fault.Opening f) = of_store f
of_answer (answer_fault.Serving f) = of_serve f

-- by the system's error, where it is known what that says
abbrev pub of_cause : Option Cause → Problem
of_cause None = problem.StreamFailed
of_cause (Some cause) = problem.ListenFailed cause

abbrev pub of_listening : Option ℤ → ErrorKind → Problem
of_listening code kind = of_cause (told.of_error code kind)

abbrev pub of_bind : bind.BindFault → Problem
of_bind (bind_fault.System error) = of_listening (raw_os_error error) (error_kind error)
of_bind bind_fault.Memory = problem.OutOfMemory

abbrev pub of_clients : clients.ClientsFault → Problem
of_clients clients_fault.Network = problem.StreamFailed
of_clients (clients_fault.Store f) = of_serve f
of_clients (clients_fault.Compaction f) = of_store f
