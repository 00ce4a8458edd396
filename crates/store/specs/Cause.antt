-- Why a file could not be had, or an address not be listened on, and what is told of it.
use Rattle.std.specs.Prelude.{ℕ, ℤ, pos, List, Option, None, Some, if◌then◌else◌, codes}
use Rattle.std.specs.Ordering.{int_eq}
use Rattle.std.specs.declared.io.ErrorKind.{ErrorKind}
use Rattle.std.specs.declared.io.ErrorKind.TheVariants as kind
use Rattle.store.specs.declared.cause.Cause.{Cause}
use Rattle.store.specs.declared.cause.Cause.TheVariants as cause

-- what is told of it
abbrev pub text_of : Cause → List ℕ
text_of cause.Locked = codes "locked by another process"
text_of cause.PermissionDenied = codes "permission denied"
text_of cause.Missing = codes "no such file or directory"
text_of cause.IsADirectory = codes "is a directory"
text_of cause.NotADirectory = codes "not a directory"
text_of cause.ReadOnly = codes "read-only file system"
text_of cause.StorageFull = codes "no space left on device"
text_of cause.QuotaExceeded = codes "quota exceeded"
text_of cause.FileTooLarge = codes "file too large"
text_of cause.InvalidName = codes "invalid file name"
text_of cause.TooManyLinks = codes "too many symbolic links"
text_of cause.TooManyFiles = codes "too many open files"
text_of cause.InputOutput = codes "input/output error"
text_of cause.AddressInUse = codes "address in use"
text_of cause.AddressNotAvailable = codes "address not available"
text_of cause.NotAnAddress = codes "not an IP address and a port"

-- the cause that a kind of error names, of those that a file or an address has
abbrev pub of_kind : ErrorKind → Option Cause
of_kind kind.PermissionDenied = Some cause.PermissionDenied
of_kind kind.NotFound = Some cause.Missing
of_kind kind.IsADirectory = Some cause.IsADirectory
of_kind kind.NotADirectory = Some cause.NotADirectory
of_kind kind.ReadOnlyFilesystem = Some cause.ReadOnly
of_kind kind.StorageFull = Some cause.StorageFull
of_kind kind.QuotaExceeded = Some cause.QuotaExceeded
of_kind kind.FileTooLarge = Some cause.FileTooLarge
of_kind kind.InvalidFilename = Some cause.InvalidName
of_kind kind.FilesystemLoop = Some cause.TooManyLinks
of_kind kind.AddrInUse = Some cause.AddressInUse
of_kind kind.AddrNotAvailable = Some cause.AddressNotAvailable
of_kind _ = None

-- The cause that an error names, by its number in the system where its kind has none: 5 is EIO, 23 is ENFILE and 24 is EMFILE.
abbrev pub of_error : Option ℤ → ErrorKind → Option Cause
of_error None k = of_kind k
of_error (Some code) k = if int_eq code (pos 5) then Some cause.InputOutput
    else (if int_eq code (pos 23) then Some cause.TooManyFiles else (if int_eq code (pos 24) then Some cause.TooManyFiles else of_kind k))
