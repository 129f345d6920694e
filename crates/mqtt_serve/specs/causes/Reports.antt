-- What a failed call tells of why the server ends (ours).
use Rattle.std.specs.Prelude.{◌≡◌, ◌⊎◌, ◌==◌, if◌then◌else◌, pos, Some}
use Rattle.std.specs.IoError.{raw_os_error}
use Rattle.std.specs.declared.io.Error.{Error as CallError}
use Rattle.std.specs.declared.io.ErrorKind.{ErrorKind}
use Rattle.std.specs.declared.io.ErrorKind.TheVariants as kind
use Rattle.sqlite.specs.declared.error.ErrorCode.{ErrorCode}
use Rattle.sqlite.specs.declared.error.ErrorCode.TheVariants as code
use Rattle.sqlite.specs.declared.error.Error.{Error}
use Rattle.sqlite.specs.declared.error.Error.TheVariants.{SqliteFailure}
use Rattle.sqlite_disk.specs.declared.tally.Tally.{Tally}
use Rattle.mqtt_keep.specs.declared.keeping.keep.KeepError.{KeepError}
use Rattle.mqtt_keep.specs.declared.keeping.keep.KeepError.TheVariants as keep
use Rattle.mqtt_broker_step.specs.declared.call.EngineError.{EngineError}
use Rattle.mqtt_broker_step.specs.declared.call.EngineError.TheVariants as engine
use Rattle.mqtt_serve.specs.declared.causes.cause.Cause.{Cause}
use Rattle.mqtt_serve.specs.declared.causes.cause.Cause.TheVariants.{Memory, Store, Socket}
use Rattle.mqtt_serve.specs.declared.causes.cause.StoreCause.{StoreCause}
use Rattle.mqtt_serve.specs.declared.causes.cause.StoreCause.TheVariants as store
use Rattle.mqtt_serve.specs.declared.causes.cause.SocketCause.TheVariants as socket

-- the process, or the machine, has no handle left for another file (EMFILE, ENFILE)
abbrev pub WantsHandle : CallError → Type 0
WantsHandle error = (raw_os_error error ≡ Some (pos 24)) ⊎ (raw_os_error error ≡ Some (pos 23))

-- what a call on a socket that failed in this way tells
abbrev pub socket_cause : ErrorKind → Cause
socket_cause kind.OutOfMemory = Memory
socket_cause kind.AddrInUse = Socket socket.InUse
socket_cause kind.AddrNotAvailable = Socket socket.NoAddress
socket_cause kind.PermissionDenied = Socket socket.NoPermission
socket_cause _ = Socket socket.Unopened

-- what a call on a file of a database that failed in this way tells
abbrev pub file_cause : ErrorKind → Cause
file_cause kind.OutOfMemory = Memory
file_cause kind.NotFound = Store store.NotThere
file_cause kind.NotADirectory = Store store.NotThere
file_cause kind.PermissionDenied = Store store.NoPermission
file_cause kind.ReadOnlyFilesystem = Store store.ReadOnly
file_cause kind.StorageFull = Store store.Full
file_cause kind.QuotaExceeded = Store store.Full
file_cause kind.InvalidFilename = Store store.BadName
file_cause kind.InvalidInput = Store store.BadName
file_cause kind.FilesystemLoop = Store store.BadName
file_cause kind.IsADirectory = Store store.Folder
file_cause _ = Store store.Disk

-- what a failure of a database tells
abbrev pub code_cause : ErrorCode → Cause
code_cause code.OutOfMemory = Memory
code_cause code.DatabaseBusy = Store store.InUse
code_cause code.NotADatabase = Store store.Unreadable
code_cause code.DatabaseCorrupt = Store store.Damaged
code_cause code.DiskFull = Store store.Full
code_cause _ = Store store.Disk

abbrev pub database_cause : Error → Cause
database_cause (SqliteFailure failure) = code_cause failure
database_cause _ = Store store.Disk

-- what a failed load of the records tells
abbrev pub load_cause : KeepError → Cause
load_cause keep.Memory = Memory
load_cause keep.Disk = Store store.Disk
load_cause keep.Size = Store store.Disk
load_cause keep.Corrupt = Store store.Damaged
load_cause keep.Schema = Store store.OtherSchema

-- what a refusal of the engine tells
abbrev pub engine_cause : EngineError → Cause
engine_cause engine.Memory = Memory
engine_cause engine.Stopped = Store store.Disk
engine_cause engine.Spent = Store store.Spent

-- why a disk failed: a read of a file gave other bytes than were written; else a write found no room; else another failure
abbrev pub disk_cause : Tally → StoreCause
disk_cause tally = if tally.caught == 0 then (if tally.refused == 0 then store.Disk else store.Full) else store.Damaged

-- of a disk that failed this says more, and of no other cause
abbrev pub by_tally : Tally → Cause → Cause
by_tally tally (Store store.Disk) = Store (disk_cause tally)
by_tally tally cause = cause
