-- Why the server ended early, in words (ours).
use Rattle.std.specs.Prelude.{ℕ, List, [], ◌∷◌, ◌++◌, codes, ◌≡◌}
use Rattle.std.specs.Net.Text.{socket_text as address_text}
use Rattle.std.specs.declared.net.socket_addr.SocketAddr.{SocketAddr}
use Rattle.mqtt_link.specs.declared.serve_fault.ServeFault.{ServeFault}
use Rattle.mqtt_link.specs.declared.serve_fault.ServeFault.TheVariants as fault
use Rattle.mqtt_serve.specs.declared.causes.cause.Cause.{Cause}
use Rattle.mqtt_serve.specs.declared.causes.cause.Cause.TheVariants.{Write, Memory, Store, Socket}
use Rattle.mqtt_serve.specs.declared.causes.cause.StoreCause.{StoreCause}
use Rattle.mqtt_serve.specs.declared.causes.cause.StoreCause.TheVariants.{InUse, NotThere, NoPermission, Folder, NoFile, Links, NoName, BadName, ReadOnly, Journal, Log, Handles, NotADatabase, Unreadable, OtherSchema, Damaged, Full, Disk, Spent}
use Rattle.mqtt_serve.specs.declared.causes.cause.SocketCause.{SocketCause}
use Rattle.mqtt_serve.specs.declared.causes.cause.SocketCause.TheVariants as socket

-- what it is to the exit status
abbrev pub fault_of : Cause → ServeFault
fault_of Write = fault.Write
fault_of Memory = fault.Memory
fault_of (Store cause) = fault.Store
fault_of (Socket cause) = fault.Socket

-- the socket is to blame
abbrev pub IsOfSocket : Cause → Type 0
IsOfSocket cause = fault_of cause ≡ fault.Socket

-- the text of each cause, by which it is told from all others of its kind
abbrev pub store_text : StoreCause → List ℕ
store_text InUse = codes "in use"
store_text NotThere = codes "not there: a folder of its path is missing"
store_text NoPermission = codes "no permission to read and write it, its log or its folder"
store_text Folder = codes "a folder"
store_text NoFile = codes "a device, a pipe, a socket or a link to nothing"
store_text Links = codes "more than one link"
store_text NoName = codes "the name of no file"
store_text BadName = codes "a name that the file system does not take"
store_text ReadOnly = codes "a file system that takes no writes"
store_text Journal = codes "a rollback journal beside it, which sqlite3 has to play back"
store_text Log = codes "something else has the name of its log"
store_text Handles = codes "too few handles"
store_text NotADatabase = codes "not a database of ours"
store_text Unreadable = codes "a database of another program, or damaged"
store_text OtherSchema = codes "another schema"
store_text Damaged = codes "damaged"
store_text Full = codes "the disk is full"
store_text Disk = codes "the disk failed"
store_text Spent = codes "a number would go above 2^62"

abbrev pub socket_text : SocketCause → List ℕ
socket_text socket.InUse = codes "in use"
socket_text socket.NoAddress = codes "not an address of this machine"
socket_text socket.NoPermission = codes "no permission for this port"
socket_text socket.Handles = codes "too few handles"
socket_text socket.Unopened = codes "it does not open"

abbrev pub text_of : Cause → List ℕ
text_of Write = codes "a write failed"
text_of Memory = codes "too little"
text_of (Store cause) = store_text cause
text_of (Socket cause) = socket_text cause

-- what failed: the path of the database, the address, or standard output, or memory
abbrev pub subject_of : SocketAddr → List ℕ → Cause → List ℕ
subject_of listen db Write = codes "standard output"
subject_of listen db Memory = codes "memory"
subject_of listen db (Store cause) = db
subject_of listen db (Socket cause) = address_text listen

abbrev pub line_feed : ℕ
line_feed = 0x0a

-- `mqtt5: `, what failed, and why
abbrev pub cause_line : SocketAddr → List ℕ → Cause → List ℕ
cause_line listen db cause = codes "mqtt5: " ++ subject_of listen db cause ++ codes ": " ++ text_of cause ++ line_feed ∷ []
