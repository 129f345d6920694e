-- What the program answers to a command line, and what it writes: each outcome, and when alone it comes (ours).
use Rattle.std.specs.Prelude.{◌≡◌, ◌≢◌, ◌⊎◌, ⊤, ℕ, Bool, true, List, Option, None, Some, Result, Ok, Err, codes}
use Rattle.std.specs.Io.KnownBytes.{Appends, Keeps}
use Rattle.std.specs.declared.net.socket_addr.SocketAddrV4.{SocketAddrV4}
use Rattle.clap.specs.Words.{Row, Text}
use Rattle.mqtt_cli.specs.command.Line.{AskFor, AsksToReplay, AsksToServe, command_of, file_in, is_vectors, replay_rows_in, rows_in, serve_rows_in}
use Rattle.mqtt_cli.specs.declared.command.line.LineFault.TheVariants as line
use Rattle.mqtt_cli.specs.declared.command.outcome.Outcome.{Outcome}
use Rattle.mqtt_cli.specs.declared.command.outcome.Outcome.TheVariants.{Done, Line, Unwritten, NoFile, View, Vectors, Replayed, Replay, Served, Serve}
use Rattle.mqtt_script.specs.declared.replay_fault.Played.{Played}
use Rattle.mqtt_script.specs.declared.replay_fault.ReplayFault.{ReplayFault}
use Rattle.mqtt_rules.specs.declared.step.Capacity.{Capacity}
use Rattle.mqtt_rules.specs.declared.step.Limits.{Limits}
use Rattle.mqtt_link.specs.declared.commit.Commit.{Commit}
use Rattle.mqtt_link.specs.declared.serve_fault.ServeFault.{ServeFault}
use Rattle.mqtt_cli.specs.command.Outcome.{version_line}
use Rattle.mqtt_cli.specs.viewer.Vectors.{Reports}
use Rattle.mqtt_cli.specs.declared.viewer.vectors_checker.VectorsFault.TheVariants as vectors

-- a command, and its matches
abbrev pub Asked : Type 0
Asked = Option (Text × List Row)

-- what serving at an address, over the database at a path, for so many turns, with limits, lines and a commit, with a log or without,
-- may come to
abbrev pub Serving : Type 1
Serving = SocketAddrV4 → Text → ℕ → Capacity → Commit → Bool → Result ⊤ ServeFault → Type 0

-- what the replay of the script at a path, with limits, may come to
abbrev pub Replaying : Type 1
Replaying = Text → Limits → Result Played ReplayFault → Type 0

-- the command asks to replay a script, and that came to this
pub record HasReplayed (replays : Replaying) (command : Asked) (ended : Result Played ReplayFault) : Type 0 where
  pub file : Text
  pub limits : Limits
  pub asks : AsksToReplay (replay_rows_in command) file limits
  pub came : replays file limits ended

-- the command asks to serve, and that came to this
pub record HasServed (serves : Serving) (command : Asked) (ended : Result ⊤ ServeFault) : Type 0 where
  pub listen : SocketAddrV4
  pub db : Text
  pub turns : ℕ
  pub limits : Capacity
  pub commit : Commit
  pub log : Bool
  pub asks : AsksToServe (serve_rows_in command) listen db turns limits commit log
  pub came : serves listen db turns limits commit log ended

-- the command asks for the view of a file
pub record AsksToView (command : Asked) : Type 0 where
  pub file : Text
  pub file_is : file_in (rows_in command) ≡ Some file

-- of one that has to be opened: `-` is standard input
pub record AsksForFile (command : Asked) : Type 0 where
  pub file : Text
  pub file_is : file_in (rows_in command) ≡ Some file
  pub named : file ≢ codes "-"

-- the outcome of a view
abbrev pub IsOfView : Outcome → Type 0
IsOfView (Line fault) = ⊥
IsOfView (Done status) = ⊤
IsOfView Unwritten = ⊥
IsOfView NoFile = ⊥
IsOfView (View fault) = ⊤
IsOfView (Vectors fault) = ⊥
IsOfView (Replayed played) = ⊥
IsOfView (Replay fault) = ⊥
IsOfView Served = ⊥
IsOfView (Serve fault) = ⊥

-- the version was to be written, and is
abbrev pub TellsVersion : Outcome → Type 0
TellsVersion (Line (line.Usage text)) = ⊥
TellsVersion (Line line.Memory) = ⊥
TellsVersion (Line line.Version) = ⊤
TellsVersion (Done status) = ⊥
TellsVersion Unwritten = ⊤
TellsVersion NoFile = ⊥
TellsVersion (View fault) = ⊥
TellsVersion (Vectors fault) = ⊥
TellsVersion (Replayed played) = ⊥
TellsVersion (Replay fault) = ⊥
TellsVersion Served = ⊥
TellsVersion (Serve fault) = ⊥

-- the outcome is what the command asks for: a wrong command line asks for nothing
abbrev pub Answers : Serving → Replaying → Asked → Outcome → Type 0
Answers serves replays command (Line fault) = fault ≢ line.Memory → AskFor command None
Answers serves replays command (Done status) = (is_vectors command ≡ true) ⊎ AsksToView command
Answers serves replays command Unwritten = AskFor command None
Answers serves replays command NoFile = AsksForFile command
Answers serves replays command (View fault) = AsksToView command
Answers serves replays command (Vectors fault) = is_vectors command ≡ true
Answers serves replays command (Replayed played) = HasReplayed replays command (Ok played)
Answers serves replays command (Replay fault) = HasReplayed replays command (Err fault)
Answers serves replays command Served = HasServed serves command (Ok tt)
Answers serves replays command (Serve fault) = HasServed serves command (Err fault)

-- what is written: the version, the report on the vectors, the view of the file, else nothing; what serves and what replays
-- write by themselves
abbrev pub Writes : Asked → Option (List ℕ) → Option (List ℕ) → Outcome → Type 0
Writes command old new (Line (line.Usage text)) = Keeps old new
Writes command old new (Line line.Memory) = Keeps old new
Writes command old new (Line line.Version) = Appends old new version_line
Writes command old new Unwritten = ⊤
Writes command old new (Done status) = is_vectors command ≡ true → Reports old new status
Writes command old new NoFile = Keeps old new
Writes command old new (View fault) = ⊤
Writes command old new (Vectors fault) = fault ≢ vectors.Write → Keeps old new
Writes command old new (Replayed played) = Keeps old new
Writes command old new (Replay fault) = Keeps old new
Writes command old new Served = Keeps old new
Writes command old new (Serve fault) = Keeps old new

-- the outcome is that of some command line, or the process's words cannot be had
abbrev pub AnswersWords : Serving → Replaying → Outcome → Type 0
AnswersWords serves replays (Line fault) = ⊤
AnswersWords serves replays outcome = (words : List Text) × Answers serves replays (command_of words) outcome
