-- What a command line asks for, by `clap`'s meaning of its words (ours).
use Rattle.std.specs.Prelude.{◌≡◌, ℕ, Bool, true, false, List, [], ◌∷◌, Option, None, Some, codes, if◌then◌else◌, option_and_then}
use Rattle.std.specs.Str.{bytes_eq}
use Rattle.clap.specs.declared.builder.ArgAction.TheVariants.{SetTrue}
use Rattle.clap.specs.Walk.{is_empty}
use Rattle.clap.specs.declared.error.kind.ErrorKind.TheVariants.{DisplayVersion}
use Rattle.clap.specs.Words.{App, IsAmong, Row, Rule, Text, fault_of, first_of, new_app, new_rule, one_of, subcommand_of, with_rule, with_subcommand}
use Rattle.mqtt_cli.specs.declared.command.line.Action.{Action}
use Rattle.mqtt_cli.specs.declared.command.line.Action.TheVariants.{View, Replay, Vectors, Serve}
use Rattle.mqtt_cli.specs.command.Limits.{AsksForCapacity, AsksForLimits, choice_rule, with_capacity, with_limits}
use Rattle.mqtt_cli.specs.command.Values.{IsAddress, IsCommit, IsCount, value_in}
use Rattle.mqtt_cli.specs.declared.viewer.details.Details.{Details}
use Rattle.mqtt_link.specs.declared.commit.Commit.{Commit}
use Rattle.mqtt_link.specs.declared.commit.Commit.TheVariants.{Turn}
use Rattle.mqtt_rules.specs.declared.step.Capacity.{Capacity}
use Rattle.mqtt_rules.specs.declared.step.Limits.{Limits}
use Rattle.std.specs.declared.net.socket_addr.SocketAddrV4.{SocketAddrV4}

-- `--NAME`, a flag
abbrev pub flag_rule : Text → Rule
flag_rule name = record (new_rule name) { long = Some name; action = Some SetTrue }

-- FILE, which has to be there
abbrev pub file_rule : Rule
file_rule = record (new_rule (codes "file")) { value_names = 1; required = true }

-- `view [--payload] [--properties] [--json] FILE`
abbrev pub view_app : App
view_app =
    with_rule
    (with_rule (with_rule (with_rule (new_app (codes "view")) (flag_rule (codes "payload"))) (flag_rule (codes "properties")))
    (flag_rule (codes "json")))
    file_rule

-- `replay FILE`, with the options for limits
abbrev pub replay_app : App
replay_app = with_limits (with_rule (new_app (codes "replay")) file_rule)

-- `vectors`
abbrev pub vectors_app : App
vectors_app = new_app (codes "vectors")

-- `--NAME VALUE`, which has to be there
abbrev pub option_rule : Text → Rule
option_rule name = record (new_rule name) { long = Some name; value_names = 1; required = true }

-- `serve --listen ADDR --db FILE --turns N [--commit turn|step] [--log]`, with the options for limits and for connections
abbrev pub serve_app : App
serve_app =
    with_capacity
    (with_rule
    (with_rule
    (with_rule (with_rule (with_rule (new_app (codes "serve")) (option_rule (codes "listen"))) (option_rule (codes "db")))
    (option_rule (codes "turns")))
    (choice_rule (codes "commit")))
    (flag_rule (codes "log")))

-- the program, which has to be given a command, or asked for its version
abbrev pub program_app : App
program_app =
    let alone = new_app (codes "mqtt5") in
    let required = record alone { top = record alone.top { has_version = true; subcommand_required = true } } in
    with_subcommand (with_subcommand (with_subcommand (with_subcommand required view_app.top) replay_app.top) vectors_app.top)
    serve_app.top

-- the command and its matches, if the words are a lawful command line
abbrev pub command_of : List Text → Option (Text × List Row)
command_of words =
    if is_empty (fault_of program_app words) then subcommand_of program_app words else None

-- the words are refused as a call for the version
abbrev pub AskForVersion : List Text → Type 0
AskForVersion words = IsAmong DisplayVersion (fault_of program_app words)

-- and as nothing else
abbrev pub AskForVersionAlone : List Text → Type 0
AskForVersionAlone words = fault_of program_app words ≡ DisplayVersion ∷ []

-- whether the command is `vectors`
abbrev pub is_vectors : Option (Text × List Row) → Bool
is_vectors None = false
is_vectors (Some command) = bytes_eq command.0 (codes "vectors")

-- the matches of `view`, if that is the command
abbrev pub rows_in : Option (Text × List Row) → Option (List Row)
rows_in None = None
rows_in (Some command) = if bytes_eq command.0 (codes "view") then Some command.1 else None

-- the matches of `replay`, if that is the command
abbrev pub replay_rows_in : Option (Text × List Row) → Option (List Row)
replay_rows_in None = None
replay_rows_in (Some command) = if bytes_eq command.0 (codes "replay") then Some command.1 else None

-- the matches of `serve`, if that is the command
abbrev pub serve_rows_in : Option (Text × List Row) → Option (List Row)
serve_rows_in None = None
serve_rows_in (Some command) = if bytes_eq command.0 (codes "serve") then Some command.1 else None

-- FILE
abbrev pub file_in : Option (List Row) → Option Text
file_in rows = option_and_then (first_of (codes "file")) rows

-- the value of a flag
abbrev pub flag_in : Text → Option (List Row) → Option Text
flag_in name rows = option_and_then (one_of name) rows

-- the flag by the text of its value
pub record IsFlag (value : Option Text) (flag : Bool) : Type 0 where
  pub none : value ≡ None → flag ≡ false
  pub is_true : value ≡ Some (codes "true") → flag ≡ true
  pub is_false : value ≡ Some (codes "false") → flag ≡ false

-- the view of this file is asked for, with these details
pub record AsksForView (rows : Option (List Row)) (file : Text) (details : Details) : Type 0 where
  pub file_is : file_in rows ≡ Some file
  pub payload : IsFlag (flag_in (codes "payload") rows) details.payload
  pub properties : IsFlag (flag_in (codes "properties") rows) details.properties
  pub json : IsFlag (flag_in (codes "json") rows) details.json

-- when the steps are stored: those of a turn together, if nothing is said
abbrev pub IsCommitGiven : Option Text → Commit → Type 0
IsCommitGiven None commit = commit ≡ Turn
IsCommitGiven (Some text) commit = IsCommit text commit

-- `serve` is asked for at this address, over this database, for so many turns, with these limits, so many lines and this commit, with a log or without
pub record AsksToServe (rows : Option (List Row)) (listen : SocketAddrV4) (db : Text) (turns : ℕ) (limits : Capacity) (commit : Commit) (log : Bool) : Type 0 where
  pub listen_text : Text
  pub turns_text : Text
  pub listen_is : value_in (codes "listen") rows ≡ Some listen_text
  pub address : IsAddress listen_text listen
  pub db_is : value_in (codes "db") rows ≡ Some db
  pub turns_is : value_in (codes "turns") rows ≡ Some turns_text
  pub count : IsCount turns_text turns
  pub limits_are : AsksForCapacity rows limits
  pub commit_is : IsCommitGiven (value_in (codes "commit") rows) commit
  pub log_is : IsFlag (flag_in (codes "log") rows) log

-- nothing that `serve` may be given is asked for
abbrev pub AsksNoServer : Option (List Row) → Type 0
AsksNoServer rows =
    (listen : SocketAddrV4) (db : Text) (turns : ℕ) (limits : Capacity) (commit : Commit) (log : Bool)
    → ¬ (AsksToServe rows listen db turns limits commit log)

-- `replay` is asked for, of this file, with these limits
pub record AsksToReplay (rows : Option (List Row)) (file : Text) (limits : Limits) : Type 0 where
  pub file_is : file_in rows ≡ Some file
  pub limits_are : AsksForLimits rows limits

-- nothing that `replay` may be given is asked for
abbrev pub AsksNoReplay : Option (List Row) → Type 0
AsksNoReplay rows = (file : Text) (limits : Limits) → ¬ (AsksToReplay rows file limits)

-- these matches of `serve` ask for this, or for nothing
abbrev pub AskToServe : List Row → Option Action → Type 0
AskToServe rows None = AsksNoServer (Some rows)
AskToServe rows (Some (Serve listen db turns limits commit log)) = AsksToServe (Some rows) listen db.now turns limits commit log
AskToServe rows (Some Vectors) = ⊥
AskToServe rows (Some (View file details)) = ⊥
AskToServe rows (Some (Replay file limits)) = ⊥

-- these matches of `replay` ask for this, or for nothing
abbrev pub AskToReplay : List Row → Option Action → Type 0
AskToReplay rows None = AsksNoReplay (Some rows)
AskToReplay rows (Some (Replay file limits)) = AsksToReplay (Some rows) file.now limits
AskToReplay rows (Some Vectors) = ⊥
AskToReplay rows (Some (View file details)) = ⊥
AskToReplay rows (Some (Serve listen db turns limits commit log)) = ⊥

-- this command asks for this, or for nothing
abbrev pub AskFor : Option (Text × List Row) → Option Action → Type 0
AskFor command None =
    (file_in (rows_in command) ≡ None) × AsksNoReplay (replay_rows_in command) × (is_vectors command ≡ false)
    × AsksNoServer (serve_rows_in command)
AskFor command (Some Vectors) = is_vectors command ≡ true
AskFor command (Some (View file details)) = AsksForView (rows_in command) file.now details
AskFor command (Some (Replay file limits)) = AsksToReplay (replay_rows_in command) file.now limits
AskFor command (Some (Serve listen db turns limits commit log)) = AsksToServe (serve_rows_in command) listen db.now turns limits commit log
