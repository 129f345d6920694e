-- Command lines, by computing.
use Rattle.std.proofs.Common.{◌≡◌, ℕ, true, List, [], ◌∷◌, None, Some, codes, refl, arith, rules}
use Rattle.clap.proofs.OnLiterals.{clap_on_literals}
use Rattle.clap.specs.Words.{Text, fault_of}
use Rattle.clap.specs.declared.error.kind.ErrorKind.TheVariants.{DisplayVersion, UnknownArgument}
use Rattle.mqtt_cli.specs.command.Line.{command_of, file_in, flag_in, is_vectors, program_app, replay_rows_in, rows_in, serve_rows_in}
use Rattle.mqtt_cli.specs.command.Limits.{AreLinesGiven}
use Rattle.mqtt_cli.specs.command.Values.{value_in}
use Rattle.mqtt_cli.specs.declared.command.outcome.TheConstants.{DONE, FAULTY, USAGE, FAILED}

-- ---- numbers

done : DONE ≡ 0
done = refl

faulty : FAULTY ≡ 1
faulty = refl

usage : USAGE ≡ 2
usage = refl

failed : FAILED ≡ 3
failed = refl

-- ---- command lines

abbrev line_of : List Text → List Text
line_of words = codes "mqtt5" ∷ words

standard_input : file_in (rows_in (command_of (line_of (codes "view" ∷ codes "-" ∷ [])))) ≡ Some (codes "-")
unfolding clap_on_literals
standard_input = refl

with_flag : flag_in (codes "payload") (rows_in (command_of (line_of (codes "view" ∷ codes "--payload" ∷ codes "f" ∷ [])))) ≡ Some (codes "true")
unfolding clap_on_literals
with_flag = refl

without_flag : flag_in (codes "payload") (rows_in (command_of (line_of (codes "view" ∷ codes "f" ∷ [])))) ≡ Some (codes "false")
unfolding clap_on_literals
without_flag = refl

with_properties : flag_in (codes "properties") (rows_in (command_of (line_of (codes "view" ∷ codes "--properties" ∷ codes "f" ∷ [])))) ≡ Some (codes "true")
unfolding clap_on_literals
with_properties = refl

with_json : flag_in (codes "json") (rows_in (command_of (line_of (codes "view" ∷ codes "--json" ∷ codes "f" ∷ [])))) ≡ Some (codes "true")
unfolding clap_on_literals
with_json = refl

no_command : command_of (line_of []) ≡ None
unfolding clap_on_literals
no_command = refl

other_command : command_of (line_of (codes "watch" ∷ codes "f" ∷ [])) ≡ None
unfolding clap_on_literals
other_command = refl

no_file : command_of (line_of (codes "view" ∷ [])) ≡ None
unfolding clap_on_literals
no_file = refl

two_files : command_of (line_of (codes "view" ∷ codes "a" ∷ codes "b" ∷ [])) ≡ None
unfolding clap_on_literals
two_files = refl

call_for_help : command_of (line_of (codes "--help" ∷ [])) ≡ None
unfolding clap_on_literals
call_for_help = refl

script : file_in (replay_rows_in (command_of (line_of (codes "replay" ∷ codes "a" ∷ [])))) ≡ Some (codes "a")
unfolding clap_on_literals
script = refl

script_with_flag : command_of (line_of (codes "replay" ∷ codes "--payload" ∷ codes "a" ∷ [])) ≡ None
unfolding clap_on_literals
script_with_flag = refl

vectors : is_vectors (command_of (line_of (codes "vectors" ∷ []))) ≡ true
unfolding clap_on_literals
vectors = refl

vectors_with_file : command_of (line_of (codes "vectors" ∷ codes "f" ∷ [])) ≡ None
unfolding clap_on_literals
vectors_with_file = refl

abbrev served : List Text
served = line_of (codes "serve" ∷ codes "--turns" ∷ codes "3" ∷ codes "--listen" ∷ codes "1.2.3.4:5" ∷ codes "--db" ∷ codes "a" ∷ [])

served-listen : value_in (codes "listen") (serve_rows_in (command_of served)) ≡ Some (codes "1.2.3.4:5")
unfolding clap_on_literals
served-listen = refl

served-turns : value_in (codes "turns") (serve_rows_in (command_of served)) ≡ Some (codes "3")
unfolding clap_on_literals
served-turns = refl

no_database : command_of (line_of (codes "serve" ∷ codes "--turns" ∷ codes "3" ∷ codes "--listen" ∷ codes "1.2.3.4:5" ∷ [])) ≡ None
unfolding clap_on_literals
no_database = refl

-- ---- limits

abbrev limited : List Text
limited = line_of (codes "replay" ∷ codes "--queue" ∷ codes "2" ∷ codes "a" ∷ codes "--full=drop" ∷ [])

limited-queue : value_in (codes "queue") (replay_rows_in (command_of limited)) ≡ Some (codes "2")
unfolding clap_on_literals
limited-queue = refl

limited-full : value_in (codes "full") (replay_rows_in (command_of limited)) ≡ Some (codes "drop")
unfolding clap_on_literals
limited-full = refl

limited-sessions : value_in (codes "sessions") (replay_rows_in (command_of limited)) ≡ None
unfolding clap_on_literals
limited-sessions = refl

served-queue : value_in (codes "queue") (serve_rows_in (command_of served)) ≡ None
unfolding clap_on_literals
served-queue = refl

queue_twice : command_of (line_of (codes "replay" ∷ codes "--queue" ∷ codes "2" ∷ codes "--queue" ∷ codes "3" ∷ codes "a" ∷ [])) ≡ None
unfolding clap_on_literals
queue_twice = refl

-- ---- connections

served-connections : value_in (codes "connections") (serve_rows_in (command_of served)) ≡ None
unfolding clap_on_literals
served-connections = refl

served-lines : AreLinesGiven (value_in (codes "connections") (serve_rows_in (command_of served))) 64
served-lines = rw served-connections refl

abbrev connected : Text → List Text
connected number = line_of (codes "serve" ∷ codes "--turns" ∷ codes "3" ∷ codes "--connections" ∷ number ∷ codes "--listen" ∷ codes "1.2.3.4:5" ∷ codes "--db" ∷ codes "a" ∷ [])

connected-connections : value_in (codes "connections") (serve_rows_in (command_of (connected (codes "1000")))) ≡ Some (codes "1000")
unfolding clap_on_literals
connected-connections = refl

connected-lines : AreLinesGiven (value_in (codes "connections") (serve_rows_in (command_of (connected (codes "1000"))))) 1000
connected-lines = rw connected-connections (record {
  count = record { numeral = search rules; value = refl; some = omega arith; fits = omega arith };
  within = omega arith;
})

none-connections : value_in (codes "connections") (serve_rows_in (command_of (connected (codes "0")))) ≡ Some (codes "0")
unfolding clap_on_literals
none-connections = refl

none-lines : (lines : ℕ) → ¬ (AreLinesGiven (value_in (codes "connections") (serve_rows_in (command_of (connected (codes "0"))))) lines)
none-lines lines given =
    let is : AreLinesGiven (Some (codes "0")) lines = rw none-connections at given in
    omega arith

more-connections : value_in (codes "connections") (serve_rows_in (command_of (connected (codes "1001")))) ≡ Some (codes "1001")
unfolding clap_on_literals
more-connections = refl

more-lines : (lines : ℕ) → ¬ (AreLinesGiven (value_in (codes "connections") (serve_rows_in (command_of (connected (codes "1001"))))) lines)
more-lines lines given =
    let is : AreLinesGiven (Some (codes "1001")) lines = rw more-connections at given in
    omega arith

connections_twice : command_of (line_of (codes "serve" ∷ codes "--connections" ∷ codes "2" ∷ codes "--turns" ∷ codes "3" ∷ codes "--listen" ∷ codes "1.2.3.4:5" ∷ codes "--db" ∷ codes "a" ∷ codes "--connections" ∷ codes "3" ∷ [])) ≡ None
unfolding clap_on_literals
connections_twice = refl

connections_of_replay : command_of (line_of (codes "replay" ∷ codes "--connections" ∷ codes "2" ∷ codes "a" ∷ [])) ≡ None
unfolding clap_on_literals
connections_of_replay = refl

-- ---- commits

served-commit : value_in (codes "commit") (serve_rows_in (command_of served)) ≡ None
unfolding clap_on_literals
served-commit = refl

abbrev by_step : List Text
by_step = line_of (codes "serve" ∷ codes "--turns" ∷ codes "3" ∷ codes "--commit" ∷ codes "step" ∷ codes "--listen" ∷ codes "1.2.3.4:5" ∷ codes "--db" ∷ codes "a" ∷ [])

by_step-commit : value_in (codes "commit") (serve_rows_in (command_of by_step)) ≡ Some (codes "step")
unfolding clap_on_literals
by_step-commit = refl

commit_of_replay : command_of (line_of (codes "replay" ∷ codes "--commit" ∷ codes "step" ∷ codes "a" ∷ [])) ≡ None
unfolding clap_on_literals
commit_of_replay = refl

-- ---- a log

served-log : flag_in (codes "log") (serve_rows_in (command_of served)) ≡ Some (codes "false")
unfolding clap_on_literals
served-log = refl

abbrev with_log : List Text
with_log = line_of (codes "serve" ∷ codes "--log" ∷ codes "--turns" ∷ codes "3" ∷ codes "--listen" ∷ codes "1.2.3.4:5" ∷ codes "--db" ∷ codes "a" ∷ [])

with_log-log : flag_in (codes "log") (serve_rows_in (command_of with_log)) ≡ Some (codes "true")
unfolding clap_on_literals
with_log-log = refl

log_of_replay : command_of (line_of (codes "replay" ∷ codes "--log" ∷ codes "a" ∷ [])) ≡ None
unfolding clap_on_literals
log_of_replay = refl

-- ---- the version

version : fault_of program_app (line_of (codes "--version" ∷ [])) ≡ DisplayVersion ∷ []
unfolding clap_on_literals
version = refl

version_of_view : fault_of program_app (line_of (codes "view" ∷ codes "--version" ∷ [])) ≡ UnknownArgument ∷ []
unfolding clap_on_literals
version_of_view = refl
