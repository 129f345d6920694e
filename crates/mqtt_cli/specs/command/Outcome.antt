-- How the program ends (ours): 0 done, 1 a fault in the input, 2 a wrong command line, 3 a file, a socket, the store or
-- memory that failed.
use Rattle.std.specs.Prelude.{ℕ, List, [], ◌++◌, ◌∷◌, codes, decimal}
use Rattle.std.specs.String.{string_bytes}
use Rattle.mqtt_cli.specs.declared.command.outcome.TheConstants.{DONE, FAULTY, USAGE, FAILED}
use Rattle.mqtt_cli.specs.declared.command.line.LineFault.TheVariants as line
use Rattle.mqtt_cli.specs.declared.command.outcome.Outcome.{Outcome}
use Rattle.mqtt_cli.specs.declared.command.outcome.Outcome.TheVariants.{Done, Line, Unwritten, NoFile, View, Vectors, Replayed, Replay, Served, Serve}
use Rattle.mqtt_script.specs.BadLines.{reason_text}
use Rattle.mqtt_script.specs.declared.bad_line.BadLine.{BadLine}
use Rattle.mqtt_script.specs.declared.replay_fault.Played.TheVariants as played
use Rattle.mqtt_script.specs.declared.replay_fault.ReplayFault.TheVariants as replay
use Rattle.mqtt_link.specs.declared.serve_fault.ServeFault.TheVariants as serve
use Rattle.mqtt_cli.specs.declared.viewer.vectors_checker.VectorsFault.TheVariants as vectors
use Rattle.mqtt_cli.specs.declared.viewer.viewer.Status.TheVariants.{Whole, Faulty}
use Rattle.mqtt_cli.specs.declared.viewer.viewer.ViewFault.TheVariants.{Read, Write, Memory}

-- what `--version` writes: the program, its version and a line feed
abbrev pub version_line : List ℕ
version_line = codes "mqtt5 0.1.0" ++ 10 ∷ []

abbrev pub exit_status : Outcome → ℕ
exit_status (Done Whole) = DONE
exit_status (Done Faulty) = FAULTY
exit_status (Line (line.Usage text)) = USAGE
exit_status (Line line.Memory) = FAILED
exit_status (Line line.Version) = DONE
exit_status Unwritten = FAILED
exit_status NoFile = FAILED
exit_status (View Read) = FAILED
exit_status (View Write) = FAILED
exit_status (View Memory) = FAILED
exit_status (Vectors vectors.Write) = FAILED
exit_status (Vectors vectors.Memory) = FAILED
exit_status (Replayed played.Whole) = DONE
exit_status (Replayed (played.Bad bad)) = FAULTY
exit_status (Replay fault) = FAILED
exit_status Served = DONE
exit_status (Serve fault) = FAILED

-- `mqtt5: ` and why, and a line feed
abbrev pub failure_line : List ℕ → List ℕ
failure_line why = codes "mqtt5: " ++ why ++ 10 ∷ []

-- which line of a script is bad, and why
abbrev pub bad_line_text : BadLine → List ℕ
bad_line_text bad = codes "line " ++ decimal bad.number ++ codes ": " ++ reason_text bad.reason

-- what is told on standard error
abbrev pub error_text : Outcome → List ℕ
error_text (Done status) = []
error_text (Line (line.Usage text)) = string_bytes text
error_text (Line line.Memory) = failure_line (codes "memory")
error_text (Line line.Version) = []
error_text Unwritten = failure_line (codes "file")
error_text NoFile = failure_line (codes "file")
error_text (View Read) = failure_line (codes "file")
error_text (View Write) = failure_line (codes "file")
error_text (View Memory) = failure_line (codes "memory")
error_text (Vectors vectors.Write) = failure_line (codes "file")
error_text (Vectors vectors.Memory) = failure_line (codes "memory")
error_text (Replayed played.Whole) = []
error_text (Replayed (played.Bad bad)) = failure_line (bad_line_text bad)
error_text (Replay replay.Read) = failure_line (codes "file")
error_text (Replay replay.Write) = failure_line (codes "file")
error_text (Replay replay.Memory) = failure_line (codes "memory")
error_text (Replay replay.Store) = failure_line (codes "store")
error_text Served = []
error_text (Serve serve.Write) = failure_line (codes "file")
error_text (Serve serve.Memory) = failure_line (codes "memory")
error_text (Serve serve.Store) = failure_line (codes "store")
error_text (Serve serve.Socket) = failure_line (codes "socket")
