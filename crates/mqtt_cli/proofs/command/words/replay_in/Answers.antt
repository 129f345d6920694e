use Rattle.std.proofs.Common.{Some, codes, sym, ◌∙◌}
use Rattle.clap.specs.Words.{found_of, rows_of}
use Rattle.clap.proofs.WalkLemmas.{first_value-rows}
use Rattle.mqtt_cli.proofs.command_lemmas.Commands.{asks_no_replay, no_replay-file, no_replay-limits}
use Rattle.mqtt_cli.proofs.command.words.replay_in.Goals as goal

pub returns : goal.returns
returns c = record {
  file_is = sym (c.in_ok-file.ensures ∙ first_value-rows (found_of c.args.matches.now) (codes "file"));
  limits_are = c.in_ok-limits.ensures;
}

pub returns-in_err-file : goal.returns-in_err-file
returns-in_err-file c =
    let found = found_of c.args.matches.now in
    asks_no_replay (rows_of found) c.from_residual.result c.from_residual.ensures
    (no_replay-file (Some (rows_of found)) (sym (c.in_err-file.ensures ∙ first_value-rows found (codes "file"))))

pub returns-in_err-limits : goal.returns-in_err-limits
returns-in_err-limits c =
    let found = found_of c.args.matches.now in
    asks_no_replay (rows_of found) c.from_residual-in_err-limits.result c.from_residual-in_err-limits.ensures
    (no_replay-limits (Some (rows_of found)) c.in_err-limits.ensures)
