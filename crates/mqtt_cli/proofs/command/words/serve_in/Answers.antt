use Rattle.std.proofs.Common.{Some, codes, sym, ◌∙◌}
use Rattle.clap.specs.Words.{found_of, rows_of}
use Rattle.clap.proofs.WalkLemmas.{first_value-rows, one_text-rows}
use Rattle.mqtt_cli.proofs.command_lemmas.Commands.{asks_no_server, no_server-address, no_server-commit, no_server-count, no_server-db, no_server-limits, no_server-listen, no_server-turns}
use Rattle.mqtt_cli.proofs.command.words.serve_in.Goals as goal

pub returns : goal.returns
returns c =
    let found = found_of c.args.matches.now in
    let log = c.get_flag-log.ensures in
    let log_is = one_text-rows found (codes "log") in
    record {
      listen_text = c.in_ok-listen.listen.now;
      turns_text = c.in_ok-turns.turns.now;
      listen_is = sym (c.in_ok-listen.ensures ∙ first_value-rows found (codes "listen"));
      address = c.in_ok-listen-2.ensures.read;
      db_is = sym (c.in_ok-db.ensures ∙ first_value-rows found (codes "db"));
      turns_is = sym (c.in_ok-turns.ensures ∙ first_value-rows found (codes "turns"));
      count = c.in_ok-turns-2.ensures.read;
      limits_are = c.in_ok-limits.ensures;
      commit_is = c.in_ok-commit.ensures.read;
      log_is = record {
        none = λ e. log.none (log_is ∙ e);
        is_true = λ e. log.value (log_is ∙ e);
        is_false = λ e. log.other (log_is ∙ e);
      };
    }

pub returns-in_err-listen : goal.returns-in_err-listen
returns-in_err-listen c =
    let found = found_of c.args.matches.now in
    asks_no_server (rows_of found) c.from_residual.result c.from_residual.ensures
    (no_server-listen (Some (rows_of found)) (sym (c.in_err-listen.ensures ∙ first_value-rows found (codes "listen"))))

pub returns-in_err-db : goal.returns-in_err-db
returns-in_err-db c =
    let found = found_of c.args.matches.now in
    asks_no_server (rows_of found) c.from_residual-in_err-db.result c.from_residual-in_err-db.ensures
    (no_server-db (Some (rows_of found)) (sym (c.in_err-db.ensures ∙ first_value-rows found (codes "db"))))

pub returns-in_err-turns : goal.returns-in_err-turns
returns-in_err-turns c =
    let found = found_of c.args.matches.now in
    asks_no_server (rows_of found) c.from_residual-in_err-turns.result c.from_residual-in_err-turns.ensures
    (no_server-turns (Some (rows_of found)) (sym (c.in_err-turns.ensures ∙ first_value-rows found (codes "turns"))))

pub returns-in_err-listen-2 : goal.returns-in_err-listen-2
returns-in_err-listen-2 c =
    let found = found_of c.args.matches.now in
    asks_no_server (rows_of found) c.from_residual-in_err-listen-2.result c.from_residual-in_err-listen-2.ensures
    (no_server-address (Some (rows_of found)) c.in_ok-listen.listen.now
    (sym (c.in_ok-listen.ensures ∙ first_value-rows found (codes "listen"))) c.in_err-listen-2.ensures.only)

pub returns-in_err-turns-2 : goal.returns-in_err-turns-2
returns-in_err-turns-2 c =
    let found = found_of c.args.matches.now in
    asks_no_server (rows_of found) c.from_residual-in_err-turns-2.result c.from_residual-in_err-turns-2.ensures
    (no_server-count (Some (rows_of found)) c.in_ok-turns.turns.now
    (sym (c.in_ok-turns.ensures ∙ first_value-rows found (codes "turns"))) c.in_err-turns-2.ensures.only)

pub returns-in_err-limits : goal.returns-in_err-limits
returns-in_err-limits c =
    let found = found_of c.args.matches.now in
    asks_no_server (rows_of found) c.from_residual-in_err-limits.result c.from_residual-in_err-limits.ensures
    (no_server-limits (Some (rows_of found)) c.in_err-limits.ensures)

pub returns-in_err-commit : goal.returns-in_err-commit
returns-in_err-commit c =
    let found = found_of c.args.matches.now in
    asks_no_server (rows_of found) c.from_residual-in_err-commit.result c.from_residual-in_err-commit.ensures
    (no_server-commit (Some (rows_of found)) c.in_err-commit.ensures.only)
