use Rattle.std.proofs.Common.{None, ap, codes, refl, rules, sym, ◌∙◌}
use Rattle.clap.specs.Words.{found_of, subcommand_rows_of}
use Rattle.clap.proofs.WalkLemmas.{first_value-rows, one_text-rows}
use Rattle.mqtt_cli.proofs.command_lemmas.Commands.{asks_nothing, asks_to_replay, asks_to_serve, is_vectors-met, replay_rows_in-met, replay_rows_in-other, rows_in-other, rows_in-serve, rows_in-view, serve_rows_in-other}
use Rattle.mqtt_cli.specs.command.Line.{file_in}
use Rattle.mqtt_cli.proofs.command.words.action_in.Goals as goal

pub returns-in_err-file : goal.returns-in_err-file
returns-in_err-file c =
    let met = c.in_ok-name.ensures in
    let found = found_of c.in_ok-name.view.now in
    let rows_are = rows_in-view c.args.matches.now _ found met.name met.rows c.if-ne.ensures in
    asks_nothing (subcommand_rows_of c.args.matches.now) c.from_residual-in_err-file.result c.from_residual-in_err-file.ensures
    (rw rows_are (sym (c.in_err-file.ensures ∙ first_value-rows found (codes "file"))))
    (replay_rows_in-other c.args.matches.now _ found met.name met.rows c.if-eq-3.ensures)
    (is_vectors-met c.args.matches.now _ found _ met.name met.rows c.if-eq.ensures)
    (serve_rows_in-other c.args.matches.now _ found met.name met.rows c.if-eq-2.ensures)

pub returns-then-ne : goal.returns-then-ne
returns-then-ne c =
    let met = c.in_ok-name.ensures in
    let found = found_of c.in_ok-name.view.now in
    asks_nothing (subcommand_rows_of c.args.matches.now) None refl
    (ap file_in (rows_in-other c.args.matches.now _ found met.name met.rows c.if-ne.ensures))
    (replay_rows_in-other c.args.matches.now _ found met.name met.rows c.if-eq-3.ensures)
    (is_vectors-met c.args.matches.now _ found _ met.name met.rows c.if-eq.ensures)
    (serve_rows_in-other c.args.matches.now _ found met.name met.rows c.if-eq-2.ensures)

pub returns : goal.returns
returns c =
    let met = c.in_ok-name.ensures in
    let found = found_of c.in_ok-name.view.now in
    let rows_are = rows_in-view c.args.matches.now _ found met.name met.rows c.if-ne.ensures in
    let payload = c.get_flag.ensures in
    let payload_is = one_text-rows found (codes "payload") in
    let properties = c.get_flag-2.ensures in
    let properties_is = one_text-rows found (codes "properties") in
    let json = c.get_flag-3.ensures in
    let json_is = one_text-rows found (codes "json") in
    rw rows_are (record {
      file_is = sym (c.in_ok-file.ensures ∙ first_value-rows found (codes "file"));
      payload = record {
        none = λ e. payload.none (payload_is ∙ e);
        is_true = λ e. payload.value (payload_is ∙ e);
        is_false = λ e. payload.other (payload_is ∙ e);
      };
      properties = record {
        none = λ e. properties.none (properties_is ∙ e);
        is_true = λ e. properties.value (properties_is ∙ e);
        is_false = λ e. properties.other (properties_is ∙ e);
      };
      json = record {
        none = λ e. json.none (json_is ∙ e);
        is_true = λ e. json.value (json_is ∙ e);
        is_false = λ e. json.other (json_is ∙ e);
      };
    })

pub returns-then-eq-2 : goal.returns-then-eq-2
returns-then-eq-2 c =
    let met = c.in_ok-name.ensures in
    let found = found_of c.in_ok-name.view.now in
    asks_to_serve (subcommand_rows_of c.args.matches.now) _ c.serve_in.result
    (rows_in-serve c.args.matches.now _ found met.name met.rows c.if-eq-2.ensures) (search rules) (search rules)
    (is_vectors-met c.args.matches.now _ found _ met.name met.rows c.if-eq.ensures) c.serve_in.ensures

pub returns-then-eq-3 : goal.returns-then-eq-3
returns-then-eq-3 c =
    let met = c.in_ok-name.ensures in
    let found = found_of c.in_ok-name.view.now in
    asks_to_replay (subcommand_rows_of c.args.matches.now) _ c.replay_in.result
    (replay_rows_in-met c.args.matches.now _ found met.name met.rows c.if-eq-3.ensures) (search rules)
    (serve_rows_in-other c.args.matches.now _ found met.name met.rows c.if-eq-2.ensures)
    (is_vectors-met c.args.matches.now _ found _ met.name met.rows c.if-eq.ensures) c.replay_in.ensures
