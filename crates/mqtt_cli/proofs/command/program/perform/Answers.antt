use Rattle.std.proofs.Common.{Some, map}
use Rattle.mqtt_cli.specs.command.Line.{AskFor, AsksToReplay, AsksToServe, command_of, replay_rows_in, serve_rows_in}
use Rattle.mqtt_cli.proofs.command_lemmas.Capacities.{capacity_within, limits_within}
use Rattle.mqtt_cli.proofs.command_lemmas.Views.{view_writes}
use Rattle.mqtt_cli.specs.declared.command.line.Action.TheVariants.{View}
use Rattle.mqtt_cli.proofs.command.program.perform.Goals as goal

pub served-requires : goal.served-requires
served-requires g c =
    let met = c.in-Ok-Serve in
    let asks : AsksToServe (serve_rows_in (command_of (map g.S.AsStr.text c.args.words.now))) met.listen met.db.now met.turns met.limits met.commit met.log =
    rw met.field-0-is at met.ensures.ok in
    record { callable = c.requires.serves met.listen met.db met.turns met.limits met.commit met.log (capacity_within _ met.limits asks.limits_are) }

pub replayed-requires : goal.replayed-requires
replayed-requires g c =
    let met = c.in-Ok-Replay in
    let asks : AsksToReplay (replay_rows_in (command_of (map g.S.AsStr.text c.args.words.now))) met.file.now met.limits =
    rw met.field-0-is at met.ensures.ok in
    record { callable = c.requires.replays met.file met.limits (limits_within _ _ met.limits asks.limits_are) }

pub returns-in-Ok-View-text-default-clause-writes : goal.returns-in-Ok-View-text-default-clause-writes
returns-in-Ok-View-text-default-clause-writes g c =
    let met = c.in-Ok-View-text-default in
    let asks : AskFor (command_of (map g.S.AsStr.text c.args.words.now)) (Some (View met.field-0-0 met.details)) =
    rw met.field-0-is at met.ensures.ok in
    view_writes (command_of (map g.S.AsStr.text c.args.words.now)) _ _ c.view_of.result _ asks.file_is c.view_of.ensures

pub returns-in-Ok-open-clause-writes : goal.returns-in-Ok-open-clause-writes
returns-in-Ok-open-clause-writes g c =
    let met = c.in-Ok-View in
    let asks : AskFor (command_of (map g.S.AsStr.text c.args.words.now)) (Some (View met.file met.details)) =
    rw met.field-0-is at met.ensures.ok in
    view_writes (command_of (map g.S.AsStr.text c.args.words.now)) _ _ c.view_of-in-Ok-open.result _ asks.file_is c.view_of-in-Ok-open.ensures
