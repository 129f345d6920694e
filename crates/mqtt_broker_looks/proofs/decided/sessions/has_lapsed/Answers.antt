use Rattle.std.proofs.Common.{List, ap, ◌∙◌}
use Rattle.std.specs.List.{list_any}
use Rattle.mqtt_records.specs.messages.Queue.{CopyRow}
use Rattle.mqtt_broker_looks.specs.decided.Verdicts.{is_lapsed}
use Rattle.mqtt_broker_looks.proofs.decided_lemmas.Looks.{lapsed_some}
use Rattle.mqtt_broker_looks.proofs.decided.sessions.has_lapsed.Goals as goal

pub returns : goal.returns
returns c =
    c.some_lapsed.ensures
    ∙ ap (λ (rows : List CopyRow). list_any (is_lapsed c.args.now) rows) c.as_slice.ensures.rows
    ∙ lapsed_some c.args.now c.args.session.now.queue
