use Rattle.std.proofs.Common.{sym}
use Rattle.mqtt_topic.specs.names.Aliases.{topic_of}
use Rattle.mqtt_topic.proofs.names_lemmas.AliasLemmas.{copy_is_known, refuses_copy}
use Rattle.mqtt_topic.proofs.names.aliases.Aliases.known.Goals as goal

pub returns-in-Some-clause-known : goal.returns-in-Some-clause-known
returns-in-Some-clause-known c =
    let table = c.args.self.now.table in
    copy_is_known (topic_of c.args.alias table.topics) c.in-Some.known.now c.try_clone.result (sym c.in-Some.ensures) c.try_clone.ensures.copy

pub returns-in-Some-clause-refused : goal.returns-in-Some-clause-refused
returns-in-Some-clause-refused c =
    let table = c.args.self.now.table in
    refuses_copy table c.args.alias c.in-Some.known.now c.try_clone.result (sym c.in-Some.ensures) c.try_clone.ensures.fault

pub returns-in-None-clause-refused : goal.returns-in-None-clause-refused
returns-in-None-clause-refused c = sym c.in-None.ensures
