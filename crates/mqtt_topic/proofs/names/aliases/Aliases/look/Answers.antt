use Rattle.std.proofs.Common.{◌∙◌, ap}
use Rattle.mqtt_topic.specs.names.Aliases.{topic_of}
use Rattle.mqtt_topic.proofs.names_lemmas.AliasLemmas.{topic_of-lookup}
use Rattle.mqtt_topic.proofs.names.aliases.Aliases.look.Goals as goal

pub returns : goal.returns
returns c =
    c.get.ensures.value ∙ topic_of-lookup c.args.alias c.self.inside.topics.entries ∙ ap (λ k. topic_of c.args.alias k.table.topics) c.self.view_is
