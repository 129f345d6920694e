-- The alias stands for the copy.
use Rattle.std.proofs.Common.{ℕ, List, ap, ◌∙◌}
use Rattle.mqtt_topic.specs.names.Aliases.{AliasTable, with_topic, with_topics}
use Rattle.mqtt_topic.proofs.names_lemmas.AliasLemmas.{with_topic-entry}
use Rattle.mqtt_topic.proofs.names.aliases.Aliases.keep_copy.Goals as goal

pub returns-in-Ok-clause-ok : goal.returns-in-Ok-clause-ok
returns-in-Ok-clause-ok c =
    let inside = c.self.inside in
    let alias = c.args.alias in
    let name = c.args.name.now in
    ap (λ (es : List (ℕ × List ℕ)). let t : AliasTable = record { max = inside.max; topics = es } in t)
    (c.in-Ok.ensures.entries ∙ with_topic-entry alias c.in_ok-kept.kept inside.topics.entries ∙ ap (λ t. with_topic alias t inside.topics.entries) c.in_ok-kept.ensures.copy)
    ∙ ap (λ k. with_topics k.table (with_topic alias name k.table.topics)) c.self.view_is
