use Rattle.std.proofs.Common.{◌≡◌, List, ℕ, ◌∙◌, ap, nat_eq, is_ok}
use Rattle.std.specs.Map.{lookup}
use Rattle.mqtt_topic.specs.names.Aliases.{AliasTable, topic_of, with_topic, with_topics}
use Rattle.mqtt_topic.proofs.names_lemmas.AliasLemmas.{topic_of-lookup, with_topic-entry, fact_at_ok, value_at_ok, topic_of-with_topic}
use Rattle.mqtt_topic.proofs.names.aliases.Aliases.set.Goals as goal

pub returns-clause-before : goal.returns-clause-before
returns-clause-before c =
    let alias = c.args.alias in
    let entries = c.self.inside.topics.entries in
    value_at_ok (λ old. old ≡ lookup (nat_eq alias) entries) c.insert.result c.unwrap.result c.unwrap.ensures c.insert.ensures.old
    ∙ topic_of-lookup alias entries ∙ ap (λ k. topic_of alias k.table.topics) c.self.view_is

pub returns-clause-after : goal.returns-clause-after
returns-clause-after c =
    let alias = c.args.alias in
    let entries = c.self.inside.topics.entries in
    let entered = fact_at_ok _ c.insert.result (ap is_ok c.unwrap.ensures) c.insert.ensures.entries in
    ap (λ (es : List (ℕ × List ℕ)). let t : AliasTable = record { max = c.self.inside.max; topics = es } in t) (entered ∙ with_topic-entry alias c.args.topic entries)
    ∙ ap (λ k. with_topics k.table (with_topic alias c.args.topic k.table.topics)) c.self.view_is

pub returns-clause-stands : goal.returns-clause-stands
returns-clause-stands c =
    let alias = c.args.alias in
    let entries = c.self.inside.topics.entries in
    let entered = fact_at_ok _ c.insert.result (ap is_ok c.unwrap.ensures) c.insert.ensures.entries in
    ap (topic_of alias) (entered ∙ with_topic-entry alias c.args.topic entries) ∙ topic_of-with_topic alias c.args.topic entries
