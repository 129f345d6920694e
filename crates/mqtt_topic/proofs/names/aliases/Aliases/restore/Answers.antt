use Rattle.std.proofs.Common.{◌≡◌, List, ℕ, sym, ◌∙◌, ap, nat_eq, is_ok, is_some}
use Rattle.std.specs.Map.{lookup}
use Rattle.mqtt_topic.specs.names.Aliases.{AliasTable, topic_of, with_topic, without_topic, with_topics, restored}
use Rattle.mqtt_topic.proofs.names_lemmas.AliasLemmas.{topic_of-lookup, with_topic-entry, without_topic-entry, fact_at_ok, ok_where_there}
use Rattle.mqtt_topic.proofs.names.aliases.Aliases.restore.Goals as goal

pub unwrap-requires : goal.unwrap-requires
unwrap-requires c =
    let alias = c.args.alias in
    let entries = c.self.inside.topics.entries in
    let found = topic_of-lookup alias entries ∙ ap (λ k. topic_of alias k.table.topics) c.self.view_is in
    ok_where_there c.insert.result (lookup (nat_eq alias) entries) (ap is_some found ∙ c.requires) c.insert.ensures.absent

pub returns-in-Some : goal.returns-in-Some
returns-in-Some c =
    let alias = c.args.alias in
    let entries = c.self.inside.topics.entries in
    let table = c.args.self.now.table in
    let entered = fact_at_ok _ c.insert.result (ap is_ok c.unwrap.ensures) c.insert.ensures.entries in
    ap (λ (es : List (ℕ × List ℕ)). let t : AliasTable = record { max = c.self.inside.max; topics = es } in t) (entered ∙ with_topic-entry alias c.in-Some.topic entries)
    ∙ ap (λ k. with_topics k.table (with_topic alias c.in-Some.topic k.table.topics)) c.self.view_is ∙ ap (λ b. with_topics table (restored alias b table.topics)) (sym c.in-Some.is)

pub returns-in-None : goal.returns-in-None
returns-in-None c =
    let alias = c.args.alias in
    let entries = c.self.inside.topics.entries in
    let table = c.args.self.now.table in
    ap (λ (es : List (ℕ × List ℕ)). let t : AliasTable = record { max = c.self.inside.max; topics = es } in t) (c.shift_remove.ensures.entries ∙ without_topic-entry alias entries)
    ∙ ap (λ k. with_topics k.table (without_topic alias k.table.topics)) c.self.view_is ∙ ap (λ b. with_topics table (restored alias b table.topics)) (sym c.in-None.is)
