-- Topic aliases (MQTT 5.0, 3.3.2.3.4).
use Rattle.std.specs.Prelude.{◌≡◌, ℕ, ◌<◌, ◌≤◌, cond, List, [], ◌∷◌, nat_eq, Option, Some, None}
use Rattle.mqtt_topic.specs.declared.names.fault.TopicFault.{TopicFault}
use Rattle.mqtt_topic.specs.declared.names.fault.TopicFault.TheVariants.{AliasRange, AliasUnknown, Memory}
use Rattle.mqtt_topic.specs.names.Names.{IsTopicName, RefusesName}

-- the greatest alias, and the topics that aliases stand for, in the order in which they came
pub record AliasTable : Type 0 where
  pub max : ℕ
  pub topics : List (ℕ × List ℕ)

-- a table, and how many further aliases it takes without memory
pub record KeptAliases : Type 0 where
  pub table : AliasTable
  pub room : ℕ

abbrev pub no_aliases : ℕ → AliasTable
no_aliases max = record { max = max; topics = [] }

-- the topic that an alias stands for
abbrev pub topic_of : ℕ → List (ℕ × List ℕ) → Option (List ℕ)
topic_of alias [] = None
topic_of alias (e ∷ es) = cond (nat_eq alias e.0) (Some e.1) (topic_of alias es)

-- an alias is made to stand for a topic
abbrev pub with_topic : ℕ → List ℕ → List (ℕ × List ℕ) → List (ℕ × List ℕ)
with_topic alias topic [] = (alias, topic) ∷ []
with_topic alias topic (e ∷ es) = cond (nat_eq alias e.0) ((e.0, topic) ∷ es) (e ∷ with_topic alias topic es)

-- an alias stands for nothing
abbrev pub without_topic : ℕ → List (ℕ × List ℕ) → List (ℕ × List ℕ)
without_topic alias [] = []
without_topic alias (e ∷ es) = cond (nat_eq alias e.0) es (e ∷ without_topic alias es)

-- an alias stands for what it stood for before, if it stood for something
abbrev pub restored : ℕ → Option (List ℕ) → List (ℕ × List ℕ) → List (ℕ × List ℕ)
restored alias None topics = without_topic alias topics
restored alias (Some topic) topics = with_topic alias topic topics

abbrev pub with_topics : AliasTable → List (ℕ × List ℕ) → AliasTable
with_topics table topics = record { max = table.max; topics = topics }

-- an alias is from 1 to the greatest
pub record IsInRange (max alias : ℕ) : Type 0 where
  pub above : 0 < alias
  pub within : alias ≤ max

-- the name that a PUBLISH means: its own topic, or if that is empty the alias's
abbrev pub Resolves : AliasTable → List ℕ → Option ℕ → List ℕ → Type 0
Resolves table topic None name = (name ≡ topic) × IsTopicName topic
Resolves table [] (Some alias) name = IsInRange table.max alias × (topic_of alias table.topics ≡ Some name)
Resolves table (c ∷ cs) (Some alias) name = IsInRange table.max alias × (name ≡ c ∷ cs) × IsTopicName (c ∷ cs)

-- a topic beside an alias is what the alias stands for from then on
abbrev pub after_resolve : AliasTable → List ℕ → Option ℕ → AliasTable
after_resolve table topic None = table
after_resolve table [] (Some alias) = table
after_resolve table (c ∷ cs) (Some alias) = record { max = table.max; topics = with_topic alias (c ∷ cs) table.topics }

-- why a PUBLISH means no topic: first its alias is looked at, then whether it is known, and then the topic
abbrev pub RefusesTopic : AliasTable → List ℕ → ℕ → TopicFault → Type 0
RefusesTopic table [] alias AliasUnknown = topic_of alias table.topics ≡ None
RefusesTopic table [] alias Memory = (name : List ℕ) × (topic_of alias table.topics ≡ Some name)
RefusesTopic table [] alias fault = ⊥
RefusesTopic table (c ∷ cs) alias fault = RefusesName (c ∷ cs) fault

abbrev pub RefusesAlias : AliasTable → List ℕ → Option ℕ → TopicFault → Type 0
RefusesAlias table topic None fault = RefusesName topic fault
RefusesAlias table topic (Some alias) AliasRange = ¬ IsInRange table.max alias
RefusesAlias table topic (Some alias) fault = IsInRange table.max alias × RefusesTopic table topic alias fault
