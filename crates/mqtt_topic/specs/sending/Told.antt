-- Topic aliases as a sender gives them, and the forms of a PUBLISH (MQTT 5.0, 3.1.2.11.5, 3.3.2.1, 3.3.2.3.4).
use Rattle.std.specs.Prelude.{ℕ, ⊤, suc, cond, List, [], ◌∷◌, ◌++◌, length, min, take, nat_lt, bytes_eq, Option, Some, None}
use Rattle.mqtt_topic.specs.declared.sending.told.TheConstants.{ALIAS_LIMIT}
use Rattle.mqtt_topic.specs.declared.sending.form.Form.{Form}
use Rattle.mqtt_topic.specs.declared.sending.form.Form.TheVariants.{Plain, Named, Short}

-- the most aliases, and the topics that have one: each has its place, from 1
pub record ToldTopics : Type 0 where
  pub max : ℕ
  pub topics : List (List ℕ)

-- how many aliases are given at most, by the Topic Alias Maximum of the CONNECT; none if it has none (3.1.2.11.5)
abbrev pub most_of : Option ℕ → ℕ
most_of None = 0
most_of (Some most) = min most ALIAS_LIMIT

abbrev pub none_told : ℕ → ToldTopics
none_told max = record { max = max; topics = [] }

-- where a topic stands, if the first stands at n
abbrev pub place_from : ℕ → List ℕ → List (List ℕ) → Option ℕ
place_from n topic [] = None
place_from n topic (t ∷ ts) = cond (bytes_eq t topic) (Some n) (place_from (suc n) topic ts)

-- the alias that a topic has
abbrev pub alias_of : List ℕ → ToldTopics → Option ℕ
alias_of topic told = place_from 1 topic told.topics

-- the alias that a further topic gets, if one is free
abbrev pub next_alias : ToldTopics → Option ℕ
next_alias told = cond (nat_lt (length told.topics) told.max) (Some (suc (length told.topics))) None

-- a further topic was told
abbrev pub with_told : List ℕ → ToldTopics → ToldTopics
with_told topic told = record { max = told.max; topics = told.topics ++ topic ∷ [] }

-- the same, if an alias is free for it
abbrev pub told_if : Option ℕ → List ℕ → ToldTopics → ToldTopics
told_if None topic told = told
told_if (Some alias) topic told = with_told topic told

-- the first so many topics alone
abbrev pub shortened : ℕ → ToldTopics → ToldTopics
shortened count told = record { max = told.max; topics = take count told.topics }

-- the forms of a topic, by the alias that it has and by the next one; the one that is wanted first in front (ours)
abbrev pub forms_by : Option ℕ → Option ℕ → List Form
forms_by (Some alias) next = Short alias ∷ Plain ∷ []
forms_by None (Some next) = Named next ∷ Plain ∷ []
forms_by None None = Plain ∷ []

abbrev pub forms : ToldTopics → List ℕ → List Form
forms told topic = forms_by (alias_of topic told) (next_alias told)

-- the topic and the Topic Alias that stand in the packet
abbrev pub topic_in : Form → List ℕ → List ℕ
topic_in Plain topic = topic
topic_in (Named alias) topic = topic
topic_in (Short alias) topic = []

abbrev pub alias_in : Form → Option ℕ
alias_in Plain = None
alias_in (Named alias) = Some alias
alias_in (Short alias) = Some alias

-- an alias is told with the packet that carries it, and only then
abbrev pub told_in : Form → List ℕ → ToldTopics → ToldTopics
told_in Plain topic told = told
told_in (Named alias) topic told = with_told topic told
told_in (Short alias) topic told = told

-- a packet that doesn't go out tells nothing
abbrev pub after_send : Option Form → List ℕ → ToldTopics → ToldTopics
after_send None topic told = told
after_send (Some form) topic told = told_in form topic told

-- a packet in this form tells its topic
abbrev pub IsTelling : Option Form → Type 0
IsTelling None = ⊥
IsTelling (Some Plain) = ⊥
IsTelling (Some (Named alias)) = ⊤
IsTelling (Some (Short alias)) = ⊥
