-- Topics that are sent one after the other, and what a reader makes of them (MQTT 5.0, 3.3.2.3.4).
use Rattle.std.specs.Prelude.{ℕ, ⊤, List, [], ◌∷◌, Option, Some, None}
use Rattle.mqtt_topic.specs.names.Names.{IsTopicName}
use Rattle.mqtt_topic.specs.names.Aliases.{AliasTable, Resolves, after_resolve}
use Rattle.mqtt_topic.specs.declared.sending.form.Form.{Form}
use Rattle.mqtt_topic.specs.declared.sending.sizes.OtherBytes.{OtherBytes}
use Rattle.mqtt_topic.specs.sending.Told.{ToldTopics, forms, topic_in, alias_in, told_in, after_send}
use Rattle.mqtt_topic.specs.sending.Sizes.{IsAmong, form_for}

-- a topic, and the form in which it is sent
pub record Said : Type 0 where
  pub topic : List ℕ
  pub form : Form

abbrev pub AreNames : List Said → Type 0
AreNames [] = ⊤
AreNames (x ∷ xs) = IsTopicName x.topic × AreNames xs

-- each is sent in one of the forms that are allowed by then
abbrev pub AreAllowed : ToldTopics → List Said → Type 0
AreAllowed told [] = ⊤
AreAllowed told (x ∷ xs) = IsAmong x.form (forms told x.topic) × AreAllowed (told_in x.form x.topic told) xs

-- each means its topic to a reader, who knows by then what came before
abbrev pub MeanTheirTopics : AliasTable → List Said → Type 0
MeanTheirTopics table [] = ⊤
MeanTheirTopics table (x ∷ xs) =
    Resolves table (topic_in x.form x.topic) (alias_in x.form) x.topic
    × MeanTheirTopics (after_resolve table (topic_in x.form x.topic) (alias_in x.form)) xs

-- ---- what goes out to a client

-- a PUBLISH that is to be sent
pub record Meant : Type 0 where
  pub topic : List ℕ
  pub other : OtherBytes

abbrev pub AreMeantNames : List Meant → Type 0
AreMeantNames [] = ⊤
AreMeantNames (m ∷ ms) = IsTopicName m.topic × AreMeantNames ms

-- one goes out before the others if it has a form
abbrev pub said_first : Option Form → List ℕ → List Said → List Said
said_first None topic rest = rest
said_first (Some form) topic rest = record { topic = topic; form = form } ∷ rest

-- what goes out, each in its form by what the ones before it told; one that is too large doesn't
abbrev pub said : ℕ → ToldTopics → List Meant → List Said
said largest told [] = []
said largest told (m ∷ ms) =
    let form = form_for largest told m.topic m.other in
    said_first form m.topic (said largest (after_send form m.topic told) ms)
