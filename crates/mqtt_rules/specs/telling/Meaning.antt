-- What a client makes of the packets that go out on its line (MQTT 5.0, 3.3.2.3.4).
use Rattle.std.specs.Prelude.{◌≡◌, ℕ, ◌≤◌, ⊤, true, cond, List, [], ◌∷◌, length, nat_eq, Option, Some, None}
use Rattle.mqtt_props.specs.declared.table.PropName.TheVariants.{TopicAlias}
use Rattle.mqtt_packet.specs.declared.codec.packet.Packet.{Packet}
use Rattle.mqtt_packet.specs.declared.codec.packet.Packet.TheVariants as packets
use Rattle.mqtt_packet.specs.declared.codec.publish.Publish.{Publish}
use Rattle.mqtt_topic.specs.names.Aliases.{AliasTable, Resolves, after_resolve, topic_of}
use Rattle.mqtt_topic.specs.names.Names.{IsTopicName}
use Rattle.mqtt_topic.specs.declared.sending.form.Form.{Form}
use Rattle.mqtt_topic.specs.sending.Told.{ToldTopics, alias_of}
use Rattle.mqtt_records.specs.messages.PassedOn.{number_at}
use Rattle.mqtt_rules.specs.step.Forms.{in_form}
use Rattle.mqtt_rules.specs.step.Deeds.{Deed, Greet, On, Send}

-- the packets on the line of a number, in their order
abbrev pub on_line : ℕ → List (ℕ × Packet) → List Packet
on_line n [] = []
on_line n (x ∷ xs) = cond (nat_eq x.0 n) (x.1 ∷ on_line n xs) (on_line n xs)

-- ---- what a client reads

-- the Topic Alias of a PUBLISH, if it has one
abbrev pub alias_on : Publish → Option ℕ
alias_on p = number_at TopicAlias p.properties

-- what aliases stand for to a client once it has read a packet
abbrev pub after_reading : AliasTable → Packet → AliasTable
after_reading table (packets.Publish p) = after_resolve table p.topic (alias_on p)
after_reading table packet = table

abbrev pub after_reading_all : AliasTable → List Packet → AliasTable
after_reading_all table [] = table
after_reading_all table (x ∷ xs) = after_reading_all (after_reading table x) xs

-- a packet means this PUBLISH: it is the PUBLISH in some form, and its topic is the one that the client makes of it
pub record MeansPublish (table : AliasTable) (out : Packet) (p : Publish) : Type 0 where
  pub form : Form
  pub is : out ≡ packets.Publish (in_form form p)
  pub topic : Resolves table (in_form form p).topic (alias_on (in_form form p)) p.topic

-- and any other packet means itself
abbrev pub Means : AliasTable → Packet → Packet → Type 0
Means table out (packets.Publish p) = MeansPublish table out p
Means table out meant = out ≡ meant

-- each means the one that was meant, to a client that has read those before it
abbrev pub AllMean : AliasTable → List Packet → List Packet → Type 0
AllMean table [] [] = ⊤
AllMean table [] (m ∷ ms) = ⊥
AllMean table (x ∷ xs) [] = ⊥
AllMean table (x ∷ xs) (m ∷ ms) = Means table x m × AllMean (after_reading table x) xs ms

-- the client knows what it was told: it takes as many aliases, and each topic that was told is what its alias stands for
pub record Knows (table : AliasTable) (told : ToldTopics) : Type 0 where
  pub max : told.max ≤ table.max
  pub few : length told.topics ≤ told.max
  pub known : (topic : List ℕ) (alias : ℕ) → alias_of topic told ≡ Some alias → topic_of alias table.topics ≡ Some topic

-- ---- what is asked of the deeds

-- a PUBLISH that is meant has a topic, and no alias
abbrev pub HasItsTopic : Packet → Type 0
HasItsTopic (packets.Publish p) = IsTopicName p.topic × (alias_on p ≡ None)
HasItsTopic packet = ⊤

-- so has each that a deed sends
abbrev pub SendsItsTopic : Deed → Type 0
SendsItsTopic (Send n packet) = HasItsTopic packet
SendsItsTopic d = ⊤

-- each has, and the client on the line is granted no more aliases than it takes
abbrev pub GrantsWithin : ℕ → ℕ → List Deed → Type 0
GrantsWithin n most [] = ⊤
GrantsWithin n most (On k (Greet birth keep_alive window largest granted) ∷ ds) =
    (nat_eq k n ≡ true → granted ≤ most) × GrantsWithin n most ds
GrantsWithin n most (Send k packet ∷ ds) = HasItsTopic packet × GrantsWithin n most ds
GrantsWithin n most (d ∷ ds) = GrantsWithin n most ds

-- the client on the line is granted no alias, whatever the others are
abbrev pub GrantsNone : ℕ → List Deed → Type 0
GrantsNone n [] = ⊤
GrantsNone n (On k (Greet birth keep_alive window largest granted) ∷ ds) = (nat_eq k n ≡ true → granted ≡ 0) × GrantsNone n ds
GrantsNone n (d ∷ ds) = GrantsNone n ds
