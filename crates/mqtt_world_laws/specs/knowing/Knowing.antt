-- Worlds whose ends know what they were told: whatever goes out to an end, in whichever form, means to it what was meant (MQTT 5.0, 3.1.2.11.5, 3.3.2.3.4).
use Rattle.std.specs.Prelude.{◌≡◌, ◌≢◌, ℕ, ◌^◌, ◌≤◌, ◌<◌, ⊤, List, [], ◌∷◌, Option, Some, None}
use Rattle.std.specs.List.{AllByRecursion}
use Rattle.mqtt_props.specs.Edits.{without}
use Rattle.mqtt_props.specs.declared.table.PropName.TheVariants.{TopicAlias}
use Rattle.mqtt_packet.specs.declared.codec.packet.Packet.{Packet}
use Rattle.mqtt_packet.specs.declared.codec.packet.Packet.TheVariants as packets
use Rattle.mqtt_packet.specs.declared.codec.publish.Publish.{Publish}
use Rattle.mqtt_packet.specs.codec.Packets.{HasSpelling}
use Rattle.mqtt_topic.specs.names.Aliases.{AliasTable}
use Rattle.mqtt_topic.specs.sending.Told.{none_told}
use Rattle.mqtt_rules.specs.step.Inbound.{Meaning, Means as MeansTopic, Wrong, resolved}
use Rattle.mqtt_rules.specs.step.State.{Broker, Line as BrokerLine, told_on}
use Rattle.mqtt_rules.specs.step.Step.{Call, Outcome}
use Rattle.mqtt_rules.specs.granting.Granting.{TakesWithin}
use Rattle.mqtt_rules.specs.granting.Naming.{NamesTopics}
use Rattle.mqtt_rules.specs.telling.Meaning.{AllMean, Knows, after_reading, alias_on, on_line}
use Rattle.mqtt_world_model.specs.model.Ends.{Publisher, Receiver}
use Rattle.mqtt_world_model.specs.model.Lines.{Line}
use Rattle.mqtt_world_model.specs.model.World.{Stranger, World}

-- ---- an end, as far as aliases go

pub record End : Type 0 where
  pub client : List ℕ
  pub aliases : ℕ  -- how many it takes
  pub number : Option ℕ  -- of its line
  pub old_number : Option ℕ  -- and of the one that it gave up last
  pub known : AliasTable  -- what aliases stand for to it

abbrev pub end_of : {U : Type 0} → List ℕ → ℕ → Line U → End
end_of client aliases l = record {
  client = client;
  aliases = aliases;
  number = l.number;
  old_number = l.old_number;
  known = l.known;
}

-- a publisher takes none
abbrev pub of_publisher : Publisher → End
of_publisher p = end_of p.client 0 p.line

abbrev pub of_receiver : Receiver → End
of_receiver r = end_of r.client r.aliases r.line

-- so it is of all ends
abbrev pub OnPublishers : (End → Type 0) → List Publisher → Type 0
OnPublishers P ps = AllByRecursion (λ p. P (of_publisher p)) ps

abbrev pub OnReceivers : (End → Type 0) → List Receiver → Type 0
OnReceivers P rs = AllByRecursion (λ r. P (of_receiver r)) rs

abbrev pub OnEachEnd : (End → Type 0) → List Publisher → List Receiver → Type 0
OnEachEnd P ps rs = OnPublishers P ps × OnReceivers P rs

-- ---- what an end reads

-- a PUBLISH is the one of the topic that it means, without its alias; who knows no such topic makes nothing of it
abbrev pub of_topic : Publish → Meaning → Option Packet
of_topic p (MeansTopic topic) = Some (packets.Publish (record {
  delivery = p.delivery;
  retain = p.retain;
  topic = topic;
  properties = without TopicAlias p.properties;
  payload = p.payload;
}))
of_topic p (Wrong code) = None

-- any other packet is itself
abbrev pub as_read : AliasTable → Packet → Option Packet
as_read known (packets.Publish p) = of_topic p (resolved known p.topic (alias_on p))
as_read known packet = Some packet

-- each is read as the one that was meant, by what aliases stand for after those before it
abbrev pub AllReadAs : AliasTable → List Packet → List Packet → Type 0
AllReadAs known [] [] = ⊤
AllReadAs known [] (m ∷ ms) = ⊥
AllReadAs known (x ∷ xs) [] = ⊥
AllReadAs known (x ∷ xs) (m ∷ ms) = (as_read known x ≡ Some m) × AllReadAs (after_reading known x) xs ms

-- what goes out on its line means what was meant, and is read so; it has spellings if that has; and to who takes no alias it
-- goes out as it was meant
pub record IsUnderstoodOn (n : ℕ) (wires outputs : List (ℕ × Packet)) (known : AliasTable) : Type 0 where
  pub means : AllMean known (on_line n wires) (on_line n outputs)
  pub reads : AllReadAs known (on_line n wires) (on_line n outputs)
  pub spelled : AllByRecursion HasSpelling (on_line n outputs) → AllByRecursion HasSpelling (on_line n wires)
  pub plain : known.max ≡ 0 → on_line n wires ≡ on_line n outputs

abbrev pub IsUnderstood : List (ℕ × Packet) → List (ℕ × Packet) → Option ℕ → AliasTable → Type 0
IsUnderstood wires outputs None known = ⊤
IsUnderstood wires outputs (Some n) known = IsUnderstoodOn n wires outputs known

-- so it is to all ends
abbrev pub AllIsUnderstood : Outcome → List Publisher → List Receiver → Type 0
AllIsUnderstood out ps rs = OnEachEnd (λ e. IsUnderstood out.wires out.outputs e.number e.known) ps rs

-- ---- what is asked of a call

-- it brings no CONNECT there of a client that takes more aliases
abbrev pub TakesFew : Call → Option ℕ → ℕ → Type 0
TakesFew call None most = ⊤
TakesFew call (Some n) most = TakesWithin n most call

-- on the line of no end does a client come that takes more than the end
abbrev pub TakesAsEnds : Call → World → Type 0
TakesAsEnds call w = OnEachEnd (λ e. TakesFew call e.number e.known.max) w.publishers w.receivers

-- ---- in a world

-- an end's line: the end knows what it was told there, and takes as many aliases as who comes there; the line was given, and is
-- no stranger's
pub record IsOwn (b : Broker) (strangers : List Stranger) (most : ℕ → ℕ) (n : ℕ) (known : AliasTable) : Type 0 where
  pub knows : Knows known (told_on n b.tellings)
  pub takes : known.max ≡ most n
  pub given : n ≤ b.given
  pub apart : AllByRecursion (λ (s : Stranger). s.number ≢ Some n) strangers

abbrev pub IsItsLine : Broker → List Stranger → (ℕ → ℕ) → Option ℕ → AliasTable → Type 0
IsItsLine b strangers most None known = ⊤
IsItsLine b strangers most (Some n) known = IsOwn b strangers most n known

-- and the line that it gave up, where its CONNECT may still come
abbrev pub IsItsFormer : ℕ → (ℕ → ℕ) → Option ℕ → ℕ → Type 0
IsItsFormer given most None aliases = ⊤
IsItsFormer given most (Some n) aliases = (n ≤ given) × (aliases ≡ most n)

-- an end takes as many aliases as all of its name, on its line too: no more than two bytes say
pub record IsKnowing (b : Broker) (strangers : List Stranger) (takes : List ℕ → ℕ) (most : ℕ → ℕ) (e : End) : Type 0 where
  pub named : e.aliases ≡ takes e.client
  pub max : e.known.max ≡ e.aliases
  pub small : e.aliases < 2 ^ 16
  pub line : IsItsLine b strangers most e.number e.known
  pub former : IsItsFormer b.given most e.old_number e.aliases

-- a line was given
abbrev pub WasGiven : ℕ → Option ℕ → Type 0
WasGiven given None = ⊤
WasGiven given (Some n) = n ≤ given

-- so it is of all ends; lines of strangers were given; on lines that were not given nothing was told; and all that the broker
-- holds names its topics
pub record AreKnowing (takes : List ℕ → ℕ) (most : ℕ → ℕ) (w : World) : Type 0 where
  pub ends : OnEachEnd (IsKnowing w.broker w.strangers takes most) w.publishers w.receivers
  pub strangers : AllByRecursion (λ (s : Stranger). WasGiven w.broker.given s.number) w.strangers
  pub lines : AllByRecursion (λ (l : BrokerLine). l.number ≤ w.broker.given) w.broker.lines
  pub unused : (n : ℕ) → w.broker.given < n → told_on n w.broker.tellings ≡ none_told 0
  pub names : NamesTopics w.broker

-- for some numbers of aliases that ends take: by their names, and on their lines
pub record HasKnowingEnds (w : World) : Type 0 where
  pub takes : List ℕ → ℕ
  pub most : ℕ → ℕ
  pub so : AreKnowing takes most w
