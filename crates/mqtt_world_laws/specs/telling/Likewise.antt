-- The world as packets really go and the world of what they mean, side by side (MQTT 5.0, 3.3.2.3.4).
use Rattle.std.specs.Prelude.{◌≡◌, ℕ, ⊤, true, List, [], ◌∷◌, map, Option, Some, None, is_some}
use Rattle.std.specs.List.{AllByRecursion}
use Rattle.mqtt_topic.specs.names.Aliases.{AliasTable}
use Rattle.mqtt_rules.specs.declared.step.Capacity.{Capacity}
use Rattle.mqtt_rules.specs.step.State.{Telling, told_on}
use Rattle.mqtt_rules.specs.telling.Meaning.{Knows, Means, SendsItsTopic, after_reading}
use Rattle.mqtt_world_model.specs.model.Lines.{Down, Line}
use Rattle.mqtt_world_model.specs.model.Ends.{Publisher, Receiver}
use Rattle.mqtt_world_model.specs.model.World.{World, start}
use Rattle.mqtt_world_model.specs.model.Run.{Turn, deeds_over}
use Rattle.mqtt_world_model.specs.model.Seen.{heard_in}
use Rattle.mqtt_world_laws.specs.telling.Reading.{understood}
use Rattle.mqtt_world_laws.specs.telling.AsSent.{AsSent, Most}

-- ---- one line

-- the same line with other packets under way to its end
abbrev pub with_down : {U : Type 0} → List Down → Line U → Line U
with_down down l = record l { down = down }

-- packet by packet, what is under way means what was meant to a client that has read what is before it; and is of the
-- same copy
abbrev pub DownMeans : AliasTable → List Down → List Down → Type 0
DownMeans known [] [] = ⊤
DownMeans known [] (m ∷ ms) = ⊥
DownMeans known (d ∷ ds) [] = ⊥
DownMeans known (d ∷ ds) (m ∷ ms) =
    Means known d.packet m.packet × (d.copy ≡ m.copy) × DownMeans (after_reading known d.packet) ds ms

-- what aliases stand for to the client once it has read all of it
abbrev pub after_down : AliasTable → List Down → AliasTable
after_down known [] = known
after_down known (d ∷ ds) = after_down (after_reading known d.packet) ds

-- then it knows what it was told on its line
abbrev pub KnowsOn : Most → List Telling → Option ℕ → AliasTable → List Down → Type 0
KnowsOn most tellings None known down = ⊤
KnowsOn most tellings (Some n) known down =
    (known.max ≡ most n) × Knows (after_down known down) (told_on n tellings)

-- ---- one end: all but what is under way to it is the same, and that means the same

pub record ReceiversAlike (most : Most) (tellings : List Telling) (r : Receiver) (known : AliasTable) (m : Receiver)
    : Type 0 where
  pub same : m ≡ record r { line = with_down m.line.down r.line }
  pub means : DownMeans known r.line.down m.line.down
  pub knows : KnowsOn most tellings r.line.number known r.line.down

-- a publisher passes over each PUBLISH
pub record PublishersAlike (p m : Publisher) : Type 0 where
  pub same : m ≡ record p { line = with_down m.line.down p.line }
  pub heard : map heard_in p.line.down ≡ map heard_in m.line.down

abbrev pub AllReceiversAlike : Most → List Telling → List Receiver → List AliasTable → List Receiver → Type 0
AllReceiversAlike most tellings [] [] [] = ⊤
AllReceiversAlike most tellings (r ∷ rs) (k ∷ ks) (m ∷ ms) =
    ReceiversAlike most tellings r k m × AllReceiversAlike most tellings rs ks ms
AllReceiversAlike most tellings rs ks ms = ⊥

abbrev pub AllPublishersAlike : List Publisher → List Publisher → Type 0
AllPublishersAlike [] [] = ⊤
AllPublishersAlike (p ∷ ps) (m ∷ ms) = PublishersAlike p m × AllPublishersAlike ps ms
AllPublishersAlike ps ms = ⊥

-- ---- both worlds

-- a world as packets go, in which this was told and is known, and one of what they mean: the same broker, moment and
-- strangers, and ends that are alike
pub record WorldsAlike (most : Most) (tellings : List Telling) (known : List AliasTable) (x w : World) : Type 0 where
  pub same : w ≡ record x { publishers = w.publishers; receivers = w.receivers }
  pub publishers : AllPublishersAlike x.publishers w.publishers
  pub receivers : AllReceiversAlike most tellings x.receivers known w.receivers

-- after the same turns
abbrev pub Likewise : Most → AsSent → World → Type 0
Likewise most s w = WorldsAlike most s.tellings s.known s.world w

-- ---- what is asked of a run

-- each PUBLISH that the broker means has a topic name, and no Topic Alias
abbrev pub AllSendTopics : Capacity → List Turn → Type 0
AllSendTopics limits ts = AllByRecursion SendsItsTopic (deeds_over limits ts start)

-- ---- what is said of receivers

-- each packet under way means something to a receiver, once it has read those before it
abbrev pub AreUnderstood : AliasTable → List Down → Type 0
AreUnderstood known [] = ⊤
AreUnderstood known (d ∷ ds) =
    (is_some (understood known d.packet) ≡ true) × AreUnderstood (after_reading known d.packet) ds

abbrev pub AllUnderstand : List Receiver → List AliasTable → Type 0
AllUnderstand [] ks = ⊤
AllUnderstand (r ∷ rs) [] = ⊥
AllUnderstand (r ∷ rs) (k ∷ ks) = AreUnderstood k r.line.down × AllUnderstand rs ks
