-- Worked runs with a receiver that takes topic aliases: its CONNECT says so, and the broker tells it a topic by one; and with
-- one that takes none, whose CONNECT says nothing of it (MQTT 5.0, 3.1.2.11.5, 3.3.2.3.4).
use Rattle.std.proofs.Common.{◌≡◌, ℕ, false, List, [], ◌∷◌, ◌++◌, Option, Some, refl}
use Rattle.std.specs.Prelude.{option_map}
use Rattle.std.specs.Str.{is_utf8, chars}
use Rattle.std.proofs.Math.Utf8.{encode}
use Rattle.mqtt_base.specs.Values.{varint}
use Rattle.mqtt_flow.specs.outbound.Receiver.{connect}
use Rattle.mqtt_props.specs.Properties.{U16}
use Rattle.mqtt_props.specs.declared.table.PropName.TheVariants.{ReceiveMaximum, TopicAliasMaximum}
use Rattle.mqtt_records.specs.messages.PassedOn.{property}
use Rattle.mqtt_topic.specs.names.Aliases.{AliasTable, no_aliases}
use Rattle.mqtt_rules.proofs.step_lemmas.examples.Play.{usual, topic}
use Rattle.mqtt_rules.specs.step.State.{Telling, told_on}
use Rattle.mqtt_world_model.specs.model.Ends.{answers, connect_with, wire_back}
use Rattle.mqtt_world_model.specs.model.World.{Event, ask, connect_end, give_up, publish, publisher, pump, receiver, receiver_named, to_broker}
use Rattle.mqtt_world_model.specs.model.Run.{after}
use Rattle.mqtt_world_model.proofs.model_lemmas.examples.Scripts.{turns, p1, r1, draft, joins, subscribes}

-- ---- its CONNECT

-- names how many it takes
pub a_connect_names_its_aliases : wire_back r1 10 5 (answers (connect false)) ≡ connect_with r1 false (property ReceiveMaximum (U16 10) ∷ property TopicAliasMaximum (U16 5) ∷ [])
a_connect_names_its_aliases = refl

-- if it takes some
pub who_takes_none_names_nothing : wire_back r1 10 0 (answers (connect false)) ≡ connect_with r1 false (property ReceiveMaximum (U16 10) ∷ [])
who_takes_none_names_nothing = refl

-- ---- a message goes out to it, on line 1

abbrev told_to : ℕ → List Event
told_to aliases =
    receiver r1 10 aliases ∷ publisher p1 ∷ joins r1 false ++ (subscribes r1 ++ (joins p1 false ++ (publish p1 draft ∷ ask (to_broker p1) ∷ ask (pump r1) ∷ [])))

abbrev tellings_after : ℕ → List Telling
tellings_after aliases = (after usual (turns (told_to aliases))).broker.tellings

-- what aliases stand for to it then, and these events later
abbrev known_after : ℕ → List Event → Option AliasTable
known_after aliases later = option_map (λ r. r.line.known) (receiver_named r1 (after usual (turns (told_to aliases ++ later))))

-- it was told the topic by an alias
pub a_receiver_is_told_an_alias : (told_on 1 (tellings_after 5)).topics ≡ topic ∷ []
unfolding varint is_utf8 chars encode
a_receiver_is_told_an_alias = refl

-- of as many as it takes
pub it_may_be_told_as_many_as_it_takes : (told_on 1 (tellings_after 5)).max ≡ 5
unfolding varint is_utf8 chars encode
it_may_be_told_as_many_as_it_takes = refl

-- who takes none is told none
pub who_takes_none_is_told_none : (told_on 1 (tellings_after 0)).topics ≡ []
unfolding varint is_utf8 chars encode
who_takes_none_is_told_none = refl

-- ---- its line knows the alias

-- once it has read what is under way, the alias stands for the topic
pub its_line_knows_the_alias : known_after 5 [] ≡ Some (record { max = 5; topics = (1, topic) ∷ [] })
unfolding varint is_utf8 chars encode
its_line_knows_the_alias = refl

-- on a new line no alias stands for anything: each is of one connection
pub a_new_line_knows_none : known_after 5 (give_up r1 ∷ connect_end r1 false ∷ []) ≡ Some (no_aliases 5)
unfolding varint is_utf8 chars encode
a_new_line_knows_none = refl
