-- A client that takes Topic Aliases: how many it is told, and the bytes of each PUBLISH (MQTT 5.0, 3.1.2.11.5, 3.3.2.3.4).
use Rattle.std.proofs.Common.{◌≡◌, ℕ, List, [], ◌∷◌, ◌++◌, map, None, refl}
use Rattle.std.specs.Prelude.{codes}
use Rattle.mqtt_base.specs.Values.{varint}
use Rattle.mqtt_base.specs.declared.session.Phase.TheVariants.{Waiting}
use Rattle.mqtt_props.specs.declared.table.PropName.TheVariants.{TopicAliasMaximum}
use Rattle.mqtt_props.specs.Properties.{Prop, U16}
use Rattle.mqtt_packet.specs.declared.codec.packet.Packet.{Packet}
use Rattle.mqtt_records.specs.messages.PassedOn.{property}
use Rattle.mqtt_records.specs.messages.Queue.{CopyRow}
use Rattle.mqtt_rules.specs.step.State.{Broker, told_on}
use Rattle.mqtt_rules.specs.step.Step.{Lost, Pump, bytes_out}
use Rattle.mqtt_rules.proofs.step_lemmas.examples.Play.{blank, Event, at, bytes, copy_kept, entry, hello, hello_with, in_line, never_expires, queued, runs, tells}

-- r1 says in its CONNECT how many it takes
abbrev takes : List Prop → Packet
takes most = hello_with (codes "r1") (never_expires ∷ most) None

abbrev granted_by : List Prop → ℕ
granted_by most = (told_on 1 (runs (in_line 1 (takes most)) blank).tellings).max

abbrev most_is : ℕ → List Prop
most_is n = property TopicAliasMaximum (U16 n) ∷ []

-- ten at most, and none if it says nothing
as_many_as_it_takes : map granted_by ([] ∷ most_is 0 ∷ most_is 1 ∷ most_is 10 ∷ most_is 11 ∷ most_is 65535 ∷ []) ≡ 0 ∷ 0 ∷ 1 ∷ 10 ∷ 10 ∷ 10 ∷ []
as_many_as_it_takes = refl

-- ---- r1 resumes with room for one alias, and three copies wait, to a/b, a/b and a/c

abbrev to_a_c : CopyRow
to_a_c = let e = entry 3 Waiting in record e { copy = record (copy_kept 3) { content = record e.copy.content { topic = codes "a/c" } } }

abbrev resumed : List Event
resumed = in_line 1 (hello (codes "r1")) ++ at 0 (Lost 1) ∷ in_line 2 (takes (most_is 1))

abbrev three_wait : Broker
three_wait = queued 1 (entry 1 Waiting ∷ entry 2 Waiting ∷ to_a_c ∷ []) 3 (runs resumed blank)

-- the topic and its alias, then the alias alone; for a/c there is none
each_in_its_form : map (λ x. x.1) (bytes_out (tells (at 0 (Pump 2)) three_wait))
    ≡ bytes "34 0d 00 03 61 2f 62 00 01 03 23 00 01 68 69" ∷ bytes "34 0a 00 00 00 02 03 23 00 01 68 69" ∷ bytes "34 0a 00 03 61 2f 63 00 03 00 68 69" ∷ []
unfolding varint
each_in_its_form = refl

-- on the next connection nothing was told yet: the same three, with DUP
abbrev resumed_again : Broker
resumed_again = runs (at 0 (Pump 2) ∷ at 0 (Lost 2) ∷ in_line 3 (takes (most_is 1))) three_wait

again_in_its_form : map (λ x. x.1) (bytes_out (tells (at 0 (Pump 3)) resumed_again))
    ≡ bytes "3c 0d 00 03 61 2f 62 00 01 03 23 00 01 68 69" ∷ bytes "3c 0a 00 00 00 02 03 23 00 01 68 69" ∷ bytes "3c 0a 00 03 61 2f 63 00 03 00 68 69" ∷ []
unfolding varint
again_in_its_form = refl
