-- Worked states: a message that waits, beside what there is to fill its row with (MQTT 5.0, 3.3, 4.3).
use Rattle.std.proofs.Common.{◌≡◌, ℕ, arith, false, List, [], ◌∷◌, ◌++◌, Option, Some, None, refl, ap}
use Rattle.std.specs.Prelude.{codes, flat_map, map}
use Rattle.mqtt_base.specs.Values.{varint}
use Rattle.mqtt_base.specs.declared.session.Qos.TheVariants.{ExactlyOnce}
use Rattle.mqtt_props.specs.declared.table.PropName.TheVariants.{ContentType, MessageExpiryInterval}
use Rattle.mqtt_props.specs.Properties.{Text, U32}
use Rattle.mqtt_packet.specs.declared.codec.publish.Delivery.TheVariants as delivery
use Rattle.mqtt_records.specs.declared.messages.message.MessageCopy.{MessageCopy}
use Rattle.mqtt_records.specs.messages.Filling.{Fillings, filling_of, filled_copy}
use Rattle.mqtt_records.specs.messages.PassedOn.{property}
use Rattle.mqtt_records.specs.messages.Queue.{CopyRow}
use Rattle.mqtt_records.specs.messages.Slim.{slim_copy}
use Rattle.mqtt_rules.specs.step.State.{Broker}
use Rattle.mqtt_rules.specs.step.Step.{Input, Pump}
use Rattle.mqtt_rules.proofs.step_lemmas.examples.Play.{blank, at, runs, tells, topic, direct}
use Rattle.mqtt_rules.proofs.step_lemmas.examples.WorkedCopies.{subscribed_at, publishes}
use Rattle.mqtt_rules.specs.alike.Slim.{slim_broker}
use Rattle.mqtt_rules.specs.filling.Filling.{filled}
use Rattle.mqtt_rules.specs.filling.Pumped.{sent_places, HasWholeTurns, filled_for_pump}

-- ---- a copy

-- of 'hi' at QoS 2, for the subscription with the identifier 3, in plain text, which expires after 7 seconds
abbrev hi : MessageCopy
hi = record {
  id = direct 1 1;
  qos = ExactlyOnce;
  retain = false;
  identifiers = 3 ∷ [];
  content = record {
    topic = topic;
    properties = property MessageExpiryInterval (U32 7) ∷ property ContentType (Text (codes "t")) ∷ [];
    payload = codes "hi";
    arrived = 0;
  };
}

-- its slim copy, filled with what it says, is the copy
pub a_slim_copy_is_filled : filled_copy (filling_of hi) (slim_copy hi) ≡ hi
a_slim_copy_is_filled = refl

-- the slim copy has no Subscription Identifier
pub a_slim_copy_says_less : (slim_copy hi).identifiers ≡ []
a_slim_copy_says_less = refl

-- ---- a broker

-- r1 is subscribed at QoS 2, and p1 publishes this
abbrev waits : List ℕ → Broker
waits payload = runs (subscribed_at ExactlyOnce ++ at 0 (Input 2 (publishes (delivery.ExactlyOnce false 10) false [] payload)) ∷ []) blank

-- what is in the store: this, wherever it is asked
abbrev says : List ℕ → Fillings
says payload birth place = record { identifiers = []; properties = []; payload = payload }

-- what the waiting copies of all sessions say
abbrev payloads : Broker → List (List ℕ)
payloads b = flat_map (λ s. map (λ e. e.copy.content.payload) s.queue) b.records.sessions

-- nothing of it is in memory
pub memory_says_zeros : payloads (slim_broker (waits (codes "hi"))) ≡ (0 ∷ 0 ∷ []) ∷ []
unfolding varint
memory_says_zeros = refl

-- with what there is in the store it is said
pub memory_and_store_say_it : payloads (filled (says (codes "hi")) (slim_broker (waits (codes "hi")))) ≡ codes "hi" ∷ []
unfolding varint
memory_and_store_say_it = refl

-- and with another store something else is said
pub another_store_says_another : payloads (filled (says (codes "ho")) (slim_broker (waits (codes "hi")))) ≡ codes "ho" ∷ []
unfolding varint
another_store_says_another = refl

-- ---- a pump

-- it sends the copy at the first place, as is found without what the copy says
pub the_first_place_is_sent : sent_places 1 (slim_broker (waits (codes "hi"))) ≡ 1 ∷ []
unfolding varint
the_first_place_is_sent = refl

-- without that it would send zeros
pub a_slim_row_says_zeros : (tells (at 0 (Pump 1)) (slim_broker (waits (codes "hi")))).outputs ≡ (1, publishes (delivery.ExactlyOnce false 1) false [] (0 ∷ 0 ∷ [])) ∷ []
unfolding varint
a_slim_row_says_zeros = refl

abbrev words : Option CopyRow → List ℕ
words None = []
words (Some e) = e.copy.content.payload

abbrev first_word : List ℕ → ℕ
first_word [] = 0
first_word (n ∷ ns) = n

-- for the slim row is another than the whole one
pub a_slim_row_is_not_whole : HasWholeTurns 0 1 (slim_broker (waits (codes "hi"))) (waits (codes "hi")) → ⊥
unfolding varint
a_slim_row_is_not_whole h = let e : 0 ≡ 104 = ap (λ (o : Option CopyRow). first_word (words o)) h.0 in omega (arith, e)

-- after what it sends was read it says that
pub a_filled_row_says_its_own : (tells (at 0 (Pump 1)) (filled_for_pump (says (codes "hi")) 0 1 (slim_broker (waits (codes "hi"))))).outputs
    ≡ (1, publishes (delivery.ExactlyOnce false 1) false [] (codes "hi")) ∷ []
unfolding varint
a_filled_row_says_its_own = refl

-- once it has gone out nothing is read on that line
pub what_was_sent_is_not_read : sent_places 1 (runs (at 0 (Pump 1) ∷ []) (slim_broker (waits (codes "hi")))) ≡ []
unfolding varint
what_was_sent_is_not_read = refl
