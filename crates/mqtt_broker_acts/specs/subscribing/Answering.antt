-- The filters of a SUBSCRIBE, one after the other, and what goes out when all are answered (MQTT 5.0, 3.8.4, 3.9).
use Rattle.std.specs.Prelude.{ℕ, List, Option}
use Rattle.mqtt_records.specs.declared.messages.message.MessageCopy.{MessageCopy}
use Rattle.mqtt_packet.specs.subscribe.Subscriptions.{Subscription as Asked}
use Rattle.mqtt_rules.specs.step.State.{Broker, Env, session_at}
use Rattle.mqtt_rules.specs.step.Deeds.{Act, then}
use Rattle.mqtt_rules.specs.step.Packets.{suback}
use Rattle.mqtt_rules.specs.step.Subscribe.{FilterAnswer, FilterAnswers, wish_of, filter_answer_of, filter_answers}
use Rattle.mqtt_broker_acts.specs.subscribing.Bringing.{late_sends}
use Rattle.mqtt_broker_acts.specs.subscribing.Offering.{offer_within}

-- a filter with its options byte
abbrev pub asking : List ℕ → ℕ → Asked
asking text options = record { filter = text; options = options }

-- what becomes of one filter
abbrev pub answer_to : ℕ → Option ℕ → Asked → Env → Broker → FilterAnswer
answer_to birth identifier a env b = filter_answer_of env (wish_of identifier a) b (session_at birth b.records)

abbrev pub answers_to : ℕ → Option ℕ → Asked → Env → Act
answers_to birth identifier a env b = (answer_to birth identifier a env b).deeds

-- what becomes of all, each on what the ones before it left
abbrev pub all_answers : ℕ → Option ℕ → List Asked → Env → Broker → FilterAnswers
all_answers birth identifier filters env b = filter_answers env birth identifier filters b

abbrev pub answers_all : ℕ → Option ℕ → List Asked → Env → Act
answers_all birth identifier filters env b = (all_answers birth identifier filters env b).deeds

-- SUBACK, if the client on the line takes so many bytes, and the late copies behind it
abbrev pub tells : ℕ → Option ℕ → ℕ → List ℕ → List MessageCopy → Act
tells line largest identifier codes late = then (offer_within line largest (suback identifier codes)) (late_sends line late)
