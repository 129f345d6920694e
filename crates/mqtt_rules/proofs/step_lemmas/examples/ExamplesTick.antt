-- Five things are due at once: each tick does the first, and nothing else (MQTT 5.0, 3.1.2.10, 3.1.2.11.2, 3.1.3.2.2, 3.3.2.3.3).
use Rattle.std.proofs.Common.{◌≡◌, ℕ, zero, suc, true, false, List, [], ◌∷◌, map, length, Some, refl}
use Rattle.std.specs.Prelude.{codes, flat_map, filter_map}
use Rattle.mqtt_base.specs.Values.{varint}
use Rattle.mqtt_base.specs.declared.session.Qos.TheVariants.{ExactlyOnce}
use Rattle.mqtt_base.specs.declared.session.Phase.TheVariants.{Waiting}
use Rattle.mqtt_props.specs.declared.table.PropName.TheVariants.{MessageExpiryInterval}
use Rattle.mqtt_props.specs.Properties.{U32}
use Rattle.mqtt_records.specs.declared.messages.message.Content.{Content}
use Rattle.mqtt_records.specs.declared.messages.message.Will.{Will}
use Rattle.mqtt_records.specs.messages.Queue.{CopyRow}
use Rattle.mqtt_records.specs.state.Records.{nothing}
use Rattle.mqtt_records.specs.messages.PassedOn.{property}
use Rattle.mqtt_rules.specs.step.State.{Broker}
use Rattle.mqtt_rules.specs.step.Deeds.{fresh_line}
use Rattle.mqtt_rules.specs.step.Step.{Tick}
use Rattle.mqtt_rules.proofs.step_lemmas.examples.Play.{at, step, tells, topic, hi, away, copy_kept}

-- it expires after 5 seconds
abbrev brief : Content
brief = record { topic = topic; properties = property MessageExpiryInterval (U32 5) ∷ []; payload = hi; arrived = 0 }

abbrev waits : CopyRow
waits = record { place = 1; phase = Waiting; copy = record (copy_kept 1) { content = brief } }

abbrev last_words : Will
last_words = record { delay = 10; qos = ExactlyOnce; retain = false; topic = topic; properties = []; payload = hi }

-- a line without CONNECT, a Will that waits for 10 seconds, a session that ends after 5, a retained message and a copy
abbrev due_at_once : Broker
due_at_once = record {
  records = record nothing {
    births = 3;
    publications = 1;
    sessions = record (away 1 (codes "w1")) { will = Some last_words }
        ∷ record (away 2 (codes "s1")) { expiry = 5 }
        ∷ record (away 3 (codes "r1")) { queue = waits ∷ [] }
        ∷ [];
    retained = record { place = 1; sender = codes "p1"; publication = 1; qos = ExactlyOnce; content = brief } ∷ [];
  };
  lines = fresh_line 1 0 ∷ [];
  given = 1;
  now = 0;
  tellings = [];
}

abbrev after_ticks : ℕ → Broker
after_ticks zero = due_at_once
after_ticks (suc n) = step (at 10000 Tick) (after_ticks n)

-- how many lines, Wills, sessions, retained messages and copies are left
abbrev counts : Broker → List ℕ
counts b = length b.lines ∷ length (filter_map (λ s. s.will) b.records.sessions) ∷ length b.records.sessions ∷ length b.records.retained
    ∷ length (flat_map (λ s. s.queue) b.records.sessions) ∷ []

one_thing_a_tick : map (λ n. counts (after_ticks n)) (0 ∷ 1 ∷ 2 ∷ 3 ∷ 4 ∷ 5 ∷ 6 ∷ [])
    ≡ (1 ∷ 1 ∷ 3 ∷ 1 ∷ 1 ∷ [])
    ∷ (0 ∷ 1 ∷ 3 ∷ 1 ∷ 1 ∷ [])
    ∷ (0 ∷ 0 ∷ 3 ∷ 1 ∷ 1 ∷ [])
    ∷ (0 ∷ 0 ∷ 2 ∷ 1 ∷ 1 ∷ [])
    ∷ (0 ∷ 0 ∷ 2 ∷ 0 ∷ 1 ∷ [])
    ∷ (0 ∷ 0 ∷ 2 ∷ 0 ∷ 0 ∷ [])
    ∷ (0 ∷ 0 ∷ 2 ∷ 0 ∷ 0 ∷ [])
    ∷ []
unfolding varint
one_thing_a_tick = refl

then_there_is_no_more : map (λ n. (tells (at 10000 Tick) (after_ticks n)).again) (0 ∷ 4 ∷ 5 ∷ []) ≡ true ∷ true ∷ false ∷ []
unfolding varint
then_there_is_no_more = refl
