-- What a packet of a connected client finds, from what holds between calls on, and what it is that it holds.
use Rattle.std.proofs.Common.{◌≡◌, ℕ, ◌+◌, ◌<◌, ◌≤◌, ◌^◌, List, [], ◌∷◌, ◌++◌, length, nat_eq, ap, subst, ◌∙◌, arith, inl, inr}
use Rattle.std.specs.Prelude.{Option, Some, flat_map, find, option_map}
use Rattle.std.specs.List.{AllByRecursion}
use Rattle.std.proofs.lemmas.Bool.{cases_Bool}
use Rattle.std.proofs.lemmas.List.{length-append}
use Rattle.mqtt_base.specs.Values.{blob, two_bytes, varint}
use Rattle.mqtt_packet.specs.declared.codec.packet.Packet.TheVariants as packets
use Rattle.mqtt_packet.specs.declared.codec.publish.Publish.{Publish}
use Rattle.mqtt_props.specs.Properties.{block}
use Rattle.mqtt_records.specs.declared.state.session.Session.{Session}
use Rattle.mqtt_records.specs.lists.Order.{row_at}
use Rattle.mqtt_rules.specs.step.Contents.{AreSizes, HasTopics, IsTaken, of_rows}
use Rattle.mqtt_rules.specs.step.Deeds.{Hear, On, after_all, on_line}
use Rattle.mqtt_rules.specs.step.Inbound.{Means, meaning, message_of}
use Rattle.mqtt_rules.specs.step.State.{Broker, Line, line_at}
use Rattle.mqtt_rules.specs.step.Step.{at_moment}
use Rattle.mqtt_rules.proofs.step_lemmas.contents.ContentPackets.{sent_content}
use Rattle.mqtt_rules.proofs.step_lemmas.fit.FitLaw.{mapped_some}
use Rattle.mqtt_broker_step.specs.Lines.{line_number}
use Rattle.mqtt_broker_queue.specs.publications.Choosing.{IsLawfulMessage}
use Rattle.mqtt_packet.specs.declared.subscribe.unsubscribe.Unsubscribe.{Unsubscribe}
use Rattle.mqtt_packet.specs.subscribe.Unsubscribe.{unsubscribe_body}
use Rattle.mqtt_broker_acts.specs.calls.Inputs.{HasClient}
use Rattle.mqtt_broker_acts.specs.calls.Ready.{AreSourcesLawful}

-- ---- a line that is heard

heard_line : (moment n : ℕ) (ls : List Line) (l : Line) → find (λ y. nat_eq y.number n) ls ≡ Some l → find (λ y. nat_eq y.number n) (on_line moment n Hear ls) ≡ Some (record l { heard = moment })
heard_line moment n [] l found = absurd cc
heard_line moment n (x ∷ xs) l found = elim (cases_Bool (nat_eq x.number n)) [
  | inl here ↦
      let first : Some x ≡ Some l = rw here at found in
      let is : x ≡ l = cc in
      rw (here, here) (ap (λ (y : Line). Some (record y { heard = moment })) is)
  | inr other ↦ rw (other, other) (heard_line moment n xs l (rw other at found))
]

abbrev pub heard_broker : ℕ → Broker → Broker
heard_broker line b = after_all (On line Hear ∷ []) b

-- a line that was heard is found with the moment
pub line_heard : (line : ℕ) (b : Broker) (l : Line) → line_at line b ≡ Some l → line_at line (heard_broker line b) ≡ Some (record l { heard = b.now })
line_heard line b l found = heard_line b.now line b.lines l found

topics_heard : (moment n : ℕ) (ls : List Line) → AllByRecursion HasTopics ls → AllByRecursion HasTopics (on_line moment n Hear ls)
topics_heard moment n [] h = tt
topics_heard moment n (x ∷ xs) h = elim (cases_Bool (nat_eq x.number n)) [
  | inl here ↦ rw here h
  | inr other ↦ rw other (h.0, topics_heard moment n xs h.1)
]

-- a client that was heard is still one
pub client_heard : (line birth : ℕ) (b : Broker) → HasClient line birth b → HasClient line birth (heard_broker line b)
client_heard line birth b k =
    let l = mapped_some (λ (y : Line). y.session) (line_at line b) (Some birth) k.on in
    record {
      on = ap (λ (o : Option Line). option_map (λ (y : Line). y.session) o) (line_heard line b l.0 l.1) ∙ ap Some l.2;
      stands = k.stands;
      orders = k.orders;
      filters = k.filters;
      sources = record { stored = k.sources.stored; lines = topics_heard b.now line b.lines k.sources.lines };
    }

-- ---- a call begins

-- so it is behind the moment of a step
pub client_begun : (line birth moment : ℕ) (b : Broker) → HasClient line birth b → HasClient line birth (at_moment moment b)
client_begun line birth moment b k = record {
  on = k.on;
  stands = k.stands;
  orders = k.orders;
  filters = k.filters;
  sources = record { stored = k.sources.stored; lines = k.sources.lines };
}

-- ---- what it finds

topics_in : (n : ℕ) (ls : List Line) (l : Line) → AllByRecursion HasTopics ls → row_at line_number n ls ≡ Some l → HasTopics l
topics_in n [] l h found = absurd cc
topics_in n (x ∷ xs) l h found = elim (cases_Bool (nat_eq x.number n)) [
  | inl here ↦
      let first : Some x ≡ Some l = rw here at found in
      let is : x ≡ l = cc in
      subst HasTopics is h.0
  | inr other ↦ topics_in n xs l h.1 (rw other at found)
]

rows_sizes : AreSizes of_rows
rows_sizes = record { bytes = (omega arith, omega arith); identifiers = (omega arith, omega arith) }

-- a PUBLISH that may come and has a meaning is a lawful message
pub lawful_message : (line : ℕ) (b : Broker) (p : Publish) (l : Line) (s : Session) (topic : List ℕ) → AreSourcesLawful b → IsTaken (packets.Publish p)
    → row_at line_number line b.lines ≡ Some l → meaning p l.aliases ≡ Means topic → IsLawfulMessage (message_of s.client topic p)
lawful_message line b p l s topic k taken found means =
    sent_content of_rows rows_sizes p l.aliases topic taken (topics_in line b.lines l k.lines found) means

-- ---- the filters of an UNSUBSCRIBE are few

fewer : (fs : List (List ℕ)) → length fs ≤ length (flat_map blob fs)
fewer [] = omega arith
fewer (f ∷ fs) =
    let rest = fewer fs in
    let one = length-append (blob f) (flat_map blob fs) in
    let two = length-append (two_bytes (length f)) f in
    omega (arith, rest, one, two)

-- an UNSUBSCRIBE that may come has few filters
pub few_filters : (u : Unsubscribe) → IsTaken (packets.Unsubscribe u) → length u.filters + 3 < 2 ^ 28
few_filters u taken =
    let body = unsubscribe_body u in
    let short = taken.short in
    let framing = length-append (varint (length body)) body in
    let first = length-append (two_bytes u.identifier) (block u.properties ++ flat_map blob u.filters) in
    let second = length-append (block u.properties) (flat_map blob u.filters) in
    let each = fewer u.filters in
    omega (arith, short, framing, first, second, each)
