-- Copies of lawful contents are no larger than a receiver takes, which takes packets of any size: those that its session has
-- queued, and those that a SUBSCRIBE under way from it would bring (MQTT 5.0, 2.1.4, 3.1.2.11.4, 3.3.1.3).
use Rattle.std.proofs.Common.{◌≡◌, ℕ, ◌≤◌, ◌^◌, bytes_eq, List, [], ◌∷◌, Option, Some, None, refl, sym, subst, arith}
use Rattle.std.specs.List.{AllByRecursion}
use Rattle.mqtt_base.proofs.Varints.{size_fourth, varint_sizes}
use Rattle.mqtt_props.specs.declared.table.PropName.TheVariants.{SubscriptionIdentifier}
use Rattle.mqtt_keep.specs.lawful.Lawful.{IsIdentifier}
use Rattle.mqtt_records.specs.messages.PassedOn.{number_at}
use Rattle.mqtt_records.specs.messages.Queue.{CopyRow, remaining}
use Rattle.mqtt_records.specs.declared.messages.message.MessageCopy.{MessageCopy}
use Rattle.mqtt_records.specs.declared.messages.message.RetainedMessage.{RetainedMessage}
use Rattle.mqtt_records.specs.state.Session.{birth_of}
use Rattle.mqtt_records.specs.declared.state.session.Session.{Session}
use Rattle.mqtt_rules.proofs.step_lemmas.acts.Leads.{found_among, row_among}
use Rattle.mqtt_rules.proofs.step_lemmas.contents.ContentPackets.{asked_identifier}
use Rattle.mqtt_rules.proofs.step_lemmas.contents.CopySizes.{first_size}
use Rattle.mqtt_rules.proofs.step_lemmas.contents.SpelledContents.{copy_spelled, rows_are}
use Rattle.mqtt_rules.proofs.step_lemmas.fit.FitLaw.{all_among}
use Rattle.mqtt_rules.specs.step.Contents.{AreContentsLawful, AreIdentifiersOf, HasContentsOf, IsCopiedOf, IsPublishedOf, IsTaken, of_rows}
use Rattle.mqtt_rules.specs.step.Laws.{IsAmong}
use Rattle.mqtt_rules.specs.step.State.{Broker, queued_copy, session_named}
use Rattle.mqtt_rules.specs.step.Subscribe.{identifiers_of, retained_copy}
use Rattle.mqtt_rules.specs.whole.Whole.{AreNoLarger}
use Rattle.mqtt_world_model.proofs.model_lemmas.others.Lists.{all_find}
use Rattle.mqtt_world_model.specs.model.Ends.{Back, Receiver, Wish, answers, asks_for, identified, subscribe_with}
use Rattle.mqtt_world_model.specs.model.World.{World, receiver_named}
use Rattle.mqtt_world_model.specs.single_steps.Sound.{IsGoodBack, IsSoundReceiver}
use Rattle.mqtt_world_laws.specs.reading.Going.{GoesWell}
use Rattle.mqtt_world_laws.specs.receiver.WorldRounds.{AllBringNoLarger, BringsNoLarger, QueueFits}
use Rattle.mqtt_world_laws.specs.receiver.Connecting.{any_size}

-- no packet has as many bytes as a receiver takes: a copy of a lawful content is within the greatest size
pub is_small : (copy : MessageCopy) → IsCopiedOf of_rows copy → (queued_copy copy).size ≤ any_size
is_small copy h =
    let n = remaining copy in
    let short = (copy_spelled of_rows rows_are copy h).short in
    let most = varint_sizes n (2 ^ 28) (omega (arith, short)) in
    let four = size_fourth (2 ^ 28) (omega arith) in
    let is = first_size copy in
    omega (arith, short, most, four, is)

-- ---- what waits

all_small : (rows : List CopyRow) → AllByRecursion (λ (e : CopyRow). IsCopiedOf of_rows e.copy) rows → AreNoLarger any_size rows
all_small [] h = tt
all_small (e ∷ rows) h = (is_small e.copy h.0, all_small rows h.1)

queue_small : (s : Session) (b : Broker) → AreContentsLawful b → IsAmong s b.records.sessions → AreNoLarger any_size s.queue
queue_small s b contents among = all_small s.queue (all_among (HasContentsOf of_rows) s b.records.sessions contents.stored.sessions among).queue

-- so it is with the copies that the session of a birth has queued
pub queue_fits : (birth : ℕ) (b : Broker) → AreContentsLawful b → QueueFits any_size birth b
queue_fits birth b contents s there = queue_small s b contents (row_among birth_of birth s b.records.sessions there)

-- and with those of the session of a name
pub named_fits : (client : List ℕ) (b : Broker) → AreContentsLawful b → (s : Session) → session_named client b.records ≡ Some s → AreNoLarger any_size s.queue
named_fits client b contents s there = queue_small s b contents (found_among (λ (x : Session). bytes_eq x.client client) s b.records.sessions there)

-- ---- what a SUBSCRIBE brings

number_is : (o : Option ℕ) → number_at SubscriptionIdentifier (identified o) ≡ o
number_is None = refl
number_is (Some n) = refl

wish_identifiers : (o : Option ℕ) → IsIdentifier o → AreIdentifiersOf of_rows (identifiers_of o)
wish_identifiers None h = record { each = tt; few = omega arith }
wish_identifiers (Some n) h = record { each = (h, tt); few = omega arith }

brought_small : (o : Option ℕ) → IsIdentifier o → (ks : List RetainedMessage) → AllByRecursion (λ (k : RetainedMessage). IsPublishedOf of_rows k.content) ks → AllByRecursion (BringsNoLarger any_size o) ks
brought_small o own [] h = tt
brought_small o own (k ∷ ks) h = (
  λ birth number w is. is_small (retained_copy birth number w k) (record { content = h.0; identifiers = wish_identifiers w.identifier (subst IsIdentifier (sym is) own) }),
  brought_small o own ks h.1,
)

wish_small : (w : Wish) (b : Broker) → AreContentsLawful b → IsTaken (subscribe_with w) → AllByRecursion (BringsNoLarger any_size w.identifier) b.records.retained
wish_small w b contents taken = brought_small w.identifier (subst IsIdentifier (number_is w.identifier) (asked_identifier _ taken)) b.records.retained contents.stored.retained

backs_small : (up : List Back) (b : Broker) → AreContentsLawful b → AllByRecursion IsGoodBack up → AllByRecursion (AllBringNoLarger any_size b.records.retained) up
backs_small [] b contents h = tt
backs_small (answers a ∷ up) b contents h = (tt, backs_small up b contents h.1)
backs_small (asks_for w ∷ up) b contents h = (wish_small w b contents h.0, backs_small up b contents h.1)

-- where all goes well no SUBSCRIBE under way from a receiver brings what is too large for it
pub asked_small : (c : List ℕ) (r : Receiver) (w : World) → GoesWell w → receiver_named c w ≡ Some r → AllByRecursion (AllBringNoLarger any_size w.broker.records.retained) r.line.up
asked_small c r w h e =
    let sound = (all_find IsSoundReceiver (λ (q : Receiver). bytes_eq q.client c) r w.receivers h.ends.receivers e).0 in
    backs_small r.line.up w.broker h.sends.contents sound.line.up
