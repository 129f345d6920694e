-- What goes along with a broker, its index and the moment before which nothing is due, goes along with an alike one: neither asks for anything
-- of what waiting copies say.
use Rattle.std.proofs.Common.{◌≡◌, ℕ, List, [], ◌∷◌, refl, sym, ap, ◌∙◌}
use Rattle.std.specs.Prelude.{◌-◌, ◌/◌}
use Rattle.std.specs.List.{AllByRecursion}
use Rattle.mqtt_flow.specs.outbound.Outbound.{is_past, is_waiting}
use Rattle.mqtt_flow.specs.declared.outbound.entry.QueuedCopy.{QueuedCopy}
use Rattle.mqtt_records.specs.messages.Queue.{CopyRow}
use Rattle.mqtt_records.specs.declared.state.records.Records.{Records}
use Rattle.mqtt_records.specs.declared.state.session.Session.{Session}
use Rattle.mqtt_rules.specs.step.Routing.{subscriber_of, subscribers}
use Rattle.mqtt_rules.specs.step.State.{Broker}
use Rattle.mqtt_rules.proofs.step_lemmas.contents.LawfulContents.{lawful_contents}
use Rattle.mqtt_rules.proofs.step_lemmas.fit.LawfulRecords.{lawful_coherent}
use Rattle.mqtt_rules.proofs.step_lemmas.numbers.Copies.{each_more}
use Rattle.mqtt_rules.specs.alike.Alike.{Each, AlikeRows, AlikeSessions, AlikeRecords, with_queue, with_sessions}
use Rattle.mqtt_rules.proofs.alike_lemmas.Pairs.{map_same}
use Rattle.mqtt_rules.proofs.alike_lemmas.States.{by_queue, by_sessions}
use Rattle.mqtt_rules.proofs.filling_lemmas.Equivalence.{broker_back}
use Rattle.mqtt_broker_step.specs.Subscribing.{HasEachFilterOnce}
use Rattle.mqtt_broker_acts.specs.clock.Quiet.{AreQuiet, AreQuietBefore, IsFresh, IsQuiet}
use Rattle.mqtt_broker_acts.specs.calls.Ready.{HasLawfulSources}
use Rattle.mqtt_broker_acts.proofs.calls_lemmas.Sources.{stored_sources}
use Rattle.mqtt_broker_queue.specs.subscribers.Following.{CanBeIndexed, HasAsked}
use Rattle.mqtt_broker_queue.proofs.subscribers_lemmas.Followed.{indexed_lawful}
use Rattle.mqtt_broker.proofs.alike_lemmas.Ready.{records_coherent, records_sourced}
use Rattle.mqtt_broker.specs.stored.Over.{AreOfLawful}

-- ---- lists that are alike one by one

-- what holds of the items of one holds of those of the other
all_alike : {X : Type 0} (R : X → X → Type 0) (P : X → Type 0) → ((x y : X) → R x y → P x → P y) → (xs ys : List X) → Each R xs ys → AllByRecursion P xs → AllByRecursion P ys
all_alike R P k [] [] h a = tt
all_alike R P k [] (y ∷ ys) h a = absurd h
all_alike R P k (x ∷ xs) [] h a = absurd h
all_alike R P k (x ∷ xs) (y ∷ ys) h a = (k x y h.0 a.0, all_alike R P k xs ys h.1 a.1)

-- what doesn't ask for the queue's words
sessions_alike : (P : Session → Type 0) → ((s : Session) (q : List CopyRow) → Each AlikeRows s.queue q → P s → P (with_queue q s)) → (xs ys : List Session) → Each AlikeSessions xs ys → AllByRecursion P xs → AllByRecursion P ys
sessions_alike P k = all_alike AlikeSessions P (λ s t h. by_queue (λ (x : Session). P s → P x) s (k s) t h)

-- ---- what goes along

-- alike records have the same subscriptions
pub subscribers_alike : (r o : Records) → AlikeRecords r o → subscribers r ≡ subscribers o
subscribers_alike r o h =
    by_sessions (λ (x : Records). subscribers r ≡ subscribers x) r
    (λ ss i. map_same AlikeSessions subscriber_of subscriber_of (λ s t k. ap subscriber_of k.rest) r.sessions ss i) o h

fresh_alike : (now : ℕ) (x y : CopyRow) → AlikeRows x y → IsFresh now x → IsFresh now y
fresh_alike now x y k fresh = λ waits.
    sym (ap (λ (q : QueuedCopy). is_past q.expiry ((now - q.arrived) / 1000)) k.copy.seen) ∙ fresh (ap is_waiting k.phase ∙ waits)

quiet_alike_at : (now : ℕ) (r : Records) (ss : List Session) → Each AlikeSessions r.sessions ss → AreQuiet now r → AreQuiet now (with_sessions ss r)
quiet_alike_at now r ss h q = record {
  sessions = sessions_alike (IsQuiet now) (λ s rows i k. record { will = k.will; stays = k.stays; copies = all_alike AlikeRows (IsFresh now) (fresh_alike now) s.queue rows i k.copies }) r.sessions ss h q.sessions;
  retained = q.retained;
}

-- of alike records the same is due
pub quiet_alike : (limit : ℕ) (r o : Records) → AlikeRecords r o → AreQuietBefore limit r → AreQuietBefore limit o
quiet_alike limit r o h quiet = λ now before.
    by_sessions (λ (x : Records). AreQuiet now x) r (λ ss i. quiet_alike_at now r ss i (quiet now before)) o h

-- ---- what can be indexed

abbrev bare : Records → Broker
bare r = record { records = r; lines = []; given = 0; now = 0; tellings = [] }

back : (some whole : Records) → AlikeRecords some whole → Each AlikeSessions whole.sessions some.sessions
back some whole h = (broker_back (bare some) (bare whole) (record { rest = refl; records = h })).records.sessions

-- records that are alike to lawful ones can be indexed
pub indexed_alike : (some : Records) → AreOfLawful some → CanBeIndexed some
indexed_alike some h =
    let sourced = records_sourced some h.whole h.alike (stored_sources h.whole (lawful_contents h.whole h.lawful)) in
    record {
      ordered = (records_coherent some h.whole h.alike (lawful_coherent h.whole h.lawful)).ordered;
      filters = sessions_alike HasEachFilterOnce (λ s q i k. record { differ = k.differ }) h.whole.sessions some.sessions (back some h.whole h.alike) (indexed_lawful h.whole h.lawful).filters;
      asked = each_more HasLawfulSources HasAsked (λ s its. its.subscriptions) some.sessions sourced.sessions;
    }
