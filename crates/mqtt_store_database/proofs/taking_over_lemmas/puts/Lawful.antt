-- The copies and retained messages of lawful records may be put.
use Rattle.std.proofs.Common.{ℕ, List, [], ◌∷◌, arith}
use Rattle.std.specs.List.{AllByRecursion}
use Rattle.mqtt_base.specs.declared.session.Cause.{Cause}
use Rattle.mqtt_base.specs.declared.session.Cause.TheVariants.{Direct, Share, Retained}
use Rattle.mqtt_base.specs.declared.session.Phase.{Phase}
use Rattle.mqtt_base.specs.declared.session.Phase.TheVariants.{Waiting, Sent, Released, Oversize}
use Rattle.mqtt_base.specs.declared.session.Qos.{Qos}
use Rattle.mqtt_base.specs.declared.session.Qos.TheVariants.{AtMostOnce, AtLeastOnce, ExactlyOnce}
use Rattle.mqtt_base.specs.Phases.{order_of}
use Rattle.mqtt_records.specs.declared.messages.message.RetainedMessage.{RetainedMessage}
use Rattle.mqtt_records.specs.messages.Queue.{CopyRow}
use Rattle.mqtt_records.specs.declared.state.records.Records.{Records}
use Rattle.mqtt_records.specs.declared.state.session.Session.{Session}
use Rattle.mqtt_records.specs.state.Records.{FitsCopy, FitsRetained, IsNumber, subscribe_in}
use Rattle.mqtt_keep.specs.declared.lawful.rows.Last.{Last}
use Rattle.mqtt_keep.specs.lawful.Lawful.{AreNumbers, IsCause, IsPhase, IsLawfulCopy, IsLawfulSession, IsLawfulRetained, IsLawful}
use Rattle.mqtt_store_database.proofs.taking_over_lemmas.puts.Refilled.{IsQueue, AreRows}

each_too : {X : Type 0} (P Q : X → Type 0) (xs : List X) → ((x : X) → P x → Q x) → AllByRecursion P xs → AllByRecursion Q xs
each_too P Q [] so all = tt
each_too P Q (x ∷ xs) so all = (so x all.0, each_too P Q xs so all.1)

subscribe_fits : (subscribes : ℕ) (cause : Cause) → IsNumber subscribes → IsCause subscribes cause → IsNumber (subscribe_in cause)
subscribe_fits subscribes Direct last is = omega arith
subscribe_fits subscribes (Share group) last is = omega arith
subscribe_fits subscribes (Retained subscribe) last is = let within = is.1 in omega (arith, last, within)

order_fits : (qos : Qos) (phase : Phase) → IsPhase qos phase → IsNumber (order_of phase)
order_fits qos Waiting is = omega arith
order_fits qos (Sent identifier) is = omega arith
order_fits AtMostOnce (Released identifier order) is = absurd is
order_fits AtLeastOnce (Released identifier order) is = absurd is
order_fits ExactlyOnce (Released identifier order) is = is.1.1
order_fits AtMostOnce (Oversize identifier order) is = absurd is
order_fits AtLeastOnce (Oversize identifier order) is = absurd is
order_fits ExactlyOnce (Oversize identifier order) is = is.1.1

copy_fits : (last : Last) (birth : ℕ) (row : CopyRow) → AreNumbers last → IsLawfulCopy last birth row → FitsCopy birth row
copy_fits last birth row numbers it =
    let publications = numbers.publications in
    let moment = numbers.moment in
    let publication = it.due.publication.1 in
    let arrived = it.due.arrived in
    record {
      session = it.due.session;
      place = it.due.place.1;
      publication = omega (arith, publications, publication);
      subscribe = subscribe_fits last.subscribes row.copy.id.cause numbers.subscribes it.cause;
      arrived = omega (arith, moment, arrived);
      order = order_fits row.copy.qos row.phase it.phase;
    }

retained_fits : (last : Last) (kept : RetainedMessage) → AreNumbers last → IsLawfulRetained last kept → FitsRetained kept
retained_fits last kept numbers it =
    let publications = numbers.publications in
    let moment = numbers.moment in
    let publication = it.publication.1 in
    let arrived = it.arrived in
    record { place = it.place.1; publication = omega (arith, publications, publication); arrived = omega (arith, moment, arrived) }

queue_fits : (last : Last) (s : Session) → AreNumbers last → IsLawfulSession last s → IsQueue s.birth s.queue
queue_fits last s numbers it = record {
  table = it.queue.table;
  each = each_too (IsLawfulCopy last s.birth) (FitsCopy s.birth) s.queue (λ row own. copy_fits last s.birth row numbers own) it.queue.each;
}

-- lawful records may be put row by row
pub lawful_rows : (r : Records) → IsLawful r → AreRows r
lawful_rows r it = record {
  sessions = it.sessions.table.ascending;
  queues = each_too _ (λ (s : Session). IsQueue s.birth s.queue) r.sessions (λ s own. queue_fits _ s it.numbers own) it.sessions.each;
  retained = it.retained.table;
  topics = it.retained.topics;
  each = each_too _ FitsRetained r.retained (λ kept own. retained_fits _ kept it.numbers own) it.retained.each;
  shared = it.shared;
}
