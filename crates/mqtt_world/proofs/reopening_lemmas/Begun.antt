-- What a broker wrote may begin a world, under whatever limits (MQTT 5.0, 2.2.1, 3.3.1.3, 4.1).
use Rattle.std.proofs.Common.{◌≡◌, ℕ, false, List}
use Rattle.mqtt_records.specs.declared.state.records.Records.{Records}
use Rattle.mqtt_rules.specs.step.Contents.{AreContentsLawful, of_rows}
use Rattle.mqtt_rules.specs.step.Laws.{AreWithin}
use Rattle.mqtt_rules.specs.step.State.{MemberChoice}
use Rattle.mqtt_rules.specs.step.Step.{is_opening_spent}
use Rattle.mqtt_rules.specs.declared.step.Capacity.{Capacity}
use Rattle.mqtt_broker_acts.proofs.calls_lemmas.Flights.{lawful_flight}
use Rattle.mqtt_rules.proofs.step_lemmas.contents.ContentLaw.{opening_contents}
use Rattle.mqtt_rules.proofs.step_lemmas.contents.LawfulContents.{lawful_contents}
use Rattle.mqtt_rules.proofs.step_lemmas.fit.LawfulRecords.{lawful_accepted, lawful_coherent}
use Rattle.mqtt_rules.proofs.step_lemmas.numbers.NumberCopies.{opening_accepted}
use Rattle.mqtt_rules.proofs.step_lemmas.contents.SpelledContents.{rows_are}
use Rattle.mqtt_world_laws.specs.acceptance.Fair.{MayOpen, opened_world}
use Rattle.mqtt_world_laws.proofs.acceptance_lemmas.copies.OnceRuns.{opened_apart}
use Rattle.mqtt_world_laws.specs.receiver.Drains.{Doing}
use Rattle.mqtt_world_laws.specs.delivery.Retaining.{AreRetainedOnce}
use Rattle.mqtt_world_laws.proofs.delivery_lemmas.broker.Untouched.{opened_untouched}
use Rattle.mqtt_world_laws.specs.headline.Delivery.{DoingsDeliver}
use Rattle.mqtt_world_laws.specs.headline.Lives.{BeginsWell, IsFairScript}
use Rattle.mqtt_world_laws.proofs.headline_lemmas.Delivered.{script_delivers}
use Rattle.mqtt_rules.specs.spelling.Sending.{HaveSentPhases, SendsWell}
use Rattle.mqtt_rules.proofs.spelling_lemmas.Steps.{well_begun}
use Rattle.mqtt_broker.specs.reopening.Written.{IsWritten}
use Rattle.mqtt_world.specs.reopening.Reached.{WasLeft}
use Rattle.mqtt_world.proofs.reopening_lemmas.Sending.{left_phases, left_written}
use Rattle.mqtt_broker.proofs.reopening_lemmas.Facts.{facts_of}
use Rattle.mqtt_broker.proofs.reopening_lemmas.ToldApart.{tells_apart}

-- what a broker wrote has each topic retained once
pub retained_once : (r : Records) → IsWritten r → AreRetainedOnce r
retained_once r w = w.publications

-- a world may begin on what a broker wrote, if identifiers of copies in flight have two bytes
pub written_begins : (limits : Capacity) (choice : MemberChoice) (now : ℕ) (r : Records) → AreWithin limits → IsWritten r → HaveSentPhases r → is_opening_spent limits choice now r ≡ false → BeginsWell limits (opened_world limits choice now r)
written_begins limits choice now r within w phases unspent =
    let lawful = w.lawful in
    let f = facts_of r w in
    let may : MayOpen limits choice now r = record { coherent = lawful_coherent r lawful; unspent = unspent } in
    record {
      untouched = opened_untouched limits choice now r within may (lawful_flight r lawful) (retained_once r w) (lawful_contents r lawful) phases;
      apart = opened_apart limits choice now r within may (tells_apart r f.identities f.bounds);
      numbers = opening_accepted limits choice now r (lawful_accepted r lawful);
    }

-- its contents are lawful
pub written_contents : (limits : Capacity) (choice : MemberChoice) (now : ℕ) (r : Records) → IsWritten r → AreContentsLawful (opened_world limits choice now r).broker
written_contents limits choice now r w = opening_contents of_rows rows_are limits choice now r (lawful_contents r w.lawful)

-- it sends well, if identifiers of copies in flight have two bytes
pub written_sends : (limits : Capacity) (choice : MemberChoice) (now : ℕ) (r : Records) → IsWritten r → HaveSentPhases r → is_opening_spent limits choice now r ≡ false → SendsWell (opened_world limits choice now r).broker
written_sends limits choice now r w phases unspent = well_begun limits choice now r unspent w.lawful phases

-- and what is played in it is delivered exactly once
pub written_delivers : (limits : Capacity) (choice : MemberChoice) (now : ℕ) (r : Records) (ds : List Doing) → AreWithin limits → IsWritten r → HaveSentPhases r → is_opening_spent limits choice now r ≡ false → IsFairScript limits ds (opened_world limits choice now r)
    → DoingsDeliver limits ds (opened_world limits choice now r)
written_delivers limits choice now r ds within w phases unspent fair = script_delivers limits ds (opened_world limits choice now r) (written_begins limits choice now r within w phases unspent) fair

-- ---- what a broker has left

-- a world may begin on it, whatever faults came on its lines
pub left_begins : (limits : Capacity) (choice : MemberChoice) (now : ℕ) (r : Records) → AreWithin limits → WasLeft r → is_opening_spent limits choice now r ≡ false → BeginsWell limits (opened_world limits choice now r)
left_begins limits choice now r within left unspent = written_begins limits choice now r within (left_written r left) (left_phases r left) unspent

-- and what is played in it is delivered exactly once
pub left_delivers : (limits : Capacity) (choice : MemberChoice) (now : ℕ) (r : Records) (ds : List Doing) → AreWithin limits → WasLeft r → is_opening_spent limits choice now r ≡ false → IsFairScript limits ds (opened_world limits choice now r)
    → DoingsDeliver limits ds (opened_world limits choice now r)
left_delivers limits choice now r ds within left unspent fair = script_delivers limits ds (opened_world limits choice now r) (left_begins limits choice now r within left unspent) fair
