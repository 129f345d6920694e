-- Whatever a broker sends that began on records with identifiers of two bytes has a spelling.
use Rattle.mqtt_rules.specs.step.Contents.{TakesLawful}
use Rattle.mqtt_rules.specs.step.State.{Broker}
use Rattle.mqtt_rules.specs.step.Step.{Call, NewLine, Input, BadInput, Lost, Pump, Tick}
use Rattle.mqtt_rules.specs.declared.step.Capacity.{Capacity}
use Rattle.mqtt_rules.specs.spelling.Sending.{SendsWell, TellsFault}
use Rattle.mqtt_rules.proofs.spelling_lemmas.Steps.{well_begun, well_reopened, well_spelled, well_stepped}
use Rattle.mqtt_world.specs.scene.Events.{IsReached, opens, opens_again, steps, SpellsAll, TakesPacket}

lawful : (call : Call) → TakesPacket call → TakesLawful call
lawful NewLine takes = tt
lawful (Input line packet) takes = takes
lawful (BadInput line is_connect code) takes = tt
lawful (Lost line) takes = tt
lawful (Pump line) takes = tt
lawful Tick takes = tt

tells : (call : Call) → TakesPacket call → TellsFault call
tells NewLine takes = tt
tells (Input line packet) takes = tt
tells (BadInput line is_connect code) takes = takes
tells (Lost line) takes = tt
tells (Pump line) takes = tt
tells Tick takes = tt

-- of each broker that can come to be, all packets have spellings
pub reached_well : (limits : Capacity) (b : Broker) → IsReached limits b → SendsWell b
reached_well limits _ (opens choice now r lawful_records phases unspent) = well_begun limits choice now r unspent lawful_records phases
reached_well limits _ (opens_again choice now b reached unspent) = well_reopened limits choice now b unspent (reached_well limits b reached)
reached_well limits _ (steps choice now call b reached takes unspent) =
    well_stepped limits choice now call b (record { taken = lawful call takes; tells = tells call takes; unspent = unspent }) (reached_well limits b reached)

-- so whatever it sends in a step is read as it was sent
pub spells_all : (limits : Capacity) → SpellsAll limits
spells_all limits choice now call b reached takes unspent =
    well_spelled limits choice now call b (record { taken = lawful call takes; tells = tells call takes; unspent = unspent }) (reached_well limits b reached)
