-- Runs from where nobody is, and from nothing stored (MQTT 5.0, 2.1.4, 2.2.1).
use Rattle.std.proofs.Common.{◌≡◌, false, List, refl}
use Rattle.mqtt_rules.specs.step.Laws.{AreWithin}
use Rattle.mqtt_rules.specs.declared.step.Capacity.{Capacity}
use Rattle.mqtt_world_model.specs.model.Run.{Turn, run}
use Rattle.mqtt_world_model.specs.model.World.{World, start}
use Rattle.mqtt_world_laws.specs.acceptance.Fair.{IsFair, IsNew}
use Rattle.mqtt_world_laws.specs.acceptance.Spending.{run_spends}
use Rattle.mqtt_world_laws.proofs.acceptance_lemmas.publishers.Runs.{start_new}
use Rattle.mqtt_rules.specs.spelling.Sending.{SendsWell}
use Rattle.mqtt_world_laws.specs.reading.Reading.{AllReadLawful}
use Rattle.mqtt_world_laws.specs.reading.UnderWay.{IsUninhabited, TakesAllUnderWay}
use Rattle.mqtt_world_laws.proofs.reading_lemmas.Goings.{GoesOn, goes_on, nobody_well, well_taken}

run_goes : (limits : Capacity) (ts : List Turn) (w : World) → IsNew w → SendsWell w.broker → IsFair limits ts w → GoesOn limits ts w
run_goes limits ts w new sends fair =
    goes_on limits ts w (nobody_well w (record { publishers = new.publishers; receivers = new.receivers; strangers = new.strangers }) sends) fair.unspent

-- in a fair run all that is read is lawful
pub reads_lawful : (limits : Capacity) (ts : List Turn) (w : World) → IsNew w → SendsWell w.broker → IsFair limits ts w → AllReadLawful limits ts w
reads_lawful limits ts w new sends fair = (run_goes limits ts w new sends fair).lawful

-- and the broker goes on sending well
pub sends_on : (limits : Capacity) (ts : List Turn) (w : World) → IsNew w → SendsWell w.broker → IsFair limits ts w → SendsWell (run limits ts w).broker
sends_on limits ts w new sends fair = (run_goes limits ts w new sends fair).going.sends

-- at first it sends well
pub start_sends : (limits : Capacity) → AreWithin limits → SendsWell start.broker
start_sends limits within = record {
  contents = record { stored = record { sessions = tt; retained = tt }; lines = tt };
  ordered = start_new.steady.coherent.ordered;
  phases = tt;
}

-- so in each run from the start all that is read is lawful
pub start_reads : (limits : Capacity) (ts : List Turn) → IsFair limits ts start → AllReadLawful limits ts start
start_reads limits ts fair = reads_lawful limits ts start start_new (start_sends limits fair.within) fair

-- ---- what is under way

-- the broker takes all that is under way from ends, wherever such a run has come to
pub under_way : (limits : Capacity) (ts : List Turn) (w : World) → IsUninhabited w → SendsWell w.broker → run_spends limits ts w ≡ false → TakesAllUnderWay (run limits ts w)
under_way limits ts w nobody sends unspent = well_taken (run limits ts w) (goes_on limits ts w (nobody_well w nobody sends) unspent).going

-- also from the start
pub start_under_way : (limits : Capacity) (ts : List Turn) → AreWithin limits → run_spends limits ts start ≡ false → TakesAllUnderWay (run limits ts start)
start_under_way limits ts within unspent = under_way limits ts start (record { publishers = refl; receivers = refl; strangers = refl }) (start_sends limits within) unspent
