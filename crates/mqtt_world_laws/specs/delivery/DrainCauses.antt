-- How a receiver's copies end in a drain, by what is under way from it at the start (MQTT 5.0, 3.1.2.4, 4.3, 4.4, 4.6).
use Rattle.std.specs.Prelude.{◌≡◌, ℕ, Bool, true, false, List, [], ◌∷◌, map, Option, Some, option_map, slice_get}
use Rattle.mqtt_flow.specs.outbound.OutboundWorld.{Lot, cut}
use Rattle.mqtt_flow.specs.outbound.Receiver.{connect, puback, pubrec, pubcomp}
use Rattle.mqtt_world_model.specs.model.Ends.{Back, Receiver, answers, asks_for}
use Rattle.mqtt_world_model.specs.model.World.{World, receiver_named}
use Rattle.mqtt_records.specs.lists.Distinct.{AllDiffer}
use Rattle.mqtt_world_laws.specs.receiver.Handing.{IsRun}
use Rattle.mqtt_world_laws.specs.receiver.Rounds.{EndsBy}
use Rattle.mqtt_world_laws.specs.receiver.Seen.{Numbering}
use Rattle.mqtt_world_laws.specs.receiver.Tags.{id_of}
use Rattle.mqtt_world_laws.specs.receiver.WorldRounds.{AsksOnce, EndsOrDrops}
use Rattle.mqtt_world_laws.specs.delivery.Standing.{BeginWith}
use Rattle.mqtt_world_laws.specs.receiver.Connecting.{any_size}

-- ---- the copies of a receiver

-- copies, no two the same, with which what it sees is a run of its hop; those that stand are its session's queue, in its order
pub record HasCopies (client : List ℕ) (w : World) : Type 0 where
  pub receiver : Receiver
  pub named : receiver_named client w ≡ Some receiver
  pub number : Numbering
  pub copies : List Lot
  pub differ : AllDiffer (map id_of copies)
  pub run_is : IsRun number any_size copies receiver w.broker

-- ---- how they end

-- what is under way from it: answers alone, or a CONNECT that resumes its session; a SUBSCRIBE too; a CONNECT with Clean Start
pub data Course : Type 0 where
  answering : Course
  asking : Course
  renewing : Course

abbrev pub course_of : List Back → Course
course_of [] = answering
course_of (asks_for w ∷ up) = asking
course_of (answers (connect true) ∷ up) = renewing
course_of (answers (connect false) ∷ up) = course_of up
course_of (answers (puback i code) ∷ up) = course_of up
course_of (answers (pubrec i code) ∷ up) = course_of up
course_of (answers (pubcomp i code) ∷ up) = course_of up

-- One that ends is taken, has expired at the moment of the drain already, or is too large; while a SUBSCRIBE is under way it may
-- have made way in a full queue, too; and by Clean Start each that stood has ended with its session
abbrev pub EndsAs : Course → ℕ → Option Lot → Option Lot → Type 0
EndsAs answering moment = EndsBy any_size (moment ∷ [])
EndsAs asking moment = EndsOrDrops any_size (moment ∷ [])
EndsAs renewing moment = λ before later. later ≡ option_map cut before

-- so end those that stood before, or stand still; some copies more may have entered behind them
pub record EndSo (client : List ℕ) (ends : Option Lot → Option Lot → Type 0) (w later : World) : Type 0 where
  pub before : HasCopies client w
  pub after : HasCopies client later
  pub grown : BeginWith (map id_of before.copies) (map id_of after.copies)
  pub each : (n : ℕ) → ends (slice_get before.copies n) (slice_get after.copies n)

-- ---- what is asked of the receiver

-- at most one SUBSCRIBE is under way from it, and while its CONNECT is, nothing is under way to it
pub record IsCalm (r : Receiver) : Type 0 where
  pub once : AsksOnce r.line.up
  pub quiet : (clean : Bool) → r.line.up ≡ answers (connect clean) ∷ [] → r.line.down ≡ []
