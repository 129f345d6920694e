-- What a store answers a load with (MQTT 5.0, 3.3, 4.1).
use Rattle.std.specs.Prelude.{◌≡◌}
use Rattle.mqtt_records.specs.state.PassedOn.{StoresPassedOn}
use Rattle.mqtt_records.specs.state.Slim.{all_slim}
use Rattle.mqtt_records.specs.declared.state.records.Records.{Records}
use Rattle.mqtt_keep.specs.lawful.Lawful.{IsLawful}

-- what a load answers: rows that say nothing of waiting copies but their topics, of whole records that a store may be opened with.
-- A store has (held) and a crash leaves (left) some before it, and has some (stand) after it, by whose sound device it is said
pub record AreRead (held left stand : Records → Type 0) (sound : Type 0) (slim : Records) : Type 0 where
  pub whole : Records
  pub slim_is : slim ≡ all_slim whole
  -- they keep their rules, and their properties are such as publications pass on (3.3.2.3), whatever the device returned
  pub lawful : IsLawful whole
  pub passed : StoresPassedOn whole
  -- they are what it has, and what a crash would have left, while its device is sound
  pub exact : sound → (r : Records) → held r → whole ≡ r
  pub found : sound → left whole
  -- and it has them from then on
  pub stands : stand whole
