-- Nothing is said before the first session.
use Rattle.std.proofs.Common.{inl, inr}
use Rattle.mqtt_records.specs.state.Records.{nothing}
use Rattle.mqtt_records.specs.state.Contents.{SharesContents}

-- so contents are shared there
pub nothing_shared : SharesContents nothing
nothing_shared m (inl it) = absurd it.2.1
nothing_shared m (inr it) = absurd it.1
