use Rattle.std.proofs.Common.{refl}
use Rattle.sqlite_trees.specs.View.{doubt}
use Rattle.mqtt_store.proofs.laws.store_in_memory_is_sound.Goals as goal

-- (such a store shows as clean)
pub returns : goal.returns
unfolding doubt
returns c = λ keep. refl
