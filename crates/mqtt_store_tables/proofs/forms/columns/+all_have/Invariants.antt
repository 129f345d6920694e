use Rattle.std.proofs.Common.{length}
use Rattle.mqtt_store_tables.proofs.forms.columns.+all_have.Given as goal

abbrev pub decreases-all_have : goal.decreases-all_have
decreases-all_have g l = length l.items.now
