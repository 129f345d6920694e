use Rattle.std.proofs.Common.{length}
use Rattle.mqtt_store_tables.proofs.forms.columns.+have_both.Given as goal

abbrev pub decreases-have_both : goal.decreases-have_both
decreases-have_both g l = length l.items.now
