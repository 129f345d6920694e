use Rattle.std.proofs.Common.{sym, subst}
use Rattle.sqlite.specs.Held.{state}
use Rattle.mqtt_store_tables.specs.declared.schema.tables.Making.TheVariants.{New}
use Rattle.mqtt_store_database.specs.reading.Kept.{HasRecordsTwo}
use Rattle.mqtt_store_database.proofs.reading_lemmas.Begun.{new_second_has}
use Rattle.mqtt_store_database.proofs.reading.opening.new_second.Goals as goal

pub returns-in-Ok-create_second-clause-made : goal.returns-in-Ok-create_second-clause-made
returns-in-Ok-create_second-clause-made g c clean schema =
    let new = state g.S.Store c.create_second.new.conn in
    let made = c.in-Ok-create_second.ensures.ok clean schema in
    let left = c.in-Ok-create_second.ensures.committed clean in
    record {
      is_open = left.1;
      settled = record { committed = left.0; autocommit = c.create_second.ensures.autocommit };
      schema = made.schema;
      has = subst (HasRecordsTwo New new.now.trees) (sym c.in-Ok.ensures) (new_second_has new.now made);
    }
