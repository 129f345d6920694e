-- A new store of schema 2 has no records.
use Rattle.std.proofs.Common.{[], refl, arith}
use Rattle.sqlite.specs.Effect.{Database}
use Rattle.mqtt_records.specs.state.Records.{nothing}
use Rattle.mqtt_store_rows.specs.values.Rows.{SaysNumbers}
use Rattle.mqtt_store_rows.specs.values.Gives.{counters_of}
use Rattle.mqtt_store_tables.specs.schema.Creation.{IsNewSecond}
use Rattle.mqtt_store_tables.specs.declared.schema.tables.Making.TheVariants.{New}
use Rattle.mqtt_store_database.proofs.asking_lemmas.Loaded.{new_meta, meta_listed, empty_listed, nothing_lawful}
use Rattle.mqtt_store_rows.specs.rows.Gives.{Rows}
use Rattle.mqtt_store_database.specs.reading.Kept.{HasRecordsTwo}

abbrev new_rows : Rows
new_rows = record { meta = new_meta 2; sessions = []; wills = []; subscriptions = []; inbound = []; messages = []; queued = []; kept = [] }

new_numbers : SaysNumbers 2 (counters_of nothing) (new_meta 2)
new_numbers = (
  record { name = refl; value = refl; range = omega arith },
  record { name = refl; value = refl; range = omega arith },
  record { name = refl; value = refl; range = omega arith },
  record { name = refl; value = refl; range = omega arith },
  record { name = refl; value = refl; range = omega arith },
  record { name = refl; value = refl; range = omega arith },
)

-- a new store has no records
pub new_second_has : (db : Database) → IsNewSecond db → HasRecordsTwo New db.trees nothing
new_second_has db h = record {
  rows = new_rows;
  listed = record {
    shared = record {
      meta = meta_listed 2 db.trees h.meta_rows;
      sessions = empty_listed _ _ _ h.empty.0;
      wills = empty_listed _ _ _ h.empty.1.0;
      subscriptions = empty_listed _ _ _ h.empty.1.1.0;
      inbound = empty_listed _ _ _ h.empty.1.1.1.0;
    };
    added = record {
      messages = empty_listed _ _ _ h.empty.1.1.1.1.0;
      queued = empty_listed _ _ _ h.empty.1.1.1.1.1.0;
      kept = empty_listed _ _ _ h.empty.1.1.1.1.1.1.0;
    };
    old = tt;
  };
  gives = record {
    messages = [];
    said = tt;
    order = record { ascending = tt; within = omega arith };
    by = record { numbers = new_numbers; sessions = record { others = refl; queues = refl }; retained = tt };
    referred = tt;
  };
  lawful = nothing_lawful;
}
