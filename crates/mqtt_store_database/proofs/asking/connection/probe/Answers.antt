use Rattle.sqlite.specs.Held.{state}
use Rattle.mqtt_store_tables.proofs.forms_lemmas.Staying.{unchanged_stays}
use Rattle.mqtt_store_database.proofs.asking_lemmas.Probing.{not_run_stays}
use Rattle.mqtt_store_database.proofs.asking.connection.probe.Goals as goal

pub returns-in-Ok-clause-reads : goal.returns-in-Ok-clause-reads
returns-in-Ok-clause-reads g c = record {
  survives = c.prepare.ensures.survives;
  mode = c.prepare.ensures.mode;
  stays = λ clean. unchanged_stays _ _ (c.in-Ok.ensures.ok clean).1;
}

pub returns-in-Err-clause-reads : goal.returns-in-Err-clause-reads
returns-in-Err-clause-reads g c = record {
  survives = c.prepare.ensures.survives;
  mode = c.prepare.ensures.mode;
  stays = λ clean. not_run_stays _ (state g.S.Store c.args.conn.now) (state g.S.Store c.prepare.new.self) _ (c.in-Err.ensures.err clean);
}
