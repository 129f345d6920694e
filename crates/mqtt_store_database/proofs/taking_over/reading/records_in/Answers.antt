use Rattle.sqlite.specs.Held.{state}
use Rattle.mqtt_store_rows.specs.taking_over.Tables.{rows_in}
use Rattle.mqtt_store_database.proofs.taking_over_lemmas.Loaded.{gives_none, fault_other}
use Rattle.mqtt_store_database.proofs.taking_over.reading.records_in.Goals as goal
use Rattle.mqtt_store_database.proofs.taking_over.reading.records_in.Goals.{in-Ok, in-Err}

pub returns-clause-err : goal.returns-clause-err
returns-clause-err g c clean schema settled is r has = elim c.match-read_all.branch [
  | in-Ok w ↦
      gives_none (state g.S.Store c.args.conn.now).now.trees (rows_in c.read_all.new.tables) (w.in-Ok.ensures.rows clean schema settled)
      (w.lawful_records_of-answer.ensures.err (rw w.answer-is at is)) r has
  | in-Err w ↦ fault_other w.fault_of.result w.fault_of.ensures.only (rw w.answer-is at is)
]
