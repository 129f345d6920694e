use Rattle.std.proofs.Common.{inr}
use Rattle.sqlite.specs.Held.{state}
use Rattle.mqtt_store_tables.specs.forms.Asking.{ask_text}
use Rattle.mqtt_store_tables.proofs.forms_lemmas.Said.{said}
use Rattle.mqtt_store_tables.proofs.forms_lemmas.Plain.{ask_shows}
use Rattle.mqtt_store_tables.proofs.forms_lemmas.Staying.{query_reads}
use Rattle.mqtt_store_tables.proofs.forms.asking.schema_said.Goals as goal

pub returns-in-Ok-clause-said : goal.returns-in-Ok-clause-said
returns-in-Ok-clause-said g c clean = said (state g.S.Store c.args.conn.now) (state g.S.Store c.query_all.new.self) c.number_of.result c.in-Ok.rows.items (rw c.as_slice.ensures.value at c.number_of.ensures) (c.in-Ok.ensures.ok clean)

pub returns-in-Err-SqlInputError-clause-said : goal.returns-in-Err-SqlInputError-clause-said
returns-in-Err-SqlInputError-clause-said g c clean = inr (_, c.in-Err-SqlInputError.ensures.err clean)

pub returns-in-Ok-clause-reads : goal.returns-in-Ok-clause-reads
returns-in-Ok-clause-reads g c =
    query_reads ask_text (state g.S.Store c.args.conn.now) (state g.S.Store c.query_all.new.self) (ask_shows _) c.query_all.result c.query_all.ensures.ok c.query_all.ensures.err c.query_all.ensures.mode c.query_all.ensures.survives

pub returns-in-Err-SqlInputError-clause-reads : goal.returns-in-Err-SqlInputError-clause-reads
returns-in-Err-SqlInputError-clause-reads g c =
    query_reads ask_text (state g.S.Store c.args.conn.now) (state g.S.Store c.query_all.new.self) (ask_shows _) c.query_all.result c.query_all.ensures.ok c.query_all.ensures.err c.query_all.ensures.mode c.query_all.ensures.survives

pub returns-in-Err : goal.returns-in-Err
returns-in-Err g c = record {
  said = λ _. tt;
  reads =
      query_reads ask_text (state g.S.Store c.args.conn.now) (state g.S.Store c.query_all.new.self) (ask_shows _) c.query_all.result c.query_all.ensures.ok c.query_all.ensures.err c.query_all.ensures.mode
      c.query_all.ensures.survives;
}
