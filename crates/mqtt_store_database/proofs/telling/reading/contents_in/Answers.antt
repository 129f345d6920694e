use Rattle.std.proofs.Common.{subst}
use Rattle.std.proofs.lemmas.Result.{IfOk-weaker}
use Rattle.sqlite.specs.Held.{state}
use Rattle.mqtt_store_rows.specs.values.Lists.{AreRows}
use Rattle.mqtt_store_rows.proofs.values_lemmas.OneLemmas.{same_rows}
use Rattle.mqtt_records.specs.state.Telling.{contents_from}
use Rattle.mqtt_store_database.specs.telling.Said.{SaysCopyContent}
use Rattle.mqtt_store_database.proofs.telling_lemmas.Kept.{one_content, not_corrupt}
use Rattle.mqtt_store_database.proofs.telling_lemmas.Written.{rows_say}
use Rattle.mqtt_store_database.proofs.telling.reading.contents_in.Goals as goal

pub returns-in-Ok-clause-exact : goal.returns-in-Ok-clause-exact
returns-in-Ok-clause-exact g c making r clean schema has =
    let are = c.in-Ok.ensures.rows making r clean schema has in
    IfOk-weaker c.contents_of.result _ _ (λ all says. same_rows SaysCopyContent one_content c.in-Ok.rows.items all.items (contents_from c.args.birth c.args.place c.args.limit r) says are)
    (rw c.deref.ensures.value at c.contents_of.ensures.ok)

pub returns-in-Ok-clause-kept : goal.returns-in-Ok-clause-kept
returns-in-Ok-clause-kept g c making r clean schema has =
    let are = c.in-Ok.ensures.rows making r clean schema has in
    not_corrupt c.contents_of.result c.contents_of.ensures.fault (λ corrupt. c.contents_of.ensures.err corrupt (contents_from c.args.birth c.args.place c.args.limit r) (rw c.deref.ensures.value are))

pub returns-in-Ok-clause-written : goal.returns-in-Ok-clause-written
returns-in-Ok-clause-written g c making r clean schema order keeps in_births in_places =
    let is = c.in-Ok.ensures.written making r clean schema order keeps in_births in_places in
    IfOk-weaker c.contents_of.result _ _
    (λ all says. rows_say making (state g.S.Store c.args.conn.now).now.trees r keeps order c.args.birth c.args.place c.args.limit all.items (subst (λ l. AreRows SaysCopyContent l all.items) is says))
    (rw c.deref.ensures.value at c.contents_of.ensures.ok)
