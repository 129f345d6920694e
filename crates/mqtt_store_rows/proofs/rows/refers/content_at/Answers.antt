use Rattle.std.proofs.Common.{◌≡◌, sym, ap}
use Rattle.std.specs.Prelude.{Some}
use Rattle.mqtt_records.specs.declared.messages.message.Content.{Content}
use Rattle.mqtt_records.specs.lists.Order.{row_at}
use Rattle.mqtt_store_rows.specs.rows.Joins.{publication_of}
use Rattle.mqtt_store_rows.proofs.rows_lemmas.StandsLemmas.{stands_at}
use Rattle.mqtt_store_rows.proofs.rows.refers.content_at.Goals as goal

pub returns-in_ok-content-in-Some-clause-ok : goal.returns-in_ok-content-in-Some-clause-ok
returns-in_ok-content-in-Some-clause-ok c =
    let message = c.in-Some.message.now in
    let found : row_at publication_of c.args.publication c.args.messages.now ≡ Some message = sym c.in-Some.ensures in
    let is = c.in_ok-content-in-Some.ensures in
    stands_at c.args.messages.now c.args.publication message c.in_ok-content-in-Some.field-0 found
    (ap (λ (x : Content). x.topic) is) (ap (λ (x : Content). x.properties) is) (ap (λ (x : Content). x.payload) is)
