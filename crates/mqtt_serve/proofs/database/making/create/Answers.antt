use Rattle.std.proofs.Common.{◌∙◌}
use Rattle.mqtt_serve.proofs.database_lemmas.Leaving.{is_clean, leaves_at_most_empty, leaves_empty, were_honest}
use Rattle.mqtt_serve.proofs.database.making.create.Goals as goal

pub returns-in-Ok-create-clause-made : goal.returns-in-Ok-create-clause-made
returns-in-Ok-create-clause-made g c honest =
    let now = c.close-in-Ok-create.result in
    let it = c.in-Ok-create.store in
    let made = c.in-Ok-create.ensures in
    let clean = is_clean it.pool now c.close-in-Ok-create.ensures honest in
    leaves_empty it now g.met.D.Disk.seen_may_stay c.close-in-Ok-create.ensures made.ready (made.schema ∙ c.in-Ok-new.ensures.schema) made.numbered
    ((made.kept clean).size ∙ c.in-Ok-new.ensures.size ∙ c.in-Ok.ensures.size ∙ c.page_size.ensures) honest

pub returns-in-Ok-create-clause-crash : goal.returns-in-Ok-create-clause-crash
returns-in-Ok-create-clause-crash g c honest =
    let now = c.close-in-Ok-create.result in
    let it = c.in-Ok-create.store in
    let clean = is_clean it.pool now c.close-in-Ok-create.ensures honest in
    leaves_at_most_empty c.in-Ok-new.unopened c.args.files now it.pool (c.in-Ok-new.ensures.files ∙ c.in-Ok.ensures.files)
    c.close-in-Ok-create.ensures (c.in-Ok-new.ensures.size ∙ c.in-Ok.ensures.size ∙ c.page_size.ensures) c.in-Ok-new.ensures.schema honest
    (c.in-Ok-create.ensures.kept clean)

pub returns-in-Ok-create-clause-honest : goal.returns-in-Ok-create-clause-honest
returns-in-Ok-create-clause-honest g c honest =
    let now = c.close-in-Ok-create.result in
    let clean = is_clean c.in-Ok-create.store.pool now c.close-in-Ok-create.ensures honest in
    were_honest c.in-Ok-new.unopened c.args.files (c.in-Ok-new.ensures.files ∙ c.in-Ok.ensures.files) (c.in-Ok-create.ensures.honest clean)

pub returns-in-Err-create-clause-crash : goal.returns-in-Err-create-clause-crash
returns-in-Err-create-clause-crash g c honest =
    let now = c.close-in-Err-create.result in
    let left = c.in-Err-create.left in
    let clean = is_clean left.pool now c.close-in-Err-create.ensures honest in
    leaves_at_most_empty c.in-Ok-new.unopened c.args.files now left.pool (c.in-Ok-new.ensures.files ∙ c.in-Ok.ensures.files)
    c.close-in-Err-create.ensures (c.in-Ok-new.ensures.size ∙ c.in-Ok.ensures.size ∙ c.page_size.ensures) c.in-Ok-new.ensures.schema honest
    (c.in-Err-create.ensures.unharmed clean)

pub returns-in-Err-create-clause-honest : goal.returns-in-Err-create-clause-honest
returns-in-Err-create-clause-honest g c honest =
    let now = c.close-in-Err-create.result in
    let clean = is_clean c.in-Err-create.left.pool now c.close-in-Err-create.ensures honest in
    were_honest c.in-Ok-new.unopened c.args.files (c.in-Ok-new.ensures.files ∙ c.in-Ok.ensures.files) (c.in-Err-create.ensures.falls clean)
