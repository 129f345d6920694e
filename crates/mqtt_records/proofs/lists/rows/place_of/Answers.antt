use Rattle.std.proofs.Common.{◌≤◌, length, refl, sym, ap, subst, ◌∙◌}
use Rattle.std.proofs.lemmas.Option.{slice_get_read}
use Rattle.mqtt_records.specs.lists.Order.{IsAscending, front_len}
use Rattle.mqtt_records.proofs.lists_lemmas.OrderLemmas.{ascending_take, front_take}
use Rattle.mqtt_records.proofs.lists.rows.place_of.Goals as goal

pub place_in-requires : goal.place_in-requires
place_in-requires g c = subst (IsAscending g.R.Row.key_of) (sym c.first_rows.ensures) (ascending_take g.R.Row.key_of 32 c.args.rows.now c.requires)

pub returns-then-key : goal.returns-then-key
returns-then-key g c =
    let key = g.R.Row.key_of in
    let rows = c.args.rows.now in
    let row = c.index-rows-32.result in
    let there = slice_get_read rows (length rows) 32 row refl c.if-rows-gt-FRONT.true c.index-rows-32.is in
    let within : c.args.key ≤ key row = subst (λ n. c.args.key ≤ n) c.key.ensures c.if-key.true in
    c.place_in.ensures ∙ ap (front_len key c.args.key) c.first_rows.ensures ∙ front_take key c.args.key 32 rows row there within
