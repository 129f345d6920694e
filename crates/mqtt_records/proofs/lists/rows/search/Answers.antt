use Rattle.std.proofs.Common.{◌<◌, ◌≤◌, length, sym, ◌∙◌, ap, arith}
use Rattle.std.proofs.lemmas.Option.{slice_get_within, get_or_from_slice_get}
use Rattle.mqtt_records.proofs.lists_lemmas.OrderLemmas.{found_is, missed_is}
use Rattle.mqtt_records.proofs.lists.rows.search.Goals as goal
use Rattle.mqtt_records.proofs.lists.rows.search.Goals.{else-place-rows-via-then-place-rows+else-key, else-place-rows-via-else-place-rows}

pub returns-then-key : goal.returns-then-key
returns-then-key g c =
    found_is g.R.Row.key_of c.args.key _ _ c.index-rows-place.result c.place_of-place.ensures c.if-place-rows.true c.index-rows-place.is (sym c.key.ensures ∙ c.if-key.true)

pub returns-else-place-rows : goal.returns-else-place-rows
returns-else-place-rows g c = elim c.else-place-rows.branch [
  | else-place-rows-via-then-place-rows+else-key w ↦
      missed_is g.R.Row.key_of c.args.key _ _ c.requires c.place_of-place.ensures
      (λ x there same. w.if-key.false (w.key.ensures ∙ (ap g.R.Row.key_of (w.index-rows-place.is ∙ get_or_from_slice_get c.args.rows.now c.place_of-place.result x w.index-rows-place.result there) ∙ same)))
  | else-place-rows-via-else-place-rows w ↦
      missed_is g.R.Row.key_of c.args.key _ _ c.requires c.place_of-place.ensures
      (λ x there same. let within : c.place_of-place.result < length c.args.rows.now = slice_get_within c.args.rows.now c.place_of-place.result x there in let past : length c.args.rows.now ≤ c.place_of-place.result = w.if-place-rows.false in absurd (omega (arith, within, past)))
]
