use Rattle.std.proofs.Common.{◌≡◌, map, take, filter, ap, sym, ◌∙◌}
use Rattle.std.proofs.lemmas.List.{take-map}
use Rattle.std.proofs.lemmas.Result.{IfOk-weaker}
use Rattle.mqtt_records.specs.declared.state.session.Session.{Session}
use Rattle.mqtt_records.specs.state.Telling.{copy_content, is_from, queue_or_none, queue_at}
use Rattle.mqtt_records.proofs.state.telling.contents_in.Goals as goal

pub rows_from-requires : goal.rows_from-requires
rows_from-requires c = rw (← c.as_slice-queue.ensures.rows) at c.as_slice-queue.ensures.order

pub returns : goal.returns
returns c =
    let queue : c.as_slice-queue.result.now ≡ queue_at c.args.birth c.args.records.now =
    c.as_slice-queue.ensures.rows ∙ ap (λ (s : Session). s.queue) c.get-2.ensures ∙ ap queue_or_none c.in-Some.ensures in
    let rows = c.first_rows.ensures ∙ ap (take c.args.limit) (c.rows_from.ensures ∙ ap (filter (is_from c.args.place)) queue) in
    IfOk-weaker c.contents_of.result _ _ (λ all is. is ∙ ap (map copy_content) rows ∙ sym (take-map copy_content c.args.limit _)) c.contents_of.ensures
