use Rattle.std.proofs.Common.{◌≡◌, List, ap, sym, ◌∙◌}
use Rattle.std.specs.Prelude.{Some, None}
use Rattle.mqtt_base.specs.declared.limits.TheConstants.{RETAINED_LIMIT}
use Rattle.mqtt_records.specs.declared.messages.message.RetainedMessage.{RetainedMessage}
use Rattle.mqtt_records.specs.lists.Order.{put_row, remove_row, row_at}
use Rattle.mqtt_records.specs.declared.state.records.Records.{Records}
use Rattle.mqtt_records.specs.state.Records.{kept_place}
use Rattle.mqtt_broker_step.proofs.Inverse.{put_back, put_over}
use Rattle.mqtt_broker_step.proofs.retained.kept_back.Goals as goal

pub returns-in_ok-clone-in-Some : goal.returns-in_ok-clone-in-Some
returns-in_ok-clone-in-Some c =
    let r : Records = c.args.records.now in
    let kept : RetainedMessage = c.args.kept.now in
    let place : c.get.result.now.place ≡ kept.place = ap kept_place c.get.ensures in
    let found : row_at kept_place kept.place r.retained ≡ Some c.in-Some.before.now =
    ap (λ k. row_at kept_place k r.retained) (sym place) ∙ sym c.in-Some.ensures in
    let copy : c.in_ok-clone-in-Some.field-0 ≡ c.in-Some.before.now = c.in_ok-clone-in-Some.ensures.cases in
    ap (λ (xs : List RetainedMessage). record r { retained = xs })
    (ap (λ (x : RetainedMessage). put_row kept_place RETAINED_LIMIT x (put_row kept_place RETAINED_LIMIT kept r.retained)) copy
    ∙ put_over kept_place RETAINED_LIMIT kept c.in-Some.before.now r.retained c.in_order.ensures found)

pub returns-in-None : goal.returns-in-None
returns-in-None c =
    let r : Records = c.args.records.now in
    let kept : RetainedMessage = c.args.kept.now in
    let place : c.get.result.now.place ≡ kept.place = ap kept_place c.get.ensures in
    let none : row_at kept_place kept.place r.retained ≡ None = ap (λ k. row_at kept_place k r.retained) (sym place) ∙ sym c.in-None.ensures in
    ap (λ (xs : List RetainedMessage). record r { retained = xs })
    (ap (λ k. remove_row kept_place k (put_row kept_place RETAINED_LIMIT kept r.retained)) place
    ∙ put_back kept_place RETAINED_LIMIT kept r.retained c.in_order.ensures none)
