use Rattle.std.proofs.Common.{◌≡◌, ◌∷◌, [], ◌++◌, ap, sym, subst, ◌∙◌}
use Rattle.std.specs.Prelude.{Some}
use Rattle.mqtt_records.specs.declared.state.records.Records.{Records}
use Rattle.mqtt_records.specs.declared.state.session.Session.{Session}
use Rattle.mqtt_records.specs.declared.state.change.Change.TheVariants.{RemoveCopy, PutCopy}
use Rattle.mqtt_records.specs.state.Records.{changed}
use Rattle.mqtt_rules.specs.step.State.{Broker, session_at}
use Rattle.mqtt_rules.specs.step.Laws.{HasTables}
use Rattle.mqtt_broker_step.specs.declared.undo.Undo.TheVariants.{Make}
use Rattle.mqtt_broker_step.specs.Undoing.{Changing, broker_of, become, with_records, with_change}
use Rattle.mqtt_broker_step.proofs.Backs.{left_back, left_none}
use Rattle.mqtt_broker_step.proofs.Journal.{change_is, same_is}
use Rattle.mqtt_broker_step.proofs.tables.Tables.take_copy.Goals as goal

pub returns-in-Some-clause-ok : goal.returns-in-Some-clause-ok
returns-in-Some-clause-ok c =
    let r : Records = c.self.inside.records in
    let b : Broker = broker_of r c.self.inside.lines c.self.inside.tellings c.self.inside.given c.self.inside.moment in
    let here : r ≡ c.args.self.now.broker.records = ap (λ (v : Changing). v.broker.records) c.self.view_is in
    let noted = rw c.unwrap.ensures at c.push.ensures.items in
    let kept : c.reserve.new.self.items ≡ c.self.inside.journal.items = c.reserve.ensures.items in
    let pushed : c.push.new.self.items ≡ c.self.inside.journal.items ++ Make (PutCopy c.args.birth c.in-Some.row) ∷ [] = cc in
    let rest : c.take_copy.new.self ≡ changed (RemoveCopy c.args.birth c.args.place) r = c.take_copy.ensures.rest in
    let tables = subst (λ (x : Records). (s : Session) → session_at c.args.birth x ≡ Some s → HasTables s) (sym here) c.requires in
    let back : changed (PutCopy c.args.birth c.in-Some.row) c.take_copy.new.self ≡ r =
    ap (changed (PutCopy c.args.birth c.in-Some.row)) rest
    ∙ left_back c.args.birth c.args.place c.in-Some.row r tables (sym c.in-Some.ensures.row) in
    change_is c.self.inside.journal.items c.push.new.self.items (Make (PutCopy c.args.birth c.in-Some.row)) b (with_records c.take_copy.new.self b) (with_change (RemoveCopy c.args.birth c.args.place) b)
    pushed (ap (λ (x : Records). with_records x b) back) (ap (λ (x : Records). with_records x b) rest)
    ∙ ap (λ (v : Changing). become (with_change (RemoveCopy c.args.birth c.args.place) v.broker) v) c.self.view_is

pub returns-in-None-clause-ok : goal.returns-in-None-clause-ok
returns-in-None-clause-ok c =
    let r : Records = c.self.inside.records in
    let b : Broker = broker_of r c.self.inside.lines c.self.inside.tellings c.self.inside.given c.self.inside.moment in
    let rest : c.take_copy.new.self ≡ changed (RemoveCopy c.args.birth c.args.place) r = c.take_copy.ensures.rest in
    let same : changed (RemoveCopy c.args.birth c.args.place) r ≡ r = left_none c.args.birth c.args.place r (sym c.in-None.ensures.row) in
    same_is c.self.inside.journal.items c.reserve.new.self.items b (with_records c.take_copy.new.self b) (with_change (RemoveCopy c.args.birth c.args.place) b)
    c.reserve.ensures.items (ap (λ (x : Records). with_records x b) (rest ∙ same)) (ap (λ (x : Records). with_records x b) rest)
    ∙ ap (λ (v : Changing). become (with_change (RemoveCopy c.args.birth c.args.place) v.broker) v) c.self.view_is
