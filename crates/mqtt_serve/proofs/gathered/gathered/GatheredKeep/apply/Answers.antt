use Rattle.mqtt_records.specs.state.Records.{changed_all}
use Rattle.mqtt_serve.proofs.gathered_lemmas.Gathers.{gathers}
use Rattle.mqtt_serve.proofs.gathered_lemmas.Joins.{stands_for}
use Rattle.mqtt_serve.proofs.gathered.gathered.GatheredKeep.apply.Goals as goal

pub returns-clause-ok : goal.returns-clause-ok
returns-clause-ok g c = λ r h fit say same.
    stands_for g.K.Keep.holds c.args.self.now.keep c.push_rows.new.list.items c.join_last_all.new.list.items c.set_all.new.self (changed_all c.args.changes.now r) c.join_last_all.ensures
    (gathers g.K.Keep.holds c.args.self.now.keep c.args.self.now.changes.items c.args.changes.now c.push_rows.new.list.items c.args.self.now.counts c.set_all.new.self r h fit say same
    c.in_ok-push_rows.ensures.ok c.set_all.ensures)

pub returns-then-waiting-self-clause-ok : goal.returns-then-waiting-self-clause-ok
returns-then-waiting-self-clause-ok g c = λ r h fit say same.
    c.settle_long.ensures.ok (changed_all c.args.changes.now r)
    (stands_for g.K.Keep.holds c.args.self.now.keep c.push_rows.new.list.items c.join_last_all.new.list.items c.set_all.new.self (changed_all c.args.changes.now r) c.join_last_all.ensures
    (gathers g.K.Keep.holds c.args.self.now.keep c.args.self.now.changes.items c.args.changes.now c.push_rows.new.list.items c.args.self.now.counts c.set_all.new.self r h fit say same
    c.in_ok-push_rows.ensures.ok c.set_all.ensures))

pub returns-then-waiting-self-clause-crash : goal.returns-then-waiting-self-clause-crash
returns-then-waiting-self-clause-crash g c = λ r left h fit say same may.
    c.settle_long.ensures.crash (changed_all c.args.changes.now r) left
    (stands_for g.K.Keep.holds c.args.self.now.keep c.push_rows.new.list.items c.join_last_all.new.list.items c.set_all.new.self (changed_all c.args.changes.now r) c.join_last_all.ensures
    (gathers g.K.Keep.holds c.args.self.now.keep c.args.self.now.changes.items c.args.changes.now c.push_rows.new.list.items c.args.self.now.counts c.set_all.new.self r h fit say same
    c.in_ok-push_rows.ensures.ok c.set_all.ensures))
    may
