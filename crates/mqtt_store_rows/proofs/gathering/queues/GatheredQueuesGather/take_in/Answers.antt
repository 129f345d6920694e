use Rattle.std.proofs.Common.{◌≡◌, ◌∷◌, ◌++◌, [], Ok, true, false, sym, ap, subst, ◌∙◌}
use Rattle.sqlite_value.specs.Order.{Row}
use Rattle.mqtt_store_rows.specs.gathering.Queues.{Queues, HasTakenQueues}
use Rattle.mqtt_store_rows.proofs.gathering_lemmas.QueuesLemmas.{queues_at, taken_more, taken_none}
use Rattle.mqtt_store_rows.proofs.gathering.queues.GatheredQueuesGather.take_in.Goals as goal

pub returns-in_ok-push_back-clause-taken : goal.returns-in_ok-push_back-clause-taken
returns-in_ok-push_back-clause-taken c rows has =
    let here = c.self.inside in
    let new = c.read_on.new.self in
    let row = c.args.row.now in
    let part = c.push_back.new.self in
    let was : HasTakenQueues (queues_at here.reading here.retained false) rows = rw c.if-self.false at (subst (λ (g : Queues). HasTakenQueues g rows) (sym c.self.view_is) has) in
    let read : c.read_on.result ≡ Ok true = c.in_ok-read_on.was ∙ ap Ok c.if-branch.true in
    let is : part.items ≡ new.part.items ++ row ∷ [] = c.in_ok-push_back.ensures.items ∙ ap (λ (x : Row). new.part.items ++ x ∷ []) c.in_ok-copy.ensures in
    rw c.if-self.false (taken_more here.reading new here.retained rows row c.in_ok-read_on.ensures.same was (c.read_on.ensures.read read) part is)

pub returns-else-branch-clause-taken : goal.returns-else-branch-clause-taken
returns-else-branch-clause-taken c rows has =
    let here = c.self.inside in
    let was : HasTakenQueues (queues_at here.reading here.retained false) rows = rw c.if-self.false at (subst (λ (g : Queues). HasTakenQueues g rows) (sym c.self.view_is) has) in
    taken_none here.reading c.read_on.new.self here.retained rows c.args.row.now c.in_ok-read_on.ensures.same was (c.read_on.ensures.no (c.in_ok-read_on.was ∙ ap Ok c.if-branch.false))
