use Rattle.std.proofs.Common.{◌≡◌, ◌-◌, ◌∙◌, ap, length, rules, sym, take}
use Rattle.mqtt_serve.specs.gathered.Joining.{IsSentAt}
use Rattle.mqtt_serve.proofs.gathered_lemmas.Joins.{joined_at}
use Rattle.mqtt_serve.proofs.gathered.joins.join_last.Goals as goal

pub returns : goal.returns
returns c =
    let list = c.args.list.now.items in
    let sent : IsSentAt list c.in-Some.at c.in-Some.phase = search rules in
    let len = ap length (sym c.as_slice.ensures.value) ∙ c.as_slice.ensures.len in
    let left : c.pop.new.self.items ≡ take (length list - 1) list = c.pop.ensures.rest ∙ ap (λ n. take (n - 1) list) (sym len) in
    joined_at list c.pop.new.self.items c.in-Some.at c.in-Some.phase c.index_mut.result.now c.set_phase.new.change sent left c.index_mut.ensures.value c.set_phase.ensures
