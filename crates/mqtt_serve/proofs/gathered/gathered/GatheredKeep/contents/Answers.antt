use Rattle.mqtt_serve.proofs.gathered_lemmas.Gathers.{emptied, has_all, left_then}
use Rattle.mqtt_serve.proofs.gathered.gathered.GatheredKeep.contents.Goals as goal

pub returns-in-Ok-clause-exact : goal.returns-in-Ok-clause-exact
returns-in-Ok-clause-exact g c = λ r h.
    c.contents.ensures.exact r (has_all g.K.Keep.holds c.settle.new.self.keep c.settle.new.self.changes.items c.settle.new.self.counts r c.in-Ok.ensures.ok.1 (c.in-Ok.ensures.same r h))

pub returns-in-Ok-clause-memory : goal.returns-in-Ok-clause-memory
returns-in-Ok-clause-memory g c = λ r h is.
    let its = c.contents.ensures.memory r (has_all g.K.Keep.holds c.settle.new.self.keep c.settle.new.self.changes.items c.settle.new.self.counts r c.in-Ok.ensures.ok.1 (c.in-Ok.ensures.same r h)) is in
    (its.0, emptied g.K.Keep.holds c.contents.new.self c.settle.new.self.changes.items c.settle.new.self.counts r c.in-Ok.ensures.ok.1 its.1)

pub returns-in-Ok-clause-crash : goal.returns-in-Ok-clause-crash
returns-in-Ok-clause-crash g c = λ r left h may.
    left_then (g.K.Keep.leaves c.args.self.now.keep left) (g.K.Keep.leaves c.settle.new.self.keep left) r left
    (λ was. c.settle.ensures.crash r left h was)
    (c.contents.ensures.crash r left (has_all g.K.Keep.holds c.settle.new.self.keep c.settle.new.self.changes.items c.settle.new.self.counts r c.in-Ok.ensures.ok.1 (c.in-Ok.ensures.same r h)) may)
