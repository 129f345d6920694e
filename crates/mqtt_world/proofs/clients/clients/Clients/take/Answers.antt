use Rattle.mqtt_world.proofs.clients.clients.Clients.take.Goals as goal

pub returns-then-old : goal.returns-then-old
returns-then-old c = λ set w. rw c.if-old.true (c.change.ensures w)

pub returns-else-old : goal.returns-else-old
returns-else-old c = λ set w. rw c.if-old.false (c.change-else-old.ensures w)
