use Rattle.std.proofs.Common.{rules, ap, ◌∙◌}
use Rattle.mqtt_link.specs.Links.{and_then}
use Rattle.mqtt_serve.proofs.turns_lemmas.Joined.{and_then_append, hears_all, said_more}
use Rattle.mqtt_serve.proofs.turns.connection.Connection.tell.Goals as goal

pub returns-else-is_err-clause-hears : goal.returns-else-is_err-clause-hears
returns-else-is_err-clause-hears g c =
    rw (← c.self.view_is) (hears_all _ _ _ _ (search rules) (said_more _ _ _ _ (search rules) (ap (and_then (g.L.Link.written c.self.inside.peer)) (search rules) ∙ and_then_append _ _ _)))
