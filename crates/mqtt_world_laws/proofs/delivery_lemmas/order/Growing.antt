-- Copies only enter behind those that entered before.
use Rattle.std.proofs.Common.{List, [], ◌++◌, sym, ap, ◌∙◌, append-nil, append_assoc, refl}
use Rattle.mqtt_base.specs.declared.session.CopyId.{CopyId}
use Rattle.mqtt_world_laws.specs.delivery.Standing.{BeginWith}

-- a list begins with itself
pub begin_same : (ids : List CopyId) → BeginWith ids ids
begin_same ids = ([], sym (append-nil ids))

-- and with its front
pub begin_on : (ids more : List CopyId) → BeginWith ids (ids ++ more)
begin_on ids more = (more, refl)

-- one after the other
pub begin_then : (first ids all : List CopyId) → BeginWith first ids → BeginWith ids all → BeginWith first all
begin_then first ids all g h = (g.0 ++ h.0, h.1 ∙ (ap (λ (xs : List CopyId). xs ++ h.0) g.1 ∙ append_assoc first g.0 h.0))
