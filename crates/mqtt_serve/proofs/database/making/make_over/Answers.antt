use Rattle.std.proofs.Common.{sym, subst, inl, inr}
use Rattle.sqlite.proofs.FileLemmas.{same_image}
use Rattle.mqtt_serve.specs.database.Making.{IsMissing}
use Rattle.mqtt_serve.proofs.database.making.make_over.Goals as goal

pub returns-in-Ok-true-clause-only : goal.returns-in-Ok-true-clause-only
returns-in-Ok-true-clause-only g c made honest =
    (c.in-Ok-true.ensures.found (c.create.ensures.honest honest)).0 c.in-Ok-true.field-0-test

pub returns-in-Ok-true-clause-same : goal.returns-in-Ok-true-clause-same
returns-in-Ok-true-clause-same g c honest there =
    absurd (there ((c.in-Ok-true.ensures.found (c.create.ensures.honest honest)).0 c.in-Ok-true.field-0-test))

pub returns-in-Ok-true-clause-crash : goal.returns-in-Ok-true-clause-crash
returns-in-Ok-true-clause-crash g c honest missing image may =
    let read = c.in-Ok-true.ensures.same in
    elim (c.create.ensures.crash honest (subst IsMissing (sym (same_image read.0 read.1)) missing) image may) [
      | inl was ↦ inl (read.0.crash _ was.0, read.1.crash _ was.1)
      | inr way ↦ inr way
    ]
