use Rattle.std.proofs.Common.{subst, sym}
use Rattle.std.specs.Prelude.{List, ℕ}
use Rattle.mqtt_base.specs.Values.{IsVarInt}
use Rattle.mqtt_base.proofs.Varints.{varint_is}
use Rattle.mqtt_base.proofs.varint.varint_write.Goals as goal

pub returns-clause-lawful : goal.returns-clause-lawful
returns-clause-lawful c = subst (λ (v : List ℕ). IsVarInt c.args.value v) (sym c.groups_write.ensures.spelled) (varint_is c.args.value c.requires)
