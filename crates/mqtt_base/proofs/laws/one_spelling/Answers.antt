use Rattle.std.proofs.Common.{sym, ◌∙◌}
use Rattle.mqtt_base.proofs.Varints.{varint_is, varint_only}
use Rattle.mqtt_base.proofs.laws.one_spelling.Goals as goal

pub returns-clause-some : goal.returns-clause-some
returns-clause-some c = varint_is

pub returns-clause-below : goal.returns-clause-below
returns-clause-below c = λ n v is. (varint_only n v is).1

pub returns-clause-bytes : goal.returns-clause-bytes
returns-clause-bytes c = λ n v w is also. (varint_only n v is).0 ∙ sym (varint_only n w also).0

pub returns-clause-number : goal.returns-clause-number
returns-clause-number c = λ m n v is also. is.2 ∙ sym also.2
