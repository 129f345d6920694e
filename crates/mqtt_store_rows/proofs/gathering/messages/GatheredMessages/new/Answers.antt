use Rattle.std.proofs.Common.{true≢false, [], arith, sym}
use Rattle.mqtt_store_rows.proofs.gathering.messages.GatheredMessages.new.Goals as goal

pub returns-clause-begun : goal.returns-clause-begun
returns-clause-begun c = rw c.new.ensures record {
  read = λ sound. record { full = []; said = tt; table = record { ascending = tt; within = omega arith }; alike = tt };
  none = λ corrupt. absurd (true≢false (sym corrupt));
}
