-- Each packet that is given leaves less to hold.
use Rattle.std.proofs.Common.{length}
use Rattle.bench_parts.proofs.framing.drain.Given as goal

abbrev pub decreases-packets : goal.decreases-packets
decreases-packets l = length l.framer.held
