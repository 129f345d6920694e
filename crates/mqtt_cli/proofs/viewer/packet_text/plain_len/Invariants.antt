use Rattle.std.proofs.Common.{length}
use Rattle.mqtt_cli.proofs.viewer_lemmas.Texts.{PlainRun}
use Rattle.mqtt_cli.proofs.viewer.packet_text.plain_len.Given as goal

abbrev pub invariant-loop-first : goal.invariant-loop-first
invariant-loop-first l = PlainRun l.bytes l.len l.rest

abbrev pub decreases-loop-first : goal.decreases-loop-first
decreases-loop-first l = length l.rest
