use Rattle.std.proofs.Common.{sym, ◌∙◌}
use Rattle.mqtt_cli.proofs.viewer_lemmas.Texts.{run_more}
use Rattle.mqtt_cli.proofs.viewer.packet_text.plain_len.Goals as goal

pub loop-first-preserved : goal.loop-first-preserved
loop-first-preserved c =
    run_more c.args.bytes.now c.loop-first.len c.in-Some.first.now c.in-Some.after.now
    (rw c.in-Some.ensures.cases.0 at c.loop-first.invariant) (sym c.is_plain.ensures ∙ c.if-not-is_plain.false)
