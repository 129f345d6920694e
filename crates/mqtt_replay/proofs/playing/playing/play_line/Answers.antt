use Rattle.std.proofs.Common.{inl, rules, sym, ◌∙◌}
use Rattle.std.proofs.lemmas.Result.{IfOk-weaker}
use Rattle.mqtt_replay.proofs.playing_lemmas.Shown.{event_line}
use Rattle.mqtt_replay.proofs.playing.playing.play_line.Goals as goal

pub returns-in-Ok-clause-ok : goal.returns-in-Ok-clause-ok
returns-in-Ok-clause-ok g c =
    let kept = c.if-is_passed_over.false in
    let is = c.in-Ok.ensures.read in
    IfOk-weaker c.play_event-played.result _ _
    (λ played shows. event_line g.P.Runs.play c.args.line.now _ c.args.script.now c.play_event-played.new.script _ _ played (sym c.is_passed_over.ensures ∙ kept) is shows)
    c.play_event-played.ensures.ok

pub returns-in_ok-bad-in-Err-NoEvent-clause-ok : goal.returns-in_ok-bad-in-Err-NoEvent-clause-ok
returns-in_ok-bad-in-Err-NoEvent-clause-ok g c = (
  (search rules, inl (c.in-Err-NoEvent.ensures.refused (search rules), c.in_ok-bad-in-Err-NoEvent.ensures.reason)),
  c.in_ok-bad-in-Err-NoEvent.ensures.number,
  c.in_ok-bad-in-Err-NoEvent.ensures.ok,
)
