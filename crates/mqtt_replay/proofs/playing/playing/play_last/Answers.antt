use Rattle.std.proofs.Common.{[]}
use Rattle.std.proofs.lemmas.Result.{err_from_is_err_and}
use Rattle.mqtt_replay.proofs.playing_lemmas.Shown.{front_line, front_none, shows_bad, shows_last}
use Rattle.mqtt_replay.proofs.playing.playing.play_last.Goals as goal

pub returns-in_err-play_line-clause-err : goal.returns-in_err-play_line-clause-err
returns-in_err-play_line-clause-err g c =
    let p = err_from_is_err_and c.from_residual.result c.from_residual.ensures.1 in
    rw (p.1, p.2) (λ n. front_none _ _ _ _ _ (c.in_err-play_line.ensures.err n))

pub returns-in_err-write_last-in-Whole-clause-err : goal.returns-in_err-write_last-in-Whole-clause-err
returns-in_err-write_last-in-Whole-clause-err g c =
    let p = err_from_is_err_and c.from_residual-in_err-write_last-in-Whole.result c.from_residual-in_err-write_last-in-Whole.ensures.1 in
    let shows = rw c.in-Whole.is at c.in_ok-play_line.ensures.ok in
    rw (p.1, p.2) (λ n. front_line _ _ [] _ c.play_line.new.script _ _ _ shows (c.in_err-write_last-in-Whole.ensures.err n))

pub returns-in_ok-write_last-in-Whole-clause-ok : goal.returns-in_ok-write_last-in-Whole-clause-ok
returns-in_ok-write_last-in-Whole-clause-ok g c =
    shows_last _ _ _ c.play_line.new.script _ _ _ (rw c.in-Whole.is at c.in_ok-play_line.ensures.ok) c.in_ok-write_last-in-Whole.ensures.ok

pub returns-in-Bad-clause-ok : goal.returns-in-Bad-clause-ok
returns-in-Bad-clause-ok g c = shows_bad _ _ [] _ c.play_line.new.script _ _ c.in-Bad.bad (rw c.in-Bad.is at c.in_ok-play_line.ensures.ok)
