use Rattle.std.proofs.Common.{rules}
use Rattle.std.proofs.lemmas.Result.{err_from_is_err_and}
use Rattle.std.proofs.KnownBytes.{Keeps-refl}
use Rattle.mqtt_replay.proofs.playing_lemmas.Pieces.{step_bad, step_byte, step_front, step_line}
use Rattle.mqtt_replay.proofs.playing.replaying.play_piece.Goals as goal

pub returns-in_err-play_line-clause-err : goal.returns-in_err-play_line-clause-err
returns-in_err-play_line-clause-err g c =
    let p = err_from_is_err_and c.from_residual.result c.from_residual.ensures.1 in
    let (taken, all, feeds) = c.loop-byte.invariant in
    rw (p.1, p.2) (λ n. step_front _ _ _ taken c.loop-byte.rest.now _ _ _ _ _ _ all feeds (c.in_err-play_line.ensures.err n))

pub returns-in_err-push-clause-err : goal.returns-in_err-push-clause-err
returns-in_err-push-clause-err g c =
    let p = err_from_is_err_and c.from_residual-in_err-push.result c.from_residual-in_err-push.ensures.1 in
    let (taken, all, feeds) = c.loop-byte.invariant in
    rw (p.1, p.2) (λ n. step_front _ _ _ taken c.loop-byte.rest.now _ _ _ _ _ _ all feeds (Keeps-refl _))

pub returns-in-Bad-clause-ok : goal.returns-in-Bad-clause-ok
returns-in-Bad-clause-ok g c =
    let (taken, all, feeds) = c.loop-byte.invariant in
    let shows = rw c.in-Bad.is at c.in_ok-play_line.ensures.ok in
    step_bad _ _ _ taken c.loop-byte.rest.now c.in-Some.after.now _ c.in-Some.byte.now _ _ c.play_line.new.script _ _ _ c.in-Bad.bad all c.in-Some.ensures.cases.0 c.if-byte-eq10.true feeds
    (rw c.as_slice.ensures.value at shows)

pub loop-byte-preserved-in-Whole : goal.loop-byte-preserved-in-Whole
loop-byte-preserved-in-Whole g c =
    let (taken, all, feeds) = c.loop-byte.invariant in
    let shows = rw c.in-Whole.is at c.in_ok-play_line.ensures.ok in
    rw c.clear.ensures.items (step_line _ _ _ taken c.loop-byte.rest.now c.in-Some.after.now _ c.in-Some.byte.now _ _ c.play_line.new.script _ _ _ all c.in-Some.ensures.cases.0 c.if-byte-eq10.true feeds
    (rw c.as_slice.ensures.value at shows))

pub loop-byte-preserved : goal.loop-byte-preserved
loop-byte-preserved g c =
    let (taken, all, feeds) = c.loop-byte.invariant in
    rw c.in_ok-push.ensures.items (step_byte _ _ _ taken c.loop-byte.rest.now c.in-Some.after.now _ c.in-Some.byte.now _ _ _ _ all c.in-Some.ensures.cases.0 (search rules) feeds)
