use Rattle.std.proofs.Common.{◌<◌, length, arith}
use Rattle.std.proofs.lemmas.Result.{IfErr-weaker, IfOk-weaker, err_from_is_err_and}
use Rattle.std.proofs.KnownBytes.{Keeps-refl}
use Rattle.mqtt_replay.proofs.playing_lemmas.Pieces.{bad_piece, fed_next, fed_start, front_end, front_kept, front_piece, shows_end}
use Rattle.mqtt_replay.proofs.playing.replaying.replay_by.Goals as goal

pub loop-init : goal.loop-init
loop-init g c = fed_start _ _ _ _ _ c.requires.start

pub returns-in-Err-2-clause-err : goal.returns-in-Err-2-clause-err
returns-in-Err-2-clause-err g c = λ n. front_kept _ _ _ _ _ _ _ _ _ c.loop.invariant (Keeps-refl _)

pub returns-clause-err : goal.returns-clause-err
returns-clause-err g c = λ n. front_kept _ _ _ _ _ _ _ _ _ c.loop.invariant (Keeps-refl _)

pub returns-then-count-eq0-clause-ok : goal.returns-then-count-eq0-clause-ok
returns-then-count-eq0-clause-ok g c =
    let none = c.if-count-eq0.true in
    let room : 0 < length c.read.new.buf = omega (arith, c.read.auto.buf, c.loop.auto.chunk, c.requires.room) in
    let took = rw none at c.in-Ok.ensures.bytes.0 in
    let end = c.in-Ok.ensures.bytes.1 none room in
    IfOk-weaker c.play_last.result _ _
    (λ played shows. shows_end _ _ _ _ _ _ _ _ _ _ played c.loop.invariant took end (rw c.as_slice.ensures.value at shows))
    c.play_last.ensures.ok

pub returns-then-count-eq0-clause-err : goal.returns-then-count-eq0-clause-err
returns-then-count-eq0-clause-err g c =
    let none = c.if-count-eq0.true in
    let room : 0 < length c.read.new.buf = omega (arith, c.read.auto.buf, c.loop.auto.chunk, c.requires.room) in
    let took = rw none at c.in-Ok.ensures.bytes.0 in
    let end = c.in-Ok.ensures.bytes.1 none room in
    IfErr-weaker c.play_last.result _ _
    (λ fault front n. front_end _ _ _ _ _ _ _ _ _ _ c.loop.invariant took end (rw c.as_slice.ensures.value at (front n)))
    c.play_last.ensures.err

pub returns-in_err-play_piece-clause-err : goal.returns-in_err-play_piece-clause-err
returns-in_err-play_piece-clause-err g c =
    let p = err_from_is_err_and c.from_residual.result c.from_residual.ensures.1 in
    let took = c.in-Ok.ensures.bytes.0 in
    rw (p.1, p.2) (λ n. front_piece _ _ _ _ _ _ _ _ _ _ _ c.loop.invariant took (c.in_err-play_piece.ensures.err n))

pub returns-in-Bad-clause-ok : goal.returns-in-Bad-clause-ok
returns-in-Bad-clause-ok g c =
    let took = c.in-Ok.ensures.bytes.0 in
    let shows = rw c.in-Bad.is at c.in_ok-play_piece.ensures.ok in
    bad_piece _ _ _ _ _ _ _ _ _ _ _ c.in-Bad.bad c.loop.invariant took shows

pub loop-preserved : goal.loop-preserved
loop-preserved g c =
    let took = c.in-Ok.ensures.bytes.0 in
    let feeds = rw c.in-Whole.is at c.in_ok-play_piece.ensures.ok in
    fed_next _ _ _ _ _ _ _ _ _ _ _ _ _ c.loop.invariant took feeds
