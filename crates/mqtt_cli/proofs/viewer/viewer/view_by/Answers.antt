use Rattle.std.proofs.Common.{◌<◌, Result, Ok, Err, OnOk, IfOk, length, arith, length-take}
use Rattle.std.proofs.lemmas.Result.{IfErr-weaker, IfOk-weaker, err_from_is_err_and}
use Rattle.std.proofs.KnownBytes.{Keeps-refl}
use Rattle.mqtt_cli.proofs.viewer_lemmas.Lines.{views_start, views_next, fed_next, front_of, views_end, views_fault, taken}
use Rattle.mqtt_cli.proofs.viewer.viewer.view_by.Goals as goal

-- what holds after Ok, and of its value
ok_and : {T E : Type 0} (r : Result T E) (A : Type 0) (P : T → Type 0) → OnOk r A → IfOk r P → IfOk r (λ x. A × P x)
ok_and (Ok x) A P a p = (a, p)
ok_and (Err e) A P a p = tt

pub loop-init : goal.loop-init
loop-init g c = views_start _ _ _ _ c.requires.start

pub returns-in-Err-2-clause-err : goal.returns-in-Err-2-clause-err
returns-in-Err-2-clause-err g c = λ n. front_of _ _ _ _ _ _ _ c.loop.invariant.so_far (Keeps-refl _)

pub returns-clause-err : goal.returns-clause-err
returns-clause-err g c = λ n. front_of _ _ _ _ _ _ _ c.loop.invariant.so_far (Keeps-refl _)

pub loop-preserved : goal.loop-preserved
loop-preserved g c =
    let lines = c.in_ok-fault.ensures in
    let drained = rw c.in_default.is at lines.drained in
    views_next _ _ _ _ _ _ _ _ _ _ c.loop.invariant (taken _ _ _ _ _ c.in-Ok.ensures.bound.0 c.in-Ok.ensures.bytes.0) lines.lines drained

pub returns-in_err-fault-clause-err : goal.returns-in_err-fault-clause-err
returns-in_err-fault-clause-err g c =
    let p = err_from_is_err_and c.from_residual.result c.from_residual.ensures.1 in
    rw (p.1, p.2) (λ n. front_of _ _ _ _ _ _ _ c.loop.invariant.so_far (c.in_err-fault.ensures.memory n))

pub returns-in_err-write_fault-clause-err : goal.returns-in_err-write_fault-clause-err
returns-in_err-write_fault-clause-err g c =
    let p = err_from_is_err_and c.from_residual-in_err-write_fault.result c.from_residual-in_err-write_fault.ensures.1 in
    let lines = c.in_ok-fault.ensures in
    let so = fed_next _ _ _ _ _ _ _ _ _ _ c.loop.invariant.so_far (taken _ _ _ _ _ c.in-Ok.ensures.bound.0 c.in-Ok.ensures.bytes.0) lines.lines in
    rw (p.1, p.2) (λ n. front_of _ _ _ _ _ _ _ so (c.in_err-write_fault.ensures.memory n))

pub returns-in-Some-clause-ok : goal.returns-in-Some-clause-ok
returns-in-Some-clause-ok g c =
    let lines = c.in_ok-fault.ensures in
    let drained = rw c.in-Some.is at lines.drained in
    let so = fed_next _ _ _ _ _ _ _ _ _ _ c.loop.invariant.so_far (taken _ _ _ _ _ c.in-Ok.ensures.bound.0 c.in-Ok.ensures.bytes.0) lines.lines in
    views_fault _ _ _ _ _ _ _ _ _ so drained.0 drained.1 c.in_ok-write_fault.ensures.ok

pub returns-then-count-eq0-clause-ok : goal.returns-then-count-eq0-clause-ok
returns-then-count-eq0-clause-ok g c =
    let none = c.if-count-eq0.true in
    let room : 0 < length c.read.new.buf = omega (arith, c.read.auto.buf, length-take (c.min-room.result) c.loop.chunk) in
    let took = rw none at c.in-Ok.ensures.bytes.0 in
    IfOk-weaker c.end_view.result _ _
    (λ status both. views_end _ _ _ _ _ _ _ _ _ c.loop.invariant took (c.in-Ok.ensures.bytes.1 none room) both.0 both.1)
    (ok_and c.end_view.result _ _ c.end_view.ensures.ok c.end_view.ensures.status)

pub returns-then-count-eq0-clause-err : goal.returns-then-count-eq0-clause-err
returns-then-count-eq0-clause-err g c =
    IfErr-weaker c.end_view.result _ _
    (λ fault keeps n. front_of _ _ _ _ _ _ _ c.loop.invariant.so_far (keeps n))
    c.end_view.ensures.memory
