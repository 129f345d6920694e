use Rattle.std.proofs.Common.{rules, ◌≡◌, subst, sym}
use Rattle.std.specs.Prelude.{⊤, Err, Result, IfErr}
use Rattle.std.specs.Io.KnownBytes.{Keeps}
use Rattle.mqtt_serve.specs.declared.causes.cause.Cause.{Cause}
use Rattle.mqtt_serve.specs.causes.Causes.{IsOfSocket}
use Rattle.mqtt_serve.specs.serving.Announcing.{done}
use Rattle.mqtt_serve.proofs.serving_lemmas.Answered.{always, further, announced}
use Rattle.mqtt_serve.proofs.serving.serving.serve_file.Goals as goal

pub returns-clause-ok : goal.returns-clause-ok
returns-clause-ok g c = further c.write_done.result (announced _ _ _ done c.in-Ok.ensures.ok) c.write_done.ensures.ok

pub returns-clause-ran : goal.returns-clause-ran
returns-clause-ran g c = always c.write_done.result (record {
  opened = c.in_ok-conn.conn;
  left = c.in-Ok.conn;
  is_new = c.in_ok-conn.ensures.fresh;
  is_open = c.in_ok-conn.ensures.opened;
  found = c.in_ok-conn.ensures.found;
  runs = c.in-Ok.ensures.ran;
})

pub returns-in_err-close_database-clause-socket : goal.returns-in_err-close_database-clause-socket
returns-in_err-close_database-clause-socket g c =
    let is : c.from_residual-in_err-close_database.result ≡ Err c.in_err-close_database.field-0.0 = search rules in
    subst (λ (ended : Result ⊤ Cause). IfErr ended (λ cause. IsOfSocket cause
    → Keeps (g.W.Write.contents c.args.writer.now) (g.W.Write.contents c.serve_database.new.writer)))
    (sym is) (λ socket. absurd (c.in_err-close_database.ensures.store socket))
