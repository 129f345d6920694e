use Rattle.std.proofs.Common.{◌≡◌, false, rules}
use Rattle.mqtt_broker.proofs.stored_lemmas.Called.{ready_indexed}
use Rattle.mqtt_broker.proofs.stored_lemmas.Finished.{of_sound_ready}
use Rattle.mqtt_broker.proofs.stored.parts.EngineParts.renew.Goals as goal

pub over-requires : goal.over-requires
over-requires g c =
    let s = c.args.self.now.step in
    ready_indexed s.limits s.broker (of_sound_ready s.limits s.broker c.requires.sound)

pub returns-then-not-self-clause-ok : goal.returns-then-not-self-clause-ok
returns-then-not-self-clause-ok g c = let fresh : c.args.self.now.is_stale ≡ false = search rules in c.requires.goes.serves fresh

pub returns-in-Ok-clause-ok : goal.returns-in-Ok-clause-ok
returns-in-Ok-clause-ok g c = rw c.keep_turns.ensures c.in-Ok.ensures.serves

pub returns-in-Ok-clause-rest : goal.returns-in-Ok-clause-rest
returns-in-Ok-clause-rest g c = record {
  rest = c.requires.rest;
  slim = c.requires.slim;
  sound = c.requires.sound;
  its = c.requires.its;
  goes = record { serves = λ fresh. rw c.keep_turns.ensures c.in-Ok.ensures.serves; quiet = c.requires.goes.quiet };
}
