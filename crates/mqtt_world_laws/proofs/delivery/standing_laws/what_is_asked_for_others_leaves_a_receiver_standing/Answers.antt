-- By calls on lines that are not the receiver's.
use Rattle.mqtt_world_laws.proofs.delivery_lemmas.others.Asking.{other_pumped, other_reads, other_reads_old}
use Rattle.mqtt_world_laws.proofs.delivery_lemmas.others.Strangers.{stranger_stands}
use Rattle.mqtt_world_laws.proofs.delivery.standing_laws.what_is_asked_for_others_leaves_a_receiver_standing.Goals as goal

pub returns : goal.returns
returns c = record {
  reads = λ first client name largest set w s other u. other_reads first client name largest set w s (λ there. other) u;
  reads_old = λ first client name largest set w s other u. other_reads_old first client name largest set w s (λ there. other) u;
  sends = λ first client name largest set w s other u. other_pumped first client name largest set w s (λ there. other) u;
  comes = stranger_stands;
}
