-- By the drain of the first eligible members.
use Rattle.mqtt_world.proofs.script_drains_lemmas.Done.{leave_none, one_drain, script_empties}
use Rattle.mqtt_world.proofs.script_drains.laws.drains_of_a_script_empty_the_queue.Goals as goal

pub returns : goal.returns
returns c = record {
  empties = λ limits es client t w v after untouched comes h. script_empties limits es client w v untouched comes t after h;
  one = λ limits es client t u w v after other untouched comes h k. one_drain limits es client w v untouched comes t u after other h k;
  leave = λ limits es client turns w v untouched comes are unspent. leave_none limits es client w v untouched comes turns are unspent;
}
