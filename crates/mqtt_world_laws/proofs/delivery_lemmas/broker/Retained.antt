-- Over each event of the world: no two retained messages are of one publication (MQTT 5.0, 3.3.1.3).
use Rattle.std.proofs.Common.{◌≡◌, ◌≤◌, false, List}
use Rattle.mqtt_base.specs.declared.session.Cause.TheVariants.{Direct}
use Rattle.mqtt_base.specs.declared.session.CopyId.{CopyId}
use Rattle.mqtt_world_model.specs.model.Run.{Turn, read_at, setting, turned}
use Rattle.mqtt_world_model.specs.model.World.{World}
use Rattle.mqtt_rules.proofs.step_lemmas.numbers.Copies.{each_more, kinds}
use Rattle.mqtt_rules.specs.step.Deeds.{Deed}
use Rattle.mqtt_rules.specs.step.Laws.{AreWithin, IsCoherentMessage}
use Rattle.mqtt_rules.specs.step.State.{Broker}
use Rattle.mqtt_rules.specs.declared.step.Capacity.{Capacity}
use Rattle.mqtt_world_laws.specs.acceptance.Fair.{IsSteady}
use Rattle.mqtt_world_laws.specs.acceptance.Spending.{spending}
use Rattle.mqtt_world_laws.proofs.acceptance_lemmas.copies.Entries.{AreKept, call_counted, opening_counted}
use Rattle.mqtt_world_laws.proofs.acceptance_lemmas.copies.Walks.{Walk, turn_goes}
use Rattle.mqtt_world_laws.specs.delivery.Retaining.{AreRetainedOnce}

abbrev Keeps : List Deed → Broker → Broker → Type 0
Keeps ds b d = AreKept (kinds b.records) → AreKept (kinds d.records)

any_copy : CopyId
any_copy = record { publication = 0; birth = 0; cause = Direct }

keeps : (limits : Capacity) → Walk limits Keeps
keeps limits = record {
  none = λ b k. k;
  next = λ xs ys a b d p q k. q (p k);
  unlink = λ n b d h k. h k;
  link = λ n b d h k. h k;
  call = λ choice now call b s unspent k. (call_counted any_copy limits choice now call b s.coherent.ordered k).kept;
  open_again = λ choice now b s unspent k. (opening_counted any_copy limits choice now b s.coherent.ordered k).kept;
}

-- a turn keeps retained messages apart
pub turn_retains : (limits : Capacity) (t : Turn) (w : World) → AreWithin limits → IsSteady w.broker → read_at spending (setting limits t) t.event w ≡ false → AreRetainedOnce w.broker.records
    → AreRetainedOnce (turned limits t w).broker.records
turn_retains limits t w within steady unspent once =
    let r = w.broker.records in
    ((turn_goes Keeps limits (keeps limits) t w within steady unspent).said (record {
      given = each_more (IsCoherentMessage r.publications) (λ k. k.publication ≤ r.publications) (λ k q. q.0) r.retained steady.coherent.retained;
      differ = once;
    })).differ
