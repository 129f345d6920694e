-- Copies were handed over once in one world as in the other.
use Rattle.std.proofs.Common.{List, [], ◌∷◌}
use Rattle.std.specs.Prelude.{All}
use Rattle.std.specs.List.{AllByRecursion}
use Rattle.std.proofs.lemmas.List.Elements.{All-from_recursion, All-weaker, recursion_from_All}
use Rattle.mqtt_base.specs.declared.session.CopyId.{CopyId}
use Rattle.mqtt_base.specs.declared.session.Qos.{Qos}
use Rattle.mqtt_base.specs.declared.session.Qos.TheVariants.{AtMostOnce, AtLeastOnce, ExactlyOnce}
use Rattle.mqtt_topic.specs.names.Aliases.{AliasTable}
use Rattle.mqtt_rules.specs.declared.step.Capacity.{Capacity}
use Rattle.mqtt_rules.specs.step.State.{Telling}
use Rattle.mqtt_world_model.specs.model.Ends.{Receiver}
use Rattle.mqtt_world_model.specs.model.Laws.{AllHandedOnce, HandedOnce, IsTaken, WasTaken}
use Rattle.mqtt_world_model.specs.model.Lines.{Down}
use Rattle.mqtt_world_model.specs.model.Run.{Turn, ended_over}
use Rattle.mqtt_world_model.specs.model.Run as meant_run
use Rattle.mqtt_world_laws.specs.telling.AsSent.{Most, after}
use Rattle.mqtt_world_laws.specs.telling.Likewise.{AllReceiversAlike, AllSendTopics}
use Rattle.mqtt_world_laws.proofs.telling_lemmas.Ends.{by_receiver, receiver_with}
use Rattle.mqtt_world_laws.proofs.telling_lemmas.Runs.{likewise}

was_taken : (r : Receiver) (ms : List Down) (q : Qos) (c : CopyId) → WasTaken q c (receiver_with ms r) → WasTaken q c r
was_taken r ms AtMostOnce c h = h
was_taken r ms AtLeastOnce c h = h
was_taken r ms ExactlyOnce c h = h

module _ (limits : Capacity) (ts : List Turn) where
  abbrev Once : Receiver → Type 0
  Once = HandedOnce limits ts

  -- what is under way to a receiver is no part of what it was handed
  down_aside : (r : Receiver) (ms : List Down) → Once (receiver_with ms r) → Once r
  down_aside r ms h = record {
    tagged = h.tagged;
    once = h.once;
    in_order = h.in_order;
    released = h.released;
    taken = All-weaker (IsTaken (receiver_with ms r)) (IsTaken r) (λ e taken its since by. was_taken r ms e.qos e.copy (taken its since by)) (ended_over limits ts) h.taken;
    carried = h.carried;
  }

  each_handed : (most : Most) (told : List Telling) (rs : List Receiver) (ks : List AliasTable) (ms : List Receiver) → AllReceiversAlike most told rs ks ms
      → AllByRecursion Once ms → AllByRecursion Once rs
  each_handed most told [] ks ms h once = tt
  each_handed most told (r ∷ rs) (k ∷ ks) (m ∷ ms) h once = (
    by_receiver most told (λ (x : Receiver). Once x → Once r) r k m h.0 (λ downs d. down_aside r downs) once.0,
    each_handed most told rs ks ms h.1 once.1,
  )
  each_handed most told (r ∷ rs) [] ms h once = absurd h
  each_handed most told (r ∷ rs) (k ∷ ks) [] h once = absurd h

  -- to each receiver
  pub handed : (most : Most) → AllSendTopics limits ts → AllHandedOnce limits ts → All Once (after most limits ts).world.receivers
  handed most topics once =
      let s = after most limits ts in
      let w = meant_run.after limits ts in
      All-from_recursion Once s.world.receivers (each_handed most s.tellings s.world.receivers s.known w.receivers (likewise most limits ts topics).receivers (recursion_from_All Once w.receivers once))
