-- The broker reads what is under way from a receiver whose session is connected, answers and SUBSCRIBEs: it stays connected (MQTT
-- 5.0, 3.8, 4.3).
use Rattle.std.proofs.Common.{◌≡◌, ℕ, false, List, [], ◌∷◌, ◌++◌, length, Some, refl, sym, subst}
use Rattle.mqtt_world_model.specs.model.Ends.{Back, Receiver, Wish, answers, asks_for, wire_back}
use Rattle.mqtt_world_model.specs.model.Run.{Turn, read_at, run, setting, turned}
use Rattle.mqtt_world_model.specs.model.World.{Setting, World, ask, calls, receiver_named, receiver_told, taken_up, to_broker}
use Rattle.mqtt_rules.specs.step.State.{MemberChoice}
use Rattle.mqtt_rules.specs.step.Step.{Input, told}
use Rattle.mqtt_rules.specs.declared.step.Capacity.{Capacity}
use Rattle.mqtt_world_laws.specs.acceptance.Spending.{run_spends, spending}
use Rattle.mqtt_world_laws.proofs.acceptance_lemmas.publishers.Runs.{either}
use Rattle.mqtt_flow.specs.outbound.Receiver.{Answer}
use Rattle.mqtt_world_laws.specs.receiver.Drains.{times, turn_of}
use Rattle.mqtt_world_laws.specs.receiver.Served.{IsTidy}
use Rattle.mqtt_world_laws.proofs.receiver_lemmas.queue.Numbers.{place_of}
use Rattle.mqtt_world_laws.proofs.receiver_lemmas.drains.WorldRoundSteps.{is_linked_now}
use Rattle.mqtt_world_laws.proofs.receiver_lemmas.drains.WorldRoundWishes.{wish_at}
use Rattle.mqtt_world_laws.proofs.receiver_lemmas.drains.WorldRounds.{answers_one, back_is, receiver_called_is, receiver_changed, taken_off}
use Rattle.mqtt_world_laws.specs.receiver.Connecting.{any_size}
use Rattle.mqtt_world_laws.proofs.delivery_lemmas.others.Runs.{IsKept, turn_kept}
use Rattle.mqtt_world_laws.proofs.drains_lemmas.Whereabouts.{Connected, IsOn, IsOnWith, connected_of, on_again}

module _ (c : List ℕ) (limits : Capacity) (choice : MemberChoice) where
  abbrev pub reads_back : Turn
  reads_back = turn_of choice (ask (to_broker c))

  wish_on : (u : Wish) (rest : List Back) (w : World) → IsTidy limits w.broker → Connected c (asks_for u ∷ rest) w → IsOnWith c rest (turned limits reads_back w)
  wish_on u rest w tidy x =
      let set : Setting = record { limits = limits; choice = choice } in
      let number = place_of x.ids in
      let k = x.here.at.connected in
      let r = x.here.receiver in
      let n = k.line.number in
      let call = Input n (wire_back r.client r.window r.aliases (asks_for u)) in
      let before = taken_off limits choice c w in
      let later = calls set call before in
      let q = record r { line = taken_up r.line } in
      let y = wish_at number any_size x.window x.ids x.birth x.ns limits choice w.now u rest r w.broker k tidy x.told x.brings.0 x.here.up in
      let found : receiver_named c before ≡ Some q = receiver_changed c (λ (s : Receiver). record s { line = taken_up s.line }) r w.receivers (λ s. refl) x.here.named in
      let last = receiver_told later.broker (told limits choice w.now call w.broker) q in
      subst (IsOnWith c rest) (sym (back_is limits choice c w r n (asks_for u) rest x.here.named x.here.alone k.number x.here.up)) (record {
        on = record {
          receiver = last;
          named = receiver_called_is c set call before q found;
          linked = is_linked_now number any_size x.window (x.ids ++ y.more) x.birth x.ns last later.broker y.connected;
        };
        up_is = y.up;
      })

  answer_on : (a : Answer) (rest : List Back) (w : World) → Connected c (answers a ∷ rest) w → IsOnWith c rest (turned limits reads_back w)
  answer_on a rest w x = on_again (place_of x.ids) any_size x.window x.ids x.birth x.ns c rest _ (turned limits reads_back w) (answers_one limits choice c (place_of x.ids) any_size x.window x.ids x.birth x.ns a rest x.hop w x.here)

  one_on : (u : Back) (rest : List Back) (w : World) → IsTidy limits w.broker → Connected c (u ∷ rest) w → IsOnWith c rest (turned limits reads_back w)
  one_on (answers a) rest w tidy x = answer_on a rest w x
  one_on (asks_for u) rest w tidy x = wish_on u rest w tidy x

  -- all of it
  pub back_on : (up : List Back) (w : World) → IsKept [] c limits w → run_spends limits (times (length up) (turn_of choice (ask (to_broker c)))) w ≡ false → IsOnWith c up w → IsOn c (run limits (times (length up) (turn_of choice (ask (to_broker c)))) w)
  back_on [] w kept unspent x = x.on
  back_on (u ∷ rest) w kept unspent x =
      let later = turned limits reads_back w in
      let costs = either (read_at spending (setting limits reads_back) reads_back.event w) (run_spends limits (times (length rest) reads_back) later) unspent in
      let here : Connected c (u ∷ rest) w = subst (λ (up : List Back). Connected c up w) x.up_is (connected_of c limits w kept x.on) in
      back_on rest later (turn_kept [] c limits reads_back w kept refl costs.0) costs.1 (one_on u rest w kept.stands.standing.around.tidy here)
