-- A round of a drain of a receiver whose line and session stand: its session is connected on its line after it (MQTT 5.0, 4.3, 4.4).
use Rattle.std.proofs.Common.{◌≡◌, ℕ, false, List, [], ◌∷◌, ◌++◌, length, Some, None, refl, sym, ap, subst, ◌∙◌, inl, inr}
use Rattle.std.specs.Prelude.{is_some}
use Rattle.mqtt_world_model.specs.model.Ends.{Receiver}
use Rattle.mqtt_world_model.specs.model.Run.{run}
use Rattle.mqtt_world_model.specs.model.World.{World, publisher_named, receiver_named}
use Rattle.mqtt_rules.specs.step.State.{MemberChoice}
use Rattle.mqtt_rules.specs.declared.step.Capacity.{Capacity}
use Rattle.mqtt_world_laws.specs.acceptance.Spending.{run_spends}
use Rattle.mqtt_world_laws.specs.receiver.Drains.{after_round, all_to_broker, all_to_end, round_turns, times, ups_by}
use Rattle.mqtt_world_laws.proofs.receiver_lemmas.drains.DrainRuns.{run_append}
use Rattle.mqtt_world_laws.proofs.delivery_lemmas.drains.Drains.{round_carried}
use Rattle.mqtt_world_laws.proofs.delivery_lemmas.whole.EveryRun.{carried_append, spent_append}
use Rattle.mqtt_world_laws.proofs.delivery_lemmas.others.Runs.{IsKept, run_kept}
use Rattle.mqtt_world_laws.proofs.drains_lemmas.Whereabouts.{IsOn, MayEmpty, connected_of, on_may, where_is}
use Rattle.mqtt_world_laws.proofs.drains_lemmas.Sending.{sends, sent_on, sent_waits}
use Rattle.mqtt_world_laws.proofs.drains_lemmas.Reading.{read_on, read_waits}
use Rattle.mqtt_world_laws.proofs.drains_lemmas.Greeted.{greeted_is_on}
use Rattle.mqtt_world_laws.proofs.drains_lemmas.Answering.{back_on, reads_back}

module _ (c : List ℕ) (limits : Capacity) (choice : MemberChoice) where
  nobody : (w : World) → IsKept [] c limits w → (r : Receiver) → receiver_named c w ≡ Some r → publisher_named c w ≡ None
  nobody w kept r e = kept.stands.standing.around.alone (ap is_some e)

  -- the broker sends
  after_sending : (w : World) → IsKept [] c limits w → IsKept [] c limits (run limits (sends c limits choice ∷ []) w) → MayEmpty c w → MayEmpty c (run limits (sends c limits choice ∷ []) w)
  after_sending w kept later m = elim (where_is c limits w kept m.good) [
    | inl on ↦ on_may c limits (run limits (sends c limits choice ∷ []) w) later (sent_on c limits choice on.receiver.line.up w (connected_of c limits w kept on)).on
    | inr waits ↦ sent_waits c limits choice w waits (nobody w kept waits.receiver waits.named) m.session
  ]

  -- the receiver reads
  after_reading : (w : World) → IsKept [] c limits w → IsKept [] c limits (run limits (all_to_end choice c w) w) → MayEmpty c w → MayEmpty c (run limits (all_to_end choice c w) w)
  after_reading w kept later m = elim (where_is c limits w kept m.good) [
    | inl on ↦ on_may c limits (run limits (all_to_end choice c w) w) later (read_on c limits choice on.receiver.line.up w (connected_of c limits w kept on))
    | inr waits ↦ read_waits c limits choice w waits (nobody w kept waits.receiver waits.named) m.session
  ]

  -- the broker reads
  after_answers : (w : World) → IsKept [] c limits w → run_spends limits (all_to_broker choice c w) w ≡ false → MayEmpty c w → IsOn c (run limits (all_to_broker choice c w) w)
  after_answers w kept unspent m = elim (where_is c limits w kept m.good) [
    | inl on ↦
        let up = on.receiver.line.up in
        let many : ups_by (receiver_named c w) ≡ length up = ap ups_by on.named in
        let last = back_on c limits choice up w kept (subst (λ (k : ℕ). run_spends limits (times k (reads_back c limits choice)) w ≡ false) many unspent) (record { on = on; up_is = refl }) in
        subst (λ (k : ℕ). IsOn c (run limits (times k (reads_back c limits choice)) w)) (sym many) last
    | inr waits ↦
        let one : ups_by (receiver_named c w) ≡ 1 = ap ups_by waits.named ∙ ap length waits.up in
        subst (λ (k : ℕ). IsOn c (run limits (times k (reads_back c limits choice)) w)) (sym one) (greeted_is_on c limits choice w kept waits m.session (nobody w kept waits.receiver waits.named))
  ]

  -- after a round a receiver whose line and session stand has its session connected there
  pub round_on : (w : World) → IsKept [] c limits w → run_spends limits (round_turns limits choice c w) w ≡ false → MayEmpty c w → IsOn c (after_round limits choice c w)
  round_on w kept unspent m =
      let first = sends c limits choice ∷ [] in
      let sent = run limits first w in
      let ends = all_to_end choice c sent in
      let was = run limits ends sent in
      let last = all_to_broker choice c was in
      let costs = spent_append limits first (ends ++ last) w unspent in
      let costs2 = spent_append limits ends last sent costs.1 in
      let clean = carried_append limits first (ends ++ last) w (round_carried c limits choice w) in
      let clean2 = carried_append limits ends last sent clean.1 in
      let kept1 = run_kept [] c limits first w kept costs.0 clean.0 in
      let kept2 = run_kept [] c limits ends sent kept1 costs2.0 clean2.0 in
      let m1 = after_sending w kept kept1 m in
      let m2 = after_reading sent kept1 kept2 m1 in
      subst (IsOn c) (sym (run_append limits ends last sent)) (after_answers was kept2 costs2.1 m2)
