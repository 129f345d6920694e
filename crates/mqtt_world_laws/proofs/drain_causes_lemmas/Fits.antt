-- The copies of a receiver fit on its line: none was released as too large, and none is above what it takes (MQTT 5.0, 2.1.4,
-- 3.1.2.11.4).
use Rattle.std.proofs.Common.{◌≡◌, ℕ, true, List, [], ◌∷◌, map, Option, Some, None, nat_lt, refl, inl, sym, subst, arith}
use Rattle.std.specs.Prelude.{⊤}
use Rattle.std.specs.List.{AllByRecursion}
use Rattle.std.proofs.lemmas.Bool.{ltb-true}
use Rattle.mqtt_base.specs.declared.session.Phase.{Phase}
use Rattle.mqtt_base.specs.declared.session.Phase.TheVariants.{Waiting, Sent, Released, Oversize}
use Rattle.mqtt_flow.specs.outbound.OutboundWorld.{Lot, past, renewed, standing}
use Rattle.mqtt_flow.specs.declared.outbound.entry.Entry.{Entry as FlowEntry}
use Rattle.mqtt_records.specs.messages.Queue.{CopyRow}
use Rattle.mqtt_records.specs.declared.messages.message.MessageCopy.{MessageCopy}
use Rattle.mqtt_records.specs.state.Session.{birth_of}
use Rattle.mqtt_records.specs.declared.state.session.Session.{Session}
use Rattle.mqtt_rules.proofs.step_lemmas.fit.FitLaw.{all_among}
use Rattle.mqtt_rules.proofs.step_lemmas.acts.Leads.{row_among}
use Rattle.mqtt_rules.specs.step.Contents.{HasContentsOf, IsCopiedOf, of_rows}
use Rattle.mqtt_rules.specs.step.Laws.{IsAmong}
use Rattle.mqtt_rules.specs.step.State.{Broker, entry_on, queue_on, queued_copy}
use Rattle.mqtt_rules.specs.declared.step.Capacity.{Capacity}
use Rattle.mqtt_world_model.specs.model.Ends.{Receiver}
use Rattle.mqtt_world_model.specs.model.World.{World, receiver_named}
use Rattle.mqtt_world_laws.specs.receiver.Handing.{IsRun}
use Rattle.mqtt_world_laws.specs.receiver.Seen.{AreQueued, StandOn, lot_on, seen, still_standing, went_in}
use Rattle.mqtt_world_laws.proofs.receiver_lemmas.queue.Numbers.{place_of}
use Rattle.mqtt_world_laws.proofs.receiver_lemmas.drains.RoundFurther.{unsent_at}
use Rattle.mqtt_world_laws.proofs.receiver_lemmas.queue.Unsent.{AllUnsent, UnsentBy}
use Rattle.mqtt_world_laws.specs.delivery.Standing.{IsPlaced, IsSeen}
use Rattle.mqtt_world_laws.specs.receiver.Connecting.{any_size}
use Rattle.mqtt_world_laws.proofs.delivery_lemmas.others.Runs.{IsKept}
use Rattle.mqtt_world_laws.proofs.delivery_lemmas.others.Standings.{runs_so}
use Rattle.mqtt_world_laws.proofs.delivery_lemmas.own.Sizes.{is_small}
use Rattle.mqtt_world_laws.proofs.delivery_lemmas.own.Taking.{takes_there}
use Rattle.mqtt_world_laws.proofs.delivery_lemmas.contents.WayTags.{IsThere, own_there}
use Rattle.mqtt_world_laws.proofs.drain_causes_lemmas.OwnCalls.{HasFit}
use Rattle.mqtt_world_laws.proofs.drain_causes_lemmas.OwnEnds.{AreFit, IsFit, IsFitPhase}

-- ---- sizes: no packet has as many bytes as a receiver takes

above_none : (copy : MessageCopy) → IsCopiedOf of_rows copy → nat_lt any_size (queued_copy copy).size ≡ true → ⊥
above_none copy h above =
    let within = is_small copy h in
    let more = ltb-true any_size (queued_copy copy).size above in
    omega (arith, within, more)

-- ---- phases: one that was released as too large is above that

abbrev OverBy : Phase → ℕ → Type 0
OverBy Waiting size = ⊤
OverBy (Sent i) size = ⊤
OverBy (Released i order) size = ⊤
OverBy (Oversize i order) size = nat_lt any_size size ≡ true

abbrev IsOver : Lot → Type 0
IsOver (standing e m) = OverBy e.phase e.copy.size
IsOver (past ending e m) = ⊤

abbrev RowOver : CopyRow → Type 0
RowOver row = OverBy row.phase (queued_copy row.copy).size

over_so : (phase : Phase) (e : FlowEntry) → UnsentBy any_size e.copy phase e.here → OverBy phase e.copy.size
over_so Waiting e h = tt
over_so (Sent i) e h = tt
over_so (Released i order) e h = tt
over_so (Oversize i order) e h = h

stand_over : (lots : List Lot) → AllUnsent any_size lots → AllByRecursion IsOver (still_standing lots)
stand_over [] h = tt
stand_over (standing e m ∷ lots) h = (over_so e.phase e h.0, stand_over lots h.1)
stand_over (past ending e m ∷ lots) h = stand_over lots h.1

renewed_over : (lots : List Lot) → AllByRecursion IsOver lots → AllByRecursion IsOver (map renewed lots)
renewed_over [] h = tt
renewed_over (standing e m ∷ lots) h = (h.0, renewed_over lots h.1)
renewed_over (past ending e m ∷ lots) h = (tt, renewed_over lots h.1)

rows_over : (went : List ℕ) (rows : List CopyRow) → AllByRecursion IsOver (map (lot_on went) rows) → AllByRecursion RowOver rows
rows_over went [] h = tt
rows_over went (row ∷ rows) h = (h.0, rows_over went rows h.1)

queue_over : (lots : List Lot) (s : Session) (b : Broker) → AllUnsent any_size lots → AreQueued lots (Some s) b → AllByRecursion RowOver s.queue
queue_over lots s b unsent queued = by (went_in s.birth b) queued
  where
    by : (o : Option (List ℕ)) → StandOn lots s.queue o → AllByRecursion RowOver s.queue
    by None same = rows_over [] s.queue (subst (AllByRecursion IsOver) same (renewed_over (still_standing lots) (stand_over lots unsent)))
    by (Some went) same = rows_over went s.queue (subst (AllByRecursion IsOver) same (stand_over lots unsent))

-- ---- a receiver's copies

module _ (client : List ℕ) (limits : Capacity) where
  fit_row : (went : List ℕ) (row : CopyRow) → IsCopiedOf of_rows row.copy → RowOver row → IsFit ⊥ any_size row.phase (queued_copy row.copy).size
  fit_row went row copied over = record { released = by row.phase over; above = above_none row.copy copied }
    where
      by : (phase : Phase) → OverBy phase (queued_copy row.copy).size → IsFitPhase ⊥ phase
      by Waiting h = tt
      by (Sent i) h = tt
      by (Released i order) h = tt
      by (Oversize i order) h = above_none row.copy copied h

  fit_rows : (went : List ℕ) (rows : List CopyRow) → AllByRecursion (λ (row : CopyRow). IsCopiedOf of_rows row.copy) rows → AllByRecursion RowOver rows → AreFit ⊥ any_size (map (entry_on went) rows)
  fit_rows went [] copied over = tt
  fit_rows went (row ∷ rows) copied over = (fit_row went row copied.0 over.0, fit_rows went rows copied.1 over.1)

  -- a receiver's copies fit on its line, since contents are lawful wherever a run comes to
  pub its_fit : (w : World) (r : Receiver) → IsKept [] client limits w → receiver_named client w ≡ Some r → HasFit ⊥ r w.broker
  its_fit w r kept e n l birth s number at on there its =
      let b = w.broker in
      let st = kept.stands in
      let placed = subst (IsSeen any_size st.ids st.ns b) e st.standing.seen in
      let x = runs_so client any_size limits st.ids st.ns r w st.standing e in
      let largest : l.largest ≡ any_size = (takes_there client r n birth l w kept.fit.takes e number at on).1 in
      let has = all_among (HasContentsOf of_rows) s b.records.sessions kept.fit.well.sends.contents.stored.sessions (row_among birth_of birth s b.records.sessions there) in
      subst (λ (k : ℕ). AreFit ⊥ k (queue_on l.went s)) (sym largest) (fit_rows l.went s.queue has.queue (overs placed x.after x.run_is))
    where
      overs : IsPlaced any_size kept.stands.ids kept.stands.ns r w.broker → (lots : List Lot) → IsRun (place_of kept.stands.ids) any_size lots r w.broker → AllByRecursion RowOver s.queue
      overs placed lots run_is = of_queue s.queue refl
        where
          unsent : AllUnsent any_size lots
          unsent = unsent_at any_size (seen (place_of kept.stands.ids) lots r w.broker) (run_is.events, sym run_is.seen_is)

          of_queue : (rows : List CopyRow) → s.queue ≡ rows → AllByRecursion RowOver s.queue
          of_queue [] is = subst (AllByRecursion RowOver) (sym is) tt
          of_queue (row ∷ rows) is =
              let here : IsThere n row.copy.id w.broker = record {
                line = l;
                birth = birth;
                session = s;
                at = at;
                on = on;
                there = there;
                queued = record { row = row; among = subst (IsAmong row) (sym is) (inl refl); id_is = refl };
              }
              in
              queue_over lots s w.broker unsent (subst (λ (o : Option Session). AreQueued lots o w.broker) (own_there any_size kept.stands.ids kept.stands.ns r w.broker n row.copy.id placed number here) run_is.queue_is)
