-- What the broker is asked for an end, be it a receiver itself, whatever is under way from it; and a stop after the commit of
-- that (MQTT 5.0, 3.1.4, 3.8.4, 4.1, 4.3, 4.4).
use Rattle.mqtt_base.specs.declared.session.CopyId.{CopyId}
use Rattle.std.proofs.Common.{◌≡◌, ℕ, false, List, [], ◌∷◌, map, Option, Some, None, refl, sym, ap, subst, ◌∙◌, inl, inr}
use Rattle.std.specs.Prelude.{drop, is_some}
use Rattle.mqtt_flow.specs.outbound.Receiver.{connect, puback, pubcomp, pubrec}
use Rattle.mqtt_world_model.specs.model.Ends.{Back, Publisher, Receiver, answers, asks_for, wire_back}
use Rattle.mqtt_world_model.specs.model.Run.{read_asked, read_first, read_opening}
use Rattle.mqtt_world_model.specs.model.World.{Asking, Setting, View, World, asks, break, calls_if, first_step, happens, input_on, is_bad_asking, old_to_broker, pump, receiver_named, stop_after, stranger, taken_old, taken_up, tick, to_broker, view_by, view_of}
use Rattle.mqtt_rules.specs.step.Flight.{HasDistinctIdentifiers}
use Rattle.mqtt_rules.specs.step.Step.{Call}
use Rattle.mqtt_world_laws.specs.acceptance.Spending.{spending}
use Rattle.mqtt_world_laws.proofs.acceptance_lemmas.publishers.Changes.{with_end}
use Rattle.mqtt_world_laws.specs.reading.Going.{GoesWell}
use Rattle.mqtt_world_laws.specs.delivery.Alone.{HaveSentNothing}
use Rattle.mqtt_world_laws.specs.delivery.Retaining.{AreRetainedOnce}
use Rattle.mqtt_world_laws.specs.delivery.Standing.{IsPlaced, IsSeen, Stands}
use Rattle.mqtt_world_laws.specs.receiver.Connecting.{any_size}
use Rattle.mqtt_world_laws.specs.delivery.Taking.{ItsLineTakes}
use Rattle.mqtt_world_laws.proofs.delivery_lemmas.others.Around.{on_back, on_line, own_stands, whose_name}
use Rattle.mqtt_world_laws.proofs.delivery_lemmas.others.Asking.{other_pumped, other_reads, other_reads_old}
use Rattle.mqtt_world_laws.proofs.delivery_lemmas.own.LateConnects.{old_connected_stands}
use Rattle.mqtt_world_laws.proofs.delivery_lemmas.others.Losses.{broken_stands}
use Rattle.mqtt_world_laws.proofs.delivery_lemmas.own.OldReplies.{old_answered_stands}
use Rattle.mqtt_world_laws.proofs.delivery_lemmas.own.OwnConnects.{connected_stands}
use Rattle.mqtt_world_laws.proofs.delivery_lemmas.own.Pumping.{sent_stands}
use Rattle.mqtt_world_laws.proofs.delivery_lemmas.own.Replies.{answered_stands}
use Rattle.mqtt_world_laws.proofs.delivery_lemmas.others.Restarts.{MayRestart, may_restart, restart_stands}
use Rattle.mqtt_world_laws.proofs.delivery_lemmas.others.Stops.{after_rests}
use Rattle.mqtt_world_laws.proofs.delivery_lemmas.others.Strangers.{stranger_stands}
use Rattle.mqtt_world_laws.proofs.delivery_lemmas.own.Taking.{takes_there}
use Rattle.mqtt_world_laws.proofs.delivery_lemmas.own.Sizes.{queue_fits}
use Rattle.mqtt_world_laws.proofs.delivery_lemmas.others.Ticks.{ticked_stands}
use Rattle.mqtt_world_laws.proofs.delivery_lemmas.own.Wishes.{old_wished_stands, wished_stands}

-- ---- nothing is under way from it: nothing is read

none_on : (o : Option ℕ) → input_on o [] ≡ None
none_on None = refl
none_on (Some n) = refl

module _ (first : List CopyId) (c : List ℕ) (largest : ℕ) (set : Setting) (r : Receiver) (w : World) (s : Stands first c largest set.limits w) (e : receiver_named c w ≡ Some r) where
  its_view : view_of c w ≡ view_by None (Some r)
  its_view = ap (λ (o : Option Publisher). view_by o (receiver_named c w)) (s.standing.around.alone (ap is_some e)) ∙ ap (λ (o : Option Receiver). view_by None o) e

  its_place : IsPlaced largest s.ids s.ns r w.broker
  its_place = subst (IsSeen largest s.ids s.ns w.broker) e s.standing.seen

  -- if nothing is under way on its line the receiver stands as before
  pub none_read : r.line.up ≡ [] → Stands first c largest set.limits (asks set (to_broker c) w)
  none_read none =
      let none_asked : input_on (view_of c w).number (view_of c w).up ≡ None = ap (λ (v : View). input_on v.number v.up) its_view ∙ (ap (λ (xs : List Back). input_on r.line.number (map (wire_back r.client r.window r.aliases) xs)) none ∙ none_on r.line.number) in
      let same : r.line.up ≡ drop 1 r.line.up = none ∙ sym (ap (drop 1) none) in
      let placed = subst (λ (xs : List Back). IsPlaced largest s.ids s.ns (record r { line = record r.line { up = xs } }) w.broker) same its_place in
      subst (λ (o : Option Call). Stands first c largest set.limits (calls_if set o with_up)) (sym none_asked)
      (record { ids = s.ids; grown = s.grown; ns = s.ns; standing = own_stands c largest set.limits s.ids s.ns w r (on_line taken_up) (on_back taken_up) (λ p. refl) (λ q. refl) e s.standing.around placed })
    where
      with_up : World
      with_up = with_end c (on_line taken_up) (on_back taken_up) w

  -- if nothing is under way on the line that it gave up the receiver stands as before
  pub none_read_old : r.line.old ≡ [] → Stands first c largest set.limits (asks set (old_to_broker c) w)
  none_read_old none =
      let none_asked : input_on (view_of c w).old_number (view_of c w).old ≡ None = ap (λ (v : View). input_on v.old_number v.old) its_view ∙ (ap (λ (xs : List Back). input_on r.line.old_number (map (wire_back r.client r.window r.aliases) xs)) none ∙ none_on r.line.old_number) in
      let same : r.line.old ≡ drop 1 r.line.old = none ∙ sym (ap (drop 1) none) in
      let placed = subst (λ (xs : List Back). IsPlaced largest s.ids s.ns (record r { line = record r.line { old = xs } }) w.broker) same its_place in
      subst (λ (o : Option Call). Stands first c largest set.limits (calls_if set o with_old)) (sym none_asked)
      (record { ids = s.ids; grown = s.grown; ns = s.ns; standing = own_stands c largest set.limits s.ids s.ns w r (on_line taken_old) (on_back taken_old) (λ p. refl) (λ q. refl) e s.standing.around placed })
    where
      with_old : World
      with_old = with_end c (on_line taken_old) (on_back taken_old) w

-- ---- what the laws of its own packets ask of the world, besides that it stands

-- what is asked of a world beside the receiver's place: what went out, identifiers, retained messages, what its line takes, and
-- that all goes well, so that what is stored is lawful
pub record IsFit (c : List ℕ) (w : World) : Type 0 where
  pub unused : HaveSentNothing w.broker
  pub distinct : HasDistinctIdentifiers w.broker.records
  pub once : AreRetainedOnce w.broker.records
  pub takes : ItsLineTakes c w
  pub well : GoesWell w

module _ (first : List CopyId) (c : List ℕ) (set : Setting) (w : World) (s : Stands first c any_size set.limits w) (fit : IsFit c w) where
  reads_own : (r : Receiver) → receiver_named c w ≡ Some r → read_first spending set (to_broker c) w ≡ false → Stands first c any_size set.limits (asks set (to_broker c) w)
  reads_own r e unspent = by r.line.up refl
    where
      by : (xs : List Back) → r.line.up ≡ xs → Stands first c any_size set.limits (asks set (to_broker c) w)
      by [] up = none_read first c any_size set r w s e up
      by (answers (connect clean) ∷ rest) up = connected_stands first c clean rest any_size set r w s e fit.unused up unspent
      by (answers (puback i code) ∷ rest) up = answered_stands first c (puback i code) rest any_size set r w s e tt up unspent
      by (answers (pubrec i code) ∷ rest) up = answered_stands first c (pubrec i code) rest any_size set r w s e tt up unspent
      by (answers (pubcomp i code) ∷ rest) up = answered_stands first c (pubcomp i code) rest any_size set r w s e tt up unspent
      by (asks_for x ∷ rest) up = wished_stands first c x rest any_size set r w s e up fit.once unspent

  reads_own_old : (r : Receiver) → receiver_named c w ≡ Some r → read_first spending set (old_to_broker c) w ≡ false → Stands first c any_size set.limits (asks set (old_to_broker c) w)
  reads_own_old r e unspent = by r.line.old refl
    where
      by : (xs : List Back) → r.line.old ≡ xs → Stands first c any_size set.limits (asks set (old_to_broker c) w)
      by [] old = none_read_old first c any_size set r w s e old
      by (answers (connect clean) ∷ rest) old = old_connected_stands first c clean rest any_size set r w s e fit.unused old unspent
      by (answers (puback i code) ∷ rest) old = old_answered_stands first c (puback i code) rest any_size set r w s e tt old unspent
      by (answers (pubrec i code) ∷ rest) old = old_answered_stands first c (pubrec i code) rest any_size set r w s e tt old unspent
      by (answers (pubcomp i code) ∷ rest) old = old_answered_stands first c (pubcomp i code) rest any_size set r w s e tt old unspent
      by (asks_for x ∷ rest) old = old_wished_stands first c x rest any_size set r w s e old fit.once unspent

  -- ---- whoever it is asked for

  reads_stands : (d : List ℕ) → read_first spending set (to_broker d) w ≡ false → Stands first c any_size set.limits (asks set (to_broker d) w)
  reads_stands d unspent = elim (whose_name c d w) [
    | inr not_its ↦ other_reads first c d any_size set w s not_its unspent
    | inl own ↦ subst (λ (x : List ℕ). Stands first c any_size set.limits (asks set (to_broker x) w)) (sym own.2) (reads_own own.0 own.1 (subst (λ (x : List ℕ). read_first spending set (to_broker x) w ≡ false) own.2 unspent))
  ]

  reads_old_stands : (d : List ℕ) → read_first spending set (old_to_broker d) w ≡ false → Stands first c any_size set.limits (asks set (old_to_broker d) w)
  reads_old_stands d unspent = elim (whose_name c d w) [
    | inr not_its ↦ other_reads_old first c d any_size set w s not_its unspent
    | inl own ↦ subst (λ (x : List ℕ). Stands first c any_size set.limits (asks set (old_to_broker x) w)) (sym own.2) (reads_own_old own.0 own.1 (subst (λ (x : List ℕ). read_first spending set (old_to_broker x) w ≡ false) own.2 unspent))
  ]

  sends_stands : (d : List ℕ) → read_first spending set (pump d) w ≡ false → Stands first c any_size set.limits (asks set (pump d) w)
  sends_stands d unspent = elim (whose_name c d w) [
    | inr not_its ↦ other_pumped first c d any_size set w s not_its unspent
    | inl own ↦ subst (λ (x : List ℕ). Stands first c any_size set.limits (asks set (pump x) w)) (sym own.2) (sent_stands first c any_size set own.0 w s own.1 fit.distinct (λ n l birth is at on. ((takes_there c own.0 n birth l w fit.takes own.1 is at on).1, queue_fits birth w.broker fit.well.sends.contents)) (subst (λ (x : List ℕ). read_first spending set (pump x) w ≡ false) own.2 unspent))
  ]

  -- whatever the broker is asked for, the receiver stands after it
  pub asked_stands : (a : Asking) → is_bad_asking a w ≡ false → read_asked spending set a w ≡ false → Stands first c any_size set.limits (asks set a w)
  asked_stands (to_broker d) good unspent = reads_stands d unspent
  asked_stands (old_to_broker d) good unspent = reads_old_stands d unspent
  asked_stands (break d) good unspent = broken_stands first c d any_size set w s unspent
  asked_stands (pump d) good unspent = sends_stands d unspent
  asked_stands tick good unspent = ticked_stands first c any_size set w s unspent
  asked_stands (stranger name bytes) good unspent = stranger_stands first c name bytes any_size set w s good unspent

  -- ---- the broker stops after the first step

  rests_after : (a : Asking) → is_bad_asking a w ≡ false → read_first spending set a w ≡ false → MayRestart first c any_size set.limits (first_step set a w)
  rests_after (to_broker d) good unspent = may_restart first c any_size set.limits (first_step set (to_broker d) w) (reads_stands d unspent)
  rests_after (old_to_broker d) good unspent = may_restart first c any_size set.limits (first_step set (old_to_broker d) w) (reads_old_stands d unspent)
  rests_after (pump d) good unspent = may_restart first c any_size set.limits (first_step set (pump d) w) (sends_stands d unspent)
  rests_after (break d) good unspent = after_rests first c (break d) any_size set w s tt good unspent
  rests_after tick good unspent = after_rests first c tick any_size set w s tt good unspent
  rests_after (stranger name bytes) good unspent = after_rests first c (stranger name bytes) any_size set w s tt good unspent

  -- a stop after the commit leaves the receiver standing
  pub stops_stand : (a : Asking) → is_bad_asking a w ≡ false → read_first spending set a w ≡ false → read_opening spending set (first_step set a w) ≡ false → Stands first c any_size set.limits (happens set (stop_after a) w)
  stops_stand a good unspent opens = restart_stands first c any_size set (first_step set a w) (rests_after a good unspent) opens
