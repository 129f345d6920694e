-- The broker is to send on a receiver's line, or loses it, while nobody is connected there: nothing is sent, and the receiver
-- leaves its line.
use Rattle.std.proofs.Common.{◌≡◌, ℕ, ◌⊎◌, List, [], ◌∷◌, ◌++◌, Option, Some, None, nat_eq, refl, sym, ap, subst, ◌∙◌, inl, inr}
use Rattle.std.specs.Prelude.{true}
use Rattle.std.proofs.lemmas.Bool.{eqb-true}
use Rattle.mqtt_base.specs.declared.session.CopyId.{CopyId}
use Rattle.mqtt_flow.specs.outbound.OutboundWorld.{Lot, World as Hop, break_line, start, step}
use Rattle.mqtt_world_model.specs.model.Ends.{Receiver}
use Rattle.mqtt_world_model.specs.model.Lines.{left}
use Rattle.mqtt_world_model.specs.model.Seats.{HasNobody, IsIdle}
use Rattle.mqtt_world_model.specs.model.World.{receiver_told}
use Rattle.mqtt_world_model.proofs.model_lemmas.others.Lists.{all_find}
use Rattle.mqtt_rules.specs.step.Closing.{close, close_connected}
use Rattle.mqtt_rules.specs.step.Deeds.{Deed, Gone, after, with_line}
use Rattle.mqtt_rules.specs.step.State.{Line as BrokerLine, Broker, Env, MemberChoice, line_at}
use Rattle.mqtt_rules.specs.step.Step.{Lost, Pump, at_moment, deeds_of, done, env_of, on_pump, outcome_of, stepped}
use Rattle.mqtt_rules.specs.declared.step.Capacity.{Capacity}
use Rattle.mqtt_world_laws.specs.receiver.Calls.{receiver_called}
use Rattle.mqtt_world_laws.specs.receiver.Handing.{IsRun, receiver_lost}
use Rattle.mqtt_world_laws.specs.receiver.Own.{IsAwaiting, IsInStep}
use Rattle.mqtt_world_laws.specs.receiver.Seen.{Numbering}
use Rattle.mqtt_world_laws.specs.receiver.Served.{IsServed, RunsFor}
use Rattle.mqtt_world_laws.proofs.receiver_lemmas.others.CallsOfOthers.{first_runs, told_all, told_run}
use Rattle.mqtt_world_laws.proofs.receiver_lemmas.others.Carried.{carried_run}
use Rattle.mqtt_world_laws.proofs.receiver_lemmas.others.LateConnect.{closing_goes_on, closing_runs, closing_served, shut}
use Rattle.mqtt_world_laws.proofs.receiver_lemmas.connects.OwnRefusals.{free_gone}
use Rattle.mqtt_world_laws.proofs.receiver_lemmas.connects.Refusals.{run_append}

-- ---- the deeds

-- a pump on an idle line does nothing
pub pump_none : (env : Env) (n : ℕ) (b : Broker) → IsIdle n b → deeds_of env (Pump n) b ≡ []
pump_none env n b idle = by (line_at n b) refl
  where
    by : (o : Option BrokerLine) → line_at n b ≡ o → with_line o (λ (l : BrokerLine). on_pump l l.session) b ≡ []
    by None e = refl
    by (Some l) e =
        let both = all_find (HasNobody n) (λ (x : BrokerLine). nat_eq x.number n) l b.lines idle.lines e in
        ap (λ (o : Option ℕ). on_pump l o b) (both.0 (eqb-true l.number n both.1))

lost_none : (env : Env) (n : ℕ) (b : Broker) → IsIdle n b → (deeds_of env (Lost n) b ≡ []) ⊎ (deeds_of env (Lost n) b ≡ Gone n ∷ [])
lost_none env n b idle = by (line_at n b) refl
  where
    by : (o : Option BrokerLine) → line_at n b ≡ o → (with_line o (close env true) b ≡ []) ⊎ (with_line o (close env true) b ≡ Gone n ∷ [])
    by None e = inl refl
    by (Some l) e =
        let both = all_find (HasNobody n) (λ (x : BrokerLine). nat_eq x.number n) l b.lines idle.lines e in
        let is = eqb-true l.number n both.1 in
        inr (ap (λ (o : Option ℕ). Gone l.number ∷ (close_connected env true o (after (Gone l.number) b) ++ [])) (both.0 is) ∙ ap (λ (k : ℕ). Gone k ∷ []) is)

-- the moment of a step leaves it idle
pub first_idle : (now n : ℕ) (b : Broker) → IsIdle n b → IsIdle n (at_moment now b)
first_idle now n b idle = record { lines = idle.lines; given = idle.given }

-- ---- the receiver leaves its line

left_run : (number : Numbering) (largest : ℕ) (copies : List Lot) (q : Receiver) (c : Broker) → IsRun number largest copies q c → IsRun number largest copies (record q { line = left q.line }) c
left_run number largest copies q c h = record {
  events = h.events ++ break_line ∷ [];
  seen_is = ap (λ (v : Hop). step largest v break_line) h.seen_is ∙ sym (run_append largest h.events (break_line ∷ []) start);
  queue_is = h.queue_is;
  numbered = h.numbered;
  tagged = record { down = tt; ledger = h.tagged.ledger; once = h.tagged.once };
}

left_for : (largest : ℕ) (ids : List CopyId) (birth : ℕ) (q : Receiver) (c : Broker) → RunsFor largest ids birth q c → RunsFor largest ids birth (record q { line = left q.line }) c
left_for largest ids birth q c f = λ number m.
    let h = f number m in
    record {
      after = h.after;
      same = h.same;
      run_is = left_run number largest h.after q c h.run_is;
      session = h.session;
      birth_is = h.birth_is;
      receiving = record { session = h.receiving.session; client = h.receiving.client; only = h.receiving.only; known = h.receiving.known };
    }

-- ---- in step

first_served : (client : List ℕ) (birth : ℕ) (ns : List ℕ) (now : ℕ) (b : Broker) → IsServed client birth ns b → IsServed client birth ns (at_moment now b)
first_served client birth ns now b v = record { sessions = v.sessions; lines = v.lines; births = v.births; given = v.given }

-- such a pump leaves the receiver in step
pub idle_pump_in_step : (largest : ℕ) (ids : List CopyId) (birth : ℕ) (ns : List ℕ) (limits : Capacity) (choice : MemberChoice) (now n : ℕ) (r : Receiver) (b : Broker)
    → IsInStep largest ids birth ns r b → IsIdle n b → IsInStep largest ids birth ns (receiver_called limits choice now (Pump n) r b) (stepped limits choice now (Pump n) b)
idle_pump_in_step largest ids birth ns limits choice now n r b k idle =
    let first = at_moment now b in
    let base : IsInStep largest ids birth ns (receiver_told first (outcome_of (Pump n) [] first) r) first = record {
      runs = λ number m. told_all number largest ids birth ns r (Pump n) [] first first k.lines tt (first_runs number largest ids birth r now b (k.runs number m));
      served = first_served r.client birth ns now b k.served;
      lines = record { own = k.lines.own; old = k.lines.old };
    } in
    subst (λ (ds : List Deed). IsInStep largest ids birth ns (receiver_told (done ds first) (outcome_of (Pump n) ds first) r) (done ds first)) (sym (pump_none (env_of limits choice b) n first (first_idle now n b idle))) base

-- so does the loss of such a line
pub idle_loss_in_step : (largest : ℕ) (ids : List CopyId) (birth : ℕ) (ns : List ℕ) (limits : Capacity) (choice : MemberChoice) (now n : ℕ) (r : Receiver) (b : Broker)
    → IsInStep largest ids birth ns r b → IsIdle n b → IsInStep largest ids birth ns (receiver_lost limits choice now n r b) (stepped limits choice now (Lost n) b)
idle_loss_in_step largest ids birth ns limits choice now n r b k idle =
    let first = at_moment now b in
    let there = first_idle now n b idle in
    let runs : RunsFor largest ids birth r first = λ number m. first_runs number largest ids birth r now b (k.runs number m) in
    let served = first_served r.client birth ns now b k.served in
    elim (lost_none (env_of limits choice b) n first there) [
      | inl none ↦
          let q = receiver_told first (outcome_of (Lost n) [] first) r in
          let told : RunsFor largest ids birth q first = λ number m. told_all number largest ids birth ns r (Lost n) [] first first k.lines tt (runs number m) in
          let base : IsInStep largest ids birth ns (record q { line = left q.line }) first = record {
            runs = left_for largest ids birth q first told;
            served = served;
            lines = record { own = λ m e. absurd cc; old = k.lines.old };
          } in
          subst (λ (ds : List Deed). let x = receiver_told (done ds first) (outcome_of (Lost n) ds first) r in IsInStep largest ids birth ns (record x { line = left x.line }) (done ds first)) (sym none) base
      | inr gone ↦
          let q = shut n r first in
          let c = after (Gone n) first in
          let base : IsInStep largest ids birth ns (record q { line = left q.line }) c = record {
            runs = left_for largest ids birth q c (closing_goes_on largest ids birth n r first there runs);
            served = closing_served r.client birth ns n first served;
            lines = record { own = λ m e. absurd cc; old = k.lines.old };
          } in
          subst (λ (ds : List Deed). let x = receiver_told (done ds first) (outcome_of (Lost n) ds first) r in IsInStep largest ids birth ns (record x { line = left x.line }) (done ds first)) (sym gone) base
    ]

-- ---- before its session begins

-- and the pump leaves it waiting
pub idle_pump_awaiting : (largest : ℕ) (ids : List CopyId) (ns : List ℕ) (limits : Capacity) (choice : MemberChoice) (now n : ℕ) (r : Receiver) (b : Broker)
    → IsAwaiting largest ids ns r b → IsIdle n b → IsAwaiting largest ids ns (receiver_called limits choice now (Pump n) r b) (stepped limits choice now (Pump n) b)
idle_pump_awaiting largest ids ns limits choice now n r b k idle =
    let first = at_moment now b in
    let base : IsAwaiting largest ids ns (receiver_told first (outcome_of (Pump n) [] first) r) first = record {
      runs = λ number m.
          let h = k.runs number m in
          record { after = h.after; same = h.same; run_is = told_run number largest h.after ns r (Pump n) [] first first k.lines tt (carried_run number largest h.after r b first refl refl h.run_is) };
      free = k.free;
      given = k.given;
      lines = record { own = k.lines.own; old = k.lines.old };
    } in
    subst (λ (ds : List Deed). IsAwaiting largest ids ns (receiver_told (done ds first) (outcome_of (Pump n) ds first) r) (done ds first)) (sym (pump_none (env_of limits choice b) n first (first_idle now n b idle))) base

-- so does the loss
pub idle_loss_awaiting : (largest : ℕ) (ids : List CopyId) (ns : List ℕ) (limits : Capacity) (choice : MemberChoice) (now n : ℕ) (r : Receiver) (b : Broker)
    → IsAwaiting largest ids ns r b → IsIdle n b → IsAwaiting largest ids ns (receiver_lost limits choice now n r b) (stepped limits choice now (Lost n) b)
idle_loss_awaiting largest ids ns limits choice now n r b k idle =
    let first = at_moment now b in
    let there = first_idle now n b idle in
    elim (lost_none (env_of limits choice b) n first there) [
      | inl none ↦
          let q = receiver_told first (outcome_of (Lost n) [] first) r in
          let base : IsAwaiting largest ids ns (record q { line = left q.line }) first = record {
            runs = λ number m.
                let h = k.runs number m in
                let told = told_run number largest h.after ns r (Lost n) [] first first k.lines tt (carried_run number largest h.after r b first refl refl h.run_is) in
                record { after = h.after; same = h.same; run_is = left_run number largest h.after q first told };
            free = k.free;
            given = k.given;
            lines = record { own = λ m e. absurd cc; old = k.lines.old };
          } in
          subst (λ (ds : List Deed). let x = receiver_told (done ds first) (outcome_of (Lost n) ds first) r in IsAwaiting largest ids ns (record x { line = left x.line }) (done ds first)) (sym none) base
      | inr gone ↦
          let q = shut n r first in
          let c = after (Gone n) first in
          let base : IsAwaiting largest ids ns (record q { line = left q.line }) c = record {
            runs = λ number m.
                let h = k.runs number m in
                let closed = closing_runs number largest h.after n r first there (carried_run number largest h.after r b first refl refl h.run_is) in
                record { after = h.after; same = h.same; run_is = left_run number largest h.after q c closed };
            free = free_gone ns n first.lines k.free;
            given = k.given;
            lines = record { own = λ m e. absurd cc; old = k.lines.old };
          } in
          subst (λ (ds : List Deed). let x = receiver_told (done ds first) (outcome_of (Lost n) ds first) r in IsAwaiting largest ids ns (record x { line = left x.line }) (done ds first)) (sym gone) base
    ]
