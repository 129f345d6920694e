-- Steps and openings of brokers that are alike, and runs of them.
use Rattle.std.proofs.Common.{◌≡◌, ℕ, Bool, true, false, cond, List, [], ◌∷◌, ◌++◌, length, Option, Some, None, nat_eq, refl, sym, ap, ap₂, subst, subst₂, inl, inr}
use Rattle.mqtt_base.specs.declared.limits.TheConstants.{PUMP_LIMIT}
use Rattle.mqtt_packet.specs.declared.codec.packet.Packet.{Packet}
use Rattle.mqtt_flow.specs.declared.outbound.entry.QueuedCopy.{QueuedCopy}
use Rattle.mqtt_flow.specs.declared.outbound.entry.Turn.{Turn}
use Rattle.mqtt_records.specs.declared.state.change.Change.{Change}
use Rattle.mqtt_records.specs.declared.state.records.Records.{Records}
use Rattle.mqtt_records.specs.declared.state.session.Session.{Session}
use Rattle.mqtt_records.specs.state.Records.{changed_all}
use Rattle.mqtt_rules.specs.declared.step.Capacity.{Capacity}
use Rattle.mqtt_rules.specs.declared.step.Report.TheVariants as reports
use Rattle.mqtt_rules.specs.step.Deeds.{Deed, Send, after_all, rows_of, rows_of_all, stored_after, output, closing, report}
use Rattle.mqtt_rules.specs.step.Fitting.{pump_turns}
use Rattle.mqtt_rules.specs.step.Inbound.{pump_deeds}
use Rattle.mqtt_rules.specs.step.Laws.{Event, Asked, Reopened, after_event, after_events}
use Rattle.mqtt_rules.specs.step.Outbound.{all_turn_deeds}
use Rattle.mqtt_rules.specs.step.State.{Line, Broker, MemberChoice}
use Rattle.mqtt_rules.specs.step.Step.{Call, NewLine, Input, BadInput, Lost, Pump, Tick, publish_out, is_none_done, is_again, outcome_of, told, deeds, at_moment, env_of, stamped, rows_written, with_moment, done, stepped, is_spent, is_step_spent, unopened, opening_deeds, opened}
use Rattle.mqtt_rules.specs.alike.Alike.{IsPump, Each, AlikeSessions, AlikeRecords, AlikeBrokers, AlikeDeeds, AlikePublishes, same, leaves, sends, AlikeOutputs, AlikeOutcomes, with_sessions}
use Rattle.mqtt_rules.proofs.alike_lemmas.Pairs.{Both, each_picked, picked_same}
use Rattle.mqtt_rules.proofs.alike_lemmas.States.{by_queue, by_sessions, by_broker, like, broker_put, records_put, rows_alike, changed_all_alike, all_after_alike}
use Rattle.mqtt_rules.proofs.alike_lemmas.Inputs.{pump_same}
use Rattle.mqtt_rules.proofs.alike_lemmas.Wires.{wires_alike}
use Rattle.mqtt_rules.proofs.alike_lemmas.Calls.{MayCall, call_alike, opening_alike}

module _ (P : Type 0) where
  -- ---- what is written

  rows_same : (d e : Deed) → AlikeDeeds P d e → (r o : Records) → AlikeRecords r o → rows_of d r ≡ rows_of e o
  rows_same d e k r o h = by_sessions (λ (x : Records). rows_of d r ≡ rows_of e x) r (rows_alike P d e k r) o h

  stored_alike : (d e : Deed) → AlikeDeeds P d e → (r o : Records) → AlikeRecords r o → AlikeRecords (stored_after d r) (stored_after e o)
  stored_alike d e k r o h =
      subst (λ (rows : List Change). AlikeRecords (stored_after d r) (changed_all rows o)) (rows_same d e k r o h) (changed_all_alike (rows_of d r) r o h)

  -- alike deeds write the same rows, one after the other
  pub all_rows_same : (ds es : List Deed) → Each (AlikeDeeds P) ds es → (r o : Records) → AlikeRecords r o → rows_of_all ds r ≡ rows_of_all es o
  all_rows_same [] [] k r o h = refl
  all_rows_same [] (e ∷ es) k r o h = absurd k
  all_rows_same (d ∷ ds) [] k r o h = absurd k
  all_rows_same (d ∷ ds) (e ∷ es) k r o h =
      ap₂ (λ (xs ys : List Change). xs ++ ys) (rows_same d e k.0 r o h) (all_rows_same ds es k.1 (stored_after d r) (stored_after e o) (stored_alike d e k.0 r o h))

  moment_alike : (rows : List Change) (b c : Broker) → AlikeBrokers b c → AlikeBrokers (with_moment rows b) (with_moment rows c)
  moment_alike [] b c h = h
  moment_alike (row ∷ rows) b c h = by_broker (λ (x : Broker). AlikeBrokers (with_moment (row ∷ rows) b) (with_moment (row ∷ rows) x)) b
      (λ ss k. record { rest = refl; records = record { rest = refl; sessions = k } }) c h

  done_alike : (ds es : List Deed) → Each (AlikeDeeds P) ds es → (b : Broker) (ss : List Session) → Each AlikeSessions b.records.sessions ss → AlikeBrokers (done ds b) (done es (like ss b))
  done_alike ds es k b ss h =
      let c = like ss b in
      subst (λ (rows : List Change). AlikeBrokers (done ds b) (with_moment rows (after_all es (like ss b)))) (all_rows_same ds es k b.records c.records (records_put b.records ss h))
      (moment_alike (rows_of_all ds b.records) (after_all ds b) (after_all es c) (all_after_alike P ds es k b c (broker_put b ss h)))

  -- ---- what is told

  report_same : (d e : Deed) → AlikeDeeds P d e → report d ≡ report e
  report_same d e (same p) = ap report p
  report_same d e (leaves l) = subst₂ (λ (x y : Deed). report x ≡ report y) (sym l.first) (sym l.second)
      (ap (λ (c : QueuedCopy). Some (reports.Ended c.id l.who.client l.ending)) l.rows.copy.seen)
  report_same d e (sends m l) = subst₂ (λ (x y : Deed). report x ≡ report y) (sym l.first) (sym l.second) refl

  closing_same : (d e : Deed) → AlikeDeeds P d e → closing d ≡ closing e
  closing_same d e (same p) = ap closing p
  closing_same d e (leaves l) = subst₂ (λ (x y : Deed). closing x ≡ closing y) (sym l.first) (sym l.second) refl
  closing_same d e (sends m l) = subst₂ (λ (x y : Deed). closing x ≡ closing y) (sym l.first) (sym l.second) refl

  sent_same : (n : ℕ) (p q : Packet) → AlikePublishes p q → publish_out (Send n p) ≡ publish_out (Send n q)
  sent_same n p q l = subst₂ (λ (x y : Packet). publish_out (Send n x) ≡ publish_out (Send n y)) (sym l.first) (sym l.second) refl

  out_same : (d e : Deed) → AlikeDeeds P d e → publish_out d ≡ publish_out e
  out_same d e (same p) = ap publish_out p
  out_same d e (leaves l) = subst₂ (λ (x y : Deed). publish_out x ≡ publish_out y) (sym l.first) (sym l.second) refl
  out_same d e (sends m l) = subst₂ (λ (x y : Deed). publish_out x ≡ publish_out y) (sym l.first) (sym l.second) (sent_same l.line l.packet l.other_packet l.publishes)

  itself : (o : Option (ℕ × Packet)) → Both (AlikeOutputs P) o o
  itself None = tt
  itself (Some x) = (refl, inl refl)

  output_alike : (d e : Deed) → AlikeDeeds P d e → Both (AlikeOutputs P) (output d) (output e)
  output_alike d e (same p) = subst (λ (x : Deed). Both (AlikeOutputs P) (output d) (output x)) p (itself (output d))
  output_alike d e (leaves l) = subst₂ (λ (x y : Deed). Both (AlikeOutputs P) (output x) (output y)) (sym l.first) (sym l.second) tt
  output_alike d e (sends m l) = subst₂ (λ (x y : Deed). Both (AlikeOutputs P) (output x) (output y)) (sym l.first) (sym l.second) (refl, inr (m, l.publishes))

  none_same : (ds es : List Deed) → Each (AlikeDeeds P) ds es → is_none_done ds ≡ is_none_done es
  none_same [] [] k = refl
  none_same [] (e ∷ es) k = absurd k
  none_same (d ∷ ds) [] k = absurd k
  none_same (d ∷ ds) (e ∷ es) k = refl

  again_same : (call : Call) (ds es : List Deed) → Each (AlikeDeeds P) ds es → is_again call ds ≡ is_again call es
  again_same NewLine ds es k = refl
  again_same (Input n packet) ds es k = refl
  again_same (BadInput n is_connect code) ds es k = refl
  again_same (Lost n) ds es k = refl
  again_same (Pump n) ds es k = ap (λ (ns : List ℕ). nat_eq (length ns) PUMP_LIMIT) (picked_same (AlikeDeeds P) publish_out out_same ds es k)
  again_same Tick ds es k = ap (λ (t : Bool). cond t false true) (none_same ds es k)

  -- alike deeds tell alike
  pub outcome_alike : (call : Call) (ds es : List Deed) (b c : Broker) → Each (AlikeDeeds P) ds es → AlikeBrokers b c → AlikeOutcomes P (outcome_of call ds b) (outcome_of call es c)
  outcome_alike call ds es b c k h = record {
    outputs = each_picked (AlikeDeeds P) (AlikeOutputs P) output output_alike ds es k;
    wires = wires_alike P ds es k b c h;
    closed = picked_same (AlikeDeeds P) closing closing_same ds es k;
    reports = picked_same (AlikeDeeds P) report report_same ds es k;
    taken = refl;
    again = again_same call ds es k;
  }

-- ---- steps

may_call : (call : Call) → MayCall (IsPump call) call
may_call NewLine = tt
may_call (Input n packet) = tt
may_call (BadInput n is_connect code) = tt
may_call (Lost n) = tt
may_call (Pump n) = tt
may_call Tick = tt

module _ (limits : Capacity) (choice : MemberChoice) (now : ℕ) where
  put_deeds : (call : Call) (b : Broker) (ss : List Session) → Each AlikeSessions b.records.sessions ss → Each (AlikeDeeds (IsPump call)) (deeds limits choice now call b) (deeds limits choice now call (like ss b))
  put_deeds call b ss h = (call_alike (IsPump call) (env_of limits choice b) ss call (may_call call)).does (at_moment now b) ss h

  -- a call does alike deeds on brokers that are alike
  pub deeds_alike : (call : Call) (b c : Broker) → AlikeBrokers b c → Each (AlikeDeeds (IsPump call)) (deeds limits choice now call b) (deeds limits choice now call c)
  deeds_alike call b c h = by_broker (λ (x : Broker). Each (AlikeDeeds (IsPump call)) (deeds limits choice now call b) (deeds limits choice now call x)) b (put_deeds call b) c h

  -- a step leaves alike brokers alike
  pub step_alike : (call : Call) (b c : Broker) → AlikeBrokers b c → AlikeBrokers (stepped limits choice now call b) (stepped limits choice now call c)
  step_alike call b c h = by_broker (λ (x : Broker). AlikeBrokers (stepped limits choice now call b) (stepped limits choice now call x)) b
      (λ ss k. done_alike (IsPump call) (deeds limits choice now call b) (deeds limits choice now call (like ss b)) (put_deeds call b ss k) (at_moment now b) ss k) c h

  -- a step on alike brokers tells alike
  pub told_alike : (call : Call) (b c : Broker) → AlikeBrokers b c → AlikeOutcomes (IsPump call) (told limits choice now call b) (told limits choice now call c)
  told_alike call b c h = by_broker (λ (x : Broker). AlikeOutcomes (IsPump call) (told limits choice now call b) (told limits choice now call x)) b
      (λ ss k. outcome_alike (IsPump call) call (deeds limits choice now call b) (deeds limits choice now call (like ss b)) (at_moment now b) (at_moment now (like ss b)) (put_deeds call b ss k) (broker_put (at_moment now b) ss k)) c h

  -- a step on alike brokers writes the same
  pub written_same : (call : Call) (b c : Broker) → AlikeBrokers b c
      → rows_written (deeds limits choice now call b) (at_moment now b) ≡ rows_written (deeds limits choice now call c) (at_moment now c)
  written_same call b c h = by_broker (λ (x : Broker). rows_written (deeds limits choice now call b) (at_moment now b) ≡ rows_written (deeds limits choice now call x) (at_moment now x)) b
      (λ ss k. ap (stamped (at_moment now b).now b.records.moment) (all_rows_same (IsPump call) (deeds limits choice now call b) (deeds limits choice now call (like ss b)) (put_deeds call b ss k) b.records (with_sessions ss b.records) (records_put b.records ss k))) c h

  -- a step is spent on both or on none
  pub spent_same : (call : Call) (b c : Broker) → AlikeBrokers b c → is_step_spent limits choice now call b ≡ is_step_spent limits choice now call c
  spent_same call b c h = ap is_spent (written_same call b c h)

  -- ---- openings

  -- an opening on alike records leaves alike brokers
  pub opened_alike : (r o : Records) → AlikeRecords r o → AlikeBrokers (opened limits choice now r) (opened limits choice now o)
  opened_alike r o h = by_sessions (λ (x : Records). AlikeBrokers (opened limits choice now r) (opened limits choice now x)) r
      (λ ss k. done_alike ⊥ (opening_deeds limits choice now r) (opening_deeds limits choice now (with_sessions ss r))
      ((opening_alike ⊥ (env_of limits choice (unopened now r)) ss).does (unopened now r) ss k) (unopened now r) ss k) o h

-- ---- runs

event_alike : (e : Event) (b c : Broker) → AlikeBrokers b c → AlikeBrokers (after_event e b) (after_event e c)
event_alike (Asked limits choice now call) b c h = step_alike limits choice now call b c h
event_alike (Reopened limits choice now) b c h = opened_alike limits choice now b.records c.records h.records

-- all events leave alike brokers alike
pub run_alike : (es : List Event) (b c : Broker) → AlikeBrokers b c → AlikeBrokers (after_events es b) (after_events es c)
run_alike [] b c h = h
run_alike (e ∷ es) b c h = run_alike es (after_event e b) (after_event e c) (event_alike e b c h)

-- ---- pumps

-- a pump takes the same turns in both
pub turns_same : (l : Line) (b c : Broker) (s t : Session) → AlikeBrokers b c → AlikeSessions s t → pump_turns l b s ≡ pump_turns l c t
turns_same l b c s t h k =
    by_broker (λ (x : Broker). pump_turns l b s ≡ pump_turns l x t) b
    (λ ss i. by_queue (λ (x : Session). pump_turns l b s ≡ pump_turns l b x) s (pump_same l b s) t k) c h

-- and each does them with its own contents
pub own_turns : (l : Line) (b c : Broker) (s t : Session) → AlikeBrokers b c → AlikeSessions s t → pump_deeds l c t ≡ all_turn_deeds b.now l.number t (pump_turns l b s)
own_turns l b c s t h k =
    ap₂ (λ (now : ℕ) (ts : List Turn). all_turn_deeds now l.number t ts) (sym (ap (λ (x : Broker). x.now) h.rest)) (sym (turns_same l b c s t h k))
