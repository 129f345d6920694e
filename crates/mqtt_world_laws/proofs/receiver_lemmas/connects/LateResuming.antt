-- The broker reads a receiver's CONNECT without Clean Start on the line that it gave up, while its session stands: it is resumed
-- there, and its own line is closed if the session was connected on it; what the receiver sees of it is that event of its hop
-- (MQTT 5.0, 3.1.4, 4.4).
use Rattle.std.proofs.Common.{◌≡◌, ℕ, Bool, true, false, List, ◌∷◌, map, Some, refl, sym, ap, ◌∙◌}
use Rattle.std.specs.Prelude.{filter_map, is_some}
use Rattle.mqtt_base.specs.declared.session.CopyId.{CopyId}
use Rattle.mqtt_flow.specs.outbound.OutboundWorld.{Lot, World as Hop, connects_old, old_comes, old_to_broker, renewed, step}
use Rattle.mqtt_flow.specs.outbound.Receiver.{Answer, connect}
use Rattle.mqtt_world_model.specs.model.Ends.{Back, Receiver, answers, wire_back}
use Rattle.mqtt_world_model.specs.model.Hops.{IsOurs, lines_left}
use Rattle.mqtt_world_model.specs.model.Lines.{is_one_of}
use Rattle.mqtt_world_model.proofs.model_lemmas.connects.Connects.{not_left}
use Rattle.mqtt_world_model.proofs.model_lemmas.others.Names.{named_is}
use Rattle.mqtt_records.specs.state.Session.{birth_of}
use Rattle.mqtt_records.specs.declared.state.session.Session.{Session}
use Rattle.mqtt_rules.proofs.step_lemmas.flight.FlightRows.{all_at}
use Rattle.mqtt_rules.specs.step.State.{Line as BrokerLine, Broker, MemberChoice, line_of}
use Rattle.mqtt_rules.specs.step.Step.{Input}
use Rattle.mqtt_rules.specs.declared.step.Capacity.{Capacity}
use Rattle.mqtt_world_laws.specs.receiver.Calls.{IsLate, IsResuming, reads_old_answer}
use Rattle.mqtt_world_laws.specs.receiver.Entering.{Receives}
use Rattle.mqtt_world_laws.specs.receiver.Handing.{IsRun, RunsOn, after_answer}
use Rattle.mqtt_world_laws.specs.receiver.Late.{left_alone}
use Rattle.mqtt_world_laws.specs.receiver.Own.{IsInStep}
use Rattle.mqtt_world_laws.specs.receiver.Seen.{Numbering, answered, seen}
use Rattle.mqtt_world_laws.specs.receiver.Tags.{id_of}
use Rattle.mqtt_world_laws.proofs.receiver_lemmas.connects.LateCalls.{closes_own, hop_after, late_receives, late_runs}
use Rattle.mqtt_world_laws.proofs.receiver_lemmas.own.Own.{runs_for}
use Rattle.mqtt_world_laws.proofs.receiver_lemmas.connects.OwnConnects.{resume_served}
use Rattle.mqtt_world_laws.proofs.receiver_lemmas.connects.Resuming.{Takes, connect_makes, renewed_ids}

-- the receiver as if it had kept that line, and no other
late_resuming : (r : Receiver) (l : BrokerLine) (s : Session) (b : Broker) → IsLate r l s b → IsResuming (left_alone r) l s b
late_resuming r l s b a = record { number = a.number; line = a.line; waits = a.waits; fresh = a.fresh; kept = a.kept; taken = a.taken; alone = a.alone; old = refl }

module _ (number : Numbering) (largest : ℕ) (copies : List Lot) (limits : Capacity) (choice : MemberChoice) (now : ℕ) (rest : List Back) (r : Receiver)
    (l : BrokerLine) (s : Session) (b : Broker) (h : IsRun number largest copies r b) (a : IsLate r l s b) (old : r.line.old ≡ answers (connect false) ∷ rest) where
  abbrev n : ℕ
  n = l.number

  abbrev w : Hop
  w = seen number copies r b

  abbrev ns : List ℕ
  ns = lines_left (line_of s.birth b)

  takes : Takes number (map renewed copies) (map id_of copies) limits choice now (Input n (wire_back r.client r.window r.aliases (answers (connect false)))) r.client n s.birth (lines_left (line_of s.birth b)) b
  takes = connect_makes number largest copies limits choice now rest (left_alone r) l s b h.queue_is (late_resuming r l s b a) old

  open_still : is_one_of (Some l.number) (lines_left (line_of s.birth b)) ≡ false
  open_still = not_left (line_of s.birth b) s.birth n a.taken

  hop_is : step largest (seen number copies r b) (old_to_broker false)
      ≡ hop_after number largest copies (map renewed copies) limits choice now false rest r n s.birth ns b old a.number a.apart a.linked open_still (renewed_ids copies) takes
  hop_is =
      let stands : w.stands ≡ true = ap is_some (named_is r.client s.birth b.records s a.kept.only a.kept.session a.kept.name) in
      ap (λ (xs : List Answer). old_comes false xs w) (ap (filter_map answered) old)
      ∙ (ap (λ (z : Bool). connects_old z false false (filter_map answered rest) w) stands
      ∙ sym (closes_own (is_one_of r.line.number ns) w r.line.up (filter_map answered rest) (map renewed copies) a.linked refl stands))

  resumed_runs : RunsOn number largest copies (reads_old_answer limits choice now l.number (connect false) r b) (after_answer limits choice now l.number (connect false) r b)
  resumed_runs = late_runs number largest copies (map renewed copies) limits choice now false rest r n s.birth ns b old a.number a.apart a.linked open_still (renewed_ids copies) takes h hop_is

  resumed_receives : Receives (reads_old_answer limits choice now l.number (connect false) r b) (after_answer limits choice now l.number (connect false) r b)
  resumed_receives = late_receives number largest copies (map renewed copies) limits choice now false rest r n s.birth ns b old a.number a.apart a.linked open_still (renewed_ids copies) takes

-- a CONNECT on the old line to a session that stands goes on with the hop
pub late_connect_runs : (number : Numbering) (largest : ℕ) (copies : List Lot) (limits : Capacity) (choice : MemberChoice) (now : ℕ) (rest : List Back) (r : Receiver) (l : BrokerLine) (s : Session) (b : Broker)
    → IsRun number largest copies r b → IsLate r l s b → r.line.old ≡ answers (connect false) ∷ rest
    → RunsOn number largest copies (reads_old_answer limits choice now l.number (connect false) r b) (after_answer limits choice now l.number (connect false) r b)
    × Receives (reads_old_answer limits choice now l.number (connect false) r b) (after_answer limits choice now l.number (connect false) r b)
late_connect_runs number largest copies limits choice now rest r l s b h a old =
    (resumed_runs number largest copies limits choice now rest r l s b h a old, resumed_receives number largest copies limits choice now rest r l s b h a old)

-- ---- and so the two are in step

-- and leaves the receiver in step
pub late_resume_in_step : (largest : ℕ) (ids : List CopyId) (birth : ℕ) (ns : List ℕ) (limits : Capacity) (choice : MemberChoice) (now : ℕ) (rest : List Back) (r : Receiver) (l : BrokerLine) (s : Session) (b : Broker)
    → IsInStep largest ids birth ns r b → IsLate r l s b → r.line.old ≡ answers (connect false) ∷ rest
    → IsInStep largest ids birth ns (reads_old_answer limits choice now l.number (connect false) r b) (after_answer limits choice now l.number (connect false) r b)
late_resume_in_step largest ids birth ns limits choice now rest r l s b k a old =
    let its : s.birth ≡ birth = (all_at birth_of (IsOurs r.client birth) s.birth s b.records.sessions k.served.sessions a.kept.session).named a.kept.name in
    let served = resume_served r.client birth ns limits choice now (left_alone r) l s b (late_resuming r l s b a) its (k.lines.old l.number a.number) k.served in
    record {
      runs = runs_for largest ids birth birth ns r (reads_old_answer limits choice now l.number (connect false) r b) b (after_answer limits choice now l.number (connect false) r b) k.runs served
          (λ number h. (late_connect_runs number largest h.after limits choice now rest r l s b h.run_is a old).0)
          (λ number h. (late_connect_runs number largest h.after limits choice now rest r l s b h.run_is a old).1);
      served = served;
      lines = record { own = k.lines.own; old = k.lines.old };
    }
