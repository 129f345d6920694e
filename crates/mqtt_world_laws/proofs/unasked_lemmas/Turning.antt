-- The turns of a session's queue: each PUBLISH is that of a copy in flight there, and goes out on the session's line (MQTT 5.0, 4.3, 4.4).
use Rattle.std.proofs.Common.{◌≡◌, ℕ, suc, ◌≤◌, Bool, true, false, cond, List, [], ◌∷◌, Option, Some, None, refl, sym, ap, ◌∙◌, arith, inl}
use Rattle.std.specs.Prelude.{⊤}
use Rattle.std.specs.List.{AllByRecursion}
use Rattle.mqtt_base.specs.declared.session.Ending.{Ending}
use Rattle.mqtt_base.specs.declared.session.Phase.{Phase}
use Rattle.mqtt_base.specs.declared.session.Phase.TheVariants.{Sent, Released, Oversize}
use Rattle.mqtt_flow.specs.declared.outbound.entry.Turn.{Turn}
use Rattle.mqtt_flow.specs.declared.outbound.entry.Turn.TheVariants as turns
use Rattle.mqtt_records.specs.declared.state.records.Records.{Records}
use Rattle.mqtt_records.specs.declared.state.session.Session.{Session}
use Rattle.mqtt_records.specs.lists.Order.{change_row, row_at}
use Rattle.mqtt_records.specs.messages.Queue.{CopyRow}
use Rattle.mqtt_records.specs.state.Records.{changed_all}
use Rattle.mqtt_records.specs.state.Session.{birth_of, copy_place, in_phase, with_phase, without_copy}
use Rattle.mqtt_records.proofs.lists_lemmas.LookUps.{row_at-remove_row}
use Rattle.mqtt_records.proofs.lists_lemmas.OrderLemmas.{apart}
use Rattle.mqtt_rules.specs.step.Deeds.{At, Deed, Leave, Mark, On, Part, Send, Went, after, after_all, part_rows_of, whose}
use Rattle.mqtt_rules.specs.step.Lines.{session_on}
use Rattle.mqtt_rules.specs.step.Outbound.{all_turn_deeds, leave_deeds, of_entry, turn_deeds}
use Rattle.mqtt_rules.specs.step.Packets.{publish_of}
use Rattle.mqtt_rules.specs.step.State.{Broker, Env, session_at}
use Rattle.mqtt_rules.specs.step.Step.{Call}
use Rattle.mqtt_rules.proofs.step_lemmas.acts.Goods.{AreGood}
use Rattle.mqtt_rules.proofs.step_lemmas.acts.Leads.{row_among}
use Rattle.mqtt_rules.proofs.step_lemmas.fit.Turns.{Rises}
use Rattle.mqtt_rules.proofs.step_lemmas.flight.FlightRows.{change_row-here, change_row-other, found_key}
use Rattle.mqtt_rules.proofs.step_lemmas.lines.LineActs.{quiet_turn}
use Rattle.mqtt_rules.proofs.step_lemmas.lines.LineRows.{IsQuiet, leaves, still_quiet}
use Rattle.mqtt_rules.proofs.step_lemmas.numbers.Counters.{now_stays}
use Rattle.mqtt_world_laws.specs.acceptance.Entries.{Moment}
use Rattle.mqtt_world_laws.specs.unasked.Unasked.{IsInFlight}
use Rattle.mqtt_world_laws.proofs.unasked_lemmas.Traces.{In, in_append, on_its_line, silent_in, silent_leave}

-- ---- a session that stands, with its queue from some place on as it was

-- the session stands, and from the place n on its queue is that of s
pub record Keeps (n : ℕ) (s : Session) (b : Broker) : Type 0 where
  pub session : Session
  pub stands : session_at s.birth b.records ≡ Some session
  pub rows : (p : ℕ) → n ≤ p → row_at copy_place p session.queue ≡ row_at copy_place p s.queue

-- at the beginning all of it is
pub keeps_all : (s : Session) (b : Broker) → session_at s.birth b.records ≡ Some s → Keeps 0 s b
keeps_all s b there = record { session = s; stands = there; rows = λ p le. refl }

-- whatever else happens that leaves what is stored alone
keeps_stored : (n : ℕ) (s : Session) (b c : Broker) → c.records ≡ b.records → Keeps n s b → Keeps n s c
keeps_stored n s b c same h = record { session = h.session; stands = ap (λ (r : Records). session_at s.birth r) same ∙ h.stands; rows = h.rows }

keeps_later : (n m : ℕ) (s : Session) (b : Broker) → n ≤ m → Keeps n s b → Keeps m s b
keeps_later n m s b le h = record { session = h.session; stands = h.stands; rows = λ p more. h.rows p (omega (arith, le, more)) }

-- the session after a part of it, by its birth
part_found : (k : ℕ) (part : Part) (f : Session → Session) (r : Records) (t : Session) → ((x : Session) → birth_of (f x) ≡ birth_of x) → session_at k r ≡ Some t
    → (changed_all (part_rows_of part (Some t)) r).sessions ≡ change_row birth_of t.birth f r.sessions
    → session_at k (changed_all (part_rows_of part (session_at k r)) r) ≡ Some (f t)
part_found k part f r t kept there is =
    let same : t.birth ≡ k = found_key birth_of k t r.sessions there in
    ap (λ (o : Option Session). session_at k (changed_all (part_rows_of part o) r)) there
    ∙ ap (row_at birth_of k) is
    ∙ ap (λ (n : ℕ). row_at birth_of k (change_row birth_of n f r.sessions)) same
    ∙ change_row-here birth_of k f t r.sessions kept there

keeps_marked : (place : ℕ) (phase : Phase) (n : ℕ) (s : Session) (b : Broker) → n ≤ place → Keeps n s b → Keeps (suc place) s (after (At (whose s) (Mark place phase)) b)
keeps_marked place phase n s b le h = record {
  session = with_phase place phase h.session;
  stands = part_found s.birth (Mark place phase) (with_phase place phase) b.records h.session (λ x. refl) h.stands refl;
  rows = λ p more. change_row-other copy_place p place (in_phase phase) h.session.queue (λ y. refl) (apart place p (λ same. omega (arith, same, more))) ∙ h.rows p (omega (arith, le, more));
}

keeps_left : (e : CopyRow) (ending : Ending) (n : ℕ) (s : Session) (b : Broker) → n ≤ e.place → Keeps n s b → Keeps (suc e.place) s (after (At (whose s) (Leave e ending)) b)
keeps_left e ending n s b le h = record {
  session = without_copy e.place h.session;
  stands = part_found s.birth (Leave e ending) (without_copy e.place) b.records h.session (λ x. refl) h.stands refl;
  rows = λ p more. row_at-remove_row copy_place p e.place h.session.queue
      ∙ ap (λ (c : Bool). cond c None (row_at copy_place p h.session.queue)) (apart e.place p (λ same. omega (arith, same, more)))
      ∙ h.rows p (omega (arith, le, more));
}

-- ---- turn by turn

-- a copy that is sent again was in flight under that identifier
abbrev pub IsKnown : List CopyRow → Turn → Type 0
IsKnown q (turns.Resend place id) = (e : CopyRow) → row_at copy_place place q ≡ Some e → e.phase ≡ Sent id
IsKnown q t = ⊤

module _ (call : Option Call) (env : Env) (ms : List Moment) (line : ℕ) (s : Session) where
  -- the session stands with its queue from some place on, and is connected on the line
  record IsReady (now n : ℕ) (b : Broker) : Type 0 where
    keeps : Keeps n s b
    on : session_on line b ≡ Some (Some s.birth)
    moment : b.now ≡ now

  later : (now n : ℕ) (ds : List Deed) (b : Broker) (m : ℕ) → AreGood IsQuiet ds b → IsReady now n b → Keeps m s (after_all ds b) → IsReady now m (after_all ds b)
  later now n ds b m quiet h keeps = record {
    keeps = keeps;
    on = (leaves ds b (still_quiet ds b quiet)).lines line ∙ h.on;
    moment = now_stays ds b ∙ h.moment;
  }

  -- what comes of a turn: it is traced, and the turns behind it may come
  record IsTurned (now : ℕ) (ds : List Deed) (ts : List Turn) (b : Broker) : Type 0 where
    traced : In call env ms ds b
    place : ℕ
    ready : IsReady now place (after_all ds b)
    rises : Rises s.queue place ts

  sends : (now n place id : ℕ) (ts : List Turn) (b : Broker) → IsReady now n b → Rises s.queue n (turns.Send place id ∷ ts) → IsTurned now (turn_deeds now line s (turns.Send place id)) ts b
  unfolding keeps_marked
  sends now n place id ts b h rises = by (row_at copy_place place s.queue) refl (quiet_turn now line s (turns.Send place id) b)
    where
      deeds : Option CopyRow → List Deed
      deeds o = of_entry o (λ e. At (whose s) (Mark place (Sent id)) ∷ On line (Went place) ∷ Send line (publish_of now false id e.copy) ∷ [])

      by : (o : Option CopyRow) → row_at copy_place place s.queue ≡ o → AreGood IsQuiet (deeds o) b → IsTurned now (deeds o) ts b
      by None is quiet = record { traced = tt; place = suc place; ready = record { keeps = keeps_later n (suc place) s b (let le = rises.0 in omega (arith, le)) h.keeps; on = h.on; moment = h.moment }; rises = rises.1 }
      by (Some e) is quiet =
          let c = after (At (whose s) (Mark place (Sent id))) b in
          let d = after (On line (Went place)) c in
          let marked = keeps_marked place (Sent id) n s b rises.0 h.keeps in
          let at : row_at copy_place place h.keeps.session.queue ≡ Some e = h.keeps.rows place rises.0 ∙ is in
          let found : row_at copy_place place marked.session.queue ≡ Some (in_phase (Sent id) e) = change_row-here copy_place place (in_phase (Sent id)) e h.keeps.session.queue (λ y. refl) at in
          let flight : IsInFlight s.birth e.copy id d = record {
            session = marked.session;
            stands = marked.stands;
            row = in_phase (Sent id) e;
            queued = row_among copy_place place (in_phase (Sent id) e) marked.session.queue found;
            is = refl;
            phase = refl;
          } in
          let front : List Deed = At (whose s) (Mark place (Sent id)) ∷ On line (Went place) ∷ [] in
          let ready = later now n front b (suc place) (quiet.0, (quiet.1.0, tt)) h (keeps_stored (suc place) s c d refl marked) in
          record {
            traced = (tt, (tt, (record { birth = s.birth; line = on_its_line line s.birth d ready.on; copy = e.copy; dup = false; id = id; is = ap (λ (k : ℕ). publish_of k false id e.copy) (sym ready.moment); asked = inl flight }, tt)));
            place = suc place;
            ready = later now n (deeds (Some e)) b (suc place) quiet h (keeps_stored (suc place) s c (after (Send line (publish_of now false id e.copy)) d) refl marked);
            rises = rises.1;
          }

  sends_again : (now n place id : ℕ) (ts : List Turn) (b : Broker) → IsReady now n b → Rises s.queue n (turns.Resend place id ∷ ts) → IsKnown s.queue (turns.Resend place id) → IsTurned now (turn_deeds now line s (turns.Resend place id)) ts b
  sends_again now n place id ts b h rises known = by (row_at copy_place place s.queue) refl (quiet_turn now line s (turns.Resend place id) b)
    where
      deeds : Option CopyRow → List Deed
      deeds o = of_entry o (λ e. On line (Went place) ∷ Send line (publish_of now true id e.copy) ∷ [])

      by : (o : Option CopyRow) → row_at copy_place place s.queue ≡ o → AreGood IsQuiet (deeds o) b → IsTurned now (deeds o) ts b
      by None is quiet = record { traced = tt; place = suc place; ready = record { keeps = keeps_later n (suc place) s b (let le = rises.0 in omega (arith, le)) h.keeps; on = h.on; moment = h.moment }; rises = rises.1 }
      by (Some e) is quiet =
          let d = after (On line (Went place)) b in
          let at : row_at copy_place place h.keeps.session.queue ≡ Some e = h.keeps.rows place rises.0 ∙ is in
          let flight : IsInFlight s.birth e.copy id d = record {
            session = h.keeps.session;
            stands = h.keeps.stands;
            row = e;
            queued = row_among copy_place place e h.keeps.session.queue at;
            is = refl;
            phase = known e is;
          } in
          let kept = keeps_later n (suc place) s b (let le = rises.0 in omega (arith, le)) h.keeps in
          let ready = later now n (On line (Went place) ∷ []) b (suc place) (quiet.0, tt) h (keeps_stored (suc place) s b d refl kept) in
          record {
            traced = (tt, (record { birth = s.birth; line = on_its_line line s.birth d ready.on; copy = e.copy; dup = true; id = id; is = ap (λ (k : ℕ). publish_of k true id e.copy) (sym ready.moment); asked = inl flight }, tt));
            place = suc place;
            ready = later now n (deeds (Some e)) b (suc place) quiet h (keeps_stored (suc place) s b (after (Send line (publish_of now true id e.copy)) d) refl kept);
            rises = rises.1;
          }

  leaves_queue : (now n place : ℕ) (ending : Ending) (ts : List Turn) (b : Broker) → IsReady now n b → Rises s.queue n (turns.Leave place ending ∷ ts) → IsTurned now (turn_deeds now line s (turns.Leave place ending)) ts b
  leaves_queue now n place ending ts b h rises = record {
    traced = silent_in call env ms (leave_deeds s (turns.Leave place ending)) b (silent_leave call env s (turns.Leave place ending));
    place = suc place;
    ready = later now n (leave_deeds s (turns.Leave place ending)) b (suc place) (quiet_turn now line s (turns.Leave place ending) b) h (by (row_at copy_place place s.queue) refl);
    rises = rises.1;
  }
    where
      by : (o : Option CopyRow) → row_at copy_place place s.queue ≡ o → Keeps (suc place) s (after_all (of_entry o (λ e. At (whose s) (Leave e ending) ∷ [])) b)
      by None is = keeps_later n (suc place) s b (let le = rises.0 in omega (arith, le)) h.keeps
      by (Some e) is =
          let same : e.place ≡ place = found_key copy_place place e s.queue is in
          let le = rises.0 in
          keeps_later (suc e.place) (suc place) s (after (At (whose s) (Leave e ending)) b) (omega (arith, same)) (keeps_left e ending n s b (omega (arith, le, same)) h.keeps)

  turned_one : (now n : ℕ) (t : Turn) (ts : List Turn) (b : Broker) → IsReady now n b → Rises s.queue n (t ∷ ts) → IsKnown s.queue t → IsTurned now (turn_deeds now line s t) ts b
  turned_one now n (turns.Send place id) ts b h rises known = sends now n place id ts b h rises
  turned_one now n (turns.Resend place id) ts b h rises known = sends_again now n place id ts b h rises known
  turned_one now n (turns.Release place id order) ts b h rises known = record {
    traced = (tt, (tt, tt));
    place = suc place;
    ready = later now n (turn_deeds now line s (turns.Release place id order)) b (suc place) (quiet_turn now line s (turns.Release place id order) b) h
        (keeps_stored (suc place) s (after (At (whose s) (Mark place (Released id order))) b) _ refl (keeps_marked place (Released id order) n s b rises.0 h.keeps));
    rises = rises.2;
  }
  turned_one now n (turns.Outgrow place id order) ts b h rises known = record {
    traced = (tt, (tt, tt));
    place = suc place;
    ready = later now n (turn_deeds now line s (turns.Outgrow place id order)) b (suc place) (quiet_turn now line s (turns.Outgrow place id order) b) h
        (keeps_stored (suc place) s (after (At (whose s) (Mark place (Oversize id order))) b) _ refl (keeps_marked place (Oversize id order) n s b rises.0 h.keeps));
    rises = rises.2;
  }
  turned_one now n (turns.Repeat id) ts b h rises known = record {
    traced = (tt, tt);
    place = n;
    ready = later now n (turn_deeds now line s (turns.Repeat id)) b n (tt, tt) h (keeps_stored n s b _ refl h.keeps);
    rises = rises;
  }
  turned_one now n (turns.Unknown id) ts b h rises known = record {
    traced = (tt, tt);
    place = n;
    ready = later now n (turn_deeds now line s (turns.Unknown id)) b n (tt, tt) h (keeps_stored n s b _ refl h.keeps);
    rises = rises;
  }
  turned_one now n (turns.Leave place ending) ts b h rises known = leaves_queue now n place ending ts b h rises

  turned_on : (now n : ℕ) (ts : List Turn) (b : Broker) → IsReady now n b → Rises s.queue n ts → AllByRecursion (IsKnown s.queue) ts → In call env ms (all_turn_deeds now line s ts) b
  turned_on now n [] b h rises known = tt
  turned_on now n (t ∷ ts) b h rises known =
      let one = turned_one now n t ts b h rises known.0 in
      in_append call env ms (turn_deeds now line s t) (all_turn_deeds now line s ts) b one.traced (turned_on now one.place ts (after_all (turn_deeds now line s t) b) one.ready one.rises known.1)

  -- turns that rise, of a session that stands and is connected on the line, are traced
  pub turned_all : (ts : List Turn) (b : Broker) → session_at s.birth b.records ≡ Some s → session_on line b ≡ Some (Some s.birth) → Rises s.queue 0 ts → AllByRecursion (IsKnown s.queue) ts
      → In call env ms (all_turn_deeds b.now line s ts) b
  turned_all ts b there on rises known = turned_on b.now 0 ts b (record { keeps = keeps_all s b there; on = on; moment = refl }) rises known

  -- so is one turn
  pub turned : (t : Turn) (b : Broker) → session_at s.birth b.records ≡ Some s → session_on line b ≡ Some (Some s.birth) → Rises s.queue 0 (t ∷ []) → IsKnown s.queue t
      → In call env ms (turn_deeds b.now line s t) b
  turned t b there on rises known = (turned_one b.now 0 t [] b (record { keeps = keeps_all s b there; on = on; moment = refl }) rises known).traced
