-- The turns of a session's queue: each copy that leaves by an answer or a lapse has its cause.
use Rattle.std.proofs.Common.{◌≡◌, ℕ, ◌≤◌, ◌-◌, ◌/◌, Bool, true, false, ◌&&◌, List, [], ◌∷◌, map, Option, Some, None, refl, sym, ap, subst, ◌∙◌, ◌⊎◌, inl}
use Rattle.std.specs.Prelude.{⊤, flat_map}
use Rattle.std.specs.List.{AllByRecursion}
use Rattle.std.proofs.lemmas.Bool.{leb-true}
use Rattle.mqtt_base.specs.declared.session.Ending.{Ending}
use Rattle.mqtt_base.specs.declared.session.Ending.TheVariants as endings
use Rattle.mqtt_base.specs.declared.session.Phase.{Phase}
use Rattle.mqtt_base.specs.declared.session.Phase.TheVariants.{Waiting, Sent, Released, Oversize}
use Rattle.mqtt_flow.specs.outbound.Outbound.{is_late, is_waiting, is_past, expired, expired_at}
use Rattle.mqtt_flow.specs.declared.outbound.entry.Turn.{Turn}
use Rattle.mqtt_flow.specs.declared.outbound.entry.Turn.TheVariants as turns
use Rattle.mqtt_records.specs.messages.Queue.{CopyRow}
use Rattle.mqtt_records.specs.state.Session.{copy_place}
use Rattle.mqtt_records.specs.declared.state.session.Session.{Session}
use Rattle.mqtt_records.specs.lists.Order.{IsAscending, row_at}
use Rattle.mqtt_rules.specs.step.Deeds.{whose, Mark, Leave, Went, Deed, At, On, Send, after, after_all}
use Rattle.mqtt_rules.specs.step.Outbound.{of_entry, leave_deeds, turn_deeds, all_turn_deeds}
use Rattle.mqtt_rules.specs.step.Packets.{publish_of}
use Rattle.mqtt_rules.specs.step.State.{Line, Broker, entry_on, queued_copy, line_at}
use Rattle.mqtt_rules.specs.step.Step.{Call, Pump, Tick}
use Rattle.mqtt_rules.specs.step.Tick.{lapses, lapse_deeds}
use Rattle.mqtt_rules.proofs.step_lemmas.flight.FlightRows.{all_found}
use Rattle.mqtt_world_laws.specs.causes.Endings.{Asked, EndAt}
use Rattle.mqtt_world_laws.specs.causes.Causes.{IsCause, IsOfItsLine}
use Rattle.mqtt_world_laws.proofs.causes_lemmas.Caused.{Caused, quietly, caused_next}
use Rattle.mqtt_world_laws.proofs.causes_lemmas.Queues.{Same, same_left, same_marked, some_is}

module _ (m : Asked) where
  abbrev pub the_end : Broker → List Deed → Session → CopyRow → Ending → EndAt
  the_end b behind s e ending = record { asked = m; broker = b; who = whose s; row = e; ending = ending; behind = behind }

  -- wherever this copy leaves for it in the step, in a state of which this holds, it does so for a cause
  abbrev pub HasReasonIn : (Broker → Type 0) → Session → CopyRow → Ending → Type 0
  HasReasonIn Stands s e ending = (b : Broker) (behind : List Deed) (t : Session) → Stands b → IsCause ending (the_end b behind s e ending) t

  abbrev pub IsFineIn : (Broker → Type 0) → Session → Turn → Type 0
  IsFineIn Stands s (turns.Leave place ending) = (e : CopyRow) → row_at copy_place place s.queue ≡ Some e → HasReasonIn Stands s e ending
  IsFineIn Stands s t = ⊤

  -- so it does in each state at this moment
  abbrev IsAt : ℕ → Broker → Type 0
  IsAt now b = b.now ≡ now

  abbrev pub HasReason : ℕ → Session → CopyRow → Ending → Type 0
  HasReason now s e ending = HasReasonIn (IsAt now) s e ending

  abbrev pub IsFine : ℕ → Session → Turn → Type 0
  IsFine now s t = IsFineIn (IsAt now) s t

  abbrev pub AreFine : ℕ → Session → List Turn → Type 0
  AreFine now s ts = AllByRecursion (IsFine now s) ts

  -- ---- fine turns

  -- what is said of some deeds: each end has its cause, and the session stays
  abbrev pub Turned : Session → List Deed → Broker → Type 0
  Turned s ds b = Caused m ds b × Same s (after_all ds b).records

  leave_turned : (Stands : Broker → Type 0) (s : Session) (place : ℕ) (ending : Ending) (b : Broker) → Stands b → IsFineIn Stands s (turns.Leave place ending) → Same s b.records → Turned s (leave_deeds s (turns.Leave place ending)) b
  leave_turned Stands s place ending b stands fine same = by (row_at copy_place place s.queue) refl
    where
      by : (o : Option CopyRow) → row_at copy_place place s.queue ≡ o → Turned s (of_entry o (λ e. At (whose s) (Leave e ending) ∷ [])) b
      by None is = ((λ rest. tt), same)
      by (Some e) is = (
        (λ rest. (record { session = same.session; found = same.there; its = same.its; cause = fine e is b rest same.session stands }, tt)),
        same_left s e ending b same,
      )

  -- so are the deeds of a fine turn
  pub turn_turned : (Stands : Broker → Type 0) (line : ℕ) (s : Session) (t : Turn) (b : Broker) → Stands b → IsFineIn Stands s t → Same s b.records → Turned s (turn_deeds b.now line s t) b
  turn_turned Stands line s (turns.Send place id) b stands fine same = by (row_at copy_place place s.queue)
    where
      by : (o : Option CopyRow) → Turned s (of_entry o (λ e. At (whose s) (Mark place (Sent id)) ∷ On line (Went place) ∷ Send line (publish_of b.now false id e.copy) ∷ [])) b
      by None = ((λ rest. tt), same)
      by (Some e) = (quietly m (At (whose s) (Mark place (Sent id)) ∷ On line (Went place) ∷ Send line (publish_of b.now false id e.copy) ∷ []) b (tt, (tt, (tt, tt))), same_marked s place (Sent id) b same)
  turn_turned Stands line s (turns.Resend place id) b stands fine same = by (row_at copy_place place s.queue)
    where
      by : (o : Option CopyRow) → Turned s (of_entry o (λ e. On line (Went place) ∷ Send line (publish_of b.now true id e.copy) ∷ [])) b
      by None = ((λ rest. tt), same)
      by (Some e) = (quietly m (On line (Went place) ∷ Send line (publish_of b.now true id e.copy) ∷ []) b (tt, (tt, tt)), same)
  turn_turned Stands line s (turns.Release place id order) b stands fine same =
      (quietly m (turn_deeds b.now line s (turns.Release place id order)) b (tt, (tt, tt)), same_marked s place (Released id order) b same)
  turn_turned Stands line s (turns.Outgrow place id order) b stands fine same =
      (quietly m (turn_deeds b.now line s (turns.Outgrow place id order)) b (tt, (tt, tt)), same_marked s place (Oversize id order) b same)
  turn_turned Stands line s (turns.Repeat id) b stands fine same = (quietly m (turn_deeds b.now line s (turns.Repeat id)) b (tt, tt), same)
  turn_turned Stands line s (turns.Unknown id) b stands fine same = (quietly m (turn_deeds b.now line s (turns.Unknown id)) b (tt, tt), same)
  turn_turned Stands line s (turns.Leave place ending) b stands fine same = leave_turned Stands s place ending b stands fine same

  -- a copy that leaves by a turn has its cause, if it has a reason
  pub turn_caused : (line : ℕ) (s : Session) (t : Turn) (b : Broker) → IsFine b.now s t → Same s b.records → Caused m (turn_deeds b.now line s t) b
  turn_caused line s t b fine same = (turn_turned (IsAt b.now) line s t b refl fine same).0

  turned_now : (line : ℕ) (s : Session) (t : Turn) (b : Broker) (now : ℕ) → b.now ≡ now → IsFine now s t → Same s b.records → Turned s (turn_deeds now line s t) b
  turned_now line s t b now is fine same = subst (λ (n : ℕ). Turned s (turn_deeds n line s t) b) is (turn_turned (IsAt now) line s t b is fine same)

  -- a moment stays over deeds
  stays_now : (ds : List Deed) (b : Broker) → (after_all ds b).now ≡ b.now
  stays_now [] b = refl
  stays_now (d ∷ ds) b = stays_now ds (after d b)

  turns_caused : (line : ℕ) (s : Session) (ts : List Turn) (b : Broker) (now : ℕ) → b.now ≡ now → AreFine now s ts → Same s b.records → Caused m (all_turn_deeds now line s ts) b
  turns_caused line s [] b now is fine same = λ rest. tt
  turns_caused line s (t ∷ ts) b now is fine same =
      let ds = turn_deeds now line s t in
      let first = turned_now line s t b now is fine.0 same in
      caused_next m ds (all_turn_deeds now line s ts) b first.0 (turns_caused line s ts (after_all ds b) now (stays_now ds b ∙ is) fine.1 first.1)

  -- turns that only let copies leave
  leaves_caused : (s : Session) (ts : List Turn) (b : Broker) (now : ℕ) → b.now ≡ now → AreFine now s ts → Same s b.records → Caused m (flat_map (leave_deeds s) ts) b
  leaves_caused s [] b now is fine same = λ rest. tt
  leaves_caused s (turns.Leave place ending ∷ ts) b now is fine same =
      let ds = leave_deeds s (turns.Leave place ending) in
      let first = turned_now 0 s (turns.Leave place ending) b now is fine.0 same in
      caused_next m ds (flat_map (leave_deeds s) ts) b first.0 (leaves_caused s ts (after_all ds b) now (stays_now ds b ∙ is) fine.1 first.1)
  leaves_caused s (turns.Send place id ∷ ts) b now is fine same = leaves_caused s ts b now is fine.1 same
  leaves_caused s (turns.Resend place id ∷ ts) b now is fine same = leaves_caused s ts b now is fine.1 same
  leaves_caused s (turns.Release place id order ∷ ts) b now is fine same = leaves_caused s ts b now is fine.1 same
  leaves_caused s (turns.Outgrow place id order ∷ ts) b now is fine same = leaves_caused s ts b now is fine.1 same
  leaves_caused s (turns.Repeat id ∷ ts) b now is fine same = leaves_caused s ts b now is fine.1 same
  leaves_caused s (turns.Unknown id ∷ ts) b now is fine same = leaves_caused s ts b now is fine.1 same

  -- ---- a copy at its place

  -- its turn is fine if it has a reason
  pub its_turn : (Stands : Broker → Type 0) (s : Session) (e : CopyRow) (ending : Ending) → row_at copy_place e.place s.queue ≡ Some e → HasReasonIn Stands s e ending → IsFineIn Stands s (turns.Leave e.place ending)
  its_turn Stands s e ending there why x found = subst (λ (y : CopyRow). HasReasonIn Stands s y ending) (some_is e x (sym there ∙ found)) why

  abbrev pub AreThere : Session → List CopyRow → Type 0
  AreThere s es = AllByRecursion (λ e. row_at copy_place e.place s.queue ≡ Some e) es

  -- ---- the line of a session

  -- the call of the step is of this line, on which the session is connected
  pub record Comes (what : ℕ → Call) (line : Line) (birth : ℕ) : Type 0 where
    pub number : ℕ
    pub asked : m.call ≡ Some (what number)
    pub found : line_at number m.step.broker ≡ Some line
    pub its : line.session ≡ Some birth

  -- an end in a step of this line's call is an end of that line
  pub of_line : (what : ℕ → Call) (line : Line) (s : Session) (x : EndAt) → x.asked ≡ m → x.who ≡ whose s → Comes what line s.birth → IsOfItsLine x what line
  of_line what line s x mine is h = record {
    number = h.number;
    asked = ap (λ (y : Asked). y.call) mine ∙ h.asked;
    found = ap (λ (y : Asked). line_at h.number y.step.broker) mine ∙ h.found;
    its = h.its ∙ ap (λ w. Some w.birth) (sym is);
  }

  -- ---- expiry

  waits : (phase : Phase) → is_waiting phase ≡ true → phase ≡ Waiting
  waits Waiting h = refl
  waits (Sent i) h = absurd cc
  waits (Released i order) h = absurd cc
  waits (Oversize i order) h = absurd cc

  both_true : (x y : Bool) → (x && y) ≡ true → (x ≡ true) × (y ≡ true)
  both_true true y h = (refl, h)
  both_true false y h = absurd cc

  record Past (o : Option ℕ) (waited : ℕ) : Type 0 where
    interval : ℕ
    has : o ≡ Some interval
    passed : interval ≤ waited

  past : (o : Option ℕ) (waited : ℕ) → is_past o waited ≡ true → Past o waited
  past None waited h = absurd cc
  past (Some interval) waited h = record { interval = interval; has = refl; passed = leb-true interval waited h }

  -- a copy that waits and is late has a reason to expire
  pub has_expired : (now : ℕ) (s : Session) (e : CopyRow) → e.phase ≡ Waiting → is_late now (queued_copy e.copy) ≡ true
      → ((b : Broker) (behind : List Deed) → (m.call ≡ Some Tick) ⊎ ((line : Line) × IsOfItsLine (the_end b behind s e endings.Expired) Pump line))
      → HasReason now s e endings.Expired
  has_expired now s e phase late when b behind t is =
      let x = past _ _ late in
      record { interval = x.interval; has = x.has; passed = subst (λ (n : ℕ). x.interval ≤ (n - e.copy.content.arrived) / 1000) (sym is) x.passed; waits = phase; asked = when b behind }

  -- ---- a lapse

  lapsed_fine : (now : ℕ) (s : Session) (es : List CopyRow) → m.call ≡ Some Tick → AreThere s es → AreFine now s (expired now (map (entry_on []) es))
  lapsed_fine now s [] asked there = tt
  lapsed_fine now s (e ∷ es) asked there = by (is_waiting e.phase && is_late now (queued_copy e.copy)) refl (lapsed_fine now s es asked there.1)
    where
      by : (t : Bool) → (is_waiting e.phase && is_late now (queued_copy e.copy)) ≡ t → AreFine now s (expired now (map (entry_on []) es)) → AreFine now s (expired_at t (entry_on [] e) (expired now (map (entry_on []) es)))
      by false is more = more
      by true is more =
          let both = both_true (is_waiting e.phase) (is_late now (queued_copy e.copy)) is in
          (its_turn (IsAt now) s e endings.Expired there.0 (has_expired now s e (waits e.phase both.0) both.1 (λ b behind. inl asked)), more)

  -- a copy that expires by the clock has its cause
  pub lapse_caused : (s : Session) (b : Broker) → m.call ≡ Some Tick → IsAscending copy_place s.queue → Same s b.records → Caused m (lapse_deeds b.now s) b
  lapse_caused s b asked up same = leaves_caused s (lapses b.now s) b b.now refl (lapsed_fine b.now s s.queue asked (all_found copy_place s.queue up)) same
