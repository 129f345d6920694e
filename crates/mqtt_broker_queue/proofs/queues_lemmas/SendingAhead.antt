-- What a pump will take on a line, by the turns that were looked up for it.
use Rattle.std.proofs.Common.{◌≡◌, ℕ, List, [], length, sym, ap, subst, ◌∙◌}
use Rattle.std.specs.Prelude.{Option, Some, None, count_by, filter_map}
use Rattle.mqtt_flow.specs.declared.outbound.entry.Turn.{Turn}
use Rattle.mqtt_records.specs.declared.state.session.Session.{Session}
use Rattle.mqtt_records.specs.lists.Order.{IsAscending, row_at}
use Rattle.mqtt_records.specs.state.Session.{copy_place}
use Rattle.mqtt_rules.specs.step.Fitting.{fitted, pump_turns, size_at}
use Rattle.mqtt_rules.specs.step.Outbound.{all_turn_deeds, way_of}
use Rattle.mqtt_rules.specs.step.State.{Line, Broker, session_at, told_on}
use Rattle.mqtt_rules.specs.step.Step.{publish_out}
use Rattle.mqtt_rules.specs.filling.Pumped.{birth_on, session_of_birth, turns_on_line}
use Rattle.mqtt_rules.proofs.step_lemmas.fit.Turns.{Rises}
use Rattle.mqtt_rules.proofs.step_lemmas.fit.TurnLists.{sized_pumps_rise}
use Rattle.mqtt_broker_step.specs.Lines.{line_number}
use Rattle.mqtt_broker_step.proofs.Sendings.{line_found}
use Rattle.mqtt_broker_queue.specs.queues.Turning.{is_sending, line_turns}
use Rattle.mqtt_broker_queue.proofs.queues_lemmas.Pumped.{rise_there}
use Rattle.mqtt_broker_queue.proofs.queues_lemmas.Sending.{sized_pump_sends}

module _ (line : ℕ) (b : Broker) where
  -- the line, and then its session, decide
  by_line : (o : Option Line) → row_at line_number line b.lines ≡ o → line_turns line b ≡ turns_on_line o b (session_of_birth (birth_on o) b.records)
  by_line o there = ap (λ (p : Option Line). turns_on_line p b (session_of_birth (birth_on p) b.records)) (sym (line_found line b.lines) ∙ there)

  by_birth : (l : Line) (o : Option ℕ) → row_at line_number line b.lines ≡ Some l → l.session ≡ o → line_turns line b ≡ turns_on_line (Some l) b (session_of_birth o b.records)
  by_birth l o there connected = by_line (Some l) there ∙ ap (λ (p : Option ℕ). turns_on_line (Some l) b (session_of_birth p b.records)) connected

  by_session : (l : Line) (birth : ℕ) (o : Option Session) → row_at line_number line b.lines ≡ Some l → l.session ≡ Some birth → session_at birth b.records ≡ o
      → line_turns line b ≡ turns_on_line (Some l) b o
  by_session l birth o there connected found = by_birth l (Some birth) there connected ∙ ap (λ (p : Option Session). turns_on_line (Some l) b p) found

  -- without the line no turn is taken
  pub no_line : row_at line_number line b.lines ≡ None → line_turns line b ≡ []
  no_line there = by_line None there

  -- nor without a session on it
  pub no_birth : (l : Line) → row_at line_number line b.lines ≡ Some l → l.session ≡ None → line_turns line b ≡ []
  no_birth l there connected = by_birth l None there connected

  -- nor if that session is gone
  pub no_session : (l : Line) (birth : ℕ) → row_at line_number line b.lines ≡ Some l → l.session ≡ Some birth → session_at birth b.records ≡ None → line_turns line b ≡ []
  no_session l birth there connected found = by_session l birth None there connected found

  -- else its pump's turns are
  pub turns_are : (l : Line) (birth : ℕ) (x : Session) → row_at line_number line b.lines ≡ Some l → l.session ≡ Some birth → session_at birth b.records ≡ Some x
      → line_turns line b ≡ pump_turns l b x
  turns_are l birth x there connected found = by_session l birth (Some x) there connected found

-- ---- what is known of a pump's turns

module _ (l : Line) (b : Broker) (x : Session) (up : IsAscending copy_place x.queue) (ts : List Turn) (are : ts ≡ pump_turns l b x) where
  -- they are in the order of the queue, one at most for a copy
  pub pump_rises : (birth : ℕ) → session_at birth b.records ≡ Some x → (y : Session) → session_at birth b.records ≡ Some y → Rises y.queue 0 ts
  pump_rises birth found =
      rise_there birth x ts b found
      (subst (λ (rs : List Turn). Rises x.queue 0 rs) (sym are)
      (sized_pumps_rise (size_at (fitted l b.now (told_on l.number b.tellings) x.queue)) (way_of l b.now) l.went x up))

  -- as many PUBLISH go out as there are turns that send one
  pub pump_sends : (moment line : ℕ) → length (filter_map publish_out (all_turn_deeds moment line x ts)) ≡ count_by is_sending ts
  pump_sends moment line =
      subst (λ (rs : List Turn). length (filter_map publish_out (all_turn_deeds moment line x rs)) ≡ count_by is_sending rs) (sym are)
      (sized_pump_sends (size_at (fitted l b.now (told_on l.number b.tellings) x.queue)) (way_of l b.now) l.went moment line x up)
