-- A pump whose rows are whole that it sends.
use Rattle.std.proofs.Common.{◌≡◌, ℕ, Bool, true, false, cond, List, [], ◌∷◌, Option, Some, None, nat_eq, refl, sym, ap, subst, ◌∙◌}
use Rattle.std.specs.Prelude.{⊤, filter_map}
use Rattle.std.specs.List.{AllByRecursion, cons_option}
use Rattle.mqtt_base.specs.declared.session.Phase.TheVariants.{Sent}
use Rattle.mqtt_flow.specs.declared.outbound.entry.Turn.{Turn}
use Rattle.mqtt_flow.specs.declared.outbound.entry.Turn.TheVariants as turns
use Rattle.mqtt_records.specs.messages.Filling.{Filling, Fillings}
use Rattle.mqtt_records.specs.messages.Queue.{CopyRow}
use Rattle.mqtt_records.specs.state.Session.{birth_of, copy_place}
use Rattle.mqtt_records.specs.declared.state.session.Session.{Session}
use Rattle.mqtt_records.specs.declared.state.records.Records.{Records}
use Rattle.mqtt_records.specs.lists.Order.{row_at}
use Rattle.mqtt_rules.specs.declared.step.Capacity.{Capacity}
use Rattle.mqtt_rules.specs.step.Deeds.{whose, Deed, At, On, Send, Mark, Went, always, with_line, with_session}
use Rattle.mqtt_rules.specs.step.Fitting.{pump_turns}
use Rattle.mqtt_rules.specs.step.Inbound.{pump_deeds}
use Rattle.mqtt_rules.specs.step.Outbound.{of_entry, turn_deeds, all_turn_deeds}
use Rattle.mqtt_rules.specs.step.Packets.{publish_of}
use Rattle.mqtt_rules.specs.step.State.{Line, Broker, MemberChoice, session_at, line_at}
use Rattle.mqtt_rules.specs.step.Step.{Pump, at_moment, deeds, on_pump, told}
use Rattle.mqtt_rules.specs.alike.Alike.{Each, AlikeRows, AlikeSessions, AlikeBrokers, AlikeDeeds, with_queue, with_sessions}
use Rattle.mqtt_rules.proofs.alike_lemmas.Acts.{same_deeds}
use Rattle.mqtt_rules.proofs.alike_lemmas.Pairs.{Both, each_append, both_at}
use Rattle.mqtt_rules.proofs.alike_lemmas.Queues.{turn_alike}
use Rattle.mqtt_rules.proofs.alike_lemmas.States.{by_queue, by_broker, like, broker_put, session_found, place_same}
use Rattle.mqtt_rules.proofs.alike_lemmas.Steps.{outcome_alike, turns_same, own_turns}
use Rattle.mqtt_rules.specs.filling.Filling.{IsFilledBy, IsSessionFilledBy, AreFilledBy}
use Rattle.mqtt_rules.specs.filling.Pumped.{place_sent, birth_on, session_of_birth, turns_on_line, sent_places, row_of, HasWholeTurns, IsRowFilledBy, IsFilledAt, HasFilledTurns}
use Rattle.mqtt_rules.proofs.filling_lemmas.Filled.{row_whole, row_stays}
use Rattle.mqtt_rules.proofs.filling_lemmas.Steps.{moment_alike}
use Rattle.mqtt_rules.proofs.filling_lemmas.Tellings.{outcome_same}

-- ---- turns that find the same rows

-- of the place that is sent, if one is
abbrev OfSent : (ℕ → Type 0) → Option ℕ → Type 0
OfSent P None = ⊤
OfSent P (Some place) = P place

parted : (P : ℕ → Type 0) (o : Option ℕ) (ns : List ℕ) → AllByRecursion P (cons_option o ns) → OfSent P o × AllByRecursion P ns
parted P None ns k = (tt, k)
parted P (Some n) ns k = k

entry_same : (f : CopyRow → List Deed) (o p : Option CopyRow) → o ≡ p → Each (AlikeDeeds ⊥) (of_entry o f) (of_entry p f)
entry_same f o p e = subst (λ (x : Option CopyRow). Each (AlikeDeeds ⊥) (of_entry o f) (of_entry x f)) e (same_deeds ⊥ (of_entry o f))

module _ (now line : ℕ) (s : Session) (q : List CopyRow) (h : Each AlikeRows s.queue q) where
  abbrev IsSame : ℕ → Type 0
  IsSame place = row_at copy_place place s.queue ≡ row_at copy_place place q

  turn_whole : (t : Turn) → OfSent IsSame (place_sent t) → Each (AlikeDeeds ⊥) (turn_deeds now line s t) (turn_deeds now line (with_queue q s) t)
  turn_whole (turns.Send place id) k = entry_same (λ e. At (whose s) (Mark place (Sent id)) ∷ On line (Went place) ∷ Send line (publish_of now false id e.copy) ∷ [])
      (row_at copy_place place s.queue) (row_at copy_place place q) k
  turn_whole (turns.Resend place id) k = entry_same (λ e. On line (Went place) ∷ Send line (publish_of now true id e.copy) ∷ [])
      (row_at copy_place place s.queue) (row_at copy_place place q) k
  turn_whole (turns.Release place id order) k = turn_alike ⊥ now line s q h (turns.Release place id order) tt
  turn_whole (turns.Outgrow place id order) k = turn_alike ⊥ now line s q h (turns.Outgrow place id order) tt
  turn_whole (turns.Repeat id) k = turn_alike ⊥ now line s q h (turns.Repeat id) tt
  turn_whole (turns.Unknown id) k = turn_alike ⊥ now line s q h (turns.Unknown id) tt
  turn_whole (turns.Leave place ending) k = turn_alike ⊥ now line s q h (turns.Leave place ending) tt

  turns_whole : (ts : List Turn) → AllByRecursion IsSame (filter_map place_sent ts) → Each (AlikeDeeds ⊥) (all_turn_deeds now line s ts) (all_turn_deeds now line (with_queue q s) ts)
  turns_whole [] k = tt
  turns_whole (t ∷ ts) k =
      let both = parted IsSame (place_sent t) (filter_map place_sent ts) k in
      each_append (AlikeDeeds ⊥) (turn_deeds now line s t) (turn_deeds now line (with_queue q s) t) (all_turn_deeds now line s ts) (all_turn_deeds now line (with_queue q s) ts)
      (turn_whole t both.0) (turns_whole ts both.1)

-- ---- the pump of a session, and of a line

abbrev AreSame : Option Session → Option Session → List ℕ → Type 0
AreSame o p ns = AllByRecursion (λ (place : ℕ). row_of place o ≡ row_of place p) ns

module _ (l : Line) (b : Broker) (ss : List Session) (h : Each AlikeSessions b.records.sessions ss) where
  pump_whole : (s t : Session) → AlikeSessions s t → AreSame (Some s) (Some t) (filter_map place_sent (pump_turns l b s))
      → Each (AlikeDeeds ⊥) (pump_deeds l b s) (pump_deeds l (like ss b) t)
  pump_whole s t a k =
      subst (λ (ds : List Deed). Each (AlikeDeeds ⊥) (pump_deeds l b s) ds) (sym (own_turns l b (like ss b) s t (broker_put b ss h) a))
      (by_queue (λ (x : Session). AreSame (Some s) (Some x) (filter_map place_sent (pump_turns l b s)) → Each (AlikeDeeds ⊥) (pump_deeds l b s) (all_turn_deeds b.now l.number x (pump_turns l b s))) s
      (λ q i c. turns_whole b.now l.number s q i (pump_turns l b s) c) t a k)

  pump_of : (o p : Option Session) → Both AlikeSessions o p → AreSame o p (filter_map place_sent (turns_on_line (Some l) b o))
      → Each (AlikeDeeds ⊥) (with_session o (λ s. always (pump_deeds l b s)) b) (with_session p (λ s. always (pump_deeds l (like ss b) s)) (like ss b))
  pump_of None None a k = tt
  pump_of None (Some t) a k = absurd a
  pump_of (Some s) None a k = absurd a
  pump_of (Some s) (Some t) a k = pump_whole s t a k

  pump_on : (birth : Option ℕ) → AreSame (session_of_birth birth b.records) (session_of_birth birth (with_sessions ss b.records)) (filter_map place_sent (turns_on_line (Some l) b (session_of_birth birth b.records)))
      → Each (AlikeDeeds ⊥) (on_pump l birth b) (on_pump l birth (like ss b))
  pump_on None k = tt
  pump_on (Some birth) k = pump_of (session_at birth b.records) (session_at birth (with_sessions ss b.records)) (session_found birth b.records ss h) k

line_pump : (o : Option Line) (b : Broker) (ss : List Session) → Each AlikeSessions b.records.sessions ss
    → AreSame (session_of_birth (birth_on o) b.records) (session_of_birth (birth_on o) (with_sessions ss b.records)) (filter_map place_sent (turns_on_line o b (session_of_birth (birth_on o) b.records)))
    → Each (AlikeDeeds ⊥) (with_line o (λ l. on_pump l l.session) b) (with_line o (λ l. on_pump l l.session) (like ss b))
line_pump None b ss h k = tt
line_pump (Some l) b ss h k = pump_on l b ss h l.session k

module _ (limits : Capacity) (choice : MemberChoice) (now line : ℕ) where
  pump_deeds_whole : (b c : Broker) → AlikeBrokers b c → HasWholeTurns now line b c → Each (AlikeDeeds ⊥) (deeds limits choice now (Pump line) b) (deeds limits choice now (Pump line) c)
  pump_deeds_whole b c h k =
      by_broker (λ (x : Broker). HasWholeTurns now line b x → Each (AlikeDeeds ⊥) (deeds limits choice now (Pump line) b) (deeds limits choice now (Pump line) x)) b
      (λ ss i g. line_pump (line_at line b) (at_moment now b) ss i g) c h k

  -- a pump tells the same if it finds the rows of the whole broker
  pub pump_tells : (b c : Broker) → AlikeBrokers b c → HasWholeTurns now line b c → told limits choice now (Pump line) b ≡ told limits choice now (Pump line) c
  pump_tells b c h k = outcome_same ⊥ (λ never. never) (told limits choice now (Pump line) b) (told limits choice now (Pump line) c)
      (outcome_alike ⊥ (Pump line) (deeds limits choice now (Pump line) b) (deeds limits choice now (Pump line) c) (at_moment now b) (at_moment now c) (pump_deeds_whole b c h k) (moment_alike now b c h))

-- ---- rows that say what there is for their places are those of the whole broker

module _ {X : Type 0} (P : X → Type 0) (key : X → ℕ) where
  -- of the row that is found, if one is
  abbrev pub OfFound : Option X → Type 0
  OfFound None = ⊤
  OfFound (Some x) = P x

  found_by : (t : Bool) (x : X) (o : Option X) → P x → OfFound o → OfFound (cond t (Some x) o)
  found_by true x o p q = p
  found_by false x o p q = q

  -- what holds of all holds of the row that is found
  pub found_has : (n : ℕ) (xs : List X) → AllByRecursion P xs → OfFound (row_at key n xs)
  found_has n [] k = tt
  found_has n (x ∷ xs) k = found_by (nat_eq (key x) n) x (row_at key n xs) k.0 (found_has n xs k.1)

row_filled : (fillings : ℕ → Filling) (o p : Option CopyRow) → Both AlikeRows o p → IsRowFilledBy fillings o → OfFound (IsFilledBy fillings) copy_place p → o ≡ p
row_filled fillings None None a j k = refl
row_filled fillings None (Some y) a j k = absurd a
row_filled fillings (Some x) None a j k = absurd a
row_filled fillings (Some x) (Some y) a j k = ap (λ (e : CopyRow). Some e) (sym (row_stays fillings x j) ∙ row_whole fillings x y a k)

module _ (fillings : Fillings) where
  session_row : (place : ℕ) (s t : Session) → AlikeSessions s t → IsSessionFilledBy fillings t → IsFilledAt fillings (Some s) place → row_of place (Some s) ≡ row_of place (Some t)
  session_row place s t a k j =
      by_queue (λ (x : Session). IsSessionFilledBy fillings x → row_of place (Some s) ≡ row_of place (Some x)) s
      (λ q i g. row_filled (fillings s.birth) (row_at copy_place place s.queue) (row_at copy_place place q) (both_at AlikeRows copy_place place_same place s.queue q i) j
      (found_has (IsFilledBy (fillings s.birth)) copy_place place q g)) t a k

  row_is : (place : ℕ) (o p : Option Session) → Both AlikeSessions o p → OfFound (IsSessionFilledBy fillings) birth_of p → IsFilledAt fillings o place → row_of place o ≡ row_of place p
  row_is place None None a k j = refl
  row_is place None (Some t) a k j = absurd a
  row_is place (Some s) None a k j = absurd a
  row_is place (Some s) (Some t) a k j = session_row place s t a k j

  rows_are : (o p : Option Session) → Both AlikeSessions o p → OfFound (IsSessionFilledBy fillings) birth_of p → (ns : List ℕ) → AllByRecursion (IsFilledAt fillings o) ns → AreSame o p ns
  rows_are o p a k [] j = tt
  rows_are o p a k (n ∷ ns) j = (row_is n o p a k j.0, rows_are o p a k ns j.1)

  served_alike : (birth : Option ℕ) (r : Records) (ss : List Session) → Each AlikeSessions r.sessions ss → Both AlikeSessions (session_of_birth birth r) (session_of_birth birth (with_sessions ss r))
  served_alike None r ss h = tt
  served_alike (Some birth) r ss h = session_found birth r ss h

  served_filled : (birth : Option ℕ) (r : Records) → AreFilledBy fillings r → OfFound (IsSessionFilledBy fillings) birth_of (session_of_birth birth r)
  served_filled None r k = tt
  served_filled (Some birth) r k = found_has (IsSessionFilledBy fillings) birth_of birth r.sessions k

  turns_filled : (now line : ℕ) (b : Broker) (ss : List Session) → Each AlikeSessions b.records.sessions ss → AreFilledBy fillings (with_sessions ss b.records)
      → HasFilledTurns fillings now line b → HasWholeTurns now line b (like ss b)
  turns_filled now line b ss h k j =
      let birth = birth_on (line_at line b) in
      rows_are (session_of_birth birth b.records) (session_of_birth birth (with_sessions ss b.records)) (served_alike birth b.records ss h)
      (served_filled birth (with_sessions ss b.records) k) (sent_places line (at_moment now b)) j

  -- a pump whose rows say what there is for their places finds the rows of the whole broker
  pub filled_turns_whole : (now line : ℕ) (b c : Broker) → AlikeBrokers b c → AreFilledBy fillings c.records → HasFilledTurns fillings now line b → HasWholeTurns now line b c
  filled_turns_whole now line b c h k j =
      by_broker (λ (x : Broker). AreFilledBy fillings x.records → HasWholeTurns now line b x) b
      (λ ss i g. turns_filled now line b ss i g j) c h k

-- ---- both pumps send the copies of the same places

places_in : (l : Line) (b c : Broker) → AlikeBrokers b c → (o p : Option Session) → Both AlikeSessions o p → turns_on_line (Some l) b o ≡ turns_on_line (Some l) c p
places_in l b c h None None a = refl
places_in l b c h None (Some t) a = absurd a
places_in l b c h (Some s) None a = absurd a
places_in l b c h (Some s) (Some t) a = turns_same l b c s t h a

places_on : (o : Option Line) (b : Broker) (ss : List Session) → Each AlikeSessions b.records.sessions ss
    → turns_on_line o b (session_of_birth (birth_on o) b.records) ≡ turns_on_line o (like ss b) (session_of_birth (birth_on o) (with_sessions ss b.records))
places_on None b ss h = refl
places_on (Some l) b ss h = by l.session
  where
    by : (birth : Option ℕ) → turns_on_line (Some l) b (session_of_birth birth b.records) ≡ turns_on_line (Some l) (like ss b) (session_of_birth birth (with_sessions ss b.records))
    by None = refl
    by (Some birth) = places_in l b (like ss b) (broker_put b ss h) (session_at birth b.records) (session_at birth (with_sessions ss b.records)) (session_found birth b.records ss h)

-- pumps of alike brokers send copies of the same places
pub places_same : (line : ℕ) (b c : Broker) → AlikeBrokers b c → sent_places line b ≡ sent_places line c
places_same line b c h = by_broker (λ (x : Broker). sent_places line b ≡ sent_places line x) b
    (λ ss i. ap (filter_map place_sent) (places_on (line_at line b) b ss i)) c h
