-- A pump after the rows are filled that it sends.
use Rattle.std.proofs.Common.{◌≡◌, ℕ, Bool, true, false, cond, ◌||◌, List, [], ◌∷◌, map, Option, Some, None, nat_eq, refl, sym, ap, subst, ◌∙◌, inl, inr}
use Rattle.std.specs.Prelude.{option_map}
use Rattle.std.specs.List.{AllByRecursion}
use Rattle.std.proofs.lemmas.Bool.{cases_Bool, eqb-true}
use Rattle.std.proofs.lemmas.Cmp.{nat_eq_equiv}
use Rattle.mqtt_flow.specs.inbound.Identifiers.{is_among}
use Rattle.mqtt_records.specs.messages.Filling.{Filling, Fillings, filled_row}
use Rattle.mqtt_records.specs.messages.Queue.{CopyRow}
use Rattle.mqtt_records.specs.state.Session.{birth_of, copy_place}
use Rattle.mqtt_records.specs.declared.state.session.Session.{Session}
use Rattle.mqtt_records.specs.declared.state.records.Records.{Records}
use Rattle.mqtt_records.specs.lists.Order.{row_at, change_row}
use Rattle.mqtt_rules.specs.declared.step.Capacity.{Capacity}
use Rattle.mqtt_rules.specs.step.State.{Broker, MemberChoice, line_at}
use Rattle.mqtt_rules.specs.step.Step.{Pump, at_moment, told}
use Rattle.mqtt_rules.specs.alike.Alike.{Each, AlikeRows, AlikeSessions, AlikeBrokers, with_sessions}
use Rattle.mqtt_rules.proofs.alike_lemmas.States.{row_alike, by_queue, by_broker, like, records_put}
use Rattle.mqtt_rules.specs.filling.Filling.{IsFilledBy, IsSessionFilledBy, AreFilledBy}
use Rattle.mqtt_rules.specs.filling.Pumped.{birth_on, session_of_birth, served_on, sent_places, IsRowFilledBy, IsFilledAt, HasFilledTurns, filled_if, session_filled_at, records_filled_at, filled_at, filled_for_pump}
use Rattle.mqtt_rules.proofs.filling_lemmas.Equivalence.{broker_back, broker_through}
use Rattle.mqtt_rules.proofs.filling_lemmas.Filled.{row_whole}
use Rattle.mqtt_rules.proofs.filling_lemmas.Pumps.{filled_turns_whole, places_same, pump_tells}
use Rattle.mqtt_rules.proofs.filling_lemmas.Steps.{moment_alike}

-- ---- with some rows filled it is alike still

module _ (fillings : ℕ → Filling) (places : List ℕ) where
  row_by : (t : Bool) (x y : CopyRow) → AlikeRows x y → IsFilledBy fillings y → AlikeRows (cond t (filled_row fillings x) x) y
  row_by true x y h k = subst (λ (e : CopyRow). AlikeRows e y) (sym (row_whole fillings x y h k)) (row_alike y)
  row_by false x y h k = h

  queue_alike : (q w : List CopyRow) → Each AlikeRows q w → AllByRecursion (IsFilledBy fillings) w → Each AlikeRows (map (filled_if fillings places) q) w
  queue_alike [] [] h k = tt
  queue_alike [] (y ∷ ys) h k = absurd h
  queue_alike (x ∷ xs) [] h k = absurd h
  queue_alike (x ∷ xs) (y ∷ ys) h k = (row_by (is_among x.place places) x y h.0 k.0, queue_alike xs ys h.1 k.1)

module _ (fillings : Fillings) (places : List ℕ) where
  session_alike : (s t : Session) → AlikeSessions s t → IsSessionFilledBy fillings t → AlikeSessions (session_filled_at fillings places s) t
  session_alike s t h =
      by_queue (λ (x : Session). IsSessionFilledBy fillings x → AlikeSessions (session_filled_at fillings places s) x) s
      (λ q i k. record { rest = refl; queue = queue_alike (fillings s.birth) places s.queue q i k }) t h

  sessions_by : (u : Bool) (s t : Session) (ss ts rest : List Session) → AlikeSessions s t → Each AlikeSessions ss ts → Each AlikeSessions rest ts → IsSessionFilledBy fillings t
      → Each AlikeSessions (cond u (session_filled_at fillings places s ∷ ss) (s ∷ rest)) (t ∷ ts)
  sessions_by true s t ss ts rest h i j k = (session_alike s t h k, i)
  sessions_by false s t ss ts rest h i j k = (h, j)

  sessions_alike : (birth : ℕ) (ss ts : List Session) → Each AlikeSessions ss ts → AllByRecursion (IsSessionFilledBy fillings) ts
      → Each AlikeSessions (change_row birth_of birth (session_filled_at fillings places) ss) ts
  sessions_alike birth [] [] h k = tt
  sessions_alike birth [] (t ∷ ts) h k = absurd h
  sessions_alike birth (s ∷ ss) [] h k = absurd h
  sessions_alike birth (s ∷ ss) (t ∷ ts) h k =
      sessions_by (nat_eq s.birth birth) s t ss ts (change_row birth_of birth (session_filled_at fillings places) ss) h.0 h.1 (sessions_alike birth ss ts h.1 k.1) k.0

  put_alike : (birth : Option ℕ) (b : Broker) (ss : List Session) → Each AlikeSessions b.records.sessions ss → AreFilledBy fillings (with_sessions ss b.records)
      → AlikeBrokers (filled_at fillings places birth b) (like ss b)
  put_alike None b ss h k = record { rest = refl; records = records_put b.records ss h }
  put_alike (Some birth) b ss h k = record { rest = refl; records = record { rest = refl; sessions = sessions_alike birth b.records.sessions ss h k } }

  -- a broker with some rows filled is alike to the whole one
  pub filled_alike : (birth : Option ℕ) (b c : Broker) → AlikeBrokers b c → AreFilledBy fillings c.records → AlikeBrokers (filled_at fillings places birth b) c
  filled_alike birth b c h =
      by_broker (λ (x : Broker). AreFilledBy fillings x.records → AlikeBrokers (filled_at fillings places birth b) x) b
      (λ ss i k. put_alike birth b ss i k) c h

-- ---- the rows that are filled say what there is for their places

module _ (fillings : ℕ → Filling) (places : List ℕ) where
  found_by : (place : ℕ) → is_among place places ≡ true → (e : CopyRow) (o : Option CopyRow) → IsRowFilledBy fillings o
      → IsRowFilledBy fillings (cond (nat_eq (filled_if fillings places e).place place) (Some (filled_if fillings places e)) o)
  found_by place m e o k = elim (cases_Bool (is_among e.place places)) [
    | inl among ↦ rw among (elim (cases_Bool (nat_eq e.place place)) [ inl is ↦ rw is refl | inr other ↦ rw other k ])
    | inr apart ↦ rw apart (elim (cases_Bool (nat_eq e.place place)) [
      | inl is ↦
          let no : false ≡ true = sym apart ∙ ap (λ (n : ℕ). is_among n places) (eqb-true e.place place is) ∙ m in
          absurd cc
      | inr other ↦ rw other k
    ])
  ]

  queue_filled : (place : ℕ) → is_among place places ≡ true → (q : List CopyRow) → IsRowFilledBy fillings (row_at copy_place place (map (filled_if fillings places) q))
  queue_filled place m [] = tt
  queue_filled place m (e ∷ es) = found_by place m e (row_at copy_place place (map (filled_if fillings places) es)) (queue_filled place m es)

module _ (fillings : Fillings) (places : List ℕ) where
  -- the session of that birth, with its rows filled
  found_there : (birth : ℕ) (ss : List Session) → row_at birth_of birth (change_row birth_of birth (session_filled_at fillings places) ss) ≡ option_map (session_filled_at fillings places) (row_at birth_of birth ss)
  found_there birth [] = refl
  found_there birth (s ∷ ss) = elim (cases_Bool (nat_eq s.birth birth)) [
    | inl is ↦ rw (is, is) refl
    | inr other ↦ rw (other, other) (found_there birth ss)
  ]

  session_filled : (place : ℕ) → is_among place places ≡ true → (o : Option Session) → IsFilledAt fillings (option_map (session_filled_at fillings places) o) place
  session_filled place m None = tt
  session_filled place m (Some s) = queue_filled (fillings s.birth) places place m s.queue

  served_filled : (place : ℕ) → is_among place places ≡ true → (birth : Option ℕ) (r : Records) → IsFilledAt fillings (session_of_birth birth (records_filled_at fillings places birth r)) place
  served_filled place m None r = tt
  served_filled place m (Some birth) r =
      subst (λ (o : Option Session). IsFilledAt fillings o place) (sym (found_there birth r.sessions)) (session_filled place m (row_at birth_of birth r.sessions))

  all_filled : (birth : Option ℕ) (r : Records) (ns : List ℕ) → AllByRecursion (λ (n : ℕ). is_among n places ≡ true) ns
      → AllByRecursion (IsFilledAt fillings (session_of_birth birth (records_filled_at fillings places birth r))) ns
  all_filled birth r [] k = tt
  all_filled birth r (n ∷ ns) k = (served_filled n k.0 birth r, all_filled birth r ns k.1)

-- all of these are among these
more_among : (m : ℕ) (ms ns : List ℕ) → AllByRecursion (λ (n : ℕ). is_among n ms ≡ true) ns → AllByRecursion (λ (n : ℕ). is_among n (m ∷ ms) ≡ true) ns
more_among m ms [] k = tt
more_among m ms (n ∷ ns) k = (by (nat_eq m n) (is_among n ms) k.0, more_among m ms ns k.1)
  where
    by : (t u : Bool) → u ≡ true → t || u ≡ true
    by true u e = refl
    by false u e = e

all_among : (ns : List ℕ) → AllByRecursion (λ (n : ℕ). is_among n ns ≡ true) ns
all_among [] = tt
all_among (n ∷ ns) = (ap (λ (t : Bool). t || is_among n ns) (nat_eq_equiv.refl n), more_among n ns ns (all_among ns))

-- ---- the pump

module _ (fillings : Fillings) (now line : ℕ) where
  pump_alike : (b c : Broker) → AlikeBrokers b c → AreFilledBy fillings c.records → AlikeBrokers (filled_for_pump fillings now line b) c
  pump_alike b c h k = filled_alike fillings (sent_places line (at_moment now b)) (birth_on (line_at line b)) b c h k

  pump_filled : (b c : Broker) → AlikeBrokers b c → AreFilledBy fillings c.records → HasFilledTurns fillings now line (filled_for_pump fillings now line b)
  pump_filled b c h k =
      let places = sent_places line (at_moment now b) in
      let ready = filled_for_pump fillings now line b in
      let alike : AlikeBrokers b ready = broker_through b c ready h (broker_back ready c (pump_alike b c h k)) in
      subst (AllByRecursion (IsFilledAt fillings (served_on line ready))) (places_same line (at_moment now b) (at_moment now ready) (moment_alike now b ready alike))
      (all_filled fillings places (birth_on (line_at line b)) b.records places (all_among places))

  -- a pump whose rows are filled that it sends tells what the whole broker's tells
  pub filled_pump_tells : (limits : Capacity) (choice : MemberChoice) (b c : Broker) → AlikeBrokers b c → AreFilledBy fillings c.records
      → told limits choice now (Pump line) (filled_for_pump fillings now line b) ≡ told limits choice now (Pump line) c
  filled_pump_tells limits choice b c h k =
      let ready = filled_for_pump fillings now line b in
      let alike : AlikeBrokers ready c = pump_alike b c h k in
      pump_tells limits choice now line ready c alike (filled_turns_whole fillings now line ready c alike k (pump_filled b c h k))
