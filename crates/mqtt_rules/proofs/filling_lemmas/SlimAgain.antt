-- Rows that are made slim again are what slim rows are.
use Rattle.std.proofs.Common.{◌≡◌, ℕ, Bool, true, false, cond, List, [], ◌∷◌, map, Option, Some, None, nat_eq, refl, ap, ap₂}
use Rattle.std.specs.List.{AllByRecursion}
use Rattle.mqtt_flow.specs.inbound.Identifiers.{is_among}
use Rattle.mqtt_records.specs.messages.Filling.{Filling, Fillings, filled_row}
use Rattle.mqtt_records.specs.messages.Queue.{CopyRow}
use Rattle.mqtt_records.specs.messages.Slim.{slim}
use Rattle.mqtt_records.proofs.messages_lemmas.Slim.{row_once}
use Rattle.mqtt_records.specs.state.Session.{birth_of}
use Rattle.mqtt_records.specs.declared.state.session.Session.{Session}
use Rattle.mqtt_records.specs.lists.Order.{change_row}
use Rattle.mqtt_rules.specs.step.State.{Broker}
use Rattle.mqtt_rules.specs.alike.Alike.{with_queue, with_sessions, with_records}
use Rattle.mqtt_rules.specs.alike.Slim.{slim_session, slim_broker}
use Rattle.mqtt_rules.proofs.alike_lemmas.SlimRows.{slim_row}
use Rattle.mqtt_rules.specs.filling.Filling.{IsFilledBy, IsSessionFilledBy, AreFilledBy}
use Rattle.mqtt_rules.specs.filling.Pumped.{filled_if, session_filled_at, filled_at}
use Rattle.mqtt_rules.proofs.filling_lemmas.Equivalence.{row_back}
use Rattle.mqtt_rules.proofs.filling_lemmas.Filled.{row_whole}

-- ---- slim rows stay what they are

queue_once : (q : List CopyRow) → map slim (map slim q) ≡ map slim q
queue_once [] = refl
queue_once (e ∷ es) = ap₂ (λ (x : CopyRow) (xs : List CopyRow). x ∷ xs) (row_once e) (queue_once es)

session_once : (s : Session) → slim_session (slim_session s) ≡ slim_session s
session_once s = ap (λ (q : List CopyRow). with_queue q s) (queue_once s.queue)

sessions_once : (ss : List Session) → map slim_session (map slim_session ss) ≡ map slim_session ss
sessions_once [] = refl
sessions_once (s ∷ ss) = ap₂ (λ (x : Session) (xs : List Session). x ∷ xs) (session_once s) (sessions_once ss)

-- the broker with these sessions
abbrev with_these : Broker → List Session → Broker
with_these b ss = with_records (with_sessions ss b.records) b

-- a slim broker stays what it is
pub broker_once : (b : Broker) → slim_broker (slim_broker b) ≡ slim_broker b
broker_once b = ap (with_these b) (sessions_once b.records.sessions)

-- ---- slim again after some rows were filled

module _ (fillings : ℕ → Filling) (places : List ℕ) where
  row_by : (t : Bool) (e : CopyRow) → IsFilledBy fillings e → slim (cond t (filled_row fillings (slim e)) (slim e)) ≡ slim e
  row_by true e k = ap slim (row_whole fillings (slim e) e (row_back e (slim e) (slim_row e)) k)
  row_by false e k = row_once e

  queue_again : (q : List CopyRow) → AllByRecursion (IsFilledBy fillings) q → map slim (map (filled_if fillings places) (map slim q)) ≡ map slim q
  queue_again [] k = refl
  queue_again (e ∷ es) k = ap₂ (λ (x : CopyRow) (xs : List CopyRow). x ∷ xs) (row_by (is_among e.place places) e k.0) (queue_again es k.1)

module _ (fillings : Fillings) (places : List ℕ) where
  session_again : (s : Session) → IsSessionFilledBy fillings s → slim_session (session_filled_at fillings places (slim_session s)) ≡ slim_session s
  session_again s k = ap (λ (q : List CopyRow). with_queue q s) (queue_again (fillings s.birth) places s.queue k)

  sessions_by : (t : Bool) (s : Session) (ss rest : List Session) → IsSessionFilledBy fillings s → map slim_session rest ≡ map slim_session ss
      → map slim_session (cond t (session_filled_at fillings places (slim_session s) ∷ map slim_session ss) (slim_session s ∷ rest)) ≡ map slim_session (s ∷ ss)
  sessions_by true s ss rest k e = ap₂ (λ (x : Session) (xs : List Session). x ∷ xs) (session_again s k) (sessions_once ss)
  sessions_by false s ss rest k e = ap₂ (λ (x : Session) (xs : List Session). x ∷ xs) (session_once s) e

  sessions_again : (birth : ℕ) (ss : List Session) → AllByRecursion (IsSessionFilledBy fillings) ss
      → map slim_session (change_row birth_of birth (session_filled_at fillings places) (map slim_session ss)) ≡ map slim_session ss
  sessions_again birth [] k = refl
  sessions_again birth (s ∷ ss) k =
      sessions_by (nat_eq s.birth birth) s ss (change_row birth_of birth (session_filled_at fillings places) (map slim_session ss)) k.0 (sessions_again birth ss k.1)

  -- rows that were filled are slim again
  pub slim_again : (birth : Option ℕ) (b : Broker) → AreFilledBy fillings b.records → slim_broker (filled_at fillings places birth (slim_broker b)) ≡ slim_broker b
  slim_again None b k = broker_once b
  slim_again (Some birth) b k = ap (with_these b) (sessions_again birth b.records.sessions k)
