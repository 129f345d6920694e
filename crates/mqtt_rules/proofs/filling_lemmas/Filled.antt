-- Rows, queues, records and brokers that are filled with what alike ones say are these.
use Rattle.std.proofs.Common.{◌≡◌, ℕ, List, [], ◌∷◌, map, refl, sym, ap, ap₂, ◌∙◌}
use Rattle.std.specs.List.{AllByRecursion}
use Rattle.mqtt_records.specs.messages.Filling.{Filling, Fillings, filling_of, filled_row}
use Rattle.mqtt_records.specs.messages.Queue.{CopyRow}
use Rattle.mqtt_records.specs.declared.state.session.Session.{Session}
use Rattle.mqtt_records.specs.declared.state.records.Records.{Records}
use Rattle.mqtt_rules.specs.step.State.{Broker}
use Rattle.mqtt_rules.specs.alike.Alike.{Each, AlikeRows, AlikeSessions, AlikeRecords, AlikeBrokers, with_queue, with_sessions, with_records}
use Rattle.mqtt_rules.proofs.alike_lemmas.States.{row_alike, by_queue, by_sessions, by_broker, records_put}
use Rattle.mqtt_rules.specs.filling.Filling.{filled_session, filled_records, filled, IsFilledBy, IsSessionFilledBy, AreFilledBy}

module _ (fillings : ℕ → Filling) where
  -- a row that is filled with what an alike one says is that one
  pub row_whole : (x y : CopyRow) → AlikeRows x y → IsFilledBy fillings y → filled_row fillings x ≡ y
  row_whole x y h k =
      let says : fillings x.place ≡ filling_of y.copy = ap fillings h.place ∙ sym k in
      λ i. record {
        place = h.place i;
        phase = h.phase i;
        copy = record {
          id = (h.copy.seen i).id;
          qos = (h.copy.seen i).qos;
          retain = h.copy.retain i;
          identifiers = (says i).identifiers;
          content = record {
            topic = h.copy.topic i;
            properties = (says i).properties;
            payload = (says i).payload;
            arrived = (h.copy.seen i).arrived;
          };
        };
      }

  -- a row that says it already stays as it is
  pub row_stays : (x : CopyRow) → IsFilledBy fillings x → filled_row fillings x ≡ x
  row_stays x k = row_whole x x (row_alike x) k

  queue_whole : (q w : List CopyRow) → Each AlikeRows q w → AllByRecursion (IsFilledBy fillings) w → map (filled_row fillings) q ≡ w
  queue_whole [] [] h k = refl
  queue_whole [] (y ∷ ys) h k = absurd h
  queue_whole (x ∷ xs) [] h k = absurd h
  queue_whole (x ∷ xs) (y ∷ ys) h k = ap₂ (λ (z : CopyRow) (zs : List CopyRow). z ∷ zs) (row_whole x y h.0 k.0) (queue_whole xs ys h.1 k.1)

  queue_says : (q : List CopyRow) → AllByRecursion (IsFilledBy fillings) (map (filled_row fillings) q)
  queue_says [] = tt
  queue_says (x ∷ xs) = (refl, queue_says xs)

module _ (fillings : Fillings) where
  session_whole : (s t : Session) → AlikeSessions s t → IsSessionFilledBy fillings t → filled_session fillings s ≡ t
  session_whole s t h =
      by_queue (λ (x : Session). IsSessionFilledBy fillings x → filled_session fillings s ≡ x) s
      (λ q i k. ap (λ (rows : List CopyRow). with_queue rows s) (queue_whole (fillings s.birth) s.queue q i k)) t h

  sessions_whole : (ss ts : List Session) → Each AlikeSessions ss ts → AllByRecursion (IsSessionFilledBy fillings) ts → map (filled_session fillings) ss ≡ ts
  sessions_whole [] [] h k = refl
  sessions_whole [] (t ∷ ts) h k = absurd h
  sessions_whole (s ∷ ss) [] h k = absurd h
  sessions_whole (s ∷ ss) (t ∷ ts) h k = ap₂ (λ (x : Session) (xs : List Session). x ∷ xs) (session_whole s t h.0 k.0) (sessions_whole ss ts h.1 k.1)

  -- records that are filled with what alike ones say are these
  pub records_whole : (r o : Records) → AlikeRecords r o → AreFilledBy fillings o → filled_records fillings r ≡ o
  records_whole r o h =
      by_sessions (λ (x : Records). AreFilledBy fillings x → filled_records fillings r ≡ x) r
      (λ ss i k. ap (λ (ts : List Session). with_sessions ts r) (sessions_whole r.sessions ss i k)) o h

  -- so is a broker
  pub broker_whole : (b c : Broker) → AlikeBrokers b c → AreFilledBy fillings c.records → filled fillings b ≡ c
  broker_whole b c h =
      by_broker (λ (x : Broker). AreFilledBy fillings x.records → filled fillings b ≡ x) b
      (λ ss i k. ap (λ (r : Records). with_records r b) (records_whole b.records (with_sessions ss b.records) (records_put b.records ss i) k)) c h

  sessions_say : (ss : List Session) → AllByRecursion (IsSessionFilledBy fillings) (map (filled_session fillings) ss)
  sessions_say [] = tt
  sessions_say (s ∷ ss) = (queue_says (fillings s.birth) s.queue, sessions_say ss)

  -- what was filled says what it was filled with
  pub records_say : (r : Records) → AreFilledBy fillings (filled_records fillings r)
  records_say r = sessions_say r.sessions
