-- What is too large by the form in which it would go out is so with its whole topic, so rows that fit with theirs fit by the sizes
-- that a pump finds (MQTT 5.0, 3.1.2.11.4, 3.3.2.3.4).
use Rattle.std.proofs.Common.{◌≡◌, ℕ, Bool, true, false, List, [], ◌∷◌, cond, map, nat_lt}
use Rattle.std.proofs.lemmas.Bool.{lt-ltb}
use Rattle.std.specs.List.{AllByRecursion}
use Rattle.std.specs.Prelude.{nat_eq}
use Rattle.mqtt_records.specs.messages.Queue.{CopyRow}
use Rattle.mqtt_records.specs.declared.messages.message.MessageCopy.{MessageCopy}
use Rattle.mqtt_records.specs.declared.state.session.Session.{Session}
use Rattle.mqtt_topic.specs.sending.Told.{ToldTopics}
use Rattle.mqtt_rules.specs.step.Fitting.{fitted, fitted_size, form_of, is_due, size_at, sized, told_behind}
use Rattle.mqtt_rules.specs.step.State.{Line as BrokerLine, entry_on, queue_on, queued_copy}
use Rattle.mqtt_rules.proofs.whole_lemmas.Large.{is_large}
use Rattle.mqtt_world_laws.proofs.drain_causes_lemmas.OwnEnds.{AreFit}

module _ (large : Type 0) (l : BrokerLine) (now : ℕ) where
  -- a size is no larger than the client takes, but if this holds
  abbrev IsIn : ℕ → Type 0
  IsIn size = nat_lt l.largest size ≡ true → large

  abbrev IsWholeIn : CopyRow → Type 0
  IsWholeIn e = IsIn (queued_copy e.copy).size

  rows_in : (went : List ℕ) (es : List CopyRow) → AreFit large l.largest (map (entry_on went) es) → AllByRecursion IsWholeIn es
  rows_in went [] h = tt
  rows_in went (e ∷ es) h = (h.0.above, rows_in went es h.1)

  form_in : (told : ToldTopics) (copy : MessageCopy) → IsIn (queued_copy copy).size → IsIn (fitted_size (form_of l.largest told copy) copy)
  form_in told copy own above = let whole = (is_large l.largest told copy above).whole in own (lt-ltb l.largest (queued_copy copy).size whole)

  size_in : (told : ToldTopics) (q : List CopyRow) → AllByRecursion IsWholeIn q → (e : CopyRow) → IsWholeIn e → IsIn (size_at (fitted l now told q) e)
  size_in told [] all e own = own
  size_in told (x ∷ xs) all e own =
      let behind = told_behind (is_due now l.went x) (form_of l.largest told x.copy) x.copy.content.topic told in
      by (nat_eq x.place e.place) (fitted_size (form_of l.largest told x.copy) x.copy) (size_at (fitted l now behind xs) e) (form_in told x.copy all.0) (size_in behind xs all.1 e own)
    where
      by : (b : Bool) (m n : ℕ) → IsIn m → IsIn n → IsIn (cond b m n)
      by true m n here there = here
      by false m n here there = there

  each_fits : (told : ToldTopics) (q : List CopyRow) → AllByRecursion IsWholeIn q → (es : List CopyRow) → AreFit large l.largest (map (entry_on l.went) es)
      → AreFit large l.largest (map (sized (size_at (fitted l now told q)) l.went) es)
  each_fits told q all [] h = tt
  each_fits told q all (e ∷ es) h = (record { released = h.0.released; above = size_in told q all e h.0.above }, each_fits told q all es h.1)

  -- so a queue that fits on a line with whole topics fits by forms, whatever its client was told
  pub forms_fit : (told : ToldTopics) (s : Session) → AreFit large l.largest (queue_on l.went s) → AreFit large l.largest (map (sized (size_at (fitted l now told s.queue)) l.went) s.queue)
  forms_fit told s h = each_fits told s.queue (rows_in l.went s.queue h) s.queue h
