-- What may be looked at of a broker doesn't depend on what its waiting copies say.
use Rattle.std.proofs.Common.{◌≡◌, ℕ, Bool, true, false, ◌&&◌, not, cond, List, [], ◌∷◌, map, nat_eq, length, Option, Some, None, refl, sym, ap, ◌∙◌}
use Rattle.std.specs.Prelude.{IfSome, bytes_eq, find, option_map}
use Rattle.std.proofs.lemmas.Bool.{eqb-true}
use Rattle.std.proofs.lemmas.List.{length-map}
use Rattle.mqtt_records.specs.messages.Filling.{Fillings, filled_row}
use Rattle.mqtt_records.specs.lists.Order.{row_at}
use Rattle.mqtt_records.specs.state.Session.{birth_of}
use Rattle.mqtt_records.specs.declared.state.session.Session.{Session}
use Rattle.mqtt_rules.specs.step.Lines.{session_on}
use Rattle.mqtt_rules.specs.declared.step.Capacity.{Capacity}
use Rattle.mqtt_rules.specs.step.State.{Broker, session_named}
use Rattle.mqtt_rules.specs.step.Step.{can_link}
use Rattle.mqtt_rules.specs.filling.Filling.{filled, filled_session}
use Rattle.mqtt_broker.specs.engine.Looks.{copies_on, has_none, queue_on_line}

-- how many copies stand in a queue, if the session is there
abbrev pub queue_length : Option Session → Option ℕ
queue_length o = option_map (λ (s : Session). length s.queue) o

module _ (fillings : Fillings) where
  session_long : (s : Session) → queue_length (Some (filled_session fillings s)) ≡ queue_length (Some s)
  session_long s = ap Some (length-map s.queue (filled_row (fillings s.birth)))

  if_named : (t : Bool) (s : Session) (o p : Option Session) → queue_length o ≡ queue_length p
      → queue_length (cond t (Some (filled_session fillings s)) o) ≡ queue_length (cond t (Some s) p)
  if_named true s o p rest = session_long s
  if_named false s o p rest = rest

  named_long : (client : List ℕ) (ss : List Session)
      → queue_length (find (λ s. bytes_eq s.client client) (map (filled_session fillings) ss)) ≡ queue_length (find (λ s. bytes_eq s.client client) ss)
  named_long client [] = refl
  named_long client (s ∷ ss) =
      if_named (bytes_eq s.client client) s (find (λ s. bytes_eq s.client client) (map (filled_session fillings) ss)) (find (λ s. bytes_eq s.client client) ss)
      (named_long client ss)

  born_long : (birth : ℕ) (ss : List Session) → queue_length (row_at birth_of birth (map (filled_session fillings) ss)) ≡ queue_length (row_at birth_of birth ss)
  born_long birth [] = refl
  born_long birth (s ∷ ss) =
      if_named (nat_eq s.birth birth) s (row_at birth_of birth (map (filled_session fillings) ss)) (row_at birth_of birth ss) (born_long birth ss)

  linked_long : (o : Option (Option ℕ)) (b : Broker) → copies_on o (filled fillings b) ≡ copies_on o b
  linked_long None b = refl
  linked_long (Some None) b = refl
  linked_long (Some (Some birth)) b = born_long birth b.records.sessions

-- a broker that is another one with its rows filled has as many copies in the queue of each client
pub queues_long : (fillings : Fillings) (client : List ℕ) (some whole : Broker) → filled fillings some ≡ whole
    → queue_length (session_named client some.records) ≡ queue_length (session_named client whole.records)
queues_long fillings client some whole is =
    sym (named_long fillings client some.records.sessions) ∙ ap (λ (b : Broker). queue_length (session_named client b.records)) is

-- and in the queue of the session on each line
pub lines_long : (fillings : Fillings) (line : ℕ) (some whole : Broker) → filled fillings some ≡ whole → queue_on_line line some ≡ queue_on_line line whole
lines_long fillings line some whole is = sym (linked_long fillings (session_on line some) some) ∙ ap (queue_on_line line) is

-- as many sessions
pub sessions_long : (fillings : Fillings) (some whole : Broker) → filled fillings some ≡ whole
    → length some.records.sessions ≡ length whole.records.sessions
sessions_long fillings some whole is =
    sym (length-map some.records.sessions (filled_session fillings)) ∙ ap (λ (b : Broker). length b.records.sessions) is

-- as many sessions were born
pub births_same : (fillings : Fillings) (some whole : Broker) → filled fillings some ≡ whole → some.records.births ≡ whole.records.births
births_same fillings some whole is = ap (λ (b : Broker). b.records.births) is

-- as many publications were accepted
pub publications_same : (fillings : Fillings) (some whole : Broker) → filled fillings some ≡ whole → some.records.publications ≡ whole.records.publications
publications_same fillings some whole is = ap (λ (b : Broker). b.records.publications) is

-- and links a further line or not
pub links_same : (limits : Capacity) (fillings : Fillings) (some whole : Broker) → filled fillings some ≡ whole → can_link limits some ≡ can_link limits whole
links_same limits fillings some whole is = ap (can_link limits) is

-- ---- a line whose session has no copies

both_true : (s t : Bool) → s && t ≡ true → (s ≡ true) × (t ≡ true)
both_true true t h = (refl, h)
both_true false t h = absurd cc

runs_if : (t : Bool) → not t ≡ true → t ≡ false
runs_if true h = absurd cc
runs_if false h = refl

-- where that is said of a running engine there is none
pub none_held : (line : ℕ) (b : Broker) (stopped : Bool) → has_none (queue_on_line line b) && not stopped ≡ true → IfSome (queue_on_line line b) (λ copies. copies ≡ 0)
none_held line b stopped said = by (queue_on_line line b) (both_true (has_none (queue_on_line line b)) (not stopped) said).0
  where
    by : (o : Option ℕ) → has_none o ≡ true → IfSome o (λ copies. copies ≡ 0)
    by None h = absurd cc
    by (Some copies) h = eqb-true copies 0 h

-- and the engine runs
pub runs_held : (line : ℕ) (b : Broker) (stopped : Bool) → has_none (queue_on_line line b) && not stopped ≡ true → stopped ≡ false
runs_held line b stopped said = runs_if stopped (both_true (has_none (queue_on_line line b)) (not stopped) said).1
