-- A session's queue of outbound copies, and what each turn does to it (MQTT 5.0, 4.3, 4.4, 4.6).
use Rattle.std.specs.Prelude.{ℕ, ◌+◌, ◌<◌, ◌≤◌, max, ⊤, length, Bool, true, false, cond, not, List, [], ◌∷◌, filter, map, find, nat_eq, Option, Some, None, count_by}
use Rattle.mqtt_base.specs.Phases.{identifier_of, order_of}
use Rattle.mqtt_base.specs.declared.Phase.{Phase}
use Rattle.mqtt_base.specs.declared.Phase.TheVariants.{Waiting, Sent, Released, Oversize}
use Rattle.mqtt_base.specs.declared.limits.TheConstants.{LAST_NUMBER, QUEUE_LIMIT}
use Rattle.mqtt_flow.specs.declared.outbound.entry.QueuedCopy.{QueuedCopy}
use Rattle.mqtt_flow.specs.declared.outbound.entry.Entry.{Entry}
use Rattle.mqtt_flow.specs.declared.outbound.entry.Turn.{Turn}
use Rattle.mqtt_flow.specs.declared.outbound.entry.Turn.TheVariants.{Send, Resend, Release, Outgrow, Repeat, Unknown, Leave}

-- the identifiers in use
abbrev pub also : Option ℕ → List ℕ → List ℕ
also None is = is
also (Some i) is = i ∷ is

abbrev pub identifiers : List Entry → List ℕ
identifiers [] = []
identifiers (e ∷ es) = also (identifier_of e.phase) (identifiers es)

abbrev pub is_holder : ℕ → Phase → Bool
is_holder i Waiting = false
is_holder i (Sent j) = nat_eq j i
is_holder i (Released j order) = nat_eq j i
is_holder i (Oversize j order) = nat_eq j i

-- the copy that has an identifier
abbrev pub holder : ℕ → List Entry → Option Entry
holder i queue = find (λ e. is_holder i e.phase) queue

-- a new place and a new order are one above the greatest that stands (ours)
abbrev pub greatest_place : List Entry → ℕ
greatest_place [] = 0
greatest_place (e ∷ es) = max e.place (greatest_place es)

abbrev pub greatest_order : List Entry → ℕ
greatest_order [] = 0
greatest_order (e ∷ es) = max (order_of e.phase) (greatest_order es)

abbrev pub next_place : List Entry → ℕ
next_place queue = greatest_place queue + 1

abbrev pub next_order : List Entry → ℕ
next_order queue = greatest_order queue + 1

-- the entries that fill the client's window: their PUBLISH went out on this connection, and they haven't ended (ours)
abbrev pub in_window : List Entry → ℕ
in_window queue = count_by (λ e. e.here) queue

-- the entry of a copy that enters
abbrev pub entering : QueuedCopy → List Entry → Entry
entering copy queue = record { place = next_place queue; copy = copy; phase = Waiting; here = false }

-- what a turn makes of the entry at its place
abbrev pub at_place : ℕ → Entry → Entry → Entry
at_place place changed e = cond (nat_eq e.place place) changed e

abbrev pub marked : Turn → Entry → Entry
marked (Send place i) e = at_place place (record e { phase = Sent i; here = true }) e
marked (Resend place i) e = at_place place (record e { here = true }) e
marked (Release place i order) e = at_place place (record e { phase = Released i order }) e
marked (Outgrow place i order) e = at_place place (record e { phase = Oversize i order }) e
marked (Repeat i) e = e
marked (Unknown i) e = e
marked (Leave place ending) e = e

-- the queue after a turn
abbrev pub after : Turn → List Entry → List Entry
after (Send place i) queue = map (marked (Send place i)) queue
after (Resend place i) queue = map (marked (Resend place i)) queue
after (Release place i order) queue = map (marked (Release place i order)) queue
after (Outgrow place i order) queue = map (marked (Outgrow place i order)) queue
after (Repeat i) queue = queue
after (Unknown i) queue = queue
after (Leave place ending) queue = filter (λ e. not (nat_eq e.place place)) queue

abbrev pub after_all : List Turn → List Entry → List Entry
after_all [] queue = queue
after_all (t ∷ ts) queue = after_all ts (after t queue)

-- the order of release that a turn gives
abbrev pub order_given : Turn → ℕ
order_given (Send place i) = 0
order_given (Resend place i) = 0
order_given (Release place i order) = order
order_given (Outgrow place i order) = order
order_given (Repeat i) = 0
order_given (Unknown i) = 0
order_given (Leave place ending) = 0

abbrev pub greatest_given : List Turn → ℕ
greatest_given [] = 0
greatest_given (t ∷ ts) = max (order_given t) (greatest_given ts)

-- each place is above those before it
abbrev pub Above : ℕ → List Entry → Type 0
Above place [] = ⊤
Above place (e ∷ es) = (place < e.place) × Above place es

abbrev pub Ascends : List Entry → Type 0
Ascends [] = ⊤
Ascends (e ∷ es) = Above e.place es × Ascends es

-- a queue as it is kept (ours)
pub record IsQueue (queue : List Entry) : Type 0 where
  pub few : length queue ≤ QUEUE_LIMIT
  pub places : greatest_place queue ≤ LAST_NUMBER
  pub orders : greatest_order queue ≤ LAST_NUMBER
  pub ascends : Ascends queue
