-- The deeds of a filter's answer change no retained message.
use Rattle.std.proofs.Common.{◌≡◌, ℕ, Bool, true, false, List, [], ◌∷◌, filter, map, Option, Some, None, refl, ◌∙◌}
use Rattle.std.specs.Prelude.{flat_map}
use Rattle.mqtt_flow.specs.declared.outbound.entry.Turn.{Turn}
use Rattle.mqtt_flow.specs.declared.outbound.entry.Turn.TheVariants.{Send as SendTurn, Resend, Release, Outgrow, Repeat, Unknown, Leave as LeaveTurn}
use Rattle.mqtt_flow.specs.outbound.Outbound.{way_made}
use Rattle.mqtt_records.specs.declared.messages.message.MessageCopy.{MessageCopy}
use Rattle.mqtt_records.specs.declared.state.session.Session.{Session}
use Rattle.mqtt_records.specs.state.Session.{copy_place}
use Rattle.mqtt_records.specs.lists.Order.{row_at}
use Rattle.mqtt_rules.specs.step.State.{Broker, Env, session_at, line_of, queue_on}
use Rattle.mqtt_rules.specs.step.Deeds.{Act, Deed, Whose, whose, Part, At, Count, Subscribe, Enter, Leave, after, after_all, stored_after, always}
use Rattle.mqtt_rules.specs.step.Fitting.{has_form}
use Rattle.mqtt_rules.specs.step.Outbound.{leave_deeds, enter_deeds, queue_limits, since}
use Rattle.mqtt_rules.specs.step.Packets.{publish_of}
use Rattle.mqtt_rules.specs.step.Routing.{CopyTo, is_queued, deliver, deliver_by}
use Rattle.mqtt_rules.specs.step.Subscribe.{Wish, answer_by, subscription, filter_answer_of}
use Rattle.mqtt_rules.proofs.step_lemmas.acts.Offers.{of_offer_if}
use Rattle.mqtt_rules.proofs.step_lemmas.acts.Goods.{AreGood, GoodAct, good_append, good_flat, good_series, good_acts, good_of_session, good_of_entry}
use Rattle.mqtt_rules.proofs.step_lemmas.order.OrderedRoom.{at_retained}

-- the deed leaves the retained messages as they are
pub record Keeps (d : Deed) (b : Broker) : Type 0 where
  pub same : (stored_after d b.records).retained ≡ b.records.retained

all_keep : (ds : List Deed) (b : Broker) → AreGood Keeps ds b → (after_all ds b).records.retained ≡ b.records.retained
all_keep [] b g = refl
all_keep (d ∷ ds) b g = all_keep ds (after d b) g.1 ∙ g.0.same

at_keeps : (who : Whose) (part : Part) (b : Broker) → Keeps (At who part) b
at_keeps who part b = record { same = at_retained part b.records (session_at who.birth b.records) }

-- ---- copies

leave_keeps : (s : Session) (t : Turn) (b : Broker) → AreGood Keeps (leave_deeds s t) b
leave_keeps s (LeaveTurn place ending) b =
    good_of_entry Keeps (row_at copy_place place s.queue) (λ e. At (whose s) (Leave e ending) ∷ []) b (λ e. (at_keeps (whose s) (Leave e ending) b, tt))
leave_keeps s (SendTurn place id) b = tt
leave_keeps s (Resend place id) b = tt
leave_keeps s (Release place id order) b = tt
leave_keeps s (Outgrow place id order) b = tt
leave_keeps s (Repeat id) b = tt
leave_keeps s (Unknown id) b = tt

enter_keeps : (env : Env) (copy : MessageCopy) (s : Session) (b : Broker) → AreGood Keeps (enter_deeds env copy s) b
enter_keeps env copy s b =
    let ts : List Turn = way_made (queue_limits env) (since env s) (queue_on [] s) in
    good_append Keeps (flat_map (leave_deeds s) ts) (At (whose s) (Enter copy) ∷ []) b
    (good_flat Keeps (leave_deeds s) (leave_keeps s) ts b)
    (at_keeps (whose s) (Enter copy) (after_all (flat_map (leave_deeds s) ts) b), tt)

deliver_keeps : (env : Env) (d : CopyTo) → GoodAct Keeps (deliver env d)
deliver_keeps env d b = by (is_queued d)
  where
    by : (t : Bool) → AreGood Keeps (deliver_by t env d b) b
    by true = good_of_session Keeps d.birth (λ s. always (enter_deeds env d.copy s)) (λ s c. enter_keeps env d.copy s c) b
    by false = of_offer_if (λ (ds : List Deed). AreGood Keeps ds b) (has_form d.copy b) (line_of d.birth b) (publish_of b.now false 0 d.copy) tt (λ l there. (record { same = refl }, tt))

-- ---- an answer

grant_keeps : (number : ℕ) (s : Session) (w : Wish) → GoodAct Keeps (always (Count number ∷ At (whose s) (Subscribe (subscription number s w)) ∷ []))
grant_keeps number s w b =
    (record { same = refl }, (at_keeps (whose s) (Subscribe (subscription number s w)) (after (Count number) b), tt))

by_keeps : (valid room : Bool) (env : Env) (number : ℕ) (s : Session) (w : Wish) (ds : List CopyTo) (b : Broker) → AreGood Keeps (answer_by valid room env number s w ds b).deeds b
by_keeps false room env number s w ds b = tt
by_keeps true false env number s w ds b = tt
by_keeps true true env number s w ds b =
    let first : Act = always (Count number ∷ At (whose s) (Subscribe (subscription number s w)) ∷ []) in
    good_series Keeps (first ∷ map (deliver env) (filter is_queued ds))
    (grant_keeps number s w, good_acts Keeps (deliver env) (deliver_keeps env) (filter is_queued ds)) b

answer_keeps : (env : Env) (wish : Option Wish) (b : Broker) (o : Option Session) → AreGood Keeps (filter_answer_of env wish b o).deeds b
answer_keeps env wish b None = tt
answer_keeps env None b (Some s) = tt
answer_keeps env (Some w) b (Some s) = by_keeps _ _ env _ s w _ b

-- whatever becomes of a wish
pub retained_stays : (env : Env) (wish : Option Wish) (b : Broker) (o : Option Session) → (after_all (filter_answer_of env wish b o).deeds b).records.retained ≡ b.records.retained
retained_stays env wish b o = all_keep (filter_answer_of env wish b o).deeds b (answer_keeps env wish b o)
