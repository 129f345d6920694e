-- What needs no act: a line is linked, a turn of sending without copies, and a line that isn't linked.
use Rattle.std.proofs.Common.{◌≡◌, ℕ, suc, Bool, true, false, cond, List, [], ◌∷◌, length, map, Option, Some, refl, ap, sym, ◌∙◌}
use Rattle.std.specs.Prelude.{None, IfSome, option_map}
use Rattle.mqtt_flow.specs.declared.outbound.entry.Entry.{Entry}
use Rattle.mqtt_flow.specs.declared.outbound.entry.Way.{Way}
use Rattle.mqtt_flow.specs.outbound.Outbound.{pump}
use Rattle.mqtt_records.specs.declared.state.session.Session.{Session}
use Rattle.mqtt_records.specs.messages.Queue.{CopyRow}
use Rattle.mqtt_records.specs.declared.state.records.Records.{Records}
use Rattle.mqtt_rules.specs.declared.step.Capacity.{Capacity}
use Rattle.mqtt_rules.specs.step.Deeds.{Deed, Link, after_all, always, rows_of_all, with_line, with_session}
use Rattle.mqtt_rules.specs.step.Fitting.{fitted, size_at, sized}
use Rattle.mqtt_rules.specs.step.Inbound.{pump_deeds}
use Rattle.mqtt_rules.specs.step.Outbound.{all_turn_deeds, way_of}
use Rattle.mqtt_rules.specs.step.State.{Line, Broker, MemberChoice, line_at, session_at, told_on}
use Rattle.mqtt_rules.specs.step.Step.{BrokerStep, Call, NewLine, Input, BadInput, Lost, Pump, Tick, at_moment, can_link, deeds, done, is_again, is_spent, is_step_spent, nothing_told, on_pump, outcome_of, rows_written, stamped, stepped, Outcome as Told}
use Rattle.mqtt_broker_step.specs.Doing.{after_act, links}
use Rattle.mqtt_broker.specs.declared.stored.outcome.Outcome.{Outcome}
use Rattle.mqtt_broker.specs.engine.Looks.{copies_for, copies_on, queue_on_line}
use Rattle.mqtt_broker.specs.stored.Calling.{IsAnswered, IsOn, Tells}

-- a choice of members, which no line asks for
abbrev pub first_members : MemberChoice
first_members = λ number sender. []

abbrev link_if : Bool → ℕ → List Deed
link_if may n = cond may (Link n ∷ []) []

-- ---- a line is linked: it has no row, and tells nothing

linked_done : (may : Bool) (n : ℕ) (b : Broker) → after_all (link_if may n) b ≡ done (link_if may n) b
linked_done true n b = refl
linked_done false n b = refl

linked_unspent : (may : Bool) (n now was : ℕ) (r : Records) → is_spent (stamped now was (rows_of_all (link_if may n) r)) ≡ false
linked_unspent true n now was r = refl
linked_unspent false n now was r = refl

linked_told : (may : Bool) (n : ℕ) (b : Broker) → nothing_told ≡ outcome_of NewLine (link_if may n) b
linked_told true n b = refl
linked_told false n b = refl

linked_records : (may : Bool) (n : ℕ) (b : Broker) → (after_all (link_if may n) b).records ≡ b.records
linked_records true n b = refl
linked_records false n b = refl

-- the line that is linked is the step of the rules
pub linked_step : (limits : Capacity) (now : ℕ) (b : Broker) → after_act (links limits) (at_moment now b) ≡ stepped limits first_members now NewLine b
linked_step limits now b = linked_done (can_link limits (at_moment now b)) (suc b.given) (at_moment now b)

-- it spends no number
pub link_unspent : (limits : Capacity) (now : ℕ) (b : Broker) → is_step_spent limits first_members now NewLine b ≡ false
link_unspent limits now b = linked_unspent (can_link limits (at_moment now b)) (suc b.given) (at_moment now b).now b.records.moment b.records

-- and stores nothing
pub link_records : (limits : Capacity) (now : ℕ) (b : Broker) → (after_act (links limits) (at_moment now b)).records ≡ b.records
link_records limits now b = linked_records (can_link limits (at_moment now b)) (suc b.given) (at_moment now b)

-- so it is a step of the broker, which tells nothing
pub linked : (limits : Capacity) (now : ℕ) (b new : Broker) → new ≡ after_act (links limits) (at_moment now b) → BrokerStep limits b now NewLine nothing_told new
linked limits now b new is = record {
  choice = first_members;
  unspent = link_unspent limits now b;
  new_is = is ∙ linked_step limits now b;
  out_is = linked_told (can_link limits (at_moment now b)) (suc b.given) (at_moment now b);
}

-- ---- a call that does nothing

abbrev nothing_more : Bool → Told
nothing_more again = record nothing_told { again = again }

answered_none : (limits : Capacity) (now : ℕ) (call : Call) (b new : Broker) (out : Outcome) → deeds limits first_members now call b ≡ [] → is_again call [] ≡ false
    → new ≡ at_moment now b → Tells nothing_told out → IsAnswered limits b now call out new
answered_none limits now call b new out none last is tells = record {
  told = nothing_told;
  tells = tells;
  step = record {
    choice = first_members;
    unspent = ap (λ ds. is_spent (rows_written ds (at_moment now b))) none;
    new_is = is ∙ sym (ap (λ ds. done ds (at_moment now b)) none);
    out_is = sym (ap (λ ds. outcome_of call ds (at_moment now b)) none ∙ ap nothing_more last);
  };
}

-- ---- a turn of sending without copies

none_left : {X : Type 0} (xs : List X) → length xs ≡ 0 → xs ≡ []
none_left [] e = refl
none_left (x ∷ xs) e = absurd cc

no_turns : (way : Way) (entry : CopyRow → Entry) (queue : List CopyRow) → queue ≡ [] → pump way (map entry queue) ≡ []
no_turns way entry queue none = ap (λ (q : List CopyRow). pump way (map entry q)) none

nothing_pumped : (l : Line) (b : Broker) (s : Session) → s.queue ≡ [] → pump_deeds l b s ≡ []
nothing_pumped l b s none =
    ap (all_turn_deeds b.now l.number s)
    (no_turns (way_of l b.now) (sized (size_at (fitted l b.now (told_on l.number b.tellings) s.queue)) l.went) s.queue none)

-- it has no deeds; nor has one on a line without a session
no_copies : (now line : ℕ) (b : Broker) → IfSome (queue_on_line line b) (λ copies. copies ≡ 0) → with_line (line_at line b) (λ l. on_pump l l.session) (at_moment now b) ≡ []
no_copies now line b = by (line_at line b)
  where
    has : (l : Line) (o : Option Session) → IfSome (option_map (λ (s : Session). length s.queue) o) (λ copies. copies ≡ 0) → with_session o (λ s. always (pump_deeds l (at_moment now b) s)) (at_moment now b) ≡ []
    has l None e = refl
    has l (Some s) e = nothing_pumped l (at_moment now b) s (none_left s.queue e)

    on : (l : Line) (o : Option ℕ) → IfSome (copies_for o b) (λ copies. copies ≡ 0) → on_pump l o (at_moment now b) ≡ []
    on l None e = refl
    on l (Some birth) e = has l (session_at birth b.records) e

    by : (o : Option Line) → IfSome (copies_on (option_map (λ (l : Line). l.session) o) b) (λ copies. copies ≡ 0) → with_line o (λ l. on_pump l l.session) (at_moment now b) ≡ []
    by None e = refl
    by (Some l) e = on l l.session e

-- so it is a step that does nothing but that time goes on
pub pumped_nothing : (limits : Capacity) (now line : ℕ) (b : Broker) (out : Outcome) → IfSome (queue_on_line line b) (λ copies. copies ≡ 0) → Tells nothing_told out → IsAnswered limits b now (Pump line) out (at_moment now b)
pumped_nothing limits now line b out none tells = answered_none limits now (Pump line) b (at_moment now b) out (no_copies now line b none) refl refl tells

-- ---- a call on a line that isn't linked

no_line : (line n : ℕ) (b : Broker) → line_at line b ≡ None → n ≡ line → line_at n b ≡ None
no_line line n b none same = ap (λ k. line_at k b) same ∙ none

-- a call on a line that isn't linked is a step that does nothing but that time goes on
pub passed_over : (limits : Capacity) (now line : ℕ) (b new : Broker) (out : Outcome) → line_at line b ≡ None → new ≡ at_moment now b → Tells nothing_told out
    → (call : Call) → IsOn line call → IsAnswered limits b now call out new
passed_over limits now line b new out none is tells NewLine on = absurd on
passed_over limits now line b new out none is tells (Input n packet) on =
    answered_none limits now (Input n packet) b new out (rw (no_line line n b none on) refl) refl is tells
passed_over limits now line b new out none is tells (BadInput n is_connect code) on =
    answered_none limits now (BadInput n is_connect code) b new out (rw (no_line line n b none on) refl) refl is tells
passed_over limits now line b new out none is tells (Lost n) on =
    answered_none limits now (Lost n) b new out (rw (no_line line n b none on) refl) refl is tells
passed_over limits now line b new out none is tells (Pump n) on =
    answered_none limits now (Pump n) b new out (rw (no_line line n b none on) refl) refl is tells
passed_over limits now line b new out none is tells Tick on = absurd on
