-- Turns that were made for a session as it stood before the first are the same for it as the ones before them leave it.
use Rattle.std.proofs.Common.{◌≡◌, ℕ, ◌≤◌, true, false, List, [], ◌∷◌, ◌++◌, length, refl, ap, sym, subst, ◌∙◌}
use Rattle.std.specs.Prelude.{Option, Some, None, option_map}
use Rattle.mqtt_base.specs.declared.session.Phase.TheVariants.{Sent, Released as ReleasedPhase, Oversize}
use Rattle.mqtt_flow.specs.declared.outbound.entry.Turn.{Turn}
use Rattle.mqtt_flow.specs.declared.outbound.entry.Turn.TheVariants as turns
use Rattle.mqtt_records.specs.messages.Queue.{CopyRow}
use Rattle.mqtt_records.specs.lists.Order.{row_at}
use Rattle.mqtt_base.specs.Codes.{success}
use Rattle.mqtt_records.specs.declared.state.session.Session.{Session}
use Rattle.mqtt_records.specs.state.Session.{copy_place}
use Rattle.mqtt_rules.specs.step.Laws.{client_at}
use Rattle.mqtt_rules.specs.step.State.{Broker, session_at}
use Rattle.mqtt_rules.specs.step.Deeds.{Deed, Whose, At, Mark, Leave, On, Went, Send, whose, always, with_session, after_all}
use Rattle.mqtt_rules.specs.step.Outbound.{of_entry, turn_deeds, all_turn_deeds}
use Rattle.mqtt_rules.specs.step.Packets.{publish_of, pubrel}
use Rattle.mqtt_rules.proofs.step_lemmas.acts.LookedUp.{client_at_part}
use Rattle.mqtt_rules.proofs.step_lemmas.fit.Turns.{IsStill, Rises, still_now, stands_turn}
use Rattle.mqtt_broker_step.specs.declared.fault.StepFault.{StepFault}
use Rattle.mqtt_broker_step.specs.Stepping.{Stepping, did, Did, IsLeft}
use Rattle.mqtt_broker_step.proofs.Doing.{did_none, found_birth}
use Rattle.mqtt_broker_queue.specs.queues.Turning.{takes_turn, takes_turns}
use Rattle.mqtt_broker_step.proofs.Then.{same_act, same_left, did_then, left_first, left_then}
use Rattle.mqtt_rules.proofs.step_lemmas.numbers.Counters.{now_stays}
use Rattle.mqtt_broker_step.proofs.Journal.{two}

some_is : {X : Type 0} (x y : X) → Some x ≡ Some y → x ≡ y
some_is x y e = cc

-- ---- whose the session is stays

clients_entry : (birth : ℕ) (who : Whose) (o : Option CopyRow) (f : CopyRow → List Deed) (b : Broker)
    → ((e : CopyRow) → client_at birth (after_all (f e) b).records ≡ client_at birth b.records)
    → client_at birth (after_all (of_entry o f) b).records ≡ client_at birth b.records
clients_entry birth who None f b same = refl
clients_entry birth who (Some e) f b same = same e

client_turn : (moment line birth : ℕ) (x : Session) (t : Turn) (b : Broker)
    → client_at birth (after_all (turn_deeds moment line x t) b).records ≡ client_at birth b.records
client_turn moment line birth x (turns.Send place id) b =
    clients_entry birth (whose x) (row_at copy_place place x.queue)
    (λ e. At (whose x) (Mark place (Sent id)) ∷ On line (Went place) ∷ Send line (publish_of moment false id e.copy) ∷ []) b
    (λ e. client_at_part (whose x) (Mark place (Sent id)) birth b.records)
client_turn moment line birth x (turns.Resend place id) b =
    clients_entry birth (whose x) (row_at copy_place place x.queue)
    (λ e. On line (Went place) ∷ Send line (publish_of moment true id e.copy) ∷ []) b (λ e. refl)
client_turn moment line birth x (turns.Release place id order) b = client_at_part (whose x) (Mark place (ReleasedPhase id order)) birth b.records
client_turn moment line birth x (turns.Outgrow place id order) b = client_at_part (whose x) (Mark place (Oversize id order)) birth b.records
client_turn moment line birth x (turns.Repeat id) b = refl
client_turn moment line birth x (turns.Unknown id) b = refl
client_turn moment line birth x (turns.Leave place ending) b =
    clients_entry birth (whose x) (row_at copy_place place x.queue) (λ e. At (whose x) (Leave e ending) ∷ []) b
    (λ e. client_at_part (whose x) (Leave e ending) birth b.records)

abbrev whose_of : ℕ → List ℕ → Whose
whose_of birth client = record { birth = birth; client = client }

-- sessions with the same birth and client are the same to deeds
pub same_whose : (x y : Session) → y.birth ≡ x.birth → y.client ≡ x.client → whose y ≡ whose x
same_whose x y birth client = two whose_of birth client

-- ---- one turn is the same

turn_same : (moment line n : ℕ) (x y : Session) (t : Turn) (ts : List Turn) → whose y ≡ whose x
    → ((p : ℕ) → n ≤ p → row_at copy_place p y.queue ≡ row_at copy_place p x.queue) → Rises x.queue n (t ∷ ts)
    → turn_deeds moment line y t ≡ turn_deeds moment line x t
turn_same moment line n x y (turns.Send place id) ts who rows rises =
    ap (λ (o : Option CopyRow). of_entry o (λ e. At (whose y) (Mark place (Sent id)) ∷ On line (Went place) ∷ Send line (publish_of moment false id e.copy) ∷ [])) (rows place rises.0)
    ∙ ap (λ (w : Whose). of_entry (row_at copy_place place x.queue) (λ e. At w (Mark place (Sent id)) ∷ On line (Went place) ∷ Send line (publish_of moment false id e.copy) ∷ [])) who
turn_same moment line n x y (turns.Resend place id) ts who rows rises =
    ap (λ (o : Option CopyRow). of_entry o (λ e. On line (Went place) ∷ Send line (publish_of moment true id e.copy) ∷ [])) (rows place rises.0)
turn_same moment line n x y (turns.Release place id order) ts who rows rises =
    ap (λ (w : Whose). At w (Mark place (ReleasedPhase id order)) ∷ Send line (pubrel id success) ∷ []) who
turn_same moment line n x y (turns.Outgrow place id order) ts who rows rises =
    ap (λ (w : Whose). At w (Mark place (Oversize id order)) ∷ Send line (pubrel id success) ∷ []) who
turn_same moment line n x y (turns.Repeat id) ts who rows rises = refl
turn_same moment line n x y (turns.Unknown id) ts who rows rises = refl
turn_same moment line n x y (turns.Leave place ending) ts who rows rises =
    ap (λ (o : Option CopyRow). of_entry o (λ e. At (whose y) (Leave e ending) ∷ [])) (rows place rises.0)
    ∙ ap (λ (w : Whose). of_entry (row_at copy_place place x.queue) (λ e. At w (Leave e ending) ∷ [])) who

-- ---- in the middle of the turns

-- the session is as the turns that are left were made for it
pub record IsAsMade (rest : List Turn) (birth : ℕ) (x : Session) (first s : Stepping) : Type 0 where
  pub n : ℕ
  pub moment : s.broker.now ≡ first.broker.now
  pub key : x.birth ≡ birth
  pub client : client_at birth s.broker.records ≡ Some x.client
  pub still : IsStill n x s.broker
  pub rises : Rises x.queue n rest

-- or there was none, and is none
abbrev pub Stays : List Turn → ℕ → Stepping → Stepping → Option Session → Type 0
Stays rest birth first s None = client_at birth s.broker.records ≡ None
Stays rest birth first s (Some x) = IsAsMade rest birth x first s

-- the session that stands has the same copies where the turns are to come
same_there : (line birth : ℕ) (t : Turn) (ts : List Turn) (x : Session) (first s : Stepping) (o : Option Session) → session_at birth s.broker.records ≡ o
    → IsAsMade (t ∷ ts) birth x first s → with_session o (λ y. always (turn_deeds s.broker.now line y t)) s.broker ≡ turn_deeds first.broker.now line x t
same_there line birth t ts x first s None found made =
    let no : None ≡ Some x.client = sym (ap (λ (o : Option Session). option_map (λ (y : Session). y.client) o) found) ∙ made.client in
    absurd cc
same_there line birth t ts x first s (Some y) found made =
    let key : y.birth ≡ x.birth = found_birth birth s.broker.records.sessions y found ∙ sym made.key in
    let one : Some y.client ≡ Some x.client = sym (ap (λ (o : Option Session). option_map (λ (z : Session). z.client) o) found) ∙ made.client in
    let client : y.client ≡ x.client = some_is y.client x.client one in
    let there : session_at x.birth s.broker.records ≡ Some y = ap (λ n. session_at n s.broker.records) made.key ∙ found in
    turn_same s.broker.now line made.n x y t ts (same_whose x y key client) (λ p le. made.still y p there le) made.rises
    ∙ ap (λ n. turn_deeds n line x t) made.moment

turn_is : (line birth : ℕ) (t : Turn) (ts : List Turn) (first s : Stepping) (o : Option Session) → session_at birth first.broker.records ≡ o
    → Stays (t ∷ ts) birth first s o → takes_turn line birth t s.broker ≡ with_session o (λ x. always (turn_deeds first.broker.now line x t)) first.broker
turn_is line birth t ts first s None found stays = by (session_at birth s.broker.records) stays
  where
    by : (o : Option Session) → option_map (λ (y : Session). y.client) o ≡ None → with_session o (λ y. always (turn_deeds s.broker.now line y t)) s.broker ≡ []
    by None is = refl
    by (Some y) is = absurd cc
turn_is line birth t ts first s (Some x) found stays = same_there line birth t ts x first s (session_at birth s.broker.records) refl stays

-- after one of them
stays_on : (line birth : ℕ) (t : Turn) (ts : List Turn) (first s s2 : Stepping) (o : Option Session)
    → s2.broker ≡ after_all (with_session o (λ x. always (turn_deeds first.broker.now line x t)) first.broker) s.broker
    → Stays (t ∷ ts) birth first s o → Stays ts birth first s2 o
stays_on line birth t ts first s s2 None is stays = ap (λ (b : Broker). client_at birth b.records) is ∙ stays
stays_on line birth t ts first s s2 (Some x) is made =
    let one = stands_turn first.broker.now line x t ts made.n s.broker made.still made.rises in
    record {
      n = one.1.0;
      moment = ap (λ (b : Broker). b.now) is ∙ (now_stays (turn_deeds first.broker.now line x t) s.broker ∙ made.moment);
      key = made.key;
      client = ap (λ (b : Broker). client_at birth b.records) is ∙ (client_turn first.broker.now line birth x t s.broker ∙ made.client);
      still = subst (λ (b : Broker). IsStill one.1.0 x b) (sym is) one.1.1;
      rises = one.1.2;
    }

-- the rest of the turns, if it is done or refused, makes all of them done or refused, and the session is as they need it
pub record Taking (rest all : List Turn) (line birth : ℕ) (first s : Stepping) : Type 0 where
  pub ok : (new : Stepping) → Did (always (takes_turns line birth rest first.broker)) s new → Did (takes_turns line birth all) first new
  pub left : (fault : StepFault) (new : Stepping) → IsLeft (always (takes_turns line birth rest first.broker)) fault s new → IsLeft (takes_turns line birth all) fault first new
  pub stays : Stays rest birth first s (session_at birth first.broker.records)

begins : (birth : ℕ) (all : List Turn) (s : Stepping) (o : Option Session) → session_at birth s.broker.records ≡ o
    → ((x : Session) → o ≡ Some x → Rises x.queue 0 all) → Stays all birth s s o
begins birth all s None found rises = ap (λ (o : Option Session). option_map (λ (y : Session). y.client) o) found
begins birth all s (Some x) found rises =
    let key : x.birth ≡ birth = found_birth birth s.broker.records.sessions x found in
    record {
      n = 0;
      moment = refl;
      key = key;
      client = ap (λ (o : Option Session). option_map (λ (y : Session). y.client) o) found;
      still = still_now x s.broker (ap (λ n. session_at n s.broker.records) key ∙ found);
      rises = rises x refl;
    }

-- before the first turn all of them are left
pub taking_first : (all : List Turn) (line birth : ℕ) (s : Stepping) → ((x : Session) → session_at birth s.broker.records ≡ Some x → Rises x.queue 0 all)
    → Taking all all line birth s s
taking_first all line birth s rises = record {
  ok = λ new is. record { is = is.is };
  left = λ fault new is. record { start = is.start; limits = is.limits; spent = is.spent };
  stays = begins birth all s (session_at birth s.broker.records) refl rises;
}

one_more : (line birth : ℕ) (t : Turn) (ts : List Turn) (o : Option Session) (b : Broker)
    → with_session o (λ x. always (all_turn_deeds b.now line x (t ∷ ts))) b
    ≡ with_session o (λ x. always (turn_deeds b.now line x t)) b ++ with_session o (λ x. always (all_turn_deeds b.now line x ts)) b
one_more line birth t ts None b = refl
one_more line birth t ts (Some x) b = refl

module _ (t : Turn) (ts rest all : List Turn) (line birth : ℕ) (first s : Stepping) (steps : rest ≡ t ∷ ts) (w : Taking rest all line birth first s) where
  abbrev now_first : List Deed
  now_first = takes_turn line birth t first.broker

  abbrev later : List Deed
  later = takes_turns line birth ts first.broker

  both : now_first ++ later ≡ takes_turns line birth rest first.broker
  both = sym (one_more line birth t ts (session_at birth first.broker.records) first.broker) ∙ ap (λ rs. takes_turns line birth rs first.broker) (sym steps)

  as_first : takes_turn line birth t s.broker ≡ now_first
  as_first =
      turn_is line birth t ts first s (session_at birth first.broker.records) refl
      (subst (λ rs. Stays rs birth first s (session_at birth first.broker.records)) steps w.stays)

  -- once the first of the turns that are left is taken, those behind it are left
  pub taking_next : (s2 : Stepping) → Did (takes_turn line birth t) s s2 → Taking ts all line birth first s2
  taking_next s2 is =
      let one : Did (always now_first) s s2 = same_act (takes_turn line birth t) (always now_first) s s2 as_first is in
      record {
        ok = λ new more. w.ok new
            (same_act (λ b. now_first ++ later) (always (takes_turns line birth rest first.broker)) s new both (did_then (always now_first) (always later) s s2 new one more));
        left = λ fault new more. w.left fault new
            (same_left (λ b. now_first ++ later) (always (takes_turns line birth rest first.broker)) fault s new both (left_then (always now_first) (always later) fault s s2 new one more));
        stays = stays_on line birth t ts first s s2 (session_at birth first.broker.records) (ap (λ (z : Stepping). z.broker) one.is)
            (subst (λ rs. Stays rs birth first s (session_at birth first.broker.records)) steps w.stays);
      }

  -- if the next turn is refused, so are all
  pub taking_left : (fault : StepFault) (new : Stepping) → IsLeft (takes_turn line birth t) fault s new → IsLeft (takes_turns line birth all) fault first new
  taking_left fault new is =
      w.left fault new
      (same_left (λ b. now_first ++ later) (always (takes_turns line birth rest first.broker)) fault s new both
      (left_first (always now_first) (always later) fault s new (same_left (takes_turn line birth t) (always now_first) fault s new as_first is)))

nothing_left : (o : Option Session) (line : ℕ) (b : Broker) → with_session o (λ x. always (all_turn_deeds b.now line x [])) b ≡ []
nothing_left None line b = refl
nothing_left (Some x) line b = refl

-- once none is left all were taken
pub taking_last : (rest all : List Turn) (line birth : ℕ) (first s : Stepping) → length rest ≡ 0 → Taking rest all line birth first s → Did (takes_turns line birth all) first s
taking_last [] all line birth first s none w =
    w.ok s (record { is = sym (did_none s) ∙ ap (λ ds. did ds s) (sym (nothing_left (session_at birth first.broker.records) line first.broker)) })
taking_last (t ∷ ts) all line birth first s none w = absurd cc
