-- What the broker makes of a line on which it reads a receiver's CONNECT: its session is connected there, by what the CONNECT asks
-- for (MQTT 5.0, 3.1.2, 3.1.4).
use Rattle.std.proofs.Common.{◌≡◌, ℕ, suc, Bool, true, false, List, [], ◌∷◌, ◌++◌, length, map, Option, Some, None, nat_eq, nat_lt, refl, ap, subst, ◌∙◌, append-nil, inl, inr}
use Rattle.std.specs.Prelude.{find, option_map}
use Rattle.std.proofs.lemmas.Bool.{cases_Bool, eqb-true}
use Rattle.mqtt_base.specs.Codes.{success}
use Rattle.mqtt_flow.specs.outbound.Outbound.{due_from}
use Rattle.mqtt_flow.specs.outbound.Receiver.{connect}
use Rattle.mqtt_flow.specs.declared.outbound.entry.Turn.TheVariants as turns
use Rattle.mqtt_world_model.specs.model.Ends.{Receiver, answers, wire_back}
use Rattle.mqtt_world_model.specs.model.Hops.{IsKept, lines_left}
use Rattle.mqtt_world_model.proofs.model_lemmas.connects.CleanConnects.{ended_by}
use Rattle.mqtt_world_model.proofs.model_lemmas.connects.Connects.{heard_line_of, heard_on_line, left_by, left_leaves, taken_birth, taken_from}
use Rattle.mqtt_world_model.proofs.model_lemmas.own.OwnStep.{heard_of}
use Rattle.mqtt_world_model.proofs.model_lemmas.others.Quiet.{session_on}
use Rattle.mqtt_world_model.proofs.model_lemmas.seats.Seeing.{done_lines}
use Rattle.mqtt_records.specs.declared.state.session.Session.{Session}
use Rattle.mqtt_rules.proofs.step_lemmas.acts.Goods.{after_append}
use Rattle.mqtt_rules.specs.step.Connect.{on_connect}
use Rattle.mqtt_rules.specs.step.Deeds.{Deed, Greet, Hear, On, Send, after, after_all, line_after, on_line, rows_of_all}
use Rattle.mqtt_rules.specs.step.Outbound.{all_turn_deeds}
use Rattle.mqtt_rules.specs.step.Packets.{pubrel}
use Rattle.mqtt_rules.specs.step.State.{Line as BrokerLine, Broker, MemberChoice, line_at, line_of, queue_on}
use Rattle.mqtt_rules.specs.step.Step.{Input, at_moment, deeds, env_of}
use Rattle.mqtt_rules.specs.declared.step.Capacity.{Capacity}
use Rattle.mqtt_world_laws.specs.receiver.Calls.{IsBeginning, IsRenewing, IsResuming}
use Rattle.mqtt_world_laws.specs.receiver.Connecting.{any_size}
use Rattle.mqtt_world_laws.specs.receiver.Handing.{after_answer}
use Rattle.mqtt_world_laws.proofs.receiver_lemmas.connects.Beginning.{Clears, first_clears}
use Rattle.mqtt_world_laws.proofs.receiver_lemmas.connects.Renewing.{renewed_clears}
use Rattle.mqtt_world_laws.proofs.receiver_lemmas.connects.Resuming.{beginning, call_is, connect_is, granted, greeting, resuming}

-- this session is connected on the line of this number, without Keep Alive, with this Receive Maximum and packets of any size
pub record IsGreeted (n birth window : ℕ) (l : BrokerLine) : Type 0 where
  pub number : l.number ≡ n
  pub connected : l.session ≡ Some birth
  pub quiet : l.keep_alive ≡ 0
  pub window_is : l.window ≡ window
  pub largest_is : l.largest ≡ any_size

-- a line of this number stands, on which the session is connected as the CONNECT asked
pub record HasGreeted (n birth window : ℕ) (b : Broker) : Type 0 where
  pub line : BrokerLine
  pub at : line_at n b ≡ Some line
  pub greeted : IsGreeted n birth window line

abbrev found_in : ℕ → List BrokerLine → Option BrokerLine
found_in n ls = find (λ (l : BrokerLine). nat_eq l.number n) ls

greeted_in : (now n birth window most : ℕ) (ls : List BrokerLine) → session_on n ls ≡ Some None
    → (l : BrokerLine) × (found_in n (on_line now n (Greet birth 0 window any_size most) ls) ≡ Some l) × IsGreeted n birth window l
greeted_in now n birth window most [] h = absurd cc
greeted_in now n birth window most (l ∷ ls) h = elim (cases_Bool (nat_eq l.number n)) [
  | inl here ↦ (line_after now (Greet birth 0 window any_size most) l, rw (here, here) refl, record { number = eqb-true l.number n here; connected = refl; quiet = refl; window_is = refl; largest_is = refl })
  | inr further ↦ let x = greeted_in now n birth window most ls (rw further at h) in (x.0, rw (further, further) x.1, x.2)
]

greeted_by : (now n birth window most : ℕ) (ls : List BrokerLine) (b : Broker) → session_on n ls ≡ Some None → b.lines ≡ on_line now n (Greet birth 0 window any_size most) ls → HasGreeted n birth window b
greeted_by now n birth window most ls b on e = let x = greeted_in now n birth window most ls on in record { line = x.0; at = ap (found_in n) e ∙ x.1; greeted = x.2 }

-- what goes out again leaves the lines as they are
repeats_lines : {X : Type 0} (now n : ℕ) (s : Session) (xs : List X) (id : X → ℕ) (b : Broker) → (after_all (all_turn_deeds now n s (map (λ x. turns.Repeat (id x)) xs)) b).lines ≡ b.lines
repeats_lines now n s [] id b = refl
repeats_lines now n s (x ∷ xs) id b = repeats_lines now n s xs id (after (Send n (pubrel (id x) success)) b)

waits_on : (l : BrokerLine) (b : Broker) → line_at l.number b ≡ Some l → l.session ≡ None → session_on l.number b.lines ≡ Some None
waits_on l b at waits = ap (option_map (λ (x : BrokerLine). x.session)) at ∙ ap Some waits

-- if the session is resumed
pub resumed_line : (limits : Capacity) (choice : MemberChoice) (now : ℕ) (r : Receiver) (l : BrokerLine) (s : Session) (b : Broker) → IsResuming r l s b
    → HasGreeted l.number s.birth r.window (after_answer limits choice now l.number (connect false) r b)
resumed_line limits choice now r l s b a =
    let n = l.number in
    let call = Input n (wire_back r.client r.window r.aliases (answers (connect false))) in
    let ds = deeds limits choice now call b in
    let first = at_moment now b in
    let c = heard_of now n b in
    let env = env_of limits choice b in
    let heard_line = heard_line_of s.birth n now b (line_of s.birth b) refl a.taken in
    let o = heard_line.0 in
    let t = heard_line.2 in
    let kept : IsKept r.client s c = record { session = a.kept.session; name = a.kept.name; only = a.kept.only; no_will = a.kept.no_will; no_end = a.kept.no_end; short = a.kept.short; plain = a.kept.plain } in
    let x = taken_from o c.now s in
    let front = left_by o s c.now in
    let left = after_all front c in
    let resumes = resuming l r.window r.aliases c.now x in
    let is : ds ≡ On n Hear ∷ (front ++ resumes) =
    call_is limits choice now false r.client r.window r.aliases l b a.line a.waits
    ∙ (ap (λ (zs : List Deed). On n Hear ∷ zs) (append-nil (on_connect env l (greeting false r.client r.window r.aliases) c))
    ∙ ap (λ (zs : List Deed). On n Hear ∷ zs) (connect_is o env l r.client r.window r.aliases s c heard_line.1 t kept)) in
    let on : session_on n c.lines ≡ Some None = heard_on_line n first.now b.lines None (waits_on l b a.line a.waits) in
    let still : session_on n left.lines ≡ Some None = (left_leaves o s n c (Some None) t a.kept.session on).line_is in
    let dues = due_from [] (queue_on [] x) in
    let same : x.birth ≡ s.birth = taken_birth o c.now s in
    let lines : (after_answer limits choice now n (connect false) r b).lines ≡ on_line left.now n (Greet x.birth 0 r.window any_size (granted r.aliases)) left.lines =
    done_lines (rows_of_all ds first.records) (after_all ds first)
    ∙ (ap (λ (zs : List Deed). (after_all zs first).lines) is
    ∙ (ap (λ (z : Broker). z.lines) (after_append front resumes c) ∙ repeats_lines c.now n x dues (λ d. d.identifier) _)) in
    subst (λ (k : ℕ). HasGreeted n k r.window (after_answer limits choice now n (connect false) r b)) same (greeted_by left.now n x.birth r.window (granted r.aliases) left.lines _ still lines)

-- if one begins
begun_line : (limits : Capacity) (choice : MemberChoice) (now : ℕ) (clean : Bool) (r : Receiver) (l : BrokerLine) (b : Broker) (front : List Deed) (ns : List ℕ) → Clears limits choice now clean r l b front ns
    → HasGreeted l.number (suc (after_all front (heard_of now l.number b)).records.births) r.window (after_answer limits choice now l.number (connect clean) r b)
begun_line limits choice now clean r l b front ns c =
    let n = l.number in
    let ds = deeds limits choice now (Input n (wire_back r.client r.window r.aliases (answers (connect clean)))) b in
    let first = at_moment now b in
    let d = after_all front (heard_of now n b) in
    let birth = suc d.records.births in
    let begins = beginning l r.window r.aliases r.client birth in
    let lines : (after_answer limits choice now n (connect clean) r b).lines ≡ on_line d.now n (Greet birth 0 r.window any_size (granted r.aliases)) d.lines =
    done_lines (rows_of_all ds first.records) (after_all ds first)
    ∙ (ap (λ (zs : List Deed). (after_all zs first).lines) c.deeds_are ∙ ap (λ (z : Broker). z.lines) (after_append front begins (heard_of now n b))) in
    greeted_by d.now n birth r.window (granted r.aliases) d.lines _ c.waits lines

-- the first of its name
pub first_line : (limits : Capacity) (choice : MemberChoice) (now : ℕ) (clean : Bool) (r : Receiver) (l : BrokerLine) (b : Broker) → IsBeginning limits r l b → nat_lt (length b.records.sessions) limits.sessions ≡ true
    → HasGreeted l.number (suc b.records.births) r.window (after_answer limits choice now l.number (connect clean) r b)
first_line limits choice now clean r l b a room = begun_line limits choice now clean r l b [] [] (first_clears limits choice now clean r l b a room)

-- instead of the one before
pub renewed_line : (limits : Capacity) (choice : MemberChoice) (now : ℕ) (r : Receiver) (l : BrokerLine) (s : Session) (b : Broker) → IsRenewing limits r l s b
    → HasGreeted l.number (suc b.records.births) r.window (after_answer limits choice now l.number (connect true) r b)
renewed_line limits choice now r l s b a =
    let x = renewed_clears limits choice now r l s b a in
    subst (λ (k : ℕ). HasGreeted l.number (suc k) r.window (after_answer limits choice now l.number (connect true) r b)) x.births_are
    (begun_line limits choice now true r l b (ended_by x.its s (heard_of now l.number b).now) (lines_left (line_of s.birth b)) x.clears)

-- the session is connected there
pub greeted_on : (n birth window : ℕ) (b : Broker) → HasGreeted n birth window b → session_on n b.lines ≡ Some (Some birth)
greeted_on n birth window b h = ap (option_map (λ (y : BrokerLine). y.session)) h.at ∙ ap Some h.greeted.connected
