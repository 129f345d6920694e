-- A broker that began with nothing stored goes on sending well, with whatever code a fault was told: its code is in what goes out
-- alone, so what is stored is as with the code of a fault (MQTT 5.0, 2.2.1, 4.1, 4.13).
use Rattle.std.proofs.Common.{◌≡◌, ℕ, Bool, true, false, List, [], ◌∷◌, ◌++◌, Option, Some, None, nat_eq, refl, sym, ap, subst, ◌∙◌, inl, inr}
use Rattle.std.specs.Prelude.{find}
use Rattle.std.proofs.lemmas.Bool.{cases_Bool}
use Rattle.mqtt_packet.specs.declared.codec.packet.Packet.{Packet}
use Rattle.mqtt_packet.specs.parts.Faults.{answer_to}
use Rattle.mqtt_packet.specs.declared.parts.fault.Fault.TheVariants.{Malformed}
use Rattle.mqtt_records.specs.state.Records.{nothing}
use Rattle.mqtt_records.specs.declared.state.change.Change.{Change}
use Rattle.mqtt_records.specs.declared.state.records.Records.{Records}
use Rattle.mqtt_rules.specs.step.Contents.{TakesLawful}
use Rattle.mqtt_rules.specs.step.Laws.{Asked, Event, Reopened, after_event, after_events, blank}
use Rattle.mqtt_rules.specs.step.Piece.{code_of}
use Rattle.mqtt_rules.specs.step.Closing.{close}
use Rattle.mqtt_rules.specs.step.Packets.{connack, disconnect}
use Rattle.mqtt_rules.specs.step.State.{Broker, Env, Line, MemberChoice, Telling, line_at}
use Rattle.mqtt_rules.specs.step.Step.{BadInput, Call, Input, Lost, NewLine, Pump, Tick, at_moment, done, env_of, is_opening_spent, is_spent, is_step_spent, late_code, on_fault, rows_written, stamped, stepped, with_moment}
use Rattle.mqtt_rules.specs.step.Deeds.{Send, after, after_all, rows_of_all, tells, tells_on, with_line}
use Rattle.mqtt_rules.specs.declared.step.Capacity.{Capacity}
use Rattle.mqtt_rules.proofs.step_lemmas.contents.LawfulContents.{lawful_contents}
use Rattle.mqtt_rules.proofs.step_lemmas.fit.LawfulRecords.{lawful_coherent}
use Rattle.mqtt_topic.specs.sending.Told.{ToldTopics}
use Rattle.mqtt_world_laws.specs.acceptance.Fair.{opened_world}
use Rattle.mqtt_rules.specs.spelling.Sending.{HaveSentPhases, IsAsked, SendsWell, TellsFault}
use Rattle.mqtt_rules.proofs.spelling_lemmas.Steps.{well_begun, well_reopened, well_stepped}
use Rattle.mqtt_broker.specs.reopening.Written.{AreFair, IsFair, IsWritten}
use Rattle.mqtt_broker.proofs.reopening_lemmas.WrittenKept.{nothing_written, run_written}
use Rattle.mqtt_world.specs.reopening.Reached.{WasLeft}

-- ---- a fault's code is in what goes out alone

-- a packet that tells nothing leaves what clients were told
told_nothing : (n : ℕ) (o : Option Line) (packet : Packet) → ((told : ToldTopics) → tells o packet told ≡ told) → (ts : List Telling) → tells_on n o packet ts ≡ ts
told_nothing n o packet none [] = refl
told_nothing n o packet none (t ∷ ts) = elim (cases_Bool (nat_eq t.line n)) [
  | inl here ↦ rw here (ap (λ (told : ToldTopics). let x : Telling = record t { topics = told } in x ∷ ts) (none t.topics))
  | inr other ↦ rw other (ap (λ (us : List Telling). t ∷ us) (told_nothing n o packet none ts))
]

sent_same : (n : ℕ) (packet : Packet) (b : Broker) → ((o : Option Line) (told : ToldTopics) → tells o packet told ≡ told) → after (Send n packet) b ≡ b
sent_same n packet b none =
    let o = find (λ (l : Line). nat_eq l.number n) b.lines in
    ap (λ (ts : List Telling). let x : Broker = record b { tellings = ts } in x) (told_nothing n o packet (none o) b.tellings)

-- such are DISCONNECT and CONNACK
goodbye_tells : (code : ℕ) (o : Option Line) (told : ToldTopics) → tells o (disconnect code) told ≡ told
goodbye_tells code None told = refl
goodbye_tells code (Some l) told = refl

refusal_tells : (code : ℕ) (o : Option Line) (told : ToldTopics) → tells o (connack false code []) told ≡ told
refusal_tells code None told = refl
refusal_tells code (Some l) told = refl

-- what becomes of a line that closes once a packet went out on it, and the rows of that
abbrev closes_on : Env → Line → Broker → Broker → Broker
closes_on env l b c = with_moment (rows_of_all (close env true l c ++ []) b.records) (after_all (close env true l c ++ []) c)

abbrev rows_on : Env → Line → Broker → Broker → List Change
rows_on env l b c = stamped b.now b.records.moment (rows_of_all (close env true l c ++ []) b.records)

module _ (env : Env) (l : Line) (b : Broker) where
  two_done : (p q : Packet) → ((o : Option Line) (told : ToldTopics) → tells o p told ≡ told) → ((o : Option Line) (told : ToldTopics) → tells o q told ≡ told)
      → closes_on env l b (after (Send l.number p) b) ≡ closes_on env l b (after (Send l.number q) b)
  two_done p q first second = ap (closes_on env l b) (sent_same l.number p b first ∙ sym (sent_same l.number q b second))

  two_rows : (p q : Packet) → ((o : Option Line) (told : ToldTopics) → tells o p told ≡ told) → ((o : Option Line) (told : ToldTopics) → tells o q told ≡ told)
      → rows_on env l b (after (Send l.number p) b) ≡ rows_on env l b (after (Send l.number q) b)
  two_rows p q first second = ap (rows_on env l b) (sent_same l.number p b first ∙ sym (sent_same l.number q b second))

same_done : (env : Env) (l : Line) (t : Bool) (code other : ℕ) (o : Option ℕ) (b : Broker) → done (on_fault env l t code o b) b ≡ done (on_fault env l t other o b) b
same_done env l true code other None b = two_done env l b (connack false code []) (connack false other []) (refusal_tells code) (refusal_tells other)
same_done env l false code other None b = refl
same_done env l t code other (Some birth) b = two_done env l b (disconnect (late_code code)) (disconnect (late_code other)) (goodbye_tells (late_code code)) (goodbye_tells (late_code other))

same_rows : (env : Env) (l : Line) (t : Bool) (code other : ℕ) (o : Option ℕ) (b : Broker) → rows_written (on_fault env l t code o b) b ≡ rows_written (on_fault env l t other o b) b
same_rows env l true code other None b = two_rows env l b (connack false code []) (connack false other []) (refusal_tells code) (refusal_tells other)
same_rows env l false code other None b = refl
same_rows env l t code other (Some birth) b = two_rows env l b (disconnect (late_code code)) (disconnect (late_code other)) (goodbye_tells (late_code code)) (goodbye_tells (late_code other))

line_done : (env : Env) (t : Bool) (code other : ℕ) (o : Option Line) (b : Broker)
    → done (with_line o (λ l. on_fault env l t code l.session) b) b ≡ done (with_line o (λ l. on_fault env l t other l.session) b) b
line_done env t code other None b = refl
line_done env t code other (Some l) b = same_done env l t code other l.session b

line_rows : (env : Env) (t : Bool) (code other : ℕ) (o : Option Line) (b : Broker)
    → rows_written (with_line o (λ l. on_fault env l t code l.session) b) b ≡ rows_written (with_line o (λ l. on_fault env l t other l.session) b) b
line_rows env t code other None b = refl
line_rows env t code other (Some l) b = same_rows env l t code other l.session b

-- the call with the code of a malformed packet in its place
abbrev as_fault : Call → Call
as_fault (BadInput n t code) = BadInput n t (code_of (answer_to Malformed))
as_fault call = call

tells_fault : (call : Call) → TellsFault (as_fault call)
tells_fault NewLine = tt
tells_fault (Input n packet) = tt
tells_fault (BadInput n t code) = (Malformed, refl)
tells_fault (Lost n) = tt
tells_fault (Pump n) = tt
tells_fault Tick = tt

takes_lawful : (call : Call) → TakesLawful call → TakesLawful (as_fault call)
takes_lawful NewLine h = tt
takes_lawful (Input n packet) h = h
takes_lawful (BadInput n t code) h = tt
takes_lawful (Lost n) h = tt
takes_lawful (Pump n) h = tt
takes_lawful Tick h = tt

same_step : (limits : Capacity) (choice : MemberChoice) (now : ℕ) (call : Call) (b : Broker) → stepped limits choice now (as_fault call) b ≡ stepped limits choice now call b
same_step limits choice now NewLine b = refl
same_step limits choice now (Input n packet) b = refl
same_step limits choice now (BadInput n t code) b = let c = at_moment now b in line_done (env_of limits choice b) t (code_of (answer_to Malformed)) code (line_at n c) c
same_step limits choice now (Lost n) b = refl
same_step limits choice now (Pump n) b = refl
same_step limits choice now Tick b = refl

same_spent : (limits : Capacity) (choice : MemberChoice) (now : ℕ) (call : Call) (b : Broker) → is_step_spent limits choice now (as_fault call) b ≡ is_step_spent limits choice now call b
same_spent limits choice now NewLine b = refl
same_spent limits choice now (Input n packet) b = refl
same_spent limits choice now (BadInput n t code) b = let c = at_moment now b in ap is_spent (line_rows (env_of limits choice b) t (code_of (answer_to Malformed)) code (line_at n c) c)
same_spent limits choice now (Lost n) b = refl
same_spent limits choice now (Pump n) b = refl
same_spent limits choice now Tick b = refl

-- ---- event by event

blank_sends : SendsWell blank
blank_sends = record { contents = record { stored = lawful_contents nothing nothing_written.lawful; lines = tt }; ordered = (lawful_coherent nothing nothing_written.lawful).ordered; phases = tt }

event_sends : (e : Event) (b : Broker) → IsFair e b → SendsWell b → SendsWell (after_event e b)
event_sends (Asked limits choice now call) b fair h =
    let asked : IsAsked limits choice now (as_fault call) b = record { taken = takes_lawful call fair.1; tells = tells_fault call; unspent = same_spent limits choice now call b ∙ fair.2 } in
    subst SendsWell (same_step limits choice now call b) (well_stepped limits choice now (as_fault call) b asked h)
event_sends (Reopened limits choice now) b fair h = well_reopened limits choice now b fair.1 h

events_send : (es : List Event) (b : Broker) → AreFair es b → SendsWell b → SendsWell (after_events es b)
events_send [] b fair h = h
events_send (e ∷ es) b fair h = events_send es (after_event e b) fair.1 (event_sends e b fair.0 h)

-- ---- what it has left

-- it is such as a broker writes
pub left_written : (r : Records) → WasLeft r → IsWritten r
left_written r w = subst IsWritten w.is (run_written w.events w.fair)

-- identifiers in flight have two bytes
pub left_phases : (r : Records) → WasLeft r → HaveSentPhases r
left_phases r w = subst HaveSentPhases w.is (events_send w.events blank w.fair blank_sends).phases

-- a broker that is opened on it sends well
pub left_sends : (limits : Capacity) (choice : MemberChoice) (now : ℕ) (r : Records) → WasLeft r → is_opening_spent limits choice now r ≡ false → SendsWell (opened_world limits choice now r).broker
left_sends limits choice now r w unspent = well_begun limits choice now r unspent (left_written r w).lawful (left_phases r w)
