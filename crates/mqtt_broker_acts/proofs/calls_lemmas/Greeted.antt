-- The first packet of a line (MQTT 5.0, 3.1).
use Rattle.std.proofs.Common.{◌≡◌, ℕ, true, false, List, [], ◌∷◌, ◌++◌, cond, nat_lt, refl, ap, sym, subst, ◌∙◌}
use Rattle.std.specs.Prelude.{None}
use Rattle.mqtt_base.specs.Codes.{quota_exceeded}
use Rattle.mqtt_packet.specs.declared.codec.packet.Packet.{Packet}
use Rattle.mqtt_packet.specs.declared.codec.packet.Packet.TheVariants as packets
use Rattle.mqtt_packet.specs.declared.connect.connect.Connect.{Connect}
use Rattle.mqtt_records.specs.declared.state.records.Records.{Records}
use Rattle.mqtt_rules.specs.declared.step.Capacity.{Capacity}
use Rattle.mqtt_rules.specs.step.Closing.{close}
use Rattle.mqtt_rules.specs.step.Connect.{largest_of, on_connect, refusal_size, refused}
use Rattle.mqtt_rules.specs.step.Deeds.{Deed, Gone, Hear, On, Send, after_all, always}
use Rattle.mqtt_rules.specs.step.Packets.{connack}
use Rattle.mqtt_rules.specs.step.State.{Broker, Env, Line, MemberChoice}
use Rattle.mqtt_rules.specs.step.Step.{Input, at_moment, deeds_of, first_packet, on_packet}
use Rattle.mqtt_broker_step.specs.declared.fault.StepFault.{StepFault}
use Rattle.mqtt_broker_step.specs.declared.fault.StepFault.TheVariants.{Memory}
use Rattle.mqtt_broker_step.specs.Stepping.{Stepping, Did, IsLeft, at_rest, env_in, with_broker}
use Rattle.mqtt_broker_step.proofs.Then.{did_then, left_first, left_then, same_act, same_left}
use Rattle.mqtt_broker_queue.specs.publications.Choosing.{DoesSome, LeavesSome}
use Rattle.mqtt_broker_queue.proofs.publications_lemmas.Some.{env_stays, same_some, same_some_left}
use Rattle.mqtt_broker_acts.specs.declared.connecting.joining.Joined.{Joined}
use Rattle.mqtt_broker_acts.specs.declared.connecting.joining.Joined.TheVariants.{Done, NoPlace}
use Rattle.mqtt_broker_acts.specs.connecting.Joining.{IsRefusedWhole}
use Rattle.mqtt_broker_acts.specs.connecting.Preparing.{IsConnected}
use Rattle.mqtt_broker_acts.specs.calls.Doing.{begun}
use Rattle.mqtt_broker_acts.proofs.calls_lemmas.CallActs.{hears}
use Rattle.mqtt_broker_acts.proofs.calls_lemmas.SomeCalls.{OnLine, input_is, input_some, input_some_left}
use Rattle.mqtt_broker_acts.specs.calls.First.{GreetedBy, IsOther, IsTurnedAway, turns_away}
use Rattle.mqtt_broker_acts.proofs.calls_lemmas.Begun.{memory_left}

-- ---- the line is heard

-- that a line was heard leaves the records alone
pub records_heard : (line : ℕ) (s s1 : Stepping) → Did (hears line) s s1 → s1.broker.records ≡ s.broker.records
records_heard line s s1 heard = ap (λ (t : Stepping). t.broker.records) heard.is

-- that a line was heard changes nothing that is stored
pub at_heard : (P : Records → Type 0) (line : ℕ) (s s1 : Stepping) → Did (hears line) s s1 → P s.broker.records → P s1.broker.records
at_heard P line s s1 heard h = subst P (sym (records_heard line s s1 heard)) h

-- ---- a CONNECT whose client is turned away

abbrev refused_at : ℕ → Connect → List Deed
refused_at n c = cond (nat_lt (largest_of c) refusal_size) [] (Send n (connack false quota_exceeded []) ∷ []) ++ Gone n ∷ []

away_is : (line : ℕ) (h l : Line) (c : Connect) (b : Broker) → h.number ≡ line → l.number ≡ line
    → hears line b ++ refused h c quota_exceeded ≡ turns_away l c b
away_is line h l c b at number =
    ap (λ n. On line Hear ∷ refused_at n c) at
    ∙ ap (λ n. On n Hear ∷ refused_at n c) (sym number)

turned_away : (line : ℕ) (c : Connect) (s s1 s2 : Stepping) (h : OnLine line None s.broker) → Did (hears line) s s1 → IsConnected h.l c NoPlace s1 s2 → IsTurnedAway line c s
turned_away line c s s1 s2 h heard k = record {
  number = k.number;
  sender = k.sender;
  members = k.members;
  is = λ l choice number same.
      let e = env_in choice s in
      let w : IsRefusedWhole (env_in choice s1) h.l c s1 s2 = k.is choice same in
      let e1 : env_in choice s1 ≡ e = env_stays choice (hears line) s s1 heard in
      let there : s1.broker ≡ after_all (hears line s.broker) s.broker = ap (λ (t : Stepping). t.broker) heard.is in
      let refuses : on_connect e h.l c (after_all (hears line s.broker) s.broker) ≡ refused h.l c quota_exceeded =
      ap (λ (b : Broker). on_connect e h.l c b) (sym there) ∙ (ap (λ (x : Env). on_connect x h.l c s1.broker) (sym e1) ∙ w.refuses) in
      sym (input_is e line None (packets.Connect c) h.l s.broker h.found h.its)
      ∙ (ap (λ ds. hears line s.broker ++ ds) refuses ∙ away_is line h.l l c s.broker h.number number);
}

-- what became of it
pub greeted_by : (joined : Joined) (line : ℕ) (c : Connect) (s s1 s2 : Stepping) (h : OnLine line None s.broker) → Did (hears line) s s1
    → IsConnected h.l c joined s1 s2 → GreetedBy line c joined s s2
greeted_by Done line c s s1 s2 h heard k =
    let does : DoesSome (λ env. on_packet env h.l (packets.Connect c) None) s1 s2 =
    record { number = k.number; sender = k.sender; members = k.members; is = λ choice same. k.is choice same } in
    input_some line None (packets.Connect c) s s1 s2 h heard does
greeted_by NoPlace line c s s1 s2 h heard k =
    let choice : MemberChoice = λ number sender. k.members in
    let w : IsRefusedWhole (env_in choice s1) h.l c s1 s2 = k.is choice refl in (
      turned_away line c s s1 s2 h heard k,
      w.start ∙ ap (λ (t : Stepping). t.start) heard.is,
      w.limits ∙ ap (λ (t : Stepping). t.limits) heard.is,
    )

-- ---- the line is heard, and its client is turned away

turned_is : (line : ℕ) (l : Line) (c : Connect) (b : Broker) → l.number ≡ line → On line Hear ∷ refused l c quota_exceeded ≡ turns_away l c b
turned_is line l c b number = ap (λ n. On n Hear ∷ refused l c quota_exceeded) (sym number)

-- a CONNECT for which there is no place is heard, and refused with 0x97
pub turned : (line : ℕ) (l : Line) (c : Connect) (s s1 s2 : Stepping) → l.number ≡ line → Did (hears line) s s1
    → Did (always (refused l c quota_exceeded)) s1 s2 → Did (turns_away l c) s s2
turned line l c s s1 s2 number heard is =
    same_act (always (On line Hear ∷ refused l c quota_exceeded)) (turns_away l c) s s2 (turned_is line l c s.broker number)
    (did_then (hears line) (always (refused l c quota_exceeded)) s s1 s2 heard is)

-- or that is refused at the second
pub turned_left : (line : ℕ) (l : Line) (c : Connect) (fault : StepFault) (s s1 s2 : Stepping) → l.number ≡ line → Did (hears line) s s1
    → IsLeft (always (refused l c quota_exceeded)) fault s1 s2 → IsLeft (turns_away l c) fault s s2
turned_left line l c fault s s1 s2 number heard left =
    same_left (always (On line Hear ∷ refused l c quota_exceeded)) (turns_away l c) fault s s2 (turned_is line l c s.broker number)
    (left_then (hears line) (always (refused l c quota_exceeded)) fault s s1 s2 heard left)

-- or at the first
pub untold_left : (line : ℕ) (l : Line) (c : Connect) (fault : StepFault) (s s1 : Stepping) → l.number ≡ line
    → IsLeft (hears line) fault s s1 → IsLeft (turns_away l c) fault s s1
untold_left line l c fault s s1 number left =
    same_left (always (On line Hear ∷ refused l c quota_exceeded)) (turns_away l c) fault s s1 (turned_is line l c s.broker number)
    (left_first (hears line) (always (refused l c quota_exceeded)) fault s s1 left)

-- ---- the step begins again

-- what was taken back begins anew as it began
pub again_is : (now : ℕ) (s s1 s2 : Stepping) → s1 ≡ at_rest s.limits s.start → s2 ≡ with_broker (at_moment now s1.broker) s1 → s2 ≡ begun s.limits now s.start
again_is now s s1 s2 back is = is ∙ ap (λ (t : Stepping). with_broker (at_moment now t.broker) t) back

-- or that finds no memory
pub not_again : (l : Line) (c : Connect) (now : ℕ) (fault : StepFault) (s s1 s2 : Stepping) → s1 ≡ at_rest s.limits s.start → s2 ≡ s1 → fault ≡ Memory
    → IsLeft (turns_away l c) fault (begun s.limits now s.start) s2
not_again l c now fault s s1 s2 back same memory =
    memory_left (turns_away l c) fault (begun s.limits now s.start) s2
    (ap (λ (t : Stepping). t.start) (same ∙ back)) (ap (λ (t : Stepping). t.limits) (same ∙ back)) memory

same_begun : (now : ℕ) (limits : Capacity) (b : Broker) (s : Stepping) → s.start ≡ b → s.limits ≡ limits → begun s.limits now s.start ≡ begun limits now b
same_begun now limits b s start is = ap (λ (x : Capacity). begun x now s.start) is ∙ ap (begun limits now) start

-- a client that is turned away is what its CONNECT comes to
pub away_done : (line : ℕ) (l : Line) (c : Connect) (now : ℕ) (limits : Capacity) (b : Broker) (s new : Stepping) → l.number ≡ line → IsTurnedAway line c (begun limits now b)
    → s.start ≡ b → s.limits ≡ limits → Did (turns_away l c) (begun s.limits now s.start) new
    → DoesSome (λ env. deeds_of env (Input line (packets.Connect c))) (begun limits now b) new
away_done line l c now limits b s new number away start is did =
    let first = begun limits now b in
    let done : Did (turns_away l c) first new = subst (λ (t : Stepping). Did (turns_away l c) t new) (same_begun now limits b s start is) did in
    record {
      number = away.number;
      sender = away.sender;
      members = away.members;
      is = λ choice same.
          same_act (turns_away l c) (deeds_of (env_in choice first) (Input line (packets.Connect c))) first new (sym (away.is l choice number same)) done;
    }

-- or that is refused
pub away_left : (line : ℕ) (l : Line) (c : Connect) (now : ℕ) (limits : Capacity) (b : Broker) (fault : StepFault) (s new : Stepping) → l.number ≡ line → IsTurnedAway line c (begun limits now b)
    → s.start ≡ b → s.limits ≡ limits → IsLeft (turns_away l c) fault (begun s.limits now s.start) new
    → LeavesSome (λ env. deeds_of env (Input line (packets.Connect c))) fault (begun limits now b) new
away_left line l c now limits b fault s new number away start is left =
    let first = begun limits now b in
    let done : IsLeft (turns_away l c) fault first new = subst (λ (t : Stepping). IsLeft (turns_away l c) fault t new) (same_begun now limits b s start is) left in
    record {
      number = away.number;
      sender = away.sender;
      members = away.members;
      is = λ choice same.
          same_left (turns_away l c) (deeds_of (env_in choice first) (Input line (packets.Connect c))) fault first new (sym (away.is l choice number same)) done;
    }

-- ---- another packet

other_is : (packet : Packet) (env : Env) (l : Line) (b : Broker) → IsOther packet → close env true l b ≡ first_packet env l packet b
other_is (packets.Connect c) env l b other = absurd other
other_is (packets.Connack a) env l b other = refl
other_is (packets.Publish a) env l b other = refl
other_is (packets.Puback a) env l b other = refl
other_is (packets.Pubrec a) env l b other = refl
other_is (packets.Pubrel a) env l b other = refl
other_is (packets.Pubcomp a) env l b other = refl
other_is (packets.Subscribe a) env l b other = refl
other_is (packets.Suback a) env l b other = refl
other_is (packets.Unsubscribe a) env l b other = refl
other_is (packets.Unsuback a) env l b other = refl
other_is packets.Pingreq env l b other = refl
other_is packets.Pingresp env l b other = refl
other_is (packets.Disconnect a) env l b other = refl
other_is (packets.Auth a) env l b other = refl

-- a packet before the CONNECT is heard, and the line closes
pub other_closes : (line : ℕ) (packet : Packet) (s s1 s2 : Stepping) (h : OnLine line None s.broker) → IsOther packet → Did (hears line) s s1
    → DoesSome (λ env. close env true h.l) s1 s2 → DoesSome (λ env. deeds_of env (Input line packet)) s s2
other_closes line packet s s1 s2 h other heard does =
    input_some line None packet s s1 s2 h heard
    (same_some (λ env. close env true h.l) (λ env. on_packet env h.l packet None) s1 s2 (λ choice. other_is packet (env_in choice s1) h.l s1.broker other) does)

-- or that is refused
pub other_left : (line : ℕ) (packet : Packet) (fault : StepFault) (s s1 s2 : Stepping) (h : OnLine line None s.broker) → IsOther packet → Did (hears line) s s1
    → LeavesSome (λ env. close env true h.l) fault s1 s2 → LeavesSome (λ env. deeds_of env (Input line packet)) fault s s2
other_left line packet fault s s1 s2 h other heard left =
    input_some_left line None packet fault s s1 s2 h heard
    (same_some_left (λ env. close env true h.l) (λ env. on_packet env h.l packet None) fault s1 s2 (λ choice. other_is packet (env_in choice s1) h.l s1.broker other) left)
