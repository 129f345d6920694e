-- A PUBLISH whose line is to be dropped: who drops it has done what the rules have.
use Rattle.std.proofs.Common.{◌≡◌, ℕ, Bool, true, false, cond, List, [], ◌∷◌, nat_eq, ap, sym, subst, ◌∙◌, inl, inr}
use Rattle.std.specs.Prelude.{Option, Some, None}
use Rattle.std.proofs.lemmas.Bool.{cases_Bool}
use Rattle.mqtt_base.specs.Codes.{receive_maximum_exceeded}
use Rattle.mqtt_packet.specs.declared.codec.publish.Publish.{Publish}
use Rattle.mqtt_flow.specs.declared.inbound.inflow.Published.TheVariants.{Over}
use Rattle.mqtt_records.specs.messages.PassedOn.{number_at}
use Rattle.mqtt_props.specs.declared.table.PropName.TheVariants.{TopicAlias}
use Rattle.mqtt_records.specs.declared.state.session.Session.{Session}
use Rattle.mqtt_records.specs.lists.Order.{row_at}
use Rattle.mqtt_topic.specs.names.Names.{is_empty}
use Rattle.mqtt_rules.specs.step.State.{Broker, Env, Line}
use Rattle.mqtt_rules.specs.step.Closing.{close_connected, drop_line}
use Rattle.mqtt_rules.specs.step.Deeds.{Act, Gone, Send, SetAlias, always, line_after, on_line, series}
use Rattle.mqtt_rules.specs.step.Inbound.{Meaning, message_of, on_publish, publish_meant, sets_alias}
use Rattle.mqtt_rules.specs.step.Packets.{disconnect}
use Rattle.mqtt_broker_step.specs.Lines.{line_number}
use Rattle.mqtt_broker_step.specs.declared.fault.StepFault.{StepFault}
use Rattle.mqtt_broker_step.specs.Stepping.{Stepping, did, Did, env_in}
use Rattle.mqtt_broker_step.proofs.Then.{same_act, same_left}
use Rattle.mqtt_broker_queue.specs.publications.Choosing.{DoesSome, LeavesSome}
use Rattle.mqtt_broker_queue.specs.publications.Publishing.{IsOver, IsWrong, alias_set}
use Rattle.mqtt_broker_queue.proofs.publications_lemmas.Aliased.{alias_does, alias_leaves}
use Rattle.mqtt_broker_queue.proofs.publications_lemmas.ByIdentifier.{by_left, by_some}

-- ---- a line that is dropped: its aliases have no part in it

abbrev drops : Env → (code number : ℕ) → Option ℕ → Act
drops env code number session b =
    series (always (Send number (disconnect code) ∷ []) ∷ series (always (Gone number ∷ []) ∷ close_connected env true session ∷ []) ∷ []) b

-- a line is dropped by its number and session alone
pub drops_same : (env : Env) (code : ℕ) (l k : Line) (b : Broker) → k.number ≡ l.number → k.session ≡ l.session → drop_line env code k b ≡ drop_line env code l b
drops_same env code l k b number session =
    ap (λ n. drops env code n k.session b) number ∙ ap (λ (o : Option ℕ). drops env code l.number o b) session

-- a line was dropped, for some choice, if one of the same number and session was
pub drops_some : (code : ℕ) (l k : Line) (s new : Stepping) → k.number ≡ l.number → k.session ≡ l.session → DoesSome (λ env. drop_line env code k) s new → DoesSome (λ env. drop_line env code l) s new
drops_some code l k s new number session done = record {
  number = done.number;
  sender = done.sender;
  members = done.members;
  is = λ choice chosen.
      same_act (drop_line (env_in choice s) code k) (drop_line (env_in choice s) code l) s new
      (drops_same (env_in choice s) code l k s.broker number session) (done.is choice chosen);
}

-- dropping a line was refused, for some choice, if it was of one of the same number and session
pub drops_left : (code : ℕ) (l k : Line) (fault : StepFault) (s new : Stepping) → k.number ≡ l.number → k.session ≡ l.session → LeavesSome (λ env. drop_line env code k) fault s new
    → LeavesSome (λ env. drop_line env code l) fault s new
drops_left code l k fault s new number session left = record {
  number = left.number;
  sender = left.sender;
  members = left.members;
  is = λ choice chosen.
      same_left (drop_line (env_in choice s) code k) (drop_line (env_in choice s) code l) fault s new
      (drops_same (env_in choice s) code l k s.broker number session) (left.is choice chosen);
}

-- ---- the line as it stands when its alias was set

abbrev IsOnAs : Line → Line → Type 0
IsOnAs k l = (k.number ≡ l.number) × (k.session ≡ l.session)

same_line : (k l : Line) → Some l ≡ Some k → IsOnAs k l
same_line k l e =
    let is : l ≡ k = cc in
    (sym (ap line_number is), sym (ap (λ (m : Line). m.session) is))

abbrev aliased : ℕ → ℕ → List ℕ → Line → Line
aliased moment alias topic l = line_after moment (SetAlias alias topic) l

row_aliased : (moment n alias : ℕ) (topic : List ℕ) (ls : List Line) (l k : Line) → row_at line_number n ls ≡ Some l → row_at line_number n (on_line moment n (SetAlias alias topic) ls) ≡ Some k → IsOnAs k l
row_aliased moment n alias topic [] l k found new = absurd cc
row_aliased moment n alias topic (y ∷ ys) l k found new = elim (cases_Bool (nat_eq y.number n)) [
  | inl here ↦
      let old : Some y ≡ Some l = ap (λ (t : Bool). cond t (Some y) (row_at line_number n ys)) (sym here) ∙ found in
      let first : row_at line_number n (aliased moment alias topic y ∷ ys) ≡ Some k =
      ap (λ (t : Bool). row_at line_number n (cond t (aliased moment alias topic y ∷ ys) (y ∷ on_line moment n (SetAlias alias topic) ys))) (sym here) ∙ new in
      let set : Some (aliased moment alias topic y) ≡ Some k = ap (λ (t : Bool). cond t (Some (aliased moment alias topic y)) (row_at line_number n ys)) (sym here) ∙ first in
      let as_new = same_line k (aliased moment alias topic y) set in
      let as_old = same_line l y old in
      (as_new.0 ∙ sym as_old.0, as_new.1 ∙ sym as_old.1)
  | inr later ↦
      let old : row_at line_number n ys ≡ Some l = ap (λ (t : Bool). cond t (Some y) (row_at line_number n ys)) (sym later) ∙ found in
      let rest : row_at line_number n (y ∷ on_line moment n (SetAlias alias topic) ys) ≡ Some k =
      ap (λ (t : Bool). row_at line_number n (cond t (aliased moment alias topic y ∷ ys) (y ∷ on_line moment n (SetAlias alias topic) ys))) (sym later) ∙ new in
      let next : row_at line_number n (on_line moment n (SetAlias alias topic) ys) ≡ Some k =
      ap (λ (t : Bool). cond t (Some y) (row_at line_number n (on_line moment n (SetAlias alias topic) ys))) (sym later) ∙ rest in
      row_aliased moment n alias topic ys l k old next
]

by_alias : (t : Bool) (o : Option ℕ) (n : ℕ) (topic : List ℕ) (s : Stepping) (l k : Line) → row_at line_number n s.broker.lines ≡ Some l → row_at line_number n (did (sets_alias t o n topic) s).broker.lines ≡ Some k → IsOnAs k l
by_alias true o n topic s l k found new = same_line k l (sym found ∙ new)
by_alias false None n topic s l k found new = same_line k l (sym found ∙ new)
by_alias false (Some alias) n topic s l k found new = row_aliased s.broker.now n alias topic s.broker.lines l k found new

-- it has the number and the session that it had
pub alias_keeps : (n : ℕ) (p : Publish) (topic : List ℕ) (s s1 : Stepping) (l k : Line) → Did (alias_set n p topic) s s1 → row_at line_number n s.broker.lines ≡ Some l → row_at line_number n s1.broker.lines ≡ Some k
    → IsOnAs k l
alias_keeps n p topic s s1 l k set found new =
    by_alias (is_empty p.topic) (number_at TopicAlias p.properties) n topic s l k found
    (subst (λ (t : Stepping). row_at line_number n t.broker.lines ≡ Some k) set.is new)

-- ---- who drops it

module _ (l : Line) (x : Session) (p : Publish) where
  -- a PUBLISH that means no topic is done once its line is dropped with the code for that
  pub wrong_dropped : (code : ℕ) (s s1 new : Stepping) → IsWrong code l p s s1 → DoesSome (λ env. drop_line env code l) s1 new → DoesSome (λ env. on_publish env l x p) s new
  wrong_dropped code s s1 new wrong done =
      subst (λ (t : Stepping). DoesSome (λ env. on_publish env l x p) t new) wrong.same
      (subst (λ (m : Meaning). DoesSome (λ env. publish_meant m env l x p) s1 new) (sym wrong.wrong) done)

  -- a PUBLISH that means no topic is refused if dropping its line is
  pub wrong_left : (code : ℕ) (fault : StepFault) (s s1 new : Stepping) → IsWrong code l p s s1 → LeavesSome (λ env. drop_line env code l) fault s1 new
      → LeavesSome (λ env. on_publish env l x p) fault s new
  wrong_left code fault s s1 new wrong left =
      subst (λ (t : Stepping). LeavesSome (λ env. on_publish env l x p) fault t new) wrong.same
      (subst (λ (m : Meaning). LeavesSome (λ env. publish_meant m env l x p) fault s1 new) (sym wrong.wrong) left)

  -- a PUBLISH above the Receive Maximum is done once its line is dropped with the code for that
  pub over_dropped : (s s1 new : Stepping) → IsOver l x p s s1 → DoesSome (λ env. drop_line env receive_maximum_exceeded l) s1 new → DoesSome (λ env. on_publish env l x p) s new
  over_dropped s s1 new over done =
      alias_does l x p over.topic over.means s s1 new over.did
      (by_some l x p (message_of x.client over.topic p) Over s1 new (sym over.over) done)

  -- a PUBLISH above the Receive Maximum is refused if dropping its line is
  pub over_left : (fault : StepFault) (s s1 new : Stepping) → IsOver l x p s s1 → LeavesSome (λ env. drop_line env receive_maximum_exceeded l) fault s1 new
      → LeavesSome (λ env. on_publish env l x p) fault s new
  over_left fault s s1 new over left =
      alias_leaves l x p over.topic over.means fault s s1 new over.did
      (by_left l x p (message_of x.client over.topic p) Over fault s1 new (sym over.over) left)

  -- the same, if the line is dropped as it stands when its alias was set
  pub over_dropped_there : (s s1 new : Stepping) (k : Line) → row_at line_number l.number s.broker.lines ≡ Some l → row_at line_number l.number s1.broker.lines ≡ Some k → IsOver l x p s s1
      → DoesSome (λ env. drop_line env receive_maximum_exceeded k) s1 new → DoesSome (λ env. on_publish env l x p) s new
  over_dropped_there s s1 new k found there over done =
      let kept = alias_keeps l.number p over.topic s s1 l k over.did found there in
      over_dropped s s1 new over (drops_some receive_maximum_exceeded l k s1 new kept.0 kept.1 done)

  -- the same, if the line is to be dropped as it stands when its alias was set
  pub over_left_there : (fault : StepFault) (s s1 new : Stepping) (k : Line) → row_at line_number l.number s.broker.lines ≡ Some l → row_at line_number l.number s1.broker.lines ≡ Some k → IsOver l x p s s1
      → LeavesSome (λ env. drop_line env receive_maximum_exceeded k) fault s1 new → LeavesSome (λ env. on_publish env l x p) fault s new
  over_left_there fault s s1 new k found there over left =
      let kept = alias_keeps l.number p over.topic s s1 l k over.did found there in
      over_left fault s s1 new over (drops_left receive_maximum_exceeded l k fault s1 new kept.0 kept.1 left)
