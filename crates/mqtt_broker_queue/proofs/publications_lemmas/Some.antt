-- Acts in which something may be chosen, after others and before others.
use Rattle.std.proofs.Common.{◌≡◌, [], ◌∷◌, ap, sym, subst, append-nil}
use Rattle.mqtt_rules.specs.step.Deeds.{Act, then, series}
use Rattle.mqtt_rules.specs.step.State.{Broker, Env, MemberChoice}
use Rattle.mqtt_broker_step.specs.declared.fault.StepFault.{StepFault}
use Rattle.mqtt_broker_step.specs.Stepping.{Stepping, Did, Does, IsLeft, Leaves, env_in}
use Rattle.mqtt_broker_queue.specs.publications.Choosing.{DoesSome, LeavesSome}
use Rattle.mqtt_broker_step.proofs.Then.{same_act, same_left, did_then, left_first, left_then}
use Rattle.mqtt_broker_queue.proofs.publications_lemmas.Leading.{same_env}

-- one, then the other
abbrev pub both : (f g : Env → Act) → Env → Act
both f g env b = then (f env b) (g env) b

-- what surrounds a step stays
pub env_stays : (choice : MemberChoice) (f : Act) (s s1 : Stepping) → Did f s s1 → env_in choice s1 ≡ env_in choice s
env_stays choice f s s1 is = same_env choice s s1 (ap (λ (t : Stepping). t.start) is.is) (ap (λ (t : Stepping). t.limits) is.is)

-- ---- nothing is chosen

-- an act that is done whatever is chosen is done for some choice
pub does_some : (f : Env → Act) (s new : Stepping) → Does f s new → DoesSome f s new
does_some f s new is = record { number = 0; sender = []; members = []; is = λ choice same. is choice }

-- an act that is refused whatever is chosen is refused for some choice
pub leaves_some : (f : Env → Act) (fault : StepFault) (s new : Stepping) → Leaves f fault s new → LeavesSome f fault s new
leaves_some f fault s new is = record { number = 0; sender = []; members = []; is = λ choice same. is choice }

-- one act and then the other are done if each is, in this order
pub does_then : (f g : Env → Act) (s s1 s2 : Stepping) → Does f s s1 → Does g s1 s2 → Does (both f g) s s2
does_then f g s s1 s2 first second = λ choice.
    let e = env_in choice s in
    did_then (f e) (g e) s s1 s2 (first choice) (subst (λ (x : Env). Did (g x) s1 s2) (env_stays choice (f e) s s1 (first choice)) (second choice))

-- one act and then the other are refused if the first is
pub leaves_first : (f g : Env → Act) (fault : StepFault) (s new : Stepping) → Leaves f fault s new → Leaves (both f g) fault s new
leaves_first f g fault s new is = λ choice. let e = env_in choice s in left_first (f e) (g e) fault s new (is choice)

-- one act and then the other are refused if the first is done and the second refused
pub leaves_then : (f g : Env → Act) (fault : StepFault) (s s1 new : Stepping) → Does f s s1 → Leaves g fault s1 new → Leaves (both f g) fault s new
leaves_then f g fault s s1 new first is = λ choice.
    let e = env_in choice s in
    left_then (f e) (g e) fault s s1 new (first choice) (subst (λ (x : Env). IsLeft (g x) fault s1 new) (env_stays choice (f e) s s1 (first choice)) (is choice))

-- ---- something is chosen in the second

-- an act without a choice, and then one that was done for some choice, are done for that choice
pub then_some : (f g : Env → Act) (s s1 s2 : Stepping) → Does f s s1 → DoesSome g s1 s2 → DoesSome (both f g) s s2
then_some f g s s1 s2 first second = record {
  number = second.number;
  sender = second.sender;
  members = second.members;
  is = λ choice same.
      let e = env_in choice s in
      did_then (f e) (g e) s s1 s2 (first choice) (subst (λ (x : Env). Did (g x) s1 s2) (env_stays choice (f e) s s1 (first choice)) (second.is choice same));
}

-- an act without a choice, and then one that was refused for some choice, are refused for that choice
pub then_some_left : (f g : Env → Act) (fault : StepFault) (s s1 new : Stepping) → Does f s s1 → LeavesSome g fault s1 new → LeavesSome (both f g) fault s new
then_some_left f g fault s s1 new first left = record {
  number = left.number;
  sender = left.sender;
  members = left.members;
  is = λ choice same.
      let e = env_in choice s in
      left_then (f e) (g e) fault s s1 new (first choice) (subst (λ (x : Env). IsLeft (g x) fault s1 new) (env_stays choice (f e) s s1 (first choice)) (left.is choice same));
}

-- ---- something is chosen in the first

-- an act that was done for some choice, and then one without a choice, are done for that choice
pub some_then : (f g : Env → Act) (s s1 s2 : Stepping) → DoesSome f s s1 → Does g s1 s2 → DoesSome (both f g) s s2
some_then f g s s1 s2 first second = record {
  number = first.number;
  sender = first.sender;
  members = first.members;
  is = λ choice same.
      let e = env_in choice s in
      did_then (f e) (g e) s s1 s2 (first.is choice same)
      (subst (λ (x : Env). Did (g x) s1 s2) (env_stays choice (f e) s s1 (first.is choice same)) (second choice));
}

-- an act that was refused for some choice makes the two refused for that choice
pub some_left_first : (f g : Env → Act) (fault : StepFault) (s new : Stepping) → LeavesSome f fault s new → LeavesSome (both f g) fault s new
some_left_first f g fault s new left = record {
  number = left.number;
  sender = left.sender;
  members = left.members;
  is = λ choice same. let e = env_in choice s in left_first (f e) (g e) fault s new (left.is choice same);
}

-- an act that was done for some choice, and then a refused one without a choice, are refused for that choice
pub some_left_then : (f g : Env → Act) (fault : StepFault) (s s1 new : Stepping) → DoesSome f s s1 → Leaves g fault s1 new → LeavesSome (both f g) fault s new
some_left_then f g fault s s1 new first left = record {
  number = first.number;
  sender = first.sender;
  members = first.members;
  is = λ choice same.
      let e = env_in choice s in
      left_then (f e) (g e) fault s s1 new (first.is choice same)
      (subst (λ (x : Env). IsLeft (g x) fault s1 new) (env_stays choice (f e) s s1 (first.is choice same)) (left choice));
}

-- ---- the same deeds

abbrev pub SameDeeds : (f g : Env → Act) → Stepping → Type 0
SameDeeds f g s = (choice : MemberChoice) → f (env_in choice s) s.broker ≡ g (env_in choice s) s.broker

-- if one act is done, so is one with the same deeds
pub same_does : (f g : Env → Act) (s new : Stepping) → SameDeeds f g s → Does f s new → Does g s new
same_does f g s new same is = λ choice. let e = env_in choice s in same_act (f e) (g e) s new (same choice) (is choice)

-- if one act is refused, so is one with the same deeds
pub same_leaves : (f g : Env → Act) (fault : StepFault) (s new : Stepping) → SameDeeds f g s → Leaves f fault s new → Leaves g fault s new
same_leaves f g fault s new same is = λ choice. let e = env_in choice s in same_left (f e) (g e) fault s new (same choice) (is choice)

-- if one act is done for some choice, so is one with the same deeds
pub same_some : (f g : Env → Act) (s new : Stepping) → SameDeeds f g s → DoesSome f s new → DoesSome g s new
same_some f g s new same some = record {
  number = some.number;
  sender = some.sender;
  members = some.members;
  is = λ choice members. let e = env_in choice s in same_act (f e) (g e) s new (same choice) (some.is choice members);
}

-- if one act is refused for some choice, so is one with the same deeds
pub same_some_left : (f g : Env → Act) (fault : StepFault) (s new : Stepping) → SameDeeds f g s → LeavesSome f fault s new → LeavesSome g fault s new
same_some_left f g fault s new same left = record {
  number = left.number;
  sender = left.sender;
  members = left.members;
  is = λ choice members. let e = env_in choice s in same_left (f e) (g e) fault s new (same choice) (left.is choice members);
}

-- an act that is the last of a series
pub alone : (f : Act) (b : Broker) → f b ≡ series (f ∷ []) b
alone f b = sym (append-nil (f b))
