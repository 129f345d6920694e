-- The choices of several settlings make one choice, since each looks only at its own client identifier.
use Rattle.std.proofs.Common.{◌≡◌, ℕ, Bool, cond, List, [], ◌∷◌, bytes_eq, refl, sym, ap, subst, ◌∙◌}
use Rattle.std.specs.List.{AllByRecursion}
use Rattle.mqtt_records.specs.declared.state.session.Session.{Session}
use Rattle.mqtt_rules.specs.step.State.{Env, MemberChoice}
use Rattle.mqtt_rules.specs.step.Step.{settles, settles_all}
use Rattle.mqtt_rules.proofs.step_lemmas.fit.FitLaw.{same_text}
use Rattle.mqtt_broker_step.specs.declared.fault.StepFault.{StepFault}
use Rattle.mqtt_broker_step.specs.Stepping.{Stepping, Did, env_in}
use Rattle.mqtt_broker_step.proofs.Doing.{did_none}
use Rattle.mqtt_broker_step.proofs.Then.{did_then, left_first, left_then, same_act, same_left}
use Rattle.mqtt_broker_queue.specs.publications.Choosing.{DoesSome, LeavesSome}
use Rattle.mqtt_broker_queue.proofs.publications_lemmas.Some.{env_stays}
use Rattle.mqtt_broker.specs.stored.Closing.{DidSome, LeftSome}
use Rattle.mqtt_broker.specs.stored.Sessions.{IsThere}
use Rattle.mqtt_broker.proofs.stored_lemmas.Chosen.{Agree, AllApart, AreApart, same_all, same_settles, still_there}

-- these members for one client, and another choice for the others
abbrev joined : List ℕ → List ℕ → MemberChoice → MemberChoice
joined client members others = λ number sender. cond (bytes_eq client sender) members (others number sender)

abbrev alone : List ℕ → MemberChoice
alone members = λ number sender. members

at_client : (client members : List ℕ) (others : MemberChoice) → Agree (alone members) (joined client members others) client
at_client client members others n = sym (ap (λ (t : Bool). cond t members (others n client)) (same_text client client refl))

at_others : (s : Session) (members : List ℕ) (others : MemberChoice) (xs : List Session) → AllByRecursion (AreApart s) xs
    → AllByRecursion (λ (x : Session). Agree others (joined s.client members others) x.client) xs
at_others s members others [] apart = tt
at_others s members others (x ∷ xs) apart = (
  λ n. sym (ap (λ (t : Bool). cond t members (others n x.client)) apart.0.1),
  at_others s members others xs apart.1,
)

-- ---- a session, then the others

module _ (s : Session) (xs : List Session) (old mid : Stepping) (apart : AllApart (s ∷ xs)) (there : AllByRecursion (IsThere old.broker.records) (s ∷ xs)) (first : DoesSome (λ env. settles env s) old mid) where
  first_did : Did (settles (env_in (alone first.members) old) s) old mid
  first_did = first.is (alone first.members) refl

  -- the others stand as they did
  pub others_there : AllByRecursion (IsThere mid.broker.records) xs
  others_there =
      subst (λ (t : Stepping). AllByRecursion (IsThere t.broker.records) xs) (sym first_did.is)
      (still_there s xs (env_in (alone first.members) old) old.broker apart.0 there.1)

  module _ (others : MemberChoice) where
    both : MemberChoice
    both = joined s.client first.members others

    both_first : Agree (alone first.members) both s.client
    unfolding both
    both_first = at_client s.client first.members others

    both_others : AllByRecursion (λ (x : Session). Agree others both x.client) xs
    unfolding both
    both_others = at_others s first.members others xs apart.0

    head_did : Did (settles (env_in both old) s) old mid
    head_did =
        same_act (settles (env_in (alone first.members) old) s) (settles (env_in both old) s) old mid
        (same_settles old.limits old.start.records (alone first.members) both s old.broker there.0 both_first) first_did

    same_env : env_in both mid ≡ env_in both old
    same_env = env_stays both (settles (env_in both old) s) old mid head_did

    same_rest : settles_all (env_in others mid) xs mid.broker ≡ settles_all (env_in both old) xs mid.broker
    same_rest =
        same_all mid.limits mid.start.records others both xs mid.broker others_there apart.1 both_others
        ∙ ap (λ (e : Env). settles_all e xs mid.broker) same_env

  -- what settles the others then settles all, by a joined choice
  pub did_more : (new : Stepping) → DidSome (λ env. settles_all env xs) mid new → DidSome (λ env. settles_all env (s ∷ xs)) old new
  did_more new rest = record {
    choice = both rest.choice;
    is =
        let env = env_in (both rest.choice) old in
        did_then (settles env s) (settles_all env xs) old mid new (head_did rest.choice)
        (same_act (settles_all (env_in rest.choice mid) xs) (settles_all env xs) mid new (same_rest rest.choice) rest.is);
  }

  -- a refusal at the others is one of all
  pub left_more : (fault : StepFault) (new : Stepping) → LeftSome (λ env. settles_all env xs) fault mid new → LeftSome (λ env. settles_all env (s ∷ xs)) fault old new
  left_more fault new rest = record {
    choice = both rest.choice;
    is =
        let env = env_in (both rest.choice) old in
        left_then (settles env s) (settles_all env xs) fault old mid new (head_did rest.choice)
        (same_left (settles_all (env_in rest.choice mid) xs) (settles_all env xs) fault mid new (same_rest rest.choice) rest.is);
  }

-- ---- a refusal at the first, and the end

-- so is one at the first
pub left_at : (s : Session) (xs : List Session) (fault : StepFault) (old new : Stepping) → LeavesSome (λ env. settles env s) fault old new → LeftSome (λ env. settles_all env (s ∷ xs)) fault old new
left_at s xs fault old new left =
    let choice = alone left.members in
    let env = env_in choice old in
    record { choice = choice; is = left_first (settles env s) (settles_all env xs) fault old new (left.is choice refl) }

-- if there is none nothing is to be done
pub did_end : (s : Stepping) → DidSome (λ env. settles_all env []) s s
did_end s = record { choice = alone []; is = record { is = sym (did_none s) } }
