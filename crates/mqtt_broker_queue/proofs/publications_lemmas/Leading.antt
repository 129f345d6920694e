-- In the middle of an act of many parts: what is left to do leads to the same end.
use Rattle.std.proofs.Common.{◌≡◌, ap, sym, subst, refl, ◌∙◌, List, [], ◌∷◌}
use Rattle.mqtt_rules.specs.step.State.{Broker, Env, MemberChoice}
use Rattle.mqtt_rules.specs.step.Deeds.{Act, series}
use Rattle.mqtt_broker_step.specs.declared.fault.StepFault.{StepFault}
use Rattle.mqtt_broker_step.specs.declared.fault.StepFault.TheVariants.{Memory, Spent}
use Rattle.mqtt_broker_step.specs.Stepping.{Stepping, Did, Does, IsLeft, Leaves, env_in}
use Rattle.mqtt_broker_step.proofs.Doing.{did_none}
use Rattle.mqtt_broker_step.proofs.Then.{did_then, left_first, left_then}

-- what is left of an act, if it is done or refused, makes the whole act done or refused
pub record LeadsOn (rest all : Env → Act) (first s : Stepping) : Type 0 where
  pub start : s.start ≡ first.start
  pub limits : s.limits ≡ first.limits
  pub ok : (choice : MemberChoice) (new : Stepping) → Did (rest (env_in choice first)) s new → Did (all (env_in choice first)) first new
  pub left : (choice : MemberChoice) (fault : StepFault) (new : Stepping) → IsLeft (rest (env_in choice first)) fault s new → IsLeft (all (env_in choice first)) fault first new

-- at the beginning the whole act is left
pub leads_first : (all : Env → Act) (first : Stepping) → LeadsOn all all first first
leads_first all first = record { start = refl; limits = refl; ok = λ choice new is. is; left = λ choice fault new is. is }

-- steps of one start, under the same limits, are surrounded by the same
pub same_env : (choice : MemberChoice) (first s : Stepping) → s.start ≡ first.start → s.limits ≡ first.limits → env_in choice s ≡ env_in choice first
same_env choice first s start limits =
    ap (λ l. let e : Env = record { limits = l; choice = choice; start = s.start.records } in e) limits
    ∙ ap (λ (b : Broker). let e : Env = record { limits = first.limits; choice = choice; start = b.records } in e) start

-- one part more is done
pub leads_next : (f : Env → Act) (fs : Env → List Act) (all : Env → Act) (first s s2 : Stepping) → LeadsOn (λ env. series (f env ∷ fs env)) all first s
    → Does f s s2 → LeadsOn (λ env. series (fs env)) all first s2
leads_next f fs all first s s2 w is =
    let done : (choice : MemberChoice) → Did (f (env_in choice first)) s s2 =
    λ choice. subst (λ (e : Env). Did (f e) s s2) (same_env choice first s w.start w.limits) (is choice) in
    record {
      start = ap (λ (t : Stepping). t.start) (done (λ n client. [])).is ∙ w.start;
      limits = ap (λ (t : Stepping). t.limits) (done (λ n client. [])).is ∙ w.limits;
      ok = λ choice new rest. w.ok choice new (did_then (f (env_in choice first)) (series (fs (env_in choice first))) s s2 new (done choice) rest);
      left = λ choice fault new rest. w.left choice fault new (left_then (f (env_in choice first)) (series (fs (env_in choice first))) fault s s2 new (done choice) rest);
    }

-- the next part is refused
pub leads_left : (f : Env → Act) (fs : Env → List Act) (all : Env → Act) (fault : StepFault) (first s new : Stepping) → LeadsOn (λ env. series (f env ∷ fs env)) all first s
    → Leaves f fault s new → Leaves all fault first new
leads_left f fs all fault first s new w is = λ choice.
    w.left choice fault new (left_first (f (env_in choice first)) (series (fs (env_in choice first))) fault s new
    (subst (λ (e : Env). IsLeft (f e) fault s new) (same_env choice first s w.start w.limits) (is choice)))

-- no part is left
pub leads_last : (all : Env → Act) (first s : Stepping) → LeadsOn (λ env. series []) all first s → Does all first s
leads_last all first s w = λ choice. w.ok choice s (record { is = sym (did_none s) })

-- ---- nothing is done

not_spent : (fault : StepFault) → fault ≡ Memory → fault ≡ Spent → ⊥
not_spent fault memory spent = cc

-- if memory was wanting before anything was done, the act is refused
pub nothing_leaves : (act : Env → Act) (fault : StepFault) (s new : Stepping) → fault ≡ Memory → new ≡ s → Leaves act fault s new
nothing_leaves act fault s new memory same = λ choice. record {
  start = ap (λ (t : Stepping). t.start) same;
  limits = ap (λ (t : Stepping). t.limits) same;
  spent = λ e. absurd (not_spent fault memory e);
}
