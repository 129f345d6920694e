-- What a fair run leaves may begin another: its copies are told apart, and their publications were accepted (MQTT 5.0, 4.1, 4.6).
use Rattle.std.proofs.Common.{◌≡◌, ℕ, false, List, [], ◌∷◌, refl, sym, subst, arith}
use Rattle.mqtt_records.specs.declared.state.records.Records.{Records}
use Rattle.mqtt_rules.proofs.step_lemmas.numbers.Copies.{kinds}
use Rattle.mqtt_rules.proofs.step_lemmas.numbers.NumberCopies.{opening_accepted, step_accepted}
use Rattle.mqtt_rules.specs.step.Laws.{AreWithin}
use Rattle.mqtt_rules.specs.step.Numbers.{HasAcceptedNumbers}
use Rattle.mqtt_rules.specs.step.State.{Broker, MemberChoice}
use Rattle.mqtt_rules.specs.step.Step.{is_opening_spent}
use Rattle.mqtt_rules.specs.declared.step.Capacity.{Capacity}
use Rattle.mqtt_world_model.specs.model.Run.{Turn, run}
use Rattle.mqtt_world_model.specs.model.World.{World, start}
use Rattle.mqtt_world_laws.specs.acceptance.Fair.{IsFair, opened_world}
use Rattle.mqtt_world_laws.specs.acceptance.Identities.{TellsApart}
use Rattle.mqtt_world_laws.proofs.acceptance_lemmas.copies.Entries.{U}
use Rattle.mqtt_world_laws.proofs.acceptance_lemmas.copies.OnceRuns.{opened_apart, start_apart}
use Rattle.mqtt_world_laws.specs.receiver.Drains.{all_turns}
use Rattle.mqtt_world_laws.proofs.receiver_lemmas.drains.DrainRuns.{drains_are_runs}
use Rattle.mqtt_world_laws.specs.delivery.Alone.{IsKept}
use Rattle.mqtt_world_laws.specs.delivery.Untouched.{IsUntouched}
use Rattle.mqtt_world_laws.proofs.delivery_lemmas.broker.Alone.{run_keeps}
use Rattle.mqtt_world_laws.proofs.delivery_lemmas.whole.EveryRun.{fair_run_kept, run_opens_under}
use Rattle.mqtt_world_laws.proofs.delivery_lemmas.broker.Untouched.{start_untouched}
use Rattle.mqtt_world_laws.proofs.unsent_lemmas.Once.{run_once}
use Rattle.mqtt_world_laws.specs.headline.Lives.{AreFairLives, BeginsWell, BrokerLife, after_lives}

-- ---- copies that may come yet, over a run

module _ (limits : Capacity) (ts : List Turn) (w : World) (u : IsUntouched limits w) (fair : IsFair limits ts w) (apart : TellsApart w.broker.records) where
  abbrev last : Records
  last = (run limits ts w).broker.records

  -- a copy that may come yet doesn't stand
  pub run_apart : TellsApart last
  run_apart = record {
    once = λ c. let few = (run_once c limits ts w u.new fair apart).once in omega (arith, few);
    numbered = λ c may.
        let few = (run_once c limits ts w u.new fair apart).once in
        let one : U c (kinds last) ≡ 1 = rw may refl in
        omega (arith, few, one);
    retained = (fair_run_kept limits ts w u fair []).fit.once;
  }

-- ---- numbers of publications

abbrev Accepted : Broker → Type 0
Accepted b = HasAcceptedNumbers b.records

numbers_kept : (limits : Capacity) → IsKept limits Accepted
numbers_kept limits = record {
  called = λ choice now call b s unspent h. step_accepted limits choice now call b h;
  reopened = λ choice now b s unspent h. opening_accepted limits choice now b.records h;
}

-- ---- so it may begin

-- the first life begins well
pub start_begins : (limits : Capacity) → AreWithin limits → BeginsWell limits start
start_begins limits within = record { untouched = start_untouched limits within; apart = start_apart; numbers = (tt, tt) }

-- under whatever limits
pub run_begins_under : (limits others : Capacity) (ts : List Turn) (choice : MemberChoice) (now : ℕ) (w : World) → BeginsWell limits w → IsFair limits ts w → AreWithin others → is_opening_spent others choice now (run limits ts w).broker.records ≡ false
    → BeginsWell others (opened_world others choice now (run limits ts w).broker.records)
run_begins_under limits others ts choice now w m fair within unspent =
    let r = (run limits ts w).broker.records in
    let s = (fair_run_kept limits ts w m.untouched fair []).stands.standing.around.steady in
    record {
      untouched = run_opens_under limits others ts choice now w m.untouched fair within unspent;
      apart = opened_apart others choice now r within (record { coherent = s.coherent; unspent = unspent }) (run_apart limits ts w m.untouched fair m.apart);
      numbers = opening_accepted others choice now r (run_keeps Accepted limits ts w (numbers_kept limits) m.untouched.new fair m.numbers);
    }

-- so does one that opens over what a fair run left
pub run_begins : (limits : Capacity) (ts : List Turn) (choice : MemberChoice) (now : ℕ) (w : World) → BeginsWell limits w → IsFair limits ts w → is_opening_spent limits choice now (run limits ts w).broker.records ≡ false
    → BeginsWell limits (opened_world limits choice now (run limits ts w).broker.records)
run_begins limits ts choice now w m fair unspent = run_begins_under limits limits ts choice now w m fair fair.within unspent

-- and after any lives
pub lives_begin : (limits : Capacity) (ls : List BrokerLife) → AreWithin limits → AreFairLives limits ls → BeginsWell limits (after_lives limits ls)
lives_begin limits [] within h = start_begins limits within
lives_begin limits (l ∷ ls) within h =
    let w = after_lives l.limits ls in
    let is = drains_are_runs l.limits l.doings w in
    subst (λ (v : World). BeginsWell limits (opened_world limits l.choice l.now v.broker.records)) (sym is)
    (run_begins_under l.limits limits (all_turns l.limits l.doings w) l.choice l.now w (lives_begin l.limits ls h.1.fair.within h.0) h.1.fair within
    (subst (λ (v : World). is_opening_spent limits l.choice l.now v.broker.records ≡ false) is h.1.unspent))
