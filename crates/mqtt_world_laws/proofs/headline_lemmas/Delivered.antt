-- The one law, part by part (MQTT 5.0, 3.3.4, 4.3, 4.4, 4.6, 4.8, 4.9).
use Rattle.std.proofs.Common.{◌≡◌, ℕ, List, Some, sym, ap, subst, ◌∙◌}
use Rattle.std.proofs.lemmas.List.Elements.{All-from_recursion}
use Rattle.mqtt_rules.proofs.step_lemmas.numbers.Copies.{each_more}
use Rattle.mqtt_rules.specs.step.Laws.{AreWithin}
use Rattle.mqtt_rules.specs.declared.step.Capacity.{Capacity}
use Rattle.mqtt_world_model.specs.model.Ends.{Content, Receiver}
use Rattle.mqtt_world_model.specs.model.Laws.{AcceptedOnce, CarriesFrom, contents_by}
use Rattle.mqtt_world_model.specs.model.Run.{Turn, from_over, run}
use Rattle.mqtt_world_model.specs.model.World.{World, publisher_named, receiver_named, start}
use Rattle.mqtt_world_laws.proofs.acceptance_lemmas.copies.CopyRuns.{run_balances, run_numbers}
use Rattle.mqtt_world_laws.proofs.acceptance_lemmas.copies.OnceRuns.{ends_once, enters_once, waits_or_has_ended}
use Rattle.mqtt_world_laws.proofs.acceptance_lemmas.copies.Routed.{run_routed}
use Rattle.mqtt_world_laws.proofs.acceptance_lemmas.copies.StepRuns.{run_enters, run_goes_out}
use Rattle.mqtt_world_laws.proofs.acceptance_lemmas.copies.Walks.{counted}
use Rattle.mqtt_world_laws.specs.acceptance.Fair.{IsCounted, IsFair}
use Rattle.mqtt_world_laws.specs.acceptance.Once.{CarriesIn}
use Rattle.mqtt_world_laws.proofs.acceptance_lemmas.publishers.Carried.{all_carried}
use Rattle.mqtt_world_laws.proofs.acceptance_lemmas.publishers.Runs.{accepts_once, few_open, start_new}
use Rattle.mqtt_world_laws.proofs.routing_lemmas.Intended.{all_enter}
use Rattle.mqtt_world_laws.proofs.routing_lemmas.Members.{all_have_lines}
use Rattle.mqtt_world_laws.proofs.causes_lemmas.CauseRuns.{all_ends, run_caused}
use Rattle.mqtt_world_laws.specs.receiver.Drains.{Doing, all_turns}
use Rattle.mqtt_world_laws.proofs.receiver_lemmas.drains.DrainRuns.{drains_are_runs, run_append}
use Rattle.mqtt_world_laws.specs.delivery.Scripts.{DeliversOnce}
use Rattle.mqtt_world_laws.proofs.delivery_lemmas.whole.EveryRun.{run_hands_once, run_keeps_ledger}
use Rattle.mqtt_world_laws.proofs.delivery_lemmas.whole.Scripts.{run_delivers}
use Rattle.mqtt_world_laws.proofs.unsent_lemmas.Unsent.{run_left_waiting, run_never_handed, run_over}
use Rattle.mqtt_world_laws.proofs.drains_lemmas.Emptied.{script_empties}
use Rattle.mqtt_world_laws.proofs.drain_causes_lemmas.DrainRuns.{script_ends}
use Rattle.mqtt_world_laws.specs.drain_causes.Fitting.{AllDrainsFit}
use Rattle.mqtt_world_laws.proofs.drain_causes_lemmas.Fitting.{drains_fit}
use Rattle.mqtt_world_laws.specs.headline.Delivery.{DeliversExactlyOnce, DoingsDeliver, EndsAllOnce, EntersAllOnce, HandsOverOnce}
use Rattle.mqtt_world_laws.specs.headline.Lives.{AreFairLives, BeginsWell, BrokerLife, IsFairScript, after_lives}
use Rattle.mqtt_world_laws.proofs.headline_lemmas.Drained.{each_drains}
use Rattle.mqtt_world_laws.proofs.headline_lemmas.Lives.{lives_begin}

-- ---- what the broker does, whatever ends do

module _ (limits : Capacity) (ts : List Turn) (w : World) (m : BeginsWell limits w) (h : IsCounted limits ts w) where
  -- in every run that spends no number exactly the intended copies enter, each once
  pub enters_all : EntersAllOnce limits ts w
  enters_all = record {
    routed = run_routed limits ts w;
    numbered = run_numbers limits ts w m.untouched.new h;
    intended = all_enter limits ts w m.untouched.new h;
    brought = run_enters limits ts w m.untouched.new h;
    once = enters_once limits ts w m.untouched.new h m.apart;
    at_once = run_goes_out limits ts w m.untouched.new h;
    lines = all_have_lines limits ts w m.untouched.new h;
  }

  -- and each waits or has one end, for its cause
  pub ends_all : EndsAllOnce limits ts w
  ends_all = record {
    once = ends_once limits ts w m.untouched.new h m.apart;
    waits_or_has_ended = waits_or_has_ended limits ts w m.untouched.new h m.apart;
    balanced = run_balances limits ts w m.untouched.new h;
    causes = run_caused limits ts w m.untouched.new h;
    all = all_ends limits ts w;
  }

-- ---- a run

module _ (limits : Capacity) (ts : List Turn) (w : World) (m : BeginsWell limits w) (fair : IsFair limits ts w) where
  all : DeliversOnce limits ts w
  all = run_delivers limits ts w m.untouched m.apart fair

  hands_over : (c : List ℕ) (r : Receiver) → receiver_named c (run limits ts w) ≡ Some r → HandsOverOnce limits ts w c r
  hands_over c r e = record {
    once = run_hands_once limits ts w m.untouched fair c r e;
    as_entered = all.as_entered c r e;
    carries_each = all.carries_each m.numbers c r e;
    carries = all.carries c r e;
    handed = all.handed c r e;
    never_handed = run_never_handed limits ts w m.untouched m.apart fair c r e;
    left_waiting = run_left_waiting limits ts w m.untouched m.apart fair c r e;
    over = λ xs ys is q f.
        run_over limits xs ys w m.untouched m.apart (subst (λ (zs : List Turn). IsFair limits zs w) (sym is) fair) c q r f
        (ap (λ (zs : List Turn). receiver_named c (run limits zs w)) is ∙ e);
    since = λ xs ys is q f.
        let v = run limits xs w in
        let there : receiver_named c (run limits ys v) ≡ Some r = sym (ap (receiver_named c) (run_append limits xs ys w)) ∙ (ap (λ (zs : List Turn). receiver_named c (run limits zs w)) is ∙ e) in
        record {
          grows = (run_keeps_ledger limits ys v c q r f there).ledger;
          for_good = all.for_good xs ys is c q r f e;
          taken = all.taken xs ys is c q r f e;
          in_order = all.in_order xs ys is c q r f e;
        };
  }

  -- every fair run that begins well delivers exactly once
  pub run_delivers_all : DeliversExactlyOnce limits ts w
  run_delivers_all = record {
    messages = record { each = all.accepted; carried = all.carried; few_open = all.few_open };
    entering = enters_all limits ts w m (counted limits ts w fair);
    ending = ends_all limits ts w m (counted limits ts w fair);
    receivers = hands_over;
  }

-- ---- a script

-- a fair script that begins well delivers exactly once
pub script_delivers : (limits : Capacity) (ds : List Doing) (w : World) → BeginsWell limits w → IsFairScript limits ds w → DoingsDeliver limits ds w
script_delivers limits ds w m fair = record {
  is_run = drains_are_runs limits ds w;
  delivers = run_delivers_all limits (all_turns limits ds w) w m fair;
  drained = each_drains limits ds w (script_empties limits ds w m.untouched fair) (script_ends limits ds w m.untouched fair);
  fit = drains_fit limits ds w m.untouched fair;
}

-- so does one behind any lives of the broker
pub lives_deliver : (limits : Capacity) (ls : List BrokerLife) (ds : List Doing) → AreWithin limits → AreFairLives limits ls → IsFairScript limits ds (after_lives limits ls) → DoingsDeliver limits ds (after_lives limits ls)
lives_deliver limits ls ds within h fair = script_delivers limits ds (after_lives limits ls) (lives_begin limits ls within h) fair

-- and then no copy of a drain is too large
pub lives_fit : (limits : Capacity) (ls : List BrokerLife) (ds : List Doing) → AreWithin limits → AreFairLives limits ls → IsFairScript limits ds (after_lives limits ls) → AllDrainsFit limits ds (after_lives limits ls)
lives_fit limits ls ds within h fair = (lives_deliver limits ls ds within h fair).fit

-- ---- from nothing stored

-- in every fair run a message is accepted at most once
pub accepted_once : (limits : Capacity) (ts : List Turn) → IsFair limits ts start → AcceptedOnce limits ts
accepted_once limits ts fair =
    let new = start_new in
    let each = accepts_once limits ts start new fair in
    record {
      once = λ c n. (each c n).once;
      unsent = λ c n. (each c n).unsent;
      complete = λ c n. (each c n).complete;
      refusal = λ c n. (each c n).refusal;
      acknowledged = λ c n. (each c n).acknowledged;
      carried = λ c.
          let contents : List Content = contents_by (publisher_named c (run limits ts start)) in
          let from = from_over c limits ts start in
          All-from_recursion (CarriesFrom c contents) from (each_more (CarriesIn c contents) (CarriesFrom c contents) (λ x h. h.carries) from (all_carried limits ts start new fair c));
      within = few_open limits ts start new fair;
    }
