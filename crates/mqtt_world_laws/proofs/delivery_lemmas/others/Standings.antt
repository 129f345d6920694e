-- In a new world each receiver stands, since nobody has come; and if one stands, the law of its hop holds of what it has
-- read (MQTT 5.0, 4.3.2, 4.3.3, 4.6).
use Rattle.std.proofs.Common.{◌≡◌, ℕ, ◌≤◌, true, List, [], Option, Some, None, bytes_eq, refl, sym, ap, subst, false, ◌∙◌}
use Rattle.std.specs.Prelude.{All, find, is_some}
use Rattle.std.specs.List.{AllByRecursion}
use Rattle.mqtt_base.specs.declared.session.CopyId.{CopyId}
use Rattle.mqtt_world_model.specs.model.Ends.{Publisher, Receiver}
use Rattle.mqtt_world_model.specs.model.Laws.{copies_in, handed_count, released_in, stand_among}
use Rattle.mqtt_world_model.specs.model.World.{World, publisher_named, receiver_named}
use Rattle.mqtt_rules.specs.step.Laws.{AreWithin}
use Rattle.mqtt_rules.specs.step.State.{session_named}
use Rattle.mqtt_rules.specs.declared.step.Capacity.{Capacity}
use Rattle.mqtt_world_laws.specs.acceptance.Fair.{IsNew}
use Rattle.mqtt_world_laws.specs.receiver.Served.{IsTidy}
use Rattle.mqtt_world_laws.specs.receiver.Own.{RunsAlone}
use Rattle.mqtt_world_laws.proofs.receiver_lemmas.queue.Handed.{at_most_once, in_order, released_once}
use Rattle.mqtt_world_laws.specs.delivery.Standing.{GoesAlong, IsOtherPublisher, IsOtherReceiver, IsOtherStranger, IsSeen, Stands, StandsWith}
use Rattle.mqtt_world_laws.proofs.receiver_lemmas.queue.Numbers.{place_of, places_number}
use Rattle.mqtt_records.specs.lists.Distinct.{AllDiffer}
use Rattle.mqtt_rules.specs.step.State.{Broker}

-- in a new world a receiver stands
pub new_stands : (c : List ℕ) (largest : ℕ) (limits : Capacity) (w : World) → AreWithin limits → IsTidy limits w.broker → IsNew w → Stands [] c largest limits w
new_stands c largest limits w within tidy new = record {
  ids = [];
  grown = ([], refl);
  ns = [];
  standing = record {
    around = record {
      within = within;
      steady = new.steady;
      tidy = tidy;
      known = λ n inside. absurd cc;
      publishers = subst (AllByRecursion (IsOtherPublisher [] w.broker.given)) (sym new.publishers) tt;
      receivers = subst (AllByRecursion (IsOtherReceiver c [] w.broker.given)) (sym new.receivers) tt;
      strangers = subst (AllByRecursion (IsOtherStranger [] w.broker.given)) (sym new.strangers) tt;
      alone = λ there. nobody there;
      place = λ there. absurd (no_one there);
    };
    seen = subst (IsSeen largest [] [] w.broker) (sym none) (refl, refl);
  };
}
  where
    none : receiver_named c w ≡ None
    none = ap (find (λ (r : Receiver). bytes_eq r.client c)) new.receivers

    nobody : is_some (receiver_named c w) ≡ true → publisher_named c w ≡ None
    nobody there = ap (find (λ (p : Publisher). bytes_eq p.client c)) new.publishers

    no_one : is_some (receiver_named c w) ≡ true → ⊥
    no_one there = let clash : true ≡ false = sym there ∙ ap is_some none in absurd cc

-- ---- what it has read

runs_alone : (o : Option ℕ) (largest : ℕ) (ids : List CopyId) (ns : List ℕ) (r : Receiver) (b : Broker) → GoesAlong o largest ids ns r b → AllDiffer ids → RunsAlone (place_of ids) largest ids r b
runs_alone None largest ids ns r b k differ = k.runs (place_of ids) (places_number ids differ)
runs_alone (Some birth) largest ids ns r b k differ = let x = k.runs (place_of ids) (places_number ids differ) in record { after = x.after; same = x.same; run_is = x.run_is }

module _ (c : List ℕ) (largest : ℕ) (limits : Capacity) (ids : List CopyId) (ns : List ℕ) (r : Receiver) (w : World) (h : StandsWith c largest limits ids ns w) (e : receiver_named c w ≡ Some r) where
  -- what a receiver that stands sees is a run of its hop
  pub runs_so : RunsAlone (place_of ids) largest ids r w.broker
  runs_so = let placed = subst (IsSeen largest ids ns w.broker) e h.seen in runs_alone placed.birth largest ids ns r w.broker placed.along placed.told.differ

  -- a receiver was handed a copy at most once
  pub handed_once : (copy : CopyId) → handed_count copy r ≤ 1
  handed_once copy = let x = runs_so in at_most_once (place_of ids) largest x.after r w.broker x.run_is copy

  -- copies were handed over in the order in which they entered
  pub handed_in_order : stand_among (copies_in r.ledger) ids ≡ true
  handed_in_order = let x = runs_so in subst (λ (all : List CopyId). stand_among (copies_in r.ledger) all ≡ true) x.same (in_order (place_of ids) largest x.after r w.broker x.run_is)

  -- a copy that stands released was handed over once
  pub handed_released : All (λ (copy : CopyId). handed_count copy r ≡ 1) (released_in (session_named r.client w.broker.records))
  handed_released = let x = runs_so in released_once (place_of ids) largest x.after r w.broker x.run_is
