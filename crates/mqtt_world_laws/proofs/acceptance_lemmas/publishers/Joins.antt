-- An end joins by a new line and CONNECT: the publisher, or another end (MQTT 5.0, 3.1, 4.2).
use Rattle.std.proofs.Common.{◌≡◌, ℕ, suc, ◌≤◌, Bool, true, false, cond, not, ◌||◌, List, ◌∷◌, Option, Some, None, refl, sym, ap, subst, ◌∙◌, arith, inl, inr}
use Rattle.std.specs.Prelude.{option_map}
use Rattle.mqtt_flow.specs.inbound.Line.{Link, away, asked, live}
use Rattle.mqtt_flow.specs.inbound.Publisher.{CONNECT}
use Rattle.mqtt_flow.specs.outbound.Receiver.{connect}
use Rattle.mqtt_rules.specs.step.State.{Broker}
use Rattle.mqtt_rules.specs.step.Laws.{IsAmong}
use Rattle.mqtt_rules.specs.step.Step.{NewLine, can_link, stepped, told}
use Rattle.mqtt_world_model.specs.model.Lines.{Line, joined}
use Rattle.mqtt_world_model.specs.model.Ends.{Sent, shake, Publisher, Back, answers}
use Rattle.mqtt_world_model.specs.model.World.{World, Setting, connect_end, happens, is_bad, is_away, link_by, publisher_named, receiver_named, publisher_told, receiver_told, calls, links}
use Rattle.mqtt_world_model.specs.model.Run.{is_clean, begins_clean}
use Rattle.mqtt_world_model.specs.model.Hops.{MayJoin, joined_by}
use Rattle.mqtt_world_model.specs.model.Seats.{Comes}
use Rattle.mqtt_world_model.proofs.model_lemmas.seats.Places.{step_place}
use Rattle.mqtt_world_model.proofs.model_lemmas.seats.Doings.{joins}
use Rattle.mqtt_world_laws.proofs.acceptance_lemmas.copies.Steady.{linking_spends_none, steady_step}
use Rattle.mqtt_world_laws.proofs.acceptance_lemmas.publishers.Ends.{all_turned, IsNotHim, whose_name, line_still, still_apart}
use Rattle.mqtt_world_laws.proofs.acceptance_lemmas.publishers.Around.{IsOutOf, HasFree, OtherStranger, Around, Placed, Him, Holds, Stays, around_mapped, longer, among_line, named_called, if_there}
use Rattle.mqtt_world_laws.proofs.acceptance_lemmas.publishers.Changes.{on_line, on_back, line_others, own_holds}
use Rattle.mqtt_world_laws.proofs.acceptance_lemmas.publishers.StrangerBytes.{linked_given}
use Rattle.mqtt_world_laws.proofs.acceptance_lemmas.publishers.Strangers.{linking_holds, next_free}

-- ---- another

module _ (c d : List ℕ) (clean : Bool) (set : Setting) (accepted : List ℕ) (w : World) (can : can_link set.limits w.broker ≡ true) where
  abbrev next : ℕ
  next = suc w.broker.given

  abbrev new : Broker
  new = stepped set.limits set.choice w.now NewLine w.broker

  abbrev joins_so : Line Sent → Line Sent
  joins_so l = joined (shake (CONNECT clean)) next clean l

  abbrev joins_there : Line Back → Line Back
  joins_there l = joined (answers (connect clean)) next clean l

  other_joins : (his : List ℕ) → Holds c set.limits his accepted w → IsNotHim c d w → Stays c set.limits accepted (links set (Some next) d clean w)
  other_joins his h not_him = record {
    his = his;
    holds = line_others c d set.limits his accepted (calls set NewLine w) joins_so joins_there
        (λ l f. record { number = next_free c set his accepted w h can; old_number = f.old_number })
        (λ l f. record { number = next_free c set his accepted w h can; old_number = f.old_number })
        (λ there. not_him (sym (if_there c set (Some NewLine) w) ∙ there)) (linking_holds c set his accepted w h);
  }

  -- ---- the publisher itself: the new line is its own

  still_out : (his : List ℕ) (n : ℕ) → IsOutOf his n → n ≤ w.broker.given → IsOutOf (next ∷ his) n × (n ≤ new.given)
  still_out his n out le =
      let given = linked_given set w.now w.broker can in (
        (λ among. elim among [
          | inl it ↦ absurd (omega (arith, le, it))
          | inr further ↦ out further
        ]),
        omega (arith, le, given),
      )

  free_line : {U : Type 0} (his : List ℕ) (l m : Line U) → m.number ≡ l.number → m.old_number ≡ l.old_number → HasFree his w.broker.given l → HasFree (next ∷ his) new.given m
  free_line his l m e f h = line_still (IsOutOf his) (IsOutOf (next ∷ his)) w.broker.given new.given l m (still_out his) e f h

  his_joins_around : (his : List ℕ) → Around c set.limits his w → Around c set.limits (next ∷ his) (calls set NewLine w)
  his_joins_around his a =
      let out = told set.limits set.choice w.now NewLine w.broker in
      around_mapped c set.limits his (next ∷ his) w new w.now (publisher_told new out) (receiver_told new out) w.strangers a
      (steady_step set.limits set.choice w.now NewLine w.broker a.within a.steady (linking_spends_none set.limits set.choice w.now w.broker))
      (step_place set.limits set.choice w.now NewLine c w.broker) (λ j among. given j among) (inr a.none) (λ p. refl) (λ r. refl)
      (λ p f. free_line his p.line (publisher_told new out p).line refl refl f) (λ r f. free_line his r.line (receiver_told new out r).line refl refl f)
      (all_turned (OtherStranger his w.broker.given) (OtherStranger (next ∷ his) new.given) w.strangers (λ s f. still_apart (IsOutOf his) (IsOutOf (next ∷ his)) w.broker.given new.given s.number s.number (still_out his) refl f) a.strangers)
    where
      given : (j : ℕ) → IsAmong j (next ∷ his) → j ≤ new.given
      given j (inl it) = let is = linked_given set w.now w.broker can in omega (arith, it, is)
      given j (inr further) = let le = a.known j further in let is = linked_given set w.now w.broker can in omega (arith, le, is)

  his_joins : (his : List ℕ) (p : Publisher) → Holds c set.limits his accepted w → publisher_named c w ≡ Some p → p.line.link ≡ away → (p.line.clean ≡ true → clean ≡ true)
      → Stays c set.limits accepted (links set (Some next) c clean w)
  his_joins his p h e is_away_ carried =
      let out = told set.limits set.choice w.now NewLine w.broker in
      let placed = subst (Him his w.broker accepted) e h.him in
      let may : MayJoin set.limits clean p w.broker = record { can = can; given = h.around.steady.lines.given; away = is_away_; carried = carried } in
      let x = joins set.limits set.choice w.now clean placed.birth placed.line p w.broker accepted placed.seat placed.named may in
      record {
        his = next ∷ his;
        holds = own_holds c set.limits (next ∷ his) accepted (calls set NewLine w) (publisher_told new out p) (on_line joins_so) (on_back joins_there) (λ q. refl) (λ q. refl)
            (named_called c set NewLine w ∙ ap (option_map (publisher_told new out)) e) (his_joins_around his h.around) (at_last his p h placed x);
      }
    where
      at_last : (his : List ℕ) (p : Publisher) → Holds c set.limits his accepted w → (placed : Placed his p w.broker accepted)
          → Comes placed.line p (joined_by set.limits set.choice w.now clean p w.broker) w.broker new accepted accepted
          → Placed (next ∷ his) (joined_by set.limits set.choice w.now clean p w.broker) new accepted
      at_last his p h placed x = record {
        birth = x.birth;
        line = x.line;
        seat = x.seat;
        its_line = inr (among_line his p placed.line x.line placed.its_line placed.number placed.old_number x.its_line);
        number = λ j is. let it : next ≡ j = cc in inl it;
        old_number = λ j is. inr (placed.old_number j is);
        apart = λ j is old.
            let it : next ≡ j = cc in
            let le = h.around.known j (placed.old_number j old) in
            omega (arith, it, le);
        settled = λ f. absurd cc;
        named = placed.named;
        run = longer accepted accepted p (joined_by set.limits set.choice w.now clean p w.broker) w.broker new x.events placed.run x.seen_is;
      }

-- ---- whoever it is, if there is a line for it

so_away : (link : Link) → not (is_away (Some link)) ≡ false → link ≡ away
so_away away h = refl
so_away asked h = absurd cc
so_away live h = absurd cc

so_clean : (clean was : Bool) → (clean || not was) ≡ true → was ≡ true → clean ≡ true
so_clean true was h is = refl
so_clean false true h is = absurd cc
so_clean false false h is = absurd cc

-- an end that connects leaves the publisher in step
pub joined_stays : (c d : List ℕ) (clean : Bool) (set : Setting) (accepted : List ℕ) (w : World) → Stays c set.limits accepted w → is_bad (connect_end d clean) w ≡ false → begins_clean (connect_end d clean) w ≡ true
    → Stays c set.limits accepted (happens set (connect_end d clean) w)
joined_stays c d clean set accepted w stay good carried = by (can_link set.limits w.broker) refl
  where
    by : (t : Bool) → can_link set.limits w.broker ≡ t → Stays c set.limits accepted (links set (cond t (Some (suc w.broker.given)) None) d clean w)
    by false can = stay
    by true can = elim (whose_name c d w) [
      | inr not_him ↦ other_joins c d clean set accepted w can stay.his stay.holds not_him
      | inl own ↦
          let p = own.0 in
          let r = receiver_named c w in
          let free : not (is_away (Some p.line.link)) ≡ false =
          sym (ap (λ (o : Option Publisher). not (is_away (link_by o r))) own.1) ∙ subst (λ (x : List ℕ). is_bad (connect_end x clean) w ≡ false) own.2 good in
          let kept : (clean || not p.line.clean) ≡ true =
          sym (ap (λ (o : Option Publisher). clean || not (is_clean o r)) own.1) ∙ subst (λ (x : List ℕ). begins_clean (connect_end x clean) w ≡ true) own.2 carried in
          subst (λ (x : List ℕ). Stays c set.limits accepted (links set (Some (suc w.broker.given)) x clean w)) (sym own.2)
          (his_joins c d clean set accepted w can stay.his p stay.holds own.1 (so_away p.line.link free) (so_clean clean p.line.clean kept))
    ]
