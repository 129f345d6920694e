-- An end joins by a new line and CONNECT, in the eyes of one receiver: itself, or another.
use Rattle.std.proofs.Common.{◌≡◌, ℕ, suc, ◌≤◌, Bool, true, false, cond, not, ◌||◌, ◌⊎◌, List, ◌∷◌, Option, Some, None, nat_eq, refl, sym, ap, subst, ◌∙◌, arith, inl, inr}
use Rattle.std.specs.Prelude.{is_some, option_map}
use Rattle.std.proofs.lemmas.Bool.{cases_Bool, eqb-true}
use Rattle.mqtt_base.specs.declared.session.CopyId.{CopyId}
use Rattle.mqtt_flow.specs.outbound.Receiver.{connect}
use Rattle.mqtt_flow.specs.inbound.Line.{Link, asked, away, live}
use Rattle.mqtt_flow.specs.inbound.Publisher.{CONNECT}
use Rattle.mqtt_world_model.specs.model.Ends.{Back, Publisher, Receiver, Sent, answers, shake}
use Rattle.mqtt_world_model.specs.model.Lines.{Line, is_one_of, joined}
use Rattle.mqtt_world_model.specs.model.Run.{begins_clean, is_clean}
use Rattle.mqtt_world_model.specs.model.World.{Setting, World, calls, connect_end, happens, is_away, is_bad, link_by, links, publisher_told, receiver_named, receiver_told}
use Rattle.mqtt_world_model.proofs.model_lemmas.seats.Places.{step_place}
use Rattle.mqtt_rules.proofs.step_lemmas.numbers.NumberSteps.{step_fell}
use Rattle.mqtt_rules.specs.step.State.{Broker}
use Rattle.mqtt_rules.specs.step.Step.{NewLine, can_link, stepped, told}
use Rattle.mqtt_world_laws.proofs.acceptance_lemmas.publishers.Ends.{all_turned, line_still, still_apart}
use Rattle.mqtt_world_laws.proofs.acceptance_lemmas.copies.Steady.{linking_spends_none, steady_step}
use Rattle.mqtt_world_laws.proofs.acceptance_lemmas.publishers.StrangerBytes.{linked_given}
use Rattle.mqtt_world_laws.specs.receiver.Handing.{MayComeBack, receiver_joined}
use Rattle.mqtt_world_laws.proofs.receiver_lemmas.queue.Apart.{apart_still}
use Rattle.mqtt_world_laws.proofs.receiver_lemmas.own.OwnDoings.{joins_awaiting, joins_in_step}
use Rattle.mqtt_world_laws.proofs.receiver_lemmas.connects.Stopping.{step_tidy}
use Rattle.mqtt_world_laws.specs.delivery.Standing.{GoesAlong, HasOthers, IsAround, IsOtherStranger, IsOutOf, IsPlaced, IsSeen, Stands, StandsWith, BeginWith}
use Rattle.mqtt_world_laws.proofs.delivery_lemmas.others.Around.{IsNotIts, around_mapped, end_others, on_back, on_line, own_stands, whose_name}
use Rattle.mqtt_world_laws.proofs.delivery_lemmas.others.Like.{seat_joined}
use Rattle.mqtt_world_laws.proofs.delivery_lemmas.others.Outside.{if_there, lines_of, named_called}
use Rattle.mqtt_world_laws.proofs.delivery_lemmas.others.Strangers.{linking_stands, next_free}
use Rattle.mqtt_world_laws.proofs.delivery_lemmas.order.Growing.{begin_then}

-- ---- its copies and lines

joined_along : (o : Option ℕ) (largest : ℕ) (ids : List CopyId) (ns : List ℕ) (set : Setting) (now : ℕ) (clean : Bool) (r : Receiver) (b : Broker) → GoesAlong o largest ids ns r b → MayComeBack set.limits clean r b
    → GoesAlong o largest ids (suc b.given ∷ ns) (receiver_joined set.limits set.choice now clean r b) (stepped set.limits set.choice now NewLine b)
joined_along None largest ids ns set now clean r b k may = joins_awaiting largest ids ns set.limits set.choice now clean r b k may
joined_along (Some birth) largest ids ns set now clean r b k may = joins_in_step largest ids birth ns set.limits set.choice now clean r b k may

or_right : (x y : Bool) → y ≡ true → (x || y) ≡ true
or_right true y e = refl
or_right false y e = e

wider : (n m : ℕ) (ns : List ℕ) → is_one_of (Some n) (0 ∷ ns) ≡ true → is_one_of (Some n) (0 ∷ m ∷ ns) ≡ true
wider n m ns h = by (nat_eq 0 n) h
  where
    by : (t : Bool) → (t || is_one_of (Some n) ns) ≡ true → (t || (nat_eq m n || is_one_of (Some n) ns)) ≡ true
    by true h = refl
    by false h = or_right (nat_eq m n) (is_one_of (Some n) ns) h

joined_placed : (largest : ℕ) (ids : List CopyId) (ns : List ℕ) (set : Setting) (now : ℕ) (clean : Bool) (r : Receiver) (b : Broker) → IsPlaced largest ids ns r b → MayComeBack set.limits clean r b → ((n : ℕ) → is_one_of (Some n) ns ≡ true → n ≤ b.given)
    → IsPlaced largest ids (suc b.given ∷ ns) (receiver_joined set.limits set.choice now clean r b) (stepped set.limits set.choice now NewLine b)
joined_placed largest ids ns set now clean r b placed may known = record {
  birth = placed.birth;
  line = placed.line;
  along = joined_along placed.birth largest ids ns set now clean r b placed.along may;
  seat = seat_joined set.limits set.choice now clean placed.birth placed.line r b placed.seat placed.named may.can may.given;
  its_line = wider placed.line (suc b.given) ns placed.its_line;
  apart = λ n is old.
      let it : suc b.given ≡ n = cc in
      let le = known n ((lines_of placed.birth largest ids ns r b placed.along).old n old) in
      omega (arith, it, le);
  named = placed.named;
  told = apart_still ids b.records (stepped set.limits set.choice now NewLine b).records placed.told (step_fell set.limits set.choice now NewLine b);
}

-- ---- the lines of others

others_off : (n m : ℕ) (ns : List ℕ) → n ≤ m → is_one_of (Some n) (0 ∷ ns) ≡ false → is_one_of (Some n) (0 ∷ suc m ∷ ns) ≡ false
others_off n m ns le h = elim (cases_Bool (nat_eq (suc m) n)) [
  | inl same ↦ let is = eqb-true (suc m) n same in absurd (omega (arith, is, le))
  | inr other ↦ rw other h
]

module _ (first : List CopyId) (c d : List ℕ) (clean : Bool) (largest : ℕ) (set : Setting) (w : World) (can : can_link set.limits w.broker ≡ true) where
  abbrev next : ℕ
  next = suc w.broker.given

  abbrev new : Broker
  new = stepped set.limits set.choice w.now NewLine w.broker

  abbrev joins_so : Line Sent → Line Sent
  joins_so l = joined (shake (CONNECT clean)) next clean l

  abbrev joins_there : Line Back → Line Back
  joins_there l = joined (answers (connect clean)) next clean l

  -- another
  other_joins : (ids : List CopyId) (ns : List ℕ) → BeginWith first ids → StandsWith c largest set.limits ids ns w → IsNotIts c d w → Stands first c largest set.limits (links set (Some next) d clean w)
  other_joins ids ns g h not_its =
      let x = linking_stands c largest set ids ns w h in
      let free = next_free c largest set ids ns w h can in
      record {
        ids = x.0;
        grown = begin_then first ids x.0 g x.2;
        ns = ns;
        standing = end_others c d largest set.limits x.0 ns (calls set NewLine w) (on_line joins_so) (on_back joins_there) (λ p. refl) (λ r. refl)
            (λ p f. record { number = free; old_number = f.old_number }) (λ r f. record { number = free; old_number = f.old_number })
            (λ there. not_its (sym (if_there c set (Some NewLine) w) ∙ there)) x.1;
      }

  -- the receiver itself: the new line is its own
  still_out : (ns : List ℕ) (n : ℕ) → IsOutOf ns n → n ≤ w.broker.given → IsOutOf (next ∷ ns) n × (n ≤ new.given)
  still_out ns n out le = let given = linked_given set w.now w.broker can in (others_off n w.broker.given ns le out, omega (arith, le, given))

  lines_of_others : {U : Type 0} (ns : List ℕ) (l m : Line U) → m.number ≡ l.number → m.old_number ≡ l.old_number → HasOthers ns w.broker.given l → HasOthers (next ∷ ns) new.given m
  lines_of_others ns l m e f h = line_still (IsOutOf ns) (IsOutOf (next ∷ ns)) w.broker.given new.given l m (still_out ns) e f h

  its_around : (ns : List ℕ) → IsAround c set.limits ns w → IsAround c set.limits (next ∷ ns) (calls set NewLine w)
  its_around ns a =
      let out = told set.limits set.choice w.now NewLine w.broker in
      around_mapped c set.limits ns (next ∷ ns) w new w.now (publisher_told new out) (receiver_told new out) w.strangers a
      (steady_step set.limits set.choice w.now NewLine w.broker a.within a.steady (linking_spends_none set.limits set.choice w.now w.broker)) (step_place set.limits set.choice w.now NewLine c w.broker)
      (step_tidy set.limits set.choice w.now NewLine w.broker a.tidy)
      known (λ p. refl) (λ r. refl)
      (λ p h. lines_of_others ns p.line (publisher_told new out p).line refl refl h)
      (λ r h. each r h)
      (all_turned (IsOtherStranger ns w.broker.given) (IsOtherStranger (next ∷ ns) new.given) w.strangers (λ s h. still_apart (IsOutOf ns) (IsOutOf (next ∷ ns)) w.broker.given new.given s.number s.number (still_out ns) refl h) a.strangers)
    where
      each : (r : Receiver) → (r.client ≡ c) ⊎ HasOthers ns w.broker.given r.line → (r.client ≡ c) ⊎ HasOthers (next ∷ ns) new.given (receiver_told new (told set.limits set.choice w.now NewLine w.broker) r).line
      each r (inl is) = inl is
      each r (inr h) = inr (lines_of_others ns r.line (receiver_told new (told set.limits set.choice w.now NewLine w.broker) r).line refl refl h)

      known : (n : ℕ) → is_one_of (Some n) (next ∷ ns) ≡ true → n ≤ new.given
      known n inside = elim (cases_Bool (nat_eq next n)) [
        | inl same ↦ let is = eqb-true next n same in let given = linked_given set w.now w.broker can in omega (arith, is, given)
        | inr other ↦ let le = a.known n (rw other at inside) in let given = linked_given set w.now w.broker can in omega (arith, le, given)
      ]

  its_joins : (ids : List CopyId) (ns : List ℕ) (r : Receiver) → BeginWith first ids → StandsWith c largest set.limits ids ns w → receiver_named c w ≡ Some r → r.line.link ≡ away → (r.line.clean ≡ true → clean ≡ true)
      → Stands first c largest set.limits (links set (Some next) c clean w)
  its_joins ids ns r g h e is_away_ carried =
      let out = told set.limits set.choice w.now NewLine w.broker in
      let placed = subst (IsSeen largest ids ns w.broker) e h.seen in
      let may : MayComeBack set.limits clean r w.broker = record { can = can; given = h.around.steady.lines.given; away = is_away_; carried = carried } in
      record {
        ids = ids;
        grown = g;
        ns = next ∷ ns;
        standing = own_stands c largest set.limits ids (next ∷ ns) (calls set NewLine w) (receiver_told new out r) (on_line joins_so) (on_back joins_there) (λ p. refl) (λ q. refl)
            (named_called c set NewLine w ∙ ap (option_map (receiver_told new out)) e) (its_around ns h.around)
            (joined_placed largest ids ns set w.now clean r w.broker placed may h.around.known);
      }

-- ---- whoever it is, if there is a line for it

so_away : (link : Link) → not (is_away (Some link)) ≡ false → link ≡ away
so_away away h = refl
so_away asked h = absurd cc
so_away live h = absurd cc

so_clean : (clean was : Bool) → (clean || not was) ≡ true → was ≡ true → clean ≡ true
so_clean true was h is = refl
so_clean false true h is = absurd cc
so_clean false false h is = absurd cc

-- an end that connects leaves it standing
pub joined_stands : (first : List CopyId) (c d : List ℕ) (clean : Bool) (largest : ℕ) (set : Setting) (w : World) → Stands first c largest set.limits w → is_bad (connect_end d clean) w ≡ false → begins_clean (connect_end d clean) w ≡ true
    → Stands first c largest set.limits (happens set (connect_end d clean) w)
joined_stands first c d clean largest set w stay good carried = by (can_link set.limits w.broker) refl
  where
    by : (t : Bool) → can_link set.limits w.broker ≡ t → Stands first c largest set.limits (links set (cond t (Some (suc w.broker.given)) None) d clean w)
    by false can = stay
    by true can = elim (whose_name c d w) [
      | inr not_its ↦ other_joins first c d clean largest set w can stay.ids stay.ns stay.grown stay.standing not_its
      | inl own ↦
          let r = own.0 in
          let none = stay.standing.around.alone (ap is_some own.1) in
          let o = receiver_named c w in
          let free : not (is_away (Some r.line.link)) ≡ false =
          sym (ap (λ (x : Option Publisher). not (is_away (link_by x o))) none ∙ ap (λ (x : Option Receiver). not (is_away (link_by None x))) own.1) ∙ subst (λ (x : List ℕ). is_bad (connect_end x clean) w ≡ false) own.2 good in
          let kept : (clean || not r.line.clean) ≡ true =
          sym (ap (λ (x : Option Publisher). clean || not (is_clean x o)) none ∙ ap (λ (x : Option Receiver). clean || not (is_clean None x)) own.1) ∙ subst (λ (x : List ℕ). begins_clean (connect_end x clean) w ≡ true) own.2 carried in
          subst (λ (x : List ℕ). Stands first c largest set.limits (links set (Some (suc w.broker.given)) x clean w)) (sym own.2)
          (its_joins first c d clean largest set w can stay.ids stay.ns r stay.grown stay.standing own.1 (so_away r.line.link free) (so_clean clean r.line.clean kept))
    ]
