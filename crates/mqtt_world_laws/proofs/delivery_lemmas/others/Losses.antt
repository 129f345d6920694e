-- The line of an end is lost, and the end leaves it, in the eyes of one receiver: its own, or another's (MQTT 5.0, 4.4).
use Rattle.std.proofs.Common.{◌≡◌, ℕ, suc, true, false, ◌⊎◌, List, [], ◌∷◌, ◌++◌, Option, Some, None, nat_eq, bytes_eq, refl, sym, ap, subst, ◌∙◌, arith, inl, inr}
use Rattle.std.specs.Prelude.{find, is_some, option_map}
use Rattle.std.proofs.lemmas.Bool.{cases_Bool, eqb-true}
use Rattle.std.proofs.lemmas.Slice.Eq.{bytes_eq-Decides}
use Rattle.mqtt_base.specs.declared.session.CopyId.{CopyId}
use Rattle.mqtt_flow.specs.outbound.OutboundWorld.{Lot, World as Hop, break_line, start, step}
use Rattle.mqtt_world_model.specs.model.Ends.{Publisher, Receiver}
use Rattle.mqtt_world_model.specs.model.Hops.{IsOurs, lost_by}
use Rattle.mqtt_world_model.specs.model.Lines.{is_one_of, left}
use Rattle.mqtt_world_model.specs.model.Run.{read_first, read_if}
use Rattle.mqtt_world_model.specs.model.Seats.{IsApart, IsHis, IsIdle, IsNamed, Present, Seat, absent, closed, joined, waiting}
use Rattle.mqtt_world_model.specs.model.World.{Setting, World, asks, break, calls, calls_if, lost_on, receiver_named, receiver_told, view_by, view_of, with_line}
use Rattle.mqtt_world_model.proofs.model_lemmas.own.Calls.{loses, moved, others_of}
use Rattle.mqtt_world_model.proofs.model_lemmas.seats.OwnSeats.{line_of_on, not_among}
use Rattle.mqtt_world_model.proofs.model_lemmas.seats.Seats.{remains, remains_done}
use Rattle.mqtt_records.specs.state.Session.{birth_of}
use Rattle.mqtt_records.specs.declared.state.session.Session.{Session}
use Rattle.mqtt_records.specs.lists.Distinct.{AllDiffer}
use Rattle.mqtt_rules.proofs.step_lemmas.flight.FlightRows.{all_at}
use Rattle.mqtt_rules.proofs.step_lemmas.numbers.NumberSteps.{step_fell}
use Rattle.mqtt_rules.specs.step.Deeds.{after_all, rows_of_all}
use Rattle.mqtt_rules.specs.step.State.{Broker, MemberChoice, session_named}
use Rattle.mqtt_rules.specs.step.Step.{Lost, at_moment, deeds, stepped, told}
use Rattle.mqtt_rules.specs.declared.step.Capacity.{Capacity}
use Rattle.mqtt_world_laws.specs.acceptance.Fair.{IsSteady}
use Rattle.mqtt_world_laws.specs.acceptance.Spending.{spending}
use Rattle.mqtt_world_laws.specs.receiver.Handing.{IsRun, receiver_lost}
use Rattle.mqtt_world_laws.specs.receiver.Own.{IsInStep, Listens}
use Rattle.mqtt_world_laws.specs.receiver.Seen.{Numbering}
use Rattle.mqtt_world_laws.proofs.receiver_lemmas.queue.Apart.{apart_still}
use Rattle.mqtt_world_laws.proofs.receiver_lemmas.others.IdleLines.{idle_loss_awaiting, idle_loss_in_step}
use Rattle.mqtt_world_laws.proofs.receiver_lemmas.own.Listening.{listens_in_step}
use Rattle.mqtt_world_laws.proofs.receiver_lemmas.own.OwnCalls.{loss_in_step}
use Rattle.mqtt_world_laws.proofs.receiver_lemmas.connects.Refusals.{run_append}
use Rattle.mqtt_world_laws.specs.delivery.Standing.{GoesAlong, IsPlaced, IsSeen, Stands, line_like, publisher_like}
use Rattle.mqtt_world_laws.proofs.delivery_lemmas.others.Around.{on_back, on_line, own_stands, whose_name}
use Rattle.mqtt_world_laws.proofs.delivery_lemmas.others.Asking.{other_breaks}
use Rattle.mqtt_world_laws.proofs.delivery_lemmas.others.Like.{former_as, told_like}
use Rattle.mqtt_world_laws.proofs.receiver_lemmas.queue.Numbers.{place_of, places_number}
use Rattle.mqtt_world_laws.proofs.delivery_lemmas.others.Outside.{calls_around, lines_of, listed, named_called}

-- ---- it leaves a line that it hasn't

left_run : (number : Numbering) (largest : ℕ) (copies : List Lot) (r : Receiver) (b : Broker) → IsRun number largest copies r b → IsRun number largest copies (record r { line = left r.line }) b
left_run number largest copies r b h = record {
  events = h.events ++ break_line ∷ [];
  seen_is = ap (λ (v : Hop). step largest v break_line) h.seen_is ∙ sym (run_append largest h.events (break_line ∷ []) start);
  queue_is = h.queue_is;
  numbered = h.numbered;
  tagged = record { down = tt; ledger = h.tagged.ledger; once = h.tagged.once };
}

left_along : (o : Option ℕ) (largest : ℕ) (ids : List CopyId) (ns : List ℕ) (r : Receiver) (b : Broker) → GoesAlong o largest ids ns r b → GoesAlong o largest ids ns (record r { line = left r.line }) b
left_along None largest ids ns r b k = record {
  runs = λ number numbered. let h = k.runs number numbered in record { after = h.after; same = h.same; run_is = left_run number largest h.after r b h.run_is };
  free = k.free;
  given = k.given;
  lines = record { own = λ n e. absurd cc; old = k.lines.old };
}
left_along (Some birth) largest ids ns r b k = record {
  runs = λ number numbered.
      let h = k.runs number numbered in
      record {
        after = h.after;
        same = h.same;
        run_is = left_run number largest h.after r b h.run_is;
        session = h.session;
        birth_is = h.birth_is;
        receiving = record { session = h.receiving.session; client = h.receiving.client; only = h.receiving.only; known = h.receiving.known };
      };
  served = k.served;
  lines = record { own = λ n e. absurd cc; old = k.lines.old };
}

left_placed : (largest : ℕ) (ids : List CopyId) (ns : List ℕ) (r : Receiver) (b : Broker) → IsPlaced largest ids ns r b → IsPlaced largest ids ns (record r { line = left r.line }) b
left_placed largest ids ns r b placed = record {
  birth = placed.birth;
  line = placed.line;
  along = left_along placed.birth largest ids ns r b placed.along;
  seat = record {
    his = placed.seat.his;
    present = absent refl refl;
    former = former_as placed.birth placed.line (line_like r.line) (line_like (left r.line)) b refl refl placed.seat.former;
  };
  its_line = placed.its_line;
  apart = λ n e f. absurd cc;
  named = placed.named;
  told = placed.told;
}

-- ---- whose session it is, if it is in step or awaits one

-- a session of its name that is not found by its birth is none
pub none_named : (client : List ℕ) (birth : ℕ) (s : Session) (ss : List Session) → find (λ (x : Session). nat_eq x.birth birth) ss ≡ Some s → s.client ≡ client → find (λ (x : Session). bytes_eq x.client client) ss ≡ None → ⊥
none_named client birth s [] at is none = absurd cc
none_named client birth s (x ∷ xs) at is none = elim (cases_Bool (bytes_eq x.client client)) [
  | inl its ↦ let clash : Some x ≡ None = rw its at none in absurd cc
  | inr other ↦ elim (cases_Bool (nat_eq x.birth birth)) [
    | inl here ↦
        let it : Some x ≡ Some s = rw here at at in
        let same : x ≡ s = cc in
        let yes_ = (bytes_eq-Decides x.client client).1 (ap (λ (y : Session). y.client) same ∙ is) in
        let clash : true ≡ false = sym yes_ ∙ other in
        absurd cc
    | inr further ↦ none_named client birth s xs (rw further at at) is (rw other at none)
  ]
]

his_birth : (largest : ℕ) (ids : List CopyId) (birth : ℕ) (ns : List ℕ) (r : Receiver) (b : Broker) (o : Option ℕ) (k : ℕ) → IsInStep largest ids birth ns r b → AllDiffer ids → IsHis r.client o k b → o ≡ Some birth
his_birth largest ids birth ns r b None k along differ his =
    let h = along.runs (place_of ids) (places_number ids differ) in
    absurd (none_named r.client h.session.birth h.session b.records.sessions h.receiving.session h.receiving.client his)
his_birth largest ids birth ns r b (Some j) k along differ his =
    let h = along.runs (place_of ids) (places_number ids differ) in
    let ours = all_at birth_of (IsOurs r.client j) h.session.birth h.session b.records.sessions his.0.sessions h.receiving.session in
    ap Some (sym (ours.named h.receiving.client) ∙ h.birth_is)

his_none : (client : List ℕ) (o : Option ℕ) (k : ℕ) (b : Broker) → session_named client b.records ≡ None → IsHis client o k b → o ≡ None
his_none client None k b none his = refl
his_none client (Some j) k b none his = let clash : true ≡ false = sym his.1 ∙ ap is_some none in absurd cc

-- ---- the line is lost at the broker

lost_like : (limits : Capacity) (choice : MemberChoice) (now n : ℕ) (r : Receiver) (b : Broker) → lost_by limits choice now n (publisher_like r) b ≡ publisher_like (receiver_lost limits choice now n r b)
lost_like limits choice now n r b = ap (λ (p : Publisher). record p { line = left p.line }) (told_like (stepped limits choice now (Lost n) b) (told limits choice now (Lost n) b) r)

less_self : (n : ℕ) → nat_eq n (suc n) ≡ false
less_self n = elim (cases_Bool (nat_eq n (suc n))) [
  | inl same ↦ let is = eqb-true n (suc n) same in absurd (omega (arith, is))
  | inr other ↦ other
]

still_none : (limits : Capacity) (choice : MemberChoice) (now n : ℕ) (r : Receiver) (b : Broker) → IsNamed r.client → session_named r.client b.records ≡ None → session_named r.client (stepped limits choice now (Lost n) b).records ≡ None
still_none limits choice now n r b named none =
    let ds = deeds limits choice now (Lost n) b in
    let first = at_moment now b in
    let its = others_of limits choice now (Lost n) r.client None (suc n) b none named.plain (less_self n) in
    (remains_done r.client None (suc n) (rows_of_all ds first.records) first (after_all ds first) (remains r.client None (suc n) ds first (moved r.client None (suc n) now b none) its)).his

idle_lost : (o : Option ℕ) (largest : ℕ) (ids : List CopyId) (ns : List ℕ) (limits : Capacity) (choice : MemberChoice) (now n : ℕ) (r : Receiver) (b : Broker) → GoesAlong o largest ids ns r b → IsIdle n b
    → GoesAlong o largest ids ns (receiver_lost limits choice now n r b) (stepped limits choice now (Lost n) b)
idle_lost None largest ids ns limits choice now n r b along idle = idle_loss_awaiting largest ids ns limits choice now n r b along idle
idle_lost (Some birth) largest ids ns limits choice now n r b along idle = idle_loss_in_step largest ids birth ns limits choice now n r b along idle

lost_along : (o : Option ℕ) (largest : ℕ) (ids : List CopyId) (ns : List ℕ) (limits : Capacity) (choice : MemberChoice) (now n k : ℕ) (r : Receiver) (b : Broker) → GoesAlong o largest ids ns r b → IsSteady b
    → r.line.number ≡ Some n → IsApart r.line.number r.line.old_number → Present o k (line_like r.line) b → GoesAlong o largest ids ns (receiver_lost limits choice now n r b) (stepped limits choice now (Lost n) b)
lost_along o largest ids ns limits choice now n k r b along steady is apart (absent none up) = let clash : None ≡ Some n = sym none ∙ is in absurd cc
lost_along o largest ids ns limits choice now n k r b along steady is apart (closed m at up idle none) =
    let both : Some m ≡ Some n = sym at ∙ is in let same : m ≡ n = cc in
    idle_lost o largest ids ns limits choice now n r b along (subst (λ (z : ℕ). IsIdle z b) same idle)
lost_along o largest ids ns limits choice now n k r b along steady is apart (waiting m clean at link_is clean_is up down idle there) =
    let both : Some m ≡ Some n = sym at ∙ is in let same : m ≡ n = cc in
    idle_lost o largest ids ns limits choice now n r b along (subst (λ (z : ℕ). IsIdle z b) same idle)
lost_along o largest ids ns limits choice now n k r b along steady is apart (joined birth own at there) =
    let both : Some k ≡ Some n = sym at ∙ is in
    let same : k ≡ n = cc in
    let x = line_of_on k (Some birth) b there in
    let step = subst (λ (z : Option ℕ). GoesAlong z largest ids ns r b) own along in
    let listens : Listens r x.0 birth b = listens_in_step largest ids birth ns k birth r x.0 b step steady.lines steady.coherent.ordered at x.1 x.2 (not_among r.line.old_number k (λ e. apart k at e)) in
    let lost = loss_in_step largest ids birth ns limits choice now r x.0 listens.session b step listens.listening in
    subst (λ (z : Option ℕ). GoesAlong z largest ids ns (receiver_lost limits choice now n r b) (stepped limits choice now (Lost n) b)) (sym own)
    (subst (λ (z : ℕ). IsInStep largest ids birth ns (receiver_lost limits choice now z r b) (stepped limits choice now (Lost z) b)) (x.3 ∙ same) lost)

-- the loss of its line leaves the receiver placed
pub lost_placed : (largest : ℕ) (ids : List CopyId) (ns : List ℕ) (limits : Capacity) (choice : MemberChoice) (now n : ℕ) (r : Receiver) (b : Broker) → IsPlaced largest ids ns r b → IsSteady b → r.line.number ≡ Some n
    → IsPlaced largest ids ns (receiver_lost limits choice now n r b) (stepped limits choice now (Lost n) b)
lost_placed largest ids ns limits choice now n r b placed steady is =
    let x = loses limits choice now n placed.birth placed.line (publisher_like r) b [] placed.seat placed.named placed.apart is in
    let along = lost_along placed.birth largest ids ns limits choice now n placed.line r b placed.along steady is placed.apart placed.seat.present in
    let seat = subst (λ (p : Publisher). Seat x.birth x.line p new) (lost_like limits choice now n r b) x.seat in
    let o_is = birth_is placed.birth x.birth x.line placed.along along placed.seat.his seat.his in
    record {
      birth = placed.birth;
      line = x.line;
      along = along;
      seat = subst (λ (o : Option ℕ). Seat o x.line (publisher_like q) new) o_is seat;
      its_line = its x.line x.its_line;
      apart = λ m e f. absurd cc;
      named = placed.named;
      told = apart_still ids b.records new.records placed.told (step_fell limits choice now (Lost n) b);
    }
  where
    q : Receiver
    q = receiver_lost limits choice now n r b

    new : Broker
    new = stepped limits choice now (Lost n) b

    birth_is : (o p : Option ℕ) (k : ℕ) → GoesAlong o largest ids ns r b → GoesAlong o largest ids ns q new → IsHis r.client o placed.line b → IsHis r.client p k new → p ≡ o
    birth_is None p k before along his there = his_none r.client p k new (still_none limits choice now n r b placed.named his) there
    birth_is (Some birth) p k before along his there = his_birth largest ids birth ns q new p k along placed.told.differ there

    its : (k : ℕ) → (k ≡ placed.line) ⊎ ((r.line.number ≡ Some k) ⊎ (r.line.old_number ≡ Some k)) → is_one_of (Some k) (0 ∷ ns) ≡ true
    its k (inl e) = ap (λ (m : ℕ). is_one_of (Some m) (0 ∷ ns)) e ∙ placed.its_line
    its k (inr (inl e)) = listed k ns ((lines_of placed.birth largest ids ns r b placed.along).own k e)
    its k (inr (inr e)) = listed k ns ((lines_of placed.birth largest ids ns r b placed.along).old k e)

-- ---- as an event

its_breaks : (first : List CopyId) (c : List ℕ) (largest : ℕ) (set : Setting) (w : World) (s : Stands first c largest set.limits w) (r : Receiver) → receiver_named c w ≡ Some r → read_first spending set (break c) w ≡ false → Stands first c largest set.limits (asks set (break c) w)
its_breaks first c largest set w s r e unspent = subst (λ (o : Option ℕ). read_if spending set (lost_on o) w ≡ false → Goal o) (sym view) (by r.line.number refl) unspent
  where
    Goal : Option ℕ → Type 0
    Goal o = Stands first c largest set.limits (with_line c left left (calls_if set (lost_on o) w))

    view : (view_of c w).number ≡ r.line.number
    view = ap (λ (o : Option Publisher). (view_by o (receiver_named c w)).number) (s.standing.around.alone (ap is_some e)) ∙ ap (λ (o : Option Receiver). (view_by None o).number) e

    placed : IsPlaced largest s.ids s.ns r w.broker
    placed = subst (IsSeen largest s.ids s.ns w.broker) e s.standing.seen

    by : (x : Option ℕ) → r.line.number ≡ x → read_if spending set (lost_on x) w ≡ false → Goal x
    by None is u = record {
      ids = s.ids;
      grown = s.grown;
      ns = s.ns;
      standing = own_stands c largest set.limits s.ids s.ns w r (on_line left) (on_back left) (λ p. refl) (λ q. refl) e s.standing.around (left_placed largest s.ids s.ns r w.broker placed);
    }
    by (Some n) is u =
        let new = stepped set.limits set.choice w.now (Lost n) w.broker in
        let out = told set.limits set.choice w.now (Lost n) w.broker in
        record {
          ids = s.ids;
          grown = s.grown;
          ns = s.ns;
          standing = own_stands c largest set.limits s.ids s.ns (calls set (Lost n) w) (receiver_told new out r) (on_line left) (on_back left) (λ p. refl) (λ q. refl)
              (named_called c set (Lost n) w ∙ ap (option_map (receiver_told new out)) e) (calls_around c set s.ns (Lost n) w s.standing.around u)
              (lost_placed largest s.ids s.ns set.limits set.choice w.now n r w.broker placed s.standing.around.steady is);
        }

-- and standing
pub broken_stands : (first : List CopyId) (c d : List ℕ) (largest : ℕ) (set : Setting) (w : World) → Stands first c largest set.limits w → read_first spending set (break d) w ≡ false → Stands first c largest set.limits (asks set (break d) w)
broken_stands first c d largest set w s unspent = elim (whose_name c d w) [
  | inr not_its ↦ other_breaks first c d largest set w s not_its unspent
  | inl own ↦ subst (λ (x : List ℕ). Stands first c largest set.limits (asks set (break x) w)) (sym own.2)
      (its_breaks first c largest set w s own.0 own.1 (subst (λ (x : List ℕ). read_first spending set (break x) w ≡ false) own.2 unspent))
]
