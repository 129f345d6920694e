-- Over every run of the world: each copy that waits entered as one that was called for, so what goes out of it was asked for.
use Rattle.std.proofs.Common.{◌≡◌, ℕ, zero, suc, Bool, true, false, cond, ◌⊎◌, List, [], ◌∷◌, ◌++◌, map, Option, Some, None, refl, sym, subst, ◌∙◌, inl, inr, append_assoc, append-nil}
use Rattle.std.specs.Prelude.{⊤, flat_map, is_some}
use Rattle.std.specs.List.{AllByRecursion}
use Rattle.mqtt_packet.specs.declared.codec.packet.Packet.TheVariants as packets
use Rattle.mqtt_packet.specs.declared.codec.publish.Publish.{Publish}
use Rattle.mqtt_records.specs.declared.messages.message.MessageCopy.{MessageCopy}
use Rattle.mqtt_records.specs.declared.state.change.Change.{Change}
use Rattle.mqtt_records.specs.declared.state.session.Session.{Session}
use Rattle.mqtt_records.specs.messages.Queue.{CopyRow}
use Rattle.mqtt_records.specs.state.Session.{birth_of}
use Rattle.mqtt_rules.specs.declared.step.Capacity.{Capacity}
use Rattle.mqtt_rules.specs.step.Deeds.{At, Deed, Enter, Link, Send, after, after_all, rows_of_all}
use Rattle.mqtt_rules.specs.step.Laws.{AreWithin, IsAmong}
use Rattle.mqtt_rules.specs.step.State.{Broker}
use Rattle.mqtt_rules.specs.step.Step.{Call, NewLine, at_moment, can_link, done, stepped, with_moment}
use Rattle.mqtt_rules.proofs.step_lemmas.fit.FitLaw.{all_among}
use Rattle.mqtt_rules.proofs.step_lemmas.flight.FlightRows.{all_at, found_key}
use Rattle.mqtt_world_model.specs.model.World.{World, Setting, Event, publisher, receiver, connect_end, give_up, publish, subscribe, to_end, clock, ask, restart, stop_before, stop_after, Asking, to_broker, old_to_broker, break, pump, tick, stranger, stranger_named, answers_rest, asks, calls, calls_if, comes, happens, linked_at, links, next_held, call_of_stranger, held_count, before, call_of, first_step, is_bad, restarts, start}
use Rattle.mqtt_world_model.specs.model.Run.{Turn, setting, turned, run, read_if, read_rest, read_first, read_asked, read_opening, read_in, read_at}
use Rattle.mqtt_world_laws.specs.acceptance.Entries.{Moment, moment_of, moments_of}
use Rattle.mqtt_world_laws.specs.acceptance.Fair.{IsSteady, IsNew, IsCounted}
use Rattle.mqtt_world_laws.specs.acceptance.Spending.{run_spends, spending}
use Rattle.mqtt_world_laws.specs.acceptance.Steps.{step_called, opening_step}
use Rattle.mqtt_world_laws.specs.causes.Endings.{Asked, the_asked, asked_over}
use Rattle.mqtt_world_laws.specs.receiver.Drains.{Doing, all_turns}
use Rattle.mqtt_world_laws.specs.unasked.Runs.{AllAskedOver, AreAskedOver, HasEntered, IsAskedOver, NobodyIsSentUnasked, WasAskedOver, queued_at, queued_with}
use Rattle.mqtt_world_laws.specs.unasked.Unasked.{AreTraced, IsTraced, SendsNothingUnasked, WasAskedFor, moments_in}
use Rattle.mqtt_world_laws.proofs.acceptance_lemmas.copies.Walks.{Walk, before_goes, first_goes, if_goes, same_cost, comes_goes, turn_goes}
use Rattle.mqtt_world_laws.proofs.acceptance_lemmas.publishers.Runs.{either, start_new}
use Rattle.mqtt_world_laws.proofs.published_lemmas.Direct.{among_left, among_right}
use Rattle.mqtt_world_laws.proofs.unasked_lemmas.Steps.{call_asked, open_asked}
use Rattle.mqtt_world_laws.proofs.unasked_lemmas.Traces.{Contains}
use Rattle.mqtt_world_laws.proofs.unasked_lemmas.Waiting.{EntersWell, HoldsIn, HoldsOf, after_deed, holds_more}

-- steps that keep the tables in order, of which nothing else is said
abbrev Any : List Deed → Broker → Broker → Type 0
Any ds b d = ⊤

anything : (limits : Capacity) → Walk limits Any
anything limits = record {
  none = λ b. tt;
  next = λ xs ys a b d p q. tt;
  unlink = λ n b d h. tt;
  link = λ n b d h. tt;
  call = λ choice now call b s unspent. tt;
  open_again = λ choice now b s unspent. tt;
}

module _ (old : List (ℕ × MessageCopy)) where
  -- a copy that waits entered in these steps, or stood at the beginning
  abbrev Known : List Asked → ℕ → MessageCopy → Type 0
  Known xs birth copy = HasEntered xs birth copy ⊎ IsAmong (birth, copy) old

  known_later : (xs ys : List Asked) (birth : ℕ) (copy : MessageCopy) → Known xs birth copy → Known (xs ++ ys) birth copy
  known_later xs ys birth copy (inl e) = inl (record { step = e.step; among = among_left e.step xs ys e.among; moment = e.moment; done = e.done; who = e.who; its = e.its; enters = e.enters; called = e.called })
  known_later xs ys birth copy (inr stood) = inr stood

  -- ---- one step

  module _ (xs : List Asked) (x : Asked) (here : IsAmong x xs) where
    abbrev ms : List Moment
    ms = moments_in x

    entered : (d : Deed) (b : Broker) → IsAmong (moment_of x.step.env d b) ms → IsTraced x.call ms d b → EntersWell (Known xs) d
    entered (At who (Enter copy)) b among traced = inl (record { step = x; among = here; moment = moment_of x.step.env (At who (Enter copy)) b; done = among; who = who; its = refl; enters = refl; called = traced })
    entered d b among traced = tt

    sent : (n : ℕ) (p : Publish) (b : Broker) → WasAskedFor ms n p b → HoldsOf (Known xs) b.records.sessions → WasAskedOver old xs ms n p b
    sent n p b w h = record {
      birth = w.birth;
      line = w.line;
      copy = w.copy;
      dup = w.dup;
      id = w.id;
      is = w.is;
      asked = elim w.asked [
        | inl flight ↦
            let its : HoldsIn (Known xs) flight.session = all_at birth_of (HoldsIn (Known xs)) w.birth flight.session b.records.sessions h flight.stands in
            let known : Known xs flight.session.birth flight.row.copy = all_among (λ (e : CopyRow). Known xs flight.session.birth e.copy) flight.row flight.session.queue its flight.queued in
            let same = found_key birth_of w.birth flight.session b.records.sessions flight.stands in
            inl (flight, subst (λ (n : ℕ). Known xs n w.copy) same (subst (λ (c : MessageCopy). Known xs flight.session.birth c) flight.is known))
        | inr light ↦ inr light
      ];
    }

    sent_one : (d : Deed) (b : Broker) → IsTraced x.call ms d b → HoldsOf (Known xs) b.records.sessions → IsAskedOver old xs ms d b
    sent_one (Send n (packets.Publish p)) b traced h = sent n p b traced h
    sent_one d b traced h = tt

    goes_on : (ds : List Deed) (b : Broker) → Contains ms (moments_of x.step.env ds b) → AreTraced x.call ms (moments_of x.step.env ds b) → HoldsOf (Known xs) b.records.sessions
        → AreAskedOver old xs ms (moments_of x.step.env ds b) × HoldsOf (Known xs) (after_all ds b).records.sessions
    goes_on [] b own traced h = (tt, h)
    goes_on (d ∷ ds) b own traced h =
        let rest = goes_on ds (after d b) (λ y among. own y (inr among)) traced.1 (after_deed (Known xs) d b.records (entered d b (own (moment_of x.step.env d b) (inl refl)) traced.0) h) in
        ((sent_one d b traced.0 h, rest.0), rest.1)

  -- ---- steps, one after the other

  -- all that goes out in these steps was asked for, and what waits behind them entered in them or before
  abbrev Goes : List Asked → List Session → List Session → Type 0
  Goes xs ss ts = (first : List Asked) → HoldsOf (Known first) ss → AllAskedOver old first xs × HoldsOf (Known (first ++ xs)) ts

  none : (ss ts : List Session) → ts ≡ ss → Goes [] ss ts
  none ss ts same first h = (tt, subst (λ (xs : List Asked). HoldsOf (Known xs) ts) (sym (append-nil first)) (subst (HoldsOf (Known first)) (sym same) h))

  joined : (first xs ys : List Asked) → AllAskedOver old first xs → AllAskedOver old (first ++ xs) ys → AllAskedOver old first (xs ++ ys)
  joined first [] ys p q = subst (λ (zs : List Asked). AllAskedOver old zs ys) (append-nil first) q
  joined first (x ∷ xs) ys p q = (p.0, joined (first ++ x ∷ []) xs ys p.1 (subst (λ (zs : List Asked). AllAskedOver old zs ys) (sym (append_assoc first (x ∷ []) xs)) q))

  next : (xs ys : List Asked) (ss ts us : List Session) → Goes xs ss ts → Goes ys ts us → Goes (xs ++ ys) ss us
  next xs ys ss ts us p q first h =
      let one = p first h in
      let two = q (first ++ xs) one.1 in
      (joined first xs ys one.0 two.0, subst (λ (zs : List Asked). HoldsOf (Known zs) us) (append_assoc first xs ys) two.1)

  same_sessions : (rows : List Change) (b : Broker) → (with_moment rows b).records.sessions ≡ b.records.sessions
  same_sessions [] b = refl
  same_sessions (row ∷ rows) b = refl

  step : (x : Asked) → SendsNothingUnasked x → Goes (x ∷ []) x.step.broker.records.sessions (done x.step.deeds x.step.broker).records.sessions
  step x asked first h =
      let xs = first ++ x ∷ [] in
      let more = holds_more (Known first) (Known xs) (known_later first (x ∷ [])) x.step.broker.records.sessions h in
      let all = goes_on xs x (among_right x first (x ∷ []) (inl refl)) x.step.deeds x.step.broker (λ y among. among) asked more in
      (((asked, all.0), tt), subst (HoldsOf (Known xs)) (sym (same_sessions (rows_of_all x.step.deeds x.step.broker.records) (after_all x.step.deeds x.step.broker))) all.1)

  -- ---- the world

  abbrev Turns : List Asked → World → World → Type 0
  Turns xs w v = Goes xs w.broker.records.sessions v.broker.records.sessions

  module _ (set : Setting) (within : AreWithin set.limits) where
    called : (call : Call) (w : World) → IsSteady w.broker → Turns (read_if the_asked set (Some call) w) w (calls set call w)
    called call w s = step (record { call = Some call; step = step_called set call w }) (call_asked set.limits set.choice w.now call w.broker s.coherent.ordered)

    if_called : (call : Option Call) (w : World) → IsSteady w.broker → Turns (read_if the_asked set call w) w (calls_if set call w)
    if_called None w s = none w.broker.records.sessions w.broker.records.sessions refl
    if_called (Some call) w s = called call w s

    opened : (w : World) → IsSteady w.broker → Turns (read_opening the_asked set w) w (restarts set w)
    opened w s = step (record { call = None; step = opening_step set w }) (open_asked set.limits set.choice w.now w.broker.records s.coherent.ordered)

    -- a new line leaves the sessions
    linked : (b : Broker) (now : ℕ) → (stepped set.limits set.choice now NewLine b).records.sessions ≡ b.records.sessions
    linked b now = by (can_link set.limits b)
      where
        by : (t : Bool) → (done (cond t (Link (suc b.given) ∷ []) []) (at_moment now b)).records.sessions ≡ b.records.sessions
        by true = refl
        by false = refl

    came : (name bytes : List ℕ) (w : World) → (comes set name bytes w).broker.records.sessions ≡ w.broker.records.sessions
    came name bytes w = by (is_some (stranger_named name w))
      where
        by : (t : Bool) → (linked_at set t name bytes w).broker.records.sessions ≡ w.broker.records.sessions
        by true = refl
        by false = linked w.broker w.now

    came_before : (a : Asking) (w : World) → (before set a w).broker.records.sessions ≡ w.broker.records.sessions
    came_before (to_broker d) w = refl
    came_before (old_to_broker d) w = refl
    came_before (break d) w = refl
    came_before (pump d) w = refl
    came_before tick w = refl
    came_before (stranger name bytes) w = came name bytes w

    first_called : (a : Asking) (w : World) → IsSteady w.broker → Turns (read_first the_asked set a w) w (first_step set a w)
    first_called a w s =
        let v = before set a w in
        next [] (read_first the_asked set a w) w.broker.records.sessions v.broker.records.sessions (first_step set a w).broker.records.sessions (none w.broker.records.sessions v.broker.records.sessions (came_before a w))
        (if_called (call_of set a w) v (before_goes Any set (anything set.limits) within a w s).steady)

    same_step : (name : List ℕ) (v : World) (x : Option Call) → Turns (read_if the_asked set x (next_held name v)) v (calls_if set x (next_held name v)) → Turns (read_if the_asked set x v) v (calls_if set x (next_held name v))
    same_step name v None h = h
    same_step name v (Some x) h = h

    rest_called : (more : ℕ) (name : List ℕ) (v : World) → IsSteady v.broker → read_rest spending set more name v ≡ false → Turns (read_rest the_asked set more name v) v (answers_rest set more name v)
    rest_called zero name v s unspent = none v.broker.records.sessions v.broker.records.sessions refl
    rest_called (suc more) name v s unspent =
        let call = call_of_stranger (stranger_named name v) in
        let held = next_held name v in
        let u = calls_if set call held in
        let costs = either (read_if spending set call v) (read_rest spending set more name u) unspent in
        let x = if_goes Any set (anything set.limits) within call held s (same_cost Any set (anything set.limits) within name v call costs.0) in
        next (read_if the_asked set call v) (read_rest the_asked set more name u) v.broker.records.sessions u.broker.records.sessions (answers_rest set more name u).broker.records.sessions
        (same_step name v call (if_called call held s)) (rest_called more name u x.steady costs.1)

    asked : (a : Asking) (w : World) → IsSteady w.broker → read_asked spending set a w ≡ false → Turns (read_asked the_asked set a w) w (asks set a w)
    asked (to_broker d) w s unspent = first_called (to_broker d) w s
    asked (old_to_broker d) w s unspent = first_called (old_to_broker d) w s
    asked (break d) w s unspent = first_called (break d) w s
    asked (pump d) w s unspent = first_called (pump d) w s
    asked tick w s unspent = first_called tick w s
    asked (stranger name bytes) w s unspent =
        let v = comes set name bytes w in
        let n = held_count (stranger_named name v) in
        next [] (read_rest the_asked set n name v) w.broker.records.sessions v.broker.records.sessions (answers_rest set n name v).broker.records.sessions
        (none w.broker.records.sessions v.broker.records.sessions (came name bytes w)) (rest_called n name v (comes_goes Any set (anything set.limits) within name bytes w s).steady unspent)

    joins : (d : List ℕ) (clean : Bool) (w : World) → IsSteady w.broker → Turns (read_in the_asked set (connect_end d clean) w) w (happens set (connect_end d clean) w)
    joins d clean w s first h =
        let x = called NewLine w s first h in
        (x.0, subst (HoldsOf (Known (first ++ read_in the_asked set (connect_end d clean) w))) (linked w.broker w.now ∙ sym (by (can_link set.limits w.broker))) x.1)
      where
        by : (t : Bool) → (links set (cond t (Some (suc w.broker.given)) None) d clean w).broker.records.sessions ≡ w.broker.records.sessions
        by true = linked w.broker w.now
        by false = refl

    happened : (e : Event) (w : World) → IsSteady w.broker → read_in spending set e w ≡ false → Turns (read_in the_asked set e w) w (happens set e w)
    happened (publisher d) w s unspent = none w.broker.records.sessions w.broker.records.sessions refl
    happened (receiver d window aliases) w s unspent = none w.broker.records.sessions w.broker.records.sessions refl
    happened (connect_end d clean) w s unspent = joins d clean w s
    happened (give_up d) w s unspent = none w.broker.records.sessions w.broker.records.sessions refl
    happened (publish d x) w s unspent = none w.broker.records.sessions w.broker.records.sessions refl
    happened (subscribe d x) w s unspent = none w.broker.records.sessions w.broker.records.sessions refl
    happened (to_end d) w s unspent = none w.broker.records.sessions w.broker.records.sessions refl
    happened (clock wait) w s unspent = none w.broker.records.sessions w.broker.records.sessions refl
    happened (ask a) w s unspent = asked a w s unspent
    happened restart w s unspent = opened w s
    happened (stop_before a) w s unspent =
        let v = before set a w in
        next [] (read_opening the_asked set v) w.broker.records.sessions v.broker.records.sessions (restarts set v).broker.records.sessions (none w.broker.records.sessions v.broker.records.sessions (came_before a w))
        (opened v (before_goes Any set (anything set.limits) within a w s).steady)
    happened (stop_after a) w s unspent =
        let v = first_step set a w in
        let costs = either (read_first spending set a w) (read_opening spending set v) unspent in
        let x = first_goes Any set (anything set.limits) within a w s costs.0 in
        next (read_first the_asked set a w) (read_opening the_asked set v) w.broker.records.sessions v.broker.records.sessions (restarts set v).broker.records.sessions (first_called a w s) (opened v x.steady)

  -- ---- a turn, and a run

  turn_asked : (limits : Capacity) (t : Turn) (w : World) → AreWithin limits → IsSteady w.broker → read_at spending (setting limits t) t.event w ≡ false → Turns (read_at the_asked (setting limits t) t.event w) w (turned limits t w)
  turn_asked limits t w within s unspent = by (is_bad t.event w) unspent
    where
      set : Setting
      set = setting limits t

      by : (bad : Bool) → cond bad false (read_in spending set t.event w) ≡ false → Turns (cond bad [] (read_in the_asked set t.event w)) w (cond bad w (happens set t.event w))
      by true u = none w.broker.records.sessions w.broker.records.sessions refl
      by false u = happened set within t.event w s u

  every_turn : (limits : Capacity) (ts : List Turn) (w : World) → AreWithin limits → IsSteady w.broker → run_spends limits ts w ≡ false → Turns (asked_over limits ts w) w (run limits ts w)
  every_turn limits [] w within s unspent = none w.broker.records.sessions w.broker.records.sessions refl
  every_turn limits (t ∷ ts) w within s unspent =
      let v = turned limits t w in
      let costs = either (read_at spending (setting limits t) t.event w) (run_spends limits ts v) unspent in
      let x = turn_goes Any limits (anything limits) t w within s costs.0 in
      next (read_at the_asked (setting limits t) t.event w) (asked_over limits ts v) w.broker.records.sessions v.broker.records.sessions (run limits ts v).broker.records.sessions
      (turn_asked limits t w within s costs.0) (every_turn limits ts v within x.steady costs.1)

-- ---- from whatever stands at the beginning

stood_in : (s : Session) (es : List CopyRow) (all : List (ℕ × MessageCopy)) → ((y : ℕ × MessageCopy) → IsAmong y (map (λ (e : CopyRow). (s.birth, e.copy)) es) → IsAmong y all)
    → AllByRecursion (λ (e : CopyRow). Known all [] s.birth e.copy) es
stood_in s [] all h = tt
stood_in s (e ∷ es) all h = (inr (h (s.birth, e.copy) (inl refl)), stood_in s es all (λ y among. h y (inr among)))

stood : (ss : List Session) (all : List (ℕ × MessageCopy)) → ((y : ℕ × MessageCopy) → IsAmong y (flat_map queued_with ss) → IsAmong y all) → HoldsOf (Known all []) ss
stood [] all h = tt
stood (s ∷ ss) all h = (
  stood_in s s.queue all (λ y among. h y (among_left y (queued_with s) (flat_map queued_with ss) among)),
  stood ss all (λ y among. h y (among_right y (queued_with s) (flat_map queued_with ss) among)),
)

-- in every run that spends no number nobody is sent what he did not ask for
pub run_asked : (limits : Capacity) (ts : List Turn) (w : World) → IsNew w → IsCounted limits ts w → NobodyIsSentUnasked (queued_at w.broker) limits ts w
run_asked limits ts w new fair =
    (every_turn (queued_at w.broker) limits ts w fair.within new.steady fair.unspent [] (stood w.broker.records.sessions (queued_at w.broker) (λ y among. among))).0

-- nor from nothing stored
pub nothing_asked : (limits : Capacity) (ts : List Turn) → IsCounted limits ts start → NobodyIsSentUnasked [] limits ts start
nothing_asked limits ts fair = run_asked limits ts start start_new fair

-- nor over a script
pub script_asked : (limits : Capacity) (ds : List Doing) (w : World) → IsNew w → IsCounted limits (all_turns limits ds w) w → NobodyIsSentUnasked (queued_at w.broker) limits (all_turns limits ds w) w
script_asked limits ds w new fair = run_asked limits (all_turns limits ds w) w new fair
