-- The turns of a drain, each by a choice of its own: they come to what the drain by one choice comes to, and copies end in them as in
-- that (MQTT 5.0, 4.3, 4.4, 4.6).
use Rattle.std.proofs.Common.{◌≡◌, ℕ, zero, suc, Bool, true, false, ◌&&◌, ◌||◌, List, [], ◌∷◌, ◌++◌, Option, Some, None, append-nil, refl, sym, ap, subst, ◌∙◌}
use Rattle.std.specs.Prelude.{cond, flat_map}
use Rattle.std.specs.List.{AllByRecursion, cons_option}
use Rattle.mqtt_rules.proofs.step_lemmas.numbers.Copies.{each_append}
use Rattle.mqtt_rules.specs.step.Deeds.{At, Deed, Leave, after}
use Rattle.mqtt_rules.specs.step.State.{Broker, MemberChoice}
use Rattle.mqtt_rules.specs.step.Step.{Call, at_moment, deeds}
use Rattle.mqtt_rules.specs.declared.step.Capacity.{Capacity}
use Rattle.mqtt_world_model.specs.model.Run.{Turn, are_beginnings_clean, begins_clean, deeds_over, read_if, read_in, run, the_deeds}
use Rattle.mqtt_world_model.specs.model.Tellings.{telling}
use Rattle.mqtt_world_model.specs.model.World.{Event, World, ask, happens, input_on, is_bad, pump, pump_on, receiver_named, taken_up, to_broker, to_end, view_of, with_line}
use Rattle.mqtt_world_laws.specs.acceptance.Spending.{run_spends, spending}
use Rattle.mqtt_world_laws.specs.acceptance.Steps.{step_called}
use Rattle.mqtt_world_laws.specs.causes.Endings.{Asked, EndAt, end_at, ends_in, ends_of, ends_over, the_asked}
use Rattle.mqtt_world_laws.specs.drain_causes.DrainEnds.{EndsBy}
use Rattle.mqtt_world_laws.specs.drain_causes.Fitting.{IsNotTooLarge}
use Rattle.mqtt_world_laws.proofs.drain_causes_lemmas.DrainRuns.{ends_append}
use Rattle.mqtt_world_laws.specs.receiver.Drains.{after_round, all_to_broker, all_to_end, downs_by, drain_by, drain_turns, round_turns, times, turn_of, ups_by}
use Rattle.mqtt_world_laws.proofs.receiver_lemmas.drains.DrainRuns.{run_append}
use Rattle.mqtt_world_laws.proofs.delivery_lemmas.others.Runs.{IsKept}
use Rattle.mqtt_world_laws.proofs.delivery_lemmas.whole.EveryRun.{spent_append}
use Rattle.mqtt_world.specs.script_laws.Drains.{AreTurnsOfRound, AreTurnsOfRounds}
use Rattle.mqtt_world.specs.script_laws.Turns.{by_choice, events_of}
use Rattle.mqtt_world.proofs.script_laws_lemmas.Carrying.{carry_joined}
use Rattle.mqtt_world.proofs.script_laws_lemmas.Costs.{spent_joined}
use Rattle.mqtt_world.proofs.script_laws_lemmas.Drained.{has_receiver}
use Rattle.mqtt_world.proofs.script_laws_lemmas.Repeated.{IsReady, IsSame, answers_same, pump_same, reads_same, ready_after}

-- ---- ends, by two choices

-- what holds of two lists holds of each
pub parts : {X : Type 0} (P : X → Type 0) (xs ys : List X) → AllByRecursion P (xs ++ ys) → AllByRecursion P xs × AllByRecursion P ys
parts P [] ys h = (tt, h)
parts P (x ∷ xs) ys h = let more = parts P xs ys h.1 in ((h.0, more.0), more.1)

-- an end is of the receiver's copies, by what ends them in a drain, at this moment, and not as too large; whatever its cause is
pub record IsHis (client : List ℕ) (moment : ℕ) (x : EndAt) : Type 0 where
  pub its : x.who.client ≡ client
  pub by : EndsBy client x.asked.call x.ending
  pub at : x.broker.now ≡ moment
  pub fits : IsNotTooLarge x

module _ (limits : Capacity) (client : List ℕ) (moment : ℕ) where
  abbrev AreHis : List EndAt → Type 0
  AreHis xs = AllByRecursion (IsHis client moment) xs

  one_same : (x y : Asked) → x.call ≡ y.call → (b : Broker) (ds : List Deed) (d : Deed) (xs ys : List EndAt) → (AreHis xs → AreHis ys) → AreHis (cons_option (end_at x b ds d) xs) → AreHis (cons_option (end_at y b ds d) ys)
  one_same x y same b ds (At who (Leave e ending)) xs ys more h = (record { its = h.0.its; by = subst (λ (o : Option Call). EndsBy client o ending) same h.0.by; at = h.0.at; fits = h.0.fits }, more h.1)
  one_same x y same b ds d xs ys more h = more h

  same_ends : (x y : Asked) → x.call ≡ y.call → (ds : List Deed) (b : Broker) → AreHis (ends_of x ds b) → AreHis (ends_of y ds b)
  same_ends x y same [] b h = tt
  same_ends x y same (d ∷ ds) b h = one_same x y same b ds d (ends_of x ds (after d b)) (ends_of y ds (after d b)) (same_ends x y same ds (after d b)) h

  -- what is asked of the broker
  call_his : (c d : MemberChoice) (o : Option Call) (w : World) → read_if the_deeds (by_choice limits c) o w ≡ read_if the_deeds (by_choice limits d) o w
      → AreHis (flat_map ends_in (read_if the_asked (by_choice limits d) o w)) → AreHis (flat_map ends_in (read_if the_asked (by_choice limits c) o w))
  call_his c d None w same h = tt
  call_his c d (Some call) w same h =
      let x : Asked = record { call = Some call; step = step_called (by_choice limits d) call w } in
      let y : Asked = record { call = Some call; step = step_called (by_choice limits c) call w } in
      let b = at_moment w.now w.broker in
      let one : AreHis (ends_in x) = (parts (IsHis client moment) (ends_in x) [] h).0 in
      let other : AreHis (ends_in y) = subst (λ (ds : List Deed). AreHis (ends_of y ds b)) (sym same) (same_ends x y refl (deeds limits d w.now call w.broker) b one) in
      each_append (IsHis client moment) (ends_in y) [] other tt

  -- ---- turns that are the same but for their choices

  -- these come to the same world as those, and spend no number if those spend none; and ends are the receiver's in these if they are in those
  pub record Alike (ts us : List Turn) (w : World) : Type 0 where
    pub is : run limits ts w ≡ run limits us w
    pub clean : are_beginnings_clean limits ts w ≡ true
    pub spends : run_spends limits ts w ≡ false → run_spends limits us w ≡ false
    pub ends : AreHis (ends_over limits us w) → AreHis (ends_over limits ts w)

  none_alike : (w : World) → Alike [] [] w
  none_alike w = record { is = refl; clean = refl; spends = λ h. h; ends = λ h. h }

  alike_joined : (ts us xs ys : List Turn) (w : World) → Alike ts us w → Alike xs ys (run limits ts w) → Alike (ts ++ xs) (us ++ ys) w
  alike_joined ts us xs ys w p q = record {
    is = run_append limits ts xs w ∙ (q.is ∙ (ap (run limits ys) p.is ∙ sym (run_append limits us ys w)));
    clean = carry_joined limits ts xs w p.clean q.clean;
    spends = λ h.
        let both = spent_append limits ts xs w h in
        spent_joined limits us ys w (p.spends both.0) (subst (λ (v : World). run_spends limits ys v ≡ false) p.is (q.spends both.1));
    ends = λ h.
        let both = parts (IsHis client moment) (ends_over limits us w) (ends_over limits ys (run limits us w)) (subst AreHis (ends_append limits us ys w) h) in
        let rest = q.ends (subst (λ (v : World). AreHis (ends_over limits ys v)) (sym p.is) both.1) in
        subst AreHis (sym (ends_append limits ts xs w)) (each_append (IsHis client moment) (ends_over limits ts w) (ends_over limits xs (run limits ts w)) (p.ends both.0) rest);
  }

  -- the event is the same by both choices, with the ends in it
  record IsSameTurn (c d : MemberChoice) (e : Event) (w : World) : Type 0 where
    same : IsSame limits c d e w
    ends : AreHis (flat_map ends_in (read_in the_asked (by_choice limits d) e w)) → AreHis (flat_map ends_in (read_in the_asked (by_choice limits c) e w))

  pump_turn : (c d : MemberChoice) (w : World) → IsSameTurn c d (ask (pump client)) w
  pump_turn c d w = let s = pump_same limits c d client w in record { same = s; ends = call_his c d (pump_on (view_of client w).number) w s.deeds_are }

  read_turn : (c d : MemberChoice) (w : World) → IsSameTurn c d (to_end client) w
  read_turn c d w = record { same = reads_same limits c d client w; ends = λ h. tt }

  answer_turn : (c d : MemberChoice) (w : World) → IsReady client limits w → IsSameTurn c d (ask (to_broker client)) w
  answer_turn c d w ready =
      let s = answers_same limits c d client w ready in
      let v = view_of client w in
      record { same = s; ends = call_his c d (input_on v.number v.up) (with_line client taken_up taken_up w) s.deeds_are }

  one_alike : (c d : MemberChoice) (e : Event) (w : World) → begins_clean e w ≡ true → IsSameTurn c d e w → Alike (turn_of c e ∷ []) (turn_of d e ∷ []) w
  one_alike c d e w clean s = record {
    is = leads (is_bad e w);
    clean = ap (λ (b : Bool). b && true) clean;
    spends = costs (is_bad e w);
    ends = ends (is_bad e w);
  }
    where
      leads : (bad : Bool) → cond bad w (happens (by_choice limits c) e w) ≡ cond bad w (happens (by_choice limits d) e w)
      leads true = refl
      leads false = s.same.does

      costs : (bad : Bool) → (cond bad false (read_in spending (by_choice limits c) e w) || false) ≡ false → (cond bad false (read_in spending (by_choice limits d) e w) || false) ≡ false
      costs true h = h
      costs false h = ap (λ (b : Bool). b || false) (sym s.same.spends) ∙ h

      ends : (bad : Bool) → AreHis (flat_map ends_in (cond bad [] (read_in the_asked (by_choice limits d) e w) ++ [])) → AreHis (flat_map ends_in (cond bad [] (read_in the_asked (by_choice limits c) e w) ++ []))
      ends true h = tt
      ends false h =
          subst (λ (xs : List Asked). AreHis (flat_map ends_in xs)) (sym (append-nil (read_in the_asked (by_choice limits c) e w)))
          (s.ends (subst (λ (xs : List Asked). AreHis (flat_map ends_in xs)) (append-nil (read_in the_asked (by_choice limits d) e w)) h))

  -- ---- some turns, and where the receiver is ready still

  ready_on : (ts : List Turn) (w : World) → IsReady client limits w → run_spends limits ts w ≡ false → are_beginnings_clean limits ts w ≡ true → IsReady client limits (run limits ts w)
  ready_on ts w ready unspent clean = ready_after client limits ts (telling (deeds_over limits ts w)) w (run limits ts w) ready (record { is = refl; unspent = unspent; told = refl }) clean

  times_alike : (d : MemberChoice) (e : Event) → ((v : World) → begins_clean e v ≡ true) → ((c : MemberChoice) (v : World) → IsReady client limits v → IsSameTurn c d e v)
      → (n : ℕ) (ts : List Turn) (w : World) → events_of ts ≡ times n e → IsReady client limits w → run_spends limits ts w ≡ false → Alike ts (times n (turn_of d e)) w
  times_alike d e clean same zero [] w is ready unspent = none_alike w
  times_alike d e clean same zero (t ∷ ts) w is ready unspent = absurd cc
  times_alike d e clean same (suc n) [] w is ready unspent = absurd cc
  times_alike d e clean same (suc n) (t ∷ ts) w is ready unspent =
      let first : t.event ≡ e = cc in
      let others : events_of ts ≡ times n e = cc in
      let one : Alike (t ∷ []) (turn_of d e ∷ []) w = subst (λ (x : Event). Alike (turn_of t.choice x ∷ []) (turn_of d e ∷ []) w) (sym first) (one_alike t.choice d e w (clean w) (same t.choice w ready)) in
      let costs = spent_append limits (t ∷ []) ts w unspent in
      let next = ready_on (t ∷ []) w ready costs.0 one.clean in
      alike_joined (t ∷ []) (turn_of d e ∷ []) ts (times n (turn_of d e)) w one (times_alike d e clean same n ts (run limits (t ∷ []) w) others next costs.1)

  -- ---- a round, and rounds

  round_alike : (d : MemberChoice) (turns : List Turn) (w : World) → AreTurnsOfRound limits client turns w → IsReady client limits w → run_spends limits turns w ≡ false → Alike turns (round_turns limits d client w) w
  round_alike d turns w x ready unspent =
      let sends : List Turn = turn_of d (ask (pump client)) ∷ [] in
      let sent = run limits x.sends w in
      let read = run limits x.reads sent in
      let front = x.sends ++ x.reads in
      let costs = spent_append limits front x.answers w (ap (λ (ts : List Turn). run_spends limits ts w) (sym x.are) ∙ unspent) in
      let costs_of = spent_append limits x.sends x.reads w costs.0 in
      let one : Alike x.sends sends w = times_alike d (ask (pump client)) (λ v. refl) (λ c v r. pump_turn c d v) 1 x.sends w x.sends_are ready costs_of.0 in
      let there = ready_on x.sends w ready costs_of.0 one.clean in
      let two : Alike x.reads (all_to_end d client sent) sent
      = times_alike d (to_end client) (λ v. refl) (λ c v r. read_turn c d v) (downs_by (receiver_named client sent)) x.reads sent x.reads_are there costs_of.1
      in
      let at : run limits front w ≡ read = run_append limits x.sends x.reads w in
      let last : run_spends limits x.answers read ≡ false = subst (λ (v : World). run_spends limits x.answers v ≡ false) at costs.1 in
      let three : Alike x.answers (all_to_broker d client read) read
      = times_alike d (ask (to_broker client)) (λ v. refl) (λ c v r. answer_turn c d v r) (ups_by (receiver_named client read)) x.answers read x.answers_are (ready_on x.reads sent there costs_of.1 two.clean) last
      in
      let both = alike_joined x.sends sends x.reads (all_to_end d client sent) w one two in
      let all : Alike (front ++ x.answers) ((sends ++ all_to_end d client sent) ++ all_to_broker d client read) w
      = alike_joined front (sends ++ all_to_end d client sent) x.answers (all_to_broker d client read) w both (subst (λ (v : World). Alike x.answers (all_to_broker d client read) v) (sym at) three)
      in
      let read_on : Alike (front ++ x.answers) ((sends ++ all_to_end d client sent) ++ all_to_broker d client (run limits (all_to_end d client sent) sent)) w
      = subst (λ (v : World). Alike (front ++ x.answers) ((sends ++ all_to_end d client sent) ++ all_to_broker d client v) w) two.is all
      in
      subst (λ (ts : List Turn). Alike ts (round_turns limits d client w) w) (sym x.are)
      (subst (λ (v : World). Alike (front ++ x.answers) ((sends ++ all_to_end d client v) ++ all_to_broker d client (run limits (all_to_end d client v) v)) w) one.is read_on)

  -- the turns of a drain, each by a choice of its own, come to what the drain by one choice comes to
  pub rounds_alike : (d : MemberChoice) (rounds : ℕ) (turns : List Turn) (w : World) → AreTurnsOfRounds limits client rounds turns w → IsKept [] client limits w → run_spends limits turns w ≡ false
      → Alike turns (drain_turns limits d client rounds w) w
  rounds_alike d zero turns w h kept unspent = subst (λ (ts : List Turn). Alike ts [] w) (sym h.1) (none_alike w)
  rounds_alike d (suc more) turns w (on, first, rest, front, others, are) kept unspent =
      let v = run limits first w in
      let costs = spent_append limits first rest w (ap (λ (ts : List Turn). run_spends limits ts w) (sym are) ∙ unspent) in
      let ready : IsReady client limits w = record { kept = kept; there = has_receiver client limits d w on } in
      let one = round_alike d first w front ready costs.0 in
      let next = ready_on first w ready costs.0 one.clean in
      let two : Alike rest (drain_turns limits d client more v) v = rounds_alike d more rest v others next.kept costs.1 in
      let turns_of : World → List Turn = λ u. drain_turns limits d client more u in
      let joined : Alike (first ++ rest) (round_turns limits d client w ++ turns_of v) w = alike_joined first (round_turns limits d client w) rest (turns_of v) w one two in
      let on_from : Alike (first ++ rest) (round_turns limits d client w ++ turns_of (after_round limits d client w)) w = subst (λ (u : World). Alike (first ++ rest) (round_turns limits d client w ++ turns_of u) w) one.is joined in
      subst (λ (ts : List Turn). Alike ts (drain_turns limits d client (suc more) w) w) (sym are)
      (subst (λ (t : Bool). Alike (first ++ rest) (drain_by t (round_turns limits d client w) (turns_of (after_round limits d client w))) w) (sym on) on_from)
