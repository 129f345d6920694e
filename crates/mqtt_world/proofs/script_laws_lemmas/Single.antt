-- Events of one step of the broker, or none, happen as one turn; and a stop as two.
use Rattle.std.proofs.Common.{◌≡◌, ℕ, suc, Bool, true, false, cond, ◌||◌, List, [], ◌∷◌, ◌++◌, Option, Some, None, refl, sym, ap, subst, ◌∙◌}
use Rattle.std.proofs.lemmas.List.{append-nil}
use Rattle.mqtt_rules.specs.step.Deeds.{Link}
use Rattle.mqtt_rules.specs.step.State.{MemberChoice}
use Rattle.mqtt_rules.specs.step.Step.{Call, can_link, deeds, is_opening_spent, is_step_spent}
use Rattle.mqtt_rules.specs.declared.step.Capacity.{Capacity}
use Rattle.mqtt_world_model.specs.model.Lines.{left}
use Rattle.mqtt_world_model.specs.model.Run.{Turn, deeds_at, deeds_over, read_if, read_in, run, the_deeds}
use Rattle.mqtt_world_model.specs.model.Tellings.{Telling, silent, telling, tells}
use Rattle.mqtt_world_model.specs.model.World.{Asking, Event, World, ask, asks, before, break, call_of, calls, calls_if, clock, connect_end, first_step}
use Rattle.mqtt_world_model.specs.model.World.{give_up, happens, is_bad, is_bad_asking, links, next_line, old_to_broker, publish, publisher, pump}
use Rattle.mqtt_world_model.specs.model.World.{receiver, restart, restarts, stop_after, stop_before, stranger, subscribe, tick, to_broker, to_end}
use Rattle.mqtt_world_model.specs.model.World.{with_line}
use Rattle.mqtt_world_model.specs.single_steps.Unrolled.{Unrolls, turn}
use Rattle.mqtt_world_laws.specs.acceptance.Spending.{run_spends, spending}
use Rattle.mqtt_world_laws.proofs.receiver_lemmas.drains.DrainRuns.{run_append}
use Rattle.mqtt_world.specs.script_laws.Scripted.{Happens, is_heard, tells_if, tells_in}
use Rattle.mqtt_world.specs.script_laws.Turns.{IsPlain, IsQuiet, IsReopened, IsTurn, by_choice}
use Rattle.mqtt_world.proofs.script_laws_lemmas.Costs.{spent_joined}

-- ---- one turn

-- an event that costs nothing is a turn that spends nothing
pub turn_unspent : (limits : Capacity) (choice : MemberChoice) (e : Event) (w : World) → is_bad e w ≡ false → read_in spending (by_choice limits choice) e w ≡ false
    → run_spends limits (turn choice e ∷ []) w ≡ false
turn_unspent limits choice e w good unspent =
    ap (λ (t : Bool). cond t false (read_in spending (by_choice limits choice) e w) || false) good ∙ ap (λ (t : Bool). t || false) unspent

-- a turn is its event
pub turn_is : (limits : Capacity) (choice : MemberChoice) (e : Event) (w : World) → is_bad e w ≡ false → run limits (turn choice e ∷ []) w ≡ happens (by_choice limits choice) e w
turn_is limits choice e w good = ap (λ (t : Bool). cond t w (happens (by_choice limits choice) e w)) good

-- with its deeds
pub turn_deeds : (limits : Capacity) (choice : MemberChoice) (e : Event) (w : World) → is_bad e w ≡ false
    → deeds_over limits (turn choice e ∷ []) w ≡ read_in the_deeds (by_choice limits choice) e w
turn_deeds limits choice e w good =
    let ds = read_in the_deeds (by_choice limits choice) e w in
    ap (λ (t : Bool). cond t [] ds ++ []) good ∙ append-nil ds

-- an event of one step happens as its turn
pub turn_happens : (limits : Capacity) (e : Event) (t : Telling) (w after : World) → Unrolls e w (e ∷ []) → IsTurn limits e t w after
    → Happens limits e (tells_if (is_heard e) t) w after
turn_happens limits e t w after unrolls does = record {
  good = does.good;
  turns = turn does.choice e ∷ [];
  unrolls = unrolls;
  unspent = turn_unspent limits does.choice e w does.good does.unspent;
  is = does.is ∙ sym (turn_is limits does.choice e w does.good);
  told = ap (tells_if (is_heard e)) (does.told ∙ ap telling (sym (turn_deeds limits does.choice e w does.good)));
}

-- ---- what ends do: the broker takes no part

-- a quiet event happens without telling anything
pub quiet : (limits : Capacity) (choice : MemberChoice) (e : Event) (w after : World) → IsQuiet e → is_bad e w ≡ false → after ≡ happens (by_choice limits choice) e w → Happens limits e silent w after
quiet limits choice (publisher client) w after q good is = turn_happens limits (publisher client) silent w after refl (record { choice = choice; good = good; unspent = refl; is = is; told = refl })
quiet limits choice (receiver client window aliases) w after q good is = turn_happens limits (receiver client window aliases) silent w after refl (record { choice = choice; good = good; unspent = refl; is = is; told = refl })
quiet limits choice (connect_end client clean) w after q good is = absurd q
quiet limits choice (give_up client) w after q good is = turn_happens limits (give_up client) silent w after refl (record { choice = choice; good = good; unspent = refl; is = is; told = refl })
quiet limits choice (publish client d) w after q good is = turn_happens limits (publish client d) silent w after refl (record { choice = choice; good = good; unspent = refl; is = is; told = refl })
quiet limits choice (subscribe client x) w after q good is = turn_happens limits (subscribe client x) silent w after refl (record { choice = choice; good = good; unspent = refl; is = is; told = refl })
quiet limits choice (to_end client) w after q good is = turn_happens limits (to_end client) silent w after refl (record { choice = choice; good = good; unspent = refl; is = is; told = refl })
quiet limits choice (clock wait) w after q good is = turn_happens limits (clock wait) silent w after refl (record { choice = choice; good = good; unspent = refl; is = is; told = refl })
quiet limits choice (ask a) w after q good is = absurd q
quiet limits choice restart w after q good is = absurd q
quiet limits choice (stop_before a) w after q good is = absurd q
quiet limits choice (stop_after a) w after q good is = absurd q

-- an end joins by a new line, if there is one
link_tells : (can : Bool) (n : ℕ) → silent ≡ telling (cond can (Link n ∷ []) [])
link_tells true n = refl
link_tells false n = refl

-- an end that connects tells what the broker tells
pub joins : (limits : Capacity) (choice : MemberChoice) (client : List ℕ) (clean : Bool) (w after : World) → is_bad (connect_end client clean) w ≡ false
    → after ≡ links (by_choice limits choice) (next_line limits w.broker) client clean w → Happens limits (connect_end client clean) silent w after
joins limits choice client clean w after good is =
    turn_happens limits (connect_end client clean) silent w after refl
    (record { choice = choice; good = good; unspent = refl; is = is; told = link_tells (can_link limits w.broker) (suc w.broker.given) })

-- ---- what the broker is asked for by no stranger

plain_turn : (limits : Capacity) (choice : MemberChoice) (a : Asking) (t : Telling) (w after : World) → IsPlain a → is_bad_asking a w ≡ false
    → read_if spending (by_choice limits choice) (call_of (by_choice limits choice) a w) (before (by_choice limits choice) a w) ≡ false
    → after ≡ asks (by_choice limits choice) a w
    → t ≡ telling (read_if the_deeds (by_choice limits choice) (call_of (by_choice limits choice) a w) (before (by_choice limits choice) a w))
    → IsTurn limits (ask a) t w after
plain_turn limits choice (to_broker client) t w after p good unspent is told = record { choice = choice; good = good; unspent = unspent; is = is; told = told }
plain_turn limits choice (old_to_broker client) t w after p good unspent is told = record { choice = choice; good = good; unspent = unspent; is = is; told = told }
plain_turn limits choice (break client) t w after p good unspent is told = record { choice = choice; good = good; unspent = unspent; is = is; told = told }
plain_turn limits choice (pump client) t w after p good unspent is told = record { choice = choice; good = good; unspent = unspent; is = is; told = told }
plain_turn limits choice tick t w after p good unspent is told = record { choice = choice; good = good; unspent = unspent; is = is; told = told }
plain_turn limits choice (stranger name bytes) t w after p good unspent is told = absurd p

-- a line that was broken is left by its end
abbrev pub left_by : Asking → World → World
left_by (to_broker client) w = w
left_by (old_to_broker client) w = w
left_by (break client) w = with_line client left left w
left_by (pump client) w = w
left_by tick w = w
left_by (stranger name bytes) w = w

plain_asks : (limits : Capacity) (choice : MemberChoice) (a : Asking) (w : World) → IsPlain a
    → left_by a (first_step (by_choice limits choice) a w) ≡ asks (by_choice limits choice) a w
plain_asks limits choice (to_broker client) w p = refl
plain_asks limits choice (old_to_broker client) w p = refl
plain_asks limits choice (break client) w p = refl
plain_asks limits choice (pump client) w p = refl
plain_asks limits choice tick w p = refl
plain_asks limits choice (stranger name bytes) w p = absurd p

-- there is nothing to ask the broker for
pub asks_nothing : (limits : Capacity) (choice : MemberChoice) (a : Asking) (w after : World) → IsPlain a → is_bad_asking a w ≡ false
    → call_of (by_choice limits choice) a w ≡ None → after ≡ left_by a (before (by_choice limits choice) a w) → IsTurn limits (ask a) silent w after
asks_nothing limits choice a w after p good none is =
    let set = by_choice limits choice in
    let v = before set a w in
    plain_turn limits choice a silent w after p good
    (ap (λ (o : Option Call). read_if spending set o v) none)
    (is ∙ ap (λ (o : Option Call). left_by a (calls_if set o v)) (sym none) ∙ plain_asks limits choice a w p)
    (sym (ap (λ (o : Option Call). telling (read_if the_deeds set o v)) none))

-- a call of the broker
pub asks_call : (limits : Capacity) (choice : MemberChoice) (a : Asking) (call : Call) (t : Telling) (w after : World) → IsPlain a → is_bad_asking a w ≡ false
    → call_of (by_choice limits choice) a w ≡ Some call
    → is_step_spent limits choice (before (by_choice limits choice) a w).now call (before (by_choice limits choice) a w).broker ≡ false
    → after ≡ left_by a (calls (by_choice limits choice) call (before (by_choice limits choice) a w))
    → t ≡ telling (deeds limits choice (before (by_choice limits choice) a w).now call (before (by_choice limits choice) a w).broker)
    → IsTurn limits (ask a) t w after
asks_call limits choice a call t w after p good some unspent is told =
    let set = by_choice limits choice in
    let v = before set a w in
    plain_turn limits choice a t w after p good
    (ap (λ (o : Option Call). read_if spending set o v) some ∙ unspent)
    (is ∙ ap (λ (o : Option Call). left_by a (calls_if set o v)) (sym some) ∙ plain_asks limits choice a w p)
    (told ∙ sym (ap (λ (o : Option Call). telling (read_if the_deeds set o v)) some))

one_event : (a : Asking) (w : World) → IsPlain a → Unrolls (ask a) w (ask a ∷ [])
one_event (to_broker client) w p = refl
one_event (old_to_broker client) w p = refl
one_event (break client) w p = refl
one_event (pump client) w p = refl
one_event tick w p = refl
one_event (stranger name bytes) w p = absurd p

-- a plain question is one turn
pub plain_happens : (limits : Capacity) (a : Asking) (t : Telling) (w after : World) → IsPlain a → IsTurn limits (ask a) t w after → Happens limits (ask a) t w after
plain_happens limits a t w after p does = turn_happens limits (ask a) t w after (one_event a w p) does

-- ---- the broker is opened again

-- a restart is a reopening
pub reopens : (limits : Capacity) (w after : World) → IsReopened limits w after → Happens limits restart silent w after
reopens limits w after does =
    turn_happens limits restart (telling (read_in the_deeds (by_choice limits does.choice) restart w)) w after refl
    (record { choice = does.choice; good = refl; unspent = does.unspent; is = does.is; told = refl })

-- before the commit of what is asked for
pub stops_before : (limits : Capacity) (choice : MemberChoice) (a : Asking) (w after : World) → is_bad_asking a w ≡ false
    → is_opening_spent limits choice (before (by_choice limits choice) a w).now (before (by_choice limits choice) a w).broker.records ≡ false
    → after ≡ restarts (by_choice limits choice) (before (by_choice limits choice) a w) → Happens limits (stop_before a) silent w after
stops_before limits choice a w after good unspent is =
    turn_happens limits (stop_before a) (telling (read_in the_deeds (by_choice limits choice) (stop_before a) w)) w after refl
    (record { choice = choice; good = good; unspent = unspent; is = is; told = refl })

-- behind it
pub stops : (limits : Capacity) (a first : Asking) (t : Telling) (w mid after : World) → is_bad_asking a w ≡ false → Unrolls (stop_after a) w (ask first ∷ restart ∷ [])
    → IsTurn limits (ask first) t w mid → IsReopened limits mid after → Happens limits (stop_after a) silent w after
stops limits a first t w mid after good unrolls does opens =
    let turns : List Turn = turn does.choice (ask first) ∷ [] in
    let last : List Turn = turn opens.choice restart ∷ [] in
    let is : mid ≡ run limits turns w = does.is ∙ sym (turn_is limits does.choice (ask first) w does.good) in
    record {
      good = good;
      turns = turns ++ last;
      unrolls = unrolls;
      unspent = spent_joined limits turns last w (turn_unspent limits does.choice (ask first) w does.good does.unspent)
          (subst (λ (v : World). run_spends limits last v ≡ false) is (turn_unspent limits opens.choice restart mid refl opens.unspent));
      is = opens.is ∙ (ap (run limits last) is ∙ sym (run_append limits turns last w));
      told = refl;
    }

two_events : (a : Asking) (w : World) → IsPlain a → Unrolls (stop_after a) w (ask a ∷ restart ∷ [])
two_events (to_broker client) w p = refl
two_events (old_to_broker client) w p = refl
two_events (break client) w p = refl
two_events (pump client) w p = refl
two_events tick w p = refl
two_events (stranger name bytes) w p = absurd p

-- a stop behind a plain question is the question and a reopening
pub stops_after : (limits : Capacity) (a : Asking) (t : Telling) (w mid after : World) → IsPlain a → IsTurn limits (ask a) t w mid → IsReopened limits mid after
    → Happens limits (stop_after a) silent w after
stops_after limits a t w mid after p does opens = stops limits a a t w mid after does.good (two_events a w p) does opens

-- ---- what a turn tells is what its event does

one_telling : (limits : Capacity) (choice : MemberChoice) (e : Event) (w : World) → telling (deeds_over limits (turn choice e ∷ []) w) ≡ telling (deeds_at (by_choice limits choice) e w)
one_telling limits choice e w = ap telling (append-nil (deeds_at (by_choice limits choice) e w))

nothing_read : (bad : Bool) → telling (cond bad [] [] ++ []) ≡ silent
nothing_read true = refl
nothing_read false = refl

-- what a turn tells is what its event tells
pub turn_tells : (limits : Capacity) (choice : MemberChoice) (e : Event) (w : World) → tells_in limits e (turn choice e ∷ []) w ≡ tells (by_choice limits choice) e w
turn_tells limits choice (publisher client) w = nothing_read (is_bad (publisher client) w)
turn_tells limits choice (receiver client window aliases) w = nothing_read (is_bad (receiver client window aliases) w)
turn_tells limits choice (connect_end client clean) w = one_telling limits choice (connect_end client clean) w
turn_tells limits choice (give_up client) w = nothing_read (is_bad (give_up client) w)
turn_tells limits choice (publish client d) w = nothing_read (is_bad (publish client d) w)
turn_tells limits choice (subscribe client x) w = nothing_read (is_bad (subscribe client x) w)
turn_tells limits choice (to_end client) w = nothing_read (is_bad (to_end client) w)
turn_tells limits choice (clock wait) w = refl
turn_tells limits choice (ask a) w = one_telling limits choice (ask a) w
turn_tells limits choice restart w = refl
turn_tells limits choice (stop_before a) w = refl
turn_tells limits choice (stop_after a) w = refl
