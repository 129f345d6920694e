-- Events piece by piece, and what an event comes to.
use Rattle.std.proofs.Common.{◌≡◌, ℕ, Bool, true, false, cond, List, [], ◌∷◌, ◌++◌, length, map, refl, sym, ap, subst, ◌∙◌, inl, inr}
use Rattle.std.specs.Prelude.{◌⊎◌}
use Rattle.std.specs.List.{concat}
use Rattle.std.proofs.lemmas.List.{append-nil}
use Rattle.mqtt_rules.specs.step.State.{MemberChoice}
use Rattle.mqtt_rules.specs.declared.step.Capacity.{Capacity}
use Rattle.mqtt_world_model.specs.model.Run.{run, turned}
use Rattle.mqtt_world_model.specs.model.World.{Asking, Event, Setting, World, ask, asks, break, bytes_held, bytes_name, clock, connect_end}
use Rattle.mqtt_world_model.specs.model.World.{first_step, give_up, is_bad, is_bad_asking, old_to_broker, publish, publisher, pump, receiver}
use Rattle.mqtt_world_model.specs.model.World.{restart, restarts, step, stop_after, stop_before, stranger, stranger_named, subscribe, tick}
use Rattle.mqtt_world_model.specs.model.World.{to_broker, to_end}
use Rattle.mqtt_world_model.specs.single_steps.Unrolled.{AreAlike, AreAllAlike, AreCut, IsDecided, IsOneStep, IsWhole, Unrolls, UnrollsAsking}
use Rattle.mqtt_world_model.specs.single_steps.Unrolled.{UnrollsStop, bytes_come, come_in, turn}
use Rattle.mqtt_world_model.proofs.single_steps_lemmas.Answered.{asks_alike, none_behind, splits}
use Rattle.mqtt_world_model.proofs.single_steps_lemmas.Good.{bytes_good, good_after, good_bytes, good_parts, said_parts, same_asked}
use Rattle.mqtt_world_model.proofs.single_steps_lemmas.Stopped.{first_alone, good_part, restarts_behind}

-- ---- bytes in two parts

good_step : (set : Setting) (a : Asking) (w : World) → is_bad_asking a w ≡ false → step set (ask a) w ≡ asks set a w
good_step set a w good = ap (λ (t : Bool). cond t w (asks set a w)) good

-- what a stranger asks, as an event, leaves those of its name alike
pub alike_step : (set : Setting) (name bytes : List ℕ) (w : World) → AreAlike name w → AreAlike name (step set (ask (stranger name bytes)) w)
alike_step set name bytes w alike = by (is_bad_asking (stranger name bytes) w)
  where
    by : (t : Bool) → AreAlike name (cond t w (asks set (stranger name bytes) w))
    by true = alike
    by false = asks_alike set name bytes w alike

-- behind the first of them
record Parted (set : Setting) (name part more : List ℕ) (w : World) : Type 0 where
  both : step set (ask (stranger name (part ++ more))) w ≡ step set (ask (stranger name more)) (step set (ask (stranger name part)) w)
  none : bytes_held (stranger_named name (step set (ask (stranger name part)) w)) ≡ []
  good : is_bad (ask (stranger name more)) (step set (ask (stranger name part)) w) ≡ false

parted : (set : Setting) (name part more : List ℕ) (w : World) → AreAlike name w → IsWhole (bytes_come name part w)
    → is_bad (ask (stranger name (part ++ more))) w ≡ false → Parted set name part more w
parted set name part more w alike whole good =
    let held = bytes_held (stranger_named name w) in
    let all = good_bytes name (part ++ more) w good in
    let said = said_parts part more all.0 in
    let both = good_parts held part more whole.0 w whole.1 all.1 in
    let alone = bytes_good name part w said.0 both.0 in
    let v = asks set (stranger name part) w in
    let none = none_behind set name part w alike whole in
    let later : is_bad_asking (stranger name more) v ≡ false =
    bytes_good name more v said.1
    (ap (λ (bytes : List ℕ). bytes_name (length (bytes ++ more)) (bytes ++ more) v) none
    ∙ good_after more v w (same_asked set name part w) both.1) in
    let first = good_step set (stranger name part) w alone in
    record {
      both =
          good_step set (stranger name (part ++ more)) w good
          ∙ (splits set name part more w alike whole
          ∙ sym (ap (step set (ask (stranger name more))) first ∙ good_step set (stranger name more) v later));
      none = ap (λ (u : World). bytes_held (stranger_named name u)) first ∙ none;
      good = ap (is_bad_asking (stranger name more)) first ∙ later;
    }

-- and it may come in two parts
pub splits_step : (set : Setting) (name part more : List ℕ) (w : World) → AreAlike name w → IsWhole (bytes_come name part w)
    → is_bad (ask (stranger name (part ++ more))) w ≡ false
    → step set (ask (stranger name (part ++ more))) w ≡ step set (ask (stranger name more)) (step set (ask (stranger name part)) w)
splits_step set name part more w alike whole good = (parted set name part more w alike whole good).both

-- ---- a stop

stops : (set : Setting) (a : Asking) (w : World) → is_bad_asking a w ≡ false → step set (stop_after a) w ≡ restarts set (first_step set a w)
stops set a w good = ap (λ (t : Bool). cond t w (restarts set (first_step set a w))) good

-- a stop behind one step is that step and a restart
pub stop_is : (set : Setting) (a : Asking) (w : World) → IsOneStep a w → is_bad (stop_after a) w ≡ false
    → step set (stop_after a) w ≡ step set restart (step set (ask a) w)
stop_is set a w one good =
    stops set a w good
    ∙ (restarts_behind set a w one ∙ sym (ap (λ (t : Bool). restarts set (cond t w (asks set a w))) good))

-- a stop while a stranger asks is a stop behind the first part that is decided
pub stop_first : (set : Setting) (name part more : List ℕ) (w : World) → AreAlike name w → IsDecided (bytes_come name part w)
    → is_bad (stop_after (stranger name (part ++ more))) w ≡ false
    → step set (stop_after (stranger name (part ++ more))) w ≡ step set (stop_after (stranger name part)) w
stop_first set name part more w alike found good =
    let fine = good_part name part more w good in
    stops set (stranger name (part ++ more)) w good
    ∙ (first_alone set name part more w alike found ∙ sym (stops set (stranger name part) w fine))

-- ---- events of one step each

abbrev steps : Setting → List Event → World → World
steps set [] w = w
steps set (e ∷ es) w = steps set es (step set e w)

run_steps : (limits : Capacity) (choice : MemberChoice) (es : List Event) (w : World)
    → run limits (map (turn choice) es) w ≡ steps (record { limits = limits; choice = choice }) es w
run_steps limits choice [] w = refl
run_steps limits choice (e ∷ es) w = run_steps limits choice es (turned limits (turn choice e) w)

cut_steps : (set : Setting) (name held : List ℕ) (pieces : List (List ℕ)) (w : World) → AreAlike name w
    → bytes_held (stranger_named name w) ≡ held → AreCut held pieces → is_bad (ask (stranger name (concat pieces))) w ≡ false
    → steps set (map (come_in name) pieces) w ≡ step set (ask (stranger name (concat pieces))) w
cut_steps set name held [] w alike is cut good = absurd cut
cut_steps set name held (piece ∷ []) w alike is cut good = ap (λ (bytes : List ℕ). step set (ask (stranger name bytes)) w) (sym (append-nil piece))
cut_steps set name held (piece ∷ next ∷ more) w alike is cut good =
    let whole : IsWhole (bytes_come name piece w) = subst (λ (bytes : List ℕ). IsWhole (bytes ++ piece)) (sym is) cut.0 in
    let behind = parted set name piece (concat (next ∷ more)) w alike whole good in
    cut_steps set name [] (next ∷ more) (step set (ask (stranger name piece)) w) (alike_step set name piece w alike) behind.none cut.1 behind.good
    ∙ sym behind.both

one_step : (set : Setting) (e : Event) (es : List Event) (w : World) → es ≡ e ∷ [] → steps set es w ≡ step set e w
one_step set e es w is = ap (λ (xs : List Event). steps set xs w) is

asking_steps : (set : Setting) (a : Asking) (es : List Event) (w : World) → AreAllAlike w → is_bad (ask a) w ≡ false → UnrollsAsking a w es
    → steps set es w ≡ step set (ask a) w
asking_steps set (to_broker client) es w alike good is = one_step set (ask (to_broker client)) es w is
asking_steps set (old_to_broker client) es w alike good is = one_step set (ask (old_to_broker client)) es w is
asking_steps set (break client) es w alike good is = one_step set (ask (break client)) es w is
asking_steps set (pump client) es w alike good is = one_step set (ask (pump client)) es w is
asking_steps set tick es w alike good is = one_step set (ask tick) es w is
asking_steps set (stranger name bytes) es w alike good (pieces, joined, cut, is) =
    let fine : is_bad (ask (stranger name (concat pieces))) w ≡ false =
    ap (λ (xs : List ℕ). is_bad (ask (stranger name xs)) w) joined ∙ good in
    ap (λ (xs : List Event). steps set xs w) is
    ∙ (cut_steps set name (bytes_held (stranger_named name w)) pieces w (alike name) refl cut fine
    ∙ ap (λ (xs : List ℕ). step set (ask (stranger name xs)) w) joined)

two_steps : (set : Setting) (a : Asking) (es : List Event) (w : World) → IsOneStep a w → is_bad (stop_after a) w ≡ false
    → es ≡ ask a ∷ restart ∷ [] → steps set es w ≡ step set (stop_after a) w
two_steps set a es w one good is = ap (λ (xs : List Event). steps set xs w) is ∙ sym (stop_is set a w one good)

stop_steps : (set : Setting) (a : Asking) (es : List Event) (w : World) → AreAllAlike w → is_bad (stop_after a) w ≡ false → UnrollsStop a w es
    → steps set es w ≡ step set (stop_after a) w
stop_steps set (to_broker client) es w alike good is = two_steps set (to_broker client) es w tt good is
stop_steps set (old_to_broker client) es w alike good is = two_steps set (old_to_broker client) es w tt good is
stop_steps set (break client) es w alike good is = two_steps set (break client) es w tt good is
stop_steps set (pump client) es w alike good is = two_steps set (pump client) es w tt good is
stop_steps set tick es w alike good is = two_steps set tick es w tt good is
stop_steps set (stranger name bytes) es w alike good (part, more, joined, found, none, is) = by found
  where
    whole : is_bad (stop_after (stranger name (part ++ more))) w ≡ false
    whole = ap (λ (xs : List ℕ). is_bad (stop_after (stranger name xs)) w) joined ∙ good

    fine : is_bad (stop_after (stranger name part)) w ≡ false
    fine = good_part name part more w whole

    by : (more ≡ []) ⊎ IsDecided (bytes_come name part w) → steps set es w ≡ step set (stop_after (stranger name bytes)) w
    by (inl nothing) =
        two_steps set (stranger name part) es w (alike name, none) fine is
        ∙ ap (λ (xs : List ℕ). step set (stop_after (stranger name xs)) w)
        (sym (append-nil part) ∙ (ap (λ (xs : List ℕ). part ++ xs) (sym nothing) ∙ joined))
    by (inr decided) =
        two_steps set (stranger name part) es w (alike name, none) fine is
        ∙ (sym (stop_first set name part more w (alike name) decided whole)
        ∙ ap (λ (xs : List ℕ). step set (stop_after (stranger name xs)) w) joined)

event_steps : (set : Setting) (e : Event) (es : List Event) (w : World) → AreAllAlike w → is_bad e w ≡ false → Unrolls e w es
    → steps set es w ≡ step set e w
event_steps set (publisher client) es w alike good is = one_step set (publisher client) es w is
event_steps set (receiver client window aliases) es w alike good is = one_step set (receiver client window aliases) es w is
event_steps set (connect_end client clean) es w alike good is = one_step set (connect_end client clean) es w is
event_steps set (give_up client) es w alike good is = one_step set (give_up client) es w is
event_steps set (publish client d) es w alike good is = one_step set (publish client d) es w is
event_steps set (subscribe client x) es w alike good is = one_step set (subscribe client x) es w is
event_steps set (to_end client) es w alike good is = one_step set (to_end client) es w is
event_steps set (clock wait) es w alike good is = one_step set (clock wait) es w is
event_steps set (ask a) es w alike good is = asking_steps set a es w alike good is
event_steps set restart es w alike good is = one_step set restart es w is
event_steps set (stop_before a) es w alike good is = one_step set (stop_before a) es w is
event_steps set (stop_after a) es w alike good is = stop_steps set a es w alike good is

-- an event is the run of the events of one step that it comes to
pub event_is : (limits : Capacity) (choice : MemberChoice) (e : Event) (es : List Event) (w : World) → AreAllAlike w
    → is_bad e w ≡ false → Unrolls e w es → run limits (map (turn choice) es) w ≡ turned limits (turn choice e) w
event_is limits choice e es w alike good is =
    run_steps limits choice es w ∙ event_steps (record { limits = limits; choice = choice }) e es w alike good is
