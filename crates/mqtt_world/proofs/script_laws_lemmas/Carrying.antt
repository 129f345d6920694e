-- A script whose ends begin clean comes to turns in which they do; strangers stay alike along it.
use Rattle.std.proofs.Common.{◌≡◌, ℕ, zero, suc, Bool, true, false, not, ◌&&◌, List, [], ◌∷◌, ◌++◌, map, Option, None, refl, sym, ap, subst, ◌∙◌}
use Rattle.std.specs.Prelude.{⊤, is_none}
use Rattle.std.specs.List.{AllByRecursion}
use Rattle.mqtt_rules.specs.step.Laws.{AreWithin}
use Rattle.mqtt_rules.specs.declared.step.Capacity.{Capacity}
use Rattle.mqtt_world_model.specs.model.Ends.{Publisher, Receiver}
use Rattle.mqtt_world_model.specs.model.Run.{Turn, are_beginnings_clean, begins_clean, is_asked, run, setting, turned, waits_clean}
use Rattle.mqtt_world_model.specs.model.Tellings.{Telling}
use Rattle.mqtt_world_model.specs.model.World.{Asking, Event, World, ask, break, clock, connect_end, give_up, link_of, old_to_broker, publish, publisher}
use Rattle.mqtt_world_model.specs.model.World.{pump, receiver, restart, start, stop_after, stop_before, stranger, subscribe, tick, to_broker, to_end}
use Rattle.mqtt_script.specs.declared.event.Event.{Event as Line}
use Rattle.mqtt_world_model.specs.single_steps.Unrolled.{AreAllAlike, HoldNoPacket, Unrolls, UnrollsAsking, UnrollsStop, come_in}
use Rattle.mqtt_world_model.proofs.single_steps_lemmas.Alike.{step_alike}
use Rattle.mqtt_world_model.proofs.single_steps_lemmas.Waiting.{step_waits}
use Rattle.mqtt_world_laws.specs.acceptance.Fair.{IsFair}
use Rattle.mqtt_world_laws.specs.acceptance.Spending.{run_spends}
use Rattle.mqtt_world_laws.specs.receiver.Drains.{times}
use Rattle.mqtt_world_laws.specs.delivery.Untouched.{IsUntouched}
use Rattle.mqtt_world.specs.script_laws.Cleanly.{AreMadeAnew, BeginClean, ComesFairly, IsMadeAnew, IsMadeAnewIf, is_named, keep_clean_starts, keeps_clean, keeps_if, named_after, named_if}
use Rattle.mqtt_world.specs.script_laws.Drains.{AreTurnsOfRound, AreTurnsOfRounds}
use Rattle.mqtt_world.specs.script_laws.Scripted.{AreTurnsFor, AreTurnsOf, IsRunOf, RunsTo, event_of, of_drain, of_event}
use Rattle.mqtt_world.specs.script_laws.Turns.{events_of}
use Rattle.mqtt_world.proofs.script_laws_lemmas.Cleanly.{Known, step_known, waits_named}
use Rattle.mqtt_world.proofs.script_laws_lemmas.Scripts.{runs_by_turns}

-- ---- events, one after the other

abbrev carries_over : List (List ℕ) → List Event → Bool
carries_over names [] = true
carries_over names (e ∷ es) = keeps_clean names e && carries_over (named_after e names) es

abbrev names_over : List Event → List (List ℕ) → List (List ℕ)
names_over [] names = names
names_over (e ∷ es) names = names_over es (named_after e names)

both_true : (a b : Bool) → (a && b) ≡ true → (a ≡ true) × (b ≡ true)
both_true true b h = (refl, h)
both_true false b h = absurd cc

and_true : (a b : Bool) → a ≡ true → b ≡ true → (a && b) ≡ true
and_true true b h k = k
and_true false b h k = absurd cc

-- who is not named does not wait
not_waiting : (names : List (List ℕ)) (client : List ℕ) (w : World) → Known names w → not (is_named client names) ≡ true → waits_clean client w ≡ false
not_waiting names client w known other = by (waits_clean client w) refl
  where
    by : (t : Bool) → waits_clean client w ≡ t → t ≡ false
    by false is = refl
    by true is =
        let named = waits_named names client w known is in
        let clash : false ≡ true = sym (ap not named) ∙ other in
        absurd cc

event_carries : (e : Event) (names : List (List ℕ)) (w : World) → Known names w → keeps_clean names e ≡ true → IsMadeAnew e w → begins_clean e w ≡ true
event_carries (publisher client) names w known keeps made = ap is_none made
event_carries (receiver client window aliases) names w known keeps made = ap is_none made
event_carries (connect_end client true) names w known keeps made = refl
event_carries (connect_end client false) names w known keeps made = ap not (not_waiting names client w known keeps)
event_carries (give_up client) names w known keeps made = by (is_asked (link_of client w)) (waits_clean client w) (not_waiting names client w known keeps)
  where
    by : (a b : Bool) → b ≡ false → not (a && b) ≡ true
    by true b is = ap not is
    by false b is = refl
event_carries e names w known keeps made = refl

-- the first of the events makes an end where no session of its name stands, if it makes one; the others make none
abbrev MakesNobody : Event → Type 0
MakesNobody e = (w : World) → IsMadeAnew e w

abbrev MakesFirst : List Event → World → Type 0
MakesFirst [] w = ⊤
MakesFirst (e ∷ es) w = IsMadeAnew e w × AllByRecursion MakesNobody es

nobody_first : (es : List Event) (w : World) → AllByRecursion MakesNobody es → MakesFirst es w
nobody_first [] w h = tt
nobody_first (e ∷ es) w h = (h.0 w, h.1)

turns_carry : (limits : Capacity) (ts : List Turn) (names : List (List ℕ)) (w : World) → Known names w → carries_over names (events_of ts) ≡ true → MakesFirst (events_of ts) w
    → (are_beginnings_clean limits ts w ≡ true) × Known (names_over (events_of ts) names) (run limits ts w)
turns_carry limits [] names w known keeps made = (refl, known)
turns_carry limits (t ∷ ts) names w known keeps made =
    let both = both_true (keeps_clean names t.event) (carries_over (named_after t.event names) (events_of ts)) keeps in
    let rest = turns_carry limits ts (named_after t.event names) (turned limits t w) (step_known (setting limits t) t.event names w known) both.1 (nobody_first (events_of ts) (turned limits t w) made.1) in
    (and_true (begins_clean t.event w) (are_beginnings_clean limits ts (turned limits t w)) (event_carries t.event names w known both.0 made.0) rest.0, rest.1)

-- two runs of clean beginnings, one behind the other, are one
pub carry_joined : (limits : Capacity) (xs ys : List Turn) (w : World) → are_beginnings_clean limits xs w ≡ true → are_beginnings_clean limits ys (run limits xs w) ≡ true
    → are_beginnings_clean limits (xs ++ ys) w ≡ true
carry_joined limits [] ys w h k = k
carry_joined limits (t ∷ xs) ys w h k =
    let both = both_true (begins_clean t.event w) (are_beginnings_clean limits xs (turned limits t w)) h in
    and_true (begins_clean t.event w) (are_beginnings_clean limits (xs ++ ys) (turned limits t w)) both.0 (carry_joined limits xs ys (turned limits t w) both.1 k)

-- ---- what an event comes to

record Comes (names : List (List ℕ)) (e : Event) (es : List Event) : Type 0 where
  keeps : carries_over names es ≡ true
  named : names_over es names ≡ named_after e names
  makes : (w : World) → IsMadeAnew e w → MakesFirst es w

alone : (names : List (List ℕ)) (e : Event) (es : List Event) → keeps_clean names e ≡ true → es ≡ e ∷ [] → Comes names e es
alone names e es keeps is = subst (Comes names e) (sym is) (record { keeps = and_true (keeps_clean names e) true keeps refl; named = refl; makes = λ w made. (made, tt) })

pieces_make : (name : List ℕ) (pieces : List (List ℕ)) → AllByRecursion MakesNobody (map (come_in name) pieces)
pieces_make name [] = tt
pieces_make name (piece ∷ pieces) = ((λ w. tt), pieces_make name pieces)

pieces_come : (names : List (List ℕ)) (name bytes : List ℕ) (pieces : List (List ℕ)) → Comes names (ask (stranger name bytes)) (map (come_in name) pieces)
pieces_come names name bytes [] = record { keeps = refl; named = refl; makes = λ w made. tt }
pieces_come names name bytes (piece ∷ pieces) =
    let rest = pieces_come names name bytes pieces in
    record { keeps = rest.keeps; named = rest.named; makes = λ w made. (tt, pieces_make name pieces) }

asking_comes : (names : List (List ℕ)) (a : Asking) (w : World) (es : List Event) → UnrollsAsking a w es → Comes names (ask a) es
asking_comes names (to_broker client) w es is = alone names (ask (to_broker client)) es refl is
asking_comes names (old_to_broker client) w es is = alone names (ask (old_to_broker client)) es refl is
asking_comes names (break client) w es is = alone names (ask (break client)) es refl is
asking_comes names (pump client) w es is = alone names (ask (pump client)) es refl is
asking_comes names tick w es is = alone names (ask tick) es refl is
asking_comes names (stranger name bytes) w es (pieces, joined, cut, is) = subst (Comes names (ask (stranger name bytes))) (sym is) (pieces_come names name bytes pieces)

twice : (names : List (List ℕ)) (a first : Asking) (es : List Event) → es ≡ ask first ∷ restart ∷ [] → Comes names (stop_after a) es
twice names a first es is = subst (Comes names (stop_after a)) (sym is) (record { keeps = refl; named = refl; makes = λ w made. (tt, ((λ v. tt), tt)) })

stop_comes : (names : List (List ℕ)) (a : Asking) (w : World) (es : List Event) → UnrollsStop a w es → Comes names (stop_after a) es
stop_comes names (to_broker client) w es is = twice names (to_broker client) (to_broker client) es is
stop_comes names (old_to_broker client) w es is = twice names (old_to_broker client) (old_to_broker client) es is
stop_comes names (break client) w es is = twice names (break client) (break client) es is
stop_comes names (pump client) w es is = twice names (pump client) (pump client) es is
stop_comes names tick w es is = twice names tick tick es is
stop_comes names (stranger name bytes) w es (part, more, joined, found, none, is) = twice names (stranger name bytes) (stranger name part) es is

event_comes : (names : List (List ℕ)) (e : Event) (w : World) (es : List Event) → keeps_clean names e ≡ true → Unrolls e w es → Comes names e es
event_comes names (publisher client) w es keeps is = alone names (publisher client) es keeps is
event_comes names (receiver client window aliases) w es keeps is = alone names (receiver client window aliases) es keeps is
event_comes names (connect_end client clean) w es keeps is = alone names (connect_end client clean) es keeps is
event_comes names (give_up client) w es keeps is = alone names (give_up client) es keeps is
event_comes names (publish client d) w es keeps is = alone names (publish client d) es keeps is
event_comes names (subscribe client x) w es keeps is = alone names (subscribe client x) es keeps is
event_comes names (to_end client) w es keeps is = alone names (to_end client) es keeps is
event_comes names (clock wait) w es keeps is = alone names (clock wait) es keeps is
event_comes names (ask a) w es keeps is = asking_comes names a w es is
event_comes names restart w es keeps is = alone names restart es keeps is
event_comes names (stop_before a) w es keeps is = alone names (stop_before a) es keeps is
event_comes names (stop_after a) w es keeps is = stop_comes names a w es is

-- ---- a drain: none connects or gives up, and none is made

abbrev NamesNobody : Event → Type 0
NamesNobody e = ((names : List (List ℕ)) → (keeps_clean names e ≡ true) × (named_after e names ≡ names)) × MakesNobody e

nobody_made : (es : List Event) → AllByRecursion NamesNobody es → AllByRecursion MakesNobody es
nobody_made [] h = tt
nobody_made (e ∷ es) h = (h.0.1, nobody_made es h.1)

nobody_named : (es : List Event) → AllByRecursion NamesNobody es → (names : List (List ℕ)) → (carries_over names es ≡ true) × (names_over es names ≡ names)
nobody_named [] h names = (refl, refl)
nobody_named (e ∷ es) h names =
    let one = h.0.0 names in
    let rest = nobody_named es h.1 (named_after e names) in
    (and_true (keeps_clean names e) (carries_over (named_after e names) es) one.0 rest.0, rest.1 ∙ one.1)

so_many : (n : ℕ) (e : Event) → NamesNobody e → AllByRecursion NamesNobody (times n e)
so_many zero e h = tt
so_many (suc n) e h = (h, so_many n e h)

both_named : (xs ys : List Turn) → AllByRecursion NamesNobody (events_of xs) → AllByRecursion NamesNobody (events_of ys) → AllByRecursion NamesNobody (events_of (xs ++ ys))
both_named [] ys h k = k
both_named (t ∷ xs) ys h k = (h.0, both_named xs ys h.1 k)

round_named : (limits : Capacity) (client : List ℕ) (turns : List Turn) (w : World) → AreTurnsOfRound limits client turns w → AllByRecursion NamesNobody (events_of turns)
round_named limits client turns w x =
    let sends : AllByRecursion NamesNobody (events_of x.sends) = subst (AllByRecursion NamesNobody) (sym x.sends_are) (((λ names. (refl, refl)), λ w. tt), tt) in
    let reads : AllByRecursion NamesNobody (events_of x.reads) = subst (AllByRecursion NamesNobody) (sym x.reads_are) (so_many _ (to_end client) ((λ names. (refl, refl)), λ w. tt)) in
    let answers : AllByRecursion NamesNobody (events_of x.answers) = subst (AllByRecursion NamesNobody) (sym x.answers_are) (so_many _ (ask (to_broker client)) ((λ names. (refl, refl)), λ w. tt)) in
    subst (λ (ts : List Turn). AllByRecursion NamesNobody (events_of ts)) (sym x.are) (both_named (x.sends ++ x.reads) x.answers (both_named x.sends x.reads sends reads) answers)

rounds_named : (limits : Capacity) (client : List ℕ) (rounds : ℕ) (turns : List Turn) (w : World) → AreTurnsOfRounds limits client rounds turns w → AllByRecursion NamesNobody (events_of turns)
rounds_named limits client zero turns w h = subst (λ (ts : List Turn). AllByRecursion NamesNobody (events_of ts)) (sym h.1) tt
rounds_named limits client (suc rounds) turns w (on, first, rest, front, others, are) =
    subst (λ (ts : List Turn). AllByRecursion NamesNobody (events_of ts)) (sym are)
    (both_named first rest (round_named limits client first w front) (rounds_named limits client rounds rest (run limits first w) others))

-- ---- the turns of an event

record Carries (limits : Capacity) (e : Line) (es : List Line) (names : List (List ℕ)) (first : List Turn) (w : World) : Type 0 where
  carried : are_beginnings_clean limits first w ≡ true
  known : Known (named_if (event_of e) names) (run limits first w)
  keeps : keep_clean_starts (named_if (event_of e) names) es ≡ true

first_carries : (limits : Capacity) (e : Line) (es : List Line) (names : List (List ℕ)) (first : List Turn) (w : World) → Known names w → keep_clean_starts names (e ∷ es) ≡ true → IsMadeAnewIf (event_of e) w → AreTurnsFor limits e first w → Carries limits e es names first w
first_carries limits e es names first w known keeps made (of_event x at good unrolls) =
    let kept = subst (λ (o : Option Event). (keeps_if names o && keep_clean_starts (named_if o names) es) ≡ true) at keeps in
    let both = both_true (keeps_clean names x) (keep_clean_starts (named_after x names) es) kept in
    let comes = event_comes names x w (events_of first) both.0 unrolls in
    let front = turns_carry limits first names w known comes.keeps (comes.makes w (subst (λ (o : Option Event). IsMadeAnewIf o w) at made)) in
    record {
      carried = front.0;
      known = subst (λ (o : Option Event). Known (named_if o names) (run limits first w)) (sym at) (subst (λ (ns : List (List ℕ)). Known ns (run limits first w)) comes.named front.1);
      keeps = subst (λ (o : Option Event). keep_clean_starts (named_if o names) es ≡ true) (sym at) both.1;
    }
first_carries limits e es names first w known keeps made (of_drain client at drain) =
    let none : event_of e ≡ None = ap event_of at in
    let nobody = rounds_named limits client drain.rounds first w drain.are in
    let still = nobody_named (events_of first) nobody names in
    let front = turns_carry limits first names w known still.0 (nobody_first (events_of first) w (nobody_made (events_of first) nobody)) in
    record {
      carried = front.0;
      known = subst (λ (o : Option Event). Known (named_if o names) (run limits first w)) (sym none) (subst (λ (ns : List (List ℕ)). Known ns (run limits first w)) still.1 front.1);
      keeps = subst (λ (o : Option Event). keep_clean_starts (named_if o names) es ≡ true) (sym none) (subst (λ (o : Option Event). (keeps_if names o && keep_clean_starts (named_if o names) es) ≡ true) none keeps);
    }

-- ---- a script

script_carries : (limits : Capacity) (es : List Line) (names : List (List ℕ)) (turns : List Turn) (w : World) → Known names w → keep_clean_starts names es ≡ true → AreMadeAnew limits es w
    → AreTurnsOf limits es turns w → are_beginnings_clean limits turns w ≡ true
script_carries limits [] names turns w known keeps made are = ap (λ (ts : List Turn). are_beginnings_clean limits ts w) are
script_carries limits (e ∷ es) names turns w known keeps made (first, rest, are, joined, more) =
    let front = first_carries limits e es names first w known keeps made.0 are in
    ap (λ (ts : List Turn). are_beginnings_clean limits ts w) joined
    ∙ carry_joined limits first rest w front.carried (script_carries limits es (named_if (event_of e) names) rest (run limits first w) front.known front.keeps (made.1 first are) more)

nobody_known : (names : List (List ℕ)) (w : World) → w.publishers ≡ [] → w.receivers ≡ [] → Known names w
nobody_known names w none nobody = record {
  publishers = subst (AllByRecursion (λ (p : Publisher). p.line.clean ≡ true → is_named p.client names ≡ true)) (sym none) tt;
  receivers = subst (AllByRecursion (λ (r : Receiver). r.line.clean ≡ true → is_named r.client names ≡ true)) (sym nobody) tt;
}

-- whatever turns its events come to, that spend no number, they are as is asked of every run
pub turns_fair : (limits : Capacity) (es : List Line) (turns : List Turn) (w : World) → AreWithin limits → IsUntouched limits w → BeginClean limits es w
    → AreTurnsOf limits es turns w → run_spends limits turns w ≡ false → IsFair limits turns w
turns_fair limits es turns w within untouched clean are unspent =
    let known = nobody_known [] w untouched.new.publishers untouched.new.receivers in
    record { within = within; unspent = unspent; clean = script_carries limits es [] turns w known clean.starts clean.made are }

-- so it comes fairly to where it comes
pub script_fair : (limits : Capacity) (es : List Line) (tells : List Telling) (w after : World) → AreWithin limits → IsUntouched limits w → BeginClean limits es w → RunsTo limits es tells w after
    → ComesFairly limits es w after
script_fair limits es tells w after within untouched clean runs =
    let by : IsRunOf limits es w after = runs_by_turns limits es tells w after runs in
    record { turns = by.turns; are = by.are; fair = turns_fair limits es by.turns w within untouched clean by.are by.unspent; is = by.is }

-- ---- strangers

run_alike : (limits : Capacity) (ts : List Turn) (w : World) → AreAllAlike w → AreAllAlike (run limits ts w)
run_alike limits [] w alike = alike
run_alike limits (t ∷ ts) w alike = run_alike limits ts (turned limits t w) (step_alike (setting limits t) t.event w alike)

run_waits : (limits : Capacity) (ts : List Turn) (w : World) → AreAllAlike w → HoldNoPacket w → HoldNoPacket (run limits ts w)
run_waits limits [] w alike waits = waits
run_waits limits (t ∷ ts) w alike waits =
    run_waits limits ts (turned limits t w) (step_alike (setting limits t) t.event w alike) (step_waits (setting limits t) t.event w alike waits)

-- a script leaves strangers of one name holding the same
pub script_alike : (limits : Capacity) (es : List Line) (tells : List Telling) (w after : World) → RunsTo limits es tells w after → AreAllAlike w → AreAllAlike after
script_alike limits es tells w after runs alike =
    let by : IsRunOf limits es w after = runs_by_turns limits es tells w after runs in
    subst AreAllAlike (sym by.is) (run_alike limits by.turns w alike)

-- and none with a whole packet
pub script_waits : (limits : Capacity) (es : List Line) (tells : List Telling) (w after : World) → RunsTo limits es tells w after → AreAllAlike w → HoldNoPacket w → HoldNoPacket after
script_waits limits es tells w after runs alike waits =
    let by : IsRunOf limits es w after = runs_by_turns limits es tells w after runs in
    subst HoldNoPacket (sym by.is) (run_waits limits by.turns w alike waits)
