-- Each PUBLISH under way to a receiver carries what its copy does, in every run of the receiver's hop (MQTT 5.0, 3.3, 4.3).
use Rattle.std.proofs.Common.{◌≡◌, ℕ, zero, suc, ◌+◌, Bool, true, false, cond, List, [], ◌∷◌, ◌++◌, map, Option, Some, None, nat_eq, slice_get, refl, ap, ◌∙◌, arith}
use Rattle.std.specs.Prelude.{⊤, Err, Ok, option_map}
use Rattle.std.specs.List.{AllByRecursion}
use Rattle.std.proofs.lemmas.Option.{slice_get-map}
use Rattle.mqtt_flow.specs.outbound.Outbound.{expired, has_room, pump, resumed_with, way_made}
use Rattle.mqtt_flow.specs.outbound.Outbound as rules
use Rattle.mqtt_flow.specs.outbound.OutboundCourse.{carried_by}
use Rattle.mqtt_flow.specs.outbound.OutboundWorld.{Event, Lot, TopicAndPayload, World, all_packets, body, close, close_old, connects, connects_old, cut, ended_by, enter, enters, expire, give_up, break_line, is_granted, lot_after, lots_after, make_line, old_comes, old_to_broker, packets, past, pump as pumps, queue_of, renewed, replied, replied_old, restart, run, sends, sent_at, standing, step, take_turn, take_turns, to_broker, to_end, told, up_comes}
use Rattle.mqtt_flow.specs.outbound.Queue.{at_place}
use Rattle.mqtt_flow.specs.outbound.Receiver.{Answer, Body, Output, connack, connect, disconnect, down_comes, gives_up, joins, no_connack, puback, pubcomp, publish, pubrec, pubrel, read_connack, read_publish}
use Rattle.mqtt_flow.specs.declared.outbound.entry.Entry.{Entry}
use Rattle.mqtt_flow.specs.declared.outbound.entry.QueueLimits.{QueueLimits}
use Rattle.mqtt_flow.specs.declared.outbound.entry.QueuedCopy.{QueuedCopy}
use Rattle.mqtt_flow.specs.declared.outbound.entry.Turn.{Turn}
use Rattle.mqtt_flow.specs.declared.outbound.entry.Turn.TheVariants as turns
use Rattle.mqtt_flow.specs.inbound.Line.{Link, asked, away, live, sent_on}
use Rattle.mqtt_rules.proofs.step_lemmas.numbers.Copies.{each_append, each_more}

-- what a copy carries
abbrev pub carried_at : List Lot → ℕ → Option Body
carried_at lots n = option_map carried_by (slice_get lots n)

abbrev pub SaysOf : List Lot → Output → Type 0
SaysOf lots (connack present) = ⊤
SaysOf lots no_connack = ⊤
SaysOf lots (publish i n dup b) = carried_at lots n ≡ Some b
SaysOf lots (pubrel i code) = ⊤
SaysOf lots disconnect = ⊤

abbrev pub AllSay : List Lot → List Output → Type 0
AllSay lots ps = AllByRecursion (SaysOf lots) ps

-- ---- copies that carry the same, and some more behind them

abbrev CarryOn : List Lot → List Lot → Type 0
CarryOn xs ys = (n : ℕ) (b : Body) → carried_at xs n ≡ Some b → carried_at ys n ≡ Some b

say_on : (xs ys : List Lot) (ps : List Output) → CarryOn xs ys → AllSay xs ps → AllSay ys ps
say_on xs ys ps same h = each_more (SaysOf xs) (SaysOf ys) one ps h
  where
    one : (p : Output) → SaysOf xs p → SaysOf ys p
    one (connack present) q = tt
    one no_connack q = tt
    one (publish i n dup b) q = same n b q
    one (pubrel i code) q = tt
    one disconnect q = tt

mapped_on : (f : Lot → Lot) (xs : List Lot) → ((l : Lot) → carried_by (f l) ≡ carried_by l) → CarryOn xs (map f xs)
mapped_on f xs same n b e = ap (option_map carried_by) (slice_get-map f xs n) ∙ by (slice_get xs n) e
  where
    by : (o : Option Lot) → option_map carried_by o ≡ Some b → option_map carried_by (option_map f o) ≡ Some b
    by None q = q
    by (Some l) q = ap Some (same l) ∙ q

appended_on : (xs ys : List Lot) → CarryOn xs (xs ++ ys)
appended_on [] ys n b e = absurd cc
appended_on (x ∷ xs) ys zero b e = e
appended_on (x ∷ xs) ys (suc n) b e = appended_on xs ys n b e

at_body : (place : ℕ) (f e : Entry) (m : TopicAndPayload) → f.copy ≡ e.copy → body (at_place place f e) m ≡ body e m
at_body place f e m same = by (nat_eq e.place place)
  where
    by : (t : Bool) → body (cond t f e) m ≡ body e m
    by true = ap (λ (c : QueuedCopy). body (record e { copy = c }) m) same
    by false = refl

turn_body : (t : Turn) (l : Lot) → carried_by (lot_after t l) ≡ carried_by l
turn_body t (past ending e m) = refl
turn_body (turns.Send place i) (standing e m) = at_body place _ e m refl
turn_body (turns.Resend place i) (standing e m) = at_body place _ e m refl
turn_body (turns.Release place i order) (standing e m) = at_body place _ e m refl
turn_body (turns.Outgrow place i order) (standing e m) = at_body place _ e m refl
turn_body (turns.Repeat i) (standing e m) = refl
turn_body (turns.Unknown i) (standing e m) = refl
turn_body (turns.Leave place ending) (standing e m) = by (nat_eq e.place place)
  where
    by : (t : Bool) → carried_by (ended_by t ending e m) ≡ body e m
    by true = refl
    by false = refl

cut_body : (l : Lot) → carried_by (cut l) ≡ carried_by l
cut_body (standing e m) = refl
cut_body (past ending e m) = refl

renewed_body : (l : Lot) → carried_by (renewed l) ≡ carried_by l
renewed_body (standing e m) = refl
renewed_body (past ending e m) = refl

-- ---- what a turn puts out

say_from : (dup : Bool) (i place k : ℕ) (ls all : List Lot) → ((j : ℕ) → slice_get all (j + k) ≡ slice_get ls j) → AllSay all (sends dup i place k ls)
say_from dup i place k [] all h = tt
say_from dup i place k (standing e m ∷ ls) all h =
    by (nat_eq e.place place) (say_from dup i place (suc k) ls all (λ j. let up : j + suc k ≡ suc j + k = omega arith in ap (slice_get all) up ∙ h (suc j)))
  where
    by : (t : Bool) → AllSay all (sends dup i place (suc k) ls) → AllSay all (sent_at t (publish i k dup (body e m)) (sends dup i place (suc k) ls))
    by true rest = let same : k ≡ 0 + k = omega arith in (ap (carried_at all) same ∙ ap (option_map carried_by) (h 0), tt)
    by false rest = rest
say_from dup i place k (past ending e m ∷ ls) all h = say_from dup i place (suc k) ls all (λ j. let up : j + suc k ≡ suc j + k = omega arith in ap (slice_get all) up ∙ h (suc j))

behind_none : (all : List Lot) (j : ℕ) → slice_get all (j + 0) ≡ slice_get all j
behind_none all j = let same : j + 0 ≡ j = omega arith in ap (slice_get all) same

turn_says : (t : Turn) (lots : List Lot) → AllSay lots (packets t lots)
turn_says (turns.Send place i) lots = say_from false i place 0 lots lots (behind_none lots)
turn_says (turns.Resend place i) lots = say_from true i place 0 lots lots (behind_none lots)
turn_says (turns.Release place i order) lots = (tt, tt)
turn_says (turns.Outgrow place i order) lots = (tt, tt)
turn_says (turns.Repeat i) lots = (tt, tt)
turn_says (turns.Unknown i) lots = (tt, tt)
turn_says (turns.Leave place ending) lots = tt

turns_say : (ts : List Turn) (lots : List Lot) → AllSay lots (all_packets ts lots)
turns_say [] lots = tt
turns_say (t ∷ ts) lots = each_append (SaysOf lots) (packets t lots) (all_packets ts lots) (turn_says t lots) (turns_say ts lots)

-- ---- the hop

abbrev pub WaySays : World → Type 0
WaySays w = AllSay w.copies w.down

sent_say : (t : Bool) (lots : List Lot) (xs ys : List Output) → AllSay lots xs → AllSay lots ys → AllSay lots (sent_on t xs ys)
sent_say true lots xs ys p q = each_append (SaysOf lots) xs ys p q
sent_say false lots xs ys p q = p

told_says : (ps : List Output) (w : World) → AllSay w.copies ps → WaySays w → WaySays (told ps w)
told_says [] w q h = h
told_says (p ∷ ps) w q h = sent_say w.linked w.copies w.down (p ∷ ps) h q

moved : (t : Turn) (lots : List Lot) (ps : List Output) → AllSay lots ps → AllSay (lots_after t lots) ps
moved t lots ps h = say_on lots (lots_after t lots) ps (mapped_on (lot_after t) lots (turn_body t)) h

takes : (t : Turn) (w : World) → WaySays w → WaySays (take_turn t w)
takes t w h = told_says (packets t w.copies) (record w { copies = lots_after t w.copies }) (moved t w.copies (packets t w.copies) (turn_says t w.copies)) (moved t w.copies w.down h)

takes_all : (ts : List Turn) (w : World) → WaySays w → WaySays (take_turns ts w)
takes_all [] w h = h
takes_all (t ∷ ts) w h = takes_all ts (take_turn t w) (takes t w h)

enters_say : (stands granted room : Bool) (limits : QueueLimits) (since : ℕ) (copy : QueuedCopy) (m : TopicAndPayload) (w : World) → WaySays w → WaySays (enters stands granted room limits since copy m w)
enters_say false granted room limits since copy m w h = h
enters_say true false room limits since copy m w h = h
enters_say true true false limits since copy m w h = h
enters_say true true true limits since copy m w h =
    let v = take_turns (way_made limits since (queue_of w.copies)) w in
    say_on v.copies (v.copies ++ _ ∷ []) v.down (appended_on v.copies (_ ∷ [])) (takes_all (way_made limits since (queue_of w.copies)) w h)

cut_say : (lots : List Lot) (ps : List Output) → AllSay lots ps → AllSay (map cut lots) ps
cut_say lots ps h = say_on lots (map cut lots) ps (mapped_on cut lots cut_body) h

renewed_say : (lots : List Lot) (ps : List Output) → AllSay lots ps → AllSay (map renewed lots) ps
renewed_say lots ps h = say_on lots (map renewed lots) ps (mapped_on renewed lots renewed_body) h

connects_say : (stands clean refuse : Bool) (rest : List Answer) (w : World) → WaySays w → WaySays (connects stands clean refuse rest w)
connects_say false clean true rest w h = each_append (SaysOf w.copies) w.down (no_connack ∷ []) h (tt, tt)
connects_say false clean false rest w h = each_append (SaysOf (map cut w.copies)) w.down (connack false ∷ []) (cut_say w.copies w.down h) (tt, tt)
connects_say true true refuse rest w h = each_append (SaysOf (map cut w.copies)) w.down (connack false ∷ []) (cut_say w.copies w.down h) (tt, tt)
connects_say true false refuse rest w h =
    let more = connack true ∷ all_packets (resumed_with (queue_of w.copies)) w.copies in
    renewed_say w.copies (w.down ++ more) (each_append (SaysOf w.copies) w.down more h (tt, turns_say (resumed_with (queue_of w.copies)) w.copies))

connects_old_say : (stands clean refuse : Bool) (rest : List Answer) (w : World) → WaySays w → WaySays (connects_old stands clean refuse rest w)
connects_old_say false clean true rest w h = h
connects_old_say false clean false rest w h = cut_say w.copies w.down h
connects_old_say true true refuse rest w h = sent_say w.linked (map cut w.copies) w.down (disconnect ∷ []) (cut_say w.copies w.down h) (tt, tt)
connects_old_say true false refuse rest w h = sent_say w.linked (map renewed w.copies) w.down (disconnect ∷ []) (renewed_say w.copies w.down h) (tt, tt)

replied_says : (a : rules.Answer) (rest : List Answer) (w : World) → WaySays w → WaySays (replied a rest w)
replied_says (Err fault) rest w h = sent_say w.linked w.copies w.down (disconnect ∷ []) h (tt, tt)
replied_says (Ok None) rest w h = h
replied_says (Ok (Some t)) rest w h = takes t (record w { up = rest }) h

replied_old_says : (a : rules.Answer) (rest : List Answer) (w : World) → WaySays w → WaySays (replied_old a rest w)
replied_old_says (Err fault) rest w h = h
replied_old_says (Ok None) rest w h = h
replied_old_says (Ok (Some t)) rest w h = moved t w.copies w.down h

up_says : (refuse : Bool) (up : List Answer) (w : World) → WaySays w → WaySays (up_comes refuse up w)
up_says refuse [] w h = h
up_says refuse (connect clean ∷ rest) w h = connects_say w.stands clean refuse rest w h
up_says refuse (puback i code ∷ rest) w h = replied_says (rules.puback i code (queue_of w.copies)) rest w h
up_says refuse (pubrec i code ∷ rest) w h = replied_says (rules.pubrec i code (queue_of w.copies)) rest w h
up_says refuse (pubcomp i code ∷ rest) w h = replied_says (rules.pubcomp i (queue_of w.copies)) rest w h

old_says : (refuse : Bool) (old : List Answer) (w : World) → WaySays w → WaySays (old_comes refuse old w)
old_says refuse [] w h = h
old_says refuse (connect clean ∷ rest) w h = connects_old_say w.stands clean refuse rest w h
old_says refuse (puback i code ∷ rest) w h = replied_old_says (rules.puback i code (queue_of w.copies)) rest w h
old_says refuse (pubrec i code ∷ rest) w h = replied_old_says (rules.pubrec i code (queue_of w.copies)) rest w h
old_says refuse (pubcomp i code ∷ rest) w h = replied_old_says (rules.pubcomp i (queue_of w.copies)) rest w h

down_says : (down : List Output) (w : World) → AllSay w.copies down → WaySays w → WaySays (down_comes down w)
down_says [] w q h = h
down_says (connack present ∷ rest) w q h = by w.link
  where
    by : (l : Link) → WaySays (read_connack l present rest w)
    by away = q.1
    by asked = q.1
    by live = q.1
down_says (no_connack ∷ rest) w q h = tt
down_says (publish i n dup b ∷ rest) w q h = by b.twice
  where
    by : (t : Bool) → WaySays (read_publish t i n b rest w)
    by true = q.1
    by false = q.1
down_says (pubrel i code ∷ rest) w q h = q.1
down_says (disconnect ∷ rest) w q h = tt

gives_say : (clean : Bool) (l : Link) (w : World) → WaySays w → WaySays (gives_up clean l w)
gives_say true l w h = h
gives_say false away w h = h
gives_say false asked w h = tt
gives_say false live w h = tt

joins_say : (l : Link) (clean : Bool) (w : World) → WaySays w → WaySays (joins l clean w)
joins_say away clean w h = tt
joins_say asked clean w h = h
joins_say live clean w h = h

event_says : (largest : ℕ) (w : World) (x : Event) → WaySays w → WaySays (step largest w x)
event_says largest w (enter limits since copy m) h = enters_say w.stands (is_granted copy.qos) (has_room limits since (queue_of w.copies)) limits since copy m w h
event_says largest w (expire now) h = takes_all (expired now (queue_of w.copies)) w h
event_says largest w (pumps window now) h = takes_all (pump (record { window = window; largest = largest; now = now }) (queue_of w.copies)) w h
event_says largest w (to_broker refuse) h = up_says refuse w.up w h
event_says largest w (old_to_broker refuse) h = old_says refuse w.old w h
event_says largest w to_end h = down_says w.down w h h
event_says largest w give_up h = gives_say w.clean w.link w h
event_says largest w break_line h = tt
event_says largest w (make_line clean) h = joins_say w.link clean w h
event_says largest w close h = sent_say w.linked w.copies w.down (disconnect ∷ []) h (tt, tt)
event_says largest w close_old h = h
event_says largest w restart h = tt

-- in every run of the hop packets say what their copies do
pub run_says : (largest : ℕ) (events : List Event) (w : World) → WaySays w → WaySays (run largest events w)
run_says largest [] w h = h
run_says largest (x ∷ events) w h = run_says largest events (step largest w x) (event_says largest w x h)
