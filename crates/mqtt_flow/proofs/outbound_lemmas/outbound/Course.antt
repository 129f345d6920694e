-- Each copy goes on as it may, and the ledger has what the copies carry.
use Rattle.std.proofs.Common.{◌≡◌, ℕ, zero, suc, Bool, true, false, List, [], ◌∷◌, ◌++◌, map, nat_lt, if◌then◌else◌, refl, sym, ap, ◌∙◌, subst, Option, Some, None, slice_get, option_map}
use Rattle.std.proofs.lemmas.Option.{slice_get-map}
use Rattle.mqtt_base.specs.declared.Ending.{Ending}
use Rattle.mqtt_base.specs.declared.Ending.TheVariants.{Taken, Refused, Expired, TooLarge, SessionEnded, Dropped}
use Rattle.mqtt_flow.specs.inbound.Line.{Link, away, asked, live}
use Rattle.mqtt_flow.specs.outbound.Receiver.{Body, Output, Answer, connect, puback, pubrec, pubcomp, read_publish, read_connack, down_comes, gives_up, joins}
use Rattle.mqtt_flow.proofs.outbound_lemmas.outbound.Lives.{Mark, sent, released, Life, waiting, in_flight, ended, body_of, pids, find, pumped, anew, cut, Lapse, lapse_at, cause, Turn, stay, over, turned, answered, on_puback, on_pubrec, on_pubcomp, Reply, wrong, says, puback_reply, pubrec_reply, pubcomp_reply}
use Rattle.mqtt_flow.proofs.outbound_lemmas.outbound.LivesWorld.{World, Event, enter, finish, pump, to_broker, old_to_broker, to_end, give_up, break_line, make_line, close, close_old, restart, enters_in, pump_one, unused_of, connects, connects_old, replied, replied_old, up_comes, old_comes, step, run}
use Rattle.mqtt_flow.specs.outbound.Receiver as q
use Rattle.mqtt_flow.proofs.outbound_lemmas.outbound.LivesCourse.{Of_sent, Of_taken, Of_large, Of_released, Next, Goes_on}
use Rattle.mqtt_flow.proofs.outbound_lemmas.outbound.Sends.{get_lapse, get_pumped}
use Rattle.mqtt_flow.proofs.outbound_lemmas.outbound.Steps.{get_answered}

next_same : (f : Life) → Next f f
next_same (waiting b) = refl
next_same (in_flight i (sent h) b) = refl
next_same (in_flight i (released h t) b) = (refl, refl)
next_same (ended e b) = refl

-- a copy may go on as it is
pub same : (f : Option Life) → Goes_on f f
same None = tt
same (Some f) = next_same f

-- a copy keeps what it carries
pub next_body : (f g : Life) → Next f g → body_of g ≡ body_of f
next_body (waiting b) g h = h
next_body (in_flight i (sent x) b) (waiting c) h = absurd h
next_body (in_flight i (sent x) b) (in_flight j p c) h = h
next_body (in_flight i (sent x) b) (ended e c) h = h.1
next_body (in_flight i (released x t) b) (waiting c) h = absurd h
next_body (in_flight i (released x t) b) (in_flight j (sent y) c) h = absurd h
next_body (in_flight i (released x t) b) (in_flight j (released y u) c) h = h.1
next_body (in_flight i (released x t) b) (ended e c) h = h.1
next_body (ended e b) g h = ap body_of h

-- a released copy was sent
taken_sent : (e : Ending) → Of_taken e → Of_sent e
taken_sent Taken h = tt
taken_sent Refused h = tt
taken_sent Expired h = absurd h
taken_sent TooLarge h = tt
taken_sent SessionEnded h = tt
taken_sent Dropped h = absurd h

large_sent : (e : Ending) → Of_large e → Of_sent e
large_sent Taken h = tt
large_sent Refused h = tt
large_sent Expired h = absurd h
large_sent TooLarge h = tt
large_sent SessionEnded h = tt
large_sent Dropped h = absurd h

released_sent : (t : Bool) (e : Ending) → Of_released t e → Of_sent e
released_sent true e h = taken_sent e h
released_sent false e h = large_sent e h

released_cut : (t : Bool) → Of_released t SessionEnded
released_cut true = tt
released_cut false = tt

next_next : (f g k : Life) → Next f g → Next g k → Next f k
next_next (waiting b) g k x y = next_body g k y ∙ x
next_next (in_flight i (sent h) b) (waiting c) k x y = absurd x
next_next (in_flight i (sent h) b) (in_flight j (sent p) c) (waiting d) x y = absurd y
next_next (in_flight i (sent h) b) (in_flight j (sent p) c) (in_flight l r d) x y = y ∙ x
next_next (in_flight i (sent h) b) (in_flight j (sent p) c) (ended e d) x y = (y.0, y.1 ∙ x)
next_next (in_flight i (sent h) b) (in_flight j (released p t) c) (waiting d) x y = absurd y
next_next (in_flight i (sent h) b) (in_flight j (released p t) c) (in_flight l (sent r) d) x y = absurd y
next_next (in_flight i (sent h) b) (in_flight j (released p t) c) (in_flight l (released r u) d) x y = y.1 ∙ x
next_next (in_flight i (sent h) b) (in_flight j (released p t) c) (ended e d) x y = (released_sent t e y.0, y.1 ∙ x)
next_next (in_flight i (sent h) b) (ended e c) k x y = subst (Next (in_flight i (sent h) b)) (sym y) x
next_next (in_flight i (released h t) b) (waiting c) k x y = absurd x
next_next (in_flight i (released h t) b) (in_flight j (sent p) c) k x y = absurd x
next_next (in_flight i (released h t) b) (in_flight j (released p u) c) (waiting d) x y = absurd y
next_next (in_flight i (released h t) b) (in_flight j (released p u) c) (in_flight l (sent r) d) x y = absurd y
next_next (in_flight i (released h t) b) (in_flight j (released p u) c) (in_flight l (released r v) d) x y = (y.0 ∙ x.0, y.1 ∙ x.1)
next_next (in_flight i (released h t) b) (in_flight j (released p u) c) (ended e d) x y = (subst (λ v. Of_released v e) x.0 y.0, y.1 ∙ x.1)
next_next (in_flight i (released h t) b) (ended e c) k x y = subst (Next (in_flight i (released h t) b)) (sym y) x
next_next (ended e b) g k x y = let z : Next (ended e b) k = subst (λ g. Next g k) x y in z

-- a copy that may go on to a state, and from there to another, may go on to that
pub trans : (f g k : Option Life) → Goes_on f g → Goes_on g k → Goes_on f k
trans None g k x y = tt
trans (Some f) None k x y = absurd x
trans (Some f) (Some g) None x y = absurd y
trans (Some f) (Some g) (Some k) x y = next_next f g k x y

-- the steps of a copy
on_anew : (f : Option Life) → Goes_on f (option_map anew f)
on_anew None = tt
on_anew (Some (waiting b)) = refl
on_anew (Some (in_flight i (sent h) b)) = refl
on_anew (Some (in_flight i (released h t) b)) = (refl, refl)
on_anew (Some (ended e b)) = refl

on_cut : (f : Option Life) → Goes_on f (option_map cut f)
on_cut None = tt
on_cut (Some (waiting b)) = refl
on_cut (Some (in_flight i (sent h) b)) = (tt, refl)
on_cut (Some (in_flight i (released h t) b)) = (released_cut t, refl)
on_cut (Some (ended e b)) = refl

abbrev Fair : Mark → Turn → Type 0
Fair (sent h) (stay m) = Unit {0}
Fair (sent h) (over e) = Of_sent e
Fair (released h t) (stay (sent k)) = ⊥
Fair (released h t) (stay (released k u)) = u ≡ t
Fair (released h t) (over e) = Of_released t e

on_turn : (i : ℕ) (m : Mark) (b : Body) (t : Turn) → Fair m t → Next (in_flight i m b) (turned i t b)
on_turn i (sent y) b (stay x) h = refl
on_turn i (sent y) b (over e) h = (h, refl)
on_turn i (released y t) b (stay (sent k)) h = absurd h
on_turn i (released y t) b (stay (released k u)) h = (h, refl)
on_turn i (released y t) b (over e) h = (h, refl)

on_answer : (i : ℕ) (g : Mark → Body → Turn) → ((m : Mark) (b : Body) → Fair m (g m b)) → (f : Option Life) → Goes_on f (option_map (answered i g) f)
on_answer i g fair f = get_answered (Goes_on f) i g f (λ j m b e s p. trans f (Some (in_flight j m b)) (Some (turned j (g m b) b)) p (on_turn j m b (g m b) (fair m b))) (same f)

if_fair : (m : Mark) (c : Bool) (s t : Turn) → Fair m s → Fair m t → Fair m (if c then s else t)
if_fair m true s t x y = x
if_fair m false s t x y = y

fair_end : (c : Bool) (d e : Ending) → Of_sent d → Of_sent e → Of_sent (if c then d else e)
fair_end true d e x y = x
fair_end false d e x y = y

fair_puback : (code : ℕ) (m : Mark) (b : Body) → Fair m (on_puback code m b)
fair_puback code (sent h) b = if_fair (sent h) b.twice (stay (sent h)) (over (if nat_lt code 128 then Taken else Refused)) tt (fair_end (nat_lt code 128) Taken Refused tt tt)
fair_puback code (released h t) b = refl

fair_pubrec : (code : ℕ) (m : Mark) (b : Body) → Fair m (on_pubrec code m b)
fair_pubrec code (sent h) b = if_fair (sent h) b.twice (if nat_lt code 128 then stay (released h true) else over Refused) (stay (sent h)) (if_fair (sent h) (nat_lt code 128) (stay (released h true)) (over Refused) tt tt) tt
fair_pubrec code (released h t) b = refl

fair_pubcomp : (m : Mark) (b : Body) → Fair m (on_pubcomp m b)
fair_pubcomp (sent h) b = tt
fair_pubcomp (released h true) b = tt
fair_pubcomp (released h false) b = tt

-- the steps of all
abbrev Onward : List Life → List Life → Type 0
Onward fs gs = (n : ℕ) → Goes_on (slice_get fs n) (slice_get gs n)

stays : (fs : List Life) → Onward fs fs
stays fs n = same (slice_get fs n)

mapped : (g : Life → Life) (fs : List Life) → ((f : Option Life) → Goes_on f (option_map g f)) → Onward fs (map g fs)
mapped g fs h n = rw slice_get-map (h (slice_get fs n))

pushed : (b : Body) (fs : List Life) → Onward fs (fs ++ waiting b ∷ [])
pushed b [] n = tt
pushed b (f ∷ fs) zero = next_same f
pushed b (f ∷ fs) (suc n) = pushed b fs n

lapses : (l : Lapse) (k : ℕ) (fs : List Life) → Onward fs (lapse_at l k fs)
lapses l k fs n = get_lapse (Goes_on (slice_get fs n)) l k fs n (λ b p. trans (slice_get fs n) (Some (waiting b)) (Some (ended (cause l) b)) p refl) (same (slice_get fs n))

pumps_on : (i : ℕ) (fs : List Life) → Onward fs (pumped i fs)
pumps_on i fs n = get_pumped (Goes_on (slice_get fs n)) i fs n
    (λ b p. trans (slice_get fs n) (Some (waiting b)) (Some (in_flight i (sent true) b)) p refl)
    (λ j b p. trans (slice_get fs n) (Some (in_flight j (sent false) b)) (Some (in_flight j (sent true) b)) p refl)
    (same (slice_get fs n))

pump_all : (i : ℕ) (w : World) → Onward w.copies (pump_one i w).copies
pump_all i w n = pumps_on (unused_of i (pids w.copies)) w.copies n

replying : (r : Reply) (rest : List Answer) (cs : List Life) (w : World) → Onward w.copies cs → Onward w.copies (replied r rest cs w).copies
replying wrong rest cs w h = stays w.copies
replying (says ps) rest cs w h = h

replying_old : (r : Reply) (rest : List Answer) (cs : List Life) (w : World) → Onward w.copies cs → Onward w.copies (replied_old r rest cs w).copies
replying_old wrong rest cs w h = stays w.copies
replying_old (says ps) rest cs w h = h

connecting : (s c r : Bool) (order : List ℕ) (rest : List Answer) (w : World) → Onward w.copies (connects s c r order rest w).copies
connecting false c true order rest w = stays w.copies
connecting false c false order rest w = mapped cut w.copies on_cut
connecting true true r order rest w = mapped cut w.copies on_cut
connecting true false r order rest w = mapped anew w.copies on_anew

connecting_old : (s c r : Bool) (rest : List Answer) (w : World) → Onward w.copies (connects_old s c r rest w).copies
connecting_old false c true rest w = stays w.copies
connecting_old false c false rest w = mapped cut w.copies on_cut
connecting_old true true r rest w = mapped cut w.copies on_cut
connecting_old true false r rest w = mapped anew w.copies on_anew

ups_on : (r : Bool) (order : List ℕ) (up : List Answer) (w : World) → Onward w.copies (up_comes r order up w).copies
ups_on r order [] w = stays w.copies
ups_on r order (connect c ∷ rest) w = connecting w.stands c r order rest w
ups_on r order (puback i code ∷ rest) w = replying (puback_reply (find i w.copies)) rest _ w (mapped (answered i (on_puback code)) w.copies (on_answer i (on_puback code) (fair_puback code)))
ups_on r order (pubrec i code ∷ rest) w = replying (pubrec_reply i code (find i w.copies)) rest _ w (mapped (answered i (on_pubrec code)) w.copies (on_answer i (on_pubrec code) (fair_pubrec code)))
ups_on r order (pubcomp i code ∷ rest) w = replying (pubcomp_reply (find i w.copies)) rest _ w (mapped (answered i on_pubcomp) w.copies (on_answer i on_pubcomp fair_pubcomp))

olds_on : (r : Bool) (old : List Answer) (w : World) → Onward w.copies (old_comes r old w).copies
olds_on r [] w = stays w.copies
olds_on r (connect c ∷ rest) w = connecting_old w.stands c r rest w
olds_on r (puback i code ∷ rest) w = replying_old (puback_reply (find i w.copies)) rest _ w (mapped (answered i (on_puback code)) w.copies (on_answer i (on_puback code) (fair_puback code)))
olds_on r (pubrec i code ∷ rest) w = replying_old (pubrec_reply i code (find i w.copies)) rest _ w (mapped (answered i (on_pubrec code)) w.copies (on_answer i (on_pubrec code) (fair_pubrec code)))
olds_on r (pubcomp i code ∷ rest) w = replying_old (pubcomp_reply (find i w.copies)) rest _ w (mapped (answered i on_pubcomp) w.copies (on_answer i on_pubcomp fair_pubcomp))

publish_on : (t : Bool) (i n : ℕ) (b : Body) (rest : List Output) (w : World) → Onward w.copies (read_publish t i n b rest w).copies
publish_on true i n b rest w = stays w.copies
publish_on false i n b rest w = stays w.copies

connack_on : (l : Link) (p : Bool) (rest : List Output) (w : World) → Onward w.copies (read_connack l p rest w).copies
connack_on away p rest w = stays w.copies
connack_on asked p rest w = stays w.copies
connack_on live p rest w = stays w.copies

downs_on : (down : List Output) (w : World) → Onward w.copies (down_comes down w).copies
downs_on [] w = stays w.copies
downs_on (q.connack p ∷ rest) w = connack_on w.link p rest w
downs_on (q.no_connack ∷ rest) w = stays w.copies
downs_on (q.publish i n dup b ∷ rest) w = publish_on b.twice i n b rest w
downs_on (q.pubrel i code ∷ rest) w = stays w.copies
downs_on (q.disconnect ∷ rest) w = stays w.copies

enter_on : (s : Bool) (b : Body) (w : World) → Onward w.copies (enters_in s b w).copies
enter_on true b w = pushed b w.copies
enter_on false b w = stays w.copies

gives_on : (c : Bool) (l : Link) (w : World) → Onward w.copies (gives_up c l w).copies
gives_on true l w = stays w.copies
gives_on false away w = stays w.copies
gives_on false asked w = stays w.copies
gives_on false live w = stays w.copies

joins_on : (l : Link) (c : Bool) (w : World) → Onward w.copies (joins l c w).copies
joins_on away c w = stays w.copies
joins_on asked c w = stays w.copies
joins_on live c w = stays w.copies

-- in each event each copy goes on as it may
pub step_on : (w : World) (e : Event) → Onward w.copies (step w e).copies
step_on w (enter b) = enter_on w.stands b w
step_on w (finish l n) = lapses l n w.copies
step_on w (pump k) = pump_all k w
step_on w (to_broker r order) = ups_on r order w.up w
step_on w (old_to_broker r) = olds_on r w.old w
step_on w to_end = downs_on w.down w
step_on w give_up = gives_on w.clean w.link w
step_on w break_line = stays w.copies
step_on w (make_line c) = joins_on w.link c w
step_on w close = stays w.copies
step_on w close_old = stays w.copies
step_on w restart = mapped anew w.copies on_anew

-- in a run each copy goes on as it may
pub run_on : (es : List Event) (w : World) → Onward w.copies (run es w).copies
run_on [] w n = same (slice_get w.copies n)
run_on (e ∷ es) w n = trans (slice_get w.copies n) (slice_get (step w e).copies n) (slice_get (run es (step w e)).copies n) (step_on w e n) (run_on es (step w e) n)
