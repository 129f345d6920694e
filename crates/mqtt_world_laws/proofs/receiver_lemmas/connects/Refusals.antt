-- A receiver's line, in every run of its hop: a CONNACK that refuses comes first and where one is awaited, and no Clean
-- Start is under way once CONNACK was read (MQTT 5.0, 3.1.2.4, 3.2).
use Rattle.std.proofs.Common.{◌≡◌, inl, inr, ℕ, suc, Bool, true, false, List, [], ◌∷◌, ◌++◌, Some, None, nat_eq, refl, sym, ap, subst, ◌∙◌}
use Rattle.std.specs.Prelude.{⊤, Ok, Err}
use Rattle.std.specs.List.{AllByRecursion, list_any}
use Rattle.mqtt_flow.specs.declared.outbound.entry.QueueLimits.{QueueLimits}
use Rattle.mqtt_flow.specs.declared.outbound.entry.QueuedCopy.{QueuedCopy}
use Rattle.mqtt_flow.specs.declared.outbound.entry.Turn.{Turn}
use Rattle.mqtt_flow.specs.declared.outbound.entry.Turn.TheVariants.{Send, Resend, Release, Outgrow, Repeat, Unknown, Leave}
use Rattle.mqtt_flow.specs.outbound.Outbound as rules
use Rattle.mqtt_flow.specs.outbound.Outbound.{expired, has_room, resumed_with, way_made}
use Rattle.mqtt_flow.specs.outbound.OutboundWorld.{Lot, World as Hop, TopicAndPayload, Event, all_packets, body, break_line, close, close_old, connects, connects_old, enter, enters, expire, give_up, is_granted, lots_after, make_line, old_comes, old_to_broker, packets, past, pump, queue_of, replied, replied_old, restart, run, sends, sent_at, standing, start, step, take_turn, take_turns, to_broker, to_end, told, up_comes}
use Rattle.mqtt_flow.specs.outbound.Receiver.{Answer, Body, Output, connack, connect, disconnect, down_comes, gives_up, joins, leaves, no_connack, puback, pubcomp, publish, pubrec, pubrel, read_connack, read_publish}
use Rattle.mqtt_flow.proofs.outbound_lemmas.outbound.HopLaw.{good_run}
use Rattle.mqtt_flow.proofs.outbound_lemmas.outbound.SessionLives.{seen}
use Rattle.mqtt_flow.proofs.outbound_lemmas.outbound.Stages.{Blank, Calm, Good, is_asked, is_away, is_connect, is_live, is_read, is_sent, is_shut, no_line, was_shut}
use Rattle.mqtt_flow.specs.inbound.Line.{Link, asked, away, live, sent_on}

-- two runs one behind the other are one
pub run_append : (largest : ℕ) (es fs : List Event) (w : Hop) → run largest (es ++ fs) w ≡ run largest fs (run largest es w)
run_append largest [] fs w = refl
run_append largest (e ∷ es) fs w = run_append largest es fs (step largest w e)

abbrev pub IsNoRefusal : Output → Type 0
IsNoRefusal (connack present) = ⊤
IsNoRefusal no_connack = ⊥
IsNoRefusal (publish i n dup b) = ⊤
IsNoRefusal (pubrel i code) = ⊤
IsNoRefusal disconnect = ⊤

abbrev pub AreNoRefusals : List Output → Type 0
AreNoRefusals ps = AllByRecursion IsNoRefusal ps

abbrev pub tail : List Output → List Output
tail [] = []
tail (p ∷ ps) = ps

-- what is under way behind the CONNACK that is awaited
abbrev pub behind : Link → List Output → List Output
behind away ps = ps
behind asked ps = tail ps
behind live ps = ps

-- a live line waits for no Clean Start, and nothing behind the CONNACK that is awaited refuses
pub record Tame (w : Hop) : Type 0 where
  pub greeted : w.link ≡ live → w.clean ≡ false
  pub plain : AreNoRefusals (behind w.link w.down)

-- ---- packets

no_join : (xs ys : List Output) → AreNoRefusals xs → AreNoRefusals ys → AreNoRefusals (xs ++ ys)
no_join [] ys h g = g
no_join (x ∷ xs) ys h g = (h.0, no_join xs ys h.1 g)

no_tail : (ps : List Output) → AreNoRefusals ps → AreNoRefusals (tail ps)
no_tail [] h = tt
no_tail (p ∷ ps) h = h.1

behind_more : (link : Link) (ds ps : List Output) → AreNoRefusals (behind link ds) → AreNoRefusals ps → AreNoRefusals (behind link (ds ++ ps))
behind_more away ds ps h g = no_join ds ps h g
behind_more live ds ps h g = no_join ds ps h g
behind_more asked [] ps h g = no_tail ps g
behind_more asked (d ∷ ds) ps h g = no_join ds ps h g

behind_sent : (t : Bool) (link : Link) (ds ps : List Output) → AreNoRefusals (behind link ds) → AreNoRefusals ps → AreNoRefusals (behind link (sent_on t ds ps))
behind_sent true link ds ps h g = behind_more link ds ps h g
behind_sent false link ds ps h g = h

behind_rest : (link : Link) (d : Output) (ds : List Output) → AreNoRefusals (behind link (d ∷ ds)) → AreNoRefusals (behind link ds)
behind_rest away d ds h = h.1
behind_rest live d ds h = h.1
behind_rest asked d ds h = no_tail ds h

plain_sends : (dup : Bool) (i place n : ℕ) (lots : List Lot) → AreNoRefusals (sends dup i place n lots)
plain_sends dup i place n [] = tt
plain_sends dup i place n (past ending e m ∷ ls) = plain_sends dup i place (suc n) ls
plain_sends dup i place n (standing e m ∷ ls) = by (nat_eq e.place place) (plain_sends dup i place (suc n) ls)
  where
    by : (z : Bool) → AreNoRefusals (sends dup i place (suc n) ls) → AreNoRefusals (sent_at z (publish i n dup (body e m)) (sends dup i place (suc n) ls))
    by true h = (tt, tt)
    by false h = h

plain_packets : (t : Turn) (lots : List Lot) → AreNoRefusals (packets t lots)
plain_packets (Send place i) lots = plain_sends false i place 0 lots
plain_packets (Resend place i) lots = plain_sends true i place 0 lots
plain_packets (Release place i order) lots = (tt, tt)
plain_packets (Outgrow place i order) lots = (tt, tt)
plain_packets (Repeat i) lots = (tt, tt)
plain_packets (Unknown i) lots = (tt, tt)
plain_packets (Leave place ending) lots = tt

plain_all : (ts : List Turn) (lots : List Lot) → AreNoRefusals (all_packets ts lots)
plain_all [] lots = tt
plain_all (t ∷ ts) lots = no_join (packets t lots) (all_packets ts lots) (plain_packets t lots) (plain_all ts lots)

-- ---- turns

-- the receiver's line stays, and what is under way stays plain
record Keeps (v w : Hop) : Type 0 where
  pub link : w.link ≡ v.link
  pub clean : w.clean ≡ v.clean
  pub plain : AreNoRefusals (behind v.link v.down) → AreNoRefusals (behind w.link w.down)

keeps_then : (u v w : Hop) → Keeps u v → Keeps v w → Keeps u w
keeps_then u v w h g = record { link = g.link ∙ h.link; clean = g.clean ∙ h.clean; plain = λ x. g.plain (h.plain x) }

tame_kept : (v w : Hop) → Keeps v w → Tame v → Tame w
tame_kept v w h t = record { greeted = λ e. h.clean ∙ t.greeted (sym h.link ∙ e); plain = h.plain t.plain }

told_keeps : (ps : List Output) (w : Hop) → AreNoRefusals ps → Keeps w (told ps w)
told_keeps [] w g = record { link = refl; clean = refl; plain = λ x. x }
told_keeps (p ∷ ps) w g = record { link = refl; clean = refl; plain = λ x. behind_sent w.linked w.link w.down (p ∷ ps) x g }

turn_keeps : (t : Turn) (w : Hop) → Keeps w (take_turn t w)
turn_keeps t w =
    let v : Hop = record w { copies = lots_after t w.copies } in
    keeps_then w v (take_turn t w) (record { link = refl; clean = refl; plain = λ x. x }) (told_keeps (packets t w.copies) v (plain_packets t w.copies))

turns_keep : (ts : List Turn) (w : Hop) → Keeps w (take_turns ts w)
turns_keep [] w = record { link = refl; clean = refl; plain = λ x. x }
turns_keep (t ∷ ts) w = keeps_then w (take_turn t w) (take_turns ts (take_turn t w)) (turn_keeps t w) (turns_keep ts (take_turn t w))

enters_keep : (s g room : Bool) (limits : QueueLimits) (since : ℕ) (copy : QueuedCopy) (m : TopicAndPayload) (w : Hop) → Keeps w (enters s g room limits since copy m w)
enters_keep false g room limits since copy m w = record { link = refl; clean = refl; plain = λ x. x }
enters_keep true false room limits since copy m w = record { link = refl; clean = refl; plain = λ x. x }
enters_keep true true false limits since copy m w = record { link = refl; clean = refl; plain = λ x. x }
enters_keep true true true limits since copy m w =
    let k = turns_keep (way_made limits since (queue_of w.copies)) w in
    record { link = k.link; clean = k.clean; plain = k.plain }

-- ---- the broker reads

replied_keeps : (a : rules.Answer) (rest : List Answer) (w : Hop) → Keeps w (replied a rest w)
replied_keeps (Err fault) rest w = record { link = refl; clean = refl; plain = λ x. behind_sent w.linked w.link w.down (disconnect ∷ []) x (tt, tt) }
replied_keeps (Ok None) rest w = record { link = refl; clean = refl; plain = λ x. x }
replied_keeps (Ok (Some t)) rest w =
    let k = turn_keeps t (record w { up = rest }) in
    record { link = k.link; clean = k.clean; plain = k.plain }

replied_old_keeps : (a : rules.Answer) (rest : List Answer) (w : Hop) → Keeps w (replied_old a rest w)
replied_old_keeps (Err fault) rest w = record { link = refl; clean = refl; plain = λ x. x }
replied_old_keeps (Ok None) rest w = record { link = refl; clean = refl; plain = λ x. x }
replied_old_keeps (Ok (Some t)) rest w = record { link = refl; clean = refl; plain = λ x. x }

old_connect_keeps : (s c r : Bool) (rest : List Answer) (w : Hop) → Keeps w (connects_old s c r rest w)
old_connect_keeps false c true rest w = record { link = refl; clean = refl; plain = λ x. x }
old_connect_keeps false c false rest w = record { link = refl; clean = refl; plain = λ x. x }
old_connect_keeps true true r rest w = record { link = refl; clean = refl; plain = λ x. behind_sent w.linked w.link w.down (disconnect ∷ []) x (tt, tt) }
old_connect_keeps true false r rest w = record { link = refl; clean = refl; plain = λ x. behind_sent w.linked w.link w.down (disconnect ∷ []) x (tt, tt) }

old_keeps : (r : Bool) (ps : List Answer) (w : Hop) → Keeps w (old_comes r ps w)
old_keeps r [] w = record { link = refl; clean = refl; plain = λ x. x }
old_keeps r (connect c ∷ rest) w = old_connect_keeps w.stands c r rest w
old_keeps r (puback i code ∷ rest) w = replied_old_keeps (rules.puback i code (queue_of w.copies)) rest w
old_keeps r (pubrec i code ∷ rest) w = replied_old_keeps (rules.pubrec i code (queue_of w.copies)) rest w
old_keeps r (pubcomp i code ∷ rest) w = replied_old_keeps (rules.pubcomp i (queue_of w.copies)) rest w

-- a CONNECT is under way only if its CONNACK is awaited, and nothing is told before that
record IsAwaited (w : Hop) : Type 0 where
  pub link : w.link ≡ asked
  pub none : w.down ≡ []

awaited : (w : Hop) (c : Bool) (rest : List Answer) → Good (seen w) → w.up ≡ connect c ∷ rest → IsAwaited w
awaited w c rest (inl norm) up = by norm.calm
  where
    by : Calm w.link w.linked w.stands w.clean w.up w.down w.old w.kept → IsAwaited w
    by (is_away l none down off) = let clash : connect c ∷ rest ≡ [] = sym up ∙ none in absurd cc
    by (is_sent l it down off) = record { link = l; none = down }
    by (is_shut l none down off) = let clash : connect c ∷ rest ≡ [] = sym up ∙ none in absurd cc
    by (is_read p ps l none down late kept stands) = let clash : connect c ∷ rest ≡ [] = sym up ∙ none in absurd cc
    by (is_live l late on none) = let clash : true ≡ false = sym (ap (list_any is_connect) up) ∙ none in absurd cc
awaited w c rest (inr fresh) up = by fresh.lines
  where
    by : Blank w.link w.linked w.up w.down → IsAwaited w
    by (no_line l none down off) = let clash : connect c ∷ rest ≡ [] = sym up ∙ none in absurd cc
    by (is_asked l it down off) = record { link = l; none = down }
    by (was_shut l none down off) = let clash : connect c ∷ rest ≡ [] = sym up ∙ none in absurd cc

-- what CONNECT makes, with this line and nothing under way
awaits_still : (w v : Hop) (p : Output) (ps : List Output) → IsAwaited w → v.link ≡ w.link → v.down ≡ w.down ++ p ∷ ps → AreNoRefusals ps → Tame v
awaits_still w v p ps h link down g =
    let is : v.link ≡ asked = link ∙ h.link in
    let all : v.down ≡ p ∷ ps = down ∙ ap (λ (ds : List Output). ds ++ p ∷ ps) h.none in
    record {
      greeted = λ e. let clash : asked ≡ live = sym is ∙ e in absurd cc;
      plain = subst (λ (l : Link). AreNoRefusals (behind l v.down)) (sym is) (subst (λ (ds : List Output). AreNoRefusals (tail ds)) (sym all) g);
    }

connect_tame : (s c r : Bool) (rest : List Answer) (w : Hop) → IsAwaited w → Tame (connects s c r rest w)
connect_tame false c true rest w h = awaits_still w (connects false c true rest w) no_connack [] h refl refl tt
connect_tame false c false rest w h = awaits_still w (connects false c false rest w) (connack false) [] h refl refl tt
connect_tame true true r rest w h = awaits_still w (connects true true r rest w) (connack false) [] h refl refl tt
connect_tame true false r rest w h = awaits_still w (connects true false r rest w) (connack true) (all_packets (resumed_with (queue_of w.copies)) w.copies) h refl refl (plain_all (resumed_with (queue_of w.copies)) w.copies)

up_tame : (r : Bool) (ps : List Answer) (w : Hop) → w.up ≡ ps → Good (seen w) → Tame w → Tame (up_comes r ps w)
up_tame r [] w up good h = h
up_tame r (connect c ∷ rest) w up good h = connect_tame w.stands c r rest w (awaited w c rest good up)
up_tame r (puback i code ∷ rest) w up good h = tame_kept w (replied (rules.puback i code (queue_of w.copies)) rest w) (replied_keeps (rules.puback i code (queue_of w.copies)) rest w) h
up_tame r (pubrec i code ∷ rest) w up good h = tame_kept w (replied (rules.pubrec i code (queue_of w.copies)) rest w) (replied_keeps (rules.pubrec i code (queue_of w.copies)) rest w) h
up_tame r (pubcomp i code ∷ rest) w up good h = tame_kept w (replied (rules.pubcomp i (queue_of w.copies)) rest w) (replied_keeps (rules.pubcomp i (queue_of w.copies)) rest w) h

-- ---- the receiver reads, and its lines

off_line : (w : Hop) → w.link ≡ away → w.down ≡ [] → Tame w
off_line w link down = record {
  greeted = λ e. let clash : away ≡ live = sym link ∙ e in absurd cc;
  plain = subst (λ (l : Link). AreNoRefusals (behind l w.down)) (sym link) (subst AreNoRefusals (sym down) tt);
}

connack_tame : (link : Link) (p : Bool) (rest : List Output) (w : Hop) → w.link ≡ link → (w.link ≡ live → w.clean ≡ false) → AreNoRefusals (behind link (connack p ∷ rest)) → Tame (read_connack link p rest w)
connack_tame away p rest w is g h = record { greeted = g; plain = subst (λ (l : Link). AreNoRefusals (behind l rest)) (sym is) h.1 }
connack_tame live p rest w is g h = record { greeted = g; plain = subst (λ (l : Link). AreNoRefusals (behind l rest)) (sym is) h.1 }
connack_tame asked p rest w is g h = record { greeted = λ e. refl; plain = h }

publish_tame : (t : Bool) (i n : ℕ) (b : Body) (rest : List Output) (w : Hop) → (w.link ≡ live → w.clean ≡ false) → AreNoRefusals (behind w.link rest) → Tame (read_publish t i n b rest w)
publish_tame true i n b rest w g h = record { greeted = g; plain = h }
publish_tame false i n b rest w g h = record { greeted = g; plain = h }

down_tame : (ds : List Output) (w : Hop) → w.down ≡ ds → Tame w → Tame (down_comes ds w)
down_tame [] w is t = t
down_tame (connack p ∷ rest) w is t = connack_tame w.link p rest w refl t.greeted (subst (λ (ds : List Output). AreNoRefusals (behind w.link ds)) is t.plain)
down_tame (no_connack ∷ rest) w is t = off_line (leaves (record w { clean = false })) refl refl
down_tame (publish i n dup b ∷ rest) w is t = publish_tame b.twice i n b rest w t.greeted (behind_rest w.link (publish i n dup b) rest (subst (λ (ds : List Output). AreNoRefusals (behind w.link ds)) is t.plain))
down_tame (pubrel i code ∷ rest) w is t = record { greeted = t.greeted; plain = behind_rest w.link (pubrel i code) rest (subst (λ (ds : List Output). AreNoRefusals (behind w.link ds)) is t.plain) }
down_tame (disconnect ∷ rest) w is t = off_line (leaves w) refl refl

give_tame : (c : Bool) (link : Link) (w : Hop) → Tame w → Tame (gives_up c link w)
give_tame true link w t = t
give_tame false away w t = t
give_tame false asked w t = off_line (gives_up false asked w) refl refl
give_tame false live w t = off_line (gives_up false live w) refl refl

join_tame : (link : Link) (c : Bool) (w : Hop) → Tame w → Tame (joins link c w)
join_tame away c w t = record { greeted = λ e. absurd cc; plain = tt }
join_tame asked c w t = t
join_tame live c w t = t

-- ---- every event

step_tame : (largest : ℕ) (e : Event) (w : Hop) → Good (seen w) → Tame w → Tame (step largest w e)
step_tame largest (enter limits since copy m) w good t = tame_kept w (step largest w (enter limits since copy m)) (enters_keep w.stands (is_granted copy.qos) (has_room limits since (queue_of w.copies)) limits since copy m w) t
step_tame largest (expire now) w good t = tame_kept w (step largest w (expire now)) (turns_keep (expired now (queue_of w.copies)) w) t
step_tame largest (pump window now) w good t = tame_kept w (step largest w (pump window now)) (turns_keep (rules.pump (record { window = window; largest = largest; now = now }) (queue_of w.copies)) w) t
step_tame largest (to_broker r) w good t = up_tame r w.up w refl good t
step_tame largest (old_to_broker r) w good t = tame_kept w (old_comes r w.old w) (old_keeps r w.old w) t
step_tame largest to_end w good t = down_tame w.down w refl t
step_tame largest give_up w good t = give_tame w.clean w.link w t
step_tame largest break_line w good t = off_line (leaves w) refl refl
step_tame largest (make_line c) w good t = join_tame w.link c w t
step_tame largest close w good t = record { greeted = t.greeted; plain = behind_sent w.linked w.link w.down (disconnect ∷ []) t.plain (tt, tt) }
step_tame largest close_old w good t = record { greeted = t.greeted; plain = t.plain }
step_tame largest restart w good t = off_line (step largest w restart) refl refl

from_here : (largest : ℕ) (before es : List Event) → Tame (run largest before start) → Tame (run largest es (run largest before start))
from_here largest before [] t = t
from_here largest before (e ∷ es) t =
    let one = step_tame largest e (run largest before start) (good_run largest before) t in
    let is : run largest (before ++ e ∷ []) start ≡ step largest (run largest before start) e = run_append largest before (e ∷ []) start in
    subst (λ (w : Hop). Tame (run largest es w)) is (from_here largest (before ++ e ∷ []) es (subst Tame (sym is) one))

-- in every run no refusal of a CONNECT is behind the CONNACK that is awaited
pub tame_run : (largest : ℕ) (es : List Event) → Tame (run largest es start)
tame_run largest es = from_here largest [] es (record { greeted = λ e. refl; plain = tt })
