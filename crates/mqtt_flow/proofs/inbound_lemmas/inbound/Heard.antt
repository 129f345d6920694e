-- What is under way on the lines: a CONNECT alone, and nothing else before the session is connected there.
use Rattle.std.proofs.Common.{◌≡◌, inl, inr, ℕ, suc, Bool, true, false, ◌&&◌, List, [], ◌∷◌, ◌++◌, length, map, nat_lt, if◌then◌else◌, refl, sym, subst}
use Rattle.std.specs.List.{list_any}
use Rattle.mqtt_base.specs.declared.limits.TheConstants.{OPEN_LIMIT}
use Rattle.mqtt_base.specs.Codes.{is_success}
use Rattle.mqtt_flow.specs.inbound.Identifiers.{free_identifier}
use Rattle.mqtt_flow.specs.inbound.Inbound.{answer_to}
use Rattle.mqtt_flow.specs.inbound.Line.{Link, away, asked, live, sent_on}
use Rattle.mqtt_flow.specs.inbound.Publisher.{Qos, qos_1, qos_2, Fate, sent_1, ended_1, sent, released, ended, FromPublisher, CONNECT, PUBLISH_1, PUBLISH_2, PUBREL, ToPublisher, CONNACK, CONNACK_REFUSED, PUBACK, PUBREC, PUBCOMP, DISCONNECT, in_flight, first_fate, first_packet, resent_from, on_new_session, on_puback, on_pubrec, on_pubcomp, is_sent, pubrel_if, pubrel_for, HasNoConnect, IsConnectAlone, IsHeard}
use Rattle.mqtt_flow.specs.inbound.InboundWorld.{World, Choice, takes, takes_unheard, refuses, Verdict, accept, refuse, repeat, shut, verdict_on, Event, publish, to_broker, old_to_broker, to_end, give_up, break, connect, close, close_old, restart, send_one, send_all, send_unsent, on_connack, publisher_reads, on_publish_1, on_publish_2, on_connect, taken_over, on_old_connect, broker_reads, broker_reads_old, on_give_up, on_join, step, start, run, after, ConnectsAlone, Heard}
use Rattle.mqtt_flow.proofs.inbound_lemmas.inbound.Stages.{is_connect, IsOld, IsLate, Calm, is_away, is_asking, is_shut, is_turned, is_answered, is_live, Blank, blank_away, blank_asking, blank_shut, blank_answered, Good}
use Rattle.mqtt_flow.proofs.inbound_lemmas.inbound.Runs.{begins, good_keeps, is_good}

-- a CONNECT alone
no_connect : (ps : List FromPublisher) → list_any is_connect ps ≡ false → HasNoConnect ps
no_connect [] h = tt
no_connect (CONNECT clean ∷ rest) h = absurd (cc)
no_connect (PUBLISH_1 i n dup ∷ rest) h = no_connect rest h
no_connect (PUBLISH_2 i n dup ∷ rest) h = no_connect rest h
no_connect (PUBREL i ∷ rest) h = no_connect rest h

none_alone : (ps : List FromPublisher) → list_any is_connect ps ≡ false → IsConnectAlone ps
none_alone [] h = tt
none_alone (CONNECT clean ∷ rest) h = absurd (cc)
none_alone (PUBLISH_1 i n dup ∷ rest) h = no_connect rest h
none_alone (PUBLISH_2 i n dup ∷ rest) h = no_connect rest h
none_alone (PUBREL i ∷ rest) h = no_connect rest h

old_alone : (old : List FromPublisher) → IsOld old → IsConnectAlone old
old_alone old (inl h) = none_alone old h
old_alone old (inr e) = subst IsConnectAlone (sym e) refl

late_alone : (old : List FromPublisher) → IsLate old → IsConnectAlone old
late_alone old (inl e) = subst IsConnectAlone (sym e) tt
late_alone old (inr e) = subst IsConnectAlone (sym e) refl

calm_alone : {l : Link} {c b t : Bool} (up : List FromPublisher) {down : List ToPublisher} {old : List FromPublisher} {f : List Fate} → Calm l c b t up down old f → IsConnectAlone up
calm_alone up (is_away l b u d) = subst IsConnectAlone (sym u) tt
calm_alone up (is_asking l b u d) = subst IsConnectAlone (sym u) refl
calm_alone up (is_shut l b u d) = subst IsConnectAlone (sym u) tt
calm_alone up (is_turned code l b u d) = subst IsConnectAlone (sym u) tt
calm_alone up (is_answered present rest l u d q late r t) = subst IsConnectAlone (sym u) tt
calm_alone up (is_live l n late t) = none_alone up n

blank_alone : {l : Link} {b : Bool} (up : List FromPublisher) {down : List ToPublisher} → Blank l b up down → IsConnectAlone up
blank_alone up (blank_away l b u d) = subst IsConnectAlone (sym u) tt
blank_alone up (blank_asking l b u d) = subst IsConnectAlone (sym u) refl
blank_alone up (blank_shut l b u d) = subst IsConnectAlone (sym u) tt
blank_alone up (blank_answered rest l u d q) = subst IsConnectAlone (sym u) tt

alone_of : (w : World) → Good w → ConnectsAlone w
alone_of w (inl h) = (calm_alone w.up h.calm, old_alone w.old h.olds)
alone_of w (inr h) = (blank_alone w.up h.lines, late_alone w.old h.late)

-- what the publisher sends if the session is connected
heard_rest : (linked : Bool) (rest : List FromPublisher) → linked ≡ true → HasNoConnect rest → IsHeard linked rest
heard_rest linked [] e h = tt
heard_rest linked (CONNECT clean ∷ rest) e h = absurd h
heard_rest linked (PUBLISH_1 i n dup ∷ rest) e h = e
heard_rest linked (PUBLISH_2 i n dup ∷ rest) e h = e
heard_rest linked (PUBREL i ∷ rest) e h = e

heard_push : (linked : Bool) (up ps : List FromPublisher) → IsHeard linked up → HasNoConnect ps → IsHeard linked (sent_on linked up ps)
heard_push false up ps h none = h
heard_push true [] ps h none = heard_rest true ps refl none
heard_push true (CONNECT clean ∷ rest) ps h none = absurd (cc)
heard_push true (PUBLISH_1 i n dup ∷ rest) ps h none = refl
heard_push true (PUBLISH_2 i n dup ∷ rest) ps h none = refl
heard_push true (PUBREL i ∷ rest) ps h none = refl

no_connect_first : (qos : Qos) (i n : ℕ) → HasNoConnect (first_packet qos i n ∷ [])
no_connect_first qos_1 i n = tt
no_connect_first qos_2 i n = tt

no_connect_resent : (n : ℕ) (fates : List Fate) → HasNoConnect (resent_from n fates)
no_connect_resent n [] = tt
no_connect_resent n (sent_1 i ∷ fates) = no_connect_resent (suc n) fates
no_connect_resent n (ended_1 by ∷ fates) = no_connect_resent (suc n) fates
no_connect_resent n (sent i ∷ fates) = no_connect_resent (suc n) fates
no_connect_resent n (released i ∷ fates) = no_connect_resent (suc n) fates
no_connect_resent n (ended by ∷ fates) = no_connect_resent (suc n) fates

no_connect_pubrel : (b : Bool) (i : ℕ) → HasNoConnect (pubrel_if b i)
no_connect_pubrel true i = tt
no_connect_pubrel false i = tt

heard_if : (b : Bool) (x y : World) → Heard x → Heard y → Heard (if b then x else y)
heard_if true x y h k = h
heard_if false x y h k = k

heard_one : (qos : Qos) (rest : List Qos) (w : World) → Heard w → Heard (send_one qos rest w)
heard_one qos rest w h =
    let packet = first_packet qos (free_identifier (in_flight w.fates)) (length w.fates) in
    heard_if (nat_lt (length (in_flight w.fates)) OPEN_LIMIT)
    (record w { fates = w.fates ++ first_fate qos (free_identifier (in_flight w.fates)) ∷ []; unsent = rest; up = sent_on w.linked w.up (packet ∷ []) })
    w
    (heard_push w.linked w.up (packet ∷ []) h (no_connect_first qos (free_identifier (in_flight w.fates)) (length w.fates)))
    h

heard_all : (unsent : List Qos) (w : World) → Heard w → Heard (send_all unsent w)
heard_all [] w h = h
heard_all (qos ∷ rest) w h = heard_all rest (send_one qos rest w) (heard_one qos rest w h)

heard_unsent : (l : Link) (w : World) → Heard w → Heard (send_unsent l w)
heard_unsent away w h = h
heard_unsent asked w h = h
heard_unsent live w h = heard_all w.unsent w h

-- what it reads
heard_connack : (l : Link) (present : Bool) (w : World) → Heard w → Heard (on_connack l present w)
heard_connack away present w h = h
heard_connack asked true w h =
    heard_unsent live (record w { link = live; clean = false; up = sent_on w.linked w.up (resent_from 0 w.fates) })
    (heard_push w.linked w.up (resent_from 0 w.fates) h (no_connect_resent 0 w.fates))
heard_connack asked false w h = heard_unsent live (record w { link = live; clean = false; fates = map on_new_session w.fates }) h
heard_connack live present w h = h

heard_reads : (down : List ToPublisher) (w : World) → Heard w → Heard (publisher_reads down w)
heard_reads [] w h = h
heard_reads (CONNACK present ∷ rest) w h = heard_connack w.link present (record w { down = rest }) h
heard_reads (CONNACK_REFUSED code ∷ rest) w h = tt
heard_reads (PUBACK i code ∷ rest) w h = heard_unsent w.link (record w { down = rest; fates = map (on_puback i code) w.fates }) h
heard_reads (PUBREC i code ∷ rest) w h =
    heard_unsent w.link (record w { down = rest; fates = map (on_pubrec i code) w.fates; up = sent_on w.linked w.up (pubrel_for i code w.fates) })
    (heard_push w.linked w.up (pubrel_for i code w.fates) h (no_connect_pubrel (list_any (is_sent i) w.fates && is_success code) i))
heard_reads (PUBCOMP i code ∷ rest) w h = heard_unsent w.link (record w { down = rest; fates = map (on_pubcomp i) w.fates }) h
heard_reads (DISCONNECT code ∷ rest) w h = tt

-- what the broker reads
heard_connect : (stands clean : Bool) (choice : Choice) (rest : List FromPublisher) (w : World) → rest ≡ [] → Heard (on_connect stands clean choice rest w)
heard_connect true false choice rest w e = subst (IsHeard true) (sym e) tt
heard_connect true true choice rest w e = subst (IsHeard true) (sym e) tt
heard_connect false clean takes rest w e = subst (IsHeard true) (sym e) tt
heard_connect false clean takes_unheard rest w e = subst (IsHeard true) (sym e) tt
heard_connect false clean refuses rest w e = subst (IsHeard w.linked) (sym e) tt

heard_publish_1 : (v : Verdict) (i n : ℕ) (rest : List FromPublisher) (w : World) → IsHeard w.linked rest → Heard (on_publish_1 v i n rest w)
heard_publish_1 (accept code) i n rest w h = h
heard_publish_1 refuse i n rest w h = h
heard_publish_1 repeat i n rest w h = h
heard_publish_1 shut i n rest w h = tt

heard_publish_2 : (v : Verdict) (i n : ℕ) (rest : List FromPublisher) (w : World) → IsHeard w.linked rest → Heard (on_publish_2 v i n rest w)
heard_publish_2 (accept code) i n rest w h = h
heard_publish_2 refuse i n rest w h = h
heard_publish_2 repeat i n rest w h = h
heard_publish_2 shut i n rest w h = tt

heard_up : (choice : Choice) (up : List FromPublisher) (w : World) → IsConnectAlone up → IsHeard w.linked up → Heard w → Heard (broker_reads choice up w)
heard_up choice [] w a u h = h
heard_up choice (CONNECT clean ∷ rest) w a u h = heard_connect w.stands clean choice rest w a
heard_up choice (PUBLISH_1 i n dup ∷ rest) w a u h = heard_publish_1 (verdict_on (answer_to i w.ids) choice) i n rest w (heard_rest w.linked rest u a)
heard_up choice (PUBLISH_2 i n dup ∷ rest) w a u h = heard_publish_2 (verdict_on (answer_to i w.ids) choice) i n rest w (heard_rest w.linked rest u a)
heard_up choice (PUBREL i ∷ rest) w a u h = heard_rest w.linked rest u a

heard_over : (b : Bool) (w : World) → Heard w → Heard (taken_over b w)
heard_over true w h = tt
heard_over false w h = h

heard_old_connect : (stands clean : Bool) (choice : Choice) (rest : List FromPublisher) (w : World) → Heard w → Heard (on_old_connect stands clean choice rest w)
heard_old_connect true false choice rest w h = heard_over w.linked (record w { old = rest }) h
heard_old_connect true true choice rest w h = heard_over w.linked (record w { old = rest; ids = [] }) h
heard_old_connect false clean takes rest w h = h
heard_old_connect false clean takes_unheard rest w h = h
heard_old_connect false clean refuses rest w h = h

heard_old : (choice : Choice) (old : List FromPublisher) (w : World) → Heard w → Heard (broker_reads_old choice old w)
heard_old choice [] w h = h
heard_old choice (CONNECT clean ∷ rest) w h = heard_old_connect w.stands clean choice rest w h
heard_old choice (PUBLISH_1 i n dup ∷ rest) w h = h
heard_old choice (PUBLISH_2 i n dup ∷ rest) w h = h
heard_old choice (PUBREL i ∷ rest) w h = h

-- what happens to the lines
heard_gives : (l : Link) (c : Bool) (w : World) → Heard w → Heard (on_give_up l c w)
heard_gives away c w h = h
heard_gives asked true w h = h
heard_gives asked false w h = tt
heard_gives live c w h = tt

heard_joins : (l : Link) (c : Bool) (w : World) → Heard w → Heard (on_join l c w)
heard_joins away c w h = refl
heard_joins asked c w h = h
heard_joins live c w h = h

heard_step : (w : World) (e : Event) → Good w → Heard w → Heard (step w e)
heard_step w (publish qos) g h = heard_unsent w.link (record w { unsent = w.unsent ++ qos ∷ [] }) h
heard_step w (to_broker choice) g h = heard_up choice w.up w (alone_of w g).0 h h
heard_step w (old_to_broker choice) g h = heard_old choice w.old w h
heard_step w to_end g h = heard_reads w.down w h
heard_step w give_up g h = heard_gives w.link w.clean w h
heard_step w break g h = tt
heard_step w (connect clean) g h = heard_joins w.link clean w h
heard_step w (close code) g h = tt
heard_step w close_old g h = h
heard_step w restart g h = tt

heard_on : (es : List Event) (w : World) → Good w → Heard w → Heard (run es w)
heard_on [] w g h = h
heard_on (e ∷ es) w g h = heard_on es (step w e) (good_keeps w e g) (heard_step w e g h)

-- in every run each success that a publisher hears is of an acceptance
pub heard_run : (es : List Event) → Heard (after es)
heard_run es = heard_on es start begins tt

-- in every run a CONNECT is alone on its line
pub alone_run : (es : List Event) → ConnectsAlone (after es)
alone_run es = alone_of (after es) (is_good es)
