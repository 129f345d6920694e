-- How many PUBLISH go out in the turns of a pump.
use Rattle.std.proofs.Common.{◌≡◌, ℕ, zero, suc, ◌+◌, Bool, true, false, cond, List, [], ◌∷◌, length, map, refl, ap, sym, ◌∙◌, length-append}
use Rattle.std.specs.Prelude.{Option, Some, None, filter_map, count_by}
use Rattle.std.specs.List.{AllByRecursion}
use Rattle.std.proofs.lemmas.List.Elements.{filter_map-append}
use Rattle.std.proofs.lemmas.List.Sums.{sum_by-cons}
use Rattle.mqtt_base.specs.declared.session.Phase.TheVariants.{Sent}
use Rattle.mqtt_flow.specs.declared.outbound.entry.Turn.{Turn}
use Rattle.mqtt_flow.specs.declared.outbound.entry.Turn.TheVariants as turns
use Rattle.mqtt_flow.specs.declared.outbound.entry.Way.{Way}
use Rattle.mqtt_flow.specs.inbound.Identifiers.{free_identifier}
use Rattle.mqtt_flow.specs.outbound.Pacing.{Pacing}
use Rattle.mqtt_flow.specs.outbound.Outbound.{Verdict, pass, end, outgrow, send, resend, verdict, in_room, step_on, step_by, paced, then_on, pump_from, pace, pump}
use Rattle.mqtt_records.specs.messages.Queue.{CopyRow}
use Rattle.mqtt_records.specs.lists.Order.{IsAscending, row_at}
use Rattle.mqtt_records.specs.declared.state.session.Session.{Session}
use Rattle.mqtt_records.specs.state.Session.{copy_place}
use Rattle.mqtt_rules.specs.step.Deeds.{Deed, At, Mark, Leave, On, Went, Send, whose}
use Rattle.mqtt_rules.specs.step.Outbound.{of_entry, turn_deeds, all_turn_deeds}
use Rattle.mqtt_rules.specs.step.Packets.{publish_of}
use Rattle.mqtt_rules.specs.step.Step.{publish_out}
use Rattle.mqtt_rules.proofs.step_lemmas.flight.FlightRows.{all_found}
use Rattle.mqtt_rules.specs.step.Fitting.{sized}
use Rattle.mqtt_broker_queue.specs.queues.Turning.{is_sending}

-- a PUBLISH goes out of a copy that stands
abbrev pub StandsFor : List CopyRow → Turn → Type 0
StandsFor q (turns.Send place id) = (e : CopyRow) × (row_at copy_place place q ≡ Some e)
StandsFor q (turns.Resend place id) = (e : CopyRow) × (row_at copy_place place q ≡ Some e)
StandsFor q (turns.Release place id order) = Unit {0}
StandsFor q (turns.Outgrow place id order) = Unit {0}
StandsFor q (turns.Repeat id) = Unit {0}
StandsFor q (turns.Unknown id) = Unit {0}
StandsFor q (turns.Leave place ending) = Unit {0}

abbrev sent_in : List Deed → ℕ
sent_in ds = length (filter_map publish_out ds)

abbrev one : Bool → ℕ
one b = cond b 1 0

leaves_send : (s : Session) (o : Option CopyRow) (f : CopyRow → Deed) → ((e : CopyRow) → publish_out (f e) ≡ None) → sent_in (of_entry o (λ e. f e ∷ [])) ≡ 0
leaves_send s None f none = refl
leaves_send s (Some e) f none = rw (none e) refl

turn_sends : (moment line : ℕ) (s : Session) (t : Turn) → StandsFor s.queue t → sent_in (turn_deeds moment line s t) ≡ one (is_sending t)
turn_sends moment line s (turns.Send place id) there =
    ap (λ (o : Option CopyRow). sent_in (of_entry o (λ e. At (whose s) (Mark place (Sent id)) ∷ On line (Went place) ∷ Send line (publish_of moment false id e.copy) ∷ []))) there.1
turn_sends moment line s (turns.Resend place id) there =
    ap (λ (o : Option CopyRow). sent_in (of_entry o (λ e. On line (Went place) ∷ Send line (publish_of moment true id e.copy) ∷ []))) there.1
turn_sends moment line s (turns.Release place id order) there = refl
turn_sends moment line s (turns.Outgrow place id order) there = refl
turn_sends moment line s (turns.Repeat id) there = refl
turn_sends moment line s (turns.Unknown id) there = refl
turn_sends moment line s (turns.Leave place ending) there = leaves_send s (row_at copy_place place s.queue) (λ e. At (whose s) (Leave e ending)) (λ e. refl)

counted : (t : Turn) (ts : List Turn) → count_by is_sending (t ∷ ts) ≡ one (is_sending t) + count_by is_sending ts
counted t ts = sum_by-cons (λ x. cond (is_sending x) 1 0) t ts

sends_are : (moment line : ℕ) (s : Session) (ts : List Turn) → AllByRecursion (StandsFor s.queue) ts → sent_in (all_turn_deeds moment line s ts) ≡ count_by is_sending ts
sends_are moment line s [] there = refl
sends_are moment line s (t ∷ ts) there =
    ap length (filter_map-append publish_out (turn_deeds moment line s t) (all_turn_deeds moment line s ts))
    ∙ (length-append (filter_map publish_out (turn_deeds moment line s t)) (filter_map publish_out (all_turn_deeds moment line s ts))
    ∙ (ap (λ n. n + sent_in (all_turn_deeds moment line s ts)) (turn_sends moment line s t there.0)
    ∙ (ap (λ n. one (is_sending t) + n) (sends_are moment line s ts there.1)
    ∙ sym (counted t ts))))

stands_pump : (size : CopyRow → ℕ) (way : Way) (q : List CopyRow) (went : List ℕ) (es : List CopyRow) (p : Pacing) → AllByRecursion (λ e. row_at copy_place e.place q ≡ Some e) es
    → AllByRecursion (StandsFor q) (pump_from way (map (sized size went) es) p)
stands_pump size way q went [] p h = tt
stands_pump size way q went (e ∷ es) p h = by p.left (verdict way (sized size went e)) (λ y. stands_pump size way q went es y h.1)
  where
    room : (k : ℕ) (t : Turn) → AllByRecursion (StandsFor q) (t ∷ pump_from way (map (sized size went) es) (paced t e.phase p)) → AllByRecursion (StandsFor q) (then_on (in_room k t) e.phase p (pump_from way (map (sized size went) es)))
    room zero t r = tt
    room (suc k) t r = r

    on : (v : Verdict) → ((y : Pacing) → AllByRecursion (StandsFor q) (pump_from way (map (sized size went) es) y)) → AllByRecursion (StandsFor q) (then_on (step_on v e.place p) e.phase p (pump_from way (map (sized size went) es)))
    on pass r = r p
    on (end ending) r = (tt, r (paced (turns.Leave e.place ending) e.phase p))
    on (outgrow i) r = (tt, r (paced (turns.Outgrow e.place i p.order) e.phase p))
    on send r = room p.room (turns.Send e.place (free_identifier p.used)) ((e, h.0), r (paced (turns.Send e.place (free_identifier p.used)) e.phase p))
    on (resend i) r = room p.room (turns.Resend e.place i) ((e, h.0), r (paced (turns.Resend e.place i) e.phase p))

    by : (left : ℕ) (v : Verdict) → ((y : Pacing) → AllByRecursion (StandsFor q) (pump_from way (map (sized size went) es) y)) → AllByRecursion (StandsFor q) (then_on (step_by left v e.place p) e.phase p (pump_from way (map (sized size went) es)))
    by zero v r = tt
    by (suc k) v r = on v r

-- in a pump as many PUBLISH go out as it has turns that send one, whatever the sizes of copies
pub sized_pump_sends : (size : CopyRow → ℕ) (way : Way) (went : List ℕ) (moment line : ℕ) (s : Session) → IsAscending copy_place s.queue
    → length (filter_map publish_out (all_turn_deeds moment line s (pump way (map (sized size went) s.queue)))) ≡ count_by is_sending (pump way (map (sized size went) s.queue))
sized_pump_sends size way went moment line s up =
    let rows = map (sized size went) s.queue in
    sends_are moment line s (pump way rows) (stands_pump size way s.queue went s.queue (pace way rows) (all_found copy_place s.queue up))
