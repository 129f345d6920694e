-- A pump sends again only what is in flight, under its identifier; an answer sends no PUBLISH (MQTT 5.0, 4.4).
use Rattle.std.proofs.Common.{◌≡◌, ℕ, zero, suc, Bool, true, false, List, [], ◌∷◌, map, Option, Some, None, refl, sym, ap, subst, ◌∙◌, inl, inr}
use Rattle.std.specs.Prelude.{⊤, Err, Ok}
use Rattle.std.specs.List.{AllByRecursion}
use Rattle.mqtt_base.specs.declared.session.Phase.{Phase}
use Rattle.mqtt_base.specs.declared.session.Phase.TheVariants.{Waiting, Sent, Released, Oversize}
use Rattle.mqtt_base.specs.declared.session.Qos.{Qos}
use Rattle.mqtt_base.specs.declared.session.Qos.TheVariants.{AtMostOnce, AtLeastOnce, ExactlyOnce}
use Rattle.mqtt_flow.specs.declared.outbound.entry.Entry.{Entry as FlowEntry}
use Rattle.mqtt_flow.specs.declared.outbound.entry.QueuedCopy.{QueuedCopy}
use Rattle.mqtt_flow.specs.declared.outbound.entry.Turn.{Turn}
use Rattle.mqtt_flow.specs.declared.outbound.entry.Turn.TheVariants as turns
use Rattle.mqtt_flow.specs.declared.outbound.entry.Way.{Way}
use Rattle.mqtt_flow.specs.inbound.Identifiers.{free_identifier}
use Rattle.mqtt_flow.specs.outbound.Pacing.{Pacing}
use Rattle.mqtt_flow.specs.outbound.Queue.{holder, next_order}
use Rattle.mqtt_flow.specs.outbound.Outbound.{Answer, Verdict, end, first_time, in_room, is_large, is_late, is_refusal, once_more, outgrow, pace, paced, pass, puback_at, puback_by, pubcomp_at, pubcomp_by, pubrec_at, pubrec_by, pump, pump_from, released_by, resend, send, step_by, step_on, then_on, too_large, verdict, verdict_by}
use Rattle.mqtt_records.specs.declared.state.session.Session.{Session}
use Rattle.mqtt_records.specs.lists.Order.{IsAscending, row_at}
use Rattle.mqtt_records.specs.messages.Queue.{CopyRow}
use Rattle.mqtt_records.specs.state.Session.{copy_place}
use Rattle.mqtt_rules.specs.step.Fitting.{sized}
use Rattle.mqtt_rules.specs.step.Outbound.{turn_deeds}
use Rattle.mqtt_rules.specs.step.State.{Env, Line, queue_on}
use Rattle.mqtt_rules.specs.step.Step.{Call}
use Rattle.mqtt_rules.proofs.step_lemmas.acts.Acts.{IsAnswer}
use Rattle.mqtt_rules.proofs.step_lemmas.flight.FlightRows.{all_found}
use Rattle.mqtt_world_laws.proofs.unasked_lemmas.Traces.{AreSilent, silent_leave}
use Rattle.mqtt_world_laws.proofs.unasked_lemmas.Turning.{IsKnown}

-- ---- a pump

first_never : (late large : Bool) (i : ℕ) → first_time late large ≡ resend i → ⊥
first_never true large i e = absurd cc
first_never false true i e = absurd cc
first_never false false i e = absurd cc

large_never : (qos : Qos) (j i : ℕ) → too_large qos j ≡ resend i → ⊥
large_never AtMostOnce j i e = absurd cc
large_never AtLeastOnce j i e = absurd cc
large_never ExactlyOnce j i e = absurd cc

once_same : (here large : Bool) (qos : Qos) (j i : ℕ) → once_more here large qos j ≡ resend i → Sent j ≡ Sent i
once_same true large qos j i e = absurd cc
once_same false true qos j i e = absurd (large_never qos j i e)
once_same false false qos j i e = cc

-- what is to be sent again was sent under that identifier
resends_sent : (way : Way) (copy : QueuedCopy) (here : Bool) (phase : Phase) (i : ℕ) → verdict_by way copy here phase ≡ resend i → phase ≡ Sent i
resends_sent way copy here Waiting i e = absurd (first_never (is_late way.now copy) (is_large way copy) i e)
resends_sent way copy here (Sent j) i e = once_same here (is_large way copy) copy.qos j i e
resends_sent way copy here (Released j order) i e = absurd cc
resends_sent way copy here (Oversize j order) i e = absurd cc

known_from : (size : CopyRow → ℕ) (way : Way) (q : List CopyRow) (went : List ℕ) (es : List CopyRow) (p : Pacing) → AllByRecursion (λ (e : CopyRow). row_at copy_place e.place q ≡ Some e) es
    → AllByRecursion (IsKnown q) (pump_from way (map (sized size went) es) p)
known_from size way q went [] p found = tt
known_from size way q went (e ∷ es) p found =
    let x = sized size went e in
    by p.left (verdict way x) (λ i is. resends_sent way x.copy x.here x.phase i is) (λ y. known_from size way q went es y found.1)
  where
    room : (k : ℕ) (t : Turn) → IsKnown q t → ((y : Pacing) → AllByRecursion (IsKnown q) (pump_from way (map (sized size went) es) y)) → AllByRecursion (IsKnown q) (then_on (in_room k t) e.phase p (pump_from way (map (sized size went) es)))
    room zero t known rest = tt
    room (suc k) t known rest = (known, rest (paced t e.phase p))

    again : (i : ℕ) → e.phase ≡ Sent i → IsKnown q (turns.Resend e.place i)
    again i sent f there =
        let two : Some e ≡ Some f = sym found.0 ∙ there in
        let same : e ≡ f = cc in
        ap (λ (y : CopyRow). y.phase) (sym same) ∙ sent

    on : (v : Verdict) → ((i : ℕ) → v ≡ resend i → e.phase ≡ Sent i) → ((y : Pacing) → AllByRecursion (IsKnown q) (pump_from way (map (sized size went) es) y)) → AllByRecursion (IsKnown q) (then_on (step_on v e.place p) e.phase p (pump_from way (map (sized size went) es)))
    on pass sent rest = rest p
    on (end ending) sent rest = (tt, rest (paced (turns.Leave e.place ending) e.phase p))
    on (outgrow i) sent rest = (tt, rest (paced (turns.Outgrow e.place i p.order) e.phase p))
    on send sent rest = room p.room (turns.Send e.place (free_identifier p.used)) tt rest
    on (resend i) sent rest = room p.room (turns.Resend e.place i) (again i (sent i refl)) rest

    by : (left : ℕ) (v : Verdict) → ((i : ℕ) → v ≡ resend i → e.phase ≡ Sent i) → ((y : Pacing) → AllByRecursion (IsKnown q) (pump_from way (map (sized size went) es) y)) → AllByRecursion (IsKnown q) (then_on (step_by left v e.place p) e.phase p (pump_from way (map (sized size went) es)))
    by zero v sent rest = tt
    by (suc k) v sent rest = on v sent rest

-- a pump sends again what was in flight
pub pumps_known : (size : CopyRow → ℕ) (way : Way) (went : List ℕ) (s : Session) → IsAscending copy_place s.queue → AllByRecursion (IsKnown s.queue) (pump way (map (sized size went) s.queue))
pumps_known size way went s up = known_from size way s.queue went s.queue (pace way (map (sized size went) s.queue)) (all_found copy_place s.queue up)

-- ---- answers

-- a turn that sends no PUBLISH
abbrev pub IsUnsent : Turn → Type 0
IsUnsent (turns.Send place id) = ⊥
IsUnsent (turns.Resend place id) = ⊥
IsUnsent t = ⊤

abbrev UnsentAnswer : Answer → Type 0
UnsentAnswer (Ok None) = ⊤
UnsentAnswer (Ok (Some t)) = IsUnsent t
UnsentAnswer (Err fault) = ⊤

unsent_puback : (code : ℕ) (o : Option FlowEntry) → UnsentAnswer (puback_at code o)
unsent_puback code None = tt
unsent_puback code (Some e) = by e.phase e.copy.qos
  where
    by : (phase : Phase) (qos : Qos) → UnsentAnswer (puback_by phase qos code e.place)
    by Waiting qos = tt
    by (Sent i) AtMostOnce = tt
    by (Sent i) AtLeastOnce = tt
    by (Sent i) ExactlyOnce = tt
    by (Released i order) qos = tt
    by (Oversize i order) qos = tt

unsent_pubrec : (i code order : ℕ) (o : Option FlowEntry) → UnsentAnswer (pubrec_at i code order o)
unsent_pubrec i code order None = tt
unsent_pubrec i code order (Some e) = by e.phase e.copy.qos
  where
    released : (t : Bool) (j : ℕ) → UnsentAnswer (released_by t e.place j order)
    released true j = tt
    released false j = tt

    by : (phase : Phase) (qos : Qos) → UnsentAnswer (pubrec_by phase qos code e.place order)
    by Waiting qos = tt
    by (Sent j) AtMostOnce = tt
    by (Sent j) AtLeastOnce = tt
    by (Sent j) ExactlyOnce = released (is_refusal code) j
    by (Released j x) qos = tt
    by (Oversize j x) qos = tt

unsent_pubcomp : (o : Option FlowEntry) → UnsentAnswer (pubcomp_at o)
unsent_pubcomp None = tt
unsent_pubcomp (Some e) = by e.phase
  where
    by : (phase : Phase) → UnsentAnswer (pubcomp_by phase e.place)
    by Waiting = tt
    by (Sent i) = tt
    by (Released i order) = tt
    by (Oversize i order) = tt

unsent_answer : (a : Answer) (l : Line) (s : Session) → IsAnswer a l s → UnsentAnswer a
unsent_answer a l s is = elim is [
  | inl it ↦ subst (UnsentAnswer) (sym it.2) (unsent_puback it.1 (holder it.0 (queue_on l.went s)))
  | inr more ↦ elim more [
    | inl it ↦ subst (UnsentAnswer) (sym it.2) (unsent_pubrec it.0 it.1 (next_order (queue_on l.went s)) (holder it.0 (queue_on l.went s)))
    | inr it ↦ subst (UnsentAnswer) (sym it.1) (unsent_pubcomp (holder it.0 (queue_on l.went s)))
  ]
]

-- the turn of an answer sends no PUBLISH
pub answers_unsent : (a : Answer) (t : Turn) (l : Line) (s : Session) → IsAnswer a l s → a ≡ Ok (Some t) → IsUnsent t
answers_unsent a t l s is e = subst UnsentAnswer e (unsent_answer a l s is)

-- so it sends nothing again
pub unsent_known : (q : List CopyRow) (t : Turn) → IsUnsent t → IsKnown q t
unsent_known q (turns.Send place id) h = absurd h
unsent_known q (turns.Resend place id) h = absurd h
unsent_known q t h = tt

-- and its deeds are silent
pub silent_turn : (call : Option Call) (env : Env) (now line : ℕ) (s : Session) (t : Turn) → IsUnsent t → AreSilent call env (turn_deeds now line s t)
silent_turn call env now line s (turns.Send place id) h = absurd h
silent_turn call env now line s (turns.Resend place id) h = absurd h
silent_turn call env now line s (turns.Release place id order) h = (tt, (tt, tt))
silent_turn call env now line s (turns.Outgrow place id order) h = (tt, (tt, tt))
silent_turn call env now line s (turns.Repeat id) h = (tt, tt)
silent_turn call env now line s (turns.Unknown id) h = (tt, tt)
silent_turn call env now line s (turns.Leave place ending) h = silent_leave call env s (turns.Leave place ending)
