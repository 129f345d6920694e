-- One row of a queue after the other.
use Rattle.std.proofs.Common.{◌≡◌, ℕ, zero, suc, ◌+◌, ◌-◌, ◌<◌, Bool, true, false, List, [], ◌∷◌, ◌++◌, ◌&&◌, length, map, drop, get_or, refl, sym, ap, ◌∙◌, arith, append_assoc, drop-cons}
use Rattle.mqtt_base.specs.declared.Ending.TheVariants.{Dropped, Expired}
use Rattle.mqtt_base.specs.declared.Phase.{Phase}
use Rattle.mqtt_flow.specs.declared.outbound.entry.Entry.{Entry}
use Rattle.mqtt_flow.specs.declared.outbound.entry.Turn.{Turn}
use Rattle.mqtt_flow.specs.declared.outbound.entry.Turn.TheVariants.{Leave}
use Rattle.mqtt_flow.specs.declared.outbound.entry.Way.{Way}
use Rattle.mqtt_flow.specs.declared.outbound.pump.Step.{Step}
use Rattle.mqtt_flow.specs.declared.outbound.pump.Step.TheVariants.{GoOn, Take}
use Rattle.mqtt_flow.specs.outbound.Pacing.{Pacing}
use Rattle.mqtt_flow.specs.outbound.Outbound.{dropped, dropped_at, gives_way, expired, expired_at, is_waiting, is_late, paced, pump_from, pump_step, then_on}

-- the entries from a row on
pub rows_at : {R : Type 0} (f : R → Entry) (rows : List R) (i : ℕ) (row : R) → i < length rows → row ≡ get_or rows i row → map f (drop i rows) ≡ f row ∷ map f (drop (i + 1) rows)
rows_at f rows i row within is =
    let next : i + 1 ≡ suc i = omega arith in
    ap (map f) (drop-cons rows i row within)
    ∙ ap (λ (r : _). f r ∷ map f (drop (suc i) rows)) (sym is)
    ∙ ap (λ (n : ℕ). f row ∷ map f (drop n rows)) (sym next)

-- a copy gives way
pub one_drops : (k k' since place : ℕ) (e : Entry) (es : List Entry) (ts ts' : List Turn) → ¬ (k ≡ 0) → gives_way since e ≡ true →
    place ≡ e.place → k' ≡ k - 1 → ts' ≡ ts ++ Leave place Dropped ∷ [] → ts' ++ dropped k' since es ≡ ts ++ dropped k since (e ∷ es)
one_drops zero k' since place e es ts ts' some gives at less more = absurd (some refl)
one_drops (suc k) k' since place e es ts ts' some gives at less more =
    let fewer : k' ≡ k = omega arith in
    ap (λ (x : List Turn). x ++ dropped k' since es) more
    ∙ append_assoc ts (Leave place Dropped ∷ []) (dropped k' since es)
    ∙ ap (λ (p : ℕ). ts ++ Leave p Dropped ∷ dropped k' since es) at
    ∙ ap (λ (n : ℕ). ts ++ Leave e.place Dropped ∷ dropped n since es) fewer
    ∙ ap (λ (b : Bool). ts ++ dropped_at b e (dropped k since es) (dropped (suc k) since es)) (sym gives)

-- it stays
pub one_stays : (k since : ℕ) (e : Entry) (es : List Entry) (ts : List Turn) → ¬ (k ≡ 0) → gives_way since e ≡ false → ts ++ dropped k since es ≡ ts ++ dropped k since (e ∷ es)
one_stays zero since e es ts some stays = absurd (some refl)
one_stays (suc k) since e es ts some stays = ap (λ (b : Bool). ts ++ dropped_at b e (dropped k since es) (dropped (suc k) since es)) (sym stays)

-- a copy's time is up
pub one_expires : (now place : ℕ) (e : Entry) (es : List Entry) (ts ts' : List Turn) → (is_waiting e.phase && is_late now e.copy) ≡ true →
    place ≡ e.place → ts' ≡ ts ++ Leave place Expired ∷ [] → ts' ++ expired now es ≡ ts ++ expired now (e ∷ es)
one_expires now place e es ts ts' up at more =
    ap (λ (x : List Turn). x ++ expired now es) more
    ∙ append_assoc ts (Leave place Expired ∷ []) (expired now es)
    ∙ ap (λ (p : ℕ). ts ++ Leave p Expired ∷ expired now es) at
    ∙ ap (λ (b : Bool). ts ++ expired_at b e (expired now es)) (sym up)

-- it isn't
pub one_waits : (now : ℕ) (e : Entry) (es : List Entry) (ts : List Turn) → (is_waiting e.phase && is_late now e.copy) ≡ false → ts ++ expired now es ≡ ts ++ expired now (e ∷ es)
one_waits now e es ts waits = ap (λ (b : Bool). ts ++ expired_at b e (expired now es)) (sym waits)

-- a pump passes on
pub one_passes : (way : Way) (e : Entry) (es : List Entry) (p : Pacing) (done : Step) → done ≡ pump_step way p e → done ≡ GoOn → pump_from way es p ≡ pump_from way (e ∷ es) p
one_passes way e es p done is goes = ap (λ (s : Step). then_on s e.phase p (pump_from way es)) (sym goes ∙ is)

-- it takes a turn
pub one_turns : (way : Way) (e : Entry) (es : List Entry) (p p' : Pacing) (done : Step) (t : Turn) (phase : Phase) (ts ts' : List Turn) → done ≡ pump_step way p e → done ≡ Take t →
    phase ≡ e.phase → p' ≡ paced t phase p → ts' ≡ ts ++ t ∷ [] → ts' ++ pump_from way es p' ≡ ts ++ pump_from way (e ∷ es) p
one_turns way e es p p' done t phase ts ts' is takes at pace more =
    ap (λ (x : List Turn). x ++ pump_from way es p') more
    ∙ append_assoc ts (t ∷ []) (pump_from way es p')
    ∙ ap (λ (x : Pacing). ts ++ t ∷ pump_from way es x) pace
    ∙ ap (λ (x : Phase). ts ++ t ∷ pump_from way es (paced t x p)) at
    ∙ ap (λ (s : Step). ts ++ then_on s e.phase p (pump_from way es)) (sym takes ∙ is)
