-- A pump looks at sizes for what is too large alone: where all fit, it is the one by whole topics.
use Rattle.mqtt_flow.specs.outbound.Outbound.{pump}
use Rattle.mqtt_records.specs.declared.state.session.Session.{Session}
use Rattle.mqtt_records.specs.messages.Queue.{CopyRow}
use Rattle.mqtt_rules.specs.step.Fitting.{fitted, form_of, is_due, size_at, sized, told_behind}
use Rattle.mqtt_rules.specs.step.Outbound.{way_of}
use Rattle.mqtt_rules.specs.step.State.{Line, queue_on, told_on}
use Rattle.mqtt_rules.proofs.fitting_lemmas.SamePumps.{AreAlike, pumps_same}
use Rattle.mqtt_rules.proofs.fitting_lemmas.WholeCopies.{own_size}
use Rattle.mqtt_topic.specs.sending.Told.{ToldTopics}
use Rattle.mqtt_rules.proofs.whole_lemmas.WholeForms.{told_fits}
use Rattle.mqtt_rules.specs.whole.Whole.{FitsWhole, GoesByWhole}
use Rattle.std.proofs.Common.{Bool, List, [], cond, false, map, sym, true, ℕ, ◌∙◌, ◌∷◌, ◌≡◌, ◌≤◌}
use Rattle.std.proofs.lemmas.Bool.{le-ltb}
use Rattle.std.specs.List.{AllByRecursion}
use Rattle.std.specs.Prelude.{nat_eq}

-- the rows fit by these sizes
abbrev AllFit : Line → (CopyRow → ℕ) → List CopyRow → Type 0
AllFit l size es = AllByRecursion (λ (e : CopyRow). size e ≤ l.largest) es

alike : (l : Line) (now : ℕ) (size : CopyRow → ℕ) (es : List CopyRow) → AllFit l size es → AllFit l own_size es → AreAlike (way_of l now) size own_size es
alike l now size [] new own = tt
alike l now size (e ∷ es) new own =
    (le-ltb l.largest (size e) new.0 ∙ sym (le-ltb l.largest (own_size e) own.0), alike l now size es new.1 own.1)

-- a pump with sizes that all fit is the one with those of whole topics, if these fit
pub pump_fits : (size : CopyRow → ℕ) (l : Line) (now : ℕ) (s : Session) → AllFit l size s.queue → FitsWhole l s
    → pump (way_of l now) (map (sized size l.went) s.queue) ≡ pump (way_of l now) (queue_on l.went s)
pump_fits size l now s new own = pumps_same (way_of l now) size own_size l.went s.queue (alike l now size s.queue new own)

-- ---- the sizes of forms fit

fits_at : (l : Line) (now : ℕ) (told : ToldTopics) (q : List CopyRow) → AllFit l own_size q → (e : CopyRow) → own_size e ≤ l.largest → size_at (fitted l now told q) e ≤ l.largest
fits_at l now told [] all e own = own
fits_at l now told (x ∷ xs) all e own =
    let behind = told_behind (is_due now l.went x) (form_of l.largest told x.copy) x.copy.content.topic told in
    by (nat_eq x.place e.place) (told_fits l.largest told x.copy all.0) (fits_at l now behind xs all.1 e own)
  where
    by : {m n : ℕ} (b : Bool) → m ≤ l.largest → n ≤ l.largest → cond b m n ≤ l.largest
    by true here there = here
    by false here there = there

all_fit : (l : Line) (now : ℕ) (told : ToldTopics) (q : List CopyRow) → AllFit l own_size q → (es : List CopyRow) → AllFit l own_size es → AllFit l (size_at (fitted l now told q)) es
all_fit l now told q all [] own = tt
all_fit l now told q all (e ∷ es) own = (fits_at l now told q all e own.0, all_fit l now told q all es own.1)

-- so a pump by forms is the one by whole topics
pub whole_pump : (l : Line) (s : Session) → FitsWhole l s → GoesByWhole l s
whole_pump l s fits b =
    let told = told_on l.number b.tellings in
    pump_fits (size_at (fitted l b.now told s.queue)) l b.now s (all_fit l b.now told s.queue fits s.queue fits) fits
