-- A pump passes over the entries that stand still.
use Rattle.std.proofs.Common.{◌≡◌, ⊎_elim, ℕ, zero, suc, ◌-◌, ◌≤◌, Bool, true, false, List, [], ◌∷◌, length, map, take, drop, refl, sym, ap, ◌∙◌, arith, length-drop}
use Rattle.mqtt_base.specs.declared.Phase.{Phase}
use Rattle.mqtt_base.specs.declared.Phase.TheVariants.{Waiting, Sent, Released, Oversize}
use Rattle.mqtt_flow.specs.declared.outbound.entry.Entry.{Entry}
use Rattle.mqtt_flow.specs.declared.outbound.entry.QueuedCopy.{QueuedCopy}
use Rattle.mqtt_flow.specs.declared.outbound.entry.Way.{Way}
use Rattle.mqtt_flow.specs.outbound.Pacing.{Pacing}
use Rattle.mqtt_flow.specs.outbound.Queue.{in_window}
use Rattle.mqtt_flow.specs.outbound.Outbound.{Verdict, pass, verdict, verdict_by, step_by, then_on, pump_from, pace, pace_known, pump}
use Rattle.mqtt_flow.specs.outbound.Stillness.{stirs, stirs_by, AllStill, Foreknown, front_still}
use Rattle.mqtt_flow.proofs.inbound_lemmas.Identifiers.{test_cases}

pass_still : (way : Way) (copy : QueuedCopy) (here : Bool) (phase : Phase) → stirs_by here phase ≡ false → verdict_by way copy here phase ≡ pass
pass_still way copy here Waiting h = absurd (cc)
pass_still way copy true (Sent i) h = refl
pass_still way copy false (Sent i) h = absurd (cc)
pass_still way copy here (Released i order) h = refl
pass_still way copy here (Oversize i order) h = refl

pump_on : (way : Way) (e : Entry) (es : List Entry) (p : Pacing) (k : ℕ) → p.left ≡ suc k → stirs e ≡ false → pump_from way (e ∷ es) p ≡ pump_from way es p
pump_on way e es p k left still =
    ap (λ (n : ℕ). then_on (step_by n (verdict way e) e.place p) e.phase p (pump_from way es)) left
    ∙ ap (λ (v : Verdict). then_on (step_by (suc k) v e.place p) e.phase p (pump_from way es)) (pass_still way e.copy e.here e.phase still)

skip : (way : Way) (still : ℕ) (queue : List Entry) (p : Pacing) (k : ℕ) → p.left ≡ suc k → AllStill (take still queue) → pump_from way queue p ≡ pump_from way (drop still queue) p
skip way zero queue p k left h = refl
skip way (suc n) [] p k left h = refl
skip way (suc n) (e ∷ es) p k left h = pump_on way e es p k left h.0 ∙ skip way n es p k left h.1

drop_none : (still : ℕ) (queue : List Entry) → length queue ≤ still → drop still queue ≡ []
drop_none zero [] h = refl
drop_none zero (e ∷ es) h = absurd (omega arith)
drop_none (suc n) [] h = refl
drop_none (suc n) (e ∷ es) h = drop_none n es (omega arith)

-- all stand still
pub pump_none : (way : Way) (still window order : ℕ) (queue : List Entry) → Foreknown still window order queue → length queue ≤ still → pump way queue ≡ []
pump_none way still window order queue known all =
    skip way still queue (pace way queue) 15 refl known.at_front
    ∙ ap (λ (q : List Entry). pump_from way q (pace way queue)) (drop_none still queue all)

-- or those at the front do
pub pump_behind : (way : Way) (queue rest : List Entry) (still window order : ℕ) (p : Pacing) → Foreknown still window order queue → rest ≡ drop still queue → p ≡ pace_known way window order queue → pump_from way rest p ≡ pump way queue
pump_behind way queue rest still window order p known behind is =
    let same : pace_known way window order queue ≡ pace way queue =
    ap (λ (n : ℕ). pace_known way n order queue) known.window_is ∙ ap (λ (n : ℕ). pace_known way (in_window queue) n queue) known.order_is in
    ap (λ (q : List Entry). pump_from way q p) behind
    ∙ sym (skip way still queue p 15 (ap (λ (x : Pacing). x.left) is) known.at_front)
    ∙ ap (pump_from way queue) (is ∙ same)

-- the front is as long as it is counted
pub front_is_still : (queue : List Entry) → AllStill (take (front_still queue) queue)
front_is_still [] = tt
front_is_still (e ∷ es) = ⊎_elim
    (λ (t : stirs e ≡ true). rw t tt)
    (λ (t : stirs e ≡ false). rw t (t, front_is_still es))
    (test_cases (stirs e))

-- the rows behind the front
take_all : {R : Type 0} (n : ℕ) (xs : List R) → n ≡ length xs → take n xs ≡ xs
take_all zero [] e = refl
take_all (suc n) [] e = refl
take_all zero (x ∷ xs) e = absurd (omega arith)
take_all (suc n) (x ∷ xs) e = ap (λ ys. x ∷ ys) (take_all n xs (omega arith))

map_drop : {R : Type 0} (f : R → Entry) (k : ℕ) (xs : List R) → map f (drop k xs) ≡ drop k (map f xs)
map_drop f zero xs = refl
map_drop f (suc k) [] = refl
map_drop f (suc k) (x ∷ xs) = map_drop f k xs

-- the rows behind those that stand still are the entries behind them
pub rows_behind : {R : Type 0} (f : R → Entry) (still : ℕ) (rows : List R) → map f (take (length rows - still) (drop still rows)) ≡ drop still (map f rows)
rows_behind f still rows = ap (map f) (take_all (length rows - still) (drop still rows) (sym (length-drop still rows))) ∙ map_drop f still rows

-- the first rows are no more than all
pub take_within : {R : Type 0} (n : ℕ) (xs : List R) → length (take n xs) ≤ length xs
take_within zero xs = omega arith
take_within (suc n) [] = omega arith
take_within (suc n) (x ∷ xs) = let rest = take_within n xs in omega arith

-- the rows behind the first ones are no more than all
pub drop_within : {R : Type 0} (n : ℕ) (xs : List R) → length (drop n xs) ≤ length xs
drop_within zero xs = omega arith
drop_within (suc n) [] = omega arith
drop_within (suc n) (x ∷ xs) = let rest = drop_within n xs in omega arith
