-- One change more: it is taken back first.
use Rattle.std.proofs.Common.{◌≡◌, List, [], ◌∷◌, ◌++◌, refl, ap, sym, ◌∙◌}
use Rattle.mqtt_rules.specs.step.State.{Broker}
use Rattle.mqtt_broker_step.specs.declared.undo.Undo.{Undo}
use Rattle.mqtt_broker_step.specs.Undoing.{Changing, undone, taken_back, changing, become}

-- of a longer journal the last entry is taken back first
pub taken_back_push : (us : List Undo) (u : Undo) (b : Broker) → taken_back (us ++ u ∷ []) b ≡ taken_back us (undone u b)
taken_back_push [] u b = refl
taken_back_push (x ∷ us) u b = ap (undone x) (taken_back_push us u b)

-- the start stays
pub start_stays : (us us2 : List Undo) (u : Undo) (b b2 : Broker) → us2 ≡ us ++ u ∷ [] → undone u b2 ≡ b → taken_back us2 b2 ≡ taken_back us b
start_stays us us2 u b b2 us_is back = ap (λ xs. taken_back xs b2) us_is ∙ (taken_back_push us u b2 ∙ ap (taken_back us) back)

-- what is made of equal parts is equal
pub two : {A B R : Type 0} (mk : A → B → R) {a1 a2 : A} {b1 b2 : B} → a1 ≡ a2 → b1 ≡ b2 → mk a1 b1 ≡ mk a2 b2
two mk p q = cc

abbrev changes : Broker → Broker → Changing
changes start b = record { start = start; broker = b }

-- tables with one change more
pub change_is : (us us2 : List Undo) (u : Undo) (b b2 b3 : Broker) → us2 ≡ us ++ u ∷ [] → undone u b2 ≡ b → b2 ≡ b3 → changing us2 b2 ≡ become b3 (changing us b)
change_is us us2 u b b2 b3 us_is back is = two changes (start_stays us us2 u b b2 us_is back) is

-- the last change taken back
pub taken_last : (us us2 : List Undo) (u : Undo) (b b2 start : Broker) → us ≡ us2 ++ u ∷ [] → b2 ≡ undone u b → taken_back us b ≡ start → taken_back us2 b2 ≡ start
taken_last us us2 u b b2 start us_is is done = ap (taken_back us2) is ∙ (sym (taken_back_push us2 u b) ∙ (ap (λ xs. taken_back xs b) (sym us_is) ∙ done))

-- if there was nothing to change
pub same_is : (us us2 : List Undo) (b b2 b3 : Broker) → us2 ≡ us → b2 ≡ b → b2 ≡ b3 → changing us2 b2 ≡ become b3 (changing us b)
same_is us us2 b b2 b3 us_is same is = two changes (ap (λ xs. taken_back xs b2) us_is ∙ ap (taken_back us) same) is
