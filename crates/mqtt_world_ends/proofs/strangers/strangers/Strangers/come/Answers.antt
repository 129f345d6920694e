-- By what all that is held begins with.
use Rattle.std.proofs.Common.{◌≡◌, ◌++◌, ◌-◌, ℕ, List, Some, length, map, ap, arith, refl, subst, sym, ◌∙◌}
use Rattle.std.specs.Prelude.{Ok, None}
use Rattle.mqtt_packet.specs.stream.Front.{first_of}
use Rattle.mqtt_world_model.specs.model.World.{Stranger}
use Rattle.mqtt_world_model.proofs.single_steps_lemmas.Answered.{nothing_first}
use Rattle.mqtt_world_ends.specs.strangers.Fronts.{BeginsFaulty, BeginsWhole}
use Rattle.mqtt_world_ends.specs.strangers.Strangers.{held_of, if_named}
use Rattle.mqtt_world_ends.proofs.strangers_lemmas.Places.{came_by, faulty_comes, kept_by, partial_comes, whole_comes}
use Rattle.mqtt_world_ends.proofs.strangers.strangers.Strangers.come.Goals as goal

all_is : (name bytes all : List ℕ) (ss old : List Stranger) → ss ≡ old → all ≡ held_of name old ++ bytes → all ≡ held_of name ss ++ bytes
all_is name bytes all ss old same is = is ∙ ap (λ (xs : List Stranger). held_of name xs ++ bytes) (sym same)

pub invariant_of-self : goal.invariant_of-self
invariant_of-self c =
    kept_by _ _ _ _ c.hold.ensures (ap first_of (sym c.deref.ensures.value) ∙ (rw c.in-Ok-Partial.field-0-is at c.in-Ok-Partial.ensures))
    c.self.invariant

pub invariant_of-self-in-Ok-Whole : goal.invariant_of-self-in-Ok-Whole
invariant_of-self-in-Ok-Whole c = kept_by _ _ _ _ c.hold-in-Ok-Whole.ensures (ap first_of c.new.ensures.items ∙ nothing_first) c.self.invariant

pub invariant_of-self-in-Ok-Faulty : goal.invariant_of-self-in-Ok-Faulty
invariant_of-self-in-Ok-Faulty c =
    kept_by _ _ _ _ c.hold-in-Ok-Faulty.ensures (ap first_of c.new-in-Ok-Faulty.ensures.items ∙ nothing_first) c.self.invariant

pub returns-in-Ok-Partial-clause-came : goal.returns-in-Ok-Partial-clause-came
returns-in-Ok-Partial-clause-came c =
    let all = c.in_ok-all.all.items in
    let is = all_is c.args.name.now c.args.bytes.now all c.self.inside.all.items c.args.self.now c.self.view_is c.in_ok-all.ensures in
    let none : first_of all ≡ Ok None = ap first_of (sym c.deref.ensures.value) ∙ (rw c.in-Ok-Partial.field-0-is at c.in-Ok-Partial.ensures) in
    came_by _ _ _ _ _ _ _ _ _ _ c.self.view_is c.hold.ensures refl refl
    (partial_comes c.args.name.now c.args.bytes.now c.self.inside.all.items all c.self.invariant is none)

pub returns-in-Ok-Whole-clause-came : goal.returns-in-Ok-Whole-clause-came
returns-in-Ok-Whole-clause-came c =
    let name = c.args.name.now in
    let bytes = c.args.bytes.now in
    let ss = c.self.inside.all.items in
    let all = c.in_ok-all.all.items in
    let size = c.in-Ok-Whole.size in
    let is = all_is name bytes all ss c.args.self.now c.self.view_is c.in_ok-all.ensures in
    let whole : BeginsWhole all size =
    subst (λ (xs : List ℕ). BeginsWhole xs size) c.deref.ensures.value (rw c.in-Ok-Whole.field-0-is at c.in-Ok-Whole.ensures) in
    let long : c.len.result ≡ length all = omega (arith, c.len.ensures, c.in_ok-all.all.ok) in
    let left = c.hold-in-Ok-Whole.ensures ∙ ap (λ (xs : List ℕ). map (if_named name (λ (x : List ℕ). xs)) ss) c.new.ensures.items in
    came_by _ _ _ _ _ _ _ _ _ _ c.self.view_is left (ap (λ (n : ℕ). size - (n - length bytes)) long)
    (ap (λ (xs : List ℕ). Some xs) c.cut.ensures) (whole_comes name bytes ss all size c.self.invariant is whole)

pub returns-in-Ok-Faulty-clause-came : goal.returns-in-Ok-Faulty-clause-came
returns-in-Ok-Faulty-clause-came c =
    let name = c.args.name.now in
    let bytes = c.args.bytes.now in
    let ss = c.self.inside.all.items in
    let all = c.in_ok-all.all.items in
    let size = c.in-Ok-Faulty.size in
    let is = all_is name bytes all ss c.args.self.now c.self.view_is c.in_ok-all.ensures in
    let bad : BeginsFaulty all size =
    subst (λ (xs : List ℕ). BeginsFaulty xs size) c.deref.ensures.value (rw c.in-Ok-Faulty.field-0-is at c.in-Ok-Faulty.ensures) in
    let left =
    c.hold-in-Ok-Faulty.ensures ∙ ap (λ (xs : List ℕ). map (if_named name (λ (x : List ℕ). xs)) ss) c.new-in-Ok-Faulty.ensures.items in
    came_by _ _ _ _ _ _ _ _ _ _ c.self.view_is left refl (ap (λ (xs : List ℕ). Some xs) c.cut-in-Ok-Faulty.ensures)
    (faulty_comes name bytes ss all size c.self.invariant is bad)
