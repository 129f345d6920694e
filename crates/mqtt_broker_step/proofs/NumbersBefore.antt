-- Numbers before a step, by what takes its changes back.
use Rattle.std.proofs.Common.{◌≡◌, List, [], ◌∷◌, refl, ap, ◌∙◌}
use Rattle.mqtt_records.specs.declared.state.change.Change.TheVariants.{SetCounter, PutSession as PutColumns, SetSession, RemoveSession, PutWill, RemoveWill, PutSubscription, RemoveSubscription, PutInbound, RemoveInbound, PutCopy, SetCopy, RemoveCopy, PutRetained, RemoveRetained}
use Rattle.mqtt_records.specs.declared.state.change.Counter.TheVariants.{Births, Publications, Subscribes, Autos, Moment}
use Rattle.mqtt_rules.specs.step.State.{Broker}
use Rattle.mqtt_broker_step.specs.declared.undo.Undo.{Undo}
use Rattle.mqtt_broker_step.specs.declared.undo.Undo.TheVariants.{Make, PutSession, PutLine, RemoveLine, EditLine, PutTelling, RemoveTelling, CutTelling, SetMoment}
use Rattle.mqtt_broker_step.specs.Undoing.{publications_before, publications_set, subscribes_before, subscribes_set, set_or, taken_back, undone}

publications_undone : (u : Undo) (b : Broker) → (undone u b).records.publications ≡ set_or (publications_set u) b.records.publications
publications_undone (Make (SetCounter Births v)) b = refl
publications_undone (Make (SetCounter Publications v)) b = refl
publications_undone (Make (SetCounter Subscribes v)) b = refl
publications_undone (Make (SetCounter Autos v)) b = refl
publications_undone (Make (SetCounter Moment v)) b = refl
publications_undone (Make (PutColumns row)) b = refl
publications_undone (Make (SetSession row)) b = refl
publications_undone (Make (RemoveSession birth)) b = refl
publications_undone (Make (PutWill birth will)) b = refl
publications_undone (Make (RemoveWill birth)) b = refl
publications_undone (Make (PutSubscription birth s)) b = refl
publications_undone (Make (RemoveSubscription birth f)) b = refl
publications_undone (Make (PutInbound birth id)) b = refl
publications_undone (Make (RemoveInbound birth id)) b = refl
publications_undone (Make (PutCopy birth row)) b = refl
publications_undone (Make (SetCopy birth place phase)) b = refl
publications_undone (Make (RemoveCopy birth place)) b = refl
publications_undone (Make (PutRetained kept)) b = refl
publications_undone (Make (RemoveRetained place)) b = refl
publications_undone (PutSession s) b = refl
publications_undone (PutLine l) b = refl
publications_undone (RemoveLine n g) b = refl
publications_undone (EditLine n c) b = refl
publications_undone (PutTelling t) b = refl
publications_undone (RemoveTelling n) b = refl
publications_undone (CutTelling n k) b = refl
publications_undone (SetMoment m) b = refl

subscribes_undone : (u : Undo) (b : Broker) → (undone u b).records.subscribes ≡ set_or (subscribes_set u) b.records.subscribes
subscribes_undone (Make (SetCounter Births v)) b = refl
subscribes_undone (Make (SetCounter Publications v)) b = refl
subscribes_undone (Make (SetCounter Subscribes v)) b = refl
subscribes_undone (Make (SetCounter Autos v)) b = refl
subscribes_undone (Make (SetCounter Moment v)) b = refl
subscribes_undone (Make (PutColumns row)) b = refl
subscribes_undone (Make (SetSession row)) b = refl
subscribes_undone (Make (RemoveSession birth)) b = refl
subscribes_undone (Make (PutWill birth will)) b = refl
subscribes_undone (Make (RemoveWill birth)) b = refl
subscribes_undone (Make (PutSubscription birth s)) b = refl
subscribes_undone (Make (RemoveSubscription birth f)) b = refl
subscribes_undone (Make (PutInbound birth id)) b = refl
subscribes_undone (Make (RemoveInbound birth id)) b = refl
subscribes_undone (Make (PutCopy birth row)) b = refl
subscribes_undone (Make (SetCopy birth place phase)) b = refl
subscribes_undone (Make (RemoveCopy birth place)) b = refl
subscribes_undone (Make (PutRetained kept)) b = refl
subscribes_undone (Make (RemoveRetained place)) b = refl
subscribes_undone (PutSession s) b = refl
subscribes_undone (PutLine l) b = refl
subscribes_undone (RemoveLine n g) b = refl
subscribes_undone (EditLine n c) b = refl
subscribes_undone (PutTelling t) b = refl
subscribes_undone (RemoveTelling n) b = refl
subscribes_undone (CutTelling n k) b = refl
subscribes_undone (SetMoment m) b = refl

-- the journal tells the number of the last publication before the step
pub publications_taken_back : (us : List Undo) (b : Broker) → (taken_back us b).records.publications ≡ publications_before us b.records.publications
publications_taken_back [] b = refl
publications_taken_back (u ∷ us) b = publications_undone u (taken_back us b) ∙ ap (set_or (publications_set u)) (publications_taken_back us b)

-- the journal tells the number of the last granted filter before the step
pub subscribes_taken_back : (us : List Undo) (b : Broker) → (taken_back us b).records.subscribes ≡ subscribes_before us b.records.subscribes
subscribes_taken_back [] b = refl
subscribes_taken_back (u ∷ us) b = subscribes_undone u (taken_back us b) ∙ ap (set_or (subscribes_set u)) (subscribes_taken_back us b)
