-- A new line: no end is told of it, and nothing is stored for it (MQTT 5.0, 4.2).
use Rattle.std.proofs.Common.{◌≡◌, ℕ, min, length, Bool, true, false, List, [], ◌∷◌, ◌++◌, map, Option, Some, None, refl, sym, ap, subst, ◌∙◌}
use Rattle.mqtt_base.specs.declared.limits.TheConstants.{LAST_NUMBER}
use Rattle.mqtt_keep.specs.declared.keeping.keep.Keep.{Ghosts}
use Rattle.mqtt_world_model.specs.model.Ends.{Publisher, Receiver}
use Rattle.mqtt_world_model.specs.model.Lines.{Down, Line, told_by}
use Rattle.mqtt_world_model.specs.model.Tellings.{silent}
use Rattle.mqtt_world_model.specs.model.World.{publisher_told, receiver_told}
use Rattle.mqtt_rules.specs.step.State.{Broker, MemberChoice}
use Rattle.mqtt_rules.specs.step.Step.{BrokerStep, NewLine, at_moment, can_link, nothing_told, stepped, told, Outcome as Answer}
use Rattle.mqtt_rules.specs.declared.step.Capacity.{Capacity}
use Rattle.mqtt_broker.specs.engine.Serving.{Serving, with_linked}
use Rattle.mqtt_broker.specs.engine.Framers.{HeldLine, begun}
use Rattle.mqtt_world.specs.clients.Ends.{Ends}
use Rattle.mqtt_world.specs.clients.Telling.{ends_told}
use Rattle.mqtt_world.specs.scene.Scenes.{Calls, HoldNone, IsPlayable, Played}
use Rattle.mqtt_world.proofs.scene_lemmas.Answered.{spent_capped, stepped_capped, told_capped}

-- ---- nothing told

behind_none : {X : Type 0} (xs : List X) → xs ++ [] ≡ xs
behind_none [] = refl
behind_none (x ∷ xs) = ap (λ ys. x ∷ ys) (behind_none xs)

line_untold : {U : Type 0} (b : Broker) (l : Line U) → told_by b nothing_told l ≡ l
line_untold b l = by l.number l.old_number
  where
    by : (n o : Option ℕ) → told_by b nothing_told (record l { number = n; old_number = o }) ≡ record l { number = n; old_number = o }
    by None None = ap (λ (d : List Down). record l { number = None; old_number = None; down = d }) (behind_none l.down)
    by None (Some o) = ap (λ (d : List Down). record l { number = None; old_number = Some o; down = d }) (behind_none l.down)
    by (Some n) None = ap (λ (d : List Down). record l { number = Some n; old_number = None; down = d }) (behind_none l.down)
    by (Some n) (Some o) = ap (λ (d : List Down). record l { number = Some n; old_number = Some o; down = d }) (behind_none l.down)

publishers_untold : (b : Broker) (ps : List Publisher) → map (publisher_told b nothing_told) ps ≡ ps
publishers_untold b [] = refl
publishers_untold b (p ∷ ps) =
    ap (λ (q : Publisher). q ∷ map (publisher_told b nothing_told) ps) (ap (λ (l : Line _). record p { line = l }) (line_untold b p.line))
    ∙ ap (λ (qs : List Publisher). p ∷ qs) (publishers_untold b ps)

receivers_untold : (b : Broker) (rs : List Receiver) → map (receiver_told b nothing_told) rs ≡ rs
receivers_untold b [] = refl
receivers_untold b (r ∷ rs) =
    ap (λ (q : Receiver). q ∷ map (receiver_told b nothing_told) rs) (ap (λ (l : Line _). record r { line = l }) (line_untold b r.line))
    ∙ ap (λ (qs : List Receiver). r ∷ qs) (receivers_untold b rs)

-- if nothing is told, all ends stay as they are
pub ends_untold : (b : Broker) (e : Ends) → ends_told b nothing_told e ≡ e
ends_untold b e =
    ap (λ (ps : List Publisher). record { publishers = ps; receivers = map (receiver_told b nothing_told) e.receivers }) (publishers_untold b e.publishers)
    ∙ ap (λ (rs : List Receiver). record { publishers = e.publishers; receivers = rs }) (receivers_untold b e.receivers)

-- ---- the store

-- a new line changes nothing that is stored
pub linked_records : (limits : Capacity) (choice : MemberChoice) (now : ℕ) (b : Broker) → (stepped limits choice now NewLine b).records ≡ b.records
linked_records limits choice now b = by (can_link limits (at_moment now b)) refl
  where
    by : (t : Bool) → can_link limits (at_moment now b) ≡ t → (stepped limits choice now NewLine b).records ≡ b.records
    by true e = rw e refl
    by false e = rw e refl

held_behind : (xs : List HeldLine) (x : HeldLine) → HoldNone xs → x.framing.held ≡ [] → HoldNone (xs ++ x ∷ [])
held_behind [] x h k = (k, tt)
held_behind (y ∷ xs) x h k = (h.0, held_behind xs x h.1 k)

linked_none : (line : Option ℕ) (xs : List HeldLine) → HoldNone xs → HoldNone (with_linked line xs)
linked_none None xs h = h
linked_none (Some n) xs h = held_behind xs (begun n) h refl

-- ---- the call

-- if the engine was asked for a new line, that is a call of the scene which tells nothing
pub linked : {K : Type 0} (g : Ghosts K) (now moment : ℕ) (line : Option ℕ) (old new : Played K)
    → IsPlayable g old → moment ≡ min now LAST_NUMBER
    → BrokerStep old.engine.running.limits old.engine.running.broker moment NewLine nothing_told new.engine.running.broker
    → new.engine.running ≡ record old.engine.running { broker = new.engine.running.broker } → new.engine.held ≡ with_linked line old.engine.held
    → new.ends ≡ old.ends → Calls g now NewLine old silent new
linked {K} g now moment line old new playable moment_is step same held ends =
    let limits = old.engine.running.limits in
    let b = old.engine.running.broker in
    let at : BrokerStep limits b (min now LAST_NUMBER) NewLine nothing_told new.engine.running.broker =
    subst (λ (n : ℕ). BrokerStep limits b n NewLine nothing_told new.engine.running.broker) moment_is step in
    let choice = at.choice in
    let broker_is : new.engine.running.broker ≡ stepped limits choice now NewLine b = at.new_is ∙ stepped_capped limits choice now NewLine b in
    let answer_is : nothing_told ≡ told limits choice now NewLine b = at.out_is ∙ told_capped limits choice now NewLine b in
    let keep_is : new.engine.running.keep ≡ old.engine.running.keep = ap (λ r. r.keep) same in
    let was : g.is_sound new.engine.running.keep → g.is_sound old.engine.running.keep = λ sound. subst (λ k. g.is_sound k) keep_is sound in
    record {
      truly = λ sound. record {
        choice = choice;
        unspent = sym (spent_capped limits choice now NewLine b) ∙ at.unspent;
        broker = broker_is;
        ends = λ spelled goes. ends ∙ sym (ends_untold (stepped limits choice now NewLine b) old.ends)
            ∙ ap (λ (x : Answer). ends_told (stepped limits choice now NewLine b) x old.ends) answer_is;
        told_is = ap (λ (x : Answer). record { reports = x.reports; out = length x.outputs }) answer_is;
      };
      limits = ap (λ r. r.limits) same;
      sound = was;
      playable = record {
        runs = ap (λ r. r.stopped) same ∙ playable.runs;
        stored = λ sound.
            subst (λ k. g.holds k new.engine.running.broker.records) (sym keep_is)
            (subst (λ r. g.holds old.engine.running.keep r) (sym (ap (λ (x : Broker). x.records) broker_is ∙ linked_records limits choice now b)) (playable.stored (was sound)));
        clear = subst HoldNone (sym held) (linked_none line old.engine.held playable.clear);
      };
    }

-- and of a scene as it is seen
pub linked_in : {K : Type 0} (g : Ghosts K) (now moment : ℕ) (line : Option ℕ) (old : Played K) (engine mid : Serving K) (ends : Ends)
    → old ≡ record { engine = engine; ends = ends } → IsPlayable g old → moment ≡ min now LAST_NUMBER
    → BrokerStep engine.running.limits engine.running.broker moment NewLine nothing_told mid.running.broker
    → mid.running ≡ record engine.running { broker = mid.running.broker } → mid.held ≡ with_linked line engine.held
    → Calls g now NewLine old silent (record { engine = mid; ends = ends })
linked_in {K} g now moment line old engine mid ends view playable moment_is step same held =
    subst (λ (o : Played K). Calls g now NewLine o silent (record { engine = mid; ends = ends })) (sym view)
    (linked g now moment line (record { engine = engine; ends = ends }) (record { engine = mid; ends = ends }) (subst (IsPlayable g) view playable) moment_is step same held refl)
