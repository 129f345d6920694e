-- The broker stops after the commit of what it was asked for, and restarts, in the eyes of one receiver (MQTT 5.0, 4.1, 4.4).
use Rattle.mqtt_base.specs.declared.session.CopyId.{CopyId}
use Rattle.std.proofs.Common.{◌≡◌, ℕ, false, List, Option, Some, None, refl, sym, ap, subst, ◌∙◌, inl, inr}
use Rattle.std.specs.Prelude.{is_some, option_map}
use Rattle.mqtt_world_model.specs.model.Ends.{Publisher, Receiver}
use Rattle.mqtt_world_model.specs.model.Lines.{left}
use Rattle.mqtt_world_model.specs.model.Run.{read_first, read_if, read_opening}
use Rattle.mqtt_world_model.specs.model.World.{Asking, Setting, World, break, calls_if, first_step, happens, is_bad_asking, lost_on, old_to_broker, pump, receiver_named, receiver_told, stop_after, stranger, tick, to_broker, view_by, view_of}
use Rattle.mqtt_rules.specs.step.Step.{Lost, stepped, told}
use Rattle.mqtt_world_laws.specs.acceptance.Spending.{spending}
use Rattle.mqtt_world_laws.specs.delivery.Standing.{IsForOthers, IsPlaced, IsSeen, Stands}
use Rattle.mqtt_world_laws.proofs.delivery_lemmas.others.Around.{whose_name}
use Rattle.mqtt_world_laws.proofs.delivery_lemmas.others.Asking.{other_lost, other_pumped, other_reads, other_reads_old}
use Rattle.mqtt_world_laws.proofs.delivery_lemmas.others.Losses.{lost_placed}
use Rattle.mqtt_world_laws.proofs.delivery_lemmas.others.Outside.{calls_around, named_called}
use Rattle.mqtt_world_laws.proofs.delivery_lemmas.others.Restarts.{MayRestart, RestsAs, may_restart, restart_stands}
use Rattle.mqtt_world_laws.proofs.delivery_lemmas.others.Strangers.{stranger_first}
use Rattle.mqtt_world_laws.proofs.delivery_lemmas.others.Ticks.{ticked_stands}

-- its line was lost, and it has not left it yet
lost_rests : (first : List CopyId) (c : List ℕ) (largest : ℕ) (set : Setting) (w : World) (s : Stands first c largest set.limits w) (r : Receiver) → receiver_named c w ≡ Some r → read_first spending set (break c) w ≡ false → MayRestart first c largest set.limits (first_step set (break c) w)
lost_rests first c largest set w s r e unspent = subst (λ (o : Option ℕ). read_if spending set (lost_on o) w ≡ false → Goal o) (sym view) (by r.line.number refl) unspent
  where
    Goal : Option ℕ → Type 0
    Goal o = MayRestart first c largest set.limits (calls_if set (lost_on o) w)

    view : (view_of c w).number ≡ r.line.number
    view = ap (λ (o : Option Publisher). (view_by o (receiver_named c w)).number) (s.standing.around.alone (ap is_some e)) ∙ ap (λ (o : Option Receiver). (view_by None o).number) e

    placed : IsPlaced largest s.ids s.ns r w.broker
    placed = subst (IsSeen largest s.ids s.ns w.broker) e s.standing.seen

    by : (x : Option ℕ) → r.line.number ≡ x → read_if spending set (lost_on x) w ≡ false → Goal x
    by None is u = may_restart first c largest set.limits w s
    by (Some n) is u =
        let new = stepped set.limits set.choice w.now (Lost n) w.broker in
        let out = told set.limits set.choice w.now (Lost n) w.broker in
        let q = receiver_told new out r in
        record {
          ids = s.ids;
          grown = s.grown;
          ns = s.ns;
          around = calls_around c set s.ns (Lost n) w s.standing.around u;
          seen = subst (RestsAs largest s.ids s.ns new) (sym (named_called c set (Lost n) w ∙ ap (option_map (receiver_told new out)) e))
              (record { before = record q { line = left q.line }; placed = lost_placed largest s.ids s.ns set.limits set.choice w.now n r w.broker placed s.standing.around.steady is; same = refl });
        }

-- a stop behind another's step may be gone through
pub after_rests : (first : List CopyId) (c : List ℕ) (a : Asking) (largest : ℕ) (set : Setting) (w : World) → Stands first c largest set.limits w → IsForOthers c a → is_bad_asking a w ≡ false → read_first spending set a w ≡ false → MayRestart first c largest set.limits (first_step set a w)
after_rests first c (to_broker d) largest set w s other good unspent = may_restart first c largest set.limits (first_step set (to_broker d) w) (other_reads first c d largest set w s (λ there. other) unspent)
after_rests first c (old_to_broker d) largest set w s other good unspent = may_restart first c largest set.limits (first_step set (old_to_broker d) w) (other_reads_old first c d largest set w s (λ there. other) unspent)
after_rests first c (pump d) largest set w s other good unspent = may_restart first c largest set.limits (first_step set (pump d) w) (other_pumped first c d largest set w s (λ there. other) unspent)
after_rests first c tick largest set w s other good unspent = may_restart first c largest set.limits (first_step set tick w) (ticked_stands first c largest set w s unspent)
after_rests first c (stranger name bytes) largest set w s other good unspent = may_restart first c largest set.limits (first_step set (stranger name bytes) w) (stranger_first first c name bytes largest set w s good unspent)
after_rests first c (break d) largest set w s other good unspent = elim (whose_name c d w) [
  | inr not_its ↦ may_restart first c largest set.limits (first_step set (break d) w) (other_lost first c d largest set w s not_its unspent)
  | inl own ↦ subst (λ (x : List ℕ). MayRestart first c largest set.limits (first_step set (break x) w)) (sym own.2)
      (lost_rests first c largest set w s own.0 own.1 (subst (λ (x : List ℕ). read_first spending set (break x) w ≡ false) own.2 unspent))
]

-- and leaves the receiver standing
pub stopped_after_stands : (first : List CopyId) (c : List ℕ) (a : Asking) (largest : ℕ) (set : Setting) (w : World) → Stands first c largest set.limits w → IsForOthers c a → is_bad_asking a w ≡ false → read_first spending set a w ≡ false
    → read_opening spending set (first_step set a w) ≡ false → Stands first c largest set.limits (happens set (stop_after a) w)
stopped_after_stands first c a largest set w s other good unspent opens = restart_stands first c largest set (first_step set a w) (after_rests first c a largest set w s other good unspent) opens
