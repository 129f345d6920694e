-- The broker reads the first packet of a receiver's line, or of the one that it gave up: the receiver stands, if it is somewhere
-- after it (MQTT 5.0, 4.4).
use Rattle.mqtt_base.specs.declared.session.CopyId.{CopyId}
use Rattle.std.proofs.Common.{◌≡◌, ℕ, false, List, ◌∷◌, ◌++◌, map, Option, Some, None, refl, sym, ap, ◌∙◌, subst}
use Rattle.std.specs.Prelude.{is_some, option_map}
use Rattle.mqtt_world_model.specs.model.Ends.{Back, Publisher, Receiver, Sent, wire_back}
use Rattle.mqtt_world_model.specs.model.Lines.{Line}
use Rattle.mqtt_world_model.specs.model.Run.{read_first, read_if}
use Rattle.mqtt_world_model.specs.model.World.{Setting, View, World, asks, calls_if, input_on, old_to_broker, receiver_named, receiver_told, taken_old, taken_up, to_broker, view_by, view_of, with_line}
use Rattle.mqtt_rules.specs.step.Step.{Call, Input, stepped, told}
use Rattle.mqtt_world_laws.specs.acceptance.Fair.{IsSteady}
use Rattle.mqtt_world_laws.specs.acceptance.Spending.{spending}
use Rattle.mqtt_world_laws.specs.receiver.Calls.{receiver_called}
use Rattle.mqtt_world_laws.specs.receiver.Handing.{receiver_after}
use Rattle.mqtt_world_laws.specs.delivery.Standing.{IsSeen, Stands}
use Rattle.mqtt_world_laws.proofs.delivery_lemmas.others.Around.{changed_its, on_back, on_line, own_around}
use Rattle.mqtt_world_laws.proofs.delivery_lemmas.order.Growing.{begin_on, begin_then}
use Rattle.mqtt_world_laws.proofs.delivery_lemmas.others.Outside.{GoesFurther, calls_around, named_called}

module _ (first : List CopyId) (c : List ℕ) (x : Back) (rest : List Back) (largest : ℕ) (set : Setting) (r : Receiver) (w : World) (s : Stands first c largest set.limits w) (e : receiver_named c w ≡ Some r) (n : ℕ) where
  abbrev call : Call
  call = Input n (wire_back r.client r.window r.aliases x)

  view : view_of c w ≡ view_by None (Some r)
  view = ap (λ (o : Option Publisher). view_by o (receiver_named c w)) (s.standing.around.alone (ap is_some e)) ∙ ap (λ (o : Option Receiver). view_by None o) e

  -- a packet was taken off one of its lines, and the broker reads it
  taken_stands : (f : Line Sent → Line Sent) (g : Line Back → Line Back) (o : Option Call) → o ≡ Some call
      → (IsSteady (stepped set.limits set.choice w.now call w.broker) → GoesFurther largest s.ids s.ns (receiver_called set.limits set.choice w.now call (on_back g r) w.broker) (stepped set.limits set.choice w.now call w.broker))
      → read_if spending set o (with_line c f g w) ≡ false → Stands first c largest set.limits (calls_if set o (with_line c f g w))
  taken_stands f g o asked goes unspent =
      let w1 = with_line c f g w in
      let found : receiver_named c w1 ≡ Some (on_back g r) = changed_its c (on_back g) w r (λ q. refl) e in
      let around = own_around c set.limits s.ns w (on_line f) (on_back g) (λ p. refl) (λ q. refl) (s.standing.around.alone (ap is_some e)) s.standing.around in
      let cost : read_if spending set (Some call) w1 ≡ false = sym (ap (λ (x : Option Call). read_if spending set x w1) asked) ∙ unspent in
      let new = stepped set.limits set.choice w.now call w.broker in
      let out = told set.limits set.choice w.now call w.broker in
      let last = calls_around c set s.ns call w1 around cost in
      let further = goes last.steady in
      subst (λ (x : Option Call). Stands first c largest set.limits (calls_if set x w1)) (sym asked)
      (record {
        ids = s.ids ++ further.more;
        grown = begin_then first s.ids (s.ids ++ further.more) s.grown (begin_on s.ids further.more);
        ns = s.ns;
        standing = record {
          around = last;
          seen = subst (IsSeen largest (s.ids ++ further.more) s.ns new) (sym (named_called c set call w1 ∙ ap (option_map (receiver_told new out)) found)) further.placed;
        };
      })

  -- of its line
  pub first_read : r.line.number ≡ Some n → r.line.up ≡ x ∷ rest
      → (IsSteady (stepped set.limits set.choice w.now call w.broker) → GoesFurther largest s.ids s.ns (receiver_after set.limits set.choice w.now call r w.broker) (stepped set.limits set.choice w.now call w.broker))
      → read_first spending set (to_broker c) w ≡ false → Stands first c largest set.limits (asks set (to_broker c) w)
  first_read is up goes unspent =
      let asked : input_on (view_of c w).number (view_of c w).up ≡ Some call =
      ap (λ (v : View). input_on v.number v.up) view ∙ (ap (λ (o : Option ℕ). input_on o (map (wire_back r.client r.window r.aliases) r.line.up)) is ∙ ap (λ (xs : List Back). input_on (Some n) (map (wire_back r.client r.window r.aliases) xs)) up) in
      taken_stands taken_up taken_up (input_on (view_of c w).number (view_of c w).up) asked goes unspent

  -- of the one that it gave up
  pub first_read_there : r.line.old_number ≡ Some n → r.line.old ≡ x ∷ rest
      → (IsSteady (stepped set.limits set.choice w.now call w.broker)
      → GoesFurther largest s.ids s.ns (receiver_called set.limits set.choice w.now call (record r { line = taken_old r.line }) w.broker) (stepped set.limits set.choice w.now call w.broker))
      → read_first spending set (old_to_broker c) w ≡ false → Stands first c largest set.limits (asks set (old_to_broker c) w)
  first_read_there is old goes unspent =
      let asked : input_on (view_of c w).old_number (view_of c w).old ≡ Some call =
      ap (λ (v : View). input_on v.old_number v.old) view ∙ (ap (λ (o : Option ℕ). input_on o (map (wire_back r.client r.window r.aliases) r.line.old)) is ∙ ap (λ (xs : List Back). input_on (Some n) (map (wire_back r.client r.window r.aliases) xs)) old) in
      taken_stands taken_old taken_old (input_on (view_of c w).old_number (view_of c w).old) asked goes unspent
