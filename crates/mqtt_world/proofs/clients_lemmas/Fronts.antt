-- The first packet under way from an end is what is asked of the broker.
use Rattle.std.proofs.Common.{◌≡◌, ◌∙◌, refl, ap, ℕ, Bool, true, false, List, [], ◌∷◌, map, Option, None, Some}
use Rattle.std.specs.Prelude.{bytes_eq, find, option_map, slice_get, if◌then◌else◌}
use Rattle.mqtt_packet.specs.declared.codec.packet.Packet.{Packet}
use Rattle.mqtt_rules.specs.step.Step.{Call}
use Rattle.mqtt_world_model.specs.model.Lines.{Line}
use Rattle.mqtt_world_model.specs.model.Ends.{Publisher, Receiver}
use Rattle.mqtt_world_model.specs.model.World.{Setting, World, call_of, input_on, publisher_named, receiver_named, view_by, view_line}
use Rattle.mqtt_world_model.specs.model.World.{view_of, view_publisher, view_receiver}
use Rattle.mqtt_world.specs.clients.Ends.{Ends, asked_by, in_world, paired, reading}

first_on : {U : Type 0} (f : U → Packet) (number : Option ℕ) (us : List U)
    → paired number (option_map f (slice_get us 0)) ≡ input_on number (map f us)
first_on f None us = refl
first_on f (Some n) [] = refl
first_on f (Some n) (u ∷ us) = refl

-- what is asked on a line
pub asked_on : {U : Type 0} (f : U → Packet) (l : Line U) (old : Bool) (packet : Option Packet) (number : Option ℕ) (call : Option Call)
    → packet ≡ option_map f (slice_get (if old then l.old else l.up) 0)
    → number ≡ if old then l.old_number else l.number
    → call ≡ paired number packet → call ≡ asked_by old (view_line f l)
asked_on f l false packet number call is at asks =
    asks ∙ (ap (λ (n : Option ℕ). paired n packet) at ∙ (ap (paired l.number) is ∙ first_on f l.number l.up))
asked_on f l true packet number call is at asks =
    asks ∙ (ap (λ (n : Option ℕ). paired n packet) at ∙ (ap (paired l.old_number) is ∙ first_on f l.old_number l.old))

asked_of : (old : Bool) (client : List ℕ) (set : Setting) (w : World) (call : Option Call)
    → call ≡ asked_by old (view_of client w) → call ≡ call_of set (reading old client) w
asked_of false client set w call is = is
asked_of true client set w call is = is

-- if a publisher has the name
pub publisher_is_asked : (old : Bool) (client : List ℕ) (e : Ends) (ps : List Publisher) (p : Publisher) (call : Option Call)
    → Some p ≡ find (λ p. bytes_eq p.client client) ps → ps ≡ e.publishers → call ≡ asked_by old (view_publisher p)
    → (set : Setting) (w : World) → call ≡ call_of set (reading old client) (in_world e w)
publisher_is_asked old client e ps p call found same is set w =
    let first : Some p ≡ publisher_named client (in_world e w) = found ∙ ap (find (λ (p : Publisher). bytes_eq p.client client)) same in
    asked_of old client set (in_world e w) call
    (is ∙ ap (λ (o : Option Publisher). asked_by old (view_by o (receiver_named client (in_world e w)))) first)

-- or a receiver, and no publisher
pub receiver_is_asked : (old : Bool) (client : List ℕ) (e : Ends) (ps : List Publisher) (rs : List Receiver) (r : Receiver) (call : Option Call)
    → None ≡ find (λ p. bytes_eq p.client client) ps → ps ≡ e.publishers
    → Some r ≡ find (λ r. bytes_eq r.client client) rs → rs ≡ e.receivers → call ≡ asked_by old (view_receiver r)
    → (set : Setting) (w : World) → call ≡ call_of set (reading old client) (in_world e w)
receiver_is_asked old client e ps rs r call none same found other is set w =
    let first : None ≡ publisher_named client (in_world e w) = none ∙ ap (find (λ (p : Publisher). bytes_eq p.client client)) same in
    let second : Some r ≡ receiver_named client (in_world e w) = found ∙ ap (find (λ (r : Receiver). bytes_eq r.client client)) other in
    asked_of old client set (in_world e w) call
    (is ∙ (ap (λ (o : Option Receiver). asked_by old (view_by None o)) second
    ∙ ap (λ (o : Option Publisher). asked_by old (view_by o (receiver_named client (in_world e w)))) first))
