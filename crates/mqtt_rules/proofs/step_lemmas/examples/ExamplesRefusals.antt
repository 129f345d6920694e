-- Refusals of CONNECT in their order, and client identifiers that the broker assigns (MQTT 5.0, 3.1.3.1, 3.2.2.2).
use Rattle.std.proofs.Common.{◌≡◌, ℕ, true, false, List, [], ◌∷◌, ◌++◌, map, Option, Some, None, refl}
use Rattle.std.specs.Prelude.{codes, replicate}
use Rattle.std.specs.Fmt.{digits}
use Rattle.mqtt_base.specs.Values.{varint}
use Rattle.mqtt_base.specs.declared.session.Qos.TheVariants.{ExactlyOnce}
use Rattle.mqtt_props.specs.declared.table.PropName.TheVariants.{AuthenticationMethod, MaximumPacketSize}
use Rattle.mqtt_props.specs.Properties.{Prop, Text, U32}
use Rattle.mqtt_packet.specs.declared.connect.connect.Connect.{Connect}
use Rattle.mqtt_packet.specs.declared.connect.connect.Will.{Will}
use Rattle.mqtt_records.specs.state.Records.{nothing}
use Rattle.mqtt_records.specs.messages.PassedOn.{property}
use Rattle.mqtt_rules.specs.step.Packets.{connack, size_of}
use Rattle.mqtt_rules.specs.step.Connect.{refusal}
use Rattle.mqtt_rules.specs.step.Step.{NewLine, Input, Lost, Outcome}
use Rattle.mqtt_rules.proofs.step_lemmas.examples.Play.{Event, at, asks, out, hello, hello_with, welcome, in_line, hi}

abbrev asked : List ℕ → List Prop → Option Will → Connect
asked name ps will = record {
  clean_start = false;
  keep_alive = 0;
  properties = ps;
  client_identifier = name;
  will = will;
  user_name = None;
  password = None;
}

-- what is wrong: a method, a small size, a long name, a name that the broker assigns, a Will to a filter
abbrev method : Prop
method = property AuthenticationMethod (Text (codes "x"))

abbrev takes : ℕ → Prop
takes size = property MaximumPacketSize (U32 size)

abbrev long : List ℕ
long = codes "auto-" ++ replicate 60 97

abbrev to_filter : Option Will
to_filter = Some (record { qos = ExactlyOnce; retain = false; properties = []; topic = codes "a/+"; payload = hi })

the_first_that_holds : map (λ c. refusal c nothing) (
    asked long (method ∷ takes 63 ∷ []) to_filter
    ∷ asked long (takes 63 ∷ []) to_filter
    ∷ asked long (takes 64 ∷ []) to_filter
    ∷ asked (codes "auto-1") [] to_filter
    ∷ asked (codes "r1") [] to_filter
    ∷ asked (codes "r1") [] None
    ∷ []) ≡ Some 0x8c ∷ Some 0x95 ∷ Some 0x85 ∷ Some 0x85 ∷ Some 0x90 ∷ None ∷ []
the_first_that_holds = refl

-- a CONNACK that refuses has five bytes, and is sent to a client that takes so many
its_bytes : size_of (connack false 0x95 []) ≡ 5
unfolding varint
its_bytes = refl

abbrev with_size : ℕ → Outcome
with_size size = asks (at 0 NewLine ∷ []) (at 0 (Input 1 (hello_with (codes "r1") (takes size ∷ []) None)))

five_bytes_suffice : with_size 5 ≡ out ((1, connack false 0x95 []) ∷ []) (1 ∷ []) [] false
unfolding varint
five_bytes_suffice = refl

four_do_not : with_size 4 ≡ out [] (1 ∷ []) [] false
unfolding varint
four_do_not = refl

-- a name that was assigned is its client's from then on
abbrev assigned : List Event
assigned = in_line 1 (hello []) ++ at 0 (Lost 1) ∷ at 0 NewLine ∷ []

an_assigned_name_is_resumed : asks assigned (at 0 (Input 2 (hello (codes "auto-1")))) ≡ out ((2, welcome true) ∷ []) [] [] false
unfolding varint digits
an_assigned_name_is_resumed = refl

the_next_is_not_given_yet : asks assigned (at 0 (Input 2 (hello (codes "auto-2")))) ≡ out ((2, connack false 0x85 []) ∷ []) (2 ∷ []) [] false
unfolding varint digits
the_next_is_not_given_yet = refl
