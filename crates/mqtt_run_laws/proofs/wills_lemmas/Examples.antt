-- Worked runs: five Wills of one session that end, each in its way, and one that stands; and when a Will is published (MQTT 5.0, 3.1.2.5, 3.1.3.2.2, 3.14.4).
use Rattle.std.proofs.Common.{◌≡◌, ℕ, Bool, true, false, List, [], ◌∷◌, ◌++◌, map, Some, None, refl, arith}
use Rattle.std.specs.Prelude.{codes}
use Rattle.std.specs.Str.{is_utf8, chars}
use Rattle.std.proofs.Math.Utf8.{encode}
use Rattle.mqtt_base.specs.Values.{varint}
use Rattle.mqtt_base.specs.declared.session.Qos.TheVariants.{ExactlyOnce}
use Rattle.mqtt_props.specs.declared.table.PropName.TheVariants.{SessionExpiryInterval, WillDelayInterval}
use Rattle.mqtt_props.specs.Properties.{U32}
use Rattle.mqtt_packet.specs.declared.codec.packet.Packet.{Packet}
use Rattle.mqtt_packet.specs.declared.codec.packet.Packet.TheVariants.{Connect}
use Rattle.mqtt_packet.specs.declared.connect.connect.Will.{Will}
use Rattle.mqtt_records.specs.messages.PassedOn.{property}
use Rattle.mqtt_rules.specs.declared.step.Capacity.{Capacity}
use Rattle.mqtt_rules.specs.step.Laws.{AreWithin, Asked, Event, Reopened, blank}
use Rattle.mqtt_rules.specs.step.Packets.{disconnect}
use Rattle.mqtt_rules.specs.step.Step.{Call, Input, Lost, NewLine, Tick}
use Rattle.mqtt_rules.proofs.step_lemmas.examples.Play.{first, hello, hello_with, hi, never_expires, topic, usual}
use Rattle.mqtt_world_laws.specs.of_calls.Calls.{SpendNone, asked_in_all}
use Rattle.mqtt_world_laws.proofs.of_calls_lemmas.Keeping.{blank_in_order}
use Rattle.mqtt_run_laws.specs.wills.Fates.{Cancelled, Dropped, EachWillStandsOrEnded, WillEnd, Published, Refused, StoredWill, wills_over}
use Rattle.mqtt_run_laws.proofs.wills_lemmas.Fates.{each_stands_or_ended}

-- nothing may be retained
abbrev full : Capacity
full = record usual { retained = 0 }

abbrev asked : ℕ → Call → Event
asked now call = Asked usual first now call

abbrev last_words : Bool → ℕ → Will
last_words retain delay = record { qos = ExactlyOnce; retain = retain; properties = property WillDelayInterval (U32 delay) ∷ []; topic = topic; payload = hi }

-- w1 comes on a new line, with a Will of this RETAIN and delay in seconds
abbrev comes : ℕ → ℕ → Bool → ℕ → List Event
comes now line retain delay = asked now NewLine ∷ asked now (Input line (hello_with (codes "w1") (never_expires ∷ []) (Some (last_words retain delay)))) ∷ []

-- The first Will is published as the line is lost. The second has a delay, and w1 comes again before. The third is dropped by DISCONNECT.
-- The fourth is published after ten seconds. The fifth may not be retained. The sixth stands
abbrev mourned : List Event
mourned =
    comes 0 1 false 0 ++ asked 0 (Lost 1) ∷ []
    ++ comes 0 2 false 10 ++ asked 0 (Lost 2) ∷ []
    ++ comes 5000 3 false 10 ++ asked 5000 (Input 3 (disconnect 0)) ∷ []
    ++ comes 6000 4 false 10 ++ asked 7000 (Lost 4) ∷ asked 16999 Tick ∷ asked 17000 Tick ∷ []
    ++ comes 18000 5 true 0 ++ Asked full first 18000 (Lost 5) ∷ []
    ++ comes 19000 6 false 10

abbrev ends_of : StoredWill → List WillEnd
ends_of x = x.ends

-- the newest first
pub each_ends_in_its_way : map ends_of (wills_over 1 (asked_in_all mourned blank) []) ≡ [] ∷ (Refused ∷ []) ∷ (Published 2 ∷ []) ∷ (Dropped ∷ []) ∷ (Cancelled ∷ []) ∷ (Published 1 ∷ []) ∷ []
unfolding varint is_utf8 chars encode
each_ends_in_its_way = refl

-- ---- when a Will is published that has a delay of ten seconds

-- w1 comes with this Session Expiry Interval in seconds, and its line is lost
abbrev lost : ℕ → List Event
lost expiry = asked 0 NewLine ∷ asked 0 (Input 1 (hello_with (codes "w1") (property SessionExpiryInterval (U32 expiry) ∷ []) (Some (last_words false 10)))) ∷ asked 0 (Lost 1) ∷ []

-- what has become of the Wills of w1 then
abbrev fates : List Event → List (List WillEnd)
fates es = map ends_of (wills_over 1 (asked_in_all es blank) [])

-- it stands until its session ends
pub it_stands_with_its_session : fates (lost 5 ++ asked 4999 Tick ∷ []) ≡ [] ∷ []
unfolding varint is_utf8 chars encode
it_stands_with_its_session = refl

-- and is published when it does
pub it_ends_with_its_session : fates (lost 5 ++ asked 5000 Tick ∷ []) ≡ (Published 1 ∷ []) ∷ []
unfolding varint is_utf8 chars encode
it_ends_with_its_session = refl

abbrev hello_clean : Packet
hello_clean = Connect (record {
  clean_start = true;
  keep_alive = 0;
  properties = [];
  client_identifier = codes "w1";
  will = None;
  user_name = None;
  password = None;
})

-- so by Clean Start
pub clean_start_publishes_it : fates (lost 60 ++ asked 1000 NewLine ∷ asked 1000 (Input 2 hello_clean) ∷ []) ≡ (Published 1 ∷ []) ∷ []
unfolding varint is_utf8 chars encode
clean_start_publishes_it = refl

-- if w1 comes again with Clean Start 0 it isn't
pub coming_again_cancels_it : fates (lost 60 ++ asked 1000 NewLine ∷ asked 1000 (Input 2 (hello (codes "w1"))) ∷ []) ≡ (Cancelled ∷ []) ∷ []
unfolding varint is_utf8 chars encode
coming_again_cancels_it = refl

-- a stop is a lost line: one without a delay is published as the broker opens
pub an_opening_publishes_it : fates (comes 0 1 false 0 ++ Reopened usual first 0 ∷ []) ≡ (Published 1 ∷ []) ∷ []
unfolding varint is_utf8 chars encode
an_opening_publishes_it = refl

-- ---- the law of the first run

usual_within : AreWithin usual
usual_within = record { queue = omega arith; sessions = omega arith; retained = omega arith }

full_within : AreWithin full
full_within = record { queue = omega arith; sessions = omega arith; retained = omega arith }

-- no number is spent
pub it_spends_none : SpendNone mourned blank
unfolding varint is_utf8 chars encode
it_spends_none =
    ((usual_within, refl), ((usual_within, refl), ((usual_within, refl), ((usual_within, refl), ((usual_within, refl), ((usual_within, refl), ((usual_within, refl), ((usual_within, refl), ((usual_within, refl), ((usual_within, refl), ((usual_within, refl), ((usual_within, refl), ((usual_within, refl), ((usual_within, refl), ((usual_within, refl), ((usual_within, refl), ((full_within, refl), ((usual_within, refl), ((usual_within, refl), tt)))))))))))))))))))

-- so the law holds of it
pub it_holds : EachWillStandsOrEnded mourned blank
it_holds = each_stands_or_ended mourned blank blank_in_order it_spends_none
