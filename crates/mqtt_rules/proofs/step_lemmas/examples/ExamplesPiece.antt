-- Worked pieces of a stream: the first whole packet or fault is answered, however the bytes come (MQTT 5.0, 2.1, 4.13).
use Rattle.std.proofs.Common.{◌≡◌, ℕ, true, false, List, [], ◌∷◌, ◌++◌, map, Bool, take, drop, refl}
use Rattle.std.specs.Prelude.{replicate}
use Rattle.std.specs.Fmt.{digits}
use Rattle.std.specs.Str.{is_utf8, chars}
use Rattle.std.proofs.Math.Utf8.{encode}
use Rattle.mqtt_base.specs.Values.{varint}
use Rattle.mqtt_base.specs.Reading.{groups_at, varint_at, blob_at, text_at}
use Rattle.mqtt_base.specs.Items.{items_in, items_at}
use Rattle.mqtt_props.specs.Reading.{value_at, prop_at, block_at}
use Rattle.mqtt_props.specs.Laws.{layout_at}
use Rattle.mqtt_packet.specs.connect.Connect.{will_at, user_name_at, password_at, fields_at, connect_at}
use Rattle.mqtt_packet.specs.codec.Frames.{frame_at, empty_at, body_at, versioned_at, lawful_at, packet_at}
use Rattle.mqtt_packet.specs.stream.Front.{size_at, first_of}
use Rattle.mqtt_packet.specs.stream.Stream.{empty}
use Rattle.mqtt_rules.specs.step.Step.{NewLine, bytes_out, nothing_told}
use Rattle.mqtt_rules.specs.step.Piece.{Pieced, pieced, bytes_taken}
use Rattle.mqtt_rules.proofs.step_lemmas.examples.Play.{usual, blank, first, at, runs, bytes}

-- ---- what is told of a piece: the packets as bytes, the lines that closed, the bytes taken, and whether to call again

abbrev Told : Type 0
Told = List (List ℕ) × List ℕ × ℕ × Bool

abbrev says : Pieced → Told
says p = (map (λ x. x.1) (bytes_out p.out), p.out.closed, p.out.taken, p.out.again)

-- a line is linked, and nothing came yet; then a piece comes on it
abbrev linked : Pieced
linked = record { broker = runs (at 0 NewLine ∷ []) blank; framing = empty; out = nothing_told }

abbrev comes : List ℕ → Pieced → Pieced
comes piece p = pieced usual first 0 1 piece p.framing p.broker

-- ---- CONNECT, whole or in two pieces

abbrev connect : List ℕ
connect = bytes "10 0d 00 04 4d 51 54 54 05 02 00 3c 00 00 00"

abbrev connack : List ℕ
connack = bytes "20 17 00 00 14 12 00 06 61 75 74 6f 2d 31 21 00 14 22 00 0a 27 00 01 00 00"

abbrev connected : Pieced
connected = comes connect linked

in_one_piece : says connected ≡ (connack ∷ [], [], 15, false)
unfolding first_of size_at packet_at frame_at lawful_at body_at versioned_at connect_at fields_at will_at user_name_at password_at layout_at block_at items_at items_in prop_at value_at text_at blob_at is_utf8 chars encode varint_at groups_at varint digits empty_at
in_one_piece = refl

abbrev begun : ℕ → Pieced
begun n = comes (take n connect) linked

abbrev front_says : ℕ → Told
front_says n = says (begun n)

abbrev rest_says : ℕ → Told
rest_says n = says (comes (drop n connect) (begun n))

before_it_is_whole : map front_says (1 ∷ 2 ∷ 7 ∷ 14 ∷ []) ≡ ([], [], 1, false) ∷ ([], [], 2, false) ∷ ([], [], 7, false) ∷ ([], [], 14, false) ∷ []
unfolding first_of size_at packet_at frame_at lawful_at body_at versioned_at connect_at fields_at will_at user_name_at password_at layout_at block_at items_at items_in prop_at value_at text_at blob_at is_utf8 chars encode varint_at groups_at varint digits empty_at
before_it_is_whole = refl

however_it_is_cut : map rest_says (1 ∷ 2 ∷ 7 ∷ 14 ∷ [])
    ≡ (connack ∷ [], [], 14, false) ∷ (connack ∷ [], [], 13, false) ∷ (connack ∷ [], [], 8, false) ∷ (connack ∷ [], [], 1, false) ∷ []
unfolding first_of size_at packet_at frame_at lawful_at body_at versioned_at connect_at fields_at will_at user_name_at password_at layout_at block_at items_at items_in prop_at value_at text_at blob_at is_utf8 chars encode varint_at groups_at varint digits empty_at
however_it_is_cut = refl

-- of another version
another_version : says (comes (bytes "10 0d 00 04 4d 51 54 54 04 02 00 3c 00 00 00") linked) ≡ (bytes "20 03 00 84 00" ∷ [], 1 ∷ [], 15, false)
unfolding first_of size_at packet_at frame_at lawful_at body_at versioned_at connect_at fields_at will_at user_name_at password_at layout_at block_at items_at items_in prop_at value_at text_at blob_at is_utf8 chars encode varint_at groups_at varint digits empty_at
another_version = refl

-- ---- a piece with more than a packet: one is answered, and the call comes again

abbrev and_a_ping : Pieced
and_a_ping = comes (connect ++ bytes "c0 00") linked

one_packet_a_call : says and_a_ping ≡ (connack ∷ [], [], 17, true)
unfolding first_of size_at packet_at frame_at lawful_at body_at versioned_at connect_at fields_at will_at user_name_at password_at layout_at block_at items_at items_in prop_at value_at text_at blob_at is_utf8 chars encode varint_at groups_at varint digits empty_at
one_packet_a_call = refl

the_next_with_no_further_byte : says (comes [] and_a_ping) ≡ (bytes "d0 00" ∷ [], [], 0, false)
unfolding first_of size_at packet_at frame_at lawful_at body_at versioned_at connect_at fields_at will_at user_name_at password_at layout_at block_at items_at items_in prop_at value_at text_at blob_at is_utf8 chars encode varint_at groups_at varint digits empty_at
the_next_with_no_further_byte = refl

-- behind a fault no byte is taken, and the line closes
abbrev and_a_fault : Pieced
and_a_fault = comes (connect ++ bytes "c1") linked

a_fault_is_whole_at_once : says and_a_fault ≡ (connack ∷ [], [], 16, true)
unfolding first_of size_at packet_at frame_at lawful_at body_at versioned_at connect_at fields_at will_at user_name_at password_at layout_at block_at items_at items_in prop_at value_at text_at blob_at is_utf8 chars encode varint_at groups_at varint digits empty_at
a_fault_is_whole_at_once = refl

nothing_is_taken_behind_it : says (comes (bytes "c0 00") and_a_fault) ≡ (bytes "e0 01 81" ∷ [], 1 ∷ [], 0, false)
unfolding first_of size_at packet_at frame_at lawful_at body_at versioned_at connect_at fields_at will_at user_name_at password_at layout_at block_at items_at items_in prop_at value_at text_at blob_at is_utf8 chars encode varint_at groups_at varint digits empty_at
nothing_is_taken_behind_it = refl

-- ---- a packet above 65,536 bytes is refused with the last byte of its Remaining Length

not_yet_too_large : says (comes (bytes "30 fd ff") connected) ≡ ([], [], 3, false)
unfolding first_of size_at packet_at frame_at lawful_at body_at versioned_at connect_at fields_at will_at user_name_at password_at layout_at block_at items_at items_in prop_at value_at text_at blob_at is_utf8 chars encode varint_at groups_at varint digits empty_at
not_yet_too_large = refl

too_large : says (comes (bytes "30 fd ff 03") connected) ≡ (bytes "e0 01 95" ∷ [], 1 ∷ [], 4, false)
unfolding first_of size_at packet_at frame_at lawful_at body_at versioned_at connect_at fields_at will_at user_name_at password_at layout_at block_at items_at items_in prop_at value_at text_at blob_at is_utf8 chars encode varint_at groups_at varint digits empty_at
too_large = refl

too_large_before_connect : says (comes (bytes "30 fd ff 03") linked) ≡ ([], 1 ∷ [], 4, false)
unfolding first_of size_at packet_at frame_at lawful_at body_at versioned_at connect_at fields_at will_at user_name_at password_at layout_at block_at items_at items_in prop_at value_at text_at blob_at is_utf8 chars encode varint_at groups_at varint digits empty_at
too_large_before_connect = refl

the_greatest_is_waited_for : says (comes (bytes "30 fc ff 03") connected) ≡ ([], [], 4, false)
unfolding first_of size_at packet_at frame_at lawful_at body_at versioned_at connect_at fields_at will_at user_name_at password_at layout_at block_at items_at items_in prop_at value_at text_at blob_at is_utf8 chars encode varint_at groups_at varint digits empty_at
the_greatest_is_waited_for = refl

-- at most so many bytes are held
as_many_as_fit : bytes_taken (bytes "30 fc ff 03" ++ replicate 65530 0) (1 ∷ 2 ∷ 3 ∷ []) ≡ 2
unfolding first_of size_at varint_at groups_at
as_many_as_fit = refl

-- ---- a line that isn't linked takes nothing

on_no_line : says (pieced usual first 0 2 connect empty linked.broker) ≡ ([], [], 0, false)
on_no_line = refl
