-- Lines, by computing.
use Rattle.std.proofs.Common.{◌≡◌, true, false, [], ◌∷◌, ◌++◌, codes, refl, arith}
use Rattle.std.proofs.lemmas.Fmt.{decimal_digit}
use Rattle.hex.specs.Hex.{encode_with}
use Rattle.mqtt_packet.specs.declared.parts.fault.Fault.TheVariants.{TooLarge}
use Rattle.mqtt_packet.specs.declared.codec.packet.Packet.TheVariants.{Publish, Pingreq}
use Rattle.mqtt_packet.specs.declared.codec.publish.Delivery.TheVariants.{AtMostOnce}
use Rattle.mqtt_packet.specs.stream.Stream.{Item, short_at, fault_at}
use Rattle.mqtt_cli.specs.viewer.PacketText.{fields_alone}
use Rattle.mqtt_cli.specs.viewer.View.{line_feed, view_text}
use Rattle.mqtt_cli.specs.viewer.Vectors.{report}
use Rattle.mqtt_cli.specs.declared.viewer.packet_text.TheConstants.{HEAD_SIZE}

head_size : HEAD_SIZE ≡ 16
head_size = refl

-- a report with a vector that is wrong
one_is_wrong : report (true ∷ false ∷ [])
    ≡ codes "V1 ok" ++ line_feed ∷ codes "V2 wrong" ++ line_feed ∷ codes "1 of 2" ++ line_feed ∷ []
one_is_wrong = rw (decimal_digit 1 (omega arith), decimal_digit 2 (omega arith)) refl

abbrev ping : Item
ping = record { place = 0; size = 2; packet = Pingreq }

abbrev publish : Item
publish = record { place = 2; size = 9; packet = Publish (record { delivery = AtMostOnce; retain = false; topic = codes "a/b"; properties = []; payload = codes "!" }) }

both : view_text fields_alone (ping ∷ publish ∷ []) (short_at 11 [])
    ≡ codes "0 PINGREQ 2" ++ line_feed ∷ codes "2 PUBLISH 9 qos=0 topic=a/b payload=1" ++ line_feed ∷ []
both = rw (decimal_digit 0 (omega arith), decimal_digit 1 (omega arith), decimal_digit 2 (omega arith), decimal_digit 9 (omega arith)) refl

-- the space of a topic is escaped, and so is %
escapes : view_text fields_alone (record { place = 0; size = 9; packet = Publish (record { delivery = AtMostOnce; retain = true; topic = codes "a %"; properties = []; payload = [] }) } ∷ []) (short_at 9 (0xc0 ∷ []))
    ≡ codes "0 PUBLISH 9 qos=0 retain topic=a%20%25 payload=0" ++ line_feed ∷ codes "9 short" ++ line_feed ∷ []
escapes = rw (decimal_digit 0 (omega arith), decimal_digit 9 (omega arith)) refl

heads : view_text (record { payload = true; properties = false; json = false }) (publish ∷ []) (fault_at 9 TooLarge)
    ≡ codes "2 PUBLISH 9 qos=0 topic=a/b payload=1 head=21" ++ line_feed ∷ codes "9 fault TooLarge" ++ line_feed ∷ []
unfolding encode_with
heads = rw (decimal_digit 1 (omega arith), decimal_digit 2 (omega arith), decimal_digit 9 (omega arith)) refl
