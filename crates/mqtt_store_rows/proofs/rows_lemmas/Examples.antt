-- Two copies and a retained message of one publication: what their rows say, with the one row of their message.
use Rattle.std.proofs.Common.{ℕ, pos, [], ◌∷◌, None, true, refl, arith}
use Rattle.std.specs.Prelude.{codes}
use Rattle.std.specs.Str.{is_utf8, chars}
use Rattle.std.proofs.Math.Utf8.{encode}
use Rattle.sqlite_value.specs.declared.value.Value.TheVariants.{Null, Int, Text, Blob}
use Rattle.sqlite_value.specs.Order.{Row}
use Rattle.mqtt_base.specs.Values.{varint}
use Rattle.mqtt_base.specs.declared.session.Cause.TheVariants.{Direct, Retained}
use Rattle.mqtt_base.specs.declared.session.Phase.TheVariants.{Waiting, Released}
use Rattle.mqtt_base.specs.declared.session.Qos.TheVariants.{ExactlyOnce}
use Rattle.mqtt_props.specs.declared.table.PropName.TheVariants.{MessageExpiryInterval, UserProperty}
use Rattle.mqtt_props.specs.Properties.{U32, Pair}
use Rattle.mqtt_records.specs.declared.messages.message.Content.{Content}
use Rattle.mqtt_records.specs.declared.messages.message.RetainedMessage.{RetainedMessage}
use Rattle.mqtt_records.specs.messages.PassedOn.{property}
use Rattle.mqtt_records.specs.messages.Queue.{CopyRow}
use Rattle.mqtt_records.specs.declared.state.records.Records.{Records}
use Rattle.mqtt_records.specs.declared.state.session.Session.{Session}
use Rattle.mqtt_records.specs.state.Records.{nothing}
use Rattle.mqtt_records.specs.state.Session.{fresh}
use Rattle.mqtt_records.specs.state.Contents.{StoredMessage, stored_message}
use Rattle.mqtt_store_rows.specs.rows.Rows.{SaysMessage}
use Rattle.mqtt_store_rows.specs.rows.Joins.{SaysCopy, SaysRetained}
use Rattle.mqtt_store_rows.specs.rows.Gives.{AreQueues, IsReferred}

-- ---- what is read

-- it expires in 60 s, and has a User Property
abbrev content : Content
content = record {
  topic = codes "a/b";
  properties = property MessageExpiryInterval (U32 60) ∷ property UserProperty (Pair (codes "k") (codes "v")) ∷ [];
  payload = 104 ∷ 105 ∷ [];
  arrived = 1000;
}

abbrev said : StoredMessage
said = stored_message 12 content

-- 12 bytes of properties: 02 and four bytes, 26 and two texts with their lengths
abbrev message_row : Row
message_row = Int (pos 12) ∷ Text (codes "a/b") ∷ Blob (12 ∷ 2 ∷ 0 ∷ 0 ∷ 0 ∷ 60 ∷ 38 ∷ 0 ∷ 1 ∷ 107 ∷ 0 ∷ 1 ∷ 118 ∷ []) ∷ Blob (104 ∷ 105 ∷ []) ∷ []

-- released under identifier 9, as the fifth; for the subscriptions with the identifiers 7 and 200
abbrev first_copy : CopyRow
first_copy = record {
  place = 3;
  phase = Released 9 5;
  copy = record { id = record { publication = 12; birth = 4; cause = Direct }; qos = ExactlyOnce; retain = true; identifiers = 7 ∷ 200 ∷ []; content = content };
}

abbrev first_row : Row
first_row =
    Int (pos 4) ∷ Int (pos 3) ∷ Int (pos 12) ∷ Int (pos 0) ∷ Text [] ∷ Int (pos 0) ∷ Int (pos 9) ∷ Int (pos 2) ∷ Int (pos 5)
    ∷ Int (pos 2) ∷ Int (pos 1) ∷ Blob (11 ∷ 7 ∷ 11 ∷ 200 ∷ 1 ∷ []) ∷ Int (pos 1000) ∷ []

-- of the retained message, for the second subscribe; it waits, and has no Subscription Identifier
abbrev second_copy : CopyRow
second_copy = record {
  place = 1;
  phase = Waiting;
  copy = record { id = record { publication = 12; birth = 6; cause = Retained 2 }; qos = ExactlyOnce; retain = true; identifiers = []; content = content };
}

abbrev second_row : Row
second_row =
    Int (pos 6) ∷ Int (pos 1) ∷ Int (pos 12) ∷ Int (pos 2) ∷ Text [] ∷ Int (pos 2) ∷ Null ∷ Int (pos 0) ∷ Null
    ∷ Int (pos 2) ∷ Int (pos 1) ∷ Blob [] ∷ Int (pos 1000) ∷ []

abbrev retained_one : RetainedMessage
retained_one = record { place = 8; sender = codes "s"; publication = 12; qos = ExactlyOnce; content = content }

abbrev kept_row : Row
kept_row = Int (pos 8) ∷ Text (codes "a/b") ∷ Text (codes "s") ∷ Int (pos 12) ∷ Int (pos 2) ∷ Int (pos 1000) ∷ []

-- ---- what the rows say

message_says : SaysMessage said message_row
unfolding varint is_utf8 chars encode
message_says = record {
  publication = refl;
  publication_range = (omega arith, omega arith);
  topic = refl;
  topic_range = (omega arith, refl);
  properties = record {
    block = record {
      bytes = 12 ∷ 2 ∷ 0 ∷ 0 ∷ 0 ∷ 60 ∷ 38 ∷ 0 ∷ 1 ∷ 107 ∷ 0 ∷ 1 ∷ 118 ∷ [];
      holds = refl;
      is = record { fits = record { each = (record { kind = refl; fits = omega arith }, (record { kind = refl; fits = ((omega arith, refl), (omega arith, refl)) }, tt)); short = omega arith }; may = refl; parts = refl };
      lawful = record { once = refl; values = refl };
    };
    goes_on = refl;
  };
  payload = refl;
  short = omega arith;
}

-- one Subscription Identifier is 0B 07, the other 0B C8 01
first_says : SaysCopy (said ∷ []) first_copy first_row
unfolding varint is_utf8 chars encode
first_says = record {
  own = record {
    place = refl;
    place_range = (omega arith, omega arith);
    phase = (refl, refl, refl, (omega arith, omega arith), (omega arith, omega arith), refl);
    own = record {
      id = record { birth = refl; birth_range = (omega arith, omega arith); publication = refl; publication_range = (omega arith, omega arith); cause = (refl, refl, refl) };
      qos = refl;
      qos_range = λ is. absurd cc;
      retain = refl;
      identifiers = record { bytes = 11 ∷ 7 ∷ 11 ∷ 200 ∷ 1 ∷ []; holds = refl; are = record { spelled = refl; range = ((omega arith, omega arith), ((omega arith, omega arith), tt)) } };
      arrived = refl;
      arrived_range = omega arith;
    };
  };
  message = refl;
  spelled = record {
    properties = record {
      each = (record { kind = refl; fits = omega arith }, (record { kind = refl; fits = omega arith }, (record { kind = refl; fits = omega arith }, (record { kind = refl; fits = ((omega arith, refl), (omega arith, refl)) }, tt))));
      short = omega arith;
    };
    short = omega arith;
  };
}

-- neither topic nor properties nor payload stand in its row
second_says : SaysCopy (said ∷ []) second_copy second_row
unfolding varint is_utf8 chars encode
second_says = record {
  own = record {
    place = refl;
    place_range = (omega arith, omega arith);
    phase = (refl, refl, refl);
    own = record {
      id = record { birth = refl; birth_range = (omega arith, omega arith); publication = refl; publication_range = (omega arith, omega arith); cause = (refl, refl, refl, (omega arith, omega arith)) };
      qos = refl;
      qos_range = λ is. absurd cc;
      retain = refl;
      identifiers = record { bytes = []; holds = refl; are = record { spelled = refl; range = tt } };
      arrived = refl;
      arrived_range = omega arith;
    };
  };
  message = refl;
  spelled = record {
    properties = record {
      each = (record { kind = refl; fits = omega arith }, (record { kind = refl; fits = ((omega arith, refl), (omega arith, refl)) }, tt));
      short = omega arith;
    };
    short = omega arith;
  };
}

kept_says : SaysRetained (said ∷ []) retained_one kept_row
unfolding is_utf8 chars encode
kept_says = record {
  own = record {
    place = refl;
    place_range = (omega arith, omega arith);
    topic = refl;
    sender = refl;
    sender_range = (omega arith, refl);
    publication = refl;
    publication_range = (omega arith, omega arith);
    qos = refl;
    arrived = refl;
    arrived_range = omega arith;
  };
  message = refl;
}

-- ---- records with these three

abbrev session_of : ℕ → CopyRow → Session
session_of birth x = record (fresh (record { birth = birth; client = codes "c"; expiry = 0; closed = None })) { queue = x ∷ [] }

abbrev three : Records
three = record nothing { sessions = session_of 4 first_copy ∷ session_of 6 second_copy ∷ []; retained = retained_one ∷ [] }

-- the rows of `queued` say both queues
queues_say : AreQueues (said ∷ []) (first_row ∷ second_row ∷ []) three.sessions
queues_say = (
  second_row ∷ [],
  record { front = first_row ∷ []; parts = refl; mine = (refl, tt); are = (first_says, tt) },
  ([], record { front = second_row ∷ []; parts = refl; mine = (refl, tt); are = (second_says, tt) }, refl),
)

-- three items refer to the one message
message_is_referred : IsReferred three said
message_is_referred = refl

-- nothing refers to a message of another number
other_is_not : IsReferred three (stored_message 13 content) → ⊥
other_is_not h = absurd cc
