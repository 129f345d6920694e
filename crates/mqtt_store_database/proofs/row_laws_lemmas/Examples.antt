-- Two copies and a retained message of one publication: their rows, and the one row of their message.
use Rattle.std.proofs.Common.{◌≡◌, ℕ, pos, List, [], ◌∷◌, None, true, refl, subst, inl, inr}
use Rattle.std.specs.Prelude.{codes}
use Rattle.sqlite_value.specs.declared.value.Value.TheVariants.{Null, Int, Text, Blob}
use Rattle.sqlite_value.specs.Order.{Row}
use Rattle.mqtt_base.specs.Values.{varint}
use Rattle.mqtt_base.specs.declared.session.Cause.TheVariants.{Direct, Retained}
use Rattle.mqtt_base.specs.declared.session.Phase.TheVariants.{Waiting, Released}
use Rattle.mqtt_base.specs.declared.session.Qos.TheVariants.{ExactlyOnce}
use Rattle.mqtt_props.specs.declared.table.PropName.TheVariants.{MessageExpiryInterval, UserProperty}
use Rattle.mqtt_props.specs.Properties.{U32, Pair}
use Rattle.mqtt_records.specs.declared.messages.message.Content.{Content}
use Rattle.mqtt_records.specs.declared.messages.message.RetainedMessage.{RetainedMessage}
use Rattle.mqtt_records.specs.messages.PassedOn.{property}
use Rattle.mqtt_records.specs.messages.Queue.{CopyRow}
use Rattle.mqtt_records.specs.declared.state.records.Records.{Records}
use Rattle.mqtt_records.specs.declared.state.session.Session.{Session}
use Rattle.mqtt_records.specs.state.Records.{nothing}
use Rattle.mqtt_records.specs.state.Session.{fresh}
use Rattle.mqtt_records.specs.state.Members.{Has, InQueue}
use Rattle.mqtt_records.specs.state.Contents.{StoredMessage, stored_message, copy_message, IsMessageOf, SharesContents}
use Rattle.mqtt_store_database.specs.item_laws.Written.{AreWritten}
use Rattle.mqtt_store_database.specs.row_laws.Items.{IsMessageRow, IsQueuedRow, IsKeptRow}

-- it expires in 60 s, and has a User Property
abbrev content : Content
content = record {
  topic = codes "a/b";
  properties = property MessageExpiryInterval (U32 60) ∷ property UserProperty (Pair (codes "k") (codes "v")) ∷ [];
  payload = 104 ∷ 105 ∷ [];
  arrived = 1000;
}

-- ---- rows

-- released under identifier 9, as the fifth; for the subscriptions with the identifiers 7 and 200
abbrev first_copy : CopyRow
first_copy = record {
  place = 3;
  phase = Released 9 5;
  copy = record { id = record { publication = 12; birth = 4; cause = Direct }; qos = ExactlyOnce; retain = true; identifiers = 7 ∷ 200 ∷ []; content = content };
}

-- one Subscription Identifier is 0B 07, the other 0B C8 01; neither topic nor properties nor payload stand here
first_row : IsQueuedRow (4, first_copy)
    (Int (pos 1) ∷ Int (pos 4) ∷ Int (pos 3) ∷ Int (pos 12) ∷ Int (pos 0) ∷ Text [] ∷ Int (pos 0) ∷ Int (pos 9) ∷ Int (pos 2) ∷ Int (pos 5)
    ∷ Int (pos 2) ∷ Int (pos 1) ∷ Blob (11 ∷ 7 ∷ 11 ∷ 200 ∷ 1 ∷ []) ∷ Int (pos 1000) ∷ [])
unfolding varint
first_row = (pos 1, refl)

-- of the retained message, for the second subscribe; it waits, and has no Subscription Identifier
abbrev second_copy : CopyRow
second_copy = record {
  place = 1;
  phase = Waiting;
  copy = record { id = record { publication = 12; birth = 6; cause = Retained 2 }; qos = ExactlyOnce; retain = true; identifiers = []; content = content };
}

second_row : IsQueuedRow (6, second_copy)
    (Int (pos 2) ∷ Int (pos 6) ∷ Int (pos 1) ∷ Int (pos 12) ∷ Int (pos 2) ∷ Text [] ∷ Int (pos 2) ∷ Null ∷ Int (pos 0) ∷ Null
    ∷ Int (pos 2) ∷ Int (pos 1) ∷ Blob [] ∷ Int (pos 1000) ∷ [])
second_row = (pos 2, refl)

abbrev retained_one : RetainedMessage
retained_one = record { place = 8; sender = codes "s"; publication = 12; qos = ExactlyOnce; content = content }

retained_row : IsKeptRow retained_one (Int (pos 8) ∷ Null ∷ Text (codes "a/b") ∷ Text (codes "s") ∷ Int (pos 12) ∷ Int (pos 2) ∷ Int (pos 1000) ∷ [])
retained_row = refl

-- 12 bytes of properties: 02 and four bytes, 26 and two texts with their lengths
abbrev message_one : Row
message_one = Int (pos 12) ∷ Null ∷ Text (codes "a/b") ∷ Blob (12 ∷ 2 ∷ 0 ∷ 0 ∷ 0 ∷ 60 ∷ 38 ∷ 0 ∷ 1 ∷ 107 ∷ 0 ∷ 1 ∷ 118 ∷ []) ∷ Blob (104 ∷ 105 ∷ []) ∷ []

abbrev said : StoredMessage
said = stored_message 12 content

message_is : IsMessageRow said message_one
unfolding varint
message_is = refl

-- ---- records with these three

abbrev session_of : ℕ → CopyRow → Session
session_of birth x = record (fresh (record { birth = birth; client = codes "c"; expiry = 0; closed = None })) { queue = x ∷ [] }

abbrev three : Records
three = record nothing { sessions = session_of 4 first_copy ∷ session_of 6 second_copy ∷ []; retained = retained_one ∷ [] }

queued_says : (b : ℕ) (x : CopyRow) → InQueue three b x → copy_message x ≡ said
queued_says b x it = elim it.1 [
  | inl first ↦ elim (subst (λ (s : Session). Has s.queue x) first it.3) [ inl is ↦ rw is refl | inr none ↦ absurd none ]
  | inr others ↦ elim others [
    | inl second ↦ elim (subst (λ (s : Session). Has s.queue x) second it.3) [ inl is ↦ rw is refl | inr none ↦ absurd none ]
    | inr none ↦ absurd none
  ]
]

-- all three say the same
three_say : (m : StoredMessage) → IsMessageOf three m → m ≡ said
three_say m (inl it) = rw it.3 (queued_says it.0 it.1 it.2)
three_say m (inr it) = elim it.1 [ inl is ↦ rw (it.2, is) refl | inr none ↦ absurd none ]

three_share : SharesContents three
three_share m h n k same = rw (three_say m h, three_say n k) refl

-- one row for three items
one_row : AreWritten IsMessageRow (IsMessageOf three) (message_one ∷ [])
one_row = record {
  each = λ m h. (message_one, inl refl, rw (three_say m h) message_is);
  only = λ row h. elim h [
    | inl is ↦ (said, inr (retained_one, inl refl, refl), rw is message_is)
    | inr none ↦ absurd none
  ];
}

-- ---- another payload under the same number

abbrev other_copy : CopyRow
other_copy = record second_copy { copy = record second_copy.copy { content = record content { payload = [] } } }

abbrev two : Records
two = record nothing { sessions = session_of 4 first_copy ∷ session_of 6 other_copy ∷ [] }

abbrev payload_of : StoredMessage → List ℕ
payload_of m = m.payload

abbrev is_empty : List ℕ → Type 0
is_empty [] = Unit {0}
is_empty (n ∷ ns) = ⊥

-- a table by number can't have both
two_do_not_share : SharesContents two → ⊥
two_do_not_share shared =
    let first : IsMessageOf two said = inl (4, first_copy, (session_of 4 first_copy, inl refl, refl, inl refl), refl) in
    let other : IsMessageOf two (copy_message other_copy) = inl (6, other_copy, (session_of 6 other_copy, inr (inl refl), refl, inl refl), refl) in
    subst (λ (m : StoredMessage). is_empty (payload_of m)) (shared said first (copy_message other_copy) other refl) tt
