-- Whether what a stranger sends is bytes, and names an end.
use Rattle.std.proofs.Common.{◌≡◌, ◌≤◌, ◌<◌, ◌+◌, ℕ, zero, suc, Bool, true, false, cond, not, nat_lt, ◌||◌, List, [], ◌∷◌, ◌++◌, length, map, drop}
use Rattle.std.proofs.Common.{Option, Some, None, bytes_eq, refl, sym, ap, ◌∙◌, arith, inl, inr, append_assoc, length-append}
use Rattle.std.specs.Prelude.{◌⊎◌, find, is_some, Ok, Err}
use Rattle.std.proofs.lemmas.List.{drop_all, drop-append-le}
use Rattle.std.proofs.lemmas.List.Folds.{list_all-append}
use Rattle.mqtt_packet.specs.declared.codec.packet.Packet.{Packet}
use Rattle.mqtt_packet.specs.declared.codec.packet.Packet.TheVariants as packets
use Rattle.mqtt_packet.specs.stream.Front.{first_of}
use Rattle.mqtt_packet.proofs.stream_lemmas.Fronts.{first_stays, first_within}
use Rattle.mqtt_rules.proofs.step_lemmas.contents.PassedContents.{two}
use Rattle.mqtt_rules.specs.step.Piece.{Front}
use Rattle.mqtt_rules.specs.step.Step.{Call, NewLine}
use Rattle.mqtt_world_model.specs.model.Ends.{Publisher, Receiver}
use Rattle.mqtt_world_model.specs.model.World.{Setting, World, answers_rest, are_bytes, asks, bytes_name, call_of_stranger, calls_if}
use Rattle.mqtt_world_model.specs.model.World.{comes, front_names, held_after, held_by as held_behind, held_count, is_bad_asking, is_end}
use Rattle.mqtt_world_model.specs.model.World.{linked_at, names_end, next_held, publisher_named, receiver_named}
use Rattle.mqtt_world_model.specs.model.World.{stranger, stranger_named}
use Rattle.mqtt_world_model.specs.single_steps.Unrolled.{bytes_come}
use Rattle.mqtt_world_model.proofs.single_steps_lemmas.Answered.{is_none_first, less_by, none_longer, not_both, nothing_first}

-- if neither holds, both fail
pub either_false : (a b : Bool) → (a || b) ≡ false → (a ≡ false) × (b ≡ false)
either_false true b h = absurd cc
either_false false b h = (refl, h)

-- ---- what a stranger sends

is_so : (t : Bool) → not t ≡ false → t ≡ true
is_so true h = refl
is_so false h = absurd cc

-- what is not bad to send is bytes, and names no end
pub good_bytes : (name bytes : List ℕ) (w : World) → is_bad_asking (stranger name bytes) w ≡ false
    → (are_bytes bytes ≡ true) × (bytes_name (length (bytes_come name bytes w)) (bytes_come name bytes w) w ≡ false)
good_bytes name bytes w good =
    let all = bytes_come name bytes w in
    let both = either_false (not (are_bytes bytes)) (bytes_name (length all) all w) good in
    (is_so (are_bytes bytes) both.0, both.1)

-- and such bytes are not bad to send
pub bytes_good : (name bytes : List ℕ) (w : World) → are_bytes bytes ≡ true
    → bytes_name (length (bytes_come name bytes w)) (bytes_come name bytes w) w ≡ false → is_bad_asking (stranger name bytes) w ≡ false
bytes_good name bytes w said none =
    let all = bytes_come name bytes w in
    ap (λ (t : Bool). not t || bytes_name (length all) all w) said ∙ none

-- bytes in two parts are bytes in each
pub said_parts : (part more : List ℕ) → are_bytes (part ++ more) ≡ true → (are_bytes part ≡ true) × (are_bytes more ≡ true)
said_parts part more said = two (are_bytes part) (are_bytes more) (sym (list_all-append (λ b. nat_lt b 256) part more) ∙ said)

-- ---- the ends are the same

find_told : {X : Type 0} (test : X → Bool) (f : X → X) (xs : List X) → ((x : X) → test (f x) ≡ test x)
    → is_some (find test (map f xs)) ≡ is_some (find test xs)
find_told test f [] h = refl
find_told test f (x ∷ xs) h = by (find_told test f xs h) (test x) refl
  where
    by : is_some (find test (map f xs)) ≡ is_some (find test xs) → (t : Bool) → test x ≡ t → is_some (find test (map f (x ∷ xs))) ≡ is_some (find test (x ∷ xs))
    by more true is = ap (λ (t : Bool). is_some (cond t (Some (f x)) (find test (map f xs)))) (h x ∙ is) ∙ sym (ap (λ (t : Bool). is_some (cond t (Some x) (find test xs))) is)
    by more false is =
        ap (λ (t : Bool). is_some (cond t (Some (f x)) (find test (map f xs)))) (h x ∙ is) ∙ (more
        ∙ sym (ap (λ (t : Bool). is_some (cond t (Some x) (find test xs))) is))

-- in this world the ends are those of that one
abbrev pub AreSameEnds : World → World → Type 0
AreSameEnds v w = (client : List ℕ) → is_end client v ≡ is_end client w

same_called : (set : Setting) (call : Option Call) (w : World) → AreSameEnds (calls_if set call w) w
same_called set None w client = refl
same_called set (Some call) w client =
    ap (λ (t : Bool). t || is_some (receiver_named client (calls_if set (Some call) w)))
    (find_told (λ (p : Publisher). bytes_eq p.client client) _ w.publishers (λ p. refl))
    ∙ ap (λ (t : Bool). is_some (publisher_named client w) || t)
    (find_told (λ (r : Receiver). bytes_eq r.client client) _ w.receivers (λ r. refl))

same_come : (set : Setting) (name bytes : List ℕ) (w : World) → AreSameEnds (comes set name bytes w) w
same_come set name bytes w = by (is_some (stranger_named name w))
  where
    by : (t : Bool) → AreSameEnds (linked_at set t name bytes w) w
    by true = λ client. refl
    by false = same_called set (Some NewLine) w

same_rest : (set : Setting) (more : ℕ) (name : List ℕ) (w : World) → AreSameEnds (answers_rest set more name w) w
same_rest set zero name w client = refl
same_rest set (suc more) name w client =
    let call = call_of_stranger (stranger_named name w) in
    same_rest set more name (calls_if set call (next_held name w)) client ∙ same_called set call (next_held name w) client

-- what a stranger asks leaves the ends
pub same_asked : (set : Setting) (name bytes : List ℕ) (w : World) → AreSameEnds (asks set (stranger name bytes) w) w
same_asked set name bytes w client =
    let v = comes set name bytes w in
    same_rest set (held_count (stranger_named name v)) name v client ∙ same_come set name bytes w client

names_same : (packet : Packet) (v w : World) → AreSameEnds v w → names_end packet v ≡ names_end packet w
names_same (packets.Connect c) v w same = same c.client_identifier
names_same packet v w same = refl

front_same : (f : Front) (v w : World) → AreSameEnds v w → front_names f v ≡ front_names f w
front_same (Ok None) v w same = refl
front_same (Ok (Some x)) v w same = names_same x.0 v w same
front_same (Err fault) v w same = refl

bytes_same : (n : ℕ) (bytes : List ℕ) (v w : World) → AreSameEnds v w → bytes_name n bytes v ≡ bytes_name n bytes w
bytes_same zero bytes v w same = refl
bytes_same (suc n) bytes v w same =
    ap (λ (t : Bool). t || bytes_name n (held_after bytes) v) (front_same (first_of bytes) v w same)
    ∙ ap (λ (t : Bool). front_names (first_of bytes) w || t) (bytes_same n (held_after bytes) v w same)

-- ---- as many looks as there are bytes are enough

-- if no packet is whole no end is named
pub none_named : (n : ℕ) (bytes : List ℕ) (w : World) → first_of bytes ≡ Ok None → bytes_name n bytes w ≡ false
none_named zero bytes w e = refl
none_named (suc n) bytes w e =
    let left : held_after bytes ≡ bytes = ap (λ (f : Front). held_behind f bytes) e in
    ap (λ (f : Front). front_names f w || bytes_name n (held_after bytes) w) e
    ∙ (ap (λ (xs : List ℕ). bytes_name n xs w) left ∙ none_named n bytes w e)

-- more looks than bytes name no more ends
pub enough_looks : (m n : ℕ) (bytes : List ℕ) (w : World) → length bytes ≤ m → length bytes ≤ n → bytes_name m bytes w ≡ bytes_name n bytes w
enough_looks zero n bytes w a b = sym (none_named n bytes w (none_longer bytes a))
enough_looks (suc m) zero bytes w a b = none_named (suc m) bytes w (none_longer bytes b)
enough_looks (suc m) (suc n) bytes w a b = elim (is_none_first (first_of bytes)) [
  | inl e ↦ none_named (suc m) bytes w e ∙ sym (none_named (suc n) bytes w e)
  | inr e ↦
      ap (λ (t : Bool). front_names (first_of bytes) w || t)
      (enough_looks m n (held_after bytes) w (less_by bytes (first_of bytes) m refl a e) (less_by bytes (first_of bytes) n refl b e))
]

-- ---- bytes in two parts, the first of which is a whole packet

-- neither part names an end
parts_by : (n : ℕ) (front more : List ℕ) (packet : Packet) (w : World) → 0 < n → length front ≤ n → length front + length more ≤ n
    → first_of front ≡ Ok (Some (packet, length front)) → first_of (front ++ more) ≡ Ok (Some (packet, length front))
    → bytes_name n (front ++ more) w ≡ false
    → (bytes_name (length front) front w ≡ false) × (bytes_name (length more) more w ≡ false)
parts_by zero front more packet w some a b e whole good = absurd (omega arith)
parts_by (suc n) front more packet w some a b e whole good =
    let none : drop (length front) front ≡ [] = drop_all (length front) front (omega arith) in
    let behind : held_after (front ++ more) ≡ more =
    ap (λ (f : Front). held_behind f (front ++ more)) whole
    ∙ (drop-append-le (length front) front more (omega arith) ∙ ap (λ (xs : List ℕ). xs ++ more) none) in
    let nothing : held_after front ≡ [] = ap (λ (f : Front). held_behind f front) e ∙ none in
    let size = first_within front packet (length front) e in
    let both = either_false (names_end packet w) (bytes_name n more w)
    (sym (ap (λ (f : Front). front_names f w || bytes_name n (held_after (front ++ more)) w) whole
    ∙ ap (λ (xs : List ℕ). names_end packet w || bytes_name n xs w) behind) ∙ good) in
    let first : bytes_name (suc n) front w ≡ false =
    ap (λ (f : Front). front_names f w || bytes_name n (held_after front) w) e
    ∙ (ap (λ (xs : List ℕ). names_end packet w || bytes_name n xs w) nothing
    ∙ (ap (λ (t : Bool). t || bytes_name n [] w) both.0 ∙ none_named n [] w nothing_first)) in (
      enough_looks (length front) (suc n) front w (omega arith) a ∙ first,
      enough_looks (length more) n more w (omega arith) (omega (arith, size.1)) ∙ both.1,
    )

stays_whole : (front more : List ℕ) (packet : Packet) → first_of front ≡ Ok (Some (packet, length front))
    → (first_of front ≡ Ok None) ⊎ (first_of (front ++ more) ≡ first_of front) → first_of (front ++ more) ≡ Ok (Some (packet, length front))
stays_whole front more packet e (inl none) = absurd (not_both (first_of front) packet (length front) none e)
stays_whole front more packet e (inr same) = same ∙ e

-- bytes that name no end name none in two parts
pub good_parts : (held part more : List ℕ) (packet : Packet) (w : World) → first_of (held ++ part) ≡ Ok (Some (packet, length (held ++ part)))
    → bytes_name (length (held ++ (part ++ more))) (held ++ (part ++ more)) w ≡ false
    → (bytes_name (length (held ++ part)) (held ++ part) w ≡ false) × (bytes_name (length more) more w ≡ false)
good_parts held part more packet w e good =
    let front = held ++ part in
    let joined : front ++ more ≡ held ++ (part ++ more) = append_assoc held part more in
    let size = first_within front packet (length front) e in
    let long = length-append front more in
    parts_by (length (front ++ more)) front more packet w (omega (arith, long, size.1)) (omega (arith, long)) (omega (arith, long)) e
    (stays_whole front more packet e (first_stays front more))
    (ap (λ (xs : List ℕ). bytes_name (length xs) xs w) joined ∙ good)

-- nor in a world with the same ends
pub good_after : (more : List ℕ) (v w : World) → AreSameEnds v w → bytes_name (length more) more w ≡ false → bytes_name (length more) more v ≡ false
good_after more v w same good = bytes_same (length more) more v w same ∙ good
