-- A piece is one step of the broker at most.
use Rattle.std.proofs.Common.{◌≡◌, ◌≤◌, ℕ, zero, suc, Bool, true, false, cond, ◌||◌, List, [], ◌∷◌, ◌++◌, length, map, Option, Some, None, bytes_eq}
use Rattle.std.proofs.Common.{refl, sym, ap, ◌∙◌, arith}
use Rattle.std.specs.Prelude.{find, is_some, option_map, Ok}
use Rattle.std.proofs.lemmas.List.{append-nil}
use Rattle.mqtt_packet.specs.stream.Front.{first_of}
use Rattle.mqtt_rules.specs.step.Deeds.{Deed}
use Rattle.mqtt_rules.specs.step.Step.{Call}
use Rattle.mqtt_world_model.specs.model.Ends.{Publisher, Receiver}
use Rattle.mqtt_world_model.specs.model.Run.{Reading, deeds_at, read_asked, read_at, read_if, read_rest, the_deeds}
use Rattle.mqtt_world_model.specs.model.World.{Setting, Stranger, World, ask, asks, bytes_held, bytes_name, call_of_stranger, call_on}
use Rattle.mqtt_world_model.specs.model.World.{calls_if, held_after, held_count, is_bad, is_bad_asking, next_held, next_line, publisher_named}
use Rattle.mqtt_world_model.specs.model.World.{receiver_named, step, stranger, stranger_named}
use Rattle.mqtt_world_model.specs.single_steps.Unrolled.{AreAlike, IsWhole, bytes_come}
use Rattle.mqtt_world_model.proofs.single_steps_lemmas.Strangers.{held_by}
use Rattle.mqtt_world_model.proofs.single_steps_lemmas.Answered.{Holds, asks_both, asks_is, come, come_count, come_found, come_holds, comes_both, comes_is, enough, next_holds, next_world, none_behind, none_longer, nothing_asked, nothing_left, still, welcomed_found}
use Rattle.mqtt_world_model.proofs.single_steps_lemmas.Good.{AreSameEnds, bytes_good, good_after, good_bytes, good_parts, said_parts, same_asked}
use Rattle.mqtt_world_ends.proofs.strangers_lemmas.Pieces.{none_left}
use Rattle.mqtt_world_ends.specs.strangers.Strangers.{IsStep, asks_piece, line_of, newcomer, takes_piece, welcomes}

-- ---- a stranger who is there

-- what it asks for when a piece has come
call_come : (name piece : List ℕ) (w : World) → call_of_stranger (stranger_named name (come name piece w)) ≡ asks_piece name piece w
call_come name piece w = ap call_of_stranger (come_found name piece w) ∙ by (stranger_named name w)
  where
    by : (o : Option Stranger) → call_of_stranger (option_map (held_by (λ (held : List ℕ). held ++ piece)) o) ≡ call_on (line_of o) (bytes_held o ++ piece)
    by None = refl
    by (Some s) = refl

good_step : (set : Setting) (name piece : List ℕ) (w : World) → is_bad (ask (stranger name piece)) w ≡ false
    → step set (ask (stranger name piece)) w ≡ asks set (stranger name piece) w
good_step set name piece w good = ap (λ (t : Bool). cond t w (asks set (stranger name piece) w)) good

-- a piece of one step does what its call does
pub piece_does : (set : Setting) (name piece : List ℕ) (w : World) → IsStep name piece w
    → step set (ask (stranger name piece)) w ≡ calls_if set (asks_piece name piece w) (takes_piece name piece w)
piece_does set name piece w s =
    let all = bytes_come name piece w in
    let c = come name piece w in
    let holds = come_holds name (bytes_held (stranger_named name w)) piece w s.alike in
    let n = length all in
    good_step set name piece w s.good
    ∙ (asks_is set name (bytes_held (stranger_named name w)) piece w s.alike s.there
    ∙ (enough set name all c n (suc n) holds (omega arith) (omega arith)
    ∙ (still set name (held_after all) (next_world set name c) n (next_holds set name all c holds) s.one
    ∙ ap (λ (call : Option Call). calls_if set call (takes_piece name piece w)) (call_come name piece w))))

-- ---- what is read off it

-- of what joins nothing it is that
HasUnit : {X : Type 0} → Reading X → Type 0
HasUnit {X} r = (x : X) → r.join x r.nothing ≡ x

read_still : {X : Type 0} (r : Reading X) (set : Setting) (name held : List ℕ) (w : World) (n : ℕ) → HasUnit r → Holds name held w
    → first_of held ≡ Ok None → read_rest r set n name w ≡ r.nothing
unfolding HasUnit
read_still r set name held w zero unit h none = refl
read_still r set name held w (suc n) unit h none =
    let stays : next_held name w ≡ w = nothing_left name held w h (none_left held none) in
    ap (λ (call : Option Call). r.join (read_if r set call w) (read_rest r set n name (calls_if set call (next_held name w))))
    (nothing_asked name held w h none)
    ∙ (ap (λ (v : World). r.join r.nothing (read_rest r set n name v)) stays
    ∙ (ap (r.join r.nothing) (read_still r set name held w n unit h none) ∙ unit r.nothing))

read_once : {X : Type 0} (r : Reading X) (set : Setting) (name held : List ℕ) (w : World) (n : ℕ) → HasUnit r → Holds name held w
    → length held ≤ n → first_of (held_after held) ≡ Ok None
    → read_rest r set n name w ≡ read_if r set (call_of_stranger (stranger_named name w)) w
unfolding HasUnit
read_once r set name held w zero unit h within one =
    sym (ap (λ (call : Option Call). read_if r set call w) (nothing_asked name held w h (none_longer held within)))
read_once r set name held w (suc n) unit h within one =
    let first = read_if r set (call_of_stranger (stranger_named name w)) w in
    ap (r.join first) (read_still r set name (held_after held) (next_world set name w) n unit (next_holds set name held w h) one)
    ∙ unit first

-- off a piece
pub read_piece : {X : Type 0} (r : Reading X) (set : Setting) (name piece : List ℕ) (w : World) → ((x : X) → r.join x r.nothing ≡ x)
    → IsStep name piece w → read_at r set (ask (stranger name piece)) w ≡ read_if r set (asks_piece name piece w) (come name piece w)
unfolding HasUnit
read_piece r set name piece w unit s =
    let all = bytes_come name piece w in
    let c = come name piece w in
    let held = bytes_held (stranger_named name w) in
    let holds = come_holds name held piece w s.alike in
    ap (λ (t : Bool). cond t r.nothing (read_asked r set (stranger name piece) w)) s.good
    ∙ (ap (λ (v : World). read_rest r set (held_count (stranger_named name v)) name v) (comes_is set name piece w s.there)
    ∙ (ap (λ (n : ℕ). read_rest r set n name c) (come_count name held piece w s.alike s.there)
    ∙ (read_once r set name all c (length all) unit holds (omega arith) s.one
    ∙ ap (λ (call : Option Call). read_if r set call c) (call_come name piece w))))

-- with its deeds
pub piece_deeds : (set : Setting) (name piece : List ℕ) (w : World) → IsStep name piece w
    → deeds_at set (ask (stranger name piece)) w ≡ read_if the_deeds set (asks_piece name piece w) w
piece_deeds set name piece w s =
    read_piece the_deeds set name piece w (λ (ds : List Deed). append-nil ds) s ∙ by (asks_piece name piece w)
  where
    by : (call : Option Call) → read_if the_deeds set call (come name piece w) ≡ read_if the_deeds set call w
    by None = refl
    by (Some call) = refl

-- ---- one that comes for the first time

-- a stranger who is welcomed is found
pub first_found : (set : Setting) (name : List ℕ) (w : World) → stranger_named name w ≡ None
    → stranger_named name (welcomes set name w) ≡ Some (newcomer name (next_line set.limits w.broker))
first_found set name w none = welcomed_found set name w none

find_told : {X : Type 0} (test : X → Bool) (f : X → X) (xs : List X) → ((x : X) → test (f x) ≡ test x)
    → is_some (find test (map f xs)) ≡ is_some (find test xs)
find_told test f [] h = refl
find_told test f (x ∷ xs) h = by (find_told test f xs h) (test x) refl
  where
    by : is_some (find test (map f xs)) ≡ is_some (find test xs) → (t : Bool) → test x ≡ t → is_some (find test (map f (x ∷ xs))) ≡ is_some (find test (x ∷ xs))
    by more true is = ap (λ (t : Bool). is_some (cond t (Some (f x)) (find test (map f xs)))) (h x ∙ is) ∙ sym (ap (λ (t : Bool). is_some (cond t (Some x) (find test xs))) is)
    by more false is =
        ap (λ (t : Bool). is_some (cond t (Some (f x)) (find test (map f xs)))) (h x ∙ is) ∙ (more
        ∙ sym (ap (λ (t : Bool). is_some (cond t (Some x) (find test xs))) is))

same_ends : (set : Setting) (name : List ℕ) (w : World) → AreSameEnds (welcomes set name w) w
same_ends set name w client =
    ap (λ (t : Bool). t || is_some (receiver_named client (welcomes set name w)))
    (find_told (λ (p : Publisher). bytes_eq p.client client) _ w.publishers (λ p. refl))
    ∙ ap (λ (t : Bool). is_some (publisher_named client w) || t)
    (find_told (λ (r : Receiver). bytes_eq r.client client) _ w.receivers (λ r. refl))

-- and may ask what he might
pub first_good : (set : Setting) (name piece : List ℕ) (w : World) → stranger_named name w ≡ None
    → is_bad (ask (stranger name piece)) w ≡ false → is_bad (ask (stranger name piece)) (welcomes set name w) ≡ false
first_good set name piece w none good =
    let v = welcomes set name w in
    let all = good_bytes name piece w good in
    bytes_good name piece v all.0
    (ap (λ (o : Option Stranger). bytes_name (length (bytes_held o ++ piece)) (bytes_held o ++ piece) v) (first_found set name w none)
    ∙ good_after piece v w (same_ends set name w)
    (sym (ap (λ (o : Option Stranger). bytes_name (length (bytes_held o ++ piece)) (bytes_held o ++ piece) w) none) ∙ all.1))

-- a first piece does what it does behind the welcome
pub first_does : (set : Setting) (name piece : List ℕ) (w : World) → stranger_named name w ≡ None
    → is_bad (ask (stranger name piece)) w ≡ false
    → step set (ask (stranger name piece)) w ≡ step set (ask (stranger name piece)) (welcomes set name w)
first_does set name piece w none good =
    good_step set name piece w good
    ∙ (asks_both set name piece w none ∙ sym (good_step set name piece (welcomes set name w) (first_good set name piece w none good)))

-- and what is read off it
pub read_first_piece : {X : Type 0} (r : Reading X) (set : Setting) (name piece : List ℕ) (w : World) → stranger_named name w ≡ None
    → is_bad (ask (stranger name piece)) w ≡ false
    → read_at r set (ask (stranger name piece)) w ≡ read_at r set (ask (stranger name piece)) (welcomes set name w)
read_first_piece r set name piece w none good =
    let v = welcomes set name w in
    ap (λ (t : Bool). cond t r.nothing (read_asked r set (stranger name piece) w)) good
    ∙ (ap (λ (u : World). read_rest r set (held_count (stranger_named name u)) name u) (comes_both set name piece w none)
    ∙ sym (ap (λ (t : Bool). cond t r.nothing (read_asked r set (stranger name piece) v)) (first_good set name piece w none good)))

-- with the deeds of that
pub first_deeds : (set : Setting) (name piece : List ℕ) (w : World) → stranger_named name w ≡ None
    → is_bad (ask (stranger name piece)) w ≡ false
    → deeds_at set (ask (stranger name piece)) w ≡ deeds_at set (ask (stranger name piece)) (welcomes set name w)
first_deeds set name piece w none good = read_first_piece the_deeds set name piece w none good

-- ---- bytes in two parts, the first of which ends with a packet

-- bytes that are good are good up to the end of a packet
pub good_first : (name piece more : List ℕ) (w : World) → IsWhole (bytes_come name piece w)
    → is_bad (ask (stranger name (piece ++ more))) w ≡ false → is_bad (ask (stranger name piece)) w ≡ false
good_first name piece more w whole good =
    let all = good_bytes name (piece ++ more) w good in
    bytes_good name piece w (said_parts piece more all.0).0
    (good_parts (bytes_held (stranger_named name w)) piece more whole.0 w whole.1 all.1).0

-- behind it nothing is held
pub nothing_held : (set : Setting) (name piece more : List ℕ) (w : World) → AreAlike name w → IsWhole (bytes_come name piece w)
    → is_bad (ask (stranger name (piece ++ more))) w ≡ false
    → bytes_held (stranger_named name (step set (ask (stranger name piece)) w)) ≡ []
nothing_held set name piece more w alike whole good =
    ap (λ (u : World). bytes_held (stranger_named name u)) (good_step set name piece w (good_first name piece more w whole good))
    ∙ none_behind set name piece w alike whole

-- and what is behind it is good
pub good_rest : (set : Setting) (name piece more : List ℕ) (w : World) → AreAlike name w → IsWhole (bytes_come name piece w)
    → is_bad (ask (stranger name (piece ++ more))) w ≡ false
    → is_bad (ask (stranger name more)) (step set (ask (stranger name piece)) w) ≡ false
good_rest set name piece more w alike whole good =
    let all = good_bytes name (piece ++ more) w good in
    let both = good_parts (bytes_held (stranger_named name w)) piece more whole.0 w whole.1 all.1 in
    let v = asks set (stranger name piece) w in
    ap (λ (u : World). is_bad_asking (stranger name more) u) (good_step set name piece w (good_first name piece more w whole good))
    ∙ bytes_good name more v (said_parts piece more all.0).1
    (ap (λ (bytes : List ℕ). bytes_name (length (bytes ++ more)) (bytes ++ more) v) (none_behind set name piece w alike whole)
    ∙ good_after more v w (same_asked set name piece w) both.1)
