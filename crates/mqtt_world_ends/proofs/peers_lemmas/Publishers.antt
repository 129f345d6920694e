-- What the definitions make of a publisher in one go, its code makes one by one.
use Rattle.std.proofs.Common.{◌≡◌, refl, sym, ap, ◌∙◌, ℕ, ◌<◌, Bool, true, false, List, [], ◌∷◌, ◌++◌, map, length, arith, ◌+◌}
use Rattle.std.proofs.Common.{take, get_or, append_assoc}
use Rattle.std.proofs.lemmas.List.{append-nil, map-append, take_more}
use Rattle.std.specs.Prelude.{count_by, nat_lt, Some}
use Rattle.std.proofs.lemmas.List.Sums.{sum_by-cons}
use Rattle.std.proofs.lemmas.Bool.{ltb-true}
use Rattle.mqtt_base.specs.declared.limits.TheConstants.{OPEN_LIMIT}
use Rattle.mqtt_base.specs.declared.session.Qos.{Qos as Quality}
use Rattle.mqtt_base.specs.declared.session.Qos.TheVariants.{AtMostOnce, AtLeastOnce, ExactlyOnce}
use Rattle.mqtt_flow.specs.inbound.Publisher.{Fate, FromPublisher, completed, ended, ended_1, forgotten, in_flight, refused}
use Rattle.mqtt_flow.specs.inbound.Publisher.{released, sent, sent_1}
use Rattle.mqtt_world_ends.specs.declared.handshakes.shakes.Shake.{Shake}
use Rattle.mqtt_world_ends.specs.handshakes.Fates.{is_completed, packet_of, packets_of}
use Rattle.mqtt_world_model.specs.model.Tellings.{done_by}
use Rattle.mqtt_world_model.specs.model.Lines.{Line}
use Rattle.mqtt_world_model.specs.model.Ends.{Content, Draft, Publisher, goes, goes_out, send_all, send_one, shake}
use Rattle.mqtt_world_ends.specs.peers.Publishers.{front_out, may_go}

-- nothing goes out
pub goes_nothing : {U : Type 0} (stands : Bool) (l : Line U) → goes stands [] l ≡ l
goes_nothing true l = ap (λ (up : List _). record l { up = up }) (append-nil l.up)
goes_nothing false l = refl

-- one packet more
pub goes_more : {U : Type 0} (stands : Bool) (packets more : List U) (l : Line U)
    → goes stands more (goes stands packets l) ≡ goes stands (packets ++ more) l
goes_more true packets more l = ap (λ (up : List _). record l { up = up }) (append_assoc l.up packets more)
goes_more false packets more l = refl

-- ---- unsent messages

none_goes : (stands : Bool) (ds : List Draft) (p : Publisher) → nat_lt (length (in_flight p.fates)) OPEN_LIMIT ≡ false
    → send_all stands ds p ≡ p
none_goes stands [] p full = refl
none_goes stands (d ∷ ds) p full =
    let one : send_one stands d ds p ≡ p = rw full refl in
    ap (send_all stands ds) one ∙ none_goes stands ds p full

-- if none may go, all have gone
pub all_gone : (stands : Bool) (ds : List Draft) (p : Publisher) → may_go ds p ≡ false → send_all stands ds p ≡ p
all_gone stands [] p none = refl
all_gone stands (d ∷ ds) p none = none_goes stands (d ∷ ds) p none

unsent_after : (stands : Bool) (qos : Quality) (c : Content) (rest : List Draft) (p : Publisher)
    → (goes_out stands qos c rest p).unsent ≡ rest
unsent_after stands AtMostOnce c rest p = refl
unsent_after stands AtLeastOnce c rest p = refl
unsent_after stands ExactlyOnce c rest p = refl

-- if one may go, it goes first
pub one_gone : (stands : Bool) (ds : List Draft) (p : Publisher) → may_go ds p ≡ true → p.unsent ≡ ds
    → send_all stands (front_out stands ds p).unsent (front_out stands ds p) ≡ send_all stands ds p
one_gone stands [] p may is = ap (λ (us : List Draft). send_all stands us p) is
one_gone stands (d ∷ rest) p may is =
    let out = goes_out stands d.qos d.content rest p in
    let one : send_one stands d rest p ≡ goes_out stands d.qos d.content rest p = rw may refl in
    ap (λ (us : List Draft). send_all stands us (goes_out stands d.qos d.content rest p))
    (unsent_after stands d.qos d.content rest p)
    ∙ sym (ap (send_all stands rest) one)

-- and fewer are left
pub fewer_left : (stands : Bool) (ds : List Draft) (p : Publisher) → may_go ds p ≡ true
    → length (front_out stands ds p).unsent < length ds
fewer_left stands [] p may = absurd cc
fewer_left stands (d ∷ rest) p may =
    omega (arith, ap (λ (us : List Draft). length us) (unsent_after stands d.qos d.content rest p))

-- fewer than the Receive Maximum are in flight
pub few_in_flight : (ds : List Draft) (p : Publisher) → may_go ds p ≡ true → length (in_flight p.fates) < OPEN_LIMIT
few_in_flight [] p may = absurd cc
few_in_flight (d ∷ rest) p may = ltb-true (length (in_flight p.fates)) OPEN_LIMIT may

-- ---- packets of handshakes

-- one packet more is under way
pub shakes_more : (packets : List Shake) (i : ℕ) (d : Shake) → i < length packets
    → map shake (packets_of (take (i + 1) packets)) ≡ map shake (packets_of (take i packets)) ++ shake (packet_of (get_or packets i d)) ∷ []
shakes_more packets i d within =
    ap (λ (ps : List Shake). map shake (packets_of ps)) (take_more packets i d within)
    ∙ (ap (λ (ps : List FromPublisher). map shake ps) (map-append packet_of (take i packets) (get_or packets i d ∷ []))
    ∙ map-append shake (packets_of (take i packets)) (packet_of (get_or packets i d) ∷ []))

-- ---- what is done

done_more : (p : Publisher) (f : Fate) (fs : List Fate)
    → done_by (Some (record p { fates = fs })) ≡ count_by is_completed fs
    → done_by (Some (record p { fates = f ∷ fs })) ≡ count_by is_completed (f ∷ fs)
done_more p (sent_1 id) fs so_far =
    sum_by-cons _ (sent_1 id) fs ∙ (ap (λ (n : ℕ). 0 + n) so_far ∙ sym (sum_by-cons _ (sent_1 id) fs))
done_more p (ended_1 completed) fs so_far =
    sum_by-cons _ (ended_1 completed) fs ∙ (ap (λ (n : ℕ). 1 + n) so_far ∙ sym (sum_by-cons _ (ended_1 completed) fs))
done_more p (ended_1 refused) fs so_far =
    sum_by-cons _ (ended_1 refused) fs ∙ (ap (λ (n : ℕ). 0 + n) so_far ∙ sym (sum_by-cons _ (ended_1 refused) fs))
done_more p (ended_1 forgotten) fs so_far =
    sum_by-cons _ (ended_1 forgotten) fs ∙ (ap (λ (n : ℕ). 0 + n) so_far ∙ sym (sum_by-cons _ (ended_1 forgotten) fs))
done_more p (sent id) fs so_far =
    sum_by-cons _ (sent id) fs ∙ (ap (λ (n : ℕ). 0 + n) so_far ∙ sym (sum_by-cons _ (sent id) fs))
done_more p (released id) fs so_far =
    sum_by-cons _ (released id) fs ∙ (ap (λ (n : ℕ). 0 + n) so_far ∙ sym (sum_by-cons _ (released id) fs))
done_more p (ended completed) fs so_far =
    sum_by-cons _ (ended completed) fs ∙ (ap (λ (n : ℕ). 1 + n) so_far ∙ sym (sum_by-cons _ (ended completed) fs))
done_more p (ended refused) fs so_far =
    sum_by-cons _ (ended refused) fs ∙ (ap (λ (n : ℕ). 0 + n) so_far ∙ sym (sum_by-cons _ (ended refused) fs))
done_more p (ended forgotten) fs so_far =
    sum_by-cons _ (ended forgotten) fs ∙ (ap (λ (n : ℕ). 0 + n) so_far ∙ sym (sum_by-cons _ (ended forgotten) fs))

done_of : (p : Publisher) (fs : List Fate) → done_by (Some (record p { fates = fs })) ≡ count_by is_completed fs
done_of p [] = refl
done_of p (f ∷ fs) = done_more p f fs (done_of p fs)

-- done are the messages that completed
pub done_is : (p : Publisher) → done_by (Some p) ≡ count_by is_completed p.fates
done_is p = done_of p p.fates
