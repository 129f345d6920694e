-- What is offered on a line, by the Maximum Packet Size of its client.
use Rattle.std.proofs.Common.{◌≡◌, ℕ, cond, List, [], ◌∷◌, Option, Some, None, nat_eq, nat_le, refl, ap, sym, ◌∙◌, inl, inr}
use Rattle.std.specs.Prelude.{find, option_map}
use Rattle.std.proofs.lemmas.Bool.{cases_Bool, eqb-true}
use Rattle.mqtt_packet.specs.declared.codec.packet.Packet.{Packet}
use Rattle.mqtt_records.specs.lists.Order.{row_at}
use Rattle.mqtt_rules.specs.step.State.{Line, Broker, line_at}
use Rattle.mqtt_rules.specs.step.Deeds.{Send, offer}
use Rattle.mqtt_rules.specs.step.Packets.{size_of}
use Rattle.mqtt_broker_step.specs.Lines.{line_number}
use Rattle.mqtt_broker_acts.specs.subscribing.Offering.{largest_on, offer_within}

found_is : (n : ℕ) (ls : List Line) → row_at line_number n ls ≡ find (λ l. nat_eq l.number n) ls
found_is n [] = refl
found_is n (l ∷ ls) = elim (cases_Bool (nat_eq l.number n)) [
  | inl here ↦ rw here refl
  | inr later ↦ rw later (found_is n ls)
]

-- a line found by its key is the line of its number
pub line_is : (n : ℕ) (b : Broker) → row_at line_number n b.lines ≡ line_at n b
line_is n b = found_is n b.lines

found_number : (n : ℕ) (ls : List Line) (l : Line) → find (λ x. nat_eq x.number n) ls ≡ Some l → l.number ≡ n
found_number n [] l found = absurd cc
found_number n (x ∷ xs) l found = elim (cases_Bool (nat_eq x.number n)) [
  | inl here ↦
      let first : Some x ≡ Some l = rw here at found in
      let is : x ≡ l = cc in
      ap line_number (sym is) ∙ eqb-true x.number n here
  | inr later ↦ found_number n xs l (rw later at found)
]

-- the offer to the client on a line is by its Maximum Packet Size alone
pub offer_is : (n : ℕ) (packet : Packet) (b : Broker) → offer_within n (largest_on n b) packet ≡ offer (line_at n b) packet
offer_is n packet b = by (line_at n b) refl
  where
    by : (o : Option Line) → line_at n b ≡ o → offer_within n (option_map (λ l. l.largest) o) packet ≡ offer o packet
    by None is = refl
    by (Some l) is =
        ap (λ k. cond (nat_le (size_of packet) l.largest) (Send k packet ∷ []) []) (sym (found_number n b.lines l is))
