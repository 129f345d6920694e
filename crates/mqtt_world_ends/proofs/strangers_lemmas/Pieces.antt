-- The next piece of bytes that come, and what the broker is given of it.
use Rattle.std.proofs.Common.{◌≡◌, ◌≤◌, ◌<◌, ◌-◌, ◌+◌, ℕ, List, [], ◌∷◌, ◌++◌, length, take, drop, Some, None, sym, ap, ◌∙◌, arith, inl, inr}
use Rattle.std.specs.Prelude.{◌⊎◌, Ok, Err}
use Rattle.std.proofs.lemmas.Bool.{cases_lt}
use Rattle.std.proofs.lemmas.List.{drop_all, length-take-le, take-append-drop, take_all}
use Rattle.std.proofs.Math.Seq.{take-append_seam, take-append-add}
use Rattle.mqtt_packet.specs.declared.parts.fault.Fault.{Fault}
use Rattle.mqtt_packet.specs.stream.Front.{first_of}
use Rattle.mqtt_packet.proofs.stream_lemmas.Shorter.{first_less}
use Rattle.mqtt_rules.specs.step.Piece.{Front, call_by, first_call}
use Rattle.mqtt_world_model.specs.model.World.{held_after, held_by as held_behind}
use Rattle.mqtt_world_model.proofs.single_steps_lemmas.Answered.{not_both, nothing_first}
use Rattle.mqtt_world_ends.specs.strangers.Fronts.{AsksFor, BeginsFaulty, BeginsWhole, IsNextPiece}

-- ---- nothing is whole

-- what is not whole stays held
pub none_left : (bytes : List ℕ) → first_of bytes ≡ Ok None → held_after bytes ≡ bytes
none_left bytes e = ap (λ (f : Front). held_behind f bytes) e

-- of all bytes a piece, if nothing whole is left
all_taken : (held bytes : List ℕ) → first_of (held_after (held ++ bytes)) ≡ Ok None
    → IsNextPiece held (take (length bytes) bytes) (drop (length bytes) bytes)
all_taken held bytes one =
    let all : take (length bytes) bytes ≡ bytes = take_all (length bytes) bytes (omega arith) in
    record {
      ends = inl (drop_all (length bytes) bytes (omega arith));
      one = ap (λ (piece : List ℕ). first_of (held_after (held ++ piece))) all ∙ one;
    }

-- bytes that end no packet are the next piece
pub partial_piece : (held bytes : List ℕ) → first_of (held ++ bytes) ≡ Ok None
    → IsNextPiece held (take (length bytes) bytes) (drop (length bytes) bytes)
partial_piece held bytes e = all_taken held bytes (ap first_of (none_left (held ++ bytes) e) ∙ e)

-- ---- a packet is

-- it ends in the bytes that come
pub ends_later : (held bytes : List ℕ) (n : ℕ) → first_of held ≡ Ok None → BeginsWhole (held ++ bytes) n → length held < n
ends_later held bytes n none b = by (cases_lt (length held) n)
  where
    by : (length held < n) ⊎ (n ≤ length held) → length held < n
    by (inl long) = long
    by (inr short) =
        let found : first_of held ≡ Ok (Some (b.packet, n)) =
        ap first_of (sym (take-append_seam held bytes)) ∙ first_less (held ++ bytes) b.packet n (length held) b.is short in
        absurd (not_both (first_of held) b.packet n none found)

-- the bytes of the next piece end the packet
pub whole_is : (held bytes : List ℕ) (n : ℕ) → length held < n → held ++ take (n - length held) bytes ≡ take n (held ++ bytes)
whole_is held bytes n long =
    let sum : length held + (n - length held) ≡ n = omega arith in
    sym (take-append-add held bytes (n - length held)) ∙ ap (λ (k : ℕ). take k (held ++ bytes)) sum

whole_left : (bytes : List ℕ) (n : ℕ) → BeginsWhole bytes n → held_after (take n bytes) ≡ []
whole_left bytes n b =
    ap (λ (f : Front). held_behind f (take n bytes)) b.alone
    ∙ drop_all n (take n bytes) (omega (arith, length-take-le n bytes b.inside))

-- the bytes up to the end of a packet are the next piece
pub whole_piece : (held bytes : List ℕ) (n : ℕ) → first_of held ≡ Ok None → BeginsWhole (held ++ bytes) n
    → IsNextPiece held (take (n - length held) bytes) (drop (n - length held) bytes)
whole_piece held bytes n none b =
    let front = take n (held ++ bytes) in
    let is = whole_is held bytes n (ends_later held bytes n none b) in
    let size : length front ≡ n = length-take-le n (held ++ bytes) b.inside in
    record {
      ends = inr (
        b.packet,
        ap first_of is ∙ (b.alone ∙ ap (λ (k : ℕ). Ok (Some (b.packet, k))) (sym (ap length is ∙ size))),
      );
      one = ap (λ (xs : List ℕ). first_of (held_after xs)) is ∙ (ap first_of (whole_left (held ++ bytes) n b) ∙ nothing_first);
    }

-- and ask for that packet
pub whole_given : (held bytes : List ℕ) (n : ℕ) → first_of held ≡ Ok None → BeginsWhole (held ++ bytes) n
    → AsksFor (held ++ take (n - length held) bytes) (take n (held ++ bytes))
whole_given held bytes n none b =
    let is = sym (whole_is held bytes n (ends_later held bytes n none b)) in
    record {
      same = ap first_of is;
      asks = λ line. ap (first_call line) is;
      left = whole_left (held ++ bytes) n b;
      within = omega (arith, length-take-le n (held ++ bytes) b.inside, b.within);
    }

-- what is held no longer
pub whole_held : (held bytes : List ℕ) (n : ℕ) → first_of held ≡ Ok None → BeginsWhole (held ++ bytes) n
    → held_after (held ++ take (n - length held) bytes) ≡ []
whole_held held bytes n none b =
    ap held_after (whole_is held bytes n (ends_later held bytes n none b)) ∙ whole_left (held ++ bytes) n b

-- ---- a fault is

fault_left : (bytes : List ℕ) (fault : Fault) → first_of bytes ≡ Err fault → held_after bytes ≡ []
fault_left bytes fault e = ap (λ (f : Front). held_behind f bytes) e

-- of a faulty packet nothing stays held
pub faulty_held : (held bytes : List ℕ) (n : ℕ) → BeginsFaulty (held ++ bytes) n → held_after (held ++ bytes) ≡ []
faulty_held held bytes n b = fault_left (held ++ bytes) b.fault b.is

-- all bytes are its piece
pub faulty_piece : (held bytes : List ℕ) (n : ℕ) → BeginsFaulty (held ++ bytes) n
    → IsNextPiece held (take (length bytes) bytes) (drop (length bytes) bytes)
faulty_piece held bytes n b = all_taken held bytes (ap first_of (faulty_held held bytes n b) ∙ nothing_first)

fault_asks : (line : ℕ) (front more : List ℕ) (fault : Fault) → first_of front ≡ Err fault → first_of (front ++ more) ≡ Err fault
    → first_call line front ≡ first_call line (front ++ more)
fault_asks line [] more fault e both =
    let none : Ok None ≡ Err fault = sym nothing_first ∙ e in
    absurd cc
fault_asks line (b ∷ front) more fault e both =
    ap (call_by line (b ∷ front)) e ∙ sym (ap (call_by line (b ∷ front ++ more)) both)

-- and ask for its refusal
pub faulty_given : (bytes : List ℕ) (n : ℕ) → BeginsFaulty bytes n → AsksFor bytes (take n bytes)
faulty_given bytes n b =
    let joined : take n bytes ++ drop n bytes ≡ bytes = take-append-drop n bytes in
    record {
      same = b.alone ∙ sym b.is;
      asks = λ line.
          fault_asks line (take n bytes) (drop n bytes) b.fault b.alone (ap first_of joined ∙ b.is)
          ∙ ap (first_call line) joined;
      left = fault_left (take n bytes) b.fault b.alone;
      within = omega (arith, length-take-le n bytes b.inside, b.within);
    }
