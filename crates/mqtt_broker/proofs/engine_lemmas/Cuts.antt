-- However a stream comes, what is answered is what it is cut into.
use Rattle.std.proofs.Common.{◌≡◌, ℕ, Bool, true, false, List, [], ◌∷◌, ◌++◌, drop, take, map, Option, Some, None, nat_eq, refl, sym, ap, subst, ◌∙◌, inl, inr, append_assoc, append-nil}
use Rattle.std.specs.Prelude.{◌&&◌, Ok, Err, filter_map, find, is_some}
use Rattle.std.specs.List.{list_any}
use Rattle.std.proofs.lemmas.Bool.{cases_Bool, eqb-true}
use Rattle.std.proofs.lemmas.Cmp.{nat_eq_equiv}
use Rattle.std.proofs.lemmas.List.{drop-append-le, take-append-drop, take-append-le}
use Rattle.mqtt_packet.specs.declared.codec.packet.Packet.{Packet}
use Rattle.mqtt_packet.specs.parts.Faults.{answer_to}
use Rattle.mqtt_packet.specs.declared.parts.fault.Fault.{Fault}
use Rattle.mqtt_packet.specs.stream.Front.{first_of}
use Rattle.mqtt_packet.specs.stream.Stream.{Ending, EndsAs, Framing, IsCut, IsStream, Item, fault_at, place_after, short_at}
use Rattle.mqtt_packet.proofs.stream_lemmas.Cuts.{fault_stays, packet_stays}
use Rattle.mqtt_packet.proofs.stream_lemmas.Fronts.{first_within}
use Rattle.mqtt_rules.specs.declared.step.Capacity.{Capacity}
use Rattle.mqtt_rules.specs.step.Deeds.{closing}
use Rattle.mqtt_rules.specs.step.Lines.{line_number}
use Rattle.mqtt_rules.specs.step.Piece.{Front, Pieced, begins_connect, bytes_taken, call_by, call_on, code_of, fed, held_on, is_whole, pieced, stepped_if, taken_on, without_by}
use Rattle.mqtt_rules.specs.step.State.{Broker, Env, Line, MemberChoice, line_at}
use Rattle.mqtt_rules.specs.step.Step.{BadInput, Call, at_moment, env_of, on_fault, stepped, told}
use Rattle.mqtt_rules.proofs.step_lemmas.acts.OnLines.{found_number}
use Rattle.mqtt_broker.proofs.engine_lemmas.HeldBytes.{nothing_whole}
use Rattle.mqtt_broker.specs.engine.Cut.{Coming, Piece, Other, Giving, IsFrontOf, IsGivenOn, IsGivenWhole, IsStanding, after_coming, after_comings, answered, given_first, there_in, whole_in}
use Rattle.mqtt_broker.specs.engine.Serving.{has_closed}
use Rattle.mqtt_broker.proofs.engine_lemmas.Framings.{taken_within}
use Rattle.mqtt_broker.proofs.engine_lemmas.Left.{left, step_numbers}

-- ---- a fault closes its line

abbrev among : ℕ → List ℕ → Bool
among n ns = list_any (λ k. nat_eq k n) ns

standing_among : (n : ℕ) (ls : List Line) → is_some (find (λ (l : Line). nat_eq l.number n) ls) ≡ among n (map line_number ls)
standing_among n [] = refl
standing_among n (l ∷ ls) = elim (cases_Bool (nat_eq l.number n)) [ inl here ↦ rw here refl | inr other ↦ rw other (standing_among n ls) ]

gone_among : (n : ℕ) (closed ns : List ℕ) → has_closed closed n ≡ true → among n (left closed ns) ≡ false
gone_among n closed [] e = refl
gone_among n closed (k ∷ ns) e = elim (cases_Bool (has_closed closed k)) [
  | inl goes ↦ rw goes (gone_among n closed ns e)
  | inr stays ↦ elim (cases_Bool (nat_eq k n)) [
    | inl same ↦ let is : k ≡ n = eqb-true k n same in let clash : true ≡ false = sym e ∙ ap (has_closed closed) (sym is) ∙ stays in absurd cc
    | inr other ↦ rw (stays, other) (gone_among n closed ns e)
  ]
]

fault_told : (env : Env) (l : Line) (is_connect : Bool) (code : ℕ) (session : Option ℕ) (b : Broker) → has_closed (filter_map closing (on_fault env l is_connect code session b)) l.number ≡ true
fault_told env l true code None b = rw (nat_eq_equiv.refl l.number) refl
fault_told env l false code None b = rw (nat_eq_equiv.refl l.number) refl
fault_told env l true code (Some birth) b = rw (nat_eq_equiv.refl l.number) refl
fault_told env l false code (Some birth) b = rw (nat_eq_equiv.refl l.number) refl

-- a line on which a fault came isn't linked any more
pub fault_closes : (limits : Capacity) (choice : MemberChoice) (now line : ℕ) (is_connect : Bool) (code : ℕ) (b : Broker) (l : Line) → line_at line b ≡ Some l
    → is_some (line_at line (stepped limits choice now (BadInput line is_connect code) b)) ≡ false
fault_closes limits choice now line is_connect code b l there =
    let call = BadInput line is_connect code in
    let closed = (told limits choice now call b).closed in
    let number : l.number ≡ line = found_number line l b.lines there in
    let its : has_closed closed line ≡ true =
    subst (λ (n : ℕ). has_closed closed n ≡ true) number (rw there (fault_told (env_of limits choice b) l is_connect code l.session (at_moment now b))) in
    standing_among line (stepped limits choice now call b).lines
    ∙ ap (among line) (step_numbers limits choice now call b tt)
    ∙ gone_among line closed (map line_number b.lines) its

-- ---- what a stream begins with is what it is cut into

packet_in : Packet → Front → Packet
packet_in other (Ok (Some x)) = x.0
packet_in other (Ok None) = other
packet_in other (Err fault) = other

size_in : Front → ℕ
size_in (Ok (Some x)) = x.1
size_in (Ok None) = 0
size_in (Err fault) = 0

packet_cut : (place : ℕ) (stream : List ℕ) (items : List Item) (end : ℕ) (rest : List ℕ) (ending : Ending) (packet : Packet) (n : ℕ)
    → IsCut place stream items end rest → EndsAs end rest ending → first_of stream ≡ Ok (Some (packet, n))
    → (i : Item) × (more : List Item) × (items ≡ i ∷ more) × (i.packet ≡ packet) × IsCut (place_after place n) (drop n stream) more end rest
unfolding packet_in size_in
packet_cut place stream [] end rest (short_at at short) packet n cut ends first =
    let clash : Ok (Some (packet, n)) ≡ Ok None = sym first ∙ ap first_of (sym cut.1) ∙ ends.2 in absurd cc
packet_cut place stream [] end rest (fault_at at fault) packet n cut ends first =
    let clash : Ok (Some (packet, n)) ≡ Err fault = sym first ∙ ap first_of (sym cut.1) ∙ ends.1 in absurd cc
packet_cut place stream (i ∷ more) end rest ending packet n cut ends first =
    let its : packet ≡ i.packet = ap (packet_in packet) (sym first ∙ cut.1) in
    let size : i.size ≡ n = sym (ap size_in (sym first ∙ cut.1)) in
    (i, more, refl, sym its, subst (λ (k : ℕ). IsCut (place_after place k) (drop k stream) more end rest) size cut.2)

fault_cut : (place : ℕ) (stream : List ℕ) (items : List Item) (end : ℕ) (rest : List ℕ) (ending : Ending) (fault : Fault)
    → IsCut place stream items end rest → EndsAs end rest ending → first_of stream ≡ Err fault → there_in items ending ≡ Err fault ∷ []
fault_cut place stream [] end rest (short_at at short) fault cut ends first =
    let clash : Err fault ≡ Ok None = sym first ∙ ap first_of (sym cut.1) ∙ ends.2 in absurd cc
fault_cut place stream [] end rest (fault_at at other) fault cut ends first =
    ap whole_in (sym (sym first ∙ ap first_of (sym cut.1) ∙ ends.1))
fault_cut place stream (i ∷ more) end rest ending fault cut ends first =
    let clash : Err fault ≡ Ok (Some (i.packet, i.size)) = sym first ∙ cut.1 in absurd cc

none_cut : (place : ℕ) (stream : List ℕ) (items : List Item) (end : ℕ) (rest : List ℕ) (ending : Ending)
    → IsCut place stream items end rest → EndsAs end rest ending → first_of stream ≡ Ok None → there_in items ending ≡ []
none_cut place stream [] end rest (short_at at short) cut ends first = refl
none_cut place stream [] end rest (fault_at at fault) cut ends first =
    let clash : Ok None ≡ Err fault = sym first ∙ ap first_of (sym cut.1) ∙ ends.1 in absurd cc
none_cut place stream (i ∷ more) end rest ending cut ends first =
    let clash : Ok None ≡ Ok (Some (i.packet, i.size)) = sym first ∙ cut.1 in absurd cc

none_whole : (r : Front) → is_whole r ≡ false → r ≡ Ok None
none_whole (Ok None) e = refl
none_whole (Ok (Some x)) e = absurd cc
none_whole (Err fault) e = absurd cc

-- ---- bytes that were held, and those that were not taken

-- as many of a piece as fit are the first of what wasn't taken
all_stay : (piece : List ℕ) (f : Framing) (left : List ℕ) → IsFrontOf piece left → (fed piece f).held ++ drop (bytes_taken f.held piece) left ≡ f.held ++ left
all_stay piece f left front =
    let n = bytes_taken f.held piece in
    let same : take n left ≡ take n piece = ap (take n) (sym front.1) ∙ take-append-le n piece front.0 (taken_within f.held piece) in
    append_assoc f.held (take n piece) (drop n left)
    ∙ ap (λ (xs : List ℕ). f.held ++ xs) (ap (λ (xs : List ℕ). xs ++ drop n left) (sym same) ∙ take-append-drop n left)

-- ---- the law, along what comes

-- what is answered is a front of what the stream is cut into, and all of it if all was given
pub record IsAnswered (line : ℕ) (cs : List Coming) (g : Giving) (items : List Item) (ending : Ending) : Type 0 where
  pub front : IsFrontOf (answered line cs g) (there_in items ending)
  pub whole : IsGivenWhole line (after_comings line cs g) → answered line cs g ≡ there_in items ending

-- if the line stands, the last answer tells whether more is whole
abbrev TellsAgain : ℕ → Giving → Type 0
TellsAgain line g = IsStanding line g → g.again ≡ is_whole (first_of g.framing.held)

-- what an answer of a piece says of what is left: the line stands on the state after it, and what it holds then
again_after : (line : ℕ) (c : Coming) (g : Giving) → IsStanding line g → TellsAgain line g → TellsAgain line (after_coming line c g)
again_after line (Piece limits choice now piece) g stands tells = λ still. by (line_at line g.broker) refl still
  where
    p : Pieced
    p = pieced limits choice now line piece g.framing g.broker

    by : (o : Option Line) → line_at line g.broker ≡ o → is_some (line_at line p.broker) ≡ true → p.out.again ≡ is_whole (first_of p.framing.held)
    by o is still = ap (λ t. t && is_whole (first_of p.framing.held)) still
again_after line (Other limits choice now call) g stands tells = λ still. tells stands

module _ (line : ℕ) (items : List Item) (ending : Ending) where
  -- nothing is there to answer if all is taken and nothing is whole
  ended : (g : Giving) (place end : ℕ) (rest : List ℕ) → TellsAgain line g → IsCut place (g.framing.held ++ g.left) items end rest → EndsAs end rest ending
      → IsGivenWhole line g → [] ≡ there_in items ending
  ended g place end rest tells cut ends whole =
      let first : first_of (g.framing.held ++ g.left) ≡ Ok None =
      ap first_of (ap (λ (xs : List ℕ). g.framing.held ++ xs) whole.taken ∙ append-nil g.framing.held)
      ∙ none_whole (first_of g.framing.held) (sym (tells whole.stands) ∙ whole.answered) in
      sym (none_cut place (g.framing.held ++ g.left) items end rest ending cut ends first)

-- a line that doesn't stand is given nothing more
none_given : (line : ℕ) (cs : List Coming) (g : Giving) → is_some (line_at line g.broker) ≡ false → IsGivenOn line cs g → cs ≡ []
none_given line [] g gone on = refl
none_given line (c ∷ cs) g gone on = let clash : true ≡ false = sym on.0 ∙ gone in absurd cc

-- the line that a stream comes on, while it stands
standing_line : (line : ℕ) (g : Giving) → IsStanding line g → (l : Line) × (line_at line g.broker ≡ Some l)
standing_line line g stands = by (line_at line g.broker) refl stands
  where
    by : (o : Option Line) → line_at line g.broker ≡ o → is_some o ≡ true → (l : Line) × (line_at line g.broker ≡ Some l)
    by None is e = absurd cc
    by (Some l) is e = (l, is)

-- ---- one piece on a line that stands

module _ (limits : Capacity) (choice : MemberChoice) (now line : ℕ) (piece : List ℕ) (g : Giving) (l : Line) (there : line_at line g.broker ≡ Some l) where
  abbrev came : Coming
  came = Piece limits choice now piece

  abbrev next : Giving
  next = after_coming line came g

  abbrev bytes : List ℕ
  bytes = (fed piece g.framing).held

  abbrev rest_left : List ℕ
  rest_left = drop (bytes_taken g.framing.held piece) g.left

  left_is : next.left ≡ rest_left
  left_is = ap (λ (o : Option Line). drop (taken_on o piece g.framing) g.left) there

  framing_is : (r : Front) → first_of bytes ≡ r → next.framing ≡ without_by r (fed piece g.framing)
  framing_is r is = ap (λ (o : Option Line). held_on o piece g.framing) there ∙ ap (λ (x : Front). without_by x (fed piece g.framing)) is

  held_then : (r : Front) → first_of bytes ≡ r → next.framing.held ++ next.left ≡ (without_by r (fed piece g.framing)).held ++ rest_left
  held_then r is = ap (λ (f : Framing). f.held ++ next.left) (framing_is r is) ∙ ap (λ (xs : List ℕ). (without_by r (fed piece g.framing)).held ++ xs) left_is

  -- a fault closes the line
  fault_gone : (fault : Fault) → first_of bytes ≡ Err fault → is_some (line_at line next.broker) ≡ false
  fault_gone fault is =
      let code = code_of (answer_to fault) in
      let call : call_on (line_at line g.broker) piece g.framing ≡ Some (BadInput line (begins_connect bytes) code) =
      ap (λ (o : Option Line). call_on o piece g.framing) there
      ∙ ap (λ (x : Front). call_by l.number bytes x) is
      ∙ ap (λ (n : ℕ). Some (BadInput n (begins_connect bytes) code)) (found_number line l g.broker.lines there) in
      ap (λ (o : Option Call). is_some (line_at line (stepped_if limits choice now o g.broker))) call
      ∙ fault_closes limits choice now line (begins_connect bytes) code g.broker l there

  -- what is answered of it, and of what comes later
  piece_given : (cs : List Coming) (place end : ℕ) (rest : List ℕ) (items : List Item) (ending : Ending) → IsFrontOf piece g.left → IsGivenOn line cs next
      → IsCut place (g.framing.held ++ g.left) items end rest → EndsAs end rest ending
      → ((at : ℕ) (more : List Item) → IsCut at (next.framing.held ++ next.left) more end rest → IsAnswered line cs next more ending)
      → (r : Front) → first_of bytes ≡ r → IsAnswered line (came ∷ cs) g items ending
  piece_given cs place end rest items ending front on cut ends later (Ok None) is =
      let same = held_then (Ok None) is ∙ all_stay piece g.framing g.left front in
      let then_ = later place items (subst (λ (xs : List ℕ). IsCut place xs items end rest) (sym same) cut) in
      let none : answered line (came ∷ cs) g ≡ answered line cs next = ap (λ (r : Front). whole_in r ++ answered line cs next) is in
      record {
        front = (then_.front.0, ap (λ xs. xs ++ then_.front.0) none ∙ then_.front.1);
        whole = λ whole. none ∙ then_.whole whole;
      }
  piece_given cs place end rest items ending front on cut ends later (Ok (Some x)) is =
      let all = all_stay piece g.framing g.left front in
      let first : first_of (g.framing.held ++ g.left) ≡ Ok (Some (x.0, x.1)) = ap first_of (sym all) ∙ packet_stays bytes rest_left x is in
      let found = packet_cut place (g.framing.held ++ g.left) items end rest ending x.0 x.1 cut ends first in
      let same : next.framing.held ++ next.left ≡ drop x.1 (g.framing.held ++ g.left) =
      held_then (Ok (Some x)) is ∙ sym (drop-append-le x.1 bytes rest_left (first_within bytes x.0 x.1 is).0) ∙ ap (drop x.1) all in
      let then_ = later (place_after place x.1) found.1 (subst (λ (xs : List ℕ). IsCut (place_after place x.1) xs found.1 end rest) (sym same) found.4) in
      let told : answered line (came ∷ cs) g ≡ Ok x.0 ∷ answered line cs next = ap (λ (r : Front). whole_in r ++ answered line cs next) is in
      let there : there_in items ending ≡ Ok x.0 ∷ there_in found.1 ending =
      ap (λ (its : List Item). there_in its ending) found.2 ∙ ap (λ (p : Packet). Ok p ∷ there_in found.1 ending) found.3 in
      record {
        front = (then_.front.0, ap (λ xs. xs ++ then_.front.0) told ∙ ap (λ xs. Ok x.0 ∷ xs) then_.front.1 ∙ sym there);
        whole = λ whole. told ∙ ap (λ xs. Ok x.0 ∷ xs) (then_.whole whole) ∙ sym there;
      }
  piece_given cs place end rest items ending front on cut ends later (Err fault) is =
      let first : first_of (g.framing.held ++ g.left) ≡ Err fault = ap first_of (sym (all_stay piece g.framing g.left front)) ∙ fault_stays bytes rest_left fault is in
      let last : cs ≡ [] = none_given line cs next (fault_gone fault is) on in
      let told : answered line (came ∷ cs) g ≡ Err fault ∷ [] =
      ap (λ (r : Front). whole_in r ++ answered line cs next) is ∙ ap (λ (ds : List Coming). Err fault ∷ answered line ds next) last in
      let same = told ∙ sym (fault_cut place (g.framing.held ++ g.left) items end rest ending fault cut ends first) in
      record { front = ([], append-nil (answered line (came ∷ cs) g) ∙ same); whole = λ whole. same }

-- ---- all that comes

-- so it is, from wherever the cut has come
pub given_on : (line : ℕ) (cs : List Coming) (g : Giving) (place end : ℕ) (rest : List ℕ) (items : List Item) (ending : Ending)
    → TellsAgain line g → IsGivenOn line cs g → IsCut place (g.framing.held ++ g.left) items end rest → EndsAs end rest ending → IsAnswered line cs g items ending
given_on line [] g place end rest items ending tells on cut ends = record {
  front = (there_in items ending, refl);
  whole = λ whole. ended line items ending g place end rest tells cut ends whole;
}
given_on line (Other limits choice now call ∷ cs) g place end rest items ending tells on cut ends =
    let c = Other limits choice now call in
    let later = given_on line cs (after_coming line c g) place end rest items ending (again_after line c g on.0 tells) on.2 cut ends in
    record { front = later.front; whole = later.whole }
given_on line (Piece limits choice now piece ∷ cs) g place end rest items ending tells on cut ends =
    let c = Piece limits choice now piece in
    let stands = standing_line line g on.0 in
    let more = again_after line c g on.0 tells in
    piece_given limits choice now line piece g stands.0 stands.1 cs place end rest items ending on.1 on.2 cut ends
    (λ at its h. given_on line cs (after_coming line c g) at end rest its ending more on.2 h ends)
    (first_of (fed piece g.framing).held) refl

-- from its first byte on
pub stream_given : (line : ℕ) (stream : List ℕ) (items : List Item) (ending : Ending) (b : Broker) (cs : List Coming)
    → IsStream stream items ending → IsGivenOn line cs (given_first stream b) → IsAnswered line cs (given_first stream b) items ending
stream_given line stream items ending b cs is on =
    given_on line cs (given_first stream b) 0 is.0 is.1 items ending (λ stands. nothing_whole) on is.2 is.3
