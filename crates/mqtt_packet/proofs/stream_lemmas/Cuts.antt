-- A cut goes on with its stream, and each stream has one.
use Rattle.std.proofs.Common.{◌≡◌, ℕ, zero, suc, ◌≤◌, List, [], ◌∷◌, ◌++◌, length, drop, Option, None, Some, Result, Ok, Err, refl, sym, ap, ◌∙◌, subst, inl, inr, arith, length-drop}
use Rattle.std.proofs.lemmas.List.{drop-append-le}
use Rattle.mqtt_packet.specs.declared.parts.fault.Fault.{Fault}
use Rattle.mqtt_packet.specs.declared.codec.packet.Packet.{Packet}
use Rattle.mqtt_packet.specs.stream.Front.{first_of}
use Rattle.mqtt_packet.specs.stream.Stream.{Item, place_after, IsCut, Ending, short_at, fault_at, EndsAs, IsStream}
use Rattle.mqtt_packet.proofs.stream_lemmas.Fronts.{first_stays, first_within, found_size, found_packet}

-- a whole packet at the front stays there, whatever follows
pub packet_stays : (h t : List ℕ) (x : Packet × ℕ) → first_of h ≡ Ok (Some x) → first_of (h ++ t) ≡ Ok (Some x)
packet_stays h t x e = elim (first_stays h t) [ inl w ↦ cc | inr s ↦ s ∙ e ]

-- and so does a fault
pub fault_stays : (h t : List ℕ) (f : Fault) → first_of h ≡ Err f → first_of (h ++ t) ≡ Err f
fault_stays h t f e = elim (first_stays h t) [ inl w ↦ cc | inr s ↦ s ∙ e ]

-- what follows the stream follows its rest
pub cut_more : (place : ℕ) (stream : List ℕ) (items : List Item) (end : ℕ) (rest more : List ℕ)
    → IsCut place stream items end rest → IsCut place (stream ++ more) items end (rest ++ more)
cut_more place stream [] end rest more c = (c.0, ap (λ xs. xs ++ more) c.1)
cut_more place stream (i ∷ items) end rest more c =
    let within = (first_within stream i.packet i.size c.1).0 in
    let dropped : drop i.size (stream ++ more) ≡ drop i.size stream ++ more = drop-append-le i.size stream more within in
    (c.0, packet_stays stream more (i.packet, i.size) c.1, rw dropped (cut_more (place_after place i.size) (drop i.size stream) items end rest more c.2))

-- the packet that the rest begins with is the next one
pub cut_next : (place : ℕ) (stream : List ℕ) (items : List Item) (end : ℕ) (rest : List ℕ) (packet : Packet) (n : ℕ)
    → IsCut place stream items end rest → first_of rest ≡ Ok (Some (packet, n))
    → IsCut place stream (items ++ record { place = end; size = n; packet = packet } ∷ []) (place_after end n) (drop n rest)
cut_next place stream [] end rest packet n c e =
    (c.0, ap first_of (sym c.1) ∙ e, (ap (λ (p : ℕ). place_after p n) c.0, ap (drop n) c.1))
cut_next place stream (i ∷ items) end rest packet n c e =
    (c.0, c.1, cut_next (place_after place i.size) (drop i.size stream) items end rest packet n c.2 e)

-- a cut goes on where the one before it ended
pub cut_join : (place : ℕ) (stream : List ℕ) (xs ys : List Item) (end far : ℕ) (rest left : List ℕ)
    → IsCut place stream xs end rest → IsCut end rest ys far left → IsCut place stream (xs ++ ys) far left
cut_join place stream [] ys end far rest left c d = subst (λ (p : ℕ). IsCut p stream ys far left) c.0 (subst (λ (s : List ℕ). IsCut end s ys far left) c.1 d)
cut_join place stream (i ∷ xs) ys end far rest left c d =
    (c.0, c.1, cut_join (place_after place i.size) (drop i.size stream) xs ys end far rest left c.2 d)

-- items of one place, size and packet are one
pub same_item : (x y : Item) → x.place ≡ y.place → x.size ≡ y.size → x.packet ≡ y.packet → x ≡ y
same_item x y p s c =
    let by_place : ℕ → Item = λ k. record { place = k; size = x.size; packet = x.packet } in
    let by_size : ℕ → Item = λ k. record { place = y.place; size = k; packet = x.packet } in
    let by_packet : Packet → Item = λ k. record { place = y.place; size = y.size; packet = k } in
    ap by_place p ∙ ap by_size s ∙ ap by_packet c

-- two cuts of one stream, each up to where no packet begins
pub cut_unique : (place : ℕ) (stream : List ℕ) (xs ys : List Item) (d e : ℕ) (r s : List ℕ)
    → IsCut place stream xs d r → IsCut place stream ys e s
    → ((x : Packet × ℕ) → first_of r ≡ Ok (Some x) → ⊥) → ((x : Packet × ℕ) → first_of s ≡ Ok (Some x) → ⊥)
    → (xs ≡ ys) × (d ≡ e) × (r ≡ s)
cut_unique place stream [] [] d e r s a b p q = (refl, a.0 ∙ sym b.0, a.1 ∙ sym b.1)
cut_unique place stream [] (y ∷ ys) d e r s a b p q = absurd (p (y.packet, y.size) (ap first_of a.1 ∙ b.1))
cut_unique place stream (x ∷ xs) [] d e r s a b p q = absurd (q (x.packet, x.size) (ap first_of b.1 ∙ a.1))
cut_unique place stream (x ∷ xs) (y ∷ ys) d e r s a b p q =
    let size : x.size ≡ y.size = ap found_size (sym a.1 ∙ b.1) in
    let packet : x.packet ≡ y.packet = ap (found_packet x.packet) (sym a.1 ∙ b.1) in
    let where_ : x.place ≡ y.place = a.0 ∙ sym b.0 in
    let tail : IsCut (place_after place x.size) (drop x.size stream) ys e s = rw size b.2 in
    let rest = cut_unique (place_after place x.size) (drop x.size stream) xs ys d e r s a.2 tail p q in
    (ap (λ (i : Item). i ∷ xs) (same_item x y where_ size packet) ∙ ap (λ (l : List Item). y ∷ l) rest.0, rest.1, rest.2)

-- no packet begins where a stream ends
pub ended : (end : ℕ) (rest : List ℕ) (e : Ending) (x : Packet × ℕ) → EndsAs end rest e → first_of rest ≡ Ok (Some x) → ⊥
ended end rest (short_at p l) x h e = cc (sym h.2 ∙ e)
ended end rest (fault_at p f) x h e = cc (sym h.1 ∙ e)

same_ending : (end : ℕ) (rest : List ℕ) (e f : Ending) → EndsAs end rest e → EndsAs end rest f → e ≡ f
same_ending end rest (short_at p l) (short_at q m) a b = ap (λ (k : ℕ). short_at k l) (a.0 ∙ sym b.0) ∙ ap (short_at q) (a.1 ∙ sym b.1)
same_ending end rest (short_at p l) (fault_at q g) a b = cc (sym a.2 ∙ b.1)
same_ending end rest (fault_at p f) (short_at q m) a b = cc (sym b.2 ∙ a.1)
same_ending end rest (fault_at p f) (fault_at q g) a b =
    let same : f ≡ g = cc (sym a.1 ∙ b.1) in
    ap (λ (k : ℕ). fault_at k f) (a.0 ∙ sym b.0) ∙ ap (fault_at q) same

-- a stream is read in one way
pub stream_unique : (stream : List ℕ) (xs ys : List Item) (e f : Ending) → IsStream stream xs e → IsStream stream ys f → (xs ≡ ys) × (e ≡ f)
stream_unique stream xs ys e f a b =
    let u = cut_unique 0 stream xs ys a.0 b.0 a.1 b.1 a.2 b.2 (λ x h. ended a.0 a.1 e x a.3 h) (λ x h. ended b.0 b.1 f x b.3 h) in
    let moved : EndsAs a.0 a.1 f = rw (u.1, u.2) b.3 in
    (u.0, same_ending a.0 a.1 e f a.3 moved)

-- each stream is cut up to where no packet begins
abbrev CutToEnd : ℕ → List ℕ → Type 0
CutToEnd place stream = (items : List Item) × (end : ℕ) × (rest : List ℕ) × (ending : Ending) × IsCut place stream items end rest × EndsAs end rest ending

abbrev CutBy : ℕ → List ℕ → Result (Option (Packet × ℕ)) Fault → Type 0
CutBy place stream found = first_of stream ≡ found → CutToEnd place stream

cut_by : (k place : ℕ) (stream : List ℕ) (found : Result (Option (Packet × ℕ)) Fault) → length stream ≤ k → CutBy place stream found
cut_by k place stream (Err f) l e = ([], place, stream, fault_at place f, (refl, refl), (refl, e))
cut_by k place stream (Ok None) l e = ([], place, stream, short_at place stream, (refl, refl), (refl, refl, e))
cut_by zero place stream (Ok (Some x)) l e =
    let within = first_within stream x.0 x.1 e in
    absurd (omega arith)
cut_by (suc k) place stream (Ok (Some x)) l e =
    let within = first_within stream x.0 x.1 e in
    let rest = drop x.1 stream in
    let shorter : length rest ≤ k = omega (arith, length-drop x.1 stream) in
    let more = cut_by k (place_after place x.1) rest (first_of rest) shorter refl in
    (record { place = place; size = x.1; packet = x.0 } ∷ more.0, more.1, more.2, more.3, (refl, e, more.4), more.5)

-- every stream is items and an ending
pub stream_exists : (stream : List ℕ) → (items : List Item) × (ending : Ending) × IsStream stream items ending
stream_exists stream =
    let c = cut_by (length stream) 0 stream (first_of stream) (omega arith) refl in
    (c.0, c.3, (c.1, c.2, c.4, c.5))
