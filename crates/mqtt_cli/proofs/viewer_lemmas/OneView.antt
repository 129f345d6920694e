-- Each input has one view, and what a view that stopped early wrote is a beginning of it.
use Rattle.std.proofs.Common.{◌≡◌, ℕ, List, [], ◌∷◌, ◌++◌, drop, Some, Ok, refl, ap, sym, ◌∙◌, append_assoc}
use Rattle.std.specs.List.{flat_map}
use Rattle.std.proofs.lemmas.Grind.{flat_map-append}
use Rattle.mqtt_packet.specs.declared.codec.packet.Packet.{Packet}
use Rattle.mqtt_packet.specs.stream.Front.{first_of}
use Rattle.mqtt_packet.specs.stream.Stream.{Item, Ending, IsCut, place_after}
use Rattle.mqtt_packet.proofs.stream_lemmas.Cuts.{stream_exists, stream_unique, same_item, ended}
use Rattle.mqtt_packet.proofs.stream_lemmas.Fronts.{found_size, found_packet}
use Rattle.mqtt_cli.specs.viewer.View.{line, last_line, view_text}
use Rattle.mqtt_cli.specs.viewer.Viewing.{Views, WritesFront, status_of}
use Rattle.mqtt_cli.specs.declared.viewer.details.Details.{Details}
use Rattle.mqtt_cli.specs.declared.viewer.viewer.Status.{Status}

-- every input has a view
pub some_view : (details : Details) (input before : List ℕ)
    → (after : List ℕ) × (status : Status) × Views details input (Some before) (Some after) status
some_view details input before =
    let (items, ending, stream) = stream_exists input in (
      before ++ view_text details items ending,
      status_of ending,
      record { items = items; ending = ending; stream = stream; wrote = refl; status_is = refl },
    )

-- and one alone
pub only_view : (details : Details) (input before after other : List ℕ) (status another : Status)
    → Views details input (Some before) (Some after) status → Views details input (Some before) (Some other) another
    → (after ≡ other) × (status ≡ another)
only_view details input before after other status another v w =
    let (items, ending) = stream_unique input v.items w.items v.ending w.ending v.stream w.stream in
    let text = ap (λ (xs : List Item). view_text details xs v.ending) items ∙ ap (view_text details w.items) ending in (
      v.wrote ∙ ap (λ (t : List ℕ). before ++ t) text ∙ sym w.wrote,
      v.status_is ∙ ap status_of ending ∙ sym w.status_is,
    )

-- no packet begins where a stream ends
-- a cut begins every cut that goes as far as it can
cut_begins : (place : ℕ) (stream : List ℕ) (xs ys : List Item) (d e : ℕ) (r s : List ℕ) → IsCut place stream xs d r → IsCut place stream ys e s
    → ((x : Packet × ℕ) → first_of s ≡ Ok (Some x) → ⊥) → (more : List Item) × (ys ≡ xs ++ more)
cut_begins place stream [] ys d e r s a b q = (ys, refl)
cut_begins place stream (x ∷ xs) [] d e r s a b q = absurd (q (x.packet, x.size) (ap first_of b.1 ∙ a.1))
cut_begins place stream (x ∷ xs) (y ∷ ys) d e r s a b q =
    let size : x.size ≡ y.size = ap found_size (sym a.1 ∙ b.1) in
    let packet : x.packet ≡ y.packet = ap (found_packet x.packet) (sym a.1 ∙ b.1) in
    let tail : IsCut (place_after place x.size) (drop x.size stream) ys e s = rw size b.2 in
    let begins = cut_begins (place_after place x.size) (drop x.size stream) xs ys d e r s a.2 tail q in
    (begins.0, ap (λ (l : List Item). y ∷ l) begins.1 ∙ ap (λ (i : Item). i ∷ (xs ++ begins.0)) (sym (same_item x y (a.0 ∙ sym b.0) size packet)))

-- the lines of some packets begin the text of a stream that begins with them
text_begins : (details : Details) (xs more : List Item) (ending : Ending) (before : List ℕ)
    → before ++ view_text details (xs ++ more) ending ≡ (before ++ flat_map (line details) xs) ++ view_text details more ending
text_begins details xs more ending before =
    let f = line details in
    let last = last_line details ending in
    ap (λ (t : List ℕ). before ++ (t ++ last)) (flat_map-append f xs more)
    ∙ ap (λ (t : List ℕ). before ++ t) (append_assoc (flat_map f xs) (flat_map f more) last)
    ∙ sym (append_assoc before (flat_map f xs) (flat_map f more ++ last))

-- what was written of it so far is its beginning
pub early_begins : (details : Details) (input before after early : List ℕ) (status : Status)
    → Views details input (Some before) (Some after) status → WritesFront details input (Some before) (Some early)
    → (rest : List ℕ) × (after ≡ early ++ rest)
early_begins details input before after early status v w =
    let (end, rest, cut, ends) = v.stream in
    let begins = cut_begins 0 input w.items v.items w.end end w.rest rest w.cut cut (λ x first. ended end rest v.ending x ends first) in
    let more = view_text details begins.0 v.ending in (
      more,
      v.wrote ∙ ap (λ (xs : List Item). before ++ view_text details xs v.ending) begins.1
          ∙ text_begins details w.items begins.0 v.ending before ∙ ap (λ (t : List ℕ). t ++ more) (sym w.wrote),
    )
