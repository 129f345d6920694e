-- What a view has read and written so far, from one step to the next.
use Rattle.std.proofs.Common.{◌≡◌, ℕ, ◌<◌, ◌≤◌, min, List, [], ◌∷◌, ◌++◌, length, take, drop, Option, None, Some, Ok, Err, IfSome, refl, ap, sym, ◌∙◌, subst, arith, append_assoc, append-nil}
use Rattle.std.specs.List.{flat_map}
use Rattle.std.proofs.lemmas.List.{take-append-le}
use Rattle.std.proofs.lemmas.Grind.{flat_map-append}
use Rattle.std.specs.Io.KnownBytes.{Appends, Keeps, Consumes, IsAtEnd}
use Rattle.std.proofs.KnownBytes.{Appends-trans, Consumes-trans, Appends-nil, Consumes-nil, Appends-kept}
use Rattle.mqtt_packet.specs.declared.parts.fault.Fault.{Fault}
use Rattle.mqtt_packet.specs.declared.codec.packet.Packet.{Packet}
use Rattle.mqtt_packet.specs.stream.Front.{first_of, size_at}
use Rattle.mqtt_packet.specs.stream.Stream.{Framing, Item, short_at, fault_at, after, place_after, IsCut}
use Rattle.mqtt_packet.proofs.stream_lemmas.Fronts.{first_within}
use Rattle.mqtt_packet.proofs.stream_lemmas.Cuts.{cut_more, cut_next, cut_join, fault_stays}
use Rattle.mqtt_cli.specs.viewer.View.{line, fault_line, rest_line}
use Rattle.mqtt_cli.specs.viewer.Viewing.{AddsLines, WritesLines, IsDrained, Views, WritesFront, status_of}
use Rattle.mqtt_cli.specs.declared.viewer.details.Details.{Details}
use Rattle.mqtt_cli.specs.declared.viewer.viewer.Status.{Status}
use Rattle.mqtt_cli.specs.declared.viewer.viewer.Status.TheVariants.{Faulty}

-- the lines so far, and one more
lines_more : (details : Details) (items : List Item) (i : Item) (start text : List ℕ)
    → text ≡ start ++ flat_map (line details) items → text ++ line details i ≡ start ++ flat_map (line details) (items ++ i ∷ [])
lines_more details items i start text h =
    ap (λ (xs : List ℕ). xs ++ line details i) h ∙ append_assoc start (flat_map (line details) items) (line details i)
    ∙ ap (λ (xs : List ℕ). start ++ xs) (ap (λ (xs : List ℕ). flat_map (line details) items ++ xs) (sym (append-nil (line details i))) ∙ sym (flat_map-append (line details) items (i ∷ [])))

-- one more packet was shown and taken away
pub lines_next : (details : Details) (old mid new : Framing) (start text longer : List ℕ) (packet : Packet) (size place : ℕ)
    → AddsLines details old [] mid start text → first_of mid.held ≡ Ok (Some (packet, size)) → place ≡ mid.place → new ≡ after (min size (length mid.held)) mid
    → longer ≡ text ++ line details (record { place = place; size = size; packet = packet }) → AddsLines details old [] new start longer
lines_next details old mid new start text longer packet size place so_far first at gone grew =
    let within = first_within mid.held packet size first in
    let whole : min size (length mid.held) ≡ size = omega (arith, within.0) in
    let left : new ≡ after size mid = gone ∙ ap (λ (k : ℕ). after k mid) whole in
    let i : Item = record { place = place; size = size; packet = packet } in
    let same : i ≡ record { place = mid.place; size = size; packet = packet } =
    ap (λ (k : ℕ). let j : Item = record { place = k; size = size; packet = packet } in j) at in
    let cut = cut_next old.place (old.held ++ []) so_far.items mid.place mid.held packet size so_far.cut first in
    record {
      items = so_far.items ++ i ∷ [];
      cut = subst (λ (f : Framing). IsCut old.place (old.held ++ []) (so_far.items ++ i ∷ []) f.place f.held) (sym left)
          (subst (λ (j : Item). IsCut old.place (old.held ++ []) (so_far.items ++ j ∷ []) (place_after mid.place size) (drop size mid.held)) (sym same) cut);
      text = grew ∙ lines_more details so_far.items i start text so_far.text;
    }

-- what has been read, and the lines that have been written of it
pub record FedSoFar (details : Details) (f : Framing) (input left : Option (List ℕ)) (before after : Option (List ℕ)) : Type 0 where
  pub fed : List ℕ
  pub read : Consumes input left fed
  pub items : List Item
  pub cut : IsCut 0 fed items f.place f.held
  pub wrote : Appends before after (flat_map (line details) items)

-- the same, and no whole packet is held
pub record ViewsSoFar (details : Details) (f : Framing) (input left : Option (List ℕ)) (before after : Option (List ℕ)) : Type 0 where
  pub so_far : FedSoFar details f input left before after
  pub waits : first_of f.held ≡ Ok None
  pub room : length f.held < 65536

-- no byte decides nothing
pub nothing_first : first_of [] ≡ Ok None
unfolding first_of size_at
nothing_first = refl

-- nothing has been read
pub views_start : (details : Details) (f : Framing) (input before : Option (List ℕ)) → f ≡ record { held = []; place = 0 } → ViewsSoFar details f input input before before
views_start details f input before e =
    let held : f.held ≡ [] = ap (λ (g : Framing). g.held) e in
    record {
      so_far = record {
        fed = [];
        read = Consumes-nil input;
        items = [];
        cut = (ap (λ (g : Framing). g.place) e, held);
        wrote = Appends-nil before;
      };
      waits = ap first_of held ∙ nothing_first;
      room = let none : length f.held ≡ 0 = ap length held in omega arith;
    }

-- a piece was read, and its lines were written
pub fed_next : (details : Details) (f g : Framing) (input left less before after longer : Option (List ℕ)) (piece : List ℕ)
    → FedSoFar details f input left before after → Consumes left less piece → WritesLines details f piece g after longer → FedSoFar details g input less before longer
fed_next details f g input left less before after longer piece so took w =
    record {
      fed = so.fed ++ piece;
      read = Consumes-trans input left less so.fed piece so.read took;
      items = so.items ++ w.items;
      cut = cut_join 0 (so.fed ++ piece) so.items w.items f.place g.place (f.held ++ piece) g.held (cut_more 0 so.fed so.items f.place f.held piece so.cut) w.cut;
      wrote = rw flat_map-append (Appends-trans before after longer _ _ so.wrote w.wrote);
    }

-- a piece was read, its lines were written, and no packet is left whole
pub views_next : (details : Details) (f g : Framing) (input left less before after longer : Option (List ℕ)) (piece : List ℕ)
    → ViewsSoFar details f input left before after → Consumes left less piece → WritesLines details f piece g after longer → IsDrained g None → ViewsSoFar details g input less before longer
views_next details f g input left less before after longer piece v took w d =
    record { so_far = fed_next details f g input left less before after longer piece v.so_far took w; waits = d.0; room = d.1 }

-- whole lines stand, whatever more there is to read
pub front_of : (details : Details) (f : Framing) (input left before after longer : Option (List ℕ))
    → FedSoFar details f input left before after → Keeps after longer → IfSome input (λ xs. WritesFront details xs before longer)
front_of details f None left before after longer so kept = tt
front_of details f (Some xs) None before after longer so kept = absurd so.read
front_of details f (Some xs) (Some ys) before after longer so kept =
    record {
      items = so.items;
      end = f.place;
      rest = f.held ++ ys;
      cut = subst (λ (s : List ℕ). IsCut 0 s so.items f.place (f.held ++ ys)) (sym so.read) (cut_more 0 so.fed so.items f.place f.held ys so.cut);
      wrote = Appends-kept before after longer _ so.wrote kept;
    }

-- the input is at its end
pub views_end : (details : Details) (f : Framing) (input left less before after longer : Option (List ℕ)) (status : Status)
    → ViewsSoFar details f input left before after → Consumes left less [] → IsAtEnd less → Appends after longer (rest_line details f.place (length f.held))
    → status ≡ status_of (short_at f.place f.held) → IfSome input (λ xs. Views details xs before longer status)
views_end details f None left less before after longer status v took end wrote is = tt
views_end details f (Some xs) None less before after longer status v took end wrote is = absurd v.so_far.read
views_end details f (Some xs) (Some ys) None before after longer status v took end wrote is = absurd took
views_end details f (Some xs) (Some ys) (Some zs) before after longer status v took end wrote is =
    let so = v.so_far in
    let none : ys ≡ [] = took ∙ end in
    let all : xs ≡ so.fed = so.read ∙ ap (λ (l : List ℕ). so.fed ++ l) none ∙ append-nil so.fed in
    record {
      items = so.items;
      ending = short_at f.place f.held;
      stream = (f.place, f.held, subst (λ (s : List ℕ). IsCut 0 s so.items f.place f.held) (sym all) so.cut, (refl, refl, v.waits));
      wrote = Appends-trans before after longer _ _ so.wrote wrote;
      status_is = is;
    }

-- a fault stands in what was read
pub views_fault : (details : Details) (f : Framing) (input left before after longer : Option (List ℕ)) (fault : Fault) (place : ℕ)
    → FedSoFar details f input left before after → first_of f.held ≡ Err fault → place ≡ f.place → Appends after longer (fault_line details place fault)
    → IfSome input (λ xs. Views details xs before longer Faulty)
views_fault details f None left before after longer fault place so first at wrote = tt
views_fault details f (Some xs) None before after longer fault place so first at wrote = absurd so.read
views_fault details f (Some xs) (Some ys) before after longer fault place so first at wrote =
    record {
      items = so.items;
      ending = fault_at place fault;
      stream = (f.place, f.held ++ ys, subst (λ (s : List ℕ). IsCut 0 s so.items f.place (f.held ++ ys)) (sym so.read) (cut_more 0 so.fed so.items f.place f.held ys so.cut), (at, fault_stays f.held ys fault first));
      wrote = Appends-trans before after longer _ _ so.wrote wrote;
      status_is = refl;
    }

-- the bytes that a read gave stand at the front of the buffer
pub taken : (a b : Option (List ℕ)) (n : ℕ) (buf more : List ℕ) → n ≤ length buf → Consumes a b (take n buf) → Consumes a b (take n (buf ++ more))
taken a b n buf more l h = rw (take-append-le n buf more l) h
