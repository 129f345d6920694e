-- What goes out on the line of a client that knows what it was told has a spelling in its form, if it has one as it was meant.
use Rattle.std.proofs.Common.{◌≡◌, ℕ, suc, ◌+◌, ◌≤◌, ◌<◌, ◌^◌, Bool, true, false, not, ◌&&◌, ◌||◌, cond, List, [], ◌∷◌, ◌++◌, length, nat_eq, nat_lt, Option, Some, None, refl, ap, ap₂, sym, subst, ◌∙◌, arith, inl, inr}
use Rattle.std.specs.Prelude.{bytes_eq, filter_map, nat_le, unwrap_or}
use Rattle.std.specs.List.{AllByRecursion, list_all}
use Rattle.std.proofs.lemmas.Bool.{cases_Bool, eqb-true, ltb-true}
use Rattle.std.proofs.lemmas.Cmp.{nat_eq_equiv}
use Rattle.std.proofs.lemmas.List.{length-append}
use Rattle.std.proofs.lemmas.Str.{IsUtf8-from_ascii}
use Rattle.std.proofs.lemmas.Str.Ascii.{IsAscii-nil}
use Rattle.mqtt_base.specs.Values.{FitsText, blob, varint}
use Rattle.mqtt_base.proofs.Texts.{is_text-utf8}
use Rattle.mqtt_props.specs.Edits.{only, without}
use Rattle.mqtt_props.specs.Laws.{all_may_stand, has, has_method_for_data, is_lawful, is_lawful_value, is_named, may_repeat, none_repeats, values_are_lawful}
use Rattle.mqtt_props.specs.Properties.{IsProp, Prop, U16, block, props}
use Rattle.mqtt_props.specs.Table.{may_stand, property_row}
use Rattle.mqtt_props.specs.declared.place.Place.TheVariants as places
use Rattle.mqtt_props.specs.declared.table.PropName.{PropName}
use Rattle.mqtt_props.specs.declared.table.PropName.TheVariants.{AuthenticationData, AuthenticationMethod, TopicAlias, UserProperty}
use Rattle.mqtt_packet.specs.codec.Packets.{HasSpelling}
use Rattle.mqtt_packet.specs.codec.Publish.{identifier_field, lawful_identifier, publish_body}
use Rattle.mqtt_packet.specs.declared.codec.packet.Packet.{Packet}
use Rattle.mqtt_packet.specs.declared.codec.packet.Packet.TheVariants as packets
use Rattle.mqtt_packet.specs.declared.codec.publish.Publish.{Publish}
use Rattle.mqtt_topic.specs.names.Aliases.{AliasTable}
use Rattle.mqtt_topic.specs.declared.sending.form.Form.{Form}
use Rattle.mqtt_topic.specs.declared.sending.form.Form.TheVariants.{Plain, Named, Short}
use Rattle.mqtt_topic.specs.sending.Sizes.{is_spelled}
use Rattle.mqtt_topic.specs.sending.Told.{ToldTopics, alias_of, forms_by, next_alias, place_from}
use Rattle.mqtt_records.specs.messages.PassedOn.{property}
use Rattle.mqtt_rules.specs.step.Deeds.{Deed, Greet, On, Send, after, output, spoken, wires}
use Rattle.mqtt_rules.specs.step.Forms.{first_within, in_form, is_within}
use Rattle.mqtt_rules.specs.step.Packets.{size_of}
use Rattle.mqtt_rules.specs.step.State.{Broker, Line, line_at, told_on}
use Rattle.mqtt_rules.specs.granting.Naming.{HasNoAlias, HasUsersLast}
use Rattle.mqtt_rules.specs.telling.Meaning.{GrantsWithin, Knows, after_reading_all, on_line}
use Rattle.mqtt_rules.proofs.telling_lemmas.Deeds.{knows}
use Rattle.mqtt_world_laws.proofs.knowing_lemmas.Reading.{IsSaid, all_reading_max, has_none}

-- ---- truth values

two : (a b : Bool) → (a && b) ≡ true → (a ≡ true) × (b ≡ true)
two true b h = (refl, h)
two false b h = absurd cc

both : (a b : Bool) → a ≡ true → b ≡ true → (a && b) ≡ true
both true b h k = k
both false b h k = absurd cc

or_right : (a b : Bool) → b ≡ true → (a || b) ≡ true
or_right true b h = refl
or_right false b h = h

-- ---- a block with a Topic Alias among its properties

module _ (alias : ℕ) where
  abbrev Own : Prop
  Own = property TopicAlias (U16 alias)

  each_in : (P : Prop → Type 0) (xs ys : List Prop) → P Own → AllByRecursion P (xs ++ ys) → AllByRecursion P (xs ++ Own ∷ ys)
  each_in P [] ys own h = (own, h)
  each_in P (x ∷ xs) ys own h = (h.0, each_in P xs ys own h.1)

  all_in : (test : Prop → Bool) (xs ys : List Prop) → test Own ≡ true → list_all test (xs ++ ys) ≡ true → list_all test (xs ++ Own ∷ ys) ≡ true
  all_in test [] ys own h = both (test Own) (list_all test ys) own h
  all_in test (x ∷ xs) ys own h =
      let parts = two (test x) (list_all test (xs ++ ys)) h in
      both (test x) (list_all test (xs ++ Own ∷ ys)) parts.0 (all_in test xs ys own parts.1)

  -- no other name has come, and this one has
  has_in : (name : PropName) (xs ys : List Prop) → is_named name Own ≡ false → has name (xs ++ Own ∷ ys) ≡ has name (xs ++ ys)
  has_in name [] ys other = rw other refl
  has_in name (x ∷ xs) ys other = ap (λ (b : Bool). is_named name x || b) (has_in name xs ys other)

  has_own : (xs ys : List Prop) → has TopicAlias (xs ++ Own ∷ ys) ≡ true
  has_own [] ys = refl
  has_own (x ∷ xs) ys = or_right (is_named TopicAlias x) (has TopicAlias (xs ++ Own ∷ ys)) (has_own xs ys)

  has_not : (ys : List Prop) → HasNoAlias ys → has TopicAlias ys ≡ false
  has_not [] h = refl
  has_not (y ∷ ys) h = let other = h.0 in rw other (has_not ys h.1)

  once_in : (xs ys : List Prop) → HasNoAlias (xs ++ ys) → none_repeats places.Publish (xs ++ ys) ≡ true → none_repeats places.Publish (xs ++ Own ∷ ys) ≡ true
  once_in [] ys none h = let absent = has_not ys none in rw absent h
  once_in (x ∷ xs) ys none h =
      let parts = two (may_repeat places.Publish x.name || not (has x.name (xs ++ ys))) (none_repeats places.Publish (xs ++ ys)) h in
      let other : is_named x.name Own ≡ false = nat_eq_equiv.symm (property_row TopicAlias).id (property_row x.name).id ∙ none.0 in
      both (may_repeat places.Publish x.name || not (has x.name (xs ++ Own ∷ ys))) (none_repeats places.Publish (xs ++ Own ∷ ys))
      (ap (λ (b : Bool). may_repeat places.Publish x.name || not b) (has_in x.name xs ys other) ∙ parts.0)
      (once_in xs ys none.1 parts.1)

  lawful_in : (xs ys : List Prop) → HasNoAlias (xs ++ ys) → is_lawful places.Publish (xs ++ ys) ≡ true → is_lawful places.Publish (xs ++ Own ∷ ys) ≡ true
  lawful_in xs ys none h =
      let laws = two (none_repeats places.Publish (xs ++ ys)) (values_are_lawful (xs ++ ys)) h in
      let each = two (list_all (λ p. is_lawful_value p.name p.value) (xs ++ ys)) (has_method_for_data (xs ++ ys)) laws.1 in
      both (none_repeats places.Publish (xs ++ Own ∷ ys)) (values_are_lawful (xs ++ Own ∷ ys)) (once_in xs ys none laws.0)
      (both (list_all (λ p. is_lawful_value p.name p.value) (xs ++ Own ∷ ys)) (has_method_for_data (xs ++ Own ∷ ys))
      (all_in (λ p. is_lawful_value p.name p.value) xs ys refl each.0)
      (ap₂ (λ (a b : Bool). not a || b) (has_in AuthenticationData xs ys refl) (has_in AuthenticationMethod xs ys refl) ∙ each.1))

-- ---- a PUBLISH in a form with an alias

some_empty : FitsText []
some_empty = (omega arith, is_text-utf8 [] refl (IsUtf8-from_ascii [] IsAscii-nil))

module _ (p : Publish) (h : HasSpelling (packets.Publish p)) (none : HasNoAlias p.properties) (last : HasUsersLast p.properties) where
  abbrev Front : List Prop
  Front = without UserProperty p.properties

  abbrev Back : List Prop
  Back = only UserProperty p.properties

  abbrev Aliased : ℕ → List ℕ → Publish
  Aliased alias topic = record {
    delivery = p.delivery;
    retain = p.retain;
    topic = topic;
    properties = Front ++ property TopicAlias (U16 alias) ∷ Back;
    payload = p.payload;
  }

  aliased : (alias : ℕ) (topic : List ℕ) → alias < 2 ^ 16 → FitsText topic → is_spelled (length (publish_body (Aliased alias topic))) ≡ true → HasSpelling (packets.Publish (Aliased alias topic))
  aliased alias topic small text within =
      let ps = Front ++ property TopicAlias (U16 alias) ∷ Back in
      let short : length (publish_body (Aliased alias topic)) < 2 ^ 28 = ltb-true (length (publish_body (Aliased alias topic))) (2 ^ 28) within in
      let first = length-append (blob topic) (identifier_field p.delivery ++ (block ps ++ p.payload)) in
      let second = length-append (identifier_field p.delivery) (block ps ++ p.payload) in
      let third = length-append (block ps) p.payload in
      let fourth = length-append (varint (length (props ps))) (props ps) in
      let each : AllByRecursion IsProp (Front ++ Back) = subst (AllByRecursion IsProp) (sym last) h.0.2.0.each in
      let may : all_may_stand places.Publish (Front ++ Back) ≡ true = ap (all_may_stand places.Publish) last ∙ h.0.2.1 in
      let named : HasNoAlias (Front ++ Back) = subst HasNoAlias (sym last) none in
      let laws = two (is_lawful places.Publish p.properties) (lawful_identifier p.delivery && (nat_lt 0 (length p.topic) || has TopicAlias p.properties)) h.2 in
      let identified = two (lawful_identifier p.delivery) (nat_lt 0 (length p.topic) || has TopicAlias p.properties) laws.1 in
      let lawful : is_lawful places.Publish (Front ++ Back) ≡ true = ap (is_lawful places.Publish) last ∙ laws.0 in (
        (
          h.0.0,
          text,
          (
            record { each = each_in alias IsProp Front Back (record { kind = refl; fits = small }) each; short = omega (arith, short, first, second, third, fourth) },
            all_in alias (λ x. may_stand x.name places.Publish) Front Back refl may,
          ),
        ),
        short,
        both (is_lawful places.Publish ps) (lawful_identifier p.delivery && (nat_lt 0 (length topic) || has TopicAlias ps)) (lawful_in alias Front Back named lawful)
            (both (lawful_identifier p.delivery) (nat_lt 0 (length topic) || has TopicAlias ps) identified.0 (or_right (nat_lt 0 (length topic)) (has TopicAlias ps) (has_own alias Front Back))),
      )

  within_spelled : (largest : ℕ) (f : Form) → is_within largest p f ≡ true → is_spelled (length (publish_body (in_form f p))) ≡ true
  within_spelled largest f within = (two (is_spelled (length (publish_body (in_form f p)))) (nat_le (size_of (packets.Publish (in_form f p))) largest) within).0

  -- in whichever form it goes out
  abbrev Good : Option Form → Type 0
  Good o = HasSpelling (packets.Publish (in_form (unwrap_or o Plain) p))

  pick : (largest : ℕ) (f : Form) (o : Option Form) → (is_within largest p f ≡ true → Good (Some f)) → Good o → Good (cond (is_within largest p f) (Some f) o)
  pick largest f o x y = by (is_within largest p f) refl
    where
      by : (t : Bool) → is_within largest p f ≡ t → Good (cond t (Some f) o)
      by true e = x e
      by false e = y

  plain : Good (Some Plain)
  plain = h

  rest : (largest : ℕ) → Good (first_within largest p (Plain ∷ []))
  rest largest = pick largest Plain None (λ e. plain) plain

  -- an alias is a place among the topics that were told
  at_place : (n a : ℕ) (topic : List ℕ) (ts : List (List ℕ)) → place_from n topic ts ≡ Some a → a < n + length ts
  at_place n a topic [] is = absurd cc
  at_place n a topic (t ∷ ts) is = elim (cases_Bool (bytes_eq t topic)) [
    | inl same ↦ let here : Some n ≡ Some a = rw same at is in let at : n ≡ a = cc in omega (arith, at)
    | inr other ↦ let under = at_place (suc n) a topic ts (rw other at is) in omega (arith, under)
  ]

  formed : (largest : ℕ) (told : ToldTopics) → length told.topics ≤ told.max → told.max < 2 ^ 16 → Good (first_within largest p (forms_by (alias_of p.topic told) (next_alias told)))
  formed largest told few small = by (alias_of p.topic told) refl
    where
      next : (t : Bool) → nat_lt (length told.topics) told.max ≡ t → Good (first_within largest p (forms_by None (cond t (Some (suc (length told.topics))) None)))
      next true room =
          let under = ltb-true (length told.topics) told.max room in
          let f = Named (suc (length told.topics)) in
          pick largest f (first_within largest p (Plain ∷ []))
          (λ e. aliased (suc (length told.topics)) p.topic (omega (arith, under, small)) h.0.1 (within_spelled largest f e)) (rest largest)
      next false room = rest largest

      by : (o : Option ℕ) → alias_of p.topic told ≡ o → Good (first_within largest p (forms_by o (next_alias told)))
      by (Some alias) is =
          let under = at_place 1 alias p.topic told.topics is in
          pick largest (Short alias) (first_within largest p (Plain ∷ []))
          (λ e. aliased alias [] (omega (arith, under, few, small)) some_empty (within_spelled largest (Short alias) e)) (rest largest)
      by None is = next (nat_lt (length told.topics) told.max) refl

-- ---- a packet

spoken_spelled : (o : Option Line) (told : ToldTopics) (packet : Packet) → length told.topics ≤ told.max → told.max < 2 ^ 16 → HasSpelling packet → IsSaid packet → HasSpelling (spoken o told packet)
spoken_spelled (Some l) told (packets.Publish p) few small h said = formed p h (has_none p.properties said.0.1) said.1 l.largest told few small
spoken_spelled None told packet few small h said = h
spoken_spelled (Some l) told packet few small h said = h

-- ---- what goes out by deeds

abbrev pub IsMeant : Packet → Type 0
IsMeant packet = HasSpelling packet × IsSaid packet

-- what goes out on the line has spellings
pub wires_spelled : (n : ℕ) (known : AliasTable) (ds : List Deed) (b : Broker) → Knows known (told_on n b.tellings) → GrantsWithin n known.max ds → known.max < 2 ^ 16
    → AllByRecursion IsMeant (on_line n (filter_map output ds)) → AllByRecursion HasSpelling (on_line n (wires ds b))
wires_spelled n known [] b h w small all = tt
wires_spelled n known (On k (Greet birth keep_alive window largest granted) ∷ ds) b h w small all =
    let d = On k (Greet birth keep_alive window largest granted) in
    wires_spelled n known ds (after d b) (knows n known (d ∷ []) b h (w.0, tt)) w.1 small all
wires_spelled n known (Send k packet ∷ ds) b h w small all =
    let later = after_reading_all known (on_line n (wires (Send k packet ∷ []) b)) in
    let max : later.max ≡ known.max = all_reading_max known (on_line n (wires (Send k packet ∷ []) b)) in
    let go : AllByRecursion IsMeant (on_line n (filter_map output ds)) → AllByRecursion HasSpelling (on_line n (wires ds (after (Send k packet) b))) =
    λ rest. wires_spelled n later ds (after (Send k packet) b) (knows n known (Send k packet ∷ []) b h (w.0, tt)) (subst (λ (m : ℕ). GrantsWithin n m ds) (sym max) w.1) (omega (arith, max, small)) rest in
    elim (cases_Bool (nat_eq k n)) [
      | inl mine ↦
          let each : AllByRecursion IsMeant (packet ∷ on_line n (filter_map output ds)) = rw mine at all in
          let told = told_on k b.tellings in
          let its : Knows known (told_on k b.tellings) = subst (λ (j : ℕ). Knows known (told_on j b.tellings)) (sym (eqb-true k n mine)) h in
          let low = its.max in
          rw mine (spoken_spelled (line_at k b) told packet its.few (omega (arith, low, small)) each.0.0 each.0.1, go each.1)
      | inr other ↦ rw other (go (rw other at all))
    ]
wires_spelled n known (d ∷ ds) b h w small all = wires_spelled n known ds (after d b) (knows n known (d ∷ []) b h tt) w small all
