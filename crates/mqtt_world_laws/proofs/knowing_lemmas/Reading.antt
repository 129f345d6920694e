-- What means a packet to a reader is read as it; and to a reader that takes no alias it goes out as it was meant.
use Rattle.std.proofs.Common.{◌≡◌, ℕ, false, List, [], ◌∷◌, ◌++◌, length, nat_eq, Option, Some, None, refl, ap, ap₂, ◌∙◌, arith, inl, inr}
use Rattle.std.specs.Prelude.{filter_map, not}
use Rattle.std.specs.List.{AllByRecursion}
use Rattle.std.proofs.lemmas.Bool.{cases_Bool}
use Rattle.std.proofs.lemmas.List.{nil_from_length}
use Rattle.mqtt_props.specs.Edits.{only, without}
use Rattle.mqtt_props.specs.Laws.{is_named}
use Rattle.mqtt_props.specs.Properties.{Prop, U16}
use Rattle.mqtt_props.specs.declared.table.PropName.TheVariants.{TopicAlias, UserProperty}
use Rattle.mqtt_packet.specs.declared.codec.packet.Packet.{Packet}
use Rattle.mqtt_packet.specs.declared.codec.packet.Packet.TheVariants as packets
use Rattle.mqtt_topic.specs.names.Aliases.{AliasTable, after_resolve, no_aliases}
use Rattle.mqtt_topic.specs.declared.sending.form.Form.{Form}
use Rattle.mqtt_topic.specs.declared.sending.form.Form.TheVariants.{Plain, Named, Short}
use Rattle.mqtt_topic.specs.sending.Told.{ToldTopics, alias_in, none_told}
use Rattle.mqtt_records.specs.messages.PassedOn.{number_at, number_in, property}
use Rattle.mqtt_rules.specs.step.Deeds.{Deed, Send, output}
use Rattle.mqtt_rules.specs.step.Forms.{in_form, with_alias}
use Rattle.mqtt_rules.proofs.step_lemmas.acts.Meanings.{resolved_means}
use Rattle.mqtt_rules.proofs.step_lemmas.numbers.Copies.{each_filter}
use Rattle.mqtt_rules.specs.granting.Naming.{EndsWithUsers, HasNoAlias, HasUsersLast, SendsUsersLast}
use Rattle.mqtt_rules.specs.telling.Meaning.{AllMean, HasItsTopic, Knows, Means, SendsItsTopic, after_reading, after_reading_all, alias_on, on_line}
use Rattle.mqtt_world_laws.specs.knowing.Knowing.{AllReadAs, as_read, of_topic}

-- ---- a block

-- a block in which no Topic Alias is found has none
pub has_none : (ps : List Prop) → number_at TopicAlias ps ≡ None → HasNoAlias ps
has_none [] e = tt
has_none (p ∷ ps) e = elim (cases_Bool (is_named TopicAlias p)) [
  | inl is ↦ let clash : Some (number_in p.value) ≡ None = rw is at e in absurd cc
  | inr other ↦ let rest : number_at TopicAlias ps ≡ None = rw other at e in (other, has_none ps rest)
]

kept : (ps : List Prop) → HasNoAlias ps → without TopicAlias ps ≡ ps
kept [] h = refl
kept (p ∷ ps) h = let other = h.0 in rw other (ap (λ (xs : List Prop). p ∷ xs) (kept ps h.1))

-- a Topic Alias that was put among others is taken out again
dropped : (alias : ℕ) (xs ys : List Prop) → HasNoAlias xs → HasNoAlias ys → without TopicAlias (xs ++ property TopicAlias (U16 alias) ∷ ys) ≡ xs ++ ys
dropped alias [] ys h k = kept ys k
dropped alias (x ∷ xs) ys h k = let other = h.0 in rw other (ap (λ (zs : List Prop). x ∷ zs) (dropped alias xs ys h.1 k))

-- so the block is as it was before its form
block_read : (form : Form) (ps : List Prop) → HasNoAlias ps → HasUsersLast ps → without TopicAlias (with_alias (alias_in form) ps) ≡ ps
block_read Plain ps h last = kept ps h
block_read (Named alias) ps h last =
    dropped alias (without UserProperty ps) (only UserProperty ps) (each_filter (λ (p : Prop). is_named TopicAlias p ≡ false) (λ p. not (is_named UserProperty p)) ps h) (each_filter (λ (p : Prop). is_named TopicAlias p ≡ false) (is_named UserProperty) ps h)
    ∙ last
block_read (Short alias) ps h last =
    dropped alias (without UserProperty ps) (only UserProperty ps) (each_filter (λ (p : Prop). is_named TopicAlias p ≡ false) (λ p. not (is_named UserProperty p)) ps h) (each_filter (λ (p : Prop). is_named TopicAlias p ≡ false) (is_named UserProperty) ps h)
    ∙ last

-- ---- a packet

-- what means a packet is read as it
pub read : (known : AliasTable) (out meant : Packet) → Means known out meant → HasItsTopic meant → EndsWithUsers meant → as_read known out ≡ Some meant
read known out (packets.Publish p) m has last =
    let q = in_form m.form p in
    let block : without TopicAlias q.properties ≡ p.properties = block_read m.form p.properties (has_none p.properties has.1) last in
    ap (as_read known) m.is
    ∙ (
    ap (of_topic q) (resolved_means known q.topic (alias_on q) p.topic m.topic)
    ∙ ap (λ (ps : List Prop). Some (packets.Publish (record { delivery = p.delivery; retain = p.retain; topic = p.topic; properties = ps; payload = p.payload }))) block
    )
read known out meant m has last = ap (as_read known) m

-- ---- what goes out by deeds

abbrev pub IsSaid : Packet → Type 0
IsSaid packet = HasItsTopic packet × EndsWithUsers packet

-- on a line too each PUBLISH has its topic, and its User Properties come last
pub said_on : (n : ℕ) (ds : List Deed) → AllByRecursion SendsItsTopic ds → AllByRecursion SendsUsersLast ds → AllByRecursion IsSaid (on_line n (filter_map output ds))
said_on n [] h u = tt
said_on n (Send k packet ∷ ds) h u = elim (cases_Bool (nat_eq k n)) [
  | inl mine ↦ rw mine ((h.0, u.0), said_on n ds h.1 u.1)
  | inr other ↦ rw other (said_on n ds h.1 u.1)
]
said_on n (d ∷ ds) h u = said_on n ds h.1 u.1

-- each is read as the one that was meant
pub all_read : (known : AliasTable) (xs ms : List Packet) → AllMean known xs ms → AllByRecursion IsSaid ms → AllReadAs known xs ms
all_read known [] [] m said = tt
all_read known [] (y ∷ ys) m said = m
all_read known (x ∷ xs) [] m said = m
all_read known (x ∷ xs) (y ∷ ys) m said = (read known x y m.0 said.0.0 said.0.1, all_read (after_reading known x) xs ys m.1 said.1)

-- ---- tables

-- as many aliases are taken after a packet as before
reading_max : (known : AliasTable) (x : Packet) → (after_reading known x).max ≡ known.max
reading_max known (packets.Publish p) = by p.topic (alias_on p)
  where
    by : (topic : List ℕ) (alias : Option ℕ) → (after_resolve known topic alias).max ≡ known.max
    by topic None = refl
    by [] (Some alias) = refl
    by (c ∷ cs) (Some alias) = refl
reading_max known x = refl

-- reading leaves how many aliases an end takes
pub all_reading_max : (known : AliasTable) (xs : List Packet) → (after_reading_all known xs).max ≡ known.max
all_reading_max known [] = refl
all_reading_max known (x ∷ xs) = all_reading_max (after_reading known x) xs ∙ reading_max known x

-- who takes none was told none
pub told_none : (known : AliasTable) (told : ToldTopics) → Knows known told → known.max ≡ 0 → told ≡ none_told 0
told_none known told k zero_taken =
    let low = k.max in
    let few = k.few in
    let most : told.max ≡ 0 = omega (arith, low, zero_taken) in
    let count : length told.topics ≡ 0 = omega (arith, few, low, zero_taken) in
    ap₂ (λ (max : ℕ) (topics : List (List ℕ)). record { max = max; topics = topics }) most (nil_from_length told.topics count)

-- who knows nothing yet was told nothing
pub knows_nothing : (most : ℕ) → Knows (no_aliases most) (none_told 0)
knows_nothing most = record { max = omega arith; few = omega arith; known = λ topic alias has. absurd cc }
