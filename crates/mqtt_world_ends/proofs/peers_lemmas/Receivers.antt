-- What a receiver makes of a packet that carries no message, and what it was handed.
use Rattle.std.proofs.Common.{◌≡◌, ◌≢◌, refl, sym, ap, ◌∙◌, ℕ, zero, suc, ◌+◌, ◌<◌, Bool, List, [], ◌∷◌, ◌++◌, map, length, take, get_or}
use Rattle.std.proofs.Common.{Option, None, Some}
use Rattle.std.specs.Prelude.{option_map, option_to_list}
use Rattle.std.proofs.lemmas.List.{append-nil, map-append, take_more}
use Rattle.std.proofs.lemmas.List.Elements.{filter_map-append}
use Rattle.mqtt_base.specs.declared.session.CopyId.{CopyId}
use Rattle.mqtt_packet.specs.declared.codec.packet.Packet.{Packet}
use Rattle.mqtt_packet.specs.declared.codec.packet.Packet.TheVariants.{Connect, Connack, Publish, Puback, Pubrec, Pubrel, Pubcomp, Subscribe, Suback, Unsubscribe, Unsuback, Pingreq, Pingresp, Disconnect, Auth}
use Rattle.mqtt_props.specs.Properties.{U16}
use Rattle.mqtt_props.specs.declared.table.PropName.TheVariants.{TopicAliasMaximum}
use Rattle.mqtt_records.specs.messages.PassedOn.{property}
use Rattle.mqtt_world_model.specs.model.Ends.{Entry, Receiver, hears, taking}
use Rattle.mqtt_world_model.specs.model.Laws.{copies_in}
use Rattle.mqtt_world_ends.specs.peers.Receivers.{hears_control, IsControl, number_of, publication_of, publications_of}

-- a packet that is no PUBLISH is heard as such
pub control_heard : (stands : Bool) (copy : Option CopyId) (packet : Packet) (r : Receiver)
    → IsControl packet → hears stands copy packet r ≡ hears_control stands packet r
control_heard stands copy (Connect a) r other = refl
control_heard stands copy (Connack a) r other = refl
control_heard stands copy (Publish p) r other = absurd (other p refl)
control_heard stands copy (Puback a) r other = refl
control_heard stands copy (Pubrec a) r other = refl
control_heard stands copy (Pubrel a) r other = refl
control_heard stands copy (Pubcomp a) r other = refl
control_heard stands copy (Subscribe a) r other = refl
control_heard stands copy (Suback a) r other = refl
control_heard stands copy (Unsubscribe a) r other = refl
control_heard stands copy (Unsuback a) r other = refl
control_heard stands copy Pingreq r other = refl
control_heard stands copy Pingresp r other = refl
control_heard stands copy (Disconnect a) r other = refl
control_heard stands copy (Auth a) r other = refl

-- who takes some aliases says how many
pub taking_some : (aliases : ℕ) → aliases ≢ 0 → property TopicAliasMaximum (U16 aliases) ∷ [] ≡ taking aliases
taking_some zero some = absurd (some refl)
taking_some (suc more) some = refl

-- ---- what was handed over

one_entry : (e : Entry) (copy : Option CopyId) → e.copy ≡ copy
    → publications_of (e ∷ []) ≡ option_to_list (option_map number_of copy)
one_entry e None is = rw is refl
one_entry e (Some c) is = rw is refl

publications_of-append : (es more : List Entry)
    → publications_of (es ++ more) ≡ publications_of es ++ publications_of more
publications_of-append es more =
    ap (map number_of) (filter_map-append (λ (e : Entry). e.copy) es more)
    ∙ map-append number_of (copies_in es) (copies_in more)

-- one more of them
entries_more : (es : List Entry) (i : ℕ) (d : Entry) (found : Option ℕ) → i < length es
    → found ≡ publication_of (get_or es i d)
    → publications_of (take i es) ++ option_to_list found ≡ publications_of (take (i + 1) es)
entries_more es i d found within is =
    ap (λ (o : Option ℕ). publications_of (take i es) ++ option_to_list o) is
    ∙ (ap (λ (more : List ℕ). publications_of (take i es) ++ more)
    (sym (one_entry (get_or es i d) (get_or es i d).copy refl))
    ∙ (sym (publications_of-append (take i es) (get_or es i d ∷ []))
    ∙ ap publications_of (sym (take_more es i d within))))

-- an entry without a number adds none
pub none_more : (es : List Entry) (i : ℕ) (d : Entry) (ns : List ℕ) (found : Option ℕ) → i < length es
    → ns ≡ publications_of (take i es) → found ≡ publication_of (get_or es i d) → found ≡ None
    → ns ≡ publications_of (take (i + 1) es)
none_more es i d ns found within so_far is none =
    so_far ∙ (sym (append-nil (publications_of (take i es)))
    ∙ (ap (λ (o : Option ℕ). publications_of (take i es) ++ option_to_list o) (sym none)
    ∙ entries_more es i d found within is))

-- one with a number adds it
pub one_more : (es : List Entry) (i : ℕ) (d : Entry) (ns : List ℕ) (found : Option ℕ) (n : ℕ) → i < length es
    → ns ≡ publications_of (take i es) → found ≡ publication_of (get_or es i d) → found ≡ Some n
    → ns ++ n ∷ [] ≡ publications_of (take (i + 1) es)
one_more es i d ns found n within so_far is one =
    ap (λ (l : List ℕ). l ++ n ∷ []) so_far
    ∙ (ap (λ (o : Option ℕ). publications_of (take i es) ++ option_to_list o) (sym one)
    ∙ entries_more es i d found within is)
