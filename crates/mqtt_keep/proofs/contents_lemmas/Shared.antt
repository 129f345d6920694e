-- Contents stay shared if what is said after a change was said before, or is new and agrees with it.
use Rattle.std.proofs.Common.{◌≡◌, ◌⊎◌, ℕ, sym, ap, ◌∙◌, inl, inr}
use Rattle.mqtt_records.specs.declared.state.records.Records.{Records}
use Rattle.mqtt_records.specs.state.Contents.{StoredMessage, IsMessageOf, AgreesWith, SharesContents}

abbrev number : StoredMessage → ℕ
number m = m.publication

module _ (r after : Records) where
  -- what is said after a change agrees with what was said, if nothing new is said
  pub agree_less : SharesContents r → ((m : StoredMessage) → IsMessageOf after m → IsMessageOf r m) → (m : StoredMessage) → IsMessageOf r m → AgreesWith after m
  agree_less shared back m was n now same = shared m was n (back n now) same

  -- it does so too if all that is new agrees with what was said
  pub agree_with : (new : StoredMessage) → SharesContents r → AgreesWith r new → ((m : StoredMessage) → IsMessageOf after m → IsMessageOf r m ⊎ (m ≡ new)) → (m : StoredMessage) → IsMessageOf r m → AgreesWith after m
  agree_with new shared agrees from m was n now same = elim (from n now) [
    | inl also ↦ shared m was n also same
    | inr is ↦ is ∙ sym (agrees m was (sym same ∙ ap number is))
  ]

  -- contents stay shared if nothing new is said
  pub shared_less : SharesContents r → ((m : StoredMessage) → IsMessageOf after m → IsMessageOf r m) → SharesContents after
  shared_less shared back m h n k same = shared m (back m h) n (back n k) same

  -- contents stay shared if all that is new agrees with what was said
  pub shared_with : (new : StoredMessage) → SharesContents r → AgreesWith r new → ((m : StoredMessage) → IsMessageOf after m → IsMessageOf r m ⊎ (m ≡ new)) → SharesContents after
  shared_with new shared agrees from m h n k same = elim (from m h) [
    | inl was ↦ agree_with new shared agrees from m was n k same
    | inr is ↦ elim (from n k) [
      | inl was ↦ agrees n was (same ∙ ap number is) ∙ sym is
      | inr also ↦ also ∙ sym is
    ]
  ]
