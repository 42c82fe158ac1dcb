-- The data of a COPY, as it is sent item by item.
use Rattle.std.proofs.Common.{arith, ◌≡◌, ◌++◌, ◌≤◌, ◌+◌, ◌⊎◌, inl, inr, List, [], ◌∷◌, ℕ, Bool, None, Some, Ok, Err, map, length, refl, sym, ap, ◌∙◌, append_assoc}
use Rattle.std.proofs.lemmas.List.{length-append, append-nil, map-append}
use Rattle.std.proofs.lemmas.List.Elements.{filter-append}
use Rattle.std.specs.Prelude.{not}
use Rattle.pg_messages.specs.declared.copy.CopyData.{CopyData}
use Rattle.pg_messages.specs.declared.backend.PgWireBackendMessage.{PgWireBackendMessage}
use Rattle.pg_messages.specs.declared.backend.PgWireBackendMessage.TheVariants as server
use Rattle.pg_messages.specs.declared.response.TransactionStatus.{TransactionStatus}
use Rattle.pg_messages.specs.Replies.{replies_bytes}
use Rattle.pg_results.specs.declared.error.PgWireError.{PgWireError}
use Rattle.pg_results.specs.declared.error.PgWireError.TheVariants as wire
use Rattle.pg_results.specs.Copying.{CopyItem}
use Rattle.pg_results.specs.Describing.{is_empty_list}
use Rattle.pg_results.specs.Page.{before_error, first_error}
use Rattle.pg_results.specs.Responses.{ToldCopy}
use Rattle.pg_replies.specs.ResponseRows.{is_trailer, not_empty, copy_count, copy_replies, copy_items, copy_end, sent_copy, unless_error}
use Rattle.pg_replies.specs.Sending.{IsSentData, IsRefusedData}
use Rattle.pg_replies.proofs.Sent.{sent_behind}

not_empty-append : (a b : List CopyData) → not_empty (a ++ b) ≡ not_empty a ++ not_empty b
not_empty-append a b = filter-append (λ (d : CopyData). not (is_empty_list d.payload)) a b

copy_count-append : (a b : List CopyData) → copy_count (a ++ b) ≡ copy_count a + copy_count b
copy_count-append a b =
    ap length (filter-append (λ (d : CopyData). not (is_trailer d)) a b)
    ∙ length-append _ _

-- Data was taken of the items and appended.
pub record IsCopied (old : List CopyItem) (out : List ℕ) (items : List CopyItem) (new : List ℕ) (count : ℕ) : Type 0 where
  pub copied : List CopyData
  pub taken : old ≡ map Ok copied ++ items
  pub replied : new ≡ out ++ replies_bytes (copy_replies (not_empty copied))
  pub counted : count ≡ copy_count (not_empty copied)
  pub fewer : count ≤ length new

pub copying_begins : (old : List CopyItem) (out : List ℕ) → IsCopied old out old out 0
copying_begins old out = record {
  copied = [];
  taken = refl;
  replied = sym (append-nil out);
  counted = refl;
  fewer = omega arith;
}

pub copying_goes_on : (old : List CopyItem) (out : List ℕ) (items : List CopyItem) (new : List ℕ) (count : ℕ)
    → IsCopied old out items new count
    → (d : CopyData) (left : List CopyItem) (now : List ℕ) (more : ℕ) → items ≡ Ok d ∷ left
    → now ≡ new ++ replies_bytes (copy_replies (not_empty (d ∷ [])))
    → more ≡ count + copy_count (not_empty (d ∷ [])) → more ≤ length now → IsCopied old out left now more
copying_goes_on old out items new count p d left now more is pushed counted fewer = record {
  copied = p.copied ++ d ∷ [];
  taken = p.taken ∙ ap (λ items. map Ok p.copied ++ items) is
      ∙ sym (ap (λ l. l ++ left) (map-append Ok p.copied (d ∷ [])) ∙ append_assoc (map Ok p.copied) (Ok d ∷ []) left);
  replied = sent_behind out new now (copy_replies (not_empty p.copied)) (copy_replies (not_empty (d ∷ []))) p.replied pushed
      ∙ ap (λ l. out ++ replies_bytes l) (sym (ap copy_replies (not_empty-append p.copied (d ∷ []))
      ∙ map-append (λ (d : CopyData). server.CopyData d) (not_empty p.copied) (not_empty (d ∷ []))));
  counted = counted ∙ ap (λ n. n + copy_count (not_empty (d ∷ []))) p.counted
      ∙ sym (ap copy_count (not_empty-append p.copied (d ∷ [])) ∙ copy_count-append (not_empty p.copied) (not_empty (d ∷ [])));
  fewer = fewer;
}

before_copied : (copied : List CopyData) (items : List CopyItem) → before_error (map Ok copied ++ items) ≡ copied ++ before_error items
before_copied [] items = refl
before_copied (d ∷ copied) items = ap (λ l. d ∷ l) (before_copied copied items)

first_copied : (copied : List CopyData) (items : List CopyItem) → first_error (map Ok copied ++ items) ≡ first_error items
first_copied [] items = refl
first_copied (d ∷ copied) items = first_copied copied items

module _ (old : List CopyItem) (out : List ℕ) (items : List CopyItem) (new : List ℕ) (count : ℕ)
    (p : IsCopied old out items new count) where
  pub all_copied : items ≡ [] → IsSentData old out new count
  all_copied none =
      let taken : old ≡ map Ok p.copied ++ [] = p.taken ∙ ap (λ items. map Ok p.copied ++ items) none in
      let all : p.copied ≡ before_error old = sym (ap before_error taken ∙ before_copied p.copied [] ∙ append-nil p.copied) in
      record {
        whole = ap first_error taken ∙ first_copied p.copied [];
        replied = p.replied ∙ ap (λ l. out ++ replies_bytes (copy_replies (not_empty l))) all;
        counted = p.counted ∙ ap (λ l. copy_count (not_empty l)) all;
      }

  pub copied_until : (e : PgWireError) (left : List CopyItem) → items ≡ Err e ∷ left → IsRefusedData old out new e
  copied_until e left is =
      let taken : old ≡ map Ok p.copied ++ Err e ∷ left = p.taken ∙ ap (λ items. map Ok p.copied ++ items) is in
      let all : p.copied ≡ before_error old = sym (ap before_error taken ∙ before_copied p.copied (Err e ∷ left) ∙ append-nil p.copied) in
      record {
        left = left;
        met = ap first_error taken ∙ first_copied p.copied (Err e ∷ left);
        replied = p.replied ∙ ap (λ l. out ++ replies_bytes (copy_replies (not_empty l))) all;
      }

-- what stands behind a head
module _ (status : TransactionStatus) (copying : Bool) (head : PgWireBackendMessage) (c : ToldCopy) (out mid late new : List ℕ)
    (begun : mid ≡ out ++ replies_bytes (head ∷ [])) where
  pub copy_is_sent : (count : ℕ) → IsSentData (copy_items c) mid late count → new ≡ late ++ replies_bytes (copy_end count)
      → ((sent_copy status copying head c).refusal ≡ None) × (new ≡ out ++ replies_bytes (sent_copy status copying head c).replies)
  copy_is_sent count h ended =
      let copied = not_empty (before_error (copy_items c)) in
      let front : late ≡ out ++ replies_bytes (head ∷ copy_replies copied) = sent_behind out mid late (head ∷ []) (copy_replies copied)
      begun h.replied in
      let all : new ≡ out ++ replies_bytes ((head ∷ copy_replies copied) ++ copy_end (copy_count copied)) =
      sent_behind out late new (head ∷ copy_replies copied) (copy_end (copy_count copied)) front
      (ended ∙ ap (λ n. late ++ replies_bytes (copy_end n)) h.counted) in (
        ap (λ first. (unless_error status copying (head ∷ copy_replies copied) (copy_end (copy_count copied)) first).refusal) h.whole,
        all ∙ ap (λ first. out ++ replies_bytes (unless_error status copying (head ∷ copy_replies copied) (copy_end (copy_count copied))
            first).replies) (sym h.whole),
      )

-- an error stood in the place of data behind a head
module _ (status : TransactionStatus) (copying : Bool) (head : PgWireBackendMessage) (c : ToldCopy) (out mid new : List ℕ)
    (begun : mid ≡ out ++ replies_bytes (head ∷ [])) where
  pub copy_is_refused : (e : PgWireError) → (e ≡ wire.NoMemory) ⊎ IsRefusedData (copy_items c) mid new e
      → (e ≡ wire.NoMemory)
      ⊎ (((sent_copy status copying head c).refusal ≡ Some e) × (new ≡ out ++ replies_bytes (sent_copy status copying head c).replies))
  copy_is_refused e (inl none) = inl none
  copy_is_refused e (inr h) =
      let copied = not_empty (before_error (copy_items c)) in
      inr (
        ap (λ first. (unless_error status copying (head ∷ copy_replies copied) (copy_end (copy_count copied)) first).refusal) h.met,
        sent_behind out mid new (head ∷ []) (copy_replies copied) begun h.replied
            ∙ ap (λ first. out ++ replies_bytes (unless_error status copying (head ∷ copy_replies copied) (copy_end (copy_count copied))
            first).replies) (sym h.met),
      )
