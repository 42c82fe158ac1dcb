-- Responses that are sent one after another.
use Rattle.std.proofs.Common.{◌≡◌, ◌++◌, ◌||◌, List, [], ◌∷◌, ℕ, Bool, true, false, Option, Some, None, refl, sym, ap, ◌∙◌, append_assoc}
use Rattle.std.proofs.lemmas.List.{append-nil}
use Rattle.pg_messages.specs.declared.response.TransactionStatus.{TransactionStatus}
use Rattle.pg_messages.specs.Replies.{replies_bytes}
use Rattle.pg_results.specs.declared.error.PgWireError.{PgWireError}
use Rattle.pg_results.specs.Responses.{ToldResponse}
use Rattle.pg_handlers.specs.declared.query.respond.Behind.{Behind}
use Rattle.pg_replies.specs.Replies.{Replies}
use Rattle.pg_replies.specs.ResponseRows.{Sent, responded}
use Rattle.pg_handlers.specs.Sending.{behind}
use Rattle.conversation_table.specs.SimpleRows.{responded_all, followed}
use Rattle.pg_replies.proofs.Sent.{sent_behind}

-- what was sent behind replies, and whether a COPY had begun before
abbrev behind_these : Replies → Bool → Sent → Sent
behind_these replies copying others = record {
  replies = replies ++ others.replies;
  status = others.status;
  copying = copying || others.copying;
  refusal = others.refusal;
}

-- Responses were sent, and these are left.
pub record IsAnswered (status : TransactionStatus) (all : List ToldResponse) (out : List ℕ) (left : Behind) (others : List ToldResponse)
    (new : List ℕ) : Type 0 where
  pub replies : Replies
  pub replied : new ≡ out ++ replies_bytes replies
  pub still : responded_all status all ≡ behind_these replies left.copying (responded_all left.status others)

pub answering_begins : (status : TransactionStatus) (all : List ToldResponse) (out : List ℕ) (left : Behind)
    → left ≡ record { status = status; copying = false }
    → IsAnswered status all out left all out
answering_begins status all out left e = rw e (record { replies = []; replied = sym (append-nil out); still = refl })

or_assoc : (a b c : Bool) → a || (b || c) ≡ (a || b) || c
or_assoc true b c = refl
or_assoc false b c = refl

or_false : (a : Bool) → a || false ≡ a
or_false true = refl
or_false false = refl

behind_both : (first : Sent) (refusal : Option PgWireError) (replies : Replies) (copying : Bool) (others : Sent) → refusal ≡ None
    → behind_these replies copying (followed first refusal others)
    ≡ behind_these (replies ++ first.replies) (copying || first.copying) others
behind_both first refusal replies copying others e =
    rw (e, append_assoc replies first.replies others.replies, ← or_assoc copying first.copying others.copying) refl

-- what is left behind a response, where a COPY had begun before it, and where none had
pub left_copying : (left next : Behind) (first : Sent) → left.copying ≡ true → next ≡ behind first
    → (let b : Behind = record { status = next.status; copying = left.copying } in b) ≡ record {
      status = first.status;
      copying = left.copying || first.copying;
    }
left_copying left next first e f = rw (e, f) refl

pub left_next : (left next : Behind) (first : Sent) → left.copying ≡ false → next ≡ behind first
    → (let b : Behind = record { status = next.status; copying = next.copying } in b) ≡ record {
      status = first.status;
      copying = left.copying || first.copying;
    }
left_next left next first e f = rw (e, f) refl

module _ (status : TransactionStatus) (all : List ToldResponse) (out : List ℕ) (left : Behind) (r : ToldResponse)
    (others : List ToldResponse) (new : List ℕ)
    (h : IsAnswered status all out left (r ∷ others) new) (now : List ℕ) (came : now
    ≡ new ++ replies_bytes (responded left.status r).replies) where
  grown_by_one : now ≡ out ++ replies_bytes (h.replies ++ (responded left.status r).replies)
  grown_by_one = sent_behind out new now h.replies (responded left.status r).replies h.replied came

  pub answering_goes_on : (responded left.status r).refusal ≡ None
      → (next : Behind) → next ≡ record {
        status = (responded left.status r).status;
        copying = left.copying || (responded left.status r).copying;
      }
      → IsAnswered status all out next others now
  answering_goes_on whole next e = rw e (record {
    replies = h.replies ++ (responded left.status r).replies;
    replied = grown_by_one;
    still = h.still ∙ behind_both (responded left.status r) (responded left.status r).refusal h.replies left.copying
        (responded_all (responded left.status r).status others) whole;
  })

  -- an error cut the responses short
  cut_short : (first : Sent) (refusal : Option PgWireError) (e : PgWireError) (others : Sent) (replies : Replies) (copying : Bool)
      → first.refusal ≡ Some e → refusal ≡ Some e
      → ((behind_these replies copying (followed first refusal others)).refusal ≡ Some e)
      × ((behind_these replies copying (followed first refusal others)).replies ≡ replies ++ first.replies)
  cut_short first refusal e others replies copying p q = rw q (p, refl)

  pub answering_refused : (e : PgWireError) → (responded left.status r).refusal ≡ Some e
      → ((responded_all status all).refusal ≡ Some e) × (now ≡ out ++ replies_bytes (responded_all status all).replies)
  answering_refused e p =
      let first = responded left.status r in
      let cut = cut_short first first.refusal e (responded_all first.status others) h.replies left.copying p p in
      (ap (λ s. s.refusal) h.still ∙ cut.0, grown_by_one ∙ ap (λ l. out ++ replies_bytes l) (sym (ap (λ s. s.replies) h.still ∙ cut.1)))

pub answering_ends : (status : TransactionStatus) (all : List ToldResponse) (out : List ℕ) (left : Behind) (others : List ToldResponse)
    (new : List ℕ)
    → IsAnswered status all out left others new → others ≡ []
    → ((responded_all status all).refusal ≡ None) × (new ≡ out ++ replies_bytes (responded_all status all).replies)
    × (left ≡ behind (responded_all status all))
answering_ends status all out left others new h none =
    let still : responded_all status all ≡ behind_these h.replies left.copying (responded_all left.status []) =
    h.still ∙ ap (λ l. behind_these h.replies left.copying (responded_all left.status l)) none in (
      ap (λ s. s.refusal) still,
      h.replied ∙ ap (λ l. out ++ replies_bytes l) (sym (append-nil h.replies) ∙ sym (ap (λ s. s.replies) still)),
      ap (λ c. let b : Behind = record { status = left.status; copying = c } in b) (sym (or_false left.copying)) ∙ sym (ap behind still),
    )
