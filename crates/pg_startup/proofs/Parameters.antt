-- A ParameterStatus that is appended piece by piece.
use Rattle.std.proofs.Common.{◌≡◌, ℕ, ◌+◌, List, [], ◌∷◌, ◌++◌, length, sym, ap, ◌∙◌, append_assoc, length-append, arith}
use Rattle.pg_messages.specs.Fields.{count32}
use Rattle.pg_messages.specs.Replies.{reply_body, replies_bytes}
use Rattle.pg_replies.proofs.Pieces.{behind}
use Rattle.pg_replies.proofs.Sent.{one_reply}
use Rattle.pg_replies.specs.Replies.{parameter}

-- the name and the value, each with a zero byte behind it
status_length : (name value : List ℕ) → length (reply_body (parameter name value)) ≡ length name + length value + 2
status_length name value =
    let whole = length-append (name ++ 0 ∷ []) (value ++ 0 ∷ []) in
    omega (arith, whole, length-append name (0 ∷ []), length-append value (0 ∷ []))

-- the head, the name, a zero byte, the value and a zero byte
pub status_appended : (name value out head begun named apart told new : List ℕ)
    → head ≡ 83 ∷ count32 (4 + (length name + length value + 2)) → begun ≡ out ++ head → named ≡ begun ++ name
    → apart ≡ named ++ (0 ∷ []) → told ≡ apart ++ value → new ≡ told ++ (0 ∷ [])
    → new ≡ out ++ replies_bytes (parameter name value ∷ [])
status_appended name value out head begun named apart told new h p q r s e =
    let last = value ++ 0 ∷ [] in
    let rest = name ++ (0 ∷ last) in
    let late = behind named apart new (0 ∷ []) last r (behind apart told new value (0 ∷ []) s e) in
    behind out begun new head rest p (behind begun named new name (0 ∷ last) q late)
    ∙ ap (λ (l : List ℕ). out ++ l) (
    ap (λ (l : List ℕ). l ++ rest) h
    ∙ ap (λ (m : ℕ). (83 ∷ count32 (4 + m)) ++ rest) (sym (status_length name value))
    ∙ ap (λ (l : List ℕ). (83 ∷ count32 (4 + length (reply_body (parameter name value)))) ++ l) (sym (append_assoc name (0 ∷ []) last))
    ∙ one_reply (parameter name value)
    )
