-- What a frame's message says: its texts, and what the reading of frames depends on after it.
use Rattle.std.proofs.Common.{◌≡◌, ℕ, ◌<◌, ◌≤◌, Bool, true, false, List, [], ◌∷◌, length, refl, sym, ap, subst, arith, inl, inr}
use Rattle.std.specs.List.{AllByRecursion, flat_map}
use Rattle.std.proofs.lemmas.List.{length-append}
use Rattle.pg_messages.specs.declared.codec.DecodeContext.{DecodeContext}
use Rattle.pg_messages.specs.declared.frontend.PgWireFrontendMessage.{PgWireFrontendMessage}
use Rattle.pg_messages.specs.declared.frontend.PgWireFrontendMessage.TheVariants as client
use Rattle.pg_messages.specs.Fields.{IsText}
use Rattle.pg_messages.specs.Frames.{Carries, IsFrame, IsParameter, awaits_startup_after, context_after, message_texts}
use Rattle.pg_messages.proofs.FieldLaws.{pair_bytes}

abbrev AreWithin : ℕ → List (List ℕ) → Type 0
AreWithin n texts = AllByRecursion (λ text. IsText text × (length text < n)) texts

within_more : (n k : ℕ) (texts : List (List ℕ)) → n ≤ k → AreWithin n texts → AreWithin k texts
within_more n k [] le h = tt
within_more n k (text ∷ texts) le h = ((h.0.0, omega (arith, le, h.0.1)), within_more n k texts le h.1)

parameter_texts : (pairs : List (List ℕ × List ℕ)) (n : ℕ) → length (flat_map pair_bytes pairs) ≤ n → AllByRecursion IsParameter pairs
    → AreWithin n (flat_map (λ pair. pair.0 ∷ pair.1 ∷ []) pairs)
parameter_texts [] n le good = tt
parameter_texts (pair ∷ pairs) n le good = (
  (good.0.name, omega (arith, length-append {A = ℕ}, le)),
  (
    (good.0.value, omega (arith, length-append {A = ℕ}, le)),
    parameter_texts pairs n (omega (arith, length-append (pair_bytes pair) (flat_map pair_bytes pairs), le)) good.1,
  ),
)

carried_texts : (awaiting : Bool) (kind : ℕ) (body : List ℕ) (m : PgWireFrontendMessage) → Carries awaiting kind body m
    → AreWithin (length body) (message_texts m)
carried_texts true kind body (client.Startup m) h =
    elim h.1 [
      | inl s ↦ parameter_texts m.parameters (length body) (omega (
        arith,
        ap length s.layout,
        length-append (flat_map pair_bytes m.parameters) (0 ∷ []),
      )) s.parameters
      | inr u ↦ subst (λ (ps : List (List ℕ × List ℕ)). AreWithin (length body) (flat_map (λ pair. pair.0 ∷ pair.1 ∷ []) ps))
          (sym u.parameters) tt
    ]
carried_texts true kind body (client.SslNegotiation m) h = tt
carried_texts true kind body (client.CancelRequest m) h = tt
carried_texts true kind body _ h = absurd h
carried_texts false kind body (client.Startup m) h = absurd h
carried_texts false kind body (client.SslNegotiation m) h = absurd h
carried_texts false kind body (client.CancelRequest m) h = absurd h
carried_texts false kind body (client.Query m) h = ((h.2.query, omega (arith, length-append {A = ℕ}, ap length h.1)), tt)
carried_texts false kind body (client.Parse m) h = (
  (h.2.name, omega (arith, length-append {A = ℕ}, ap length h.1)),
  ((h.2.query, omega (arith, length-append {A = ℕ}, ap length h.1)), tt),
)
carried_texts false kind body (client.Bind m) h = (
  (h.2.portal_name, omega (arith, length-append {A = ℕ}, ap length h.1)),
  ((h.2.statement_name, omega (arith, length-append {A = ℕ}, ap length h.1)), tt),
)
carried_texts false kind body (client.Describe m) h = ((h.2.name, omega (arith, length-append {A = ℕ}, ap length h.1)), tt)
carried_texts false kind body (client.Execute m) h = ((h.2.name, omega (arith, length-append {A = ℕ}, ap length h.1)), tt)
carried_texts false kind body (client.Close m) h = ((h.2.name, omega (arith, length-append {A = ℕ}, ap length h.1)), tt)
carried_texts false kind body (client.CopyFail m) h = ((h.2.message, omega (arith, length-append {A = ℕ}, ap length h.1)), tt)
carried_texts false kind body _ h = tt

body_shorter : (awaiting : Bool) (frame : List ℕ) (m : PgWireFrontendMessage) (h : IsFrame awaiting frame m) → length h.body ≤ length frame
body_shorter true frame m h = omega (arith, ap length h.bytes)
body_shorter false frame m h = omega (arith, ap length h.bytes)

pub frame_texts : (awaiting : Bool) (frame : List ℕ) (m : PgWireFrontendMessage) → IsFrame awaiting frame m
    → AreWithin (length frame) (message_texts m)
frame_texts awaiting frame m h = within_more (length h.body) (length frame) (message_texts m) (body_shorter awaiting frame m h)
    (carried_texts awaiting h.kind h.body m h.carries)

pub context_follows : (m : PgWireFrontendMessage) (context : DecodeContext)
    → (context_after m context).awaiting_startup ≡ awaits_startup_after m context.awaiting_startup
context_follows (client.Startup m) context = refl
context_follows _ context = refl
