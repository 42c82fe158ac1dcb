-- The turns that a session spends, piece by piece.
use Rattle.std.proofs.Common.{arith, ◌≡◌, ◌+◌, ◌++◌, inl, inr, ℕ, List, [], ◌∷◌, Result, Ok, Err, refl, ap, sym, subst, ◌∙◌, append_assoc}
use Rattle.std.proofs.Math.Seq.{drop-append_seam, drop-length}
use Rattle.std.specs.Result.{IsErrAnd}
use Rattle.pg_client.specs.declared.desk.DeskCall.{DeskCall}
use Rattle.pg_client.specs.declared.desk.DeskCall.TheVariants as desk
use Rattle.pg_client.specs.declared.ends.Turns.{Turns}
use Rattle.conversation_table.specs.Questions.{questions, questions_since}
use Rattle.conversation_runs.specs.declared.ends.ServeError.{ServeError}
use Rattle.conversation_runs.specs.declared.ends.ServeError.TheVariants as serve
use Rattle.conversation_runs.specs.Session.{HasFed}

-- the questions of calls and of more calls
pub questions-append : (a b : List DeskCall) → questions (a ++ b) ≡ questions a + questions b
questions-append [] b = omega arith
questions-append (desk.Start ∷ a) b = questions-append a b
questions-append (desk.Ask told ∷ a) b = let e = questions-append a b in omega arith
questions-append (desk.Cancel pid key told ∷ a) b = questions-append a b
questions-append (desk.Narrow ∷ a) b = questions-append a b

pub since_grown : (calls new_calls made : List DeskCall) → new_calls ≡ calls ++ made → questions_since calls new_calls ≡ questions made
since_grown calls new_calls made e = ap (questions_since calls) e ∙ ap questions (drop-append_seam calls made)

pub none_since : (calls : List DeskCall) → questions_since calls calls ≡ 0
none_since calls = ap questions (drop-length calls)

-- the questions of two pieces
pub since_then : (k l m a b : List DeskCall) → l ≡ k ++ a → m ≡ l ++ b → questions_since k m ≡ questions_since k l + questions_since l m
since_then k l m a b p q =
    since_grown k m (a ++ b) (q ∙ ap (λ x. x ++ b) p ∙ append_assoc k a b) ∙ questions-append a b
    ∙ (λ i. sym (since_grown k l a p) i + sym (since_grown l m b q) i)

-- turns of which so many were spent
abbrev pub spent_more : Turns → ℕ → Turns
spent_more turns n = record { spent = turns.spent + n; limit = turns.limit }

pub no_turn : (turns : Turns) (calls : List DeskCall) → turns ≡ spent_more turns (questions_since calls calls)
no_turn turns calls = ap (λ (n : ℕ). let now : Turns = record { spent = n; limit = turns.limit } in now)
    (let e = none_since calls in let same : turns.spent ≡ turns.spent + questions_since calls calls = omega arith in same)

spent_twice : (turns : Turns) (a b n : ℕ) → n ≡ a + b → spent_more (spent_more turns a) b ≡ spent_more turns n
spent_twice turns a b n e = ap (λ (k : ℕ). let now : Turns = record { spent = k; limit = turns.limit } in now)
    (let same : turns.spent + a + b ≡ turns.spent + n = omega arith in same)

-- turns of which so many were spent, and one more
abbrev pub spent_in_vain : Turns → ℕ → Turns
spent_in_vain turns n = record { spent = turns.spent + n + 1; limit = turns.limit }

in_vain_twice : (turns : Turns) (a b n : ℕ) → n ≡ a + b → spent_in_vain (spent_more turns a) b ≡ spent_in_vain turns n
in_vain_twice turns a b n e = ap (λ (k : ℕ). let now : Turns = record { spent = k; limit = turns.limit } in now)
    (let same : turns.spent + a + b + 1 ≡ turns.spent + n + 1 = omega arith in same)

-- Turns were spent, and then more by a call.
fed_behind : {A : Type 0} (turns new : Turns) (a b n : ℕ) (result : Result A ServeError) → n ≡ a + b
    → HasFed (spent_more turns a) new b result → HasFed turns new n result
fed_behind turns new a b n (Ok x) e h = h ∙ spent_twice turns a b n e
fed_behind turns new a b n (Err serve.ReadFault) e h = h ∙ spent_twice turns a b n e
fed_behind turns new a b n (Err serve.WriteFault) e h = h ∙ spent_twice turns a b n e
fed_behind turns new a b n (Err serve.TurnLimit) e h = (h.0 ∙ spent_twice turns a b n e, h.1)
fed_behind turns new a b n (Err serve.NoMemory) e (inl h) = inl (h ∙ spent_twice turns a b n e)
fed_behind turns new a b n (Err serve.NoMemory) e (inr h) = inr (h ∙ in_vain_twice turns a b n e)

pub fed_then : {A : Type 0} (turns now new : Turns) (k l m a b : List DeskCall) (result : Result A ServeError) → l ≡ k ++ a → m ≡ l ++ b
    → now ≡ spent_more turns (questions_since k l) → HasFed now new (questions_since l m) result
    → HasFed turns new (questions_since k m) result
fed_then turns now new k l m a b result p q e h =
    fed_behind turns new (questions_since k l) (questions_since l m) (questions_since k m) result (since_then k l m a b p q)
    (subst (λ t. HasFed t new (questions_since l m) result) e h)

-- an error takes what it takes, whatever the call would have told
err_alike : (A B : Type 0) (turns new : Turns) (n : ℕ) (e : ServeError) → HasFed {A = A} turns new n (Err e)
    → HasFed {A = B} turns new n (Err e)
err_alike A B turns new n serve.ReadFault h = h
err_alike A B turns new n serve.WriteFault h = h
err_alike A B turns new n serve.TurnLimit h = h
err_alike A B turns new n serve.NoMemory h = h

pub fed_err : (A B : Type 0) (turns new : Turns) (n : ℕ) (r : Result B ServeError) (e : ServeError) → IsErrAnd r (λ k. k ≡ e)
    → HasFed {A = A} turns new n (Err e) → HasFed turns new n r
fed_err A B turns new n (Ok x) e is h = absurd is
fed_err A B turns new n (Err k) e is h = err_alike A B turns new n k (subst (λ q. HasFed {A = A} turns new n (Err q)) (sym is) h)

-- an error that isn't want of turns, where no turn was taken but for what was asked
pub fed_unless_limit : {B : Type 0} (turns new : Turns) (n : ℕ) (r : Result B ServeError) → new ≡ spent_more turns n
    → (r ≡ Err serve.TurnLimit → ⊥) → HasFed turns new n r
fed_unless_limit turns new n (Ok x) h ne = h
fed_unless_limit turns new n (Err serve.ReadFault) h ne = h
fed_unless_limit turns new n (Err serve.WriteFault) h ne = h
fed_unless_limit turns new n (Err serve.TurnLimit) h ne = absurd (ne refl)
fed_unless_limit turns new n (Err serve.NoMemory) h ne = inl h
