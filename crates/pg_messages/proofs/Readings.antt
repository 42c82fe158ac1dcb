-- A body that is read whole, or that should be empty, and the message that it is told as.
use Rattle.std.proofs.Common.{◌≡◌, ◌≢◌, ℕ, true, false, cond, eqb, List, [], ◌∷◌, length, Option, None, Some, Result, Err, sym, ap, refl, arith}
use Rattle.std.specs.List.{AllByRecursion}
use Rattle.std.specs.Result.{IsErrAnd}
use Rattle.std.proofs.lemmas.Result.{err_from_is_err_and}
use Rattle.pg_messages.specs.declared.codec.FrameError.{FrameError}
use Rattle.pg_messages.specs.declared.codec.FrameError.TheVariants as errors
use Rattle.pg_messages.specs.declared.frontend.PgWireFrontendMessage.{PgWireFrontendMessage}
use Rattle.pg_messages.specs.Reading.{Gives, told_as, bare, beside}
use Rattle.pg_messages.proofs.FieldLaws.{eqb-apart}

-- what an error at the body becomes at the message
pub error_told : {X : Type 0} (message : X → PgWireFrontendMessage) (read : Option X) (e : FrameError)
    (r : Result PgWireFrontendMessage FrameError) → IsErrAnd r (λ y. y ≡ e) → Gives {X = X} {Y = X} (λ x. x) (Err e) read
    → Gives {X = PgWireFrontendMessage} (λ m. m) r (told_as message read)
error_told message read errors.Bad r is none = let p = err_from_is_err_and r is in rw (p.1, p.2) (ap (told_as message) none)
error_told message read errors.NoMemory r is none = let p = err_from_is_err_and r is in rw (p.1, p.2) tt

-- an error where nothing is read
pub error_of_none : (read : Option PgWireFrontendMessage) (e : FrameError) (r : Result PgWireFrontendMessage FrameError)
    → IsErrAnd r (λ y. y ≡ e) → read ≡ None → Gives {X = PgWireFrontendMessage} (λ m. m) r read
error_of_none read errors.Bad r is none = let p = err_from_is_err_and r is in rw (p.1, p.2) none
error_of_none read errors.NoMemory r is none = let p = err_from_is_err_and r is in rw (p.1, p.2) tt

pub bare_told : (body : List ℕ) (m : PgWireFrontendMessage) → true ≡ eqb (length body) 0 → bare body m ≡ Some m
bare_told body m e = ap (λ b. cond b (Some m) None) (sym e)

pub bare_fails : (body : List ℕ) (m : PgWireFrontendMessage) → false ≡ eqb (length body) 0 → bare body m ≡ None
bare_fails body m e = ap (λ b. cond b (Some m) None) (sym e)

pub bare_of_some : (body : List ℕ) (m : PgWireFrontendMessage) → body ≢ [] → bare body m ≡ None
bare_of_some [] m some = absurd (some refl)
bare_of_some (byte ∷ body) m some = bare_fails (byte ∷ body) m (sym (eqb-apart (length (byte ∷ body)) 0 (λ e. omega (arith, e))))

-- a key that no entry has
pub none_beside : {X : Type 0} (key : ℕ) (otherwise : Option X) (entries : List (ℕ × Option X))
    → AllByRecursion (λ entry. key ≢ entry.0) entries → beside key otherwise entries ≡ otherwise
none_beside key otherwise [] h = refl
none_beside key otherwise (entry ∷ entries) h = rw (eqb-apart key entry.0 h.0) (none_beside key otherwise entries h.1)
