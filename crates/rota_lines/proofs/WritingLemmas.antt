-- A text that is on its way to a sink.
use Rattle.std.proofs.Common.{◌≡◌, ◌≤◌, ℕ, arith, List, [], ◌++◌, Option, Some, None, refl, sym, ap, subst, ◌∙◌, append_assoc, append-nil}
use Rattle.std.proofs.Common.{Result, Ok, Err, OnOk, IsErrOf}
use Rattle.conversation_runs.specs.declared.streams.SinkError.{SinkError}
use Rattle.conversation_runs.specs.declared.streams.SinkError.TheVariants.{Failed, NoMemory}
use Rattle.conversation_runs.specs.Streams.{GrowsBy, GrowsByFront, HasRisen}
use Rattle.rota_lines.specs.Writing.{IsOnItsWay, IsSinkCause, HasWritten, GoesOn}

grows_on : (a b c : Option (List ℕ)) (x y : List ℕ) → GrowsBy a b x → GrowsBy b c y → GrowsBy a c (x ++ y)
grows_on None b c x y h k = tt
grows_on (Some s) b c x y h k =
    let then_by : c ≡ Some ((s ++ x) ++ y) = subst (λ o. GrowsBy o c y) h k in
    then_by ∙ ap Some (append_assoc s x y)

front_on : (a b c : Option (List ℕ)) (x y : List ℕ) → GrowsBy a b x → GrowsByFront b c y → GrowsByFront a c (x ++ y)
front_on None b c x y h k = tt
front_on (Some s) b c x y h k =
    let then_by = subst (λ o. GrowsByFront o c y) h k in
    let front = then_by.0 in
    let others = then_by.1.0 in (
      x ++ front,
      (others, ap (λ l. x ++ l) then_by.1.1 ∙ sym (append_assoc x front others)),
      then_by.2 ∙ ap Some (append_assoc s x front),
    )

front_of : (a b : Option (List ℕ)) (x y : List ℕ) → GrowsBy a b x → GrowsByFront a b (x ++ y)
front_of None b x y h = tt
front_of (Some s) b x y h = (x, (y, refl), h)

-- a front of a text is one of a longer text
pub front_more : (a b : Option (List ℕ)) (x y : List ℕ) → GrowsByFront a b x → GrowsByFront a b (x ++ y)
front_more None b x y h = tt
front_more (Some s) b x y h =
    let front = h.0 in
    let others = h.1.0 in
    (front, (others ++ y, ap (λ l. l ++ y) h.1.1 ∙ append_assoc front others y), h.2)

no_growth : (a : Option (List ℕ)) → GrowsBy a a []
no_growth None = tt
no_growth (Some s) = ap Some (sym (append-nil s))

-- nothing was sent yet
pub at_first : (a : Option (List ℕ)) → IsOnItsWay a a [] []
at_first a = record { sent = []; grown = no_growth a; whole = refl }

-- a piece waits behind what waits
pub waits_more : (a b : Option (List ℕ)) (text waiting piece more : List ℕ) → IsOnItsWay a b text waiting → more ≡ waiting ++ piece
    → IsOnItsWay a b (text ++ piece) more
waits_more a b text waiting piece more h e = record {
  sent = h.sent;
  grown = h.grown;
  whole = ap (λ l. l ++ piece) h.whole ∙ append_assoc h.sent waiting piece ∙ ap (λ l. h.sent ++ l) (sym e);
}

-- what waits was sent
pub all_sent : (a b c : Option (List ℕ)) (text waiting : List ℕ) → IsOnItsWay a b text waiting → GrowsBy b c waiting → GrowsBy a c text
all_sent a b c text waiting h k = subst (λ l. GrowsBy a c l) (sym h.whole) (grows_on a b c h.sent waiting h.grown k)

pub front_sent : (a b c : Option (List ℕ)) (text waiting : List ℕ) → IsOnItsWay a b text waiting → GrowsByFront b c waiting
    → GrowsByFront a c text
front_sent a b c text waiting h k = subst (λ l. GrowsByFront a c l) (sym h.whole) (front_on a b c h.sent waiting h.grown k)

pub none_waits : (a b c : Option (List ℕ)) (text waiting empty : List ℕ) → IsOnItsWay a b text waiting → GrowsBy b c waiting → empty ≡ []
    → IsOnItsWay a c (text ++ []) empty
none_waits a b c text waiting empty h k e = record {
  sent = text;
  grown = all_sent a b c text waiting h k;
  whole = ap (λ l. text ++ l) (sym e);
}

-- a front was sent before memory ran out
pub front_before : (a b : Option (List ℕ)) (text waiting piece : List ℕ) → IsOnItsWay a b text waiting → GrowsByFront a b (text ++ piece)
front_before a b text waiting piece h =
    front_more a b text piece (subst (λ l. GrowsByFront a b l) (sym h.whole) (front_of a b h.sent waiting h.grown))

-- a piece that waits goes on
pub goes_on_with : (r : Result (Unit {0}) SinkError) (piece waiting more new_waiting : List ℕ) (old new : Option (List ℕ))
    (faults new_faults : ℕ)
    → more ≡ waiting ++ piece → GoesOn r [] more new_waiting old new faults new_faults
    → GoesOn r piece waiting new_waiting old new faults new_faults
goes_on_with (Ok done) piece waiting more new_waiting old new faults new_faults e h = (
  λ first text way.
      let P : List ℕ → Type 0 = λ t. IsOnItsWay first new t new_waiting in
      subst P (append-nil (text ++ piece)) (h.0 first (text ++ piece) (waits_more first old text waiting piece more way e)),
  h.1,
)
goes_on_with (Err error) piece waiting more new_waiting old new faults new_faults e h = (
  λ first text way.
      let P : List ℕ → Type 0 = λ t. GrowsByFront first new t in
      subst P (append-nil (text ++ piece)) (h.0 first (text ++ piece) (waits_more first old text waiting piece more way e)),
  h.1,
)

-- the same of equal texts and counts
pub written_as : (r : Result (Unit {0}) SinkError) (text whole : List ℕ) (old new : Option (List ℕ)) (first faults new_faults : ℕ)
    → whole ≡ text → faults ≡ first → HasWritten r text old new faults new_faults → HasWritten r whole old new first new_faults
written_as r text whole old new first faults new_faults e same h =
    let P : List ℕ → Type 0 = λ t. HasWritten r t old new first new_faults in
    let Q : ℕ → Type 0 = λ k. HasWritten r text old new k new_faults in
    subst P (sym e) (subst Q same h)

pub cause_as : (error : SinkError) (first faults new_faults : ℕ) → faults ≡ first → IsSinkCause error faults new_faults
    → IsSinkCause error first new_faults
cause_as error first faults new_faults same h =
    let Q : ℕ → Type 0 = λ k. IsSinkCause error k new_faults in
    subst Q same h

-- what holds in any case holds of an Ok
pub is_ok_with : {P : Type 0} (r : Result (Unit {0}) SinkError) → P → OnOk r P
is_ok_with (Ok done) p = p
is_ok_with (Err e) p = tt

-- the cause of an error, by what a sink ensures of it
pub cause_of : (error : SinkError) (faults new_faults : ℕ) → (IsErrOf {T = Unit {0}} (Err error) Failed → HasRisen faults new_faults)
    → (IsErrOf {T = Unit {0}} (Err error) NoMemory → new_faults ≡ faults) → faults ≤ new_faults → IsSinkCause error faults new_faults
cause_of Failed faults new_faults failed no_memory never_falls = (failed refl, never_falls)
cause_of NoMemory faults new_faults failed no_memory never_falls = no_memory refl

-- the count of a sink's faults doesn't fall at an error
pub never_falls_at : (error : SinkError) (faults new_faults : ℕ) → IsSinkCause error faults new_faults → faults ≤ new_faults
never_falls_at Failed faults new_faults cause = cause.1
never_falls_at NoMemory faults new_faults cause = omega arith
