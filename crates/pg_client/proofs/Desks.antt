-- What calls of a desk leave as it was.
use Rattle.std.proofs.Common.{◌≡◌, ℕ, ℤ, List, [], ◌∷◌, ◌++◌, take, refl, sym, ap, subst, ◌∙◌, append_assoc, append-nil}
use Rattle.pg_client.specs.declared.desk.DeskCall.{DeskCall}
use Rattle.pg_client.specs.declared.desk.DeskCall.TheVariants as desk
use Rattle.pg_client.specs.Desk.{DeskTold, KeepsDesk, GoesOn, narrowed, after_calls}

pub keeps_none : (desk : DeskTold) → KeepsDesk desk desk
keeps_none desk = record { same = refl; origin = refl }

-- calls that narrow nothing
pub keeps_after : (old new : DeskTold) (made : List DeskCall)
    → new ≡ record { registration = old.registration; calls = old.calls ++ made; origin = old.origin } → KeepsDesk old new
keeps_after old new made e = record { same = ap (λ d. d.registration) e; origin = ap (λ d. d.origin) e }

pub keeps_as : (old new : DeskTold) → new ≡ old → KeepsDesk old new
keeps_as old new e = record { same = ap (λ d. d.registration) e; origin = ap (λ d. d.origin) e }

pub keeps_then : (old between new : DeskTold) → KeepsDesk old between → KeepsDesk between new → KeepsDesk old new
keeps_then old between new a b = record { same = b.same ∙ a.same; origin = b.origin ∙ a.origin }

-- ---- a desk that may be narrowed

abbrev desk_of : ℤ × List ℕ → List DeskCall → List ℕ → DeskTold
desk_of registration calls origin = record { registration = registration; calls = calls; origin = origin }

pub after_none : (desk : DeskTold) → desk ≡ after_calls desk []
after_none desk = ap (λ calls. desk_of desk.registration calls desk.origin) (sym (append-nil desk.calls))

pub goes_on_none : (desk : DeskTold) → GoesOn desk desk
goes_on_none desk = record { made = []; grown = after_none desk }

pub goes_on_as : (old new : DeskTold) → new ≡ old → GoesOn old new
goes_on_as old new e = subst (GoesOn old) (sym e) (goes_on_none old)

pub goes_on_after : (old new : DeskTold) (made : List DeskCall) → new ≡ after_calls old made → GoesOn old new
goes_on_after old new made e = record { made = made; grown = e }

narrowed-append : (registration : ℤ × List ℕ) (a b : List DeskCall) → narrowed (narrowed registration a) b ≡ narrowed registration (a ++ b)
narrowed-append registration [] b = refl
narrowed-append registration (desk.Start ∷ a) b = narrowed-append registration a b
narrowed-append registration (desk.Ask told ∷ a) b = narrowed-append registration a b
narrowed-append registration (desk.Cancel pid key told ∷ a) b = narrowed-append registration a b
narrowed-append registration (desk.Narrow ∷ a) b = narrowed-append (registration.0, take 4 registration.1) a b

after_then : (old : DeskTold) (a b : List DeskCall) → after_calls (after_calls old a) b ≡ after_calls old (a ++ b)
after_then old a b = λ i. desk_of (narrowed-append old.registration a b i) (append_assoc old.calls a b i) old.origin

-- some calls, and others behind them
pub goes_on_then : (old between new : DeskTold) → GoesOn old between → GoesOn between new → GoesOn old new
goes_on_then old between new a b = record {
  made = a.made ++ b.made;
  grown = b.grown ∙ ap (λ d. after_calls d b.made) a.grown ∙ after_then old a.made b.made;
}

-- none of the calls narrows a registration
abbrev pub NarrowsNone : List DeskCall → Type 0
NarrowsNone [] = Unit {0}
NarrowsNone (desk.Start ∷ calls) = NarrowsNone calls
NarrowsNone (desk.Ask told ∷ calls) = NarrowsNone calls
NarrowsNone (desk.Cancel pid key told ∷ calls) = NarrowsNone calls
NarrowsNone (desk.Narrow ∷ calls) = ⊥

pub narrows_none_front : (made others : List DeskCall) → NarrowsNone (made ++ others) → NarrowsNone made
narrows_none_front [] others h = tt
narrows_none_front (desk.Start ∷ made) others h = narrows_none_front made others h
narrows_none_front (desk.Ask told ∷ made) others h = narrows_none_front made others h
narrows_none_front (desk.Cancel pid key told ∷ made) others h = narrows_none_front made others h
narrows_none_front (desk.Narrow ∷ made) others h = absurd h

unnarrowed : (registration : ℤ × List ℕ) (made : List DeskCall) → NarrowsNone made → narrowed registration made ≡ registration
unnarrowed registration [] h = refl
unnarrowed registration (desk.Start ∷ made) h = unnarrowed registration made h
unnarrowed registration (desk.Ask told ∷ made) h = unnarrowed registration made h
unnarrowed registration (desk.Cancel pid key told ∷ made) h = unnarrowed registration made h
unnarrowed registration (desk.Narrow ∷ made) h = absurd h

-- The registration is the same, and the new calls narrow none.
pub goes_on_kept : (old new : DeskTold) (made : List DeskCall) → NarrowsNone made → new.calls ≡ old.calls ++ made → KeepsDesk old new
    → GoesOn old new
goes_on_kept old new made none grown kept = record {
  made = made;
  grown = λ i. desk_of ((kept.same ∙ sym (unnarrowed old.registration made none)) i) (grown i) (kept.origin i);
}
