-- The calls that a connection made while its client was served.
use Rattle.std.proofs.Common.{◌≡◌, ℕ, List, [], ◌∷◌, ◌++◌, Result, sym, ap, subst, ◌∙◌}
use Rattle.std.specs.Prelude.{◌==◌}
use Rattle.std.proofs.lemmas.List.{append_cancel_left}
use Rattle.std.proofs.lemmas.List.Elements.{filter-append}
use Rattle.std.proofs.lemmas.Grind.{flat_map-append}
use mathlib.Core.List.{IsPrefix}
use Rattle.pg_cancel.specs.declared.entries.Entry.{Entry}
use Rattle.pg_cancel.specs.Connections.{Connection, Issuer, IsSameConnection, calls_of, origin_of}
use Rattle.pg_client.specs.declared.desk.DeskCall.{DeskCall}
use Rattle.pg_client.specs.Desk.{DeskTold, GoesOn}
use Rattle.pg_client.specs.declared.ends.EndKind.{EndKind}
use Rattle.conversation_runs.specs.declared.ends.ServeError.{ServeError}
use Rattle.conversation_runs.specs.Run.{Rules}
use Rattle.pg_engine.specs.Around.{Around, Serves}
use Rattle.pg_serve.specs.Desk.{ConnectionGoesOn, desk_call, desk_calls, desk_of, desk_over, registration_of}

-- what a connection has seen goes on, and so do its own calls there: by those of a session
pub calls_made : (n : ℕ) (seen seen' mine mine' : List Entry) (calls : List DeskCall) → IsPrefix seen seen' → calls_of n seen ≡ mine
    → calls_of n seen' ≡ mine' → desk_calls mine' ≡ desk_calls mine ++ calls
    → (made : List Entry) × (mine' ≡ mine ++ made) × (calls ≡ desk_calls made)
calls_made n seen seen' mine mine' calls grown own own' called =
    let made = calls_of n grown.0 in
    let split : mine' ≡ mine ++ made =
    sym own' ∙ ap (calls_of n) (sym grown.1) ∙ filter-append (λ (e : Entry). e.number == n) seen grown.0 ∙ ap (λ m. m ++ made) own in (
      made,
      split,
      append_cancel_left (desk_calls mine) calls (desk_calls made)
          (sym called ∙ ap desk_calls split ∙ flat_map-append (λ (e : Entry). desk_call e.call e.answer) mine made),
    )

-- a connection that went on, and then took in what another had seen
pub goes_on_as : (old between new : Connection) → ConnectionGoesOn old between → IsSameConnection between new → new.mine ≡ between.mine
    → ConnectionGoesOn old new
goes_on_as old between new on same mine = record {
  issuer = same.0 ∙ on.issuer;
  number = same.1 ∙ on.number;
  calls = on.calls;
  grown = ap desk_calls mine ∙ on.grown;
  registration = (λ i. (same.2 i, same.3 i)) ∙ on.registration;
}

-- ---- the desk over a connection

abbrev number_in : List ℕ → ℕ
number_in (name ∷ number ∷ rest) = number
number_in _ = 0

abbrev issuer_in : List ℕ → Issuer
issuer_in (name ∷ number ∷ words ∷ slots ∷ views ∷ atom ∷ block ∷ offset ∷ names) =
    record { words = words; slots = slots; views_name = views; atom = atom; block = block; offset = offset; slot_names = names }
issuer_in _ = record { words = 0; slots = 0; views_name = 0; atom = 0; block = 0; offset = 0; slot_names = [] }

-- the connection is the same behind the calls of its desk
pub desk_goes_on : (name new_name : ℕ) (old new : Connection) → GoesOn (desk_over name old) (desk_over new_name new)
    → ConnectionGoesOn old new
desk_goes_on name new_name old new on = record {
  issuer = ap (λ d. issuer_in d.origin) on.grown;
  number = ap (λ d. number_in d.origin) on.grown;
  calls = on.made;
  grown = ap (λ d. d.calls) on.grown;
  registration = ap (λ d. d.registration) on.grown;
}

-- ---- a connection that took in what another had seen

-- it tells the same as a desk
same_desk : (between new : Connection) → IsSameConnection between new → new.mine ≡ between.mine → desk_of new ≡ desk_of between
same_desk between new same mine = λ i. record {
  registration = (same.2 i, same.3 i);
  calls = desk_calls (mine i);
  origin = origin_of 0 (same.1 i) (same.0 i);
}

-- what stands round a conversation, with another desk
abbrev pub at_desk : Around → DeskTold → Around
at_desk round desk = record {
  left = round.left;
  written = round.written;
  counts = round.counts;
  source = round.source;
  sink = round.sink;
  desk = desk;
}

-- so its client was served
pub served_as : {T : Type 0} (rules : Rules T) (first : T) (turns : ℕ) (result : Result EndKind ServeError) (before after : Around)
    (between new : Connection) → IsSameConnection between new → new.mine ≡ between.mine
    → Serves rules first turns result before (at_desk after (desk_of between))
    → Serves rules first turns result before (at_desk after (desk_of new))
served_as rules first turns result before after between new same mine x =
    subst (λ d. Serves rules first turns result before (at_desk after d)) (sym (same_desk between new same mine)) x
