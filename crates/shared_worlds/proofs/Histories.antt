-- A history with one change more: where it leads, and that it is legal.
use Rattle.std.proofs.Common.{◌≡◌, List, [], ◌∷◌, ◌++◌, Option, Some, None, refl, ap, sym, ◌∙◌, subst}
use Rattle.std.specs.Prelude.{option_to_list}
use Rattle.std.proofs.lemmas.List.{append-nil}
use mathlib.Core.List.{IsPrefix}
use Rattle.pg_messages.specs.declared.frontend.PgWireFrontendMessage.{PgWireFrontendMessage}
use Rattle.pg_client.specs.State.{State}
use Rattle.conversation_table.specs.Handlers.{Handlers}
use Rattle.shared_worlds.specs.Worlds.{Met, WorldTold, HasMet, IsMade, AreMade, IsLegal, place_from, place_of, moved_by}
use Rattle.shared_worlds.specs.Sharing.{Known, MeetsShared, met_behind}

place_more : {P C : Type 0} (moved : P → C → P) (p : P) (log : List C) (c : C)
    → place_from moved p (log ++ c ∷ []) ≡ moved (place_from moved p log) c
place_more moved p [] c = refl
place_more moved p (x ∷ log) c = place_more moved (moved p x) log c

made_more : {P C O S : Type 0} (told : WorldTold P C O S) (p : P) (log : List C) (c : C) → AreMade told p log
    → IsMade told (place_from told.moved p log) c → AreMade told p (log ++ c ∷ [])
made_more told p [] c are is = (is, tt)
made_more told p (x ∷ log) c are is = (are.0, made_more told (told.moved p x) log c are.1 is)

module _ {P C O S : Type 0} (told : WorldTold P C O S) where
  -- where the history leads with this change, if there is one
  place_noted : (log : List C) (change : Option C) → place_of told (log ++ option_to_list change) ≡ moved_by told.moved (place_of told log) change
  place_noted log None = ap (place_of told) (append-nil log)
  place_noted log (Some c) = place_more told.moved told.begins log c

  legal_noted : (log : List C) (own : O) (s : State S) (m : PgWireFrontendMessage) (change : Option C) → IsLegal told log
      → change ≡ (told.meeting (place_of told log) own s m).change → IsLegal told (log ++ option_to_list change)
  legal_noted log own s m None legal is = subst (IsLegal told) (sym (append-nil log)) legal
  legal_noted log own s m (Some c) legal is =
      made_more told told.begins log c legal (record { own = own; state = s; message = m; made = sym is })

  -- a world that stands where its history leads met a message: then the history with its change is legal
  pub legal_behind : (p q : P) (o n : O) (s : State S) (m : PgWireFrontendMessage) (change : Option C) (h : Handlers S) (log : List C)
      → p ≡ place_of told log → IsLegal told log → HasMet told p q o n s m change h → IsLegal told (log ++ option_to_list change)
  legal_behind p q o n s m change h log stands legal met =
      legal_noted log o s m change legal (met.changes ∙ ap (λ p. (told.meeting p o s m).change) stands)

  -- and it leads to where the world stands
  pub stands_behind : (p q : P) (o n : O) (s : State S) (m : PgWireFrontendMessage) (change : Option C) (h : Handlers S) (log : List C)
      → p ≡ place_of told log → HasMet told p q o n s m change h → q ≡ place_of told (log ++ option_to_list change)
  stands_behind p q o n s m change h log stands met =
      met.moves ∙ (ap (λ p. moved_by told.moved p change) stands ∙ sym (place_noted log change))

  -- what a client's handlers know is what meeting the message comes to behind all that was seen by the lock
  pub meets : (p q : P) (o n : O) (s : State S) (m : PgWireFrontendMessage) (change : Option C) (h : Handlers S) (log front all : List C)
      → p ≡ place_of told log → IsLegal told log → HasMet told p q o n s m change h → IsPrefix front log
      → all ≡ log ++ option_to_list change
      → MeetsShared told (record { seen = front; own = o }) s m h (record { seen = all; own = n })
  meets p q o n s m change h log front all stands legal met begins is =
      let at : p ≡ place_of told (front ++ begins.0) = stands ∙ ap (place_of told) (sym begins.1) in record {
        others = begins.0;
        seen = is
            ∙ (ap (λ l. l ++ option_to_list change) (sym begins.1)
            ∙ ap (λ c. front ++ begins.0 ++ option_to_list c) (met.changes ∙ ap (λ p. (told.meeting p o s m).change) at));
        own = met.keeps ∙ ap (λ p. (told.meeting p o s m).own) at;
        tells = met.tells ∙ ap (λ p. (told.meeting p o s m).told) at;
        legal = subst (IsLegal told) (sym is) (legal_behind p q o n s m change h log stands legal met);
      }
