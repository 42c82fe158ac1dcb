-- The errors of a query that the session itself tells, and why they come.
use Rattle.std.proofs.Common.{◌≡◌, ◌∙◌, ap, inl, inr, List, [], ◌∷◌, ◌++◌, true, append_assoc}
use Rattle.pg_results.specs.declared.error.PgWireError.{PgWireError}
use Rattle.pg_results.specs.declared.error.PgWireError.TheVariants as wire
use Rattle.pg_results.specs.Rows.{IsAnswerable, IsAnswerableItem}
use Rattle.pg_client.specs.declared.desk.DeskCall.{DeskCall}
use Rattle.pg_client.specs.declared.desk.DeskCall.TheVariants as desk
use Rattle.pg_client.specs.declared.ends.SessionError.{SessionError}
use Rattle.pg_client.specs.declared.ends.SessionError.TheVariants as session
use Rattle.conversation_table.specs.Questions.{IsCausedSo}

-- an error in the place of an item is none of them
pub item_caused : (calls new_calls : List DeskCall) (e : PgWireError) → IsAnswerableItem e → IsCausedSo calls new_calls (session.Wire e)
item_caused calls new_calls wire.QueryCanceled (inl x) = cc
item_caused calls new_calls wire.QueryCanceled (inr x) = let own = x.is_own in cc
item_caused calls new_calls wire.NotReadyForQuery (inl x) = cc
item_caused calls new_calls wire.NotReadyForQuery (inr x) = let own = x.is_own in cc
item_caused calls new_calls wire.PortalNotStarted (inl x) = cc
item_caused calls new_calls wire.PortalNotStarted (inr x) = let own = x.is_own in cc
item_caused calls new_calls _ x = tt

-- the start of the query stands before its questions
pub caused_since : (calls started_calls new_calls : List DeskCall) → started_calls ≡ calls ++ desk.Start ∷ [] → (e : SessionError)
    → IsCausedSo started_calls new_calls e → IsCausedSo calls new_calls e
caused_since calls started_calls new_calls s (session.Wire wire.QueryCanceled) x = (
  desk.Start ∷ x.0,
  x.1 ∙ ap (λ l. l ++ (x.0 ++ desk.Ask true ∷ [])) s
      ∙ append_assoc calls (desk.Start ∷ []) (x.0 ++ desk.Ask true ∷ []),
)
caused_since calls started_calls new_calls s _ x = x

pub item_answerable : (e : PgWireError) → IsAnswerableItem e → IsAnswerable e
item_answerable e (inl x) = inl x
item_answerable e (inr x) = inr x.tellable
