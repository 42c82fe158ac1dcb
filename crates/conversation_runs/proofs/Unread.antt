-- What a step tells of bytes that begin with no good frame.
use Rattle.std.proofs.Common.{◌≡◌, ℕ, Bool, List, Option, Some, None, Result, Ok, Err, IfOk, IfErr, OnErr, ◌++◌, refl, sym, subst, ◌∙◌}
use Rattle.pg_messages.specs.Frames.{IsBad}
use Rattle.pg_messages.specs.declared.codec.FrameError.{FrameError}
use Rattle.pg_messages.specs.declared.codec.FrameError.TheVariants as frame
use Rattle.pg_client.specs.declared.desk.DeskCall.{DeskCall}
use Rattle.pg_client.specs.Answer.{Next, Goes}
use Rattle.conversation_table.specs.Handlers.{Handlers}
use Rattle.pg_client.specs.State.{State}
use Rattle.conversation_table.specs.Table.{awaits}
use Rattle.conversation_runs.specs.declared.ends.Progress.{Progress}
use Rattle.conversation_runs.specs.declared.ends.Progress.TheVariants as progress
use Rattle.conversation_runs.specs.declared.ends.ServeError.{ServeError}
use Rattle.conversation_runs.specs.declared.ends.ServeError.TheVariants as serve
use Rattle.conversation_runs.specs.Session.{whole_rules, unread, IsUnread}
use Rattle.conversation_runs.specs.Run.{EndsWith}
use Rattle.conversation_runs.specs.Steps.{IsServed, IsCutOff, StandsAfterStep}
use Rattle.conversation_runs.proofs.BadFrames.{bad_more}
use Rattle.conversation_runs.proofs.Stepping.{serves_none, cut_none, bad_is_no_end_of_input}

-- a frame that can't be read is bad, or memory was wanting
pub unread_as : (awaiting : Bool) (text : List ℕ) (error : FrameError) → (error ≡ frame.Bad → IsBad awaiting text)
    → IsUnread awaiting text (unread error)
unread_as awaiting text frame.Bad bad = (refl, bad refl)
unread_as awaiting text frame.NoMemory bad = refl

-- memory alone is wanting
pub unread_only : (awaiting : Bool) (text : List ℕ) (told : Result (Option Progress) ServeError) → IsUnread awaiting text told
    → IfErr told (λ e. e ≡ serve.NoMemory)
unread_only awaiting text (Ok step) x = tt
unread_only awaiting text (Err error) x = x

module _ {S : Type 0} (h : Handlers S) (s : State S) (text : List ℕ) (out : List ℕ) (calls : List DeskCall) where
  -- more bytes are awaited, or the conversation ends
  pub unread_served : (told : Result (Option Progress) ServeError) → IsUnread (awaits s) text told
      → IfOk told (λ step. (next : Next (State S)) × ((w : Option (List ℕ)) → IsServed (whole_rules h) s text text next w w out out calls calls)
      × StandsAfterStep awaits next s text step)
  unread_served (Ok None) x = absurd x
  unread_served (Ok (Some progress.More)) x = (Goes s, λ w. serves_none (whole_rules h) s text text w out calls refl, (refl, x))
  unread_served (Ok (Some (progress.Ended kind))) x = (
    Goes s,
    λ w. serves_none (whole_rules h) s text text w out calls refl,
    (
      λ e. bad_is_no_end_of_input (sym x.0 ∙ e),
      λ more. subst (λ k. EndsWith awaits (Goes s) (text ++ more) k) (sym x.0) (bad_more (awaits s) text more x.1),
    ),
  )
  unread_served (Err error) x = tt

  -- memory was wanting
  pub unread_cut : (told : Result (Option Progress) ServeError)
      → OnErr told ((w : Option (List ℕ)) → IsCutOff (whole_rules h) s text w w out calls calls)
  unread_cut (Ok step) = tt
  unread_cut (Err error) = λ w. cut_none (whole_rules h) s text w out calls
