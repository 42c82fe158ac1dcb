-- What was served step by step and piece by piece, with the meetings of its messages.
use Rattle.std.proofs.Common.{◌≡◌, ℕ, Bool, true, false, List, [], ◌++◌, Option, Some, None, Result, Ok, Err, refl, ap, sym, subst, ◌∙◌, append-nil, append_assoc}
use Rattle.pg_messages.specs.Frames.{IsUnfinished}
use Rattle.pg_client.specs.declared.desk.DeskCall.{DeskCall}
use Rattle.pg_client.specs.declared.ends.Turns.{Turns}
use Rattle.pg_client.specs.Desk.{DeskTold}
use Rattle.pg_client.specs.State.{State}
use Rattle.conversation_table.specs.Handlers.{Handlers}
use Rattle.conversation_table.specs.Table.{awaits}
use Rattle.conversation_runs.specs.declared.ends.Progress.{Progress}
use Rattle.conversation_runs.specs.declared.ends.Progress.TheVariants as progress
use Rattle.conversation_runs.specs.declared.ends.ServeError.{ServeError}
use Rattle.conversation_runs.specs.Session.{is_going, is_more, told_or_more}
use Rattle.conversation_runs.specs.declared.ends.ServeError.TheVariants as serve
use Rattle.pg_client.specs.Answer.{Goes}
use Rattle.conversation_runs.specs.Steps.{IsServed, SentBehind, WasFed}
use Rattle.conversation_runs.specs.Streams.{HasSentCause}
use Rattle.conversation_runs.proofs.Behind.{round_behind}
use Rattle.conversation_runs.proofs.Feeding.{fed_then}
use Rattle.conversation_runs.proofs.Rounds.{told_then}
use Rattle.conversation_runs.proofs.Stepping.{serves_none, serves_then, serves_to, cut_none}
use Rattle.moving_runs.specs.Sheets.{sheet_rules}
use Rattle.moving_runs.specs.Meeting.{Meeting, MetFrames, MetAllFrames}
use Rattle.moving_runs.specs.Steps.{Standing, IsMetStep, IsMetRound, IsMetServed, MetSo, WasMetFed, ahead, step_goes}
use Rattle.moving_runs.proofs.Lawful.{sheets_lawful}
use Rattle.moving_runs.proofs.Joining.{none_met, met_so_far, met_more, all_then, frames_then}

module _ {W S : Type 0} (Meets : Meeting W S) where
  -- ---- meetings, and what is known of them where the conversation goes on

  weaker : (w v : W) (s t : State S) (text rest : List ℕ) (sheets : List (Handlers S)) (calls : List DeskCall) (goes : Bool)
      → MetSo Meets w v s t text rest sheets calls goes → MetFrames Meets w v s text sheets calls
  weaker w v s t text rest sheets calls true x = met_so_far Meets x
  weaker w v s t text rest sheets calls false x = x

  met_behind : (w v x : W) (s t r : State S) (text mid rest : List ℕ) (sheets behind : List (Handlers S)) (calls later : List DeskCall)
      (goes : Bool) → MetAllFrames Meets w v s t text mid sheets calls → MetSo Meets v x t r mid rest behind later goes
      → MetSo Meets w x s r text rest (sheets ++ behind) (calls ++ later) goes
  met_behind w v x s t r text mid rest sheets behind calls later true a b = all_then Meets a b
  met_behind w v x s t r text mid rest sheets behind calls later false a b = frames_then Meets a b

  met_sent : (w v : W) (s t : State S) (text rest : List ℕ) (sheets : List (Handlers S)) (calls : List DeskCall)
      (written new_written : Option (List ℕ)) (out new_out : List ℕ) (step : Result (Option Progress) ServeError)
      (result : Option (Result Progress ServeError)) → SentBehind written new_written out new_out step result
      → MetSo Meets w v s t text rest sheets calls (step_goes step)
      → MetSo Meets w v s t text rest sheets calls (is_more (told_or_more result))
  met_sent w v s t text rest sheets calls a b o p (Ok None) None x met = met
  met_sent w v s t text rest sheets calls a b o p (Ok None) (Some (Ok told)) x met = absurd x
  met_sent w v s t text rest sheets calls a b o p (Ok None) (Some (Err e)) x met = weaker w v s t text rest sheets calls true met
  met_sent w v s t text rest sheets calls a b o p (Ok (Some told)) None x met = absurd x
  met_sent w v s t text rest sheets calls a b o p (Ok (Some told)) (Some (Ok t')) x met =
      subst (λ y. MetSo Meets w v s t text rest sheets calls (is_more (Ok y))) (sym x.0)
      (subst (λ y. MetSo Meets w v s t text rest sheets calls y) (goes_alike told) met)
    where
      goes_alike : (told : Progress) → is_going (Some told) ≡ is_more (Ok told)
      goes_alike progress.More = refl
      goes_alike (progress.Ended kind) = refl
  met_sent w v s t text rest sheets calls a b o p (Ok (Some told)) (Some (Err e)) x met =
      weaker w v s t text rest sheets calls (is_going (Some told)) met
  met_sent w v s t text rest sheets calls a b o p (Err e) None x met = absurd x
  met_sent w v s t text rest sheets calls a b o p (Err e) (Some (Ok t')) x met = absurd x
  met_sent w v s t text rest sheets calls a b o p (Err e) (Some (Err k)) x met = met

  -- ---- a round

  pub round_met : (old new : Standing W S) (text rest : List ℕ) (desk new_desk : DeskTold) (before after : Turns)
      (step : Result (Option Progress) ServeError) (result : Option (Result Progress ServeError)) (written new_written : Option (List ℕ))
      (last : List ℕ) (faults new_faults : ℕ) → IsMetStep Meets old new text rest desk new_desk before after step
      → SentBehind written new_written new.unsent last step result → HasSentCause faults new_faults step result
      → IsMetRound Meets old.world new.world old.state new.state text rest written new_written old.unsent last desk.calls new_desk.calls result
  round_met old new text rest desk new_desk before after step result written new_written last faults new_faults x sent cause = record {
    sheets = x.sheets;
    made = x.made;
    grown = x.grown;
    met = met_sent old.world new.world old.state new.state text rest x.sheets x.made written new_written new.unsent last step result sent x.met;
    round = λ more.
        round_behind sheet_rules (ahead (x.sheets ++ more) old.state) (ahead more new.state) text rest written new_written old.unsent
        new.unsent last desk.calls new_desk.calls step result faults new_faults (x.served more) (x.cut_off more) (x.stopped more) sent cause;
  }

  -- ---- round by round

  pub none_served : (w : W) (s : State S) (text : List ℕ) (written : Option (List ℕ)) (out : List ℕ) (calls : List DeskCall)
      → IsMetServed Meets w w s s text text written written out out calls calls
  none_served w s text written out calls = record {
    sheets = [];
    made = [];
    grown = sym (append-nil calls);
    met = none_met Meets w s text text refl;
    served = λ more. serves_none sheet_rules (ahead more s) text text written out calls refl;
  }

  grown_twice : (k l m made later : List DeskCall) → l ≡ k ++ made → m ≡ l ++ later → m ≡ k ++ (made ++ later)
  grown_twice k l m made later p q = q ∙ ap (λ c. c ++ later) p ∙ append_assoc k made later

  module _ (w v x : W) (s t r : State S) (text mid rest : List ℕ) (a b c : Option (List ℕ)) (out waiting new_out : List ℕ)
      (k l m : List DeskCall) (so_far : IsMetServed Meets w v s t text mid a b out waiting k l) where
    pub served_then : IsMetRound Meets v x t r mid rest b c waiting new_out l m None
        → IsMetServed Meets w x s r text rest a c out new_out k m
    served_then y = record {
      sheets = so_far.sheets ++ y.sheets;
      made = so_far.made ++ y.made;
      grown = grown_twice k l m so_far.made y.made so_far.grown y.grown;
      met = all_then Meets so_far.met y.met;
      served = λ more.
          subst (λ sheets. IsServed sheet_rules (ahead sheets s) text rest (Goes (ahead more r)) a c out new_out k m)
          (sym (append_assoc so_far.sheets y.sheets more))
          (serves_then sheet_rules sheets_lawful (so_far.served (y.sheets ++ more)) (y.round more));
    }

    pub told_met : (told : Result Progress ServeError) → IsMetRound Meets v x t r mid rest b c waiting new_out l m (Some told)
        → WasMetFed Meets w x s r text rest a c out k m told
    told_met told y = record {
      sheets = so_far.sheets ++ y.sheets;
      made = so_far.made ++ y.made;
      grown = grown_twice k l m so_far.made y.made so_far.grown y.grown;
      met = met_behind w v x s t r text mid rest so_far.sheets y.sheets so_far.made y.made (is_more told) so_far.met y.met;
      fed = λ more.
          subst (λ sheets. WasFed sheet_rules (ahead sheets s) text (ahead more r) rest a c out k m told)
          (sym (append_assoc so_far.sheets y.sheets more))
          (told_then sheet_rules sheets_lawful (ahead (so_far.sheets ++ (y.sheets ++ more)) s) (ahead (y.sheets ++ more) t) (ahead more r)
          text mid rest a b c out waiting k l m (so_far.served (y.sheets ++ more)) told (y.round more));
    }

  -- ---- piece by piece

  -- memory ran out before any message was met
  pub none_fed : (w : W) (s t : State S) (text rest : List ℕ) (written : Option (List ℕ)) (out : List ℕ) (calls : List DeskCall)
      → WasMetFed Meets w w s t text rest written written out calls calls (Err serve.NoMemory)
  none_fed w s t text rest written out calls = record {
    sheets = [];
    made = [];
    grown = sym (append-nil calls);
    met = met_so_far Meets (none_met Meets w s text text refl);
    fed = λ more. cut_none sheet_rules (ahead more s) text written out calls;
  }

  module _ (w v x : W) (s t r : State S) (text mid piece rest : List ℕ) (a b c : Option (List ℕ)) (out waiting : List ℕ)
      (k l m : List DeskCall) (so_far : IsMetServed Meets w v s t text mid a b out waiting k l) where
    -- What was served, and then fed with a piece, was fed with both.
    pub piece_fed : (result : Result Progress ServeError) → WasMetFed Meets v x t r (mid ++ piece) rest b c waiting l m result
        → WasMetFed Meets w x s r (text ++ piece) rest a c out k m result
    piece_fed result y = record {
      sheets = so_far.sheets ++ y.sheets;
      made = so_far.made ++ y.made;
      grown = grown_twice k l m so_far.made y.made so_far.grown y.grown;
      met = met_behind w v x s t r (text ++ piece) (mid ++ piece) rest so_far.sheets y.sheets so_far.made y.made (is_more result)
          (met_more Meets piece so_far.met) y.met;
      fed = λ more.
          subst (λ sheets. WasFed sheet_rules (ahead sheets s) (text ++ piece) (ahead more r) rest a c out k m result)
          (sym (append_assoc so_far.sheets y.sheets more))
          (fed_then sheet_rules sheets_lawful (ahead (so_far.sheets ++ (y.sheets ++ more)) s) (ahead (y.sheets ++ more) t) (ahead more r)
          text mid piece rest a b c out waiting k l m result (so_far.served (y.sheets ++ more)) (y.fed more));
    }

    -- what was served before the piece, under all sheets that were told
    pub served_before : (result : Result Progress ServeError) (y : WasMetFed Meets v x t r (mid ++ piece) rest b c waiting l m result)
        → IsServed sheet_rules (ahead (piece_fed result y).sheets s) text mid (Goes (ahead y.sheets t)) a b out waiting k l
    unfolding piece_fed
    served_before result y = so_far.served y.sheets

  -- a text that was fed, where the conversation goes on
  pub served_on : (w v : W) (s t : State S) (text rest : List ℕ) (a b : Option (List ℕ)) (out : List ℕ) (k l : List DeskCall)
      → WasMetFed Meets w v s t text rest a b out k l (Ok progress.More) → IsMetServed Meets w v s t text rest a b out [] k l
  served_on w v s t text rest a b out k l x = record {
    sheets = x.sheets;
    made = x.made;
    grown = x.grown;
    met = x.met;
    served = λ more. let fed = x.fed more in serves_to sheet_rules fed.2.0 fed.1;
  }

  -- the frames that were met of a text that was fed
  pub met_in : (w v : W) (s t : State S) (text rest : List ℕ) (a b : Option (List ℕ)) (out : List ℕ) (k l : List DeskCall)
      (result : Result Progress ServeError) → (x : WasMetFed Meets w v s t text rest a b out k l result)
      → MetFrames Meets w v s text x.sheets x.made
  met_in w v s t text rest a b out k l result x = weaker w v s t text rest x.sheets x.made (is_more result) x.met

  pub short_of : (w v : W) (s t : State S) (text rest : List ℕ) (a b : Option (List ℕ)) (out : List ℕ) (k l : List DeskCall)
      → WasMetFed Meets w v s t text rest a b out k l (Ok progress.More) → IsUnfinished (awaits t) rest
  short_of w v s t text rest a b out k l x = (x.fed []).2.1
