-- What was served and fed by the sheets that were told, with no sheet to come.
use Rattle.std.proofs.lemmas.List.{append_cancel_left}
use Rattle.std.proofs.Common.{◌≡◌, ◌∙◌, ℕ, List, [], ◌++◌, Option, Result, IfSome, take, ap, subst, append-nil, refl, Some, arith, sym}
use Rattle.pg_client.specs.declared.desk.DeskCall.{DeskCall}
use Rattle.pg_client.specs.Answer.{Goes}
use Rattle.pg_client.specs.State.{State}
use Rattle.conversation_table.specs.Handlers.{Handlers}
use Rattle.conversation_runs.specs.declared.ends.Progress.{Progress}
use Rattle.conversation_runs.specs.declared.ends.ServeError.{ServeError}
use Rattle.conversation_runs.specs.Steps.{IsServed, WasFed}
use Rattle.conversation_runs.specs.Streams.{GivesFront}
use Rattle.pg_engine.specs.Serving.{TakesFrom}
use Rattle.pg_engine.proofs.Serving.{takes_more}
use Rattle.moving_runs.specs.Sheets.{sheet_rules}
use Rattle.moving_runs.specs.Meeting.{Meeting, MetFrames}
use Rattle.moving_runs.specs.Steps.{IsMetServed, WasMetFed, ahead}

module _ {W S : Type 0} (Meets : Meeting W S) where
  pub whole_served : {w v : W} {s t : State S} {text rest : List ℕ} {a b : Option (List ℕ)} {out new_out : List ℕ} {k l : List DeskCall}
      → (x : IsMetServed Meets w v s t text rest a b out new_out k l)
      → IsServed sheet_rules (ahead x.sheets s) text rest (Goes (ahead [] t)) a b out new_out k l
  whole_served {s = s} {t = t} {text = text} {rest = rest} {a = a} {b = b} {out = out} {new_out = new_out} {k = k} {l = l} x =
      subst (λ sheets. IsServed sheet_rules (ahead sheets s) text rest (Goes (ahead [] t)) a b out new_out k l) (append-nil x.sheets)
      (x.served [])

  pub whole_fed : {w v : W} {s t : State S} {text rest : List ℕ} {a b : Option (List ℕ)} {out : List ℕ} {k l : List DeskCall}
      {result : Result Progress ServeError} → (x : WasMetFed Meets w v s t text rest a b out k l result)
      → WasFed sheet_rules (ahead x.sheets s) text (ahead [] t) rest a b out k l result
  whole_fed {s = s} {t = t} {text = text} {rest = rest} {a = a} {b = b} {out = out} {k = k} {l = l} {result = result} x =
      subst (λ sheets. WasFed sheet_rules (ahead sheets s) text (ahead [] t) rest a b out k l result) (append-nil x.sheets) (x.fed [])

-- a read of the end takes nothing
pub takes_at_end : (left mid new_left : Option (List ℕ)) (taken : List ℕ) (n : ℕ) (into : List ℕ) → TakesFrom left mid taken
    → IfSome mid (λ bytes. GivesFront n into bytes new_left) → n ≡ 0 → TakesFrom left new_left taken
takes_at_end left mid new_left taken n into t g e =
    subst (λ l. TakesFrom left new_left l) (nothing_more into taken n e) (takes_more left mid new_left taken n into t g)
  where
    nothing_more : (into taken : List ℕ) (n : ℕ) → n ≡ 0 → taken ++ take n into ≡ taken
    nothing_more into taken n e = ap (λ k. taken ++ take k into) e ∙ append-nil taken

-- all that there is was taken
pub all_taken : (taken : List ℕ) → TakesFrom (Some taken) (Some []) taken
all_taken taken = ([], sym (append-nil taken), refl)

-- a read of nothing where nothing is left
pub none_given : GivesFront 0 [] [] (Some [])
none_given = record { within = omega arith; given = refl; rest = refl; at_end = λ e. refl }

-- frames that were met, with the same calls told otherwise
pub met_as : {W S : Type 0} (Meets : Meeting W S) (k l made called : List DeskCall) {w v : W} {s : State S} {text : List ℕ}
    {sheets : List (Handlers S)} → MetFrames Meets w v s text sheets made → l ≡ k ++ made → l ≡ k ++ called
    → MetFrames Meets w v s text sheets called
met_as Meets k l made called {w} {v} {s} {text} {sheets} x p q =
    subst (λ calls. MetFrames Meets w v s text sheets calls) (append_cancel_left k made called (sym p ∙ q)) x
