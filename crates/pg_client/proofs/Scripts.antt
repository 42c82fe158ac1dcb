-- Calls that are answered by a script.
use Rattle.std.proofs.Common.{◌≡◌, ℕ, zero, suc, ◌+◌, Bool, List, [], ◌∷◌, ◌++◌, drop, length, refl, sym, ap, ◌∙◌, append-nil, arith}
use Rattle.std.proofs.lemmas.List.{drop-drop, length-append}
use Rattle.pg_client.specs.declared.desk.DeskCall.{DeskCall}
use Rattle.pg_client.specs.declared.desk.DeskCall.TheVariants as desk
use Rattle.pg_client.specs.Answer.{answers_of}
use Rattle.pg_client.specs.Script.{first_or_no, scripted, IsScripted}

pub answers_of-append : (xs ys : List DeskCall) → answers_of (xs ++ ys) ≡ answers_of xs ++ answers_of ys
answers_of-append [] ys = refl
answers_of-append (desk.Start ∷ xs) ys = answers_of-append xs ys
answers_of-append (desk.Ask told ∷ xs) ys = ap (λ l. told ∷ l) (answers_of-append xs ys)
answers_of-append (desk.Cancel pid key told ∷ xs) ys = ap (λ l. told ∷ l) (answers_of-append xs ys)
answers_of-append (desk.Narrow ∷ xs) ys = answers_of-append xs ys

drop_one_more : (n : ℕ) (script : List Bool) → drop n (drop 1 script) ≡ drop (suc n) script
drop_one_more n script = let more : 1 + n ≡ suc n = omega arith in drop-drop n 1 script ∙ ap (λ k. drop k script) more

-- one answer more
scripted-more : (n : ℕ) (script : List Bool) → scripted script (suc n) ≡ scripted script n ++ first_or_no (drop n script) ∷ []
scripted-more zero script = refl
scripted-more (suc n) script =
    ap (λ l. first_or_no script ∷ l) (scripted-more n (drop 1 script)
    ∙ ap (λ l. scripted (drop 1 script) n ++ first_or_no l ∷ []) (drop_one_more n script))

pub scripted_none : (script : List Bool) → IsScripted script script []
scripted_none script = record { answered = refl; rest = refl }

-- A call without an answer uses none.
pub scripted_kept : (script left : List Bool) (calls : List DeskCall) (call : DeskCall) → answers_of (call ∷ []) ≡ []
    → IsScripted script left calls
    → IsScripted script left (calls ++ call ∷ [])
scripted_kept script left calls call none x =
    let same : answers_of (calls ++ call ∷ []) ≡ answers_of calls =
    answers_of-append calls (call ∷ []) ∙ ap (λ l. answers_of calls ++ l) none ∙ append-nil (answers_of calls) in
    record {
      answered = same ∙ x.answered ∙ ap (λ l. scripted script (length l)) (sym same);
      rest = x.rest ∙ ap (λ l. drop (length l) script) (sym same);
    }

-- A call with an answer uses the first that is left.
pub scripted_used : (script left : List Bool) (calls : List DeskCall) (call : DeskCall) → answers_of (call ∷ []) ≡ first_or_no left ∷ []
    → IsScripted script left calls
    → IsScripted script (drop 1 left) (calls ++ call ∷ [])
scripted_used script left calls call one x =
    let n = length (answers_of calls) in
    let more : answers_of (calls ++ call ∷ []) ≡ answers_of calls ++ first_or_no left ∷ [] =
    answers_of-append calls (call ∷ []) ∙ ap (λ l. answers_of calls ++ l) one in
    let count : length (answers_of (calls ++ call ∷ [])) ≡ suc n = let e =
    ap length more ∙ length-append (answers_of calls) (first_or_no left ∷ []) in omega arith in
    record {
      answered = more ∙ ap (λ l. l ++ first_or_no left ∷ []) x.answered ∙ ap (λ l. scripted script n ++ first_or_no l ∷ []) x.rest
          ∙ sym (scripted-more n script) ∙ ap (scripted script) (sym count);
      rest = let after : n + 1 ≡ length (answers_of (calls ++ call ∷ [])) = omega arith in
          ap (drop 1) x.rest ∙ drop-drop 1 n script ∙ ap (λ k. drop k script) after;
    }
