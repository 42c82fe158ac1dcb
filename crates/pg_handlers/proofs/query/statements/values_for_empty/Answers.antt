use Rattle.std.proofs.Common.{◌≡◌, ◌++◌, ◌∷◌, ◌∙◌, List, ℕ, codes, ap, sym, subst, append_assoc, arith, inr}
use Rattle.std.proofs.lemmas.Result.{IfOk-weaker}
use Rattle.std.specs.Fmt.{decimal}
use Rattle.pg_results.specs.Rows.{IsTellable}
use Rattle.pg_results.specs.Errors.{error as error_info}
use Rattle.pg_results.specs.Texts.{quoted}
use Rattle.pg_results.specs.declared.error.PgWireError.TheVariants as wire
use Rattle.pg_client.specs.Errors.{values_for_empty}
use Rattle.conversation_table.proofs.ErrorTexts.{tellable_values}
use Rattle.pg_handlers.proofs.query.statements.values_for_empty.Goals as goal

-- the text, bracketed as it is written
bracketed : (x number y name z : List ℕ) → x ++ (number ++ (y ++ (34 ∷ (name ++ (34 ∷ z))))) ≡ (((x ++ number) ++ y) ++ quoted name) ++ z
bracketed x number y name z = simp append_assoc

shown : (count : ℕ) (name text : List ℕ)
    → text ≡ codes "bind message supplies " ++
    (decimal count ++ (codes " parameters, but prepared statement \"" ++ (name ++ codes "\" requires 0")))
    → text ≡ (values_for_empty count name).message
shown count name text e =
    e ∙ bracketed (codes "bind message supplies ") (decimal count) (codes " parameters, but prepared statement ") name (codes " requires 0")

pub returns-clause-error : goal.returns-clause-error
returns-clause-error c =
    IfOk-weaker c.protocol_violation.result _ _ (λ e same. same ∙ ap (λ text. wire.UserError (error_info (codes "08P01") text))
    (shown c.args.count c.args.name.now _ c.in_ok-text.ensures.ok)) c.protocol_violation.ensures

pub returns-clause-answerable : goal.returns-clause-answerable
returns-clause-answerable c =
    IfOk-weaker c.protocol_violation.result _ _
    (λ e same. inr (subst IsTellable (sym (same ∙ ap (λ text. wire.UserError (error_info (codes "08P01") text))
    (shown c.args.count c.args.name.now _ c.in_ok-text.ensures.ok)))
    (tellable_values c.args.count c.args.name.now (omega arith) c.requires.name)))
    c.protocol_violation.ensures
