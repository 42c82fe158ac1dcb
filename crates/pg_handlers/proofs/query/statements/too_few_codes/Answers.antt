use Rattle.std.proofs.Common.{◌≡◌, ◌++◌, ◌∙◌, List, ℕ, codes, ap, sym, subst, append_assoc, arith, inr}
use Rattle.std.proofs.lemmas.Result.{IfOk-weaker}
use Rattle.std.specs.Fmt.{decimal}
use Rattle.pg_results.specs.Rows.{IsTellable}
use Rattle.pg_results.specs.Errors.{error as error_info}
use Rattle.pg_results.specs.declared.error.PgWireError.TheVariants as wire
use Rattle.pg_client.specs.Errors.{too_few_codes}
use Rattle.conversation_table.proofs.ErrorTexts.{tellable_too_few}
use Rattle.pg_handlers.proofs.query.statements.too_few_codes.Goals as goal

-- the text, bracketed as it is written
bracketed : (count columns : ℕ) (text : List ℕ)
    → text ≡ codes "bind message has " ++ (decimal count ++
    (codes " result formats but query has " ++ (decimal columns ++ codes " columns")))
    → text ≡ (too_few_codes count columns).message
bracketed count columns text e = e ∙ simp append_assoc

pub returns-clause-error : goal.returns-clause-error
returns-clause-error c =
    IfOk-weaker c.protocol_violation.result _ _ (λ e same. same ∙ ap (λ text. wire.UserError (error_info (codes "08P01") text))
    (bracketed c.args.count c.args.columns _ c.in_ok-text.ensures.ok)) c.protocol_violation.ensures

pub returns-clause-answerable : goal.returns-clause-answerable
returns-clause-answerable c =
    IfOk-weaker c.protocol_violation.result _ _
    (λ e same. inr (subst IsTellable (sym (same ∙ ap (λ text. wire.UserError (error_info (codes "08P01") text))
    (bracketed c.args.count c.args.columns _ c.in_ok-text.ensures.ok)))
    (tellable_too_few c.args.count c.args.columns (omega arith) (omega arith))))
    c.protocol_violation.ensures
