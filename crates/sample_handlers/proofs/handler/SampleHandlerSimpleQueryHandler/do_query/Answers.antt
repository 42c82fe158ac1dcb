use Rattle.std.proofs.Common.{◌≡◌, ℕ, true, false, List, [], ◌∷◌, Option, Some, None, Result, IfOk, codes, bytes_eq, refl, ap, sym, subst, ◌∙◌}
use Rattle.pg_results.specs.declared.client.ClientInfo.{ClientInfo}
use Rattle.pg_results.specs.Responses.{ToldResponse}
use Rattle.conversation_table.specs.Good.{AreSendable}
use Rattle.conversation_table.specs.Handlers.{ToldQuery}
use Rattle.sample_handlers.specs.declared.meaning.SampleStatement.{SampleStatement}
use Rattle.sample_handlers.specs.declared.meaning.SampleStatement.TheVariants as statement
use Rattle.sample_handlers.specs.Meanings.{meaning_of, trimmed}
use Rattle.sample_handlers.specs.Told.{alone_or_not_known, listed, simple_of, told_simple, version_statement}
use Rattle.sample_handlers.proofs.handler.SampleHandlerSimpleQueryHandler.do_query.Goals as goal

-- what a text is told
module _ (client : ClientInfo) (text : List ℕ) where
  first_list : bytes_eq text (codes "pair; done") ≡ true
      → listed 0 (statement.Pair ∷ statement.Done ∷ []) ≡ simple_of client text
  first_list a = rw a refl

  second_list : bytes_eq text (codes "pair; done") ≡ false → bytes_eq text (codes "done; broken; pair") ≡ true
      → listed 0 (statement.Done ∷ statement.Broken ∷ statement.Pair ∷ []) ≡ simple_of client text
  second_list a b = rw (a, b) refl

  version : bytes_eq text (codes "pair; done") ≡ false → bytes_eq text (codes "done; broken; pair") ≡ false
      → bytes_eq text (codes "version") ≡ true → (s : SampleStatement) → s ≡ version_statement client.protocol
      → listed 0 (s ∷ []) ≡ simple_of client text
  version a b d s e = rw (a, b, d, e) refl

  alone : bytes_eq text (codes "pair; done") ≡ false → bytes_eq text (codes "done; broken; pair") ≡ false
      → bytes_eq text (codes "version") ≡ false → (means : Option SampleStatement) → means ≡ meaning_of text
      → alone_or_not_known means ≡ simple_of client text
  alone a b d means e = rw (a, b, d) (ap alone_or_not_known e)

-- a query that was begun, and tells what its text is told
module _ {Q E : Type 0} (r : Result Q E) (client : ClientInfo) (query text : List ℕ) (t : ToldQuery (List ToldResponse)) where
  told_so : (tells : Q → ToldQuery (List ToldResponse)) → text ≡ trimmed query → t ≡ simple_of client text
      → IfOk r (λ q. tells q ≡ t) → IfOk r (λ q. tells q ≡ told_simple client query)
  told_so tells e is h = subst (λ u. IfOk r (λ q. tells q ≡ u)) (is ∙ ap (simple_of client) e) h

  sendable_so : text ≡ trimmed query → t ≡ simple_of client text
      → IfOk r (λ q. AreSendable t.outcome) → IfOk r (λ q. AreSendable (told_simple client query).outcome)
  sendable_so e is h = subst (λ u. IfOk r (λ q. AreSendable u.outcome)) (is ∙ ap (simple_of client) e) h

pub returns-then-eq : goal.returns-then-eq
returns-then-eq c =
    let client = c.args.client.now in let query = c.args.query.now in let text = c.trimmed-text.result.now in
    let is = first_list client text (sym c.eq.ensures ∙ c.if-eq.true) in
    let told = listed 0 (statement.Pair ∷ statement.Done ∷ []) in
    record {
      unspent = c.listed.ensures.unspent;
      told = told_so c.listed.result client query text told _ c.trimmed-text.ensures is c.listed.ensures.told;
      sendable = sendable_so c.listed.result client query text told c.trimmed-text.ensures is c.listed.ensures.sendable;
    }

pub returns-then-eq-2 : goal.returns-then-eq-2
returns-then-eq-2 c =
    let client = c.args.client.now in let query = c.args.query.now in let text = c.trimmed-text.result.now in
    let is = second_list client text (sym c.eq.ensures ∙ c.if-eq.false) (sym c.eq-else-eq.ensures ∙ c.if-eq-2.true) in
    let told = listed 0 (statement.Done ∷ statement.Broken ∷ statement.Pair ∷ []) in
    record {
      unspent = c.listed-then-eq-2.ensures.unspent;
      told = told_so c.listed-then-eq-2.result client query text told _ c.trimmed-text.ensures is c.listed-then-eq-2.ensures.told;
      sendable = sendable_so c.listed-then-eq-2.result client query text told c.trimmed-text.ensures is
          c.listed-then-eq-2.ensures.sendable;
    }

pub returns-then-eq-3 : goal.returns-then-eq-3
returns-then-eq-3 c =
    let client = c.args.client.now in let query = c.args.query.now in let text = c.trimmed-text.result.now in
    let s = c.version_statement.result in
    let is = version client text (sym c.eq.ensures ∙ c.if-eq.false) (sym c.eq-else-eq.ensures ∙ c.if-eq-2.false)
    (sym c.eq-else-eq-2.ensures ∙ c.if-eq-3.true) s c.version_statement.ensures in
    let told = listed 0 (s ∷ []) in
    record {
      unspent = c.listed-then-eq-3.ensures.unspent;
      told = told_so c.listed-then-eq-3.result client query text told _ c.trimmed-text.ensures is c.listed-then-eq-3.ensures.told;
      sendable = sendable_so c.listed-then-eq-3.result client query text told c.trimmed-text.ensures is
          c.listed-then-eq-3.ensures.sendable;
    }

pub returns-in-Some : goal.returns-in-Some
returns-in-Some c =
    let client = c.args.client.now in let query = c.args.query.now in let text = c.trimmed-text.result.now in
    let s = c.in-Some.statement in let polls = c.polls_of.result in
    let is = ap (λ (n : ℕ). listed n (s ∷ [])) c.polls_of.ensures ∙ alone client text (sym c.eq.ensures ∙ c.if-eq.false)
    (sym c.eq-else-eq.ensures ∙ c.if-eq-2.false) (sym c.eq-else-eq-2.ensures ∙ c.if-eq-3.false) (Some s) c.in-Some.ensures in
    let told = listed polls (s ∷ []) in
    record {
      unspent = c.listed-in-Some.ensures.unspent;
      told = told_so c.listed-in-Some.result client query text told _ c.trimmed-text.ensures is c.listed-in-Some.ensures.told;
      sendable = sendable_so c.listed-in-Some.result client query text told c.trimmed-text.ensures is
          c.listed-in-Some.ensures.sendable;
    }

pub returns-in-None : goal.returns-in-None
returns-in-None c =
    let client = c.args.client.now in let query = c.args.query.now in let text = c.trimmed-text.result.now in
    let is = alone client text (sym c.eq.ensures ∙ c.if-eq.false) (sym c.eq-else-eq.ensures ∙ c.if-eq-2.false)
    (sym c.eq-else-eq-2.ensures ∙ c.if-eq-3.false) None c.in-None.ensures in
    let told = alone_or_not_known None in
    record {
      unspent = c.refused.ensures.unspent;
      told = told_so c.refused.result client query text told _ c.trimmed-text.ensures is c.refused.ensures.told;
      sendable = sendable_so c.refused.result client query text told c.trimmed-text.ensures is c.refused.ensures.sendable;
    }
