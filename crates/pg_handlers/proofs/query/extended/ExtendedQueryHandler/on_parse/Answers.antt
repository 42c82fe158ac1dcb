use Rattle.std.proofs.Common.{◌≡◌, ◌++◌, ◌∙◌, ◌⊎◌, ℕ, List, IfSome, Option, Result, Ok, Err, inl, inr, refl, sym, ap, subst}
use Rattle.std.specs.Prelude.{OnOk, IfErr}
use Rattle.std.proofs.lemmas.List.{append-nil}
use Rattle.std.specs.Arc.{arc_value}
use Rattle.pg_messages.specs.declared.extendedquery.Parse.{Parse}
use Rattle.pg_messages.specs.Replies.{replies_bytes}
use Rattle.pg_results.specs.declared.error.PgWireError.{PgWireError}
use Rattle.pg_results.specs.declared.error.PgWireError.TheVariants as wire
use Rattle.pg_results.specs.declared.stmt.StoredStatement.{StoredStatement}
use Rattle.pg_results.specs.Rows.{IsTellable}
use Rattle.pg_results.specs.Statements.{prepared}
use Rattle.pg_results.specs.Told.{IsOutcome, ParserTold}
use Rattle.pg_client.specs.Effect.{Done, Effect, Failed, IsEffect, IsRefusedEffect, says}
use Rattle.conversation_table.specs.ExtendedRows.{entry_of, on_parse, parsed, parse_complete}
use Rattle.conversation_table.specs.Handlers.{ExtendedTold}
use Rattle.conversation_table.specs.Good.{IsGoodState}
use Rattle.pg_client.specs.State.{State, state_of, with_statement}
use Rattle.pg_client.proofs.Before.{state_before}
use Rattle.conversation_table.proofs.GoodStores.{good_with_statement, put_or_kept}
use Rattle.conversation_table.proofs.Parsing.{parsed_is_good, parsed_named}
use Rattle.pg_handlers.proofs.query.extended.ExtendedQueryHandler.on_parse.Goals as goal

-- the only error is want of memory
wanting : {A : Type 0} (P : PgWireError → Type 0) (r : Result A PgWireError) → IfErr r (λ e. e ≡ wire.NoMemory)
    → IfErr r (λ e. (e ≡ wire.NoMemory) ⊎ P e)
wanting P (Ok x) none = tt
wanting P (Err e) none = inl none

module _ {S : Type 0} (h : ExtendedTold S) (s : State S) (m : Parse) (there : ParserTold S) (same : there ≡ h.parser) where
  -- what the parser found is stored
  parses : (found : Option (StoredStatement S)) → IsOutcome (prepared there s.info m) (Ok found)
      → on_parse h s m ≡ says parse_complete (with_statement s m.name (entry_of found))
  parses found (inl e) = ap (λ p. parsed s m (prepared p s.info m)) (sym same) ∙ ap (parsed s m) (sym e)
  parses found (inr none) = cc

  stored_ok : {A : Type 0} (found : Option (StoredStatement S)) → IsOutcome (prepared there s.info m) (Ok found) → (name : List ℕ)
      → name ≡ m.name → (t : State S) (out new_out : List ℕ) (r : Result A PgWireError)
      → OnOk r (t ≡ with_statement s name (entry_of found)) → OnOk r (new_out ≡ out ++ replies_bytes parse_complete)
      → OnOk r (IsEffect (on_parse h s m) out new_out (Done t))
  stored_ok found outcome name named t out new_out (Ok x) put replied = rw (parses found outcome) (record {
    replied = replied;
    came = ap Done (ap (λ n. with_statement s n (entry_of found)) (sym named) ∙ sym put);
  })
  stored_ok found outcome name named t out new_out (Err e) put replied = tt

  -- an error of the parser is told
  parse_refused : (e : PgWireError) → IsOutcome (prepared there s.info m) (Err e) → (out : List ℕ)
      → IsRefusedEffect (on_parse h s m) out out s e
  parse_refused e (inl is) out =
      let told : parsed s m (Err e) ≡ on_parse h s m = ap (parsed s m) is ∙ ap (λ p. parsed s m (prepared p s.info m)) same in
      inr (subst (λ (effect : Effect S). IsEffect effect out out (Failed s e)) told (record {
        replied = sym (append-nil out);
        came = refl;
      }))
  parse_refused e (inr none) out = let no : e ≡ wire.NoMemory = cc in inl no

pub returns-in-Ok-found-clause-good : goal.returns-in-Ok-found-clause-good
returns-in-Ok-found-clause-good g c =
    let parser = (g.Self.ExtendedQueryHandler.told c.args.self.now).parser in
    let s = state_of g.St.PortalStore.maps c.args.client.now in
    let there = g.Self.QueryParser.QueryParser.told (arc_value c.in-Ok.parser) in
    let same : there ≡ parser = c.in-Ok.ensures in
    let found = c.in-Ok-found.found in
    put_or_kept c.store_parsed.result (IsGoodState parser) s (state_of g.St.PortalStore.maps c.store_parsed.new.client) _
    c.store_parsed.ensures.ok
    (state_before g.St.PortalStore.maps c.args.client.now c.store_parsed.new.client c.store_parsed.result c.store_parsed.ensures.kept)
    (good_with_statement parser s c.name_of-name.result (entry_of found)
    (parsed_is_good parser there c.args.client.now.info c.args.message found same c.requires.given.1.carries.2.count
    c.in-Ok-found.ensures.outcome c.in-Ok-found.ensures.given) c.requires.good) c.requires.good

pub store_parsed-requires : goal.store_parsed-requires
store_parsed-requires g c =
    subst (λ name. IfSome c.in-Ok-found.found (λ statement. statement.id ≡ name)) (sym c.name_of-name.ensures)
    (parsed_named (g.Self.QueryParser.QueryParser.told (arc_value c.in-Ok.parser)) c.args.client.now.info c.args.message
    c.in-Ok-found.found c.in-Ok-found.ensures.outcome)

pub returns-in_default : goal.returns-in_default
returns-in_default g c = rw c.out_of_memory.ensures (record {
  ok = tt;
  refused = inl refl;
  answerable = inl refl;
  kept = record { state = refl; waiting = refl };
  good = c.requires.good;
})

pub returns-in-Ok-found-clause-ok : goal.returns-in-Ok-found-clause-ok
returns-in-Ok-found-clause-ok g c =
    let maps = g.St.PortalStore.maps in let r = c.store_parsed in
    stored_ok (g.Self.ExtendedQueryHandler.told c.args.self.now) (state_of maps c.args.client.now) c.args.message
    (g.Self.QueryParser.QueryParser.told (arc_value c.in-Ok.parser)) c.in-Ok.ensures c.in-Ok-found.found c.in-Ok-found.ensures.outcome
    c.name_of-name.result c.name_of-name.ensures (state_of maps r.new.client) c.args.client.now.outbox r.new.client.outbox r.result
    r.ensures.ok r.ensures.replied

pub returns-in-Ok-found-clause-refused : goal.returns-in-Ok-found-clause-refused
returns-in-Ok-found-clause-refused g c =
    let maps = g.St.PortalStore.maps in let r = c.store_parsed in
    wanting (λ e. IsEffect (on_parse (g.Self.ExtendedQueryHandler.told c.args.self.now) (state_of maps c.args.client.now) c.args.message)
    c.args.client.now.outbox r.new.client.outbox (Failed (state_of maps r.new.client) e)) r.result r.ensures.refused

pub returns-in-Ok-found-clause-answerable : goal.returns-in-Ok-found-clause-answerable
returns-in-Ok-found-clause-answerable g c = wanting IsTellable c.store_parsed.result c.store_parsed.ensures.refused

pub returns-in-Ok-found-clause-kept : goal.returns-in-Ok-found-clause-kept
returns-in-Ok-found-clause-kept g c = c.store_parsed.ensures.kept

pub returns-in-Err : goal.returns-in-Err
returns-in-Err g c =
    let s = state_of g.St.PortalStore.maps c.args.client.now in
    record {
      ok = tt;
      refused = parse_refused (g.Self.ExtendedQueryHandler.told c.args.self.now) s c.args.message
          (g.Self.QueryParser.QueryParser.told (arc_value c.in-Ok.parser)) c.in-Ok.ensures c.in-Err.error c.in-Err.ensures.outcome
          c.args.client.now.outbox;
      answerable = c.in-Err.ensures.answerable;
      kept = record { state = refl; waiting = refl };
      good = c.requires.good;
    }

pub parse_by-found-requires-clause-short_metadata : goal.parse_by-found-requires-clause-short_metadata
parse_by-found-requires-clause-short_metadata g c = c.requires.good.metadata
