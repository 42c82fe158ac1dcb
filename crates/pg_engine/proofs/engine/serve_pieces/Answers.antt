use Rattle.std.proofs.Common.{◌≡◌, ◌≤◌, ◌<◌, ◌+◌, ◌-◌, ◌++◌, ◌∙◌, ℕ, true, false, min, refl, sym, ap, subst, arith, Ok, Err, [], inl, ⊎_elim, true≢false}
use Rattle.std.specs.Prelude.{◌==◌, if◌then◌else◌}
use Rattle.std.proofs.lemmas.Bool.{cases_lt}
use Rattle.std.proofs.lemmas.List.{append_cancel_left}
use Rattle.pg_client.proofs.Desks.{goes_on_none, goes_on_then}
use Rattle.conversation_table.specs.Questions.{questions_since}
use Rattle.conversation_runs.specs.Session.{HasFed, is_more}
use Rattle.pg_messages.specs.Frames.{IsUnfinished}
use Rattle.conversation_runs.specs.Steps.{IsServed, Stands, WasFed}
use Rattle.conversation_runs.specs.Streams.{HasRisen}
use Rattle.conversation_runs.proofs.Feeding.{cut_by_error}
use Rattle.conversation_runs.specs.declared.ends.Progress.{Progress}
use Rattle.pg_engine.specs.Serving.{TakesFrom, IsStoppedRunOfTaken, counts_of}
use Rattle.pg_engine.proofs.Serving.{run_of_taken, served_run, ended_run, takes_more, takes_none, served_none, short_none, none_asked, cut_run_of_taken, stopped_run_of_taken, went_by_error, caused_by, conversed, goes_to, counted_more, questions_over, gave_none, gave_more, gave_unread, risen_since, all_spent, no_end_turn, ends_with_input, ends_at_last, run_over_taken, run_over_input}
use Rattle.pg_engine.proofs.engine.serve_pieces.Goals as goal

pub turns-init : goal.turns-init
turns-init g c = record {
  taken = [];
  takes = takes_none (g.S.Source.left c.args.source.now);
  served = served_none (g.C.Conversation.told c.args.conversation.now).rules (g.C.Conversation.told c.args.conversation.now).state
      (g.C.Conversation.told c.args.conversation.now).rest (g.K.Sink.written c.args.sink.now) (g.D.CancelDesk.told c.args.desk.now).calls
      c.requires.rest;
  short = short_none ((g.C.Conversation.told c.args.conversation.now).rules.awaits (g.C.Conversation.told c.args.conversation.now).state)
      (g.C.Conversation.told c.args.conversation.now).rest c.requires.rest;
  opened = c.requires.open;
  unsent = c.requires.unsent;
  rules = refl;
  limit = refl;
  counted = λ fits. let none = none_asked (g.D.CancelDesk.told c.args.desk.now).calls in let fresh = c.requires.fresh in
      omega (arith, none, fresh);
  gave = gave_none (g.S.Source.left c.args.source.now) (g.S.Source.reads c.args.source.now);
  spent = let fresh = c.requires.fresh in omega (arith, fresh);
  read_faults = refl;
  write_faults = refl;
  registration = goes_on_none _;
  source = refl;
  sink = refl;
}

pub turns-preserved : goal.turns-preserved
turns-preserved g c =
    let i = c.turns.invariant in
    let first = g.C.Conversation.told c.args.conversation.now in
    let now = g.C.Conversation.told c.turns.conversation in
    let new = g.C.Conversation.told c.feed.new.self in
    let took = c.in-Ok-More.ensures.fed in
    let fed = conversed first now new (g.met.C.Conversation.lawful c.args.conversation.now) i.rules i.unsent
    i.taken c.front_of.result.now (g.K.Sink.written c.feed.new.sink) (g.D.CancelDesk.told c.feed.new.desk).calls (Ok c.in-Ok-More.field-0)
    i.served took in
    let piece = took.1 in
    let stands = subst (λ o. Stands first.rules.awaits fed.0 new.state took.0 o) c.in-Ok-More.field-0-is fed.2 in
    let kept = took.2 (ap Ok c.in-Ok-More.field-0-is) in
    let asked = questions_since (g.D.CancelDesk.told c.turns.desk).calls (g.D.CancelDesk.told c.feed.new.desk).calls in
    let spent_is : c.feed.new.turns.spent ≡ c.turns.turns.spent + 1 + asked = ap (λ t. t.spent) c.in-Ok-More.ensures.causes.turns
    ∙ ap (λ n. n + asked) c.if-not-spend.ensures.spent in
    let limit_is : c.feed.new.turns.limit ≡ c.turns.turns.limit = ap (λ t. t.limit) c.in-Ok-More.ensures.causes.turns
    ∙ c.if-not-spend.ensures.limit in
    let below : c.turns.turns.spent < c.turns.turns.limit = c.if-not-spend.ensures.left.0 refl in
    let below_limit : c.turns.turns.spent < c.args.turns.now.limit = let l = i.limit in omega arith in
    let over = questions_over (g.D.CancelDesk.told c.args.desk.now).calls (g.D.CancelDesk.told c.turns.desk).calls
    (g.D.CancelDesk.told c.feed.new.desk).calls i.served.called piece.1.called i.served.grown piece.1.grown in
    record {
      taken = i.taken ++ c.front_of.result.now;
      takes = subst (λ p. TakesFrom (g.S.Source.left c.args.source.now) (g.S.Source.left c.receive.new.self) (i.taken ++ p))
          (sym c.front_of.ensures)
          (takes_more (g.S.Source.left c.args.source.now) (g.S.Source.left c.turns.source) (g.S.Source.left c.receive.new.self)
          i.taken c.in-Ok.n c.receive.new.into i.takes c.in-Ok.ensures.bytes);
      served = goes_to first.rules first.state stands.0
          (subst (λ r. IsServed first.rules first.state (i.taken ++ c.front_of.result.now) r fed.0
          (g.K.Sink.written c.args.sink.now) (g.K.Sink.written c.feed.new.sink) [] []
          (g.D.CancelDesk.told c.args.desk.now).calls (g.D.CancelDesk.told c.feed.new.desk).calls) kept fed.1);
      short = subst (λ r. IsUnfinished (first.rules.awaits new.state) r) kept stands.1;
      opened = c.in-Ok-More.ensures.open ∙ ap (λ o. is_more (Ok o)) c.in-Ok-More.field-0-is;
      unsent = c.in-Ok-More.ensures.sent;
      rules = c.in-Ok-More.ensures.rules ∙ i.rules;
      limit = limit_is ∙ i.limit;
      counted = λ fits.
          let more = counted_more c.in-Ok.n (g.S.Source.reads c.turns.source) (g.S.Source.reads c.receive.new.self)
          (g.S.Source.reads c.args.source.now)
          (questions_since (g.D.CancelDesk.told c.args.desk.now).calls (g.D.CancelDesk.told c.turns.desk).calls)
          c.turns.turns.spent c.args.turns.now.limit c.in-Ok.ensures.counts c.if-n-eq0.false (i.counted fits) below_limit fits in
          omega (arith, more, over, spent_is);
      gave = gave_more (g.S.Source.left c.args.source.now) (g.S.Source.left c.turns.source) (g.S.Source.left c.receive.new.self)
          (g.S.Source.reads c.args.source.now) (g.S.Source.reads c.turns.source) (g.S.Source.reads c.receive.new.self)
          c.in-Ok.n c.receive.new.into i.gave c.in-Ok.ensures.bytes c.in-Ok.ensures.counts;
      spent = c.in-Ok-More.ensures.causes.bounded
          (let s = c.if-not-spend.ensures.spent in let l = c.if-not-spend.ensures.limit in omega (arith, s, l, below));
      read_faults = c.in-Ok.ensures.calm ∙ i.read_faults;
      write_faults = c.in-Ok-More.ensures.causes.cause.calm ∙ i.write_faults;
      registration = goes_on_then _ _ _ i.registration c.in-Ok-More.ensures.causes.registration;
      source = c.in-Ok.ensures.origin ∙ i.source;
      sink = c.in-Ok-More.ensures.causes.same ∙ i.sink;
    }

-- ---- counts and turns

not_fallen : (old new : ℕ) → new ≡ old → old ≤ new
not_fallen old new e = omega (arith, e)

fallen_not : (old mid new : ℕ) → mid ≡ old → mid ≤ new → old ≤ new
fallen_not old mid new e h = omega (arith, e, h)

none_left : (spent limit : ℕ) → (spent < limit → false ≡ true) → limit ≤ spent
none_left spent limit f = ⊎_elim (λ h. absurd (true≢false (sym (f h)))) (λ h. h) (cases_lt spent limit)

all_counted : (spent limit turns r asked first : ℕ) → limit ≤ spent → spent ≤ limit → limit ≡ turns → r + asked ≡ first + spent
    → r + asked ≡ first + turns
all_counted spent limit turns r asked first low high same e = omega (arith, low, high, same, e)

end_counted : (n r new_r asked first spent limit turns : ℕ) → new_r ≡ (if n == 0 then r else min (r + 1) 18446744073709551615) → n ≡ 0
    → r + asked ≡ first + spent → spent < limit → limit ≡ turns → new_r + asked + 1 ≤ first + turns
end_counted n r new_r asked first spent limit turns e z counted below same =
    let is : new_r ≡ r = e ∙ ap (λ k. if k == 0 then r else min (r + 1) 18446744073709551615) z in
    omega (arith, is, counted, below, same)

turns_go_down : (spent limit asked new_spent new_limit : ℕ) → spent < limit → new_spent ≡ spent + 1 + asked → new_limit ≡ limit
    → new_limit - new_spent < limit - spent
turns_go_down spent limit asked new_spent new_limit below s l = omega (arith, below, s, l)

pub turns-smaller : goal.turns-smaller
turns-smaller g c =
    let asked = questions_since (g.D.CancelDesk.told c.turns.desk).calls (g.D.CancelDesk.told c.feed.new.desk).calls in
    let spent_is : c.feed.new.turns.spent ≡ c.turns.turns.spent + 1 + asked = ap (λ t. t.spent) c.in-Ok-More.ensures.causes.turns
    ∙ ap (λ n. n + asked) c.if-not-spend.ensures.spent in
    let limit_is : c.feed.new.turns.limit ≡ c.turns.turns.limit = ap (λ t. t.limit) c.in-Ok-More.ensures.causes.turns
    ∙ c.if-not-spend.ensures.limit in
    turns_go_down c.turns.turns.spent c.turns.turns.limit asked c.feed.new.turns.spent c.feed.new.turns.limit
    (c.if-not-spend.ensures.left.0 refl) spent_is limit_is

-- ---- the turns are spent

pub returns-then-not-spend : goal.returns-then-not-spend
returns-then-not-spend g c =
    let i = c.turns.invariant in
    record {
      went = (
        i.served.called,
        i.served.grown,
        inl (run_of_taken (g.C.Conversation.told c.args.conversation.now).rules
            (g.C.Conversation.told c.args.conversation.now).state (g.S.Source.left c.args.source.now) (g.S.Source.left c.turns.source)
            i.takes i.served i.short),
      );
      cause = λ fits.
          all_counted c.turns.turns.spent c.turns.turns.limit c.args.turns.now.limit (g.S.Source.reads c.turns.source)
          (questions_since (g.D.CancelDesk.told c.args.desk.now).calls (g.D.CancelDesk.told c.turns.desk).calls)
          (g.S.Source.reads c.args.source.now)
          (none_left c.turns.turns.spent c.turns.turns.limit c.if-not-spend.ensures.left.1) i.spent i.limit (i.counted fits);
      last = tt;
      taken = tt;
      calm = tt;
      never_falls = record {
        read_faults = not_fallen _ _ i.read_faults;
        write_faults = not_fallen _ _ i.write_faults;
      };
      reads = i.gave;
      registration = i.registration;
      source = i.source;
      sink = i.sink;
    }

-- ---- a read failed

pub returns-in_default : goal.returns-in_default
returns-in_default g c =
    let i = c.turns.invariant in
    record {
      went = (
        i.served.called,
        i.served.grown,
        run_of_taken (g.C.Conversation.told c.args.conversation.now).rules (g.C.Conversation.told c.args.conversation.now).state
            (g.S.Source.left c.args.source.now) (g.S.Source.left c.receive.new.self)
            (subst (λ o. TakesFrom (g.S.Source.left c.args.source.now) o i.taken) (sym c.in_default.ensures.untouched) i.takes) i.served
            i.short,
      );
      cause = subst (λ n. HasRisen n (g.S.Source.faults c.receive.new.self)) i.read_faults c.in_default.ensures.failed;
      last = tt;
      taken = tt;
      calm = tt;
      never_falls = record {
        read_faults = fallen_not _ _ _ i.read_faults c.in_default.ensures.never_falls;
        write_faults = not_fallen _ _ i.write_faults;
      };
      reads = gave_unread (g.S.Source.left c.args.source.now) (g.S.Source.left c.turns.source) (g.S.Source.left c.receive.new.self)
          (g.S.Source.reads c.args.source.now) (g.S.Source.reads c.turns.source) (g.S.Source.reads c.receive.new.self)
          i.gave c.in_default.ensures.untouched c.in_default.ensures.counts;
      registration = i.registration;
      source = c.in_default.ensures.origin ∙ i.source;
      sink = i.sink;
    }

-- ---- the input has ended

pub returns-then-n-eq0 : goal.returns-then-n-eq0
returns-then-n-eq0 g c =
    let i = c.turns.invariant in
    record {
      went = (
        i.served.called,
        i.served.grown,
        ended_run (g.C.Conversation.told c.args.conversation.now).rules (g.C.Conversation.told c.args.conversation.now).state
            (g.S.Source.left c.args.source.now) (g.S.Source.left c.turns.source) (g.S.Source.left c.receive.new.self) c.in-Ok.n
            c.receive.new.into
            i.takes c.in-Ok.ensures.bytes c.if-n-eq0.true i.served i.short,
      );
      cause = λ fits.
          end_counted c.in-Ok.n (g.S.Source.reads c.turns.source) (g.S.Source.reads c.receive.new.self)
          (questions_since (g.D.CancelDesk.told c.args.desk.now).calls (g.D.CancelDesk.told c.turns.desk).calls)
          (g.S.Source.reads c.args.source.now) c.turns.turns.spent c.turns.turns.limit c.args.turns.now.limit c.in-Ok.ensures.counts
          c.if-n-eq0.true (i.counted fits) (c.if-not-spend.ensures.left.0 refl) i.limit;
      last =
          ends_with_input (g.C.Conversation.told c.args.conversation.now).rules (g.C.Conversation.told c.args.conversation.now).state
          (g.S.Source.left c.args.source.now)
          (g.S.Source.left c.turns.source) (g.S.Source.left c.receive.new.self) c.in-Ok.n c.receive.new.into i.takes c.in-Ok.ensures.bytes
          c.if-n-eq0.true i.served i.short;
      taken =
          run_over_input (g.C.Conversation.told c.args.conversation.now).rules (g.C.Conversation.told c.args.conversation.now).state
          (g.S.Source.left c.args.source.now) (g.S.Source.left c.turns.source) (g.S.Source.left c.receive.new.self) c.in-Ok.n
          c.receive.new.into i.takes c.in-Ok.ensures.bytes c.if-n-eq0.true i.served i.short;
      calm = record {
        read_faults = c.in-Ok.ensures.calm ∙ i.read_faults;
        write_faults = i.write_faults;
      };
      never_falls = record {
        read_faults = not_fallen _ _ (c.in-Ok.ensures.calm ∙ i.read_faults);
        write_faults = not_fallen _ _ i.write_faults;
      };
      reads = gave_more (g.S.Source.left c.args.source.now) (g.S.Source.left c.turns.source) (g.S.Source.left c.receive.new.self)
          (g.S.Source.reads c.args.source.now) (g.S.Source.reads c.turns.source) (g.S.Source.reads c.receive.new.self) c.in-Ok.n
          c.receive.new.into
          i.gave c.in-Ok.ensures.bytes c.in-Ok.ensures.counts;
      registration = i.registration;
      source = c.in-Ok.ensures.origin ∙ i.source;
      sink = i.sink;
    }

-- ---- the conversation has ended

pub returns-in-Ok-Ended : goal.returns-in-Ok-Ended
returns-in-Ok-Ended g c =
    let i = c.turns.invariant in
    let first = g.C.Conversation.told c.args.conversation.now in
    let now = g.C.Conversation.told c.turns.conversation in
    let new = g.C.Conversation.told c.feed.new.self in
    let took = c.in-Ok-Ended.ensures.fed in
    let fed = conversed first now new (g.met.C.Conversation.lawful c.args.conversation.now) i.rules i.unsent
    i.taken c.front_of.result.now (g.K.Sink.written c.feed.new.sink) (g.D.CancelDesk.told c.feed.new.desk).calls (Ok c.in-Ok-Ended.field-0)
    i.served took in
    let stands = subst (λ o. Stands first.rules.awaits fed.0 new.state took.0 o) c.in-Ok-Ended.field-0-is fed.2 in
    let takes = subst (λ p. TakesFrom (g.S.Source.left c.args.source.now) (g.S.Source.left c.receive.new.self) (i.taken ++ p))
    (sym c.front_of.ensures)
    (takes_more (g.S.Source.left c.args.source.now) (g.S.Source.left c.turns.source) (g.S.Source.left c.receive.new.self)
    i.taken c.in-Ok.n c.receive.new.into i.takes c.in-Ok.ensures.bytes) in
    record {
      went = (
        fed.1.called,
        fed.1.grown,
        served_run first.rules first.state (g.S.Source.left c.args.source.now) (g.S.Source.left c.receive.new.self)
            c.in-Ok-Ended.kind takes fed.1 stands.1,
      );
      cause = λ fits.
          let asked = questions_since (g.D.CancelDesk.told c.turns.desk).calls (g.D.CancelDesk.told c.feed.new.desk).calls in
          let below : c.turns.turns.spent < c.turns.turns.limit = c.if-not-spend.ensures.left.0 refl in
          let same_limit = i.limit in
          let below_limit : c.turns.turns.spent < c.args.turns.now.limit = omega (arith, below, same_limit) in
          let once = c.if-not-spend.ensures.spent in
          let kept_limit = c.if-not-spend.ensures.limit in
          let took = c.in-Ok-Ended.ensures.fed in
          let served = took.1 in
          let over = questions_over (g.D.CancelDesk.told c.args.desk.now).calls (g.D.CancelDesk.told c.turns.desk).calls
          (g.D.CancelDesk.told c.feed.new.desk).calls i.served.called served.1.called i.served.grown served.1.grown in
          let stands = subst (λ o. Stands (g.C.Conversation.told c.turns.conversation).rules.awaits served.0
          (g.C.Conversation.told c.feed.new.self).state took.0 o) c.in-Ok-Ended.field-0-is served.2 in
          let more = counted_more c.in-Ok.n (g.S.Source.reads c.turns.source) (g.S.Source.reads c.receive.new.self)
          (g.S.Source.reads c.args.source.now) (questions_since (g.D.CancelDesk.told c.args.desk.now).calls
          (g.D.CancelDesk.told c.turns.desk).calls) c.turns.turns.spent c.args.turns.now.limit c.in-Ok.ensures.counts c.if-n-eq0.false
          (i.counted fits) below_limit fits in
          let none = no_end_turn c.in-Ok-Ended.kind stands.0 in
          let spent_is = ap (λ t. t.spent) c.in-Ok-Ended.ensures.causes.turns in
          let limit_is = ap (λ t. t.limit) c.in-Ok-Ended.ensures.causes.turns in
          let within = c.in-Ok-Ended.ensures.causes.bounded (omega (arith, once, kept_limit, below)) in
          omega (arith, more, over, none, spent_is, limit_is, within, once, kept_limit, same_limit);
      last =
          ends_at_last (g.C.Conversation.told c.args.conversation.now).rules (g.C.Conversation.told c.args.conversation.now).state
          (g.S.Source.left c.args.source.now)
          (g.S.Source.left c.turns.source) (g.S.Source.left c.receive.new.self) c.in-Ok.n c.receive.new.into i.takes c.in-Ok.ensures.bytes
          c.if-n-eq0.false i.served i.short c.in-Ok-Ended.kind;
      taken =
          run_over_taken first.rules first.state (g.S.Source.left c.args.source.now) (g.S.Source.left c.receive.new.self)
          c.in-Ok-Ended.kind takes fed.1 (stands.1 []);
      calm = record {
        read_faults = c.in-Ok.ensures.calm ∙ i.read_faults;
        write_faults = c.in-Ok-Ended.ensures.causes.cause.calm ∙ i.write_faults;
      };
      never_falls = record {
        read_faults = not_fallen _ _ (c.in-Ok.ensures.calm ∙ i.read_faults);
        write_faults = not_fallen _ _ (c.in-Ok-Ended.ensures.causes.cause.calm ∙ i.write_faults);
      };
      reads = gave_more (g.S.Source.left c.args.source.now) (g.S.Source.left c.turns.source) (g.S.Source.left c.receive.new.self)
          (g.S.Source.reads c.args.source.now) (g.S.Source.reads c.turns.source) (g.S.Source.reads c.receive.new.self) c.in-Ok.n
          c.receive.new.into
          i.gave c.in-Ok.ensures.bytes c.in-Ok.ensures.counts;
      registration = goes_on_then _ _ _ i.registration c.in-Ok-Ended.ensures.causes.registration;
      source = c.in-Ok.ensures.origin ∙ i.source;
      sink = c.in-Ok-Ended.ensures.causes.same ∙ i.sink;
    }

-- ---- the conversation was given up

pub returns-in-Err : goal.returns-in-Err
returns-in-Err g c =
    let i = c.turns.invariant in
    record {
      went =
          let first = g.C.Conversation.told c.args.conversation.now in
          let now = g.C.Conversation.told c.turns.conversation in
          let new = g.C.Conversation.told c.feed.new.self in
          let took = c.in-Err.ensures.fed in
          let old_left = g.S.Source.left c.args.source.now in let left = g.S.Source.left c.receive.new.self in
          let written = g.K.Sink.written c.args.sink.now in let new_written = g.K.Sink.written c.feed.new.sink in
          let calls = (g.D.CancelDesk.told c.args.desk.now).calls in let new_calls = (g.D.CancelDesk.told c.feed.new.desk).calls in
          let fed = conversed first now new (g.met.C.Conversation.lawful c.args.conversation.now) i.rules i.unsent
          i.taken c.front_of.result.now (g.K.Sink.written c.feed.new.sink) (g.D.CancelDesk.told c.feed.new.desk).calls (Err c.in-Err.error)
          i.served took in
          let cut = cut_by_error first.rules _ _ new.state took.0 _ _ _ _ _ c.in-Err.error fed in
          let takes = subst (λ p. TakesFrom old_left left (i.taken ++ p)) (sym c.front_of.ensures)
          (takes_more old_left (g.S.Source.left c.turns.source) left i.taken c.in-Ok.n c.receive.new.into i.takes c.in-Ok.ensures.bytes) in (
            cut.made,
            cut.grown,
            went_by_error first.rules first.state c.in-Err.error old_left left _ _ _ (λ q. c.in-Err.ensures.causes.cause.no_read_fault (ap Err q))
                (cut_run_of_taken first.rules first.state old_left left takes cut)
                (λ q.
                let stopped = subst (λ e. WasFed first.rules first.state (i.taken ++ c.front_of.result.now) new.state took.0
                written new_written [] calls new_calls (Err e)) q fed in
                subst (λ k. IsStoppedRunOfTaken first.rules first.state old_left left written new_written k)
                (append_cancel_left calls stopped.made cut.made (sym stopped.grown ∙ cut.grown))
                (stopped_run_of_taken first.rules first.state old_left left takes stopped)),
          );
      cause =
          let asked = questions_since (g.D.CancelDesk.told c.turns.desk).calls (g.D.CancelDesk.told c.feed.new.desk).calls in
          let below : c.turns.turns.spent < c.turns.turns.limit = c.if-not-spend.ensures.left.0 refl in
          let same_limit = i.limit in
          let below_limit : c.turns.turns.spent < c.args.turns.now.limit = omega (arith, below, same_limit) in
          let once = c.if-not-spend.ensures.spent in
          let kept_limit = c.if-not-spend.ensures.limit in
          let off = cut_by_error (g.C.Conversation.told c.turns.conversation).rules _ _ (g.C.Conversation.told c.feed.new.self).state
          c.in-Err.ensures.fed.0 _ _ _ _ _
          c.in-Err.error c.in-Err.ensures.fed.1 in
          let over = questions_over (g.D.CancelDesk.told c.args.desk.now).calls (g.D.CancelDesk.told c.turns.desk).calls
          (g.D.CancelDesk.told c.feed.new.desk).calls i.served.called off.made i.served.grown off.grown in
          caused_by c.in-Err.error c.args.turns.now.limit
          (questions_since (g.D.CancelDesk.told c.args.desk.now).calls (g.D.CancelDesk.told c.feed.new.desk).calls)
          (counts_of g.S.Source.reads g.S.Source.faults g.K.Sink.faults c.args.source.now c.args.sink.now)
          (counts_of g.S.Source.reads g.S.Source.faults g.K.Sink.faults c.receive.new.self c.feed.new.sink)
          (λ q. c.in-Err.ensures.causes.cause.no_read_fault (ap Err q))
          (λ q. risen_since (g.K.Sink.faults c.args.sink.now) (g.K.Sink.faults c.turns.sink) (g.K.Sink.faults c.feed.new.sink)
          (let same = i.write_faults in omega (arith, same)) c.in-Err.ensures.causes.cause.never_falls
          (c.in-Err.ensures.causes.cause.write_fault (ap Err q)))
          (λ q fits.
          let more = counted_more c.in-Ok.n (g.S.Source.reads c.turns.source) (g.S.Source.reads c.receive.new.self)
          (g.S.Source.reads c.args.source.now) (questions_since (g.D.CancelDesk.told c.args.desk.now).calls
          (g.D.CancelDesk.told c.turns.desk).calls) c.turns.turns.spent c.args.turns.now.limit c.in-Ok.ensures.counts c.if-n-eq0.false
          (i.counted fits) below_limit fits in
          let fed = subst (λ e. HasFed {A = Progress} c.spend.new.self c.feed.new.turns asked (Err e)) q c.in-Err.ensures.causes.turns in
          let all = all_spent c.spend.new.self c.feed.new.turns asked fed c.in-Err.ensures.causes.bounded (omega (arith, once, kept_limit, below)) in
          omega (arith, more, over, all, once, kept_limit, same_limit));
      last = tt;
      taken = tt;
      calm = tt;
      never_falls = record {
        read_faults = not_fallen _ _ (c.in-Ok.ensures.calm ∙ i.read_faults);
        write_faults = fallen_not _ _ _ i.write_faults c.in-Err.ensures.causes.cause.never_falls;
      };
      reads = gave_more (g.S.Source.left c.args.source.now) (g.S.Source.left c.turns.source) (g.S.Source.left c.receive.new.self)
          (g.S.Source.reads c.args.source.now) (g.S.Source.reads c.turns.source) (g.S.Source.reads c.receive.new.self) c.in-Ok.n
          c.receive.new.into
          i.gave c.in-Ok.ensures.bytes c.in-Ok.ensures.counts;
      registration = goes_on_then _ _ _ i.registration c.in-Err.ensures.causes.registration;
      source = c.in-Ok.ensures.origin ∙ i.source;
      sink = c.in-Err.ensures.causes.same ∙ i.sink;
    }
