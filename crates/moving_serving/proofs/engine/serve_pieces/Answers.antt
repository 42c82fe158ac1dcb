use Rattle.std.proofs.Common.{◌≡◌, ◌≤◌, ◌<◌, ◌+◌, ◌-◌, ◌++◌, ◌∙◌, ℕ, true, false, min, refl, sym, ap, subst, arith, Ok, Err, [], inl, ⊎_elim, true≢false, Some}
use Rattle.std.specs.Prelude.{◌==◌, if◌then◌else◌}
use Rattle.std.proofs.lemmas.Bool.{cases_lt}
use Rattle.std.proofs.lemmas.List.{append_cancel_left}
use Rattle.pg_client.proofs.Desks.{goes_on_none, goes_on_then}
use Rattle.conversation_table.specs.Questions.{questions_since}
use Rattle.conversation_table.specs.Table.{awaits}
use Rattle.conversation_runs.specs.Session.{HasFed, is_more}
use Rattle.conversation_runs.specs.Steps.{Stands, WasFed}
use Rattle.conversation_runs.specs.Streams.{HasRisen}
use Rattle.conversation_runs.proofs.Feeding.{cut_by_error}
use Rattle.conversation_runs.specs.declared.ends.Progress.{Progress}
use Rattle.pg_engine.specs.Serving.{TakesFrom, IsStoppedRunOfTaken, counts_of}
use Rattle.pg_engine.proofs.Serving.{run_of_taken, served_run, ended_run, takes_more, takes_none, short_none, none_asked, cut_run_of_taken, stopped_run_of_taken, went_by_error, caused_by, counted_more, questions_over, gave_none, gave_more, gave_unread, risen_since, all_spent, no_end_turn, ends_with_input, ends_at_last, run_over_taken, run_over_input}
use Rattle.moving_runs.specs.Sheets.{awaits_ahead, sheet_rules}
use Rattle.moving_runs.specs.Steps.{IsMetServed, WasMetFed, ahead}
use Rattle.moving_runs.proofs.Joining.{met_so_far}
use Rattle.moving_runs.proofs.Served.{met_in, none_served, piece_fed, served_before, served_on, short_of}
use Rattle.moving_serving.proofs.Whole.{all_taken, met_as, none_given, takes_at_end, whole_served, whole_fed}
use Rattle.moving_serving.proofs.engine.serve_pieces.Goals as goal

pub turns-init : goal.turns-init
turns-init g c =
    let first = g.C.MovingConversation.told c.args.conversation.now in
    let written = g.K.Sink.written c.args.sink.now in
    let calls = (g.D.CancelDesk.told c.args.desk.now).calls in
    record {
      taken = [];
      takes = takes_none (g.S.Source.left c.args.source.now);
      served = subst (λ r. IsMetServed g.C.MovingConversation.meets first.world first.world first.state first.state [] r written written [] []
          calls calls) (sym c.requires.rest) (none_served g.C.MovingConversation.meets first.world first.state [] written [] calls);
      short = short_none (awaits first.state) (g.C.MovingConversation.rest c.args.conversation.now) c.requires.rest;
      opened = c.requires.open;
      unsent = c.requires.unsent;
      limit = refl;
      counted = λ fits. let none = none_asked (g.D.CancelDesk.told c.args.desk.now).calls in let fresh = c.requires.fresh in
          omega (arith, none, fresh);
      gave = gave_none (g.S.Source.left c.args.source.now) (g.S.Source.reads c.args.source.now);
      spent = let fresh = c.requires.fresh in omega (arith, fresh);
      read_faults = refl;
      write_faults = refl;
      registration = goes_on_none _;
      source = refl;
      sink = refl;
    }

pub turns-preserved : goal.turns-preserved
turns-preserved g c =
    let i = c.turns.invariant in
    let meets = g.C.MovingConversation.meets in
    let first = g.C.MovingConversation.told c.args.conversation.now in
    let now = g.C.MovingConversation.told c.turns.conversation in
    let new = g.C.MovingConversation.told c.feed.new.self in
    let held = g.C.MovingConversation.rest c.turns.conversation in
    let rest = g.C.MovingConversation.rest c.feed.new.self in
    let piece = c.front_of.result.now in
    let a = g.K.Sink.written c.args.sink.now in
    let b = g.K.Sink.written c.turns.sink in
    let d = g.K.Sink.written c.feed.new.sink in
    let j = (g.D.CancelDesk.told c.args.desk.now).calls in
    let k = (g.D.CancelDesk.told c.turns.desk).calls in
    let l = (g.D.CancelDesk.told c.feed.new.desk).calls in
    let took = subst (λ o. WasMetFed meets now.world new.world now.state new.state (held ++ piece) rest b d o k l (Ok c.in-Ok-More.field-0))
    i.unsent c.in-Ok-More.ensures.fed in
    let fed = subst (λ o. WasMetFed meets first.world new.world first.state new.state (i.taken ++ piece) rest a d [] j l (Ok o))
    c.in-Ok-More.field-0-is
    (piece_fed meets first.world now.world new.world first.state now.state new.state i.taken held piece rest a b d [] [] j k l i.served
    (Ok c.in-Ok-More.field-0) took) in
    let asked = questions_since k l in
    let spent_is : c.feed.new.turns.spent ≡ c.turns.turns.spent + 1 + asked = ap (λ t. t.spent) c.in-Ok-More.ensures.causes.turns
    ∙ ap (λ n. n + asked) c.if-not-spend.ensures.spent in
    let limit_is : c.feed.new.turns.limit ≡ c.turns.turns.limit = ap (λ t. t.limit) c.in-Ok-More.ensures.causes.turns
    ∙ c.if-not-spend.ensures.limit in
    let below : c.turns.turns.spent < c.turns.turns.limit = c.if-not-spend.ensures.left.0 refl in
    let below_limit : c.turns.turns.spent < c.args.turns.now.limit = let l = i.limit in omega arith in
    let over = questions_over j k l i.served.made took.made i.served.grown took.grown in
    record {
      taken = i.taken ++ piece;
      takes = subst (λ p. TakesFrom (g.S.Source.left c.args.source.now) (g.S.Source.left c.receive.new.self) (i.taken ++ p))
          (sym c.front_of.ensures)
          (takes_more (g.S.Source.left c.args.source.now) (g.S.Source.left c.turns.source) (g.S.Source.left c.receive.new.self)
          i.taken c.in-Ok.n c.receive.new.into i.takes c.in-Ok.ensures.bytes);
      served = served_on meets first.world new.world first.state new.state (i.taken ++ piece) rest a d [] j l fed;
      short = short_of meets first.world new.world first.state new.state (i.taken ++ piece) rest a d [] j l fed;
      opened = c.in-Ok-More.ensures.open ∙ ap (λ o. is_more (Ok o)) c.in-Ok-More.field-0-is;
      unsent = c.in-Ok-More.ensures.sent;
      limit = limit_is ∙ i.limit;
      counted = λ fits.
          let more = counted_more c.in-Ok.n (g.S.Source.reads c.turns.source) (g.S.Source.reads c.receive.new.self)
          (g.S.Source.reads c.args.source.now)
          (questions_since (g.D.CancelDesk.told c.args.desk.now).calls (g.D.CancelDesk.told c.turns.desk).calls)
          c.turns.turns.spent c.args.turns.now.limit c.in-Ok.ensures.counts c.if-n-eq0.false (i.counted fits) below_limit fits in
          omega (arith, more, over, spent_is);
      gave = gave_more (g.S.Source.left c.args.source.now) (g.S.Source.left c.turns.source) (g.S.Source.left c.receive.new.self)
          (g.S.Source.reads c.args.source.now) (g.S.Source.reads c.turns.source) (g.S.Source.reads c.receive.new.self)
          c.in-Ok.n c.receive.new.into i.gave c.in-Ok.ensures.bytes c.in-Ok.ensures.counts;
      spent = c.in-Ok-More.ensures.causes.bounded
          (let s = c.if-not-spend.ensures.spent in let l = c.if-not-spend.ensures.limit in omega (arith, s, l, below));
      read_faults = c.in-Ok.ensures.calm ∙ i.read_faults;
      write_faults = c.in-Ok-More.ensures.causes.cause.calm ∙ i.write_faults;
      registration = goes_on_then _ _ _ i.registration c.in-Ok-More.ensures.causes.registration;
      source = c.in-Ok.ensures.origin ∙ i.source;
      sink = c.in-Ok-More.ensures.causes.same ∙ i.sink;
    }

-- ---- counts and turns

not_fallen : (old new : ℕ) → new ≡ old → old ≤ new
not_fallen old new e = omega (arith, e)

fallen_not : (old mid new : ℕ) → mid ≡ old → mid ≤ new → old ≤ new
fallen_not old mid new e h = omega (arith, e, h)

none_left : (spent limit : ℕ) → (spent < limit → false ≡ true) → limit ≤ spent
none_left spent limit f = ⊎_elim (λ h. absurd (true≢false (sym (f h)))) (λ h. h) (cases_lt spent limit)

all_counted : (spent limit turns r asked first : ℕ) → limit ≤ spent → spent ≤ limit → limit ≡ turns → r + asked ≡ first + spent
    → r + asked ≡ first + turns
all_counted spent limit turns r asked first low high same e = omega (arith, low, high, same, e)

end_counted : (n r new_r asked first spent limit turns : ℕ) → new_r ≡ (if n == 0 then r else min (r + 1) 18446744073709551615) → n ≡ 0
    → r + asked ≡ first + spent → spent < limit → limit ≡ turns → new_r + asked + 1 ≤ first + turns
end_counted n r new_r asked first spent limit turns e z counted below same =
    let is : new_r ≡ r = e ∙ ap (λ k. if k == 0 then r else min (r + 1) 18446744073709551615) z in
    omega (arith, is, counted, below, same)

turns_go_down : (spent limit asked new_spent new_limit : ℕ) → spent < limit → new_spent ≡ spent + 1 + asked → new_limit ≡ limit
    → new_limit - new_spent < limit - spent
turns_go_down spent limit asked new_spent new_limit below s l = omega (arith, below, s, l)

pub turns-smaller : goal.turns-smaller
turns-smaller g c =
    let asked = questions_since (g.D.CancelDesk.told c.turns.desk).calls (g.D.CancelDesk.told c.feed.new.desk).calls in
    let spent_is : c.feed.new.turns.spent ≡ c.turns.turns.spent + 1 + asked = ap (λ t. t.spent) c.in-Ok-More.ensures.causes.turns
    ∙ ap (λ n. n + asked) c.if-not-spend.ensures.spent in
    let limit_is : c.feed.new.turns.limit ≡ c.turns.turns.limit = ap (λ t. t.limit) c.in-Ok-More.ensures.causes.turns
    ∙ c.if-not-spend.ensures.limit in
    turns_go_down c.turns.turns.spent c.turns.turns.limit asked c.feed.new.turns.spent c.feed.new.turns.limit
    (c.if-not-spend.ensures.left.0 refl) spent_is limit_is

-- ---- the turns are spent

pub returns-then-not-spend : goal.returns-then-not-spend
returns-then-not-spend g c =
    let i = c.turns.invariant in
    let meets = g.C.MovingConversation.meets in
    let first = g.C.MovingConversation.told c.args.conversation.now in
    let so_far = whole_served meets i.served in
    let at = ahead i.served.sheets first.state in
    record {
      sheets = i.served.sheets;
      taken = i.taken;
      calls = so_far.called;
      takes = i.takes;
      grown = so_far.grown;
      met = met_as meets _ _ _ _ (met_so_far meets i.served.met) i.served.grown so_far.grown;
      answered = inl (run_of_taken sheet_rules at (Some i.taken) (Some []) (all_taken i.taken) so_far i.short);
      serves = record {
        went = (
          so_far.called,
          so_far.grown,
          inl (run_of_taken sheet_rules at (g.S.Source.left c.args.source.now) (g.S.Source.left c.turns.source) i.takes so_far i.short),
        );
        cause = λ fits.
            all_counted c.turns.turns.spent c.turns.turns.limit c.args.turns.now.limit (g.S.Source.reads c.turns.source)
            (questions_since (g.D.CancelDesk.told c.args.desk.now).calls (g.D.CancelDesk.told c.turns.desk).calls)
            (g.S.Source.reads c.args.source.now)
            (none_left c.turns.turns.spent c.turns.turns.limit c.if-not-spend.ensures.left.1) i.spent i.limit (i.counted fits);
        last = tt;
        taken = tt;
        calm = tt;
        never_falls = record {
          read_faults = not_fallen _ _ i.read_faults;
          write_faults = not_fallen _ _ i.write_faults;
        };
        reads = i.gave;
        registration = i.registration;
        source = i.source;
        sink = i.sink;
      };
    }

-- ---- a read failed

pub returns-in_default : goal.returns-in_default
returns-in_default g c =
    let i = c.turns.invariant in
    let meets = g.C.MovingConversation.meets in
    let first = g.C.MovingConversation.told c.args.conversation.now in
    let so_far = whole_served meets i.served in
    let at = ahead i.served.sheets first.state in
    let takes = subst (λ o. TakesFrom (g.S.Source.left c.args.source.now) o i.taken) (sym c.in_default.ensures.untouched) i.takes in
    record {
      sheets = i.served.sheets;
      taken = i.taken;
      calls = so_far.called;
      takes = takes;
      grown = so_far.grown;
      met = met_as meets _ _ _ _ (met_so_far meets i.served.met) i.served.grown so_far.grown;
      answered = run_of_taken sheet_rules at (Some i.taken) (Some []) (all_taken i.taken) so_far i.short;
      serves = record {
        went = (
          so_far.called,
          so_far.grown,
          run_of_taken sheet_rules at (g.S.Source.left c.args.source.now) (g.S.Source.left c.receive.new.self) takes so_far i.short,
        );
        cause = subst (λ n. HasRisen n (g.S.Source.faults c.receive.new.self)) i.read_faults c.in_default.ensures.failed;
        last = tt;
        taken = tt;
        calm = tt;
        never_falls = record {
          read_faults = fallen_not _ _ _ i.read_faults c.in_default.ensures.never_falls;
          write_faults = not_fallen _ _ i.write_faults;
        };
        reads = gave_unread (g.S.Source.left c.args.source.now) (g.S.Source.left c.turns.source) (g.S.Source.left c.receive.new.self)
            (g.S.Source.reads c.args.source.now) (g.S.Source.reads c.turns.source) (g.S.Source.reads c.receive.new.self)
            i.gave c.in_default.ensures.untouched c.in_default.ensures.counts;
        registration = i.registration;
        source = c.in_default.ensures.origin ∙ i.source;
        sink = i.sink;
      };
    }

-- ---- the input has ended

pub returns-then-n-eq0 : goal.returns-then-n-eq0
returns-then-n-eq0 g c =
    let i = c.turns.invariant in
    let meets = g.C.MovingConversation.meets in
    let first = g.C.MovingConversation.told c.args.conversation.now in
    let so_far = whole_served meets i.served in
    let at = ahead i.served.sheets first.state in
    let over = run_over_input sheet_rules at (g.S.Source.left c.args.source.now) (g.S.Source.left c.turns.source)
    (g.S.Source.left c.receive.new.self) c.in-Ok.n c.receive.new.into i.takes c.in-Ok.ensures.bytes c.if-n-eq0.true so_far i.short in
    let takes = takes_at_end (g.S.Source.left c.args.source.now) (g.S.Source.left c.turns.source) (g.S.Source.left c.receive.new.self)
    i.taken c.in-Ok.n c.receive.new.into i.takes c.in-Ok.ensures.bytes c.if-n-eq0.true in
    record {
      sheets = i.served.sheets;
      taken = i.taken;
      calls = so_far.called;
      takes = takes;
      grown = so_far.grown;
      met = met_as meets _ _ _ _ (met_so_far meets i.served.met) i.served.grown so_far.grown;
      answered = ended_run sheet_rules at (Some i.taken) (Some []) (Some []) 0 [] (all_taken i.taken) none_given refl so_far i.short;
      serves = record {
        went = (
          so_far.called,
          so_far.grown,
          ended_run sheet_rules at (g.S.Source.left c.args.source.now) (g.S.Source.left c.turns.source) (g.S.Source.left c.receive.new.self)
              c.in-Ok.n c.receive.new.into i.takes c.in-Ok.ensures.bytes c.if-n-eq0.true so_far i.short,
        );
        cause = λ fits.
            end_counted c.in-Ok.n (g.S.Source.reads c.turns.source) (g.S.Source.reads c.receive.new.self)
            (questions_since (g.D.CancelDesk.told c.args.desk.now).calls (g.D.CancelDesk.told c.turns.desk).calls)
            (g.S.Source.reads c.args.source.now) c.turns.turns.spent c.turns.turns.limit c.args.turns.now.limit c.in-Ok.ensures.counts
            c.if-n-eq0.true (i.counted fits) (c.if-not-spend.ensures.left.0 refl) i.limit;
        last =
            ends_with_input sheet_rules at (g.S.Source.left c.args.source.now) (g.S.Source.left c.turns.source)
            (g.S.Source.left c.receive.new.self) c.in-Ok.n c.receive.new.into i.takes c.in-Ok.ensures.bytes c.if-n-eq0.true so_far i.short;
        taken = over;
        calm = record {
          read_faults = c.in-Ok.ensures.calm ∙ i.read_faults;
          write_faults = i.write_faults;
        };
        never_falls = record {
          read_faults = not_fallen _ _ (c.in-Ok.ensures.calm ∙ i.read_faults);
          write_faults = not_fallen _ _ i.write_faults;
        };
        reads = gave_more (g.S.Source.left c.args.source.now) (g.S.Source.left c.turns.source) (g.S.Source.left c.receive.new.self)
            (g.S.Source.reads c.args.source.now) (g.S.Source.reads c.turns.source) (g.S.Source.reads c.receive.new.self) c.in-Ok.n
            c.receive.new.into
            i.gave c.in-Ok.ensures.bytes c.in-Ok.ensures.counts;
        registration = i.registration;
        source = c.in-Ok.ensures.origin ∙ i.source;
        sink = i.sink;
      };
    }

-- ---- the conversation has ended

pub returns-in-Ok-Ended : goal.returns-in-Ok-Ended
returns-in-Ok-Ended g c =
    let i = c.turns.invariant in
    let meets = g.C.MovingConversation.meets in
    let first = g.C.MovingConversation.told c.args.conversation.now in
    let now = g.C.MovingConversation.told c.turns.conversation in
    let new = g.C.MovingConversation.told c.feed.new.self in
    let held = g.C.MovingConversation.rest c.turns.conversation in
    let rest = g.C.MovingConversation.rest c.feed.new.self in
    let piece = c.front_of.result.now in
    let a = g.K.Sink.written c.args.sink.now in
    let b = g.K.Sink.written c.turns.sink in
    let d = g.K.Sink.written c.feed.new.sink in
    let j = (g.D.CancelDesk.told c.args.desk.now).calls in
    let k = (g.D.CancelDesk.told c.turns.desk).calls in
    let l = (g.D.CancelDesk.told c.feed.new.desk).calls in
    let old_left = g.S.Source.left c.args.source.now in
    let left = g.S.Source.left c.receive.new.self in
    let took = subst (λ o. WasMetFed meets now.world new.world now.state new.state (held ++ piece) rest b d o k l (Ok c.in-Ok-Ended.field-0)) i.unsent
    c.in-Ok-Ended.ensures.fed in
    let met = piece_fed meets first.world now.world new.world first.state now.state new.state i.taken held piece rest a b d [] [] j k l
    i.served (Ok c.in-Ok-Ended.field-0) took in
    let fed = whole_fed meets met in
    let at = ahead met.sheets first.state in
    let takes = subst (λ p. TakesFrom old_left left (i.taken ++ p)) (sym c.front_of.ensures)
    (takes_more old_left (g.S.Source.left c.turns.source) left i.taken c.in-Ok.n c.receive.new.into i.takes c.in-Ok.ensures.bytes) in
    let over = questions_over j k l i.served.made took.made i.served.grown took.grown in
    let stands = subst (λ o. Stands awaits_ahead fed.0 (ahead [] new.state) rest o) c.in-Ok-Ended.field-0-is fed.2 in
    record {
      sheets = met.sheets;
      taken = i.taken ++ piece;
      calls = fed.1.called;
      takes = takes;
      grown = fed.1.grown;
      met = met_as meets _ _ _ _ (met_in meets first.world new.world first.state new.state (i.taken ++ piece) rest a d [] j l (Ok c.in-Ok-Ended.field-0) met) met.grown fed.1.grown;
      answered = served_run sheet_rules at (Some (i.taken ++ piece)) (Some []) c.in-Ok-Ended.kind (all_taken (i.taken ++ piece)) fed.1 stands.1;
      serves = record {
        went = (fed.1.called, fed.1.grown, served_run sheet_rules at old_left left c.in-Ok-Ended.kind takes fed.1 stands.1);
        cause = λ fits.
            let asked = questions_since k l in
            let below : c.turns.turns.spent < c.turns.turns.limit = c.if-not-spend.ensures.left.0 refl in
            let same_limit = i.limit in
            let below_limit : c.turns.turns.spent < c.args.turns.now.limit = omega (arith, below, same_limit) in
            let once = c.if-not-spend.ensures.spent in
            let kept_limit = c.if-not-spend.ensures.limit in
            let more = counted_more c.in-Ok.n (g.S.Source.reads c.turns.source) (g.S.Source.reads c.receive.new.self)
            (g.S.Source.reads c.args.source.now) (questions_since j k) c.turns.turns.spent c.args.turns.now.limit c.in-Ok.ensures.counts
            c.if-n-eq0.false (i.counted fits) below_limit fits in
            let none = no_end_turn c.in-Ok-Ended.kind stands.0 in
            let spent_is = ap (λ t. t.spent) c.in-Ok-Ended.ensures.causes.turns in
            let limit_is = ap (λ t. t.limit) c.in-Ok-Ended.ensures.causes.turns in
            let within = c.in-Ok-Ended.ensures.causes.bounded (omega (arith, once, kept_limit, below)) in
            omega (arith, more, over, none, spent_is, limit_is, within, once, kept_limit, same_limit);
        last =
            ends_at_last sheet_rules at old_left (g.S.Source.left c.turns.source) left c.in-Ok.n c.receive.new.into i.takes
            c.in-Ok.ensures.bytes c.if-n-eq0.false (served_before meets first.world now.world new.world first.state now.state new.state i.taken held piece rest a b d [] [] j k l i.served
            (Ok c.in-Ok-Ended.field-0) took) i.short c.in-Ok-Ended.kind;
        taken = run_over_taken sheet_rules at old_left left c.in-Ok-Ended.kind takes fed.1 (stands.1 []);
        calm = record {
          read_faults = c.in-Ok.ensures.calm ∙ i.read_faults;
          write_faults = c.in-Ok-Ended.ensures.causes.cause.calm ∙ i.write_faults;
        };
        never_falls = record {
          read_faults = not_fallen _ _ (c.in-Ok.ensures.calm ∙ i.read_faults);
          write_faults = not_fallen _ _ (c.in-Ok-Ended.ensures.causes.cause.calm ∙ i.write_faults);
        };
        reads = gave_more old_left (g.S.Source.left c.turns.source) left (g.S.Source.reads c.args.source.now)
            (g.S.Source.reads c.turns.source) (g.S.Source.reads c.receive.new.self) c.in-Ok.n c.receive.new.into i.gave
            c.in-Ok.ensures.bytes c.in-Ok.ensures.counts;
        registration = goes_on_then _ _ _ i.registration c.in-Ok-Ended.ensures.causes.registration;
        source = c.in-Ok.ensures.origin ∙ i.source;
        sink = c.in-Ok-Ended.ensures.causes.same ∙ i.sink;
      };
    }

-- ---- the conversation was given up

pub returns-in-Err : goal.returns-in-Err
returns-in-Err g c =
    let i = c.turns.invariant in
    let meets = g.C.MovingConversation.meets in
    let first = g.C.MovingConversation.told c.args.conversation.now in
    let now = g.C.MovingConversation.told c.turns.conversation in
    let new = g.C.MovingConversation.told c.feed.new.self in
    let held = g.C.MovingConversation.rest c.turns.conversation in
    let rest = g.C.MovingConversation.rest c.feed.new.self in
    let piece = c.front_of.result.now in
    let a = g.K.Sink.written c.args.sink.now in
    let b = g.K.Sink.written c.turns.sink in
    let d = g.K.Sink.written c.feed.new.sink in
    let j = (g.D.CancelDesk.told c.args.desk.now).calls in
    let k = (g.D.CancelDesk.told c.turns.desk).calls in
    let l = (g.D.CancelDesk.told c.feed.new.desk).calls in
    let old_left = g.S.Source.left c.args.source.now in
    let left = g.S.Source.left c.receive.new.self in
    let took = subst (λ o. WasMetFed meets now.world new.world now.state new.state (held ++ piece) rest b d o k l (Err c.in-Err.error)) i.unsent
    c.in-Err.ensures.fed in
    let met = piece_fed meets first.world now.world new.world first.state now.state new.state i.taken held piece rest a b d [] [] j k l
    i.served (Err c.in-Err.error) took in
    let fed = whole_fed meets met in
    let at = ahead met.sheets first.state in
    let takes = subst (λ p. TakesFrom old_left left (i.taken ++ p)) (sym c.front_of.ensures)
    (takes_more old_left (g.S.Source.left c.turns.source) left i.taken c.in-Ok.n c.receive.new.into i.takes c.in-Ok.ensures.bytes) in
    let over = questions_over j k l i.served.made took.made i.served.grown took.grown in
    let cut = cut_by_error sheet_rules at (i.taken ++ piece) (ahead [] new.state) rest a d [] j l c.in-Err.error fed in
    record {
      sheets = met.sheets;
      taken = i.taken ++ piece;
      calls = cut.made;
      takes = takes;
      grown = cut.grown;
      met = met_as meets _ _ _ _ (met_in meets first.world new.world first.state new.state (i.taken ++ piece) rest a d [] j l (Err c.in-Err.error) met) met.grown cut.grown;
      answered =
          went_by_error sheet_rules at c.in-Err.error (Some (i.taken ++ piece)) (Some []) a d cut.made
          (λ q. c.in-Err.ensures.causes.cause.no_read_fault (ap Err q))
          (cut_run_of_taken sheet_rules at (Some (i.taken ++ piece)) (Some []) (all_taken (i.taken ++ piece)) cut)
          (λ q.
          let stopped = subst (λ e. WasFed sheet_rules at (i.taken ++ piece) (ahead [] new.state) rest a d [] j l (Err e)) q fed in
          subst (λ made. IsStoppedRunOfTaken sheet_rules at (Some (i.taken ++ piece)) (Some []) a d made)
          (append_cancel_left j stopped.made cut.made (sym stopped.grown ∙ cut.grown))
          (stopped_run_of_taken sheet_rules at (Some (i.taken ++ piece)) (Some []) (all_taken (i.taken ++ piece)) stopped));
      serves = record {
        went = (
          cut.made,
          cut.grown,
          went_by_error sheet_rules at c.in-Err.error old_left left a d cut.made (λ q. c.in-Err.ensures.causes.cause.no_read_fault (ap Err q))
              (cut_run_of_taken sheet_rules at old_left left takes cut)
              (λ q.
              let stopped = subst (λ e. WasFed sheet_rules at (i.taken ++ piece) (ahead [] new.state) rest a d [] j l (Err e)) q fed in
              subst (λ made. IsStoppedRunOfTaken sheet_rules at old_left left a d made)
              (append_cancel_left j stopped.made cut.made (sym stopped.grown ∙ cut.grown))
              (stopped_run_of_taken sheet_rules at old_left left takes stopped)),
        );
        cause =
            let asked = questions_since k l in
            let below : c.turns.turns.spent < c.turns.turns.limit = c.if-not-spend.ensures.left.0 refl in
            let same_limit = i.limit in
            let below_limit : c.turns.turns.spent < c.args.turns.now.limit = omega (arith, below, same_limit) in
            let once = c.if-not-spend.ensures.spent in
            let kept_limit = c.if-not-spend.ensures.limit in
            caused_by c.in-Err.error c.args.turns.now.limit (questions_since j l)
            (counts_of g.S.Source.reads g.S.Source.faults g.K.Sink.faults c.args.source.now c.args.sink.now)
            (counts_of g.S.Source.reads g.S.Source.faults g.K.Sink.faults c.receive.new.self c.feed.new.sink)
            (λ q. c.in-Err.ensures.causes.cause.no_read_fault (ap Err q))
            (λ q. risen_since (g.K.Sink.faults c.args.sink.now) (g.K.Sink.faults c.turns.sink) (g.K.Sink.faults c.feed.new.sink)
            (let same = i.write_faults in omega (arith, same)) c.in-Err.ensures.causes.cause.never_falls
            (c.in-Err.ensures.causes.cause.write_fault (ap Err q)))
            (λ q fits.
            let more = counted_more c.in-Ok.n (g.S.Source.reads c.turns.source) (g.S.Source.reads c.receive.new.self)
            (g.S.Source.reads c.args.source.now) (questions_since j k) c.turns.turns.spent c.args.turns.now.limit c.in-Ok.ensures.counts
            c.if-n-eq0.false (i.counted fits) below_limit fits in
            let spent = subst (λ e. HasFed {A = Progress} c.spend.new.self c.feed.new.turns asked (Err e)) q c.in-Err.ensures.causes.turns in
            let all = all_spent c.spend.new.self c.feed.new.turns asked spent c.in-Err.ensures.causes.bounded (omega (arith, once, kept_limit, below)) in
            omega (arith, more, over, all, once, kept_limit, same_limit));
        last = tt;
        taken = tt;
        calm = tt;
        never_falls = record {
          read_faults = not_fallen _ _ (c.in-Ok.ensures.calm ∙ i.read_faults);
          write_faults = fallen_not _ _ _ i.write_faults c.in-Err.ensures.causes.cause.never_falls;
        };
        reads = gave_more old_left (g.S.Source.left c.turns.source) left (g.S.Source.reads c.args.source.now)
            (g.S.Source.reads c.turns.source) (g.S.Source.reads c.receive.new.self) c.in-Ok.n c.receive.new.into i.gave
            c.in-Ok.ensures.bytes c.in-Ok.ensures.counts;
        registration = goes_on_then _ _ _ i.registration c.in-Err.ensures.causes.registration;
        source = c.in-Ok.ensures.origin ∙ i.source;
        sink = c.in-Err.ensures.causes.same ∙ i.sink;
      };
    }
